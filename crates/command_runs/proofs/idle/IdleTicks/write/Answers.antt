use Rattle.std.proofs.Common.{arith, refl, subst}
use Rattle.std.specs.Io.KnownBytes.{Appends}
use Rattle.command_runs.specs.IdleTexts.{events_text}
use Rattle.command_runs.proofs.IdleTexts.{first_tick, next_tick}
use Rattle.command_runs.proofs.idle.IdleTicks.write.Goals as goal
use Rattle.lockstep_runs.specs.Changes.{timing_by}
use Rattle.lockstep_runs.specs.IdleTicks.{idle_steps}

pub loop-tick-init : goal.loop-tick-init
loop-tick-init g c =
    let t = c.args.self.now in
    first_tick (timing_by t.bounded.now t.changes t.correct.bits) t.nodes t.first t.first
    (g.W.Write.contents c.args.out.now) refl

pub loop-tick-preserved : goal.loop-tick-preserved
loop-tick-preserved g c =
    let t = c.args.self.now in
    let out = g.W.Write.contents in
    next_tick (timing_by t.bounded.now t.changes t.correct.bits) t.nodes t.first c.loop-tick.tick
    (out c.args.out.now) (out c.loop-tick.out) (out c.write_tick.new.out)
    (let low = c.loop-tick.auto.tick in omega arith) c.loop-tick.invariant
    c.in_ok-write_tick.ensures

pub returns : goal.returns
returns g c =
    let t = c.args.self.now in
    let out = g.W.Write.contents in
    subst (λ n. Appends (out c.args.out.now) (out c.loop-tick.out)
    (events_text (idle_steps (timing_by t.bounded.now t.changes t.correct.bits) t.nodes t.first n)))
    (omega (
      arith,
      c.requires.ordered,
      c.loop-tick-test.false,
      c.loop-tick.auto.tick,
      c.loop-tick.auto.tick-end,
    ))
    c.loop-tick.invariant
