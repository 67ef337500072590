use Rattle.std.proofs.Common.{◌+◌, subst, sym}
use Rattle.std.specs.Io.KnownBytes.{Appends}
use Rattle.command_runs.specs.IdleTexts.{events_text}
use Rattle.command_runs.proofs.IdleTexts.{first_turn, next_turn, no_step, one_step}
use Rattle.command_runs.proofs.idle.IdleTicks.write_tick.Goals as goal
use Rattle.command_runs.proofs.idle.IdleTicks.write_tick.Goals.{in-Some+in_ok-write_step}
use Rattle.command_runs.proofs.idle.IdleTicks.write_tick.Goals.{in_default}
use Rattle.lockstep_runs.specs.Changes.{timing_by}
use Rattle.lockstep_runs.specs.IdleTicks.{step_list, turn_steps}

pub loop-turn-init : goal.loop-turn-init
loop-turn-init g c =
    let t = c.args.self.now in
    first_turn (timing_by t.bounded.now t.changes t.correct.bits) t.nodes c.args.tick
    (g.W.Write.contents c.args.out.now)

pub loop-turn-preserved : goal.loop-turn-preserved
loop-turn-preserved g c =
    let t = c.args.self.now in
    let b = timing_by t.bounded.now t.changes t.correct.bits in
    let out = g.W.Write.contents in
    let old = c.loop-turn.out in
    let turn = c.loop-turn.turn in
    elim c.match-step_of.branch [
      | in-Some+in_ok-write_step w ↦
          subst (λ new. Appends (out c.args.out.now) (out new)
          (events_text (turn_steps b t.nodes c.args.tick (turn + 1)))) (sym w.out-is)
          (next_turn b t.nodes c.args.tick turn c.step_of.result (out c.args.out.now) (out old)
          (out w.write_step.new.out) c.step_of.ensures.step c.loop-turn.invariant
          (subst (λ o. Appends (out old) (out w.write_step.new.out) (events_text (step_list o)))
          (sym w.in-Some.is)
          (one_step w.in-Some.node (out old) (out w.write_step.new.out)
          w.in_ok-write_step.ensures)))
      | in_default w ↦
          subst (λ new. Appends (out c.args.out.now) (out new)
          (events_text (turn_steps b t.nodes c.args.tick (turn + 1)))) (sym w.out-is)
          (next_turn b t.nodes c.args.tick turn c.step_of.result (out c.args.out.now) (out old)
          (out old) c.step_of.ensures.step c.loop-turn.invariant
          (subst (λ o. Appends (out old) (out old) (events_text (step_list o)))
          (sym w.in_default.is) (no_step (out old))))
    ]
