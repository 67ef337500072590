use Rattle.std.proofs.Common.{◌-◌}
use Rattle.std.specs.Io.KnownBytes.{Appends}
use Rattle.command_runs.specs.IdleTexts.{events_text}
use Rattle.command_runs.proofs.idle.IdleTicks.write.Given as goal
use Rattle.lockstep_runs.specs.Changes.{timing_by}
use Rattle.lockstep_runs.specs.IdleTicks.{idle_steps}

abbrev pub invariant-loop-tick : goal.invariant-loop-tick
invariant-loop-tick g l =
    Appends (g.W.Write.contents l.initial.out) (g.W.Write.contents l.out)
    (events_text (idle_steps (timing_by l.self.bounded.now l.self.changes l.self.correct.bits)
    l.self.nodes l.self.first (l.tick - l.self.first)))
