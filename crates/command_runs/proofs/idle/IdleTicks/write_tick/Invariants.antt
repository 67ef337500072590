use Rattle.std.specs.Io.KnownBytes.{Appends}
use Rattle.command_runs.specs.IdleTexts.{events_text}
use Rattle.command_runs.proofs.idle.IdleTicks.write_tick.Given as goal
use Rattle.lockstep_runs.specs.Changes.{timing_by}
use Rattle.lockstep_runs.specs.IdleTicks.{turn_steps}

abbrev pub invariant-loop-turn : goal.invariant-loop-turn
invariant-loop-turn g l =
    Appends (g.W.Write.contents l.initial.out) (g.W.Write.contents l.out)
    (events_text (turn_steps (timing_by l.self.bounded.now l.self.changes l.self.correct.bits)
    l.self.nodes l.tick l.turn))
