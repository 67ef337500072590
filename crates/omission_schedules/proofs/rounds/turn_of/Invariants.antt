use Rattle.std.proofs.Common.{◌-◌}
use Rattle.std.specs.Prelude.{slice_index}
use Rattle.round_meaning.specs.Rounds.{algorithm_of, rounds}
use Rattle.omission_schedules.specs.Schedules.{has_slot}
use Rattle.omission_schedules.specs.Stages.{omits_under}
use Rattle.omission_schedules.proofs.Turns.{Gathered}
use Rattle.omission_schedules.proofs.rounds.turn_of.Given as goal

abbrev pub invariant-loop-from : goal.invariant-loop-from
invariant-loop-from g l =
    let start = g.P.Plan.start l.run.plan in
    let a = algorithm_of l.run.program.now l.run.setup.now in
    let omits = omits_under start l.run.stops.now l.run.omissions.now in
    Gathered a (omits l.node l.round) (rounds a omits (l.round - 1))
    (has_slot start (slice_index l.run.stops.now) l.round l.node) l.round l.node l.from
    l.inbox.items l.heard.bits l.silent.bits l.omitted.bits
