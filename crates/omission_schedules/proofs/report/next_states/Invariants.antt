use Rattle.std.proofs.Common.{◌≡◌, ◌++◌, map}
use Rattle.std.specs.Prelude.{All, slice_index}
use Rattle.std.specs.List.{range_with_len}
use Rattle.omission_explainer.specs.Reported.{place}
use Rattle.round_meaning.specs.Rounds.{algorithm_of, rounds}
use Rattle.omission_schedules.specs.Reports.{IsRowUnder, ended_below}
use Rattle.omission_schedules.specs.Stages.{omits_under}
use Rattle.omission_schedules.proofs.report.next_states.Given as goal

abbrev pub invariant-loop-node : goal.invariant-loop-node
invariant-loop-node g l =
    let start = g.P.Plan.start l.run.plan in
    let stops = slice_index l.run.stops.now in
    let a = algorithm_of l.run.program.now l.run.setup.now in
    let omits = omits_under start l.run.stops.now l.run.omissions.now in
    let shown = IsRowUnder l.run.program.now a start stops omits in
    record {
      next : l.next.items ≡ map (rounds a omits l.round) (range_with_len 0 l.node);
      listed : map place l.rows.items ≡ map place l.fn.rows.items ++ ended_below start stops l.node
          l.round;
      rowed : All shown l.fn.rows.items → All shown l.rows.items;
    }
