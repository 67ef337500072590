use Rattle.std.proofs.Common.{◌≡◌, map}
use Rattle.std.specs.Prelude.{All, slice_index}
use Rattle.omission_explainer.specs.Reported.{place}
use Rattle.round_meaning.specs.Rounds.{algorithm_of}
use Rattle.round_meaning.specs.States.{states_after}
use Rattle.omission_schedules.specs.Reports.{IsRowUnder, ended_rounds}
use Rattle.omission_schedules.specs.Stages.{omits_under}
use Rattle.omission_schedules.proofs.report.rows_of.Given as goal

abbrev pub invariant-loop-done : goal.invariant-loop-done
invariant-loop-done g l =
    let start = g.P.Plan.start l.run.plan in
    let stops = slice_index l.run.stops.now in
    let a = algorithm_of l.run.program.now l.run.setup.now in
    let omits = omits_under start l.run.stops.now l.run.omissions.now in
    record {
      states : l.states.items ≡ states_after a omits l.done;
      listed : map place l.rows.items ≡ ended_rounds start stops l.run.setup.now.nodes l.done;
      rowed : All (IsRowUnder l.run.program.now a start stops omits) l.rows.items;
    }
