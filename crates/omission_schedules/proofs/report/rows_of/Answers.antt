use Rattle.std.proofs.Common.{◌∙◌, ap, map, sym, subst}
use Rattle.std.specs.Prelude.{All, slice_index}
use Rattle.std.proofs.lemmas.List.Elements.{All-nil}
use Rattle.omission_explainer.specs.Reported.{place}
use Rattle.round_meaning.specs.Rounds.{algorithm_of}
use Rattle.round_meaning.proofs.RoundLaws.{states_after_none}
use Rattle.omission_schedules.specs.Reports.{IsRowUnder}
use Rattle.omission_schedules.specs.Stages.{omits_under}
use Rattle.omission_schedules.proofs.Listing.{listed_round}
use Rattle.omission_schedules.proofs.report.rows_of.Goals as goal

pub loop-done-init : goal.loop-done-init
loop-done-init g c =
    let start = g.P.Plan.start c.args.run.now.plan in
    let stops = slice_index c.args.run.now.stops.now in
    let a = algorithm_of c.args.run.now.program.now c.args.run.now.setup.now in
    let omits = omits_under start c.args.run.now.stops.now c.args.run.now.omissions.now in
    let shown = IsRowUnder c.args.run.now.program.now a start stops omits in
    record {
      states = c.in_ok-states.ensures ∙ states_after_none a omits;
      listed = ap (map place) c.new-rows.ensures.items;
      rowed = subst (All shown) (sym c.new-rows.ensures.items) (All-nil shown);
    }

pub loop-done-preserved : goal.loop-done-preserved
loop-done-preserved g c =
    let start = g.P.Plan.start c.args.run.now.plan in
    let stops = slice_index c.args.run.now.stops.now in
    let before = c.loop-done.invariant in
    let made = c.in_ok-next.ensures in
    record {
      states = made.next;
      listed = listed_round start stops c.args.run.now.setup.now.nodes c.loop-done.done
          c.loop-done.rows.items c.next_states.new.rows.items made.listed before.listed;
      rowed = made.rowed before.rowed;
    }
