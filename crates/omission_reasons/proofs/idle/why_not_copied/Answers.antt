use Rattle.std.proofs.Common.{subst}
use Rattle.std.proofs.lemmas.Bool.{both_ways}
use Rattle.run_events.specs.Names.{original}
use Rattle.step_book.specs.Log.{world_of}
use Rattle.step_book.specs.Places.{IsMadeAt}
use Rattle.omission_reasons.proofs.Idling.{absent_by, copying_blocks, late_same, loud_spoken}
use Rattle.omission_reasons.proofs.Idling.{made_told, marked_made, not_copied}
use Rattle.omission_reasons.proofs.idle.why_not_copied.Goals as goal

pub returns-then-is_unsent : goal.returns-then-is_unsent
returns-then-is_unsent g c =
    let start = g.P.Plan.start c.args.book.now.plan in
    let v = c.args.book.now.log in
    let n = c.args.name in
    let place = c.args.place in
    not_copied start v n place c.absence.result
    (absent_by start v (original n) c.leaving.result place place c.absence.result
    c.leaving.ensures
    (copying_blocks start v n place c.requires.other
    (λ e. both_ways c.is_silent.result c.if-is_silent.false (c.is_silent.ensures.1 e))
    (c.is_unsent.ensures.0 c.if-is_unsent.true) c.requires.event) c.absence.ensures.none
    c.absence.ensures.gone c.absence.ensures.early (late_same c.leaving.result place))

pub making-requires-clause-made : goal.making-requires-clause-made
making-requires-clause-made g c =
    marked_made (g.P.Plan.start c.args.book.now.plan) c.args.book.now.log c.args.name
    (λ e. both_ways c.is_unsent.result c.if-is_unsent.false (c.is_unsent.ensures.1 e))

pub returns-then-made-place : goal.returns-then-made-place
returns-then-made-place g c =
    let start = g.P.Plan.start c.args.book.now.plan in
    let v = c.args.book.now.log in
    let n = c.args.name in
    let at : IsMadeAt (world_of start v) v.trace n c.args.place =
    subst (IsMadeAt (world_of start v) v.trace n) c.if-made-place.true c.in_ok-made.ensures in
    record {
      made = at;
      message = loud_spoken start v n
          (λ e. both_ways c.is_silent.result c.if-is_silent.false (c.is_silent.ensures.1 e))
          c.args.place at;
    }

pub returns : goal.returns
returns g c =
    made_told (g.P.Plan.start c.args.book.now.plan) c.args.book.now.log c.args.name
    c.in_ok-made.made c.args.place c.made_by.result c.requires.other c.in_ok-made.ensures
    c.requires.event c.if-made-place.false c.made_by.ensures.made c.made_by.ensures.early
