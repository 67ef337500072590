use Rattle.std.proofs.Common.{◌∙◌, ap, sym}
use Rattle.std.specs.List.{slice_get}
use Rattle.step_book.proofs.Starts.{plan_is}
use Rattle.omission_reasons.proofs.Telling.{reason_by, released_gone, waiting_past, waiting_still}
use Rattle.omission_reasons.proofs.reasoning.reason_of_released.Goals as goal

pub departure-requires-clause-gone : goal.departure-requires-clause-gone
departure-requires-clause-gone g c =
    released_gone (g.P.Plan.start c.args.book.now.plan) c.args.book.now.log c.args.name
    c.args.count c.requires.released

pub returns-in-None : goal.returns-in-None
returns-in-None g c =
    waiting_past (g.P.Plan.start c.args.book.now.plan) c.args.book.now.log c.args.name
    c.args.count c.in_ok-released.released c.requires.released c.in_ok-released.ensures
    c.in-None.ensures

pub returns-in-None-step_place : goal.returns-in-None-step_place
returns-in-None-step_place g c =
    let n = c.args.name in
    let step = c.in-Some.receive.step in
    waiting_still (g.P.Plan.start c.args.book.now.plan) c.args.book.now.log n c.args.count
    c.in_ok-released.released c.in-Some.receive c.requires.released c.in_ok-released.ensures
    c.in-Some.ensures
    (sym (ap (λ xs. slice_get xs step) (c.requires.index.steps n.to)) ∙ sym c.step_place.ensures
    ∙ c.in-None-step_place.is)

pub returns-in-Some-step_place : goal.returns-in-Some-step_place
returns-in-Some-step_place g c =
    let v = c.args.book.now.log in
    let p = c.args.book.now.plan in
    let n = c.args.name in
    let step = c.in-Some.receive.step in
    reason_by (g.P.Plan.start p) v n c.requires.name
    (plan_is (g.P.Plan.start p) (g.P.Plan.receives p) (g.P.Plan.nodes p) v (g.met.P.Plan.laws p)
    c.agrees.ensures.sized) c.requires.omitted c.args.count c.in_ok-released.released
    c.in-Some-step_place.received c.in-Some.receive c.requires.released c.in_ok-released.ensures
    c.in-Some.ensures
    (sym (ap (λ xs. slice_get xs step) (c.requires.index.steps n.to)) ∙ sym c.step_place.ensures
    ∙ c.in-Some-step_place.is) c.reason_in.result c.reason_in.ensures.late c.reason_in.ensures.early
