use Rattle.std.proofs.Common.{◌≡◌, ◌∙◌, ◌+◌, ap, sym, arith}
use Rattle.std.specs.List.{slice_get}
use Rattle.step_book.specs.Log.{history, world_of}
use Rattle.step_book.specs.Places.{IsSlotAt, Sent}
use Rattle.step_book.specs.Trace.{is_step}
use Rattle.omission_explainer.proofs.Slots.{sends_small}
use Rattle.omission_reasons.specs.Listing.{places_where}
use Rattle.omission_reasons.proofs.Departing.{copied_at, slot_of}
use Rattle.omission_reasons.proofs.Listed.{step_there}
use Rattle.omission_reasons.proofs.Times.{step_placed, steps_all}
use Rattle.omission_reasons.proofs.departure.making.Goals as goal

pub overflow_add-step : goal.overflow_add-step
overflow_add-step g c =
    let v = c.args.book.now.log in
    let p = c.args.book.now.plan in
    let n = c.args.name in
    let few = c.agrees.ensures.lawful.sized.few_rounds in
    let small = sends_small (g.P.Plan.start p) (g.P.Plan.receives p) (g.P.Plan.nodes p) v
    (g.met.P.Plan.laws p) c.agrees.ensures.sized few n.round c.requires.name.first
    (let last = c.requires.name.last in omega arith) in
    let start : c.start.result ≡ g.P.Plan.start p n.round = c.start.ensures
    ∙ ap (λ x. g.P.Plan.start x n.round) c.plan.ensures.value in
    omega (arith, small, start, c.requires.name.to, c.agrees.ensures.sized)

pub returns-in_err-slot : goal.returns-in_err-slot
returns-in_err-slot g c =
    let v = c.args.book.now.log in
    let p = c.args.book.now.plan in
    let n = c.args.name in
    let w = world_of (g.P.Plan.start p) v in
    let at : c.from.result ≡ g.P.Plan.start p n.round + n.to = c.from.ensures
    ∙ ap (λ x. x + n.to) (c.start.ensures ∙ ap (λ x. g.P.Plan.start x n.round) c.plan.ensures.value) in
    let found : c.step_place.result
    ≡ slice_get (places_where (is_step n.from) (history v)) (g.P.Plan.start p n.round + n.to) =
    c.step_place.ensures ∙ ap (λ xs. slice_get xs c.from.result) (c.requires.index.steps n.from)
    ∙ ap (slice_get (places_where (is_step n.from) (history v))) at in
    let slot = slot_of w v.trace n c.requires.made.place c.requires.made.made in
    let taken = steps_all v.trace n.from slot.place slot.slot.there in
    absurd (step_there n.from (history v) (g.P.Plan.start p n.round + n.to)
    (let number = slot.slot.number in omega arith) (sym found ∙ c.in_err-slot.was))

pub returns-then-name-eq0 : goal.returns-then-name-eq0
returns-then-name-eq0 g c =
    let v = c.args.book.now.log in
    let p = c.args.book.now.plan in
    let n = c.args.name in
    let at : c.from.result ≡ g.P.Plan.start p n.round + n.to = c.from.ensures
    ∙ ap (λ x. x + n.to) (c.start.ensures ∙ ap (λ x. g.P.Plan.start x n.round) c.plan.ensures.value) in
    let found : c.step_place.result
    ≡ slice_get (places_where (is_step n.from) (history v)) (g.P.Plan.start p n.round + n.to) =
    c.step_place.ensures ∙ ap (λ xs. slice_get xs c.from.result) (c.requires.index.steps n.from)
    ∙ ap (slice_get (places_where (is_step n.from) (history v))) at in
    Sent c.if-name-eq0.true (step_placed v.trace n.from (g.P.Plan.start p n.round + n.to)
    c.in_ok-slot.slot (sym found ∙ c.in_ok-slot.was))

pub returns : goal.returns
returns g c =
    let v = c.args.book.now.log in
    let p = c.args.book.now.plan in
    let n = c.args.name in
    let w = world_of (g.P.Plan.start p) v in
    let at : c.from.result ≡ g.P.Plan.start p n.round + n.to = c.from.ensures
    ∙ ap (λ x. x + n.to) (c.start.ensures ∙ ap (λ x. g.P.Plan.start x n.round) c.plan.ensures.value) in
    let found : c.step_place.result
    ≡ slice_get (places_where (is_step n.from) (history v)) (g.P.Plan.start p n.round + n.to) =
    c.step_place.ensures ∙ ap (λ xs. slice_get xs c.from.result) (c.requires.index.steps n.from)
    ∙ ap (slice_get (places_where (is_step n.from) (history v))) at in
    let slot : IsSlotAt w v.trace n c.in_ok-slot.slot =
    step_placed v.trace n.from (g.P.Plan.start p n.round + n.to) c.in_ok-slot.slot (sym found
    ∙ c.in_ok-slot.was) in
    copied_at w v.trace n c.requires.made.place c.in_ok-slot.slot c.first_after.result
    (let other = c.if-name-eq0.false in omega arith) c.requires.made.made slot
    c.first_after.ensures
