use Rattle.std.proofs.Common.{◌≡◌, ◌∙◌, ap, arith, get_or, subst, sym}
use Rattle.std.proofs.lemmas.Bool.{both_ways}
use Rattle.round_meaning.specs.declared.setup.Setup.{Setup}
use Rattle.step_book.specs.Log.{history}
use Rattle.omission_reasons.specs.Departures.{IsSoughtAt}
use Rattle.omission_reasons.specs.Listing.{has_number, number_of, places_where}
use Rattle.omission_reasons.proofs.Firsts.{first_found, none_found, none_more}
use Rattle.omission_reasons.proofs.Seeking.{sought_passes}
use Rattle.omission_reasons.proofs.departure.first_after.Goals as goal
use Rattle.omission_reasons.proofs.departure.first_after.Goals.{
  else-after-place-via-then-after-place+else-is_sought_at,
  else-after-place-via-else-after-place,
}

pub returns-then-is_sought_at : goal.returns-then-is_sought_at
returns-then-is_sought_at g c =
    let v = c.args.book.now.log in
    let n = c.args.name in
    let q = has_number v.setup.nodes (number_of v.setup.nodes n) in
    let items = c.of_message-place-items.result.now in
    let listed : items ≡ places_where q (history v) = c.of_message-place-items.ensures
    ∙ c.requires.index.events (number_of c.setup.result.now.nodes n)
    ∙ ap (λ (u : Setup). places_where (has_number v.setup.nodes (number_of u.nodes n)) (history v))
    c.setup.ensures.value in
    let sought : IsSoughtAt c.args.sought v.trace n (get_or items c.loop-place.place-index 0) =
    subst (λ z. IsSoughtAt c.args.sought z n (get_or items c.loop-place.place-index 0))
    c.trace-trace.ensures.value (c.is_sought_at.ensures.0 c.if-is_sought_at.true) in
    first_found q (history v) (IsSoughtAt c.args.sought v.trace n)
    (sought_passes c.args.sought v.trace v.setup.nodes n) items listed c.args.after
    c.loop-place.place-index c.loop-place.invariant 0 c.loop-place-test.true c.if-after-place.true
    sought

pub loop-place-preserved : goal.loop-place-preserved
loop-place-preserved g c =
    let v = c.args.book.now.log in
    let n = c.args.name in
    let items = c.of_message-place-items.result.now in
    none_more items (IsSoughtAt c.args.sought v.trace n) c.args.after c.loop-place.place-index 0
    c.loop-place.invariant c.loop-place-test.true
    (λ late is. elim c.else-after-place.branch [
      | else-after-place-via-then-after-place+else-is_sought_at w ↦
          both_ways w.is_sought_at.result w.if-is_sought_at.false
          (w.is_sought_at.ensures.1
          (subst (λ z. IsSoughtAt c.args.sought z n (get_or items c.loop-place.place-index 0))
          (sym c.trace-trace.ensures.value) is))
      | else-after-place-via-else-after-place w ↦
          absurd (let low = w.if-after-place.false in omega arith)
    ])

pub returns : goal.returns
returns g c =
    let v = c.args.book.now.log in
    let n = c.args.name in
    let q = has_number v.setup.nodes (number_of v.setup.nodes n) in
    let items = c.of_message-place-items.result.now in
    let listed : items ≡ places_where q (history v) = c.of_message-place-items.ensures
    ∙ c.requires.index.events (number_of c.setup.result.now.nodes n)
    ∙ ap (λ (u : Setup). places_where (has_number v.setup.nodes (number_of u.nodes n)) (history v))
    c.setup.ensures.value in
    none_found q (history v) (IsSoughtAt c.args.sought v.trace n)
    (sought_passes c.args.sought v.trace v.setup.nodes n) items listed c.args.after
    c.loop-place.place-index c.loop-place.invariant c.loop-place-test.false
