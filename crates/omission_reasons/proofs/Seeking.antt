-- The events of a copy that are sought, by the number of its message.
use Rattle.std.proofs.Common.{◌≡◌, ℕ, List, None, Some, refl, sym, ap, ◌∙◌, ◌↔◌}
use Rattle.std.proofs.Common.{◌⊎◌, inl, inr}
use Rattle.std.specs.Prelude.{reverse}
use Rattle.std.specs.List.{slice_get}
use Rattle.std.proofs.lemmas.Bool.{eq-eqb}
use Rattle.std.proofs.lemmas.List.{reverse-reverse}
use Rattle.std.proofs.lemmas.Option.{same_Some}
use Rattle.run_events.specs.declared.event.Event.{Event}
use Rattle.run_events.specs.declared.event.Event.TheVariants.{Release, Drop, Copy}
use Rattle.run_events.specs.declared.name.Name.{Name}
use Rattle.omission_reasons.specs.Departures.{IsSought, IsSoughtAt}
use Rattle.omission_reasons.specs.Listing.{has_number, number_of}
use Rattle.omission_reasons.specs.declared.departure.Sought.{Sought}
use Rattle.omission_reasons.specs.declared.departure.Sought.TheVariants.{Copying, Leaving}
use Rattle.omission_reasons.proofs.Firsts.{Passes}

-- each of them has its message's number
pub sought_passes : (sought : Sought) (trace : List Event) (nodes : ℕ) (n : Name)
    → Passes (has_number nodes (number_of nodes n)) (reverse trace) (IsSoughtAt sought trace n)
sought_passes Copying trace nodes n p is = (
  Copy n,
  ap (λ z. slice_get z p) (reverse-reverse trace) ∙ is,
  eq-eqb _ _ refl,
)
sought_passes Leaving trace nodes n p (inl is) = (
  Release n,
  ap (λ z. slice_get z p) (reverse-reverse trace) ∙ is,
  eq-eqb _ _ refl,
)
sought_passes Leaving trace nodes n p (inr is) = (
  Drop n,
  ap (λ z. slice_get z p) (reverse-reverse trace) ∙ is,
  eq-eqb _ _ refl,
)

there : (trace : List Event) (p : ℕ) (e d : Event) → slice_get trace p ≡ Some e
    → slice_get trace p ≡ Some d → e ≡ d
there trace p e d h g = same_Some e d (sym h ∙ g)

-- what stands at a place is sought if the event is
pub sought_here : (sought : Sought) (trace : List Event) (n : Name) (p : ℕ) (e : Event)
    → slice_get trace p ≡ Some e → IsSought sought n e ↔ IsSoughtAt sought trace n p
sought_here Copying trace n p e h = (λ is. h ∙ ap Some is, λ at. there trace p e (Copy n) h at)
sought_here Leaving trace n p e h = (λ is. to is, λ at. from at)
  where
    to : (e ≡ Release n) ⊎ (e ≡ Drop n)
        → (slice_get trace p ≡ Some (Release n)) ⊎ (slice_get trace p ≡ Some (Drop n))
    to (inl is) = inl (h ∙ ap Some is)
    to (inr is) = inr (h ∙ ap Some is)

    from : (slice_get trace p ≡ Some (Release n)) ⊎ (slice_get trace p ≡ Some (Drop n))
        → (e ≡ Release n) ⊎ (e ≡ Drop n)
    from (inl at) = inl (there trace p e (Release n) h at)
    from (inr at) = inr (there trace p e (Drop n) h at)

-- past the trace nothing is
pub nothing_sought : (sought : Sought) (trace : List Event) (n : Name) (p : ℕ)
    → slice_get trace p ≡ None → IsSoughtAt sought trace n p → ⊥
nothing_sought Copying trace n p h at = cc
nothing_sought Leaving trace n p h (inl at) = cc
nothing_sought Leaving trace n p h (inr at) = cc
