-- Events that a run hasn't, and the parts of a list of events.
use Rattle.std.proofs.Common.{◌≡◌, ℕ, ◌+◌, ◌-◌, ◌<◌, ◌≤◌, ◌⊎◌, inl, inr, All, List, [], ◌∷◌, ◌++◌}
use Rattle.std.proofs.Common.{length, get_or, arith, refl, append_assoc, sym, subst, ◌∙◌}
use Rattle.std.proofs.Math.Seq.{get_or-append_seam}
use Rattle.std.proofs.lemmas.Bool.{cases_lt}
use Rattle.std.proofs.lemmas.List.{
  get_or_append_left,
  get_or-append-add,
  get_or-append_right,
  get_or_default,
  length-append,
}
use Rattle.round_meaning.specs.declared.setup.Setup.{Setup}
use Rattle.round_meaning.specs.Setups.{IsSetup}
use Rattle.step_book.proofs.Names.{storable_name}
use Rattle.run_events.specs.declared.event.Event.{Event}
use Rattle.run_events.specs.declared.event.Event.TheVariants.{Step, Release, Drop, Copy}
use Rattle.run_events.specs.Stored.{AreLate, IsStorable}
use Rattle.adversary.specs.Driving.{
  IsFaultOf,
  IsFirstAt,
  IsKnown,
  IsOfMessage,
  IsStep,
  IsUnknownAt,
  IsUnknownPast,
}
use Rattle.adversary.specs.declared.fault.RunFault.{RunFault}
use Rattle.adversary.specs.declared.fault.RunFault.TheVariants as fault

-- what is so of an event is so of what stands at its place
stands : (P : Event → Type 0) (events : List Event) (k : ℕ) (e : Event) → k < length events
    → e ≡ get_or events k e → P e → (d : Event) → P (get_or events k d)
stands P events k e within is h d = subst P (is ∙ get_or_default events k e d within) h

-- the first event that isn't known has its fault
pub unknown_is : (s : Setup) (events : List Event) (k : ℕ) (e : Event) (f : RunFault)
    → k < length events → e ≡ get_or events k e → ¬ IsKnown s e
    → ((j : ℕ) (d : Event) → j < k → IsKnown s (get_or events j d)) → IsFaultOf e k f
    → IsUnknownAt s events f
unknown_is s events k (Step i) f within is strange before cause =
    subst (IsUnknownAt s events) (sym cause) (
      (within, stands (λ e. ¬ IsKnown s e) events k (Step i) within is strange, before),
      stands IsStep events k (Step i) within is tt,
    )
unknown_is s events k (Release n) f within is strange before cause =
    subst (IsUnknownAt s events) (sym cause) (
      (within, stands (λ e. ¬ IsKnown s e) events k (Release n) within is strange, before),
      stands IsOfMessage events k (Release n) within is tt,
    )
unknown_is s events k (Drop n) f within is strange before cause =
    subst (IsUnknownAt s events) (sym cause) (
      (within, stands (λ e. ¬ IsKnown s e) events k (Drop n) within is strange, before),
      stands IsOfMessage events k (Drop n) within is tt,
    )
unknown_is s events k (Copy n) f within is strange before cause =
    subst (IsUnknownAt s events) (sym cause) (
      (within, stands (λ e. ¬ IsKnown s e) events k (Copy n) within is strange, before),
      stands IsOfMessage events k (Copy n) within is tt,
    )

-- the numbers of a known event are small enough to be stored
storable_event : (s : Setup) → IsSetup s → (e : Event) → IsKnown s e → IsStorable e
storable_event s h (Step i) known = let few = h.few_nodes in omega (arith, known)
storable_event s h (Release n) known = storable_name s h n known
storable_event s h (Drop n) known = storable_name s h n known
storable_event s h (Copy n) known = storable_name s h n known.0

-- the first unknown event of the first part is that of the whole
first_left : (s : Setup) (stored whole : List Event) (k : ℕ) → IsFirstAt s stored k
    → IsFirstAt s (stored ++ whole) k
first_left s stored whole k h = (
  omega (arith, h.0, length-append stored whole),
  λ d known. h.1 d (subst (IsKnown s) (get_or_append_left stored whole d k h.0) known),
  λ j d l. subst (IsKnown s) (sym (get_or_append_left stored whole d j (omega (arith, l, h.0))))
      (h.2 j d l),
)

pub unknown_left : (s : Setup) (stored whole : List Event) (f : RunFault) → IsUnknownAt s stored f
    → IsUnknownAt s (stored ++ whole) f
unknown_left s stored whole (fault.UnknownNode k) h = (
  first_left s stored whole k h.0,
  λ d. subst IsStep (sym (get_or_append_left stored whole d k h.0.0)) (h.1 d),
)
unknown_left s stored whole (fault.UnknownMessage k) h = (
  first_left s stored whole k h.0,
  λ d. subst IsOfMessage (sym (get_or_append_left stored whole d k h.0.0)) (h.1 d),
)
unknown_left s stored whole fault.BadSetup h = absurd h
unknown_left s stored whole fault.NoMemory h = absurd h
unknown_left s stored whole fault.NoThread h = absurd h
unknown_left s stored whole fault.Unmatched h = absurd h

-- if all before it are known, the first unknown event of what follows is that of the whole
known_past : (s : Setup) (before events : List Event) (k : ℕ) → All (IsKnown s) before
    → ((j : ℕ) (d : Event) → j < k → IsKnown s (get_or events j d))
    → (j : ℕ) (d : Event) → j < length before + k → IsKnown s (get_or (before ++ events) j d)
known_past s before events k known first j d l = at (cases_lt j (length before))
  where
    at : (j < length before) ⊎ (length before ≤ j) → IsKnown s (get_or (before ++ events) j d)
    at (inl m) = subst (IsKnown s) (sym (get_or_append_left before events d j m)) (known j d m)
    at (inr m) =
        subst (IsKnown s) (sym (get_or-append_right before events (length before) j d refl m))
        (first (j - length before) d (omega (arith, l, m)))

pub unknown_past : (s : Setup) (n : ℕ) (events : List Event) (k : ℕ) (e : Event) (f : RunFault)
    → k < length events → e ≡ get_or events k e → ¬ IsKnown s e
    → ((j : ℕ) (d : Event) → j < k → IsKnown s (get_or events j d)) → IsFaultOf e (n + k) f
    → IsUnknownPast s n events f
unknown_past s n events k e f within is strange first cause before sized known =
    let at : IsFaultOf e (length before + k) f =
    subst (λ m. IsFaultOf e (m + k) f) (sym sized) cause in
    unknown_is s (before ++ events) (length before + k) e f
    (omega (arith, within, length-append before events))
    (is ∙ sym (get_or-append-add before events k e)) strange
    (known_past s before events k known first) at

-- so it is where others follow
pub unknown_begins : (s : Setup) (n : ℕ) (stored whole : List Event) (f : RunFault)
    → IsUnknownPast s n stored f → IsUnknownPast s n (stored ++ whole) f
unknown_begins s n stored whole f h before sized known =
    subst (λ es. IsUnknownAt s es f) (append_assoc before stored whole)
    (unknown_left s (before ++ stored) whole f (h before sized known))

-- an event whose numbers are too large is unknown
pub unknown_late : (s : Setup) (n m : ℕ) (stored whole : List Event) (e : Event) (f : RunFault)
    → IsSetup s → AreLate whole → 0 < length whole → e ≡ get_or whole 0 e
    → m ≡ n + length stored → All (IsKnown s) stored → IsFaultOf e m f
    → IsUnknownPast s n (stored ++ whole) f
unknown_late s n m stored [] e f h late some is counted known cause = absurd (omega (arith, some))
unknown_late s n m stored (x ∷ es) e f h late some is counted known cause =
    let at : IsFaultOf e (n + length stored) f = subst (λ k. IsFaultOf e k f) counted cause in
    unknown_past s n (stored ++ x ∷ es) (length stored) e f
    (omega (arith, length-append stored (x ∷ es)))
    (is ∙ sym (get_or-append_seam stored x es e))
    (λ known. late (subst IsStorable is (storable_event s h e known)))
    (λ j d l. subst (IsKnown s) (sym (get_or_append_left stored (x ∷ es) d j l)) (known j d l)) at

-- and there is none at all
pub known_whole : (s : Setup) (stored whole : List Event) → length whole ≡ 0
    → All (IsKnown s) stored → All (IsKnown s) (stored ++ whole)
known_whole s stored [] none known =
    λ k d l. subst (IsKnown s)
    (sym (get_or_append_left stored [] d k (omega (arith, l, length-append stored []))))
    (known k d (omega (arith, l, length-append stored [])))
known_whole s stored (e ∷ es) none known = absurd (omega (arith, none))
