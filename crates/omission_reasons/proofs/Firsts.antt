-- The first place of a kind after another, found in a list of places.
use Rattle.std.proofs.Common.{◌≡◌, ℕ, ◌+◌, ◌<◌, ◌≤◌, Bool, true, List, length}
use Rattle.std.proofs.Common.{Some, get_or, sym, subst, ap, ◌∙◌, arith, ◌⊎◌, inl, inr}
use Rattle.std.specs.Prelude.{reverse}
use Rattle.std.specs.List.{slice_get}
use Rattle.std.proofs.lemmas.Bool.{cases_lt}
use Rattle.std.proofs.lemmas.Option.{same_Some, slice_get-get_or}
use Rattle.run_events.specs.declared.event.Event.{Event}
use Rattle.step_book.specs.Places.{IsFirstAfter}
use Rattle.step_book.proofs.Moments.{At, at_longer, at_within, place_at}
use Rattle.omission_reasons.specs.Listing.{places_where}
use Rattle.omission_reasons.proofs.Listed.{listed_found, listed_less, listed_read}

-- the events at the places of a kind pass a test
abbrev pub Passes : (Event → Bool) → List Event → (ℕ → Type 0) → Type 0
Passes q t Is = (p : ℕ) → Is p → (e : Event) × (slice_get (reverse t) p ≡ Some e) × (q e ≡ true)

-- none of the first c places of a list is of the kind and after another
abbrev pub NoneOf : List ℕ → (ℕ → Type 0) → ℕ → ℕ → Type 0
NoneOf places Is after c =
    (k p : ℕ) → k < c → slice_get places k ≡ Some p → after < p → Is p → ⊥

-- a place of the kind stands in the list
record Stands (q : Event → Bool) (t : List Event) (p : ℕ) : Type 0 where
  moment : List Event
  event : Event
  stands : At moment event t
  passes : q event ≡ true
  place : length moment ≡ p
  there : slice_get (places_where q t) (length (places_where q moment)) ≡ Some p

module _ (q : Event → Bool) (t : List Event) (Is : ℕ → Type 0) (passes : Passes q t Is) where
  stands_at : (p : ℕ) → Is p → Stands q t p
  stands_at p is =
      let x = passes p is in
      let y = place_at x.0 t p x.1 in
      record {
        moment = y.0;
        event = x.0;
        stands = y.1;
        passes = x.2;
        place = y.2;
        there = listed_found q y.0 x.0 t y.1 x.2 ∙ ap Some y.2;
      }

  -- the first place of the list that is of the kind is the first of the kind
  pub first_of_list : (after c p : ℕ) → NoneOf (places_where q t) Is after c
      → slice_get (places_where q t) c ≡ Some p → after < p → Is p → IsFirstAfter Is after p
  first_of_list after c p none there late is = record {
    later = late;
    there = is;
    none = λ k low high own. earlier k low high own;
  }
    where
      earlier : (k : ℕ) → after < k → k < p → Is k → ⊥
      earlier k low high own =
          let s = stands_at k own in
          let l = listed_read q t c p there in
          let e = s.place in
          let f = l.place in
          let n = l.number in
          let within : At s.moment s.event l.moment =
          at_within l.moment l.event s.moment s.event t l.stands s.stands (omega arith) in
          let less = listed_less q s.moment s.event l.moment within s.passes in
          none (length (places_where q s.moment)) k (omega arith) s.there low own

  -- if none of the list is, there is none
  pub none_of_list : (after c : ℕ) → NoneOf (places_where q t) Is after c
      → length (places_where q t) ≤ c → (k : ℕ) → after < k → Is k → ⊥
  none_of_list after c none all k low own =
      let s = stands_at k own in
      let less = listed_less q s.moment s.event t s.stands s.passes in
      none (length (places_where q s.moment)) k (omega arith) s.there low own

-- a place of a list is one of its trace
pub within_trace : (q : Event → Bool) (t : List Event) (c p : ℕ)
    → slice_get (places_where q t) c ≡ Some p → p < length t
within_trace q t c p h =
    let l = listed_read q t c p h in
    let e = l.place in
    let long = at_longer l.moment l.event t l.stands in
    omega arith

pub none_first : (places : List ℕ) (Is : ℕ → Type 0) (after : ℕ) → NoneOf places Is after 0
none_first places Is after k p l = absurd (omega arith)

none_next_by : (places : List ℕ) (Is : ℕ → Type 0) (after c x : ℕ) → NoneOf places Is after c
    → slice_get places c ≡ Some x → (after < x → Is x → ⊥) → (k p : ℕ) → k < c + 1
    → (k < c) ⊎ (c ≤ k) → slice_get places k ≡ Some p → after < p → Is p → ⊥
none_next_by places Is after c x none there off k p l (inl low) h late is = none k p low h late is
none_next_by places Is after c x none there off k p l (inr high) h late is =
    let same : c ≡ k = omega arith in
    let one : x ≡ p = same_Some x p (sym there ∙ ap (slice_get places) same ∙ h) in
    off (subst (λ z. after < z) (sym one) late) (subst Is (sym one) is)

pub none_next : (places : List ℕ) (Is : ℕ → Type 0) (after c x : ℕ) → NoneOf places Is after c
    → slice_get places c ≡ Some x → (after < x → Is x → ⊥) → NoneOf places Is after (c + 1)
none_next places Is after c x none there off k p l h late is =
    none_next_by places Is after c x none there off k p l (cases_lt k c) h late is

-- ---- as a loop over the list goes

module _ (q : Event → Bool) (t : List Event) (Is : ℕ → Type 0) (passes : Passes q t Is)
    (places : List ℕ) (listed : places ≡ places_where q t) (after c : ℕ)
    (none : NoneOf places Is after c) where
  none_here : NoneOf (places_where q t) Is after c
  none_here = subst (λ z. NoneOf z Is after c) listed none

  pub first_found : (d : ℕ) → c < length places → after < get_or places c d
      → Is (get_or places c d) → IsFirstAfter Is after (get_or places c d)
  first_found d l late is = first_of_list q t Is passes after c (get_or places c d) none_here
      (sym (ap (λ z. slice_get z c) listed) ∙ slice_get-get_or places c d l) late is

  pub none_found : length places ≤ c → (k : ℕ) → after < k → Is k → ⊥
  none_found all = none_of_list q t Is passes after c none_here
      (let n = ap length listed in omega arith)

pub none_more : (places : List ℕ) (Is : ℕ → Type 0) (after c d : ℕ) → NoneOf places Is after c
    → c < length places → (after < get_or places c d → Is (get_or places c d) → ⊥)
    → NoneOf places Is after (c + 1)
none_more places Is after c d none l off = none_next places Is after c (get_or places c d) none
    (slice_get-get_or places c d l) off
