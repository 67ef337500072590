-- What is received of the senders in turn is an inbox.
use Rattle.std.proofs.Common.{◌≡◌, ℕ, zero, suc, ◌+◌, ◌≤◌, Bool, true, false, if◌then◌else◌, List}
use Rattle.std.proofs.Common.{[], ◌∷◌, Option, Some, None, refl, sym, ap, subst, arith}
use Rattle.std.specs.List.{cons_option, filter_map, range_with_len}
use Rattle.std.specs.Option.{ForSome}
use Rattle.round_lang.specs.declared.value.Value.{Value}
use Rattle.round_meaning.specs.declared.received.Received.{Received}
use Rattle.round_meaning.specs.Rounds.{Algorithm, heard, inbox, received}
use Rattle.round_meaning.specs.Turn.{IsInbox, RiseFrom}

-- what rises from a number on rises from a lower one on
rise_lower : (low high : ℕ) (ms : List Received) → low ≤ high → RiseFrom high ms → RiseFrom low ms
rise_lower low high [] l h = tt
rise_lower low high (m ∷ ms) l h = (let b = h.0 in omega arith, h.1)

rise_next : (low : ℕ) (o : Option Received) (ms : List Received) → ForSome o (λ m. m.from ≡ low)
    → RiseFrom (low + 1) ms → RiseFrom low (cons_option o ms)
rise_next low None ms from h = rise_lower low (low + 1) ms (omega arith) h
rise_next low (Some m) ms from h =
    let is : m.from ≡ low = from m refl in
    (omega arith, subst (λ x. RiseFrom (x + 1) ms) (sym is) h)

rise_by : (f : ℕ → Option Received) → ((j : ℕ) → ForSome (f j) (λ m. m.from ≡ j)) → (low n : ℕ)
    → RiseFrom low (filter_map f (range_with_len low n))
rise_by f from low zero = tt
rise_by f from low (suc n) = rise_next low (f low) (filter_map f (range_with_len (low + 1) n))
    (from low) (rise_by f from (low + 1) n)

-- the messages of each sender in turn, where it has one
pub is_inbox : (f : ℕ → Option Received) → ((j : ℕ) → ForSome (f j) (λ m. m.from ≡ j)) → (n : ℕ)
    → IsInbox (filter_map f (range_with_len 0 n))
is_inbox f from n = rise_by f from 0 n

abbrev sender_of : ℕ → Option Received → ℕ
sender_of d None = d
sender_of d (Some m) = m.from

heard_from : (a : Algorithm) (omitted : ℕ → Bool) (states : ℕ → List Value) (r i j : ℕ)
    → ForSome (heard a omitted states r i j) (λ m. m.from ≡ j)
heard_from a omitted states r i j = by (omitted j) (a.send r (states j) j i)
  where
    by : (b : Bool) (o : Option (List Value))
        → ForSome (if b then None else received j o) (λ m. m.from ≡ j)
    by true o m is = absurd cc
    by false None m is = absurd cc
    by false (Some x) m is = sym (ap (λ (o : Option Received). sender_of j o) is)

-- what a node gets in a round is an inbox
pub inbox_is : (a : Algorithm) (omitted : ℕ → Bool) (states : ℕ → List Value) (r i : ℕ)
    → IsInbox (inbox a omitted states r i)
unfolding inbox
inbox_is a omitted states r i = is_inbox (heard a omitted states r i)
    (heard_from a omitted states r i) a.nodes
