-- Copies of one message that follow each other in what is in flight.
use Rattle.std.proofs.Common.{
  ◌≡◌,
  ℕ,
  ◌+◌,
  ◌<◌,
  ◌≤◌,
  ◌⊎◌,
  ◌∙◌,
  List,
  Option,
  Some,
  ap,
  arith,
  get_or,
  inl,
  inr,
  length,
  slice_get,
  subst,
  sym,
}
use Rattle.std.specs.Prelude.{IfSome}
use Rattle.std.proofs.lemmas.Bool.{cases_lt}
use Rattle.std.proofs.lemmas.Option.{same_Some, slice_get-get_or}
use Rattle.run_events.specs.declared.in_flight.InFlight.{InFlight}
use Rattle.node_threads.specs.Flights.{AreCopies, IsCopyAt}

-- where nothing is in flight
abbrev pub nothing : InFlight
nothing = record {
  name = record { from = 0; to = 0; round = 0; copy = 0 };
  sent_at = 0;
  serial = 0;
}

pub copy_there : (ms : List InFlight) (serial k : ℕ) → k < length ms
    → (get_or ms k nothing).serial ≡ serial → IsCopyAt ms serial k
copy_there ms serial k l same = (get_or ms k nothing, slice_get-get_or ms k nothing l, same)

-- the entry behind the copies is one more
pub more_copies : (ms : List InFlight) (serial first end : ℕ)
    → ((place : ℕ) → first ≤ place → place < end → IsCopyAt ms serial place)
    → end < length ms → (get_or ms end nothing).serial ≡ serial → (place : ℕ) → first ≤ place
    → place < end + 1 → IsCopyAt ms serial place
more_copies ms serial first end before l same place begun past = elim (cases_lt place end) [
  | inl less ↦ before place begun less
  | inr not_less ↦ let here : end ≡ place = omega arith in
      subst (IsCopyAt ms serial) here (copy_there ms serial end l same)
]

-- the entry behind the copies is none
pub no_copy : (ms : List InFlight) (serial end : ℕ) → ((get_or ms end nothing).serial ≡ serial → ⊥)
    → end < length ms → IsCopyAt ms serial end → ⊥
no_copy ms serial end other l copy =
    let at : Some copy.0 ≡ Some (get_or ms end nothing) = sym copy.1
    ∙ slice_get-get_or ms end nothing l in
    other (ap (λ (m : InFlight). m.serial) (sym (same_Some _ _ at)) ∙ copy.2)

-- all copies of the message at place k
pub all_copies : (ms : List InFlight) (k end : ℕ) → k < length ms → k < end → end ≤ length ms
    → ((place : ℕ) → k ≤ place → place < end → IsCopyAt ms (get_or ms k nothing).serial place)
    → (end ≡ length ms) ⊎ (IsCopyAt ms (get_or ms k nothing).serial end → ⊥)
    → IfSome (slice_get ms k) (λ message. AreCopies ms message.serial k end)
all_copies ms k end l some known same last =
    subst (λ (o : Option InFlight). IfSome o (λ message. AreCopies ms message.serial k end))
    (sym (slice_get-get_or ms k nothing l))
    (record { some = some; known = known; same = same; last = last })
