-- How a loop over the senders gathers what comes to a node in a round.
use Rattle.std.proofs.Common.{◌≡◌, ℕ, ◌+◌, ◌-◌, ◌<◌, ◌≤◌, Bool, true, false, cond, List, [], ◌∷◌}
use Rattle.std.proofs.Common.{◌++◌, Option, Some, None, refl, sym, ap, ◌∙◌, subst, arith}
use Rattle.std.specs.Prelude.{◌&&◌, is_some, not}
use Rattle.std.specs.List.{filter_map, range_with_len}
use Rattle.omission_explainer.specs.Printed.{is_heard, is_silent}
use Rattle.omission_explainer.proofs.Outcomes.{added}
use Rattle.omission_schedules.specs.Stages.{outcome_of}
use Rattle.omission_schedules.specs.declared.rounds.Outcome.TheVariants.{Heard, Omitted, Silent}
use Rattle.round_lang.specs.Sets.{only, set_of, union}
use Rattle.round_lang.proofs.SetLaws.{set_of-kept}
use Rattle.round_lang.specs.declared.value.Value.{Value}
use Rattle.round_meaning.proofs.Lists.{filter_map_push, filter_map_skip}
use Rattle.round_meaning.proofs.RoundLaws.{rounds_more, state_in-states_after}
use Rattle.round_meaning.specs.Rounds.{Algorithm, heard, inbox, received, rounds}
use Rattle.round_meaning.specs.States.{state_in, states_after}
use Rattle.round_meaning.specs.declared.received.Received.{Received}

-- ---- what each outcome says

heard_is : (omitted stood : Bool) (f : Option (List Value)) (m : List Value)
    → Heard m ≡ outcome_of omitted stood f → (omitted ≡ false) × (f ≡ Some m)
heard_is true true None m h = cc
heard_is true false None m h = cc
heard_is false true None m h = cc
heard_is false false None m h = cc
heard_is true stood (Some n) m h = cc
heard_is false stood (Some n) m h = let e : n ≡ m = cc in (refl, ap Some e)

silent_is : (omitted stood : Bool) (f : Option (List Value))
    → Silent ≡ outcome_of omitted stood f → (stood ≡ true) × (f ≡ None)
silent_is omitted true None h = (refl, refl)
silent_is omitted false None h = cc
silent_is true stood (Some n) h = cc
silent_is false stood (Some n) h = cc

-- neither heard nor silent
neither_is : (omitted stood : Bool) (f : Option (List Value))
    → Omitted ≡ outcome_of omitted stood f
    → ((not omitted && is_some f) ≡ false) × ((stood && not (is_some f)) ≡ false)
neither_is omitted true None h = cc
neither_is true false None h = (refl, refl)
neither_is false false None h = (refl, refl)
neither_is true true (Some n) h = (refl, refl)
neither_is true false (Some n) h = (refl, refl)
neither_is false stood (Some n) h = cc

-- ---- sets

no_set : (p : ℕ → Bool) → 0 ≡ set_of 0 p
unfolding set_of
no_set p = refl

-- the senders below n, separated by two tests
pub record Sorted (h s : ℕ → Bool) (n x y z : ℕ) : Type 0 where
  pub heard : x ≡ set_of n h
  pub silent : y ≡ set_of n s
  pub omitted : z ≡ set_of n (λ j. not (h j) && not (s j))

sorted_none : (h s : ℕ → Bool) (x y z : ℕ) → x ≡ 0 → y ≡ 0 → z ≡ 0 → Sorted h s 0 x y z
sorted_none h s x y z ex ey ez = record {
  heard = ex ∙ no_set _;
  silent = ey ∙ no_set _;
  omitted = ez ∙ no_set _;
}

module _ {h s : ℕ → Bool} {k x y z : ℕ} (x2 y2 z2 : ℕ) (few : k < 64)
    (before : Sorted h s k x y z) where
  abbrev neither : ℕ → Bool
  neither j = not (h j) && not (s j)

  sorted_heard : h k ≡ true → s k ≡ false → x2 ≡ union x (only 64 k) → y2 ≡ y → z2 ≡ z
      → Sorted h s (k + 1) x2 y2 z2
  sorted_heard is isnt ex ey ez = record {
    heard = ex ∙ added k x h few is before.heard;
    silent = ey ∙ set_of-kept k y s isnt before.silent;
    omitted = ez ∙ set_of-kept k z neither (ap (λ b. not b && not (s k)) is) before.omitted;
  }

  sorted_silent : h k ≡ false → s k ≡ true → x2 ≡ x → y2 ≡ union y (only 64 k) → z2 ≡ z
      → Sorted h s (k + 1) x2 y2 z2
  sorted_silent isnt is ex ey ez = record {
    heard = ex ∙ set_of-kept k x h isnt before.heard;
    silent = ey ∙ added k y s few is before.silent;
    omitted = ez ∙ set_of-kept k z neither (ap (λ b. not b && not (s k)) isnt ∙ ap not is)
        before.omitted;
  }

  sorted_omitted : h k ≡ false → s k ≡ false → x2 ≡ x → y2 ≡ y → z2 ≡ union z (only 64 k)
      → Sorted h s (k + 1) x2 y2 z2
  sorted_omitted one two ex ey ez = record {
    heard = ex ∙ set_of-kept k x h one before.heard;
    silent = ey ∙ set_of-kept k y s two before.silent;
    omitted = ez ∙ added k z neither few (ap (λ b. not b && not (s k)) one ∙ ap not two)
        before.omitted;
  }

-- ---- what comes to a node in a round

-- what a node says to node i in a round
abbrev pub said : Algorithm → (ℕ → List Value) → ℕ → ℕ → ℕ → Option (List Value)
said a states r i j = a.send r (states j) j i

abbrev pub hears : Algorithm → (ℕ → Bool) → (ℕ → List Value) → ℕ → ℕ → ℕ → Bool
hears a omitted states r i j =
    is_heard (λ k. not (omitted k)) (λ k. is_some (said a states r i k)) j

abbrev pub quiet : Algorithm → (ℕ → List Value) → (ℕ → Bool) → ℕ → ℕ → ℕ → Bool
quiet a states stood r i j = is_silent (λ k. is_some (said a states r i k)) stood j

-- what the senders below n have brought
pub record Gathered (a : Algorithm) (omitted : ℕ → Bool) (states : ℕ → List Value)
    (stood : ℕ → Bool) (r i n : ℕ)
    (messages : List Received) (x y z : ℕ) : Type 0 where
  pub inbox : messages ≡ filter_map (heard a omitted states r i) (range_with_len 0 n)
  pub sorted : n ≤ 64 → Sorted (hears a omitted states r i) (quiet a states stood r i) n x y z

-- nothing is left of what was brought
nothing : (j : ℕ) (b : Bool) (m : Option (List Value)) → (not b && is_some m) ≡ false
    → cond b None (received j m) ≡ None
nothing j true m h = refl
nothing j false None h = refl
nothing j false (Some m) h = cc

module _ (a : Algorithm) (omitted : ℕ → Bool) (states : ℕ → List Value) (stood : ℕ → Bool)
    (r i : ℕ) where
  pub gathered_none : (messages : List Received) (x y z : ℕ) → messages ≡ [] → x ≡ 0 → y ≡ 0 → z ≡ 0
      → Gathered a omitted states stood r i 0 messages x y z
  gathered_none messages x y z e ex ey ez = record {
    inbox = e;
    sorted = λ few. sorted_none (hears a omitted states r i) (quiet a states stood r i) x y z ex ey
        ez;
  }

  module _ (k x y z : ℕ) (before messages : List Received) (x2 y2 z2 : ℕ)
      (brought : Gathered a omitted states stood r i k before x y z) (few : k < 64) where
    sorted_so_far : Sorted (hears a omitted states r i) (quiet a states stood r i) k x y z
    sorted_so_far = brought.sorted (omega arith)

    pub gathered_heard : (m : List Value)
        → Heard m ≡ outcome_of (omitted k) (stood k) (said a states r i k)
        → messages ≡ before ++ record { from = k; message = m } ∷ []
        → x2 ≡ union x (only 64 k) → y2 ≡ y → z2 ≡ z
        → Gathered a omitted states stood r i (k + 1) messages x2 y2 z2
    gathered_heard m is em ex ey ez =
        let two = heard_is (omitted k) (stood k) (said a states r i k) m is in
        let here : heard a omitted states r i k ≡ Some (record { from = k; message = m }) =
        ap (λ b. cond b None (received k (said a states r i k))) two.0 ∙ ap (received k) two.1 in
        let hear : hears a omitted states r i k ≡ true =
        ap (λ b. not b && is_some (said a states r i k)) two.0 ∙ ap is_some two.1 in
        let loud : quiet a states stood r i k ≡ false =
        ap (λ o. stood k && not (is_some o)) two.1 ∙ never (stood k) in
        record {
          inbox = filter_map_push (heard a omitted states r i) before messages k _ brought.inbox
              here em;
          sorted = λ _. sorted_heard x2 y2 z2 few sorted_so_far hear loud ex ey ez;
        }
      where
        never : (b : Bool) → (b && not true) ≡ false
        never true = refl
        never false = refl

    pub gathered_silent : Silent ≡ outcome_of (omitted k) (stood k) (said a states r i k)
        → messages ≡ before
        → x2 ≡ x → y2 ≡ union y (only 64 k) → z2 ≡ z
        → Gathered a omitted states stood r i (k + 1) messages x2 y2 z2
    gathered_silent is em ex ey ez =
        let two = silent_is (omitted k) (stood k) (said a states r i k) is in
        let deaf : hears a omitted states r i k ≡ false =
        ap (λ o. not (omitted k) && is_some o) two.1 ∙ never (not (omitted k)) in
        let hush : quiet a states stood r i k ≡ true =
        ap (λ b. b && not (is_some (said a states r i k))) two.0
        ∙ ap (λ o. not (is_some o)) two.1 in
        record {
          inbox = filter_map_skip (heard a omitted states r i) messages k (em ∙ brought.inbox)
              (nothing k (omitted k) (said a states r i k) deaf);
          sorted = λ _. sorted_silent x2 y2 z2 few sorted_so_far deaf hush ex ey ez;
        }
      where
        never : (b : Bool) → (b && false) ≡ false
        never true = refl
        never false = refl

    pub gathered_omitted : Omitted ≡ outcome_of (omitted k) (stood k) (said a states r i k)
        → messages ≡ before
        → x2 ≡ x → y2 ≡ y → z2 ≡ union z (only 64 k)
        → Gathered a omitted states stood r i (k + 1) messages x2 y2 z2
    gathered_omitted is em ex ey ez =
        let two = neither_is (omitted k) (stood k) (said a states r i k) is in
        record {
          inbox = filter_map_skip (heard a omitted states r i) messages k (em ∙ brought.inbox)
              (nothing k (omitted k) (said a states r i k) two.0);
          sorted = λ _. sorted_omitted x2 y2 z2 few sorted_so_far two.0 two.1 ex ey ez;
        }

  -- and all of them
  pub all_gathered : (n : ℕ) (messages : List Received) (x y z : ℕ) → n ≡ a.nodes
      → Gathered a omitted states stood r i n messages x y z → messages ≡ inbox a omitted states r i
  unfolding inbox
  all_gathered n messages x y z e g =
      g.inbox ∙ ap (λ k. filter_map (heard a omitted states r i) (range_with_len 0 k)) e

  pub all_sorted : (n k : ℕ) (messages : List Received) (x y z : ℕ) → k ≡ n → n ≤ 64
      → Gathered a omitted states stood r i k messages x y z
      → Sorted (hears a omitted states r i) (quiet a states stood r i) n x y z
  all_sorted n k messages x y z e few g =
      subst (λ m. Sorted (hears a omitted states r i) (quiet a states stood r i) m x y z) e
      (g.sorted (omega (arith, e)))

-- ---- states by round

-- the state of a node among those after the rounds before
pub state_before : (a : Algorithm) (omits : ℕ → ℕ → ℕ → Bool) (q i : ℕ) (states : List (List Value))
    → states ≡ states_after a omits q → i < a.nodes → state_in states i ≡ rounds a omits q i
state_before a omits q i states e l = ap (λ x. state_in x i) e ∙ state_in-states_after a omits q i l

-- and how it goes on
pub ended_round : (a : Algorithm) (omits : ℕ → ℕ → ℕ → Bool) (r i : ℕ) → 1 ≤ r
    → a.end r i (inbox a (omits i r) (rounds a omits (r - 1)) r i) (rounds a omits (r - 1) i) ≡
    rounds a omits r i
ended_round a omits r i first =
    let e : (r - 1) + 1 ≡ r = omega arith in
    subst (λ k. a.end k i (inbox a (omits i k) (rounds a omits (r - 1)) k i)
    (rounds a omits (r - 1) i) ≡ rounds a omits k i) e
    (sym (rounds_more a omits (r - 1) i))
