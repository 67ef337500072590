-- The schedule of an omission test realises it.
use Rattle.std.proofs.Common.{◌≡◌, ℕ, zero, suc, ◌+◌, ◌-◌, ◌<◌, ◌≤◌, ◌==◌, Bool, true, false, not}
use Rattle.std.proofs.Common.{◌&&◌}
use Rattle.std.proofs.Common.{◌||◌, List, [], ◌∷◌, ◌++◌, None, Some, sym, subst, refl, ap, ◌∙◌}
use Rattle.std.proofs.Common.{arith, append_assoc}
use Rattle.std.proofs.Common.{◌⊎◌, inl, inr, if◌then◌else◌}
use Rattle.std.specs.Prelude.{min, nat_le, replicate, reverse}
use Rattle.std.specs.List.{filter_map, list_any, range_with_len}
use Rattle.std.proofs.lemmas.Bool.{and_parts, and_from, cases_lt, eq-eqb, eqb-true, or_cases}
use Rattle.std.proofs.lemmas.Bool.{le-leb, lt-leb, ne_eqb, leb-false, not-false, or_from, or_left}
use Rattle.std.proofs.lemmas.Bool.{or_parts, or_right}
use Rattle.std.proofs.lemmas.List.{reverse-append, reverse-reverse}
use Rattle.std.proofs.lemmas.List.Folds.{list_any-append}
use Rattle.slot_plans.specs.Plan.{PlanLaws}
use Rattle.run_events.specs.declared.event.Event.{Event}
use Rattle.run_events.specs.declared.event.Event.TheVariants.{Step, Release}
use Rattle.run_events.specs.declared.name.Name.{Name}
use Rattle.step_book.specs.Fates.{carried, fate, taken_near}
use Rattle.round_lang.specs.declared.value.Value.{Value}
use Rattle.round_meaning.specs.Rounds.{Algorithm, inbox, received, rounds}
use Rattle.omission_explainer.proofs.Parts.{filter_map_same}
use Rattle.step_book.specs.History.{omits_of, state}
use Rattle.round_meaning.proofs.RoundLaws.{rounds_same}
use Rattle.step_book.specs.Places.{IsCarried}
use Rattle.step_book.specs.Trace.{is_drop, is_name, is_release, steps}
use Rattle.step_book.specs.World.{IsPlan, World, nodes_of}
use Rattle.step_book.proofs.Fates.{carried_sent, let_in, near_is, some_none, some_of, unmade_before}
use Rattle.step_book.proofs.Placed.{carried_found, carried_place}
use Rattle.step_book.proofs.Plans.{lies_within, start_le, starts_early}
use Rattle.omission_schedules.specs.Laws.{EachTableHasARun, EachTableHasASchedule}
use Rattle.omission_schedules.specs.Laws.{EachNodeStops, EachTableHasASchedulePlaced}
use Rattle.omission_schedules.specs.Laws.{EachTableHasAScheduleWithStops}
use Rattle.omission_schedules.specs.Laws.{EachRunHasAnOrder, EachTableHasARunWithStops}
use Rattle.omission_schedules.specs.Laws.{EachTableHasAScheduleWithStopsPlaced, RunsAreRunsInRounds}
use Rattle.omission_schedules.specs.Schedules.{all_step, each_below, schedule_of, release_of}
use Rattle.omission_schedules.specs.Schedules.{releases}
use Rattle.omission_schedules.specs.Schedules.{round_events, schedule_with_stops, until, with_stops}
use Rattle.omission_schedules.proofs.Each.{each_more, each_none}
use Rattle.omission_schedules.proofs.Histories.{any_reverse, let_at, none_near, none_released}
use Rattle.omission_schedules.proofs.Histories.{released, some_near, stays, took, took_append}

-- ---- steps

took_none : (i : ℕ) → took i [] ≡ 0
unfolding steps
took_none i = refl

took_one : (i j : ℕ) → took i (Step j ∷ []) ≡ (if j == i then suc zero else zero)
unfolding steps
took_one i j = refl

took_again_by : (i j k : ℕ) (b : Bool) → (j == i) ≡ b
    → took i (replicate k (Step j)) ≡ (if b then k else zero)
took_again_by i j zero true h = took_none i
took_again_by i j zero false h = took_none i
took_again_by i j (suc k) true h =
    let a = took_append i (Step j ∷ []) (replicate k (Step j)) in
    let one : took i (Step j ∷ []) ≡ 1 =
    took_one i j ∙ ap (λ (b : Bool). if b then suc zero else zero) h in
    let ih : took i (replicate k (Step j)) ≡ k = took_again_by i j k true h in
    omega arith
took_again_by i j (suc k) false h =
    let a = took_append i (Step j ∷ []) (replicate k (Step j)) in
    let one : took i (Step j ∷ []) ≡ 0 =
    took_one i j ∙ ap (λ (b : Bool). if b then suc zero else zero) h in
    let ih : took i (replicate k (Step j)) ≡ 0 = took_again_by i j k false h in
    omega arith

took_again : (i j k : ℕ) → took i (replicate k (Step j)) ≡ (if j == i then k else zero)
took_again i j k = took_again_by i j k (j == i) refl

-- what is made for none of them has no step of i
took_each_none : (i n : ℕ) (make : ℕ → List Event) → ((m : ℕ) → m < n → took i (make m) ≡ 0)
    → took i (each_below n make) ≡ 0
took_each_none i zero make h = ap (took i) (each_none make) ∙ took_none i
took_each_none i (suc n) make h =
    let a = took_append i (each_below n make) (make n) in
    let ih = took_each_none i n make (λ m l. h m (omega arith)) in
    let last = h n (omega arith) in
    ap (took i) (each_more n make) ∙ omega arith

took_each_by : (i k n : ℕ) (make : ℕ → List Event) → took i (make i) ≡ k
    → ((m : ℕ) → (m ≡ i → ⊥) → took i (make m) ≡ 0) → i < suc n
    → (i < n → took i (each_below n make) ≡ k) → (i < n) ⊎ (n ≤ i)
    → took i (each_below (suc n) make) ≡ k
took_each_by i k n make own other l ih (inl low) =
    let a = took_append i (each_below n make) (make n) in
    let before = ih low in
    let last = other n (λ e. omega arith) in
    ap (took i) (each_more n make) ∙ omega arith
took_each_by i k n make own other l ih (inr high) =
    let same : i ≡ n = omega arith in
    let a = took_append i (each_below n make) (make n) in
    let before = took_each_none i n make (λ m low. other m (λ e. omega arith)) in
    let last : took i (make n) ≡ k = ap (λ m. took i (make m)) (sym same) ∙ own in
    ap (took i) (each_more n make) ∙ omega arith

took_each : (i k n : ℕ) (make : ℕ → List Event) → took i (make i) ≡ k
    → ((m : ℕ) → (m ≡ i → ⊥) → took i (make m) ≡ 0) → i < n → took i (each_below n make) ≡ k
took_each i k zero make own other l = absurd (omega arith)
took_each i k (suc n) make own other l =
    took_each_by i k n make own other l (took_each i k n make own other) (cases_lt i n)

took_all : (i n : ℕ) (count : ℕ → ℕ) → i < n → took i (all_step n count) ≡ count i
took_all i n count l =
    took_each i (count i) n (λ m. replicate (count m) (Step m))
    (took_again i i (count i) ∙ ap (λ (b : Bool). if b then count i else zero) (eq-eqb i i refl))
    (λ m ne. took_again i m (count m)
    ∙ ap (λ (b : Bool). if b then count m else zero) (ne_eqb m i ne)) l

took_release : (omits : ℕ → ℕ → ℕ → Bool) (r i j m : ℕ) → took m (release_of omits r i j) ≡ 0
unfolding steps
took_release omits r i j m = by (omits i r j)
  where
    by : (b : Bool) → took m (if b then [] else Release
        (record { from = j; to = i; round = r; copy = 0 }) ∷ []) ≡ 0
    by true = refl
    by false = refl

took_releases : (n : ℕ) (omits : ℕ → ℕ → ℕ → Bool) (r m : ℕ) → took m (releases n omits r) ≡ 0
took_releases n omits r m =
    took_each_none m n (λ i. each_below n (λ j. release_of omits r i j)) (λ i l.
    took_each_none m n (λ j. release_of omits r i j) (λ j k. took_release omits r i j m))

-- ---- releases

-- what holds of an event that is made for all is of one of them
any_each : (p : Event → Bool) (n : ℕ) (make : ℕ → List Event)
    → list_any p (each_below n make) ≡ true → (m : ℕ) × (m < n) × (list_any p (make m) ≡ true)
any_each p zero make h = let none : list_any p (each_below 0 make) ≡ false =
    ap (list_any p) (each_none make) in absurd cc
any_each p (suc n) make h =
    by (or_cases _ _ (sym (ap (list_any p) (each_more n make)
    ∙ list_any-append p (each_below n make) (make n)) ∙ h)) (any_each p n make)
  where
    by : (list_any p (each_below n make) ≡ true) ⊎ (list_any p (make n) ≡ true)
        → (list_any p (each_below n make) ≡ true → (m : ℕ) × (m < n) × (list_any p (make m) ≡ true))
        → (m : ℕ) × (m < suc n) × (list_any p (make m) ≡ true)
    by (inl old) ih = let x = ih old in (x.0, let l = x.1 in omega arith, x.2)
    by (inr new) ih = (n, omega arith, new)

each_any : (p : Event → Bool) (n : ℕ) (make : ℕ → List Event) (m : ℕ) → m < n
    → list_any p (make m) ≡ true → list_any p (each_below n make) ≡ true
each_any p zero make m l h = absurd (omega arith)
each_any p (suc n) make m l h =
    ap (list_any p) (each_more n make) ∙ list_any-append p (each_below n make) (make n)
    ∙ by (cases_lt m n) (λ old. each_any p n make m old h)
  where
    by : (m < n) ⊎ (n ≤ m) → (m < n → list_any p (each_below n make) ≡ true)
        → (list_any p (each_below n make) || list_any p (make n)) ≡ true
    by (inl old) ih = or_left _ _ (ih old)
    by (inr new) ih = let same : m ≡ n =
        omega arith in or_right _ _ (ap (λ z. list_any p (make z)) (sym same) ∙ h)

-- no step is one of the network's events
any_again : (p : Event → Bool) (k : ℕ) (e : Event) → p e ≡ false → list_any p (replicate k e) ≡ true
    → ⊥
any_again p zero e h g = cc
any_again p (suc k) e h g = any_again p k e h
    (ap (λ b. b || list_any p (replicate k e)) (sym h) ∙ g)

any_steps : (p : Event → Bool) → ((i : ℕ) → p (Step i) ≡ false) → (n : ℕ) (count : ℕ → ℕ)
    → list_any p (all_step n count) ≡ true → ⊥
any_steps p h n count g =
    let x = any_each p n (λ i. replicate (count i) (Step i)) g in
    any_again p (count x.0) (Step x.0) (h x.0) x.2

-- the name is of copy 0 of a message that isn't to be missed
pub record IsLet (omits : ℕ → ℕ → ℕ → Bool) (r : ℕ) (n : Name) : Type 0 where
  pub round : n.round ≡ r
  pub copy : n.copy ≡ 0
  pub passes : omits n.to n.round n.from ≡ false

name_parts : (n m : Name) → is_name n m ≡ true → (m.from ≡ n.from) × (m.to ≡ n.to)
    × (m.round ≡ n.round) × (m.copy ≡ n.copy)
name_parts n m h =
    let a : ((m.from == n.from && m.to == n.to && m.round == n.round) ≡ true)
    × ((m.copy == n.copy) ≡ true) = and_parts _ _ h in
    let b : ((m.from == n.from && m.to == n.to) ≡ true) × ((m.round == n.round) ≡ true) =
    and_parts _ _ a.0 in
    let c : ((m.from == n.from) ≡ true) × ((m.to == n.to) ≡ true) = and_parts _ _ b.0 in
    (eqb-true _ _ c.0, eqb-true _ _ c.1, eqb-true _ _ b.1, eqb-true _ _ a.1)

released_by : (omits : ℕ → ℕ → ℕ → Bool) (r i j : ℕ) (n : Name) (b : Bool) → omits i r j ≡ b
    → list_any (is_release n) (if b then [] else Release
    (record { from = j; to = i; round = r; copy = 0 }) ∷ []) ≡ true → IsLet omits r n
released_by omits r i j n true e h = cc
released_by omits r i j n false e h =
    let m : Name = record { from = j; to = i; round = r; copy = 0 } in
    let one : is_name n m ≡ true = alone (is_name n m) h in
    let same = name_parts n m one in
    record {
      round = sym same.2;
      copy = sym same.3;
      passes = ap (λ z. omits z n.round n.from) (sym same.1)
          ∙ ap (λ z. omits i z n.from) (sym same.2) ∙ ap (omits i r) (sym same.0) ∙ e;
    }
  where
    alone : (b : Bool) → (b || false) ≡ true → b ≡ true
    alone true h = refl
    alone false h = cc

released_in : (k : ℕ) (omits : ℕ → ℕ → ℕ → Bool) (r : ℕ) (n : Name)
    → list_any (is_release n) (releases k omits r) ≡ true → IsLet omits r n
released_in k omits r n h =
    let x = any_each (is_release n) k (λ i. each_below k (λ j. release_of omits r i j)) h in
    let y = any_each (is_release n) k (λ j. release_of omits r x.0 j) x.2 in
    released_by omits r x.0 y.0 n (omits x.0 r y.0) refl y.2

named : (n : Name) → is_name n n ≡ true
named n = and_from _ _ (and_from _ _
    (and_from _ _ (eq-eqb n.from n.from refl) (eq-eqb n.to n.to refl))
    (eq-eqb n.round n.round refl)) (eq-eqb n.copy n.copy refl)

-- the releases of a round let in what isn't to be missed
lets_in : (k : ℕ) (omits : ℕ → ℕ → ℕ → Bool) (r i j : ℕ) → i < k → j < k → omits i r j ≡ false
    → list_any (is_release (record { from = j; to = i; round = r; copy = 0 }))
    (releases k omits r) ≡ true
lets_in k omits r i j a b h =
    let n : Name = record { from = j; to = i; round = r; copy = 0 } in
    let one : list_any (is_release n) (release_of omits r i j) ≡ true =
    rw h (or_left _ _ (named n)) in
    each_any (is_release n) k (λ i. each_below k (λ j. release_of omits r i j)) i a
    (each_any (is_release n) k (λ j. release_of omits r i j) j b one)

-- nothing is dropped
dropped_in : (k : ℕ) (omits : ℕ → ℕ → ℕ → Bool) (r : ℕ) (n : Name)
    → list_any (is_drop n) (releases k omits r) ≡ true → ⊥
dropped_in k omits r n h =
    let x = any_each (is_drop n) k (λ i. each_below k (λ j. release_of omits r i j)) h in
    let y = any_each (is_drop n) k (λ j. release_of omits r x.0 j) x.2 in
    by x.0 y.0 (omits x.0 r y.0) y.2
  where
    by : (i j : ℕ) (b : Bool) → list_any (is_drop n)
        (if b then [] else Release (record { from = j; to = i; round = r; copy = 0 }) ∷ []) ≡ true
        → ⊥
    by i j true g = cc
    by i j false g = cc

round_cases : (p : Event → Bool) → ((i : ℕ) → p (Step i) ≡ false)
    → (n : ℕ) (sends takes : ℕ → ℕ) (omits : ℕ → ℕ → ℕ → Bool) (r : ℕ)
    → list_any p (round_events n sends takes omits r) ≡ true
    → list_any p (releases n omits r) ≡ true
round_cases p s n sends takes omits r h =
    first (or_cases _ _ (sym (list_any-append p (all_step n sends ++ releases n omits r)
    (all_step n takes)) ∙ h))
  where
    second : (list_any p (all_step n sends) ≡ true) ⊎ (list_any p (releases n omits r) ≡ true)
        → list_any p (releases n omits r) ≡ true
    second (inl g) = absurd (any_steps p s n sends g)
    second (inr g) = g

    first : (list_any p (all_step n sends ++ releases n omits r) ≡ true)
        ⊎ (list_any p (all_step n takes) ≡ true) → list_any p (releases n omits r) ≡ true
    first (inl g) = second (or_cases _ _
        (sym (list_any-append p (all_step n sends) (releases n omits r)) ∙ g))
    first (inr g) = absurd (any_steps p s n takes g)

-- what isn't true is false
unless : (b : Bool) → (b ≡ true → ⊥) → b ≡ false
unless true h = absurd (h refl)
unless false h = refl

-- ---- round by round

none_in : (p : Event → Bool) (xs ys : List Event) → (list_any p xs ≡ true → ⊥)
    → (list_any p ys ≡ true → ⊥) → list_any p (xs ++ ys) ≡ false
none_in p xs ys f g = list_any-append p xs ys ∙ unless _ (λ h. by (or_cases _ _ h))
  where
    by : (list_any p xs ≡ true) ⊎ (list_any p ys ≡ true) → ⊥
    by (inl x) = f x
    by (inr y) = g y

parts : (all far sends lets takes : List Event) → all ≡ far ++ (sends ++ lets ++ takes)
    → reverse all ≡ reverse takes ++ (reverse lets ++ reverse (far ++ sends))
parts all far sends lets takes e =
    ap reverse (e ∙ ap (λ z. far ++ z) (append_assoc sends lets takes)
    ∙ sym (append_assoc far sends (lets ++ takes)))
    ∙ reverse-append (far ++ sends) (lets ++ takes)
    ∙ ap (λ z. z ++ reverse (far ++ sends)) (reverse-append lets takes)
    ∙ append_assoc (reverse takes) (reverse lets) (reverse (far ++ sends))

-- rounds in which node i takes `sends r i` steps before the releases and `takes r i` after them, so
-- that it has taken `total q i` steps after q rounds
module _ (w : World) (omits : ℕ → ℕ → ℕ → Bool) (sends takes total : ℕ → ℕ → ℕ)
    (starts : (i : ℕ) → i < nodes_of w → total 0 i ≡ 0)
    (more : (q i : ℕ) → i < nodes_of w
    → total (q + 1) i ≡ total q i + sends (q + 1) i + takes (q + 1) i) where
  -- the events of the round after so many, and of so many rounds
  abbrev then_round : ℕ → List Event
  then_round q = round_events (nodes_of w) (sends (q + 1)) (takes (q + 1)) omits (q + 1)

  abbrev so_far : ℕ → List Event
  so_far q = each_below q then_round

  goes_on : (q : ℕ) → so_far (suc q) ≡ so_far q ++ then_round q
  goes_on q = each_more q then_round

  pub took_rounds : (q i : ℕ) → i < nodes_of w → took i (so_far q) ≡ total q i
  took_rounds zero i l = ap (took i) (each_none then_round) ∙ took_none i ∙ sym (starts i l)
  took_rounds (suc q) i l =
      let n = nodes_of w in
      let a = took_append i (so_far q) (then_round q) in
      let b = took_append i (all_step n (sends (q + 1)) ++ releases n omits (q + 1))
      (all_step n (takes (q + 1))) in
      let c = took_append i (all_step n (sends (q + 1))) (releases n omits (q + 1)) in
      let ih = took_rounds q i l in
      let x = took_all i n (sends (q + 1)) l in
      let y = took_releases n omits (q + 1) i in
      let z = took_all i n (takes (q + 1)) l in
      let e : suc q ≡ q + 1 = omega arith in
      let next = ap (λ k. total k i) e ∙ more q i l in
      ap (took i) (goes_on q) ∙ omega arith

  -- what is released is copy 0 of a message of these rounds that isn't to be missed
  released_far : (q : ℕ) (n : Name) → list_any (is_release n) (so_far q) ≡ true → (n.round ≤ q)
      × (n.copy ≡ 0) × (omits n.to n.round n.from ≡ false)
  released_far q n h =
      let x = any_each (is_release n) q then_round h in
      let y = released_in (nodes_of w) omits (x.0 + 1) n
      (round_cases (is_release n) (λ i. refl) (nodes_of w) (sends (x.0 + 1)) (takes (x.0 + 1)) omits
      (x.0 + 1) x.2) in
      let l = x.1 in
      let e = y.round in
      (omega arith, y.copy, y.passes)

  dropped_far : (q : ℕ) (n : Name) → list_any (is_drop n) (so_far q) ≡ true → ⊥
  dropped_far q n h =
      let x = any_each (is_drop n) q then_round h in
      dropped_in (nodes_of w) omits (x.0 + 1) n
      (round_cases (is_drop n) (λ i. refl) (nodes_of w) (sends (x.0 + 1)) (takes (x.0 + 1)) omits
      (x.0 + 1) x.2)

  -- after its round a message that was sent in it and isn't to be missed was let in
  let_round : (q i j : ℕ) → i < nodes_of w → j < nodes_of w
      → w.start (q + 1) + i < total q j + sends (q + 1) j → omits i (q + 1) j ≡ false
      → let_at (fate w (reverse (so_far (suc q)))
      (record { from = j; to = i; round = q + 1; copy = 0 })) ≡ Some (total q i + sends (q + 1) i)
  let_round q i j a b on h =
      let m : Name = record { from = j; to = i; round = q + 1; copy = 0 } in
      let n = nodes_of w in
      let send = all_step n (sends (q + 1)) in
      let lets = releases n omits (q + 1) in
      let take = all_step n (takes (q + 1)) in
      let t = so_far q ++ send in
      let split : reverse (so_far (suc q)) ≡ reverse take ++ (reverse lets ++ reverse t) =
      parts (so_far (suc q)) (so_far q) send lets take (goes_on q) in
      let no_release : list_any (is_release m) (reverse t) ≡ false =
      any_reverse (is_release m) t
      ∙ none_in (is_release m) (so_far q) send
      (λ x. (let y = (released_far q m x).0 in omega arith))
      (any_steps (is_release m) (λ i. refl) n (sends (q + 1))) in
      let no_drop : list_any (is_drop m) (reverse t) ≡ false =
      any_reverse (is_drop m) t ∙ none_in (is_drop m) (so_far q) send (dropped_far q m)
      (any_steps (is_drop m) (λ i. refl) n (sends (q + 1))) in
      let from = took_append j (so_far q) send in
      let from_all = took_all j n (sends (q + 1)) b in
      let from_far = took_rounds q j b in
      let to = took_append i (so_far q) send in
      let to_all = took_all i n (sends (q + 1)) a in
      let to_far = took_rounds q i a in
      let sent : w.start (q + 1) + i < steps j (reverse t) = omega arith in
      let count : steps i (reverse t) ≡ total q i + sends (q + 1) i = omega arith in
      let let_in_now = released w m refl (reverse t) no_release no_drop sent (reverse lets)
      (took_releases n omits (q + 1) i)
      (any_reverse (is_drop m) lets ∙ unless _ (dropped_in n omits (q + 1) m))
      (any_reverse (is_release m) lets ∙ lets_in n omits (q + 1) i j a b h) in
      ap (λ z. let_at (fate w z m)) split
      ∙ stays w (reverse take) (reverse lets ++ reverse t) m (total q i + sends (q + 1) i)
      (let_in_now ∙ ap Some count)

  -- and after each later round
  let_far : (d q i j : ℕ) → i < nodes_of w → j < nodes_of w
      → w.start (q + 1) + i < total q j + sends (q + 1) j → omits i (q + 1) j ≡ false
      → let_at (fate w (reverse (so_far (d + (q + 1))))
      (record { from = j; to = i; round = q + 1; copy = 0 })) ≡ Some (total q i + sends (q + 1) i)
  let_far zero q i j a b on h =
      let e : suc q ≡ 0 + (q + 1) = omega arith in
      ap (λ z. let_at (fate w (reverse (so_far z))
      (record { from = j; to = i; round = q + 1; copy = 0 }))) (sym e)
      ∙ let_round q i j a b on h
  let_far (suc d) q i j a b on h =
      let m : Name = record { from = j; to = i; round = q + 1; copy = 0 } in
      let e : suc d + (q + 1) ≡ suc (d + (q + 1)) = omega arith in
      ap (λ z. let_at (fate w z m))
      (ap (λ z. reverse (so_far z)) e ∙ ap reverse (goes_on (d + (q + 1)))
      ∙ reverse-append (so_far (d + (q + 1))) (then_round (d + (q + 1))))
      ∙ stays w (reverse (then_round (d + (q + 1)))) (reverse (so_far (d + (q + 1)))) m
      (total q i + sends (q + 1) i) (let_far d q i j a b on h)

  -- the history of all rounds
  abbrev all : List Event
  all = reverse (so_far w.rounds)

  let_end : (q i j : ℕ) → i < nodes_of w → j < nodes_of w → q < w.rounds
      → w.start (q + 1) + i < total q j + sends (q + 1) j → omits i (q + 1) j ≡ false
      → let_at (fate w all (record { from = j; to = i; round = q + 1; copy = 0 })) ≡ Some
      (total q i + sends (q + 1) i)
  let_end q i j a b high on h =
      let f : (w.rounds - (q + 1)) + (q + 1) ≡ w.rounds = omega arith in
      subst (λ z. let_at (fate w (reverse (so_far z))
      (record { from = j; to = i; round = q + 1; copy = 0 })) ≡ Some
      (total q i + sends (q + 1) i)) f
      (let_far (w.rounds - (q + 1)) q i j a b on h)

  pub carried_not : (i r j : ℕ) → omits i r j ≡ true → carried w all i r j ≡ false
  unfolding carried
  carried_not i r j h = some_none
      (λ k. taken_near w r (fate w all (record { from = j; to = i; round = r; copy = k })))
      (λ k few.
      none_near w r _ (none_released w all (record { from = j; to = i; round = r; copy = k })
      (any_reverse _ (so_far w.rounds)
      ∙ unless _ (λ g. (let x = (released_far w.rounds _ g).2 in cc)))))

  -- nor is what its sender never sent
  pub carried_unsent : (i r j : ℕ) → j < nodes_of w → total w.rounds j ≤ w.start r + i
      → carried w all i r j ≡ false
  unfolding carried
  carried_unsent i r j b few =
      some_none (λ k. taken_near w r
      (fate w all (record { from = j; to = i; round = r; copy = k }))) (λ k low.
      let n = took_rounds w.rounds j b in
      none_near w r _ (ap let_at (unmade_before w all
      (record { from = j; to = i; round = r; copy = k }) (omega arith))))

  pub carried_so : IsPlan w → (q i j : ℕ) → i < nodes_of w → j < nodes_of w → q < w.rounds
      → w.start (q + 1) + i < total q j + sends (q + 1) j
      → total q i + sends (q + 1) i ≡ w.start (q + 1) + nodes_of w
      → w.start (q + 1 + 1) ≤ total w.rounds i → omits i (q + 1) j ≡ false
      → carried w all i (q + 1) j ≡ true
  unfolding carried
  carried_so plan q i j a b high on place over h =
      let r = q + 1 in
      let m : Name = record { from = j; to = i; round = r; copy = 0 } in
      let x = total q i + sends r i in
      let count = took_rounds w.rounds i a in
      let early = starts_early w plan r r (omega arith) (omega arith) in
      let next = plan.next r (omega arith) in
      some_of (λ k. taken_near w r (fate w all (record { from = j; to = i; round = r; copy = k })))
      0 (omega arith)
      (near_is w plan r (steps i all) (omega arith) (omega arith) (omega arith) (fate w all m)
      (let_in w all m)
      ∙ some_near w r (fate w all m) x (let_end q i j a b high on h)
      ∙ lies_within w r x (omega arith) (omega arith))

pub plan_of : (w : World) (receives : ℕ → ℕ) → PlanLaws (nodes_of w) receives w.start → IsPlan w
plan_of w receives laws = record {
  first = laws.first_start;
  next = λ r h. (let a = laws.next_start r h in let b = laws.some_receive r h in omega arith);
}

-- ---- each node takes all its steps

module _ (w : World) (receives : ℕ → ℕ) (laws : PlanLaws (nodes_of w) receives w.start)
    (omits : ℕ → ℕ → ℕ → Bool) where
  next_whole : (q : ℕ) → w.start (q + 1 + 1) ≡ w.start (q + 1) + nodes_of w + receives (q + 1)
  next_whole q = laws.next_start (q + 1) (omega arith)

  pub whole_steps : (i : ℕ) → i < nodes_of w
      → steps i (reverse (schedule_of (nodes_of w) receives omits w.rounds)) ≡ w.start
      (w.rounds + 1)
  whole_steps i a = took_rounds w omits (λ r i. nodes_of w) (λ r i. receives r)
      (λ q i. w.start (q + 1)) (λ i l. laws.first_start) (λ q i l. next_whole q) w.rounds i a

  whole_so : (q i j : ℕ) → i < nodes_of w → j < nodes_of w → q < w.rounds
      → omits i (q + 1) j ≡ false → carried w
      (reverse (schedule_of (nodes_of w) receives omits w.rounds)) i (q + 1) j ≡ true
  whole_so q i j a b high h =
      let up = start_le w (plan_of w receives laws) (q + 1 + 1) (w.rounds + 1) (omega arith)
      (omega arith) in
      carried_so w omits (λ r i. nodes_of w) (λ r i. receives r) (λ q i. w.start (q + 1))
      (λ i l. laws.first_start) (λ q i l. next_whole q)
      (plan_of w receives laws) q i j a b high (omega arith) refl up h

  realised_by : (i r j : ℕ) → i < nodes_of w → j < nodes_of w → 1 ≤ r → r ≤ w.rounds → (z : Bool)
      → omits i r j ≡ z → omits_of w (reverse (schedule_of (nodes_of w) receives omits w.rounds)) i
      r j ≡ omits i r j
  realised_by i r j a b low high true h =
      ap not (carried_not w omits (λ r i. nodes_of w) (λ r i. receives r) (λ q i. w.start (q + 1))
      (λ i l. laws.first_start) (λ q i l. next_whole q) i r j h) ∙ sym h
  realised_by i r j a b low high false h =
      let e : (r - 1) + 1 ≡ r = omega arith in
      ap not (subst (λ k. carried w (reverse (schedule_of (nodes_of w) receives omits w.rounds)) i k
      j ≡ true) e
      (whole_so (r - 1) i j a b (omega arith) (ap (λ k. omits i k j) e ∙ h))) ∙ sym h

pub each_table : EachTableHasASchedule
each_table w receives laws omits i r j a b low high =
    realised_by w receives laws omits i r j a b low high _ refl

pub each_placed : EachTableHasASchedulePlaced
each_placed w receives laws omits i r j copy a b low high =
    let xs = schedule_of (nodes_of w) receives omits w.rounds in
    let m : Name = record { from = j; to = i; round = r; copy = copy } in
    let e = each_table w receives laws omits i r j a b low high in (
      λ h. subst (λ z. IsCarried w z m) (reverse-reverse xs)
          (carried_place w (reverse xs) m (not-false _ (e ∙ h))),
      λ f. sym e ∙ ap not (carried_found w (reverse xs) m
          (subst (λ z. IsCarried w z m) (sym (reverse-reverse xs)) f)),
    )

pub each_run : EachTableHasARun
each_run w receives laws omits r i high a = (
  rounds_same w.algorithm (omits_of w (reverse (schedule_of (nodes_of w) receives omits w.rounds)))
      omits r i (λ q k j below kl jl sends.
      each_table w receives laws omits k (suc q) j kl jl (omega arith) (omega arith)) a,
  whole_steps w receives laws omits i a,
)

pub runs_same : RunsAreRunsInRounds
runs_same w receives laws states = (
  λ h. (omits_of w (reverse h.0), λ r i high a. h.1.state r i high a),
  λ h. (
    schedule_of (nodes_of w) receives h.0 w.rounds,
    record {
      whole = λ i a. whole_steps w receives laws h.0 i a;
      state = λ r i high a. h.1 r i high a ∙ sym (each_run w receives laws h.0 r i high a).0;
    },
  ),
)

-- ---- nodes that stop

module _ (w : World) (receives stops : ℕ → ℕ) (laws : PlanLaws (nodes_of w) receives w.start)
    (omits : ℕ → ℕ → ℕ → Bool) where
  abbrev sends_to : ℕ → ℕ → ℕ
  sends_to r i = until (stops i) (w.start r) (nodes_of w)

  abbrev takes_to : ℕ → ℕ → ℕ
  takes_to r i = until (stops i) (w.start r + nodes_of w) (receives r)

  abbrev total_to : ℕ → ℕ → ℕ
  total_to q i = min (w.start (q + 1)) (stops i)

  abbrev stopped : List Event
  stopped = reverse (schedule_with_stops (nodes_of w) receives w.start stops omits w.rounds)

  starts_to : (i : ℕ) → i < nodes_of w → total_to 0 i ≡ 0
  starts_to i l = let z : w.start (0 + 1) ≡ 0 = laws.first_start in omega arith

  more_to : (q i : ℕ) → i < nodes_of w
      → total_to (q + 1) i ≡ total_to q i + sends_to (q + 1) i + takes_to (q + 1) i
  more_to q i l = let next = laws.next_start (q + 1) (omega arith) in omega arith

  pub stopped_steps : (i : ℕ) → i < nodes_of w
      → steps i stopped ≡ min (w.start (w.rounds + 1)) (stops i)
  stopped_steps i a = took_rounds w omits sends_to takes_to total_to starts_to more_to w.rounds i a

  stopped_so : (q i j : ℕ) → i < nodes_of w → j < nodes_of w → q < w.rounds
      → w.start (q + 1 + 1) ≤ stops i → w.start (q + 1) + i < stops j → omits i (q + 1) j ≡ false
      → carried w stopped i (q + 1) j ≡ true
  stopped_so q i j a b high over sent h =
      let up = start_le w (plan_of w receives laws) (q + 1 + 1) (w.rounds + 1) (omega arith)
      (omega arith) in
      let next = laws.next_start (q + 1) (omega arith) in
      carried_so w omits sends_to takes_to total_to starts_to more_to
      (plan_of w receives laws) q i j a b high (omega arith) (omega arith) (omega arith) h

  stopped_by : (i r j : ℕ) → i < nodes_of w → j < nodes_of w → 1 ≤ r → r ≤ w.rounds
      → w.start (r + 1) ≤ stops i → (z : Bool) → omits i r j ≡ z → (w.start r + i < stops j)
      ⊎ (stops j ≤ w.start r + i) → omits_of w stopped i r j ≡
      (omits i r j || nat_le (stops j) (w.start r + i))
  stopped_by i r j a b low high over true h c =
      ap not (carried_not w omits sends_to takes_to total_to starts_to more_to i r j h)
      ∙ sym (or_left _ _ h)
  stopped_by i r j a b low high over false h (inr few) =
      ap not (carried_unsent w omits sends_to takes_to total_to starts_to more_to i r j b
      (omega arith)) ∙ sym (or_right _ _ (le-leb _ _ few))
  stopped_by i r j a b low high over false h (inl sent) =
      let e : (r - 1) + 1 ≡ r = omega arith in
      let over2 = subst (λ k. w.start (k + 1) ≤ stops i) (sym e) over in
      let sent2 = subst (λ k. w.start k + i < stops j) (sym e) sent in
      ap not (subst (λ k. carried w stopped i k j ≡ true) e
      (stopped_so (r - 1) i j a b (omega arith) over2 sent2 (ap (λ k. omits i k j) e ∙ h)))
      ∙ sym (or_from _ _ h (lt-leb _ _ sent))

pub each_stopped : EachTableHasAScheduleWithStops
each_stopped w receives stops laws omits i r j a b low high over =
    stopped_by w receives stops laws omits i r j a b low high over _ refl (cases_lt _ _)

pub each_stopped_placed : EachTableHasAScheduleWithStopsPlaced
each_stopped_placed w receives stops laws omits i r j copy a b low high over =
    let xs = schedule_with_stops (nodes_of w) receives w.start stops omits w.rounds in
    let m : Name = record { from = j; to = i; round = r; copy = copy } in
    let e = each_stopped w receives stops laws omits i r j a b low high over in (
      λ h. subst (λ z. IsCarried w z m) (reverse-reverse xs)
          (carried_place w (reverse xs) m (not-false _ (e ∙ h))),
      λ f. sym e ∙ ap not (carried_found w (reverse xs) m
          (subst (λ z. IsCarried w z m) (sym (reverse-reverse xs)) f)),
    )

pub each_stops : EachNodeStops
each_stops w receives stops laws omits i a = stopped_steps w receives stops laws omits i a

heard_same : (a : Algorithm) (o p : Bool) (f g : List Value) (r i j : ℕ) → o ≡ p
    → (p ≡ false → f ≡ g) → (if o then None else received j (a.send r f j i)) ≡
    (if p then None else received j (a.send r g j i))
heard_same a o true f g r i j e h = rw e refl
heard_same a o false f g r i j e h = rw (e, h refl) refl

stopped_run : (w : World) (receives stops : ℕ → ℕ) → PlanLaws (nodes_of w) receives w.start
    → (omits : ℕ → ℕ → ℕ → Bool) (r i : ℕ) → r ≤ w.rounds → i < nodes_of w
    → w.start (r + 1) ≤ stops i → state w
    (reverse (schedule_with_stops (nodes_of w) receives w.start stops omits w.rounds)) r i ≡ rounds
    w.algorithm (with_stops w.start stops omits) r i
unfolding rounds inbox
stopped_run w receives stops laws omits zero i high a over = refl
stopped_run w receives stops laws omits (suc q) i high a over =
    let t = reverse (schedule_with_stops (nodes_of w) receives w.start stops omits w.rounds) in
    let e : q + 1 ≡ suc q = omega arith in
    let f = ap w.start e in
    let up = (plan_of w receives laws).next (suc q) (omega arith) in
    let me = stopped_run w receives stops laws omits q i (omega arith) a (omega arith) in
    ap (λ ms. w.algorithm.end (suc q) i ms (state w t q i)) (filter_map_same
    (λ j. if omits_of w t i (suc q) j then None else received j
    (w.algorithm.send (suc q) (state w t q j) j i))
    (λ j. if with_stops w.start stops omits i (suc q) j then None else received j
    (w.algorithm.send (suc q) (rounds w.algorithm (with_stops w.start stops omits) q j) j i))
    0 (nodes_of w)
    (λ j l.
    heard_same w.algorithm (omits_of w t i (suc q) j) (with_stops w.start stops omits i (suc q) j)
    (state w t q j) (rounds w.algorithm (with_stops w.start stops omits) q j) (suc q) i j
    (each_stopped w receives stops laws omits i (suc q) j a (omega arith) (omega arith) high over)
    (λ sent.
    let late : nat_le (stops j) (w.start (suc q) + i) ≡ false =
    (or_parts (omits i (suc q) j) (nat_le (stops j) (w.start (suc q) + i)) sent).1 in
    let past = leb-false _ _ late in
    stopped_run w receives stops laws omits q j (omega arith) (omega arith) (omega arith))))
    ∙ ap (w.algorithm.end (suc q) i
    (filter_map (λ j. if with_stops w.start stops omits i (suc q) j then None else received j
    (w.algorithm.send (suc q) (rounds w.algorithm (with_stops w.start stops omits) q j) j i))
    (range_with_len 0 (nodes_of w)))) me

pub each_stopped_run : EachTableHasARunWithStops
each_stopped_run w receives stops laws omits r i high a over =
    stopped_run w receives stops laws omits r i high a over

-- what isn't sent is omitted anyway
same_omits : (w : World) (t : List Event) (i r j : ℕ) (b : Bool) → carried w t i r j ≡ b
    → with_stops w.start (λ k. steps k t) (omits_of w t) i r j ≡ omits_of w t i r j
same_omits w t i r j true h = let sent =
    carried_sent w t i r j h in or_from _ _ (ap not h) (lt-leb _ _ sent) ∙ sym (ap not h)
same_omits w t i r j false h = or_left _ _ (ap not h) ∙ sym (ap not h)

pub each_order : EachRunHasAnOrder
each_order w receives laws t r i high a =
    let stop = λ (j : ℕ). steps j t in (
      each_stops w receives stop laws (omits_of w t) i a,
      (λ over. each_stopped_run w receives stop laws (omits_of w t) r i high a over
          ∙ rounds_same w.algorithm (with_stops w.start stop (omits_of w t)) (omits_of w t) r i
          (λ q k j below kl jl sends. same_omits w t k (suc q) j _ refl) a),
      (λ over j low b. each_stopped w receives stop laws (omits_of w t) i r j a b low high over
          ∙ same_omits w t i r j _ refl),
    )
