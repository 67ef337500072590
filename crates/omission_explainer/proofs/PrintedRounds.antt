-- The states that a report shows are those of the run in rounds under the omissions that it prints.
use Rattle.std.proofs.Common.{◌≡◌, ℕ, zero, suc, ◌+◌, ◌-◌, ◌==◌, ◌<◌, ◌≤◌, Bool, true, false, cond}
use Rattle.std.proofs.Common.{not, ◌&&◌, List, [], ◌∷◌, ◌++◌, map, Option, None, Some, refl, sym}
use Rattle.std.proofs.Common.{ap, subst, ◌∙◌, if◌then◌else◌, arith, ◌⊎◌, inl, inr}
use Rattle.std.specs.Prelude.{All, is_some, nat_lt, filter}
use Rattle.std.specs.List.{flat_map, range_with_len}
use Rattle.std.proofs.lemmas.Bool.{and_parts, and_from, both_ways, cases_lt, eq-eqb, eqb-true}
use Rattle.std.proofs.lemmas.Bool.{ltb-true}
use Rattle.std.proofs.lemmas.Bool.Decides.{nat_tests}
use Rattle.std.proofs.lemmas.List.Elements.{All-head, All-tail, All-weaker}
use Rattle.round_lang.specs.Sets.{is_in}
use Rattle.round_lang.specs.declared.value.Value.{Value}
use Rattle.round_meaning.specs.Rounds.{inbox, received, rounds}
use Rattle.step_book.specs.Fates.{carried}
use Rattle.step_book.specs.History.{state}
use Rattle.step_book.specs.Log.{Log, IsFaithful, count_of, history, round_of, world_of}
use Rattle.step_book.specs.Trace.{steps}
use Rattle.step_book.specs.World.{IsPlan, nodes_of}
use Rattle.step_book.proofs.Fates.{carried_sent}
use Rattle.step_book.proofs.Kept.{end_same}
use Rattle.step_book.proofs.Plans.{start_le}
use Rattle.step_book.proofs.Reading.{nodes_are}
use Rattle.omission_explainer.specs.InRounds.{IsOfRounds, printed_omits, printed_omitted}
use Rattle.omission_explainer.specs.Printed.{prints_omitted}
use Rattle.omission_explainer.specs.Reported.{IsReported, carried_in, closed_below, closed_rounds}
use Rattle.omission_explainer.specs.Reported.{is_closed, omitted_in, place, sends_in, stands_in}
use Rattle.omission_explainer.specs.Rows.{ClosedRound}
use Rattle.round_lang.proofs.SetLaws.{is_in-set_of}
use Rattle.omission_explainer.proofs.Parts.{filter_map_same}

-- ---- members of lists

data Among {X : Type 0} (x : X) : List X → Type 0 where
  First : (xs : List X) → Among x (x ∷ xs)
  Rest : (y : X) (xs : List X) → Among x xs → Among x (y ∷ xs)

among_first : {X : Type 0} (x y : X) (ys : List X) → x ≡ y → Among x (y ∷ ys)
among_first x y ys e = subst (λ z. Among x (z ∷ ys)) e (First ys)

among_cases : {X : Type 0} (x y : X) (ys : List X) → Among x (y ∷ ys) → (x ≡ y) ⊎ Among x ys
among_cases x y ys (First xs) = inl refl
among_cases x y ys (Rest z xs h) = inr h

among_left : {X : Type 0} (x : X) (xs ys : List X) → Among x xs → Among x (xs ++ ys)
among_left x [] ys h = elim h [ ]
among_left x (y ∷ xs) ys h = by (among_cases x y xs h) (λ k. among_left x xs ys k)
  where
    by : (x ≡ y) ⊎ Among x xs → (Among x xs → Among x (xs ++ ys)) → Among x (y ∷ (xs ++ ys))
    by (inl e) past = among_first x y (xs ++ ys) e
    by (inr k) past = Rest y (xs ++ ys) (past k)

among_right : {X : Type 0} (x : X) (xs ys : List X) → Among x ys → Among x (xs ++ ys)
among_right x [] ys h = h
among_right x (y ∷ xs) ys h = Rest y (xs ++ ys) (among_right x xs ys h)

among_map : {X Y : Type 0} (f : X → Y) (x : X) (xs : List X) → Among x xs → Among (f x) (map f xs)
among_map f x [] h = elim h [ ]
among_map f x (y ∷ xs) h = by (among_cases x y xs h) (λ k. among_map f x xs k)
  where
    by : (x ≡ y) ⊎ Among x xs → (Among x xs → Among (f x) (map f xs)) → Among (f x) (f y ∷ map f xs)
    by (inl e) past = among_first (f x) (f y) (map f xs) (ap f e)
    by (inr k) past = Rest (f y) (map f xs) (past k)

among_filter : {X : Type 0} (p : X → Bool) (x : X) (xs : List X) → p x ≡ true → Among x xs
    → Among x (filter p xs)
among_filter p x [] on h = elim h [ ]
among_filter p x (y ∷ xs) on h = by (p y) refl (among_cases x y xs h)
    (λ k. among_filter p x xs on k)
  where
    by : (b : Bool) → p y ≡ b → (x ≡ y) ⊎ Among x xs → (Among x xs → Among x (filter p xs))
        → Among x (cond b (y ∷ filter p xs) (filter p xs))
    by true e (inl same) past = among_first x y (filter p xs) same
    by true e (inr k) past = Rest y (filter p xs) (past k)
    by false e (inl same) past = absurd (both_ways (p y) e (ap p (sym same) ∙ on))
    by false e (inr k) past = past k

among_flat_map : {X Y : Type 0} (f : X → List Y) (x : X) (y : Y) (xs : List X) → Among x xs
    → Among y (f x) → Among y (flat_map f xs)
among_flat_map f x y [] h k = elim h [ ]
among_flat_map f x y (z ∷ xs) h k = by (among_cases x z xs h) (λ l. among_flat_map f x y xs l k)
  where
    by : (x ≡ z) ⊎ Among x xs → (Among x xs → Among y (flat_map f xs))
        → Among y (f z ++ flat_map f xs)
    by (inl e) past = among_left y (f z) (flat_map f xs) (subst (λ u. Among y (f u)) e k)
    by (inr l) past = among_right y (f z) (flat_map f xs) (past l)

among_range : (a n k : ℕ) → a ≤ k → k < a + n → Among k (range_with_len a n)
among_range a zero k l h = absurd (omega arith)
among_range a (suc n) k l h =
    by (cases_lt a k) (λ m. among_range (a + 1) n k (omega arith) (omega arith))
  where
    by : (a < k) ⊎ (k ≤ a) → (a < k → Among k (range_with_len (a + 1) n))
        → Among k (a ∷ range_with_len (a + 1) n)
    by (inl m) past = Rest a (range_with_len (a + 1) n) (past m)
    by (inr m) past = among_first k a (range_with_len (a + 1) n) (omega arith)

-- a closed round is listed
closed_listed : (v : Log) (r i : ℕ) → 0 < r → r ≤ v.setup.rounds → i < v.setup.nodes
    → r < round_of v i → Among (r, i) (closed_rounds v)
closed_listed v r i first last node closed =
    let is : is_closed v (r, i) ≡ true = grind (arith, nat_tests) in
    among_flat_map (closed_below v v.setup.nodes) r (
      r,
      i,
    ) (range_with_len 1 v.setup.rounds)
    (among_range 1 v.setup.rounds r (omega arith) (omega arith))
    (among_filter (is_closed v) (r, i) (map (λ k. (r, k)) (range_with_len 0 v.setup.nodes)) is
    (among_map (λ k. (r, k)) i (range_with_len 0 v.setup.nodes)
    (among_range 0 v.setup.nodes i (omega arith) (omega arith))))

-- ---- what the rows print

-- the row of a round of a node is found
printed_is : (start : ℕ → ℕ) (v : Log) (rows : List ClosedRound) (r i : ℕ)
    → All (IsReported start v) rows → Among (r, i) (map place rows)
    → printed_omitted rows i r ≡ omitted_in start v r i
unfolding printed_omitted
printed_is start v [] r i a h = elim h [ ]
printed_is start v (row ∷ rows) r i a h =
    by (row.node == i && row.round == r) refl (among_cases (r, i) (place row) (map place rows) h)
    (λ k. printed_is start v rows r i (All-tail (IsReported start v) row rows a) k)
  where
    by : (b : Bool) → (row.node == i && row.round == r) ≡ b
        → ((r, i) ≡ place row) ⊎ Among (r, i) (map place rows)
        → (Among (r, i) (map place rows) → printed_omitted rows i r ≡ omitted_in start v r i)
        → (if b then row.omitted else printed_omitted rows i r) ≡ omitted_in start v r i
    by true e m past =
        let parts = and_parts _ _ e in
        let node : row.node ≡ i = eqb-true _ _ parts.0 in
        let round : row.round ≡ r = eqb-true _ _ parts.1 in
        (All-head (IsReported start v) row rows a).printed.omitted
        ∙ ap (λ k. omitted_in start v k row.node) round ∙ ap (omitted_in start v r) node
    by false e (inl same) past =
        let round : row.round ≡ r = sym (ap (λ (p : ℕ × ℕ). p.0) same) in
        let node : row.node ≡ i = sym (ap (λ (p : ℕ × ℕ). p.1) same) in
        absurd (both_ways _ e (and_from _ _ (eq-eqb _ _ node) (eq-eqb _ _ round)))
    by false e (inr k) past = past k

-- ---- the run

-- what a sender gives is the same, where it has one message if it was carried or took its slot
entry_same : (j : ℕ) (c st : Bool) (new old : Option (List Value)) → (c ≡ true → new ≡ old)
    → (st ≡ true → new ≡ old)
    → cond (not (c && is_some old) && not (st && not (is_some old))) None (received j new)
    ≡ cond (not c) None (received j old)
entry_same j true true new None h k = ap (received j) (h refl)
entry_same j true false new None h k = refl
entry_same j false true new None h k = ap (received j) (k refl)
entry_same j false false new None h k = refl
entry_same j true st new (Some m) h k = ap (received j) (h refl)
entry_same j false true new (Some m) h k = refl
entry_same j false false new (Some m) h k = refl

module _ {start : ℕ → ℕ} {v : Log} (plan : IsPlan (world_of start v))
    (faithful : IsFaithful start v) where
  -- a node that came past a slot has closed the rounds before it
  slot_closed : (j i q : ℕ) → j < v.setup.nodes → q < v.setup.rounds
      → start (suc q) + i < count_of v j → q < round_of v j
  slot_closed j i q node few past = by (cases_lt q (round_of v j))
    where
      by : (q < round_of v j) ⊎ (round_of v j ≤ q) → q < round_of v j
      by (inl low) = low
      by (inr high) =
          let top = faithful.near j node (omega arith) in
          let up = start_le (world_of start v) plan (round_of v j + 1) (suc q) (omega arith)
          (omega arith) in
          absurd (omega arith)

  stood_closed : (j i q : ℕ) → j < v.setup.nodes → q < v.setup.rounds
      → nat_lt (start (suc q) + i) (count_of v j) ≡ true → q < round_of v j
  stood_closed j i q node few stood = slot_closed j i q node few (ltb-true _ _ stood)

  -- the run under the printed omissions is the recorded one, in each closed round
  pub same_run : v.setup.nodes ≤ 64 → (rows : List ClosedRound)
      → ((r i : ℕ) → 0 < r → i < v.setup.nodes → r < round_of v i
      → printed_omitted rows i r ≡ omitted_in start v r i) → (r i : ℕ) → i < v.setup.nodes
      → r < round_of v i → rounds (world_of start v).algorithm (printed_omits rows) r i
      ≡ state (world_of start v) (history v) r i
  unfolding rounds inbox
  same_run small rows printed zero i node closed = refl
  same_run small rows printed (suc q) i node closed =
      let w = world_of start v in
      let t = history v in
      let n = nodes_are start v in
      let most = faithful.bounded i node in
      let me = same_run small rows printed q i node (omega arith) in
      let set = printed (suc q) i (omega arith) node closed in
      end_same w (suc q) i _ _ _ _
      (filter_map_same
      (λ j. if printed_omits rows i (suc q) j then None else received j
      (w.algorithm.send (suc q) (rounds w.algorithm (printed_omits rows) q j) j i))
      (λ j. if not (carried w t i (suc q) j) then None else received j
      (w.algorithm.send (suc q) (state w t q j) j i))
      0 (nodes_of w)
      (λ j l.
      let ours : j < v.setup.nodes = omega arith in
      let below : nat_lt j v.setup.nodes ≡ true = grind (arith, nat_tests) in
      let e : suc q - 1 ≡ q = omega arith in
      let test : printed_omits rows i (suc q) j ≡ prints_omitted (carried w t i (suc q))
      (λ k. is_some (w.algorithm.send (suc q) (state w t q k) k i))
      (λ k. nat_lt (start (suc q) + i) (steps k t)) j =
      ap (λ s. is_in s j) set
      ∙ is_in-set_of v.setup.nodes
      (prints_omitted (carried_in start v (suc q) i) (sends_in start v (suc q) i)
      (stands_in start v (suc q) i)) j
      ∙ ap (λ b. b && prints_omitted (carried_in start v (suc q) i) (sends_in start v (suc q) i)
      (stands_in start v (suc q) i) j) below
      ∙ ap (λ x. prints_omitted (carried_in start v (suc q) i)
      (λ k. is_some (w.algorithm.send (suc q) (state w t x k) k i))
      (stands_in start v (suc q) i) j) e in
      let again = λ (past : q < round_of v j). ap (λ s. w.algorithm.send (suc q) s j i)
      (same_run small rows printed q j ours past) in
      ap (λ b. cond b None
      (received j (w.algorithm.send (suc q) (rounds w.algorithm (printed_omits rows) q j) j i)))
      test
      ∙ entry_same j (carried w t i (suc q) j) (nat_lt (start (suc q) + i) (steps j t)) _
      (w.algorithm.send (suc q) (state w t q j) j i)
      (λ c. again (slot_closed j i q ours (omega arith) (carried_sent w t i (suc q) j c)))
      (λ s. again (stood_closed j i q ours (omega arith) s))))
      me

-- so each row's state is that of the run under the omissions that the rows print
pub rows_in_rounds : (start : ℕ → ℕ) (v : Log) (rows : List ClosedRound) → IsPlan (world_of start v)
    → IsFaithful start v → v.setup.nodes ≤ 64 → All (IsReported start v) rows
    → map place rows ≡ closed_rounds v
    → All (IsOfRounds (world_of start v).algorithm (printed_omits rows)) rows
rows_in_rounds start v rows plan faithful small reported listed =
    let printed = λ (r i : ℕ) (first : 0 < r) (node : i < v.setup.nodes)
    (closed : r < round_of v i).
    printed_is start v rows r i reported
    (subst (λ ps. Among (r, i) ps) (sym listed)
    (closed_listed v r i first (let most = faithful.bounded i node in
    omega arith) node closed)) in
    All-weaker (IsReported start v) (IsOfRounds (world_of start v).algorithm (printed_omits rows))
    (λ row is. is.stated
    ∙ sym (same_run plan faithful small rows printed row.round row.node is.node is.closed)) rows
    reported
