-- The nodes that have stopped, and what they leave to be heard.
use Rattle.std.proofs.Common.{◌≡◌, ℕ, ◌+◌, ◌<◌, ◌≤◌, Bool, true, false, cond, List, [], ◌∷◌, ◌++◌}
use Rattle.std.proofs.Common.{length, refl, sym, ap, ◌∙◌, subst, arith, ◌⊎◌, inl, inr}
use Rattle.std.specs.Prelude.{◌↔◌, ◌||◌, ◌&&◌, IsTrue, nat_eq, nat_lt, slice_index_or}
use Rattle.std.specs.List.{count_by, range_with_len}
use Rattle.std.proofs.lemmas.Bool.{cases_lt, false≢true}
use Rattle.std.proofs.lemmas.Bool.Decides.{nat_tests}
use Rattle.std.proofs.lemmas.List.{get_or_append_left, get_or_push}
use Rattle.std.proofs.lemmas.List.Sums.{sum_by-append}
use Rattle.std.proofs.lemmas.Nat.Bits.{bit_at-zero}
use Rattle.round_lang.specs.Sets.{is_in, only, union}
use Rattle.round_meaning.specs.Nodes.{has_node}
use Rattle.round_meaning.proofs.SetReading.{is_in-set_of}
use Rattle.round_explorer.specs.declared.question.Failure.{Failure}
use Rattle.round_explorer.specs.declared.question.Failure.TheVariants.{Never}
use Rattle.round_explorer.specs.Questions.{HasStopped, IsRow, failure_of, is_faulty}
use Rattle.round_explorer.specs.Searched.{AreSame, Case, LeavesEnough, MayBeHeardOf, has_stopped}
use Rattle.round_explorer.specs.Searched.{is_stopped}
use Rattle.round_explorer.proofs.AllCases.{one_faulty}
use Rattle.round_explorer.proofs.AllRows.{count_by-more, count_by-same, is_stopped_by, stopped_is}
use Rattle.round_explorer.proofs.AllRows.{stopped_row}
use Rattle.run_samples.specs.Samples.{AreStopped}

below_64 : (s i : ℕ) → i < 64 → has_node s i ≡ is_in s i
below_64 s i l =
    let t : nat_lt i 64 ≡ true = grind (arith, nat_tests) in
    ap (λ b. b && is_in s i) t

not_below_64 : (s i : ℕ) → 64 ≤ i → has_node s i ≡ false
not_below_64 s i l =
    let t : nat_lt i 64 ≡ false = grind (arith, nat_tests) in
    ap (λ b. b && is_in s i) t

-- a node of a set with one node more
with_node : (s n i : ℕ) → i < 64 → has_node (union s (only 64 n)) i ≡ (has_node s i || nat_eq i n)
with_node s n i l =
    below_64 (union s (only 64 n)) i l
    ∙ is_in-set_of 64 (λ v. is_in s v || is_in (only 64 n) v) i l
    ∙ ap (λ b. b || is_in (only 64 n) i) (sym (below_64 s i l))
    ∙ ap (λ b. has_node s i || b) (is_in-set_of 64 (λ v. nat_eq v n) i l)

no_node : (i : ℕ) → has_node 0 i ≡ false
unfolding is_in
no_node i = go (cases_lt i 64)
  where
    go : (i < 64) ⊎ (64 ≤ i) → has_node 0 i ≡ false
    go (inl l) = below_64 0 i l ∙ ap (λ n. nat_eq n 1) (bit_at-zero i)
    go (inr l) = not_below_64 0 i l

or_false : (b : Bool) → (b || false) ≡ b
or_false true = refl
or_false false = refl

or_true : (b : Bool) → (b || true) ≡ true
or_true true = refl
or_true false = refl

module _ (c : Case) (r : ℕ) where
  pub none_stopped : AreStopped c r 0 0
  none_stopped = record {
    below = λ j l. absurd (omega (arith, l));
    past = λ j l. no_node j;
  }

  -- a node more that has stopped
  pub one_stopped : (n s : ℕ) → n < 64 → has_stopped c.pattern r n ≡ true → AreStopped c r n s
      → AreStopped c r (n + 1) (union s (only 64 n))
  one_stopped n s small is h = record {
    below = λ j l. lower j l (cases_lt j n);
    past = λ j l. higher j l (cases_lt j 64);
  }
    where
      lower : (j : ℕ) → j < n + 1 → (j < n) ⊎ (n ≤ j)
          → has_node (union s (only 64 n)) j ≡ has_stopped c.pattern r j
      lower j l (inl b) =
          let other : nat_eq j n ≡ false = grind (arith, nat_tests) in
          with_node s n j (omega arith) ∙ ap (λ x. has_node s j || x) other
          ∙ or_false (has_node s j) ∙ h.below j b
      lower j l (inr b) =
          let here : n ≡ j = omega arith in
          let same : nat_eq j n ≡ true = grind (arith, nat_tests) in
          with_node s n j (omega arith) ∙ ap (λ x. has_node s j || x) same
          ∙ or_true (has_node s j) ∙ sym is ∙ ap (has_stopped c.pattern r) here

      higher : (j : ℕ) → n + 1 ≤ j → (j < 64) ⊎ (64 ≤ j)
          → has_node (union s (only 64 n)) j ≡ false
      higher j l (inl b) =
          let other : nat_eq j n ≡ false = grind (arith, nat_tests) in
          with_node s n j b ∙ ap (λ x. has_node s j || x) other
          ∙ or_false (has_node s j) ∙ h.past j (omega arith)
      higher j l (inr b) = not_below_64 (union s (only 64 n)) j b

  -- a node more that hasn't
  pub one_running : (n s : ℕ) → has_stopped c.pattern r n ≡ false → AreStopped c r n s
      → AreStopped c r (n + 1) s
  one_running n s is h = record {
    below = λ j l. lower j l (cases_lt j n);
    past = λ j l. h.past j (omega arith);
  }
    where
      lower : (j : ℕ) → j < n + 1 → (j < n) ⊎ (n ≤ j)
          → has_node s j ≡ has_stopped c.pattern r j
      lower j l (inl b) = h.below j b
      lower j l (inr b) =
          let here : n ≡ j = omega arith in
          h.past j b ∙ sym is ∙ ap (has_stopped c.pattern r) here

  -- whether a node may be heard says whether it has stopped
  pub stopped_if : (j : ℕ) (b : Bool) → (IsTrue b ↔ MayBeHeardOf c r j) → b ≡ false
      → has_stopped c.pattern r j ≡ true
  stopped_if j b iff unheard = go (has_stopped c.pattern r j) refl
    where
      go : (x : Bool) → has_stopped c.pattern r j ≡ x → has_stopped c.pattern r j ≡ true
      go true e = e
      go false e = absurd (false≢true (sym unheard
          ∙ iff.1 (λ h. false≢true (sym e ∙ is_stopped_by (failure_of c.pattern j) r h))))

  pub running_if : (j : ℕ) (b : Bool) → (IsTrue b ↔ MayBeHeardOf c r j) → b ≡ true
      → has_stopped c.pattern r j ≡ false
  running_if j b iff heard = go (has_stopped c.pattern r j) refl
    where
      go : (x : Bool) → has_stopped c.pattern r j ≡ x → has_stopped c.pattern r j ≡ false
      go false e = e
      go true e = absurd (iff.0 heard (stopped_is (failure_of c.pattern j) r e))

  -- the nodes that have stopped are a row
  pub stopped_are_row : (s : ℕ) → r ≤ c.setup.rounds → LeavesEnough c
      → AreStopped c r c.setup.nodes s
      → IsRow c.question c.setup.nodes c.pattern r (has_node s)
  stopped_are_row s past enough h =
      stopped_row c.question c.setup.nodes c.pattern r c.setup.rounds (has_node s) past enough
      (λ j l e. stopped_is (failure_of c.pattern j) r (sym (h.below j l) ∙ e))
      (λ j l e. h.below j l ∙ is_stopped_by (failure_of c.pattern j) r e)

-- a failure more at the end of a pattern
pub stopped_more : (pattern : List Failure) (failure : Failure) (r : ℕ)
    → count_by (has_stopped (pattern ++ failure ∷ []) r) (range_with_len 0 (length pattern + 1))
    ≡ count_by (has_stopped pattern r) (range_with_len 0 (length pattern))
    + cond (is_stopped failure r) 1 0
stopped_more pattern failure r =
    let n = length pattern in
    let more = pattern ++ failure ∷ [] in
    let same : AreSame n (has_stopped more r) (has_stopped pattern r) =
    λ j l. ap (λ x. is_stopped x r) (get_or_append_left pattern (failure ∷ []) Never j l) in
    count_by-more (has_stopped more r) n
    ∙ ap (λ k. k + cond (has_stopped more r n) 1 0)
    (count_by-same (has_stopped more r) (has_stopped pattern r) n same)
    ∙ ap (λ x. count_by (has_stopped pattern r) (range_with_len 0 n) + cond (is_stopped x r) 1 0)
    (get_or_push pattern failure Never n refl)

-- the count of those that stop, with a failure more and as many fewer to spare as it stops
pub enough_more : (pattern new : List Failure) (failure : Failure) (r n old_spare spare most : ℕ)
    → new ≡ pattern ++ failure ∷ [] → length pattern ≡ n
    → old_spare ≡ spare + cond (is_stopped failure r) 1 0
    → count_by (has_stopped pattern r) (range_with_len 0 n) + old_spare ≤ most
    → count_by (has_stopped new r) (range_with_len 0 (n + 1)) + spare ≤ most
enough_more pattern new failure r n old_spare spare most is many less h =
    let more : count_by (has_stopped new r) (range_with_len 0 (n + 1))
    ≡ count_by (has_stopped pattern r) (range_with_len 0 n)
    + cond (is_stopped failure r) 1 0 =
    ap (λ x. count_by (has_stopped x r) (range_with_len 0 (n + 1))) is
    ∙ ap (λ k. count_by (has_stopped (pattern ++ failure ∷ []) r) (range_with_len 0 (k + 1)))
    (sym many) ∙ stopped_more pattern failure r
    ∙ ap (λ k. count_by (has_stopped pattern r) (range_with_len 0 k)
    + cond (is_stopped failure r) 1 0) many in
    omega (arith, more, less, h)

-- the count of those that fail, with a failure more and as many fewer left as it is one
pub faulty_more : (pattern new : List Failure) (failure : Failure) (old_left left most : ℕ)
    → new ≡ pattern ++ failure ∷ [] → left + cond (is_faulty failure) 1 0 ≤ old_left
    → count_by is_faulty pattern + old_left ≤ most → count_by is_faulty new + left ≤ most
faulty_more pattern new failure old_left left most is less h =
    let more : count_by is_faulty new
    ≡ count_by is_faulty pattern + cond (is_faulty failure) 1 0 =
    ap (count_by is_faulty) is ∙ sum_by-append (λ x. cond (is_faulty x) 1 0) pattern (failure ∷ [])
    ∙ ap (λ k. count_by is_faulty pattern + k) (one_faulty failure) in
    omega (arith, more, less, h)
