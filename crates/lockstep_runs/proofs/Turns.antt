-- The turns of the nodes in a tick.
use Rattle.std.proofs.Common.{◌≡◌, ℕ, ◌+◌, ◌-◌, ◌*◌, ◌%◌, ◌<◌, ◌≤◌, Bool, true, ltb, List}
use Rattle.std.proofs.Common.{◌∷◌, Option, Some, None, sym, ap, subst, refl, ◌∙◌, arith, ◌⊎◌, inl}
use Rattle.std.proofs.Common.{inr, if◌then◌else◌}
use Rattle.std.specs.Prelude.{IfSome, min}
use Rattle.std.proofs.lemmas.Bool.{cases_eq, cases_lt, le-ltb, lt-ltb, eq-eqb, ne_eqb}
use Rattle.std.proofs.lemmas.Bool.Decides.{nat_tests}
use Rattle.std.proofs.lemmas.Nat.{mod_below}
use Rattle.std.proofs.Math.Arith.{digits_mod}
use Rattle.std.proofs.Math.Nat.{mod-eq_of_lt}
use Rattle.step_book.specs.Trace.{steps}
use Rattle.step_book.specs.World.{World, nodes_of}
use Rattle.step_book.proofs.Places.{steps_at, steps_other}
use Rattle.run_events.specs.declared.event.Event.{Event}
use Rattle.run_events.specs.declared.event.Event.TheVariants.{Step}
use Rattle.lockstep_runs.specs.Lockstep.{Key, first_in, turn_in}
use Rattle.lockstep_runs.specs.Pacing.{AreSteps}
use Rattle.lockstep_runs.specs.Timing.{Timing, steps_in}

-- the key of a turn of a tick's steps
abbrev pub turn_key : ℕ → ℕ → Key
turn_key tick turn = record { tick = tick; part = 1; turn = turn }

-- how many steps each node took in a tick whose first turns are over
abbrev pub AreStepsIn : World → Timing → List Event → ℕ → ℕ → Type 0
AreStepsIn w b t tick turns =
    (i : ℕ) → i < nodes_of w
    → steps i t ≡ steps_in (if ltb (turn_in b (nodes_of w) tick i) turns then tick + 1 else tick)
    (b.stop i)

-- a node that hasn't stopped took a step in each tick
going_by : (stop : Option ℕ) (tick : ℕ) → IfSome stop (λ s. tick < s) → steps_in tick stop ≡ tick
going_by None tick h = refl
going_by (Some s) tick h = omega arith

-- and takes one more
goes_by : (stop : Option ℕ) (tick : ℕ) → IfSome stop (λ s. tick < s)
    → steps_in (tick + 1) stop ≡ tick + 1
goes_by None tick h = refl
goes_by (Some s) tick h = omega arith

-- one that has stopped takes none
stopped_by : (stop : Option ℕ) (tick : ℕ) → (IfSome stop (λ s. tick < s) → ⊥)
    → steps_in (tick + 1) stop ≡ steps_in tick stop
stopped_by None tick h = absurd (h tt)
stopped_by (Some s) tick h = by (cases_lt tick s)
  where
    by : (tick < s) ⊎ (s ≤ tick) → min (tick + 1) s ≡ min tick s
    by (inl l) = absurd (h l)
    by (inr l) = omega arith

wrapped : (x n : ℕ) → x < n → (x + n) % n ≡ x
wrapped x n l = let e : x + n ≡ 1 * n + x = omega arith in ap (λ y. y % n) e ∙ digits_mod 1 l

turned_by : (f j n : ℕ) → f < n → j < n → (f + j < n) ⊎ (n ≤ f + j) → ((f + j) % n + n - f) % n ≡ j
turned_by f j n a b (inl l) =
    let small = mod-eq_of_lt l in
    let e : (f + j) % n + n - f ≡ j + n = omega (arith, small) in
    ap (λ y. y % n) e ∙ wrapped j n b
turned_by f j n a b (inr l) =
    let k : f + j - n + n ≡ f + j = omega arith in
    let small : (f + j) % n ≡ f + j - n =
    ap (λ y. y % n) (sym k) ∙ wrapped (f + j - n) n (omega arith) in
    let e : (f + j) % n + n - f ≡ j = omega (arith, small) in
    ap (λ y. y % n) e ∙ mod-eq_of_lt b

-- the node whose turn is number j
pub turned : (f j n : ℕ) → f < n → j < n → ((f + j) % n + n - f) % n ≡ j
turned f j n a b = turned_by f j n a b (cases_lt _ _)

found_by : (f i n : ℕ) → f < n → i < n → (i < f) ⊎ (f ≤ i) → (f + (i + n - f) % n) % n ≡ i
found_by f i n a b (inl l) =
    let small : (i + n - f) % n ≡ i + n - f = mod-eq_of_lt (omega arith) in
    let e : f + (i + n - f) % n ≡ i + n = omega (arith, small) in
    ap (λ y. y % n) e ∙ wrapped i n b
found_by f i n a b (inr l) =
    let k : i + n - f ≡ (i - f) + n = omega arith in
    let small : (i + n - f) % n ≡ i - f = ap (λ y. y % n) k ∙ wrapped (i - f) n (omega arith) in
    let e : f + (i + n - f) % n ≡ i = omega (arith, small) in
    ap (λ y. y % n) e ∙ mod-eq_of_lt b

-- and no other node's is
pub found : (f i n : ℕ) → f < n → i < n → (f + (i + n - f) % n) % n ≡ i
found f i n a b = found_by f i n a b (cases_lt _ _)

module _ (w : World) (b : Timing) (tick : ℕ) (some : 0 < nodes_of w) where
  first_below : first_in b (nodes_of w) tick < nodes_of w
  first_below = mod_below _ (nodes_of w) some

  abbrev node_at : ℕ → ℕ
  node_at j = (first_in b (nodes_of w) tick + j) % nodes_of w

  -- the ticks that are over for a node, if it's so that its turn is
  abbrev over : ℕ → Bool → ℕ
  over i done = steps_in (if done then tick + 1 else tick) (b.stop i)

  pub turn_at : (j : ℕ) → j < nodes_of w → turn_in b (nodes_of w) tick (node_at j) ≡ j
  turn_at j l = turned (first_in b (nodes_of w) tick) j (nodes_of w) first_below l

  turn_other : (i j : ℕ) → i < nodes_of w → (i ≡ node_at j → ⊥) → turn_in b (nodes_of w) tick i ≡ j
      → ⊥
  turn_other i j l apart h =
      apart (sym (found (first_in b (nodes_of w) tick) i (nodes_of w) first_below l) ∙ ap node_at h)

  pub steps_begin : (t : List Event) → AreSteps w b t tick → AreStepsIn w b t tick 0
  steps_begin t h =
      λ i l. h i l ∙ ap (over i) (sym (le-ltb (turn_in b (nodes_of w) tick i) 0 (omega arith)))

  pub steps_end : (t : List Event) → AreStepsIn w b t tick (nodes_of w) → AreSteps w b t (tick + 1)
  steps_end t h = λ i l. h i l ∙ ap (over i) (lt-ltb _ _ (mod_below _ (nodes_of w) some))

  -- before its turn
  steps_before : (t : List Event) (j : ℕ) → j < nodes_of w → node_at j < nodes_of w
      → AreStepsIn w b t tick j → steps (node_at j) t ≡ steps_in tick (b.stop (node_at j))
  steps_before t j l m h =
      h (node_at j) m ∙ ap (over (node_at j)) (le-ltb _ j (let e = turn_at j l in omega arith))

  -- the node whose turn it is has as many steps as ticks are over, if it hasn't stopped
  pub steps_now : (t : List Event) (j : ℕ) → j < nodes_of w → node_at j < nodes_of w
      → IfSome (b.stop (node_at j)) (λ s. tick < s) → AreStepsIn w b t tick j
      → steps (node_at j) t ≡ tick
  steps_now t j l m c h = steps_before t j l m h ∙ going_by (b.stop (node_at j)) tick c

  same_turn : (i j : ℕ) → i < nodes_of w → (i ≡ node_at j → ⊥)
      → ltb (turn_in b (nodes_of w) tick i) (j + 1) ≡ ltb (turn_in b (nodes_of w) tick i) j
  same_turn i j l apart = turn_tests (turn_in b (nodes_of w) tick i) j (turn_other i j l apart)
    where
      turn_tests : (x j : ℕ) → (x ≡ j → ⊥) → ltb x (j + 1) ≡ ltb x j
      turn_tests x j ne = grind (arith, nat_tests)

  -- after its turn
  done_now : (j : ℕ) → j < nodes_of w → ltb (turn_in b (nodes_of w) tick (node_at j)) (j + 1) ≡ true
  done_now j l = lt-ltb _ (j + 1) (let e = turn_at j l in omega arith)

  stepped_by : (t : List Event) (i j : ℕ) → j < nodes_of w
      → IfSome (b.stop (node_at j)) (λ s. tick < s) → i < nodes_of w → AreStepsIn w b t tick j
      → (i ≡ node_at j) ⊎ (i ≡ node_at j → ⊥)
      → steps i (Step (node_at j) ∷ t) ≡ over i (ltb (turn_in b (nodes_of w) tick i) (j + 1))
  stepped_by t i j l c m h (inl same) =
      let own : node_at j < nodes_of w = subst (λ x. x < nodes_of w) same m in
      subst (λ x. steps x (Step (node_at j) ∷ t)
      ≡ over x (ltb (turn_in b (nodes_of w) tick x) (j + 1))) (sym same)
      (steps_at (node_at j) (Step (node_at j)) t (eq-eqb (node_at j) (node_at j) refl)
      ∙ ap (λ x. x + 1) (steps_now t j l own c h)
      ∙ sym (goes_by (b.stop (node_at j)) tick c)
      ∙ sym (ap (over (node_at j)) (done_now j l)))
  stepped_by t i j l c m h (inr apart) =
      steps_other i (Step (node_at j)) t (ne_eqb (node_at j) i (λ e. apart (sym e)))
      ∙ h i m ∙ ap (over i) (sym (same_turn i j m apart))

  -- its step
  pub steps_stepped : (t : List Event) (j : ℕ) → j < nodes_of w
      → IfSome (b.stop (node_at j)) (λ s. tick < s) → AreStepsIn w b t tick j
      → AreStepsIn w b (Step (node_at j) ∷ t) tick (j + 1)
  steps_stepped t j l c h = λ i m. stepped_by t i j l c m h (cases_eq _ _)

  passed_by : (t : List Event) (i j : ℕ) → j < nodes_of w
      → (IfSome (b.stop (node_at j)) (λ s. tick < s) → ⊥) → i < nodes_of w → AreStepsIn w b t tick j
      → (i ≡ node_at j) ⊎ (i ≡ node_at j → ⊥)
      → steps i t ≡ over i (ltb (turn_in b (nodes_of w) tick i) (j + 1))
  passed_by t i j l c m h (inl same) =
      let own : node_at j < nodes_of w = subst (λ x. x < nodes_of w) same m in
      subst (λ x. steps x t ≡ over x (ltb (turn_in b (nodes_of w) tick x) (j + 1))) (sym same)
      (steps_before t j l own h
      ∙ sym (stopped_by (b.stop (node_at j)) tick c)
      ∙ sym (ap (over (node_at j)) (done_now j l)))
  passed_by t i j l c m h (inr apart) = h i m ∙ ap (over i) (sym (same_turn i j m apart))

  -- the turn of a node that has stopped
  pub steps_passed : (t : List Event) (j : ℕ) → j < nodes_of w
      → (IfSome (b.stop (node_at j)) (λ s. tick < s) → ⊥) → AreStepsIn w b t tick j
      → AreStepsIn w b t tick (j + 1)
  steps_passed t j l c h = λ i m. passed_by t i j l c m h (cases_eq _ _)
