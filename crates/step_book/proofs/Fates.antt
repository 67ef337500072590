-- What becomes of a copy as a history grows by one event.
use Rattle.std.proofs.Common.{◌≡◌, ℕ, zero, suc, ◌+◌, ◌-◌, ◌<◌, ◌≤◌, ◌==◌, Bool, true, false, ◌&&◌}
use Rattle.std.proofs.Common.{◌||◌, List, [], ◌∷◌, sym, refl, ap, if◌then◌else◌}
use Rattle.std.proofs.Common.{◌∙◌, arith, ◌⊎◌, inl, inr}
use Rattle.std.proofs.lemmas.Bool.{and_parts, cases_Bool, cases_lt, eqb-true}
use Rattle.run_events.specs.declared.event.Event.{Event}
use Rattle.run_events.specs.declared.event.Event.TheVariants.{Step, Release, Drop, Copy}
use Rattle.run_events.specs.declared.name.Name.{Name}
use Rattle.run_events.specs.Names.{original}
use Rattle.step_book.specs.Fates.{Fate, Unmade, Moving, Waiting, Taken, Lost, after, carried, fate}
use Rattle.step_book.specs.Fates.{is_moving, is_slot, is_take, makes, some_copy, taken_near}
use Rattle.step_book.specs.Trace.{is_copy, is_drop, is_release, is_step, steps}
use Rattle.step_book.specs.World.{IsPlan, World, earliest, is_receive, lies_near}
use Rattle.step_book.proofs.Places.{steps_at, steps_grow, steps_other}
use Rattle.step_book.proofs.Plans.{last_is_receive, late_round, lies_after, lies_before}
use Rattle.step_book.proofs.Plans.{lies_within}

pub fate_first : (w : World) (n : Name) → fate w [] n ≡ Unmade
unfolding fate
fate_first w n = refl

pub fate_next : (w : World) (e : Event) (t : List Event) (n : Name)
    → fate w (e ∷ t) n ≡ after w n e t (fate w t (original n)) (fate w t n)
unfolding fate
fate_next w e t n = refl

-- ---- what is made was sent

makes_by : (w : World) (n : Name) (e : Event) (t : List Event) (first : Fate) (b : Bool)
    → (n.copy == 0) ≡ b → makes w n e t first ≡ true
    → (is_slot w n e t ≡ true) ⊎ ((is_copy n e ≡ true) × (is_moving first ≡ true))
makes_by w n e t first true h k = let k2 : is_slot w n e t ≡ true =
    sym (ap (λ (b : Bool). if b then is_slot w n e t else is_copy n e && is_moving first) h) ∙ k in
    inl k2
makes_by w n e t first false h k =
    let k2 : (is_copy n e && is_moving first) ≡ true =
    sym (ap (λ (b : Bool). if b then is_slot w n e t else is_copy n e && is_moving first) h)
    ∙ k in
    inr (and_parts _ _ k2)

-- a copy is made at the sender's slot, or of a copy 0 in flight
pub made_how : (w : World) (n : Name) (e : Event) (t : List Event) (first : Fate)
    → makes w n e t first ≡ true → (is_slot w n e t ≡ true)
    ⊎ ((is_copy n e ≡ true) × (is_moving first ≡ true))
made_how w n e t first h = makes_by w n e t first (n.copy == 0) refl h

slot_now : (w : World) (n : Name) (e : Event) (t : List Event) → is_slot w n e t ≡ true
    → w.start n.round + n.to < steps n.from (e ∷ t)
slot_now w n e t h =
    let both : (is_step n.from e ≡ true) × ((steps n.from t == w.start n.round + n.to) ≡ true) =
    and_parts _ _ h in
    let at = eqb-true _ _ both.1 in
    let more = steps_at n.from e t both.0 in
    omega arith

moving_made : (f : Fate) → is_moving f ≡ true → f ≡ Unmade → ⊥
moving_made Unmade h e = cc
moving_made Moving h e = cc
moving_made (Waiting x) h e = cc
moving_made (Taken x c) h e = cc
moving_made Lost h e = cc

sent_now : (w : World) (e : Event) (t : List Event) (n : Name)
    → (is_slot w n e t ≡ true) ⊎ ((is_copy n e ≡ true) × (is_moving (fate w t (original n)) ≡ true))
    → ((fate w t (original n) ≡ Unmade → ⊥) → w.start n.round + n.to < steps n.from t)
    → w.start n.round + n.to < steps n.from (e ∷ t)
sent_now w e t n (inl h) of = slot_now w n e t h
sent_now w e t n (inr h) of = let up = steps_grow n.from e t in
    omega (arith, of (moving_made _ h.1))

made_by : (w : World) (e : Event) (t : List Event) (n : Name) (f : Fate) (b : Bool)
    → makes w n e t (fate w t (original n)) ≡ b
    → ((f ≡ Unmade → ⊥) → w.start n.round + n.to < steps n.from t)
    → ((fate w t (original n) ≡ Unmade → ⊥) → w.start n.round + n.to < steps n.from t)
    → (after w n e t (fate w t (original n)) f ≡ Unmade → ⊥)
    → w.start n.round + n.to < steps n.from (e ∷ t)
made_by w e t n Unmade true k own of h = sent_now w e t n (made_how w n e t _ k) of
made_by w e t n Unmade false k own of h =
    absurd (h (ap (λ (b : Bool). if b then Moving else Unmade) k))
made_by w e t n Moving b k own of h = let up = steps_grow n.from e t in omega (arith, own (λ u. cc))
made_by w e t n (Waiting x) b k own of h = let up = steps_grow n.from e t in
    omega (arith, own (λ u. cc))
made_by w e t n (Taken x c) b k own of h = let up = steps_grow n.from e t in
    omega (arith, own (λ u. cc))
made_by w e t n Lost b k own of h = let up = steps_grow n.from e t in omega (arith, own (λ u. cc))

pub made_sent : (w : World) (t : List Event) (n : Name) → (fate w t n ≡ Unmade → ⊥)
    → w.start n.round + n.to < steps n.from t
made_sent w [] n h = absurd (h (fate_first w n))
made_sent w (e ∷ t) n h = made_by w e t n (fate w t n) _ refl (made_sent w t n)
    (made_sent w t (original n)) (λ u. h (fate_next w e t n ∙ u))

unmade_by : (w : World) (t : List Event) (n : Name) (f : Fate) → fate w t n ≡ f
    → steps n.from t ≤ w.start n.round + n.to → f ≡ Unmade
unmade_by w t n Unmade e l = refl
unmade_by w t n Moving e l = let s = made_sent w t n (λ u. cc) in absurd (omega arith)
unmade_by w t n (Waiting x) e l = let s = made_sent w t n (λ u. cc) in absurd (omega arith)
unmade_by w t n (Taken x c) e l = let s = made_sent w t n (λ u. cc) in absurd (omega arith)
unmade_by w t n Lost e l = let s = made_sent w t n (λ u. cc) in absurd (omega arith)

-- before its slot nothing of a message is made
pub unmade_before : (w : World) (t : List Event) (n : Name)
    → steps n.from t ≤ w.start n.round + n.to → fate w t n ≡ Unmade
unmade_before w t n l = unmade_by w t n (fate w t n) refl l

-- ---- where it waited, and where it was taken

-- its receiver, which has taken s steps, took it at its first receive
abbrev pub LetIn : World → ℕ → Fate → Type 0
LetIn w s Unmade = Unit {0}
LetIn w s Moving = Unit {0}
LetIn w s (Waiting x) = (x ≤ s) × ((y : ℕ) → x ≤ y → y < s → is_receive w y ≡ false)
LetIn w s (Taken x c) = (x ≤ c) × (c < s) × (is_receive w c ≡ true)
    × ((y : ℕ) → x ≤ y → y < c → is_receive w y ≡ false)
LetIn w s Lost = Unit {0}

let_made : (w : World) (s : ℕ) (b : Bool) → LetIn w s (if b then Moving else Unmade)
let_made w s true = tt
let_made w s false = tt

-- a release is no step
pub release_no_step : (i : ℕ) (n : Name) (e : Event) → is_release n e ≡ true → is_step i e ≡ false
release_no_step i n (Step k) h = cc
release_no_step i n (Release m) h = refl
release_no_step i n (Drop m) h = refl
release_no_step i n (Copy m) h = refl

let_moving : (w : World) (e : Event) (t : List Event) (n : Name) (a : Bool) → is_release n e ≡ a
    → LetIn w (steps n.to (e ∷ t))
    (if is_release n e then Waiting (steps n.to t) else if is_drop n e then Lost else Moving)
let_moving w e t n true h =
    let same = steps_other n.to e t (release_no_step n.to n e h) in
    rw h (omega arith, λ y low high. absurd (omega arith))
let_moving w e t n false h = rw h (let_made_lost (is_drop n e))
  where
    let_made_lost : (b : Bool) → LetIn w (steps n.to (e ∷ t)) (if b then Lost else Moving)
    let_made_lost true = tt
    let_made_lost false = tt

let_waiting : (w : World) (e : Event) (t : List Event) (n : Name) (x : ℕ) (step receive : Bool)
    → is_step n.to e ≡ step → is_receive w (steps n.to t) ≡ receive
    → LetIn w (steps n.to t) (Waiting x)
    → LetIn w (steps n.to (e ∷ t))
    (if is_take w n.to e t then Taken x (steps n.to t) else Waiting x)
let_waiting w e t n x true true h k l = let more = steps_at n.to e t h in
    rw (h, k) (l.0, omega arith, k, l.1)
let_waiting w e t n x true false h k l =
    let more = steps_at n.to e t h in
    rw (h, k) (
      let a = l.0 in omega arith,
      λ y low high. later y low (cases_lt y (steps n.to t)) (omega arith),
    )
  where
    later : (y : ℕ) → x ≤ y → (y < steps n.to t) ⊎ (steps n.to t ≤ y) → y < steps n.to t + 1
        → is_receive w y ≡ false
    later y low (inl old) high = l.1 y low old
    later y low (inr new) high = let same : y ≡ steps n.to t = omega arith in ap (is_receive w) same
        ∙ k
let_waiting w e t n x false receive h k l =
    let same = steps_other n.to e t h in
    rw h (let a = l.0 in omega arith, λ y low high. l.1 y low (omega arith))

let_next : (w : World) (e : Event) (t : List Event) (n : Name) (first f : Fate)
    → LetIn w (steps n.to t) f → LetIn w (steps n.to (e ∷ t)) (after w n e t first f)
let_next w e t n first Unmade l = let_made w (steps n.to (e ∷ t)) (makes w n e t first)
let_next w e t n first Moving l = let_moving w e t n _ refl
let_next w e t n first (Waiting x) l = let_waiting w e t n x _ _ refl refl l
let_next w e t n first (Taken x c) l = let up = steps_grow n.to e t in
    (l.0, let a = l.1 in omega arith, l.2, l.3)
let_next w e t n first Lost l = tt

pub let_in : (w : World) (t : List Event) (n : Name) → LetIn w (steps n.to t) (fate w t n)
let_in w [] n = rw (fate_first w n) tt
let_in w (e ∷ t) n = rw (fate_next w e t n)
    (let_next w e t n (fate w t (original n)) (fate w t n) (let_in w t n))

-- ---- what is carried to a round that is past

-- it was let in while its receiver was in one of the rounds in which it's kept
abbrev pub let_near : World → ℕ → Fate → Bool
let_near w r Unmade = false
let_near w r Moving = false
let_near w r (Waiting x) = lies_near w r x
let_near w r (Taken x c) = lies_near w r x
let_near w r Lost = false

module _ (w : World) (p : IsPlan w) (r s : ℕ) (z : 0 < r) (l : r ≤ w.rounds)
    (past : w.start (r + 1) ≤ s) where
  last_taken : is_receive w (w.start (r + 1) - 1) ≡ true
  last_taken = let up = p.next r z in last_is_receive w p r (w.start (r + 1) - 1) z l (omega arith)

  near_waiting : (x : ℕ) → ((y : ℕ) → x ≤ y → y < s → is_receive w y ≡ false)
      → (x < w.start (r + 1)) ⊎ (w.start (r + 1) ≤ x) → false ≡ lies_near w r x
  near_waiting x none (inl low) =
      let up = p.next r z in
      let off = none (w.start (r + 1) - 1) (omega arith) (omega arith) in
      let on = last_taken in
      absurd cc
  near_waiting x none (inr high) = sym (lies_after w r x high)

  -- the last receive before the rounds in which it's kept
  early_taken : w.start (earliest r) ≤ w.start (earliest r) → 0 < w.start (earliest r)
      → is_receive w (w.start (earliest r) - 1) ≡ true
  early_taken same some =
      let two : 1 < earliest r = late_round w p (earliest r) some (omega arith) in
      let e : (earliest r - 1) + 1 ≡ earliest r = omega arith in
      let again = ap w.start e in
      last_is_receive w p (earliest r - 1) (w.start (earliest r) - 1) (omega arith) (omega arith)
      (omega arith)

  near_taken : (x c : ℕ) → x ≤ c → ((y : ℕ) → x ≤ y → y < c → is_receive w y ≡ false)
      → (x < w.start (earliest r)) ⊎ (w.start (earliest r) ≤ x)
      → (x < w.start (r + 1)) ⊎ (w.start (r + 1) ≤ x)
      → (c < w.start (earliest r)) ⊎ (w.start (earliest r) ≤ c)
      → (c < w.start (r + 1)) ⊎ (w.start (r + 1) ≤ c) → lies_near w r c ≡ lies_near w r x
  near_taken x c up none (inl a) b (inl d) e = lies_before w r c d ∙ sym (lies_before w r x a)
  near_taken x c up none (inl a) b (inr d) e =
      let off = none (w.start (earliest r) - 1) (omega arith) (omega arith) in
      let on = early_taken (omega arith) (omega arith) in
      absurd cc
  near_taken x c up none (inr a) (inl b) d (inl e) = lies_within w r c (omega arith) e
      ∙ sym (lies_within w r x a b)
  near_taken x c up none (inr a) (inl b) d (inr e) =
      let more = p.next r z in
      let off = none (w.start (r + 1) - 1) (omega arith) (omega arith) in
      let on = last_taken in
      absurd cc
  near_taken x c up none (inr a) (inr b) d e = lies_after w r c (omega arith)
      ∙ sym (lies_after w r x b)

  pub near_is : (f : Fate) → LetIn w s f → taken_near w r f ≡ let_near w r f
  near_is Unmade h = refl
  near_is Moving h = refl
  near_is (Waiting x) h = near_waiting x h.1 (cases_lt _ _)
  near_is (Taken x c) h = near_taken x c h.0 h.3 (cases_lt _ _) (cases_lt _ _) (cases_lt _ _)
      (cases_lt _ _)
  near_is Lost h = refl

-- ---- one of a message's copies

pub some_same : (a b : ℕ → Bool) → ((k : ℕ) → a k ≡ b k) → some_copy a ≡ some_copy b
some_same a b h = rw (h 0, h 1, h 2, h 3) refl

some_by : (a b c d : Bool) → (a || b || c || d) ≡ true
    → (a ≡ true) ⊎ (b ≡ true) ⊎ (c ≡ true) ⊎ (d ≡ true)
some_by true b c d h = inl refl
some_by false true c d h = inr (inl refl)
some_by false false true d h = inr (inr (inl refl))
some_by false false false d h = inr (inr (inr h))

some_found_by : (a : ℕ → Bool) → (a 0 ≡ true) ⊎ (a 1 ≡ true) ⊎ (a 2 ≡ true) ⊎ (a 3 ≡ true)
    → (k : ℕ) × (k ≤ 3) × (a k ≡ true)
some_found_by a (inl h) = (0, omega arith, h)
some_found_by a (inr (inl h)) = (1, omega arith, h)
some_found_by a (inr (inr (inl h))) = (2, omega arith, h)
some_found_by a (inr (inr (inr h))) = (3, omega arith, h)

-- it holds of one of them
pub some_found : (a : ℕ → Bool) → some_copy a ≡ true → (k : ℕ) × (k ≤ 3) × (a k ≡ true)
some_found a h = some_found_by a (some_by (a 0) (a 1) (a 2) (a 3) h)

or_first : (a b c d : Bool) → a ≡ true → (a || b || c || d) ≡ true
or_first a b c d h = rw h refl

or_second : (a b c d : Bool) → b ≡ true → (a || b || c || d) ≡ true
or_second true b c d h = refl
or_second false b c d h = rw h refl

or_third : (a b c d : Bool) → c ≡ true → (a || b || c || d) ≡ true
or_third true b c d h = refl
or_third false true c d h = refl
or_third false false c d h = rw h refl

or_fourth : (a b c d : Bool) → d ≡ true → (a || b || c || d) ≡ true
or_fourth true b c d h = refl
or_fourth false true c d h = refl
or_fourth false false true d h = refl
or_fourth false false false d h = h

-- where it holds of one
pub some_of : (a : ℕ → Bool) (k : ℕ) → k ≤ 3 → a k ≡ true → some_copy a ≡ true
some_of a zero l h = or_first (a 0) (a 1) (a 2) (a 3) h
some_of a (suc zero) l h = or_second (a 0) (a 1) (a 2) (a 3) h
some_of a (suc (suc zero)) l h = or_third (a 0) (a 1) (a 2) (a 3) h
some_of a (suc (suc (suc zero))) l h = or_fourth (a 0) (a 1) (a 2) (a 3) h
some_of a (suc (suc (suc (suc k)))) l h = absurd (omega arith)

-- it holds of none if it holds of no copy
pub some_none : (a : ℕ → Bool) → ((k : ℕ) → k ≤ 3 → a k ≡ false) → some_copy a ≡ false
some_none a h = rw (h 0 (omega arith), h 1 (omega arith), h 2 (omega arith), h 3 (omega arith)) refl

-- if it holds of none, it holds of no copy
pub none_of : (a : ℕ → Bool) (k : ℕ) → k ≤ 3 → some_copy a ≡ false → a k ≡ false
none_of a k l h = by (cases_Bool (a k))
  where
    by : (a k ≡ true) ⊎ (a k ≡ false) → a k ≡ false
    by (inl on) = let yes = some_of a k l on in cc
    by (inr off) = off

-- ---- what is carried

-- copy k of the message of round r from j to i
abbrev pub copy_to : ℕ → ℕ → ℕ → ℕ → Name
copy_to j i r k = record { from = j; to = i; round = r; copy = k }

pub carried_by : (w : World) (t : List Event) (i r j : ℕ)
    → carried w t i r j ≡ some_copy (λ k. taken_near w r (fate w t (copy_to j i r k)))
unfolding carried
carried_by w t i r j = refl

-- once i's round r is past, a message is carried where a copy was let in while i was in one of the
-- rounds in which it's kept
pub carried_is : (w : World) → IsPlan w → (i r j : ℕ) (t : List Event) → 0 < r → r ≤ w.rounds
    → w.start (r + 1) ≤ steps i t
    → carried w t i r j ≡ some_copy (λ k. let_near w r (fate w t (copy_to j i r k)))
carried_is w p i r j t z l n =
    carried_by w t i r j
    ∙ some_same _ _ (λ k. near_is w p r (steps i t) z l n (fate w t (copy_to j i r k))
    (let_in w t (copy_to j i r k)))

taken_made : (w : World) (r : ℕ) (f : Fate) → taken_near w r f ≡ true → f ≡ Unmade → ⊥
taken_made w r Unmade h e = cc
taken_made w r Moving h e = cc
taken_made w r (Waiting x) h e = cc
taken_made w r (Taken x c) h e = cc
taken_made w r Lost h e = cc

-- what is carried was sent
pub carried_sent : (w : World) (t : List Event) (i r j : ℕ) → carried w t i r j ≡ true
    → w.start r + i < steps j t
carried_sent w t i r j h =
    let k = some_found (λ k. taken_near w r (fate w t (copy_to j i r k)))
    (sym (carried_by w t i r j) ∙ h) in
    made_sent w t (copy_to j i r k.0) (taken_made w r _ k.2)

pub kept_made : (w : World) (r : ℕ) (b : Bool)
    → taken_near w r (if b then Moving else Unmade) ≡ false
kept_made w r true = refl
kept_made w r false = refl

pub kept_left : (w : World) (r x : ℕ) (a b : Bool)
    → taken_near w r (if a then Waiting x else if b then Lost else Moving) ≡ false
kept_left w r x true b = refl
kept_left w r x false true = refl
kept_left w r x false false = refl

kept_taken : (w : World) (r x c : ℕ) (b : Bool) → w.start (r + 1) ≤ c
    → taken_near w r (if b then Taken x c else Waiting x) ≡ false
kept_taken w r x c true l = lies_after w r c l
kept_taken w r x c false l = refl

near_kept : (w : World) (n : Name) (r : ℕ) (e : Event) (t : List Event) (first f : Fate)
    → w.start (r + 1) ≤ steps n.to t → taken_near w r (after w n e t first f) ≡ taken_near w r f
near_kept w n r e t first Unmade l = kept_made w r (makes w n e t first)
near_kept w n r e t first Moving l = kept_left w r (steps n.to t) (is_release n e) (is_drop n e)
near_kept w n r e t first (Waiting x) l = kept_taken w r x (steps n.to t) (is_take w n.to e t) l
near_kept w n r e t first (Taken x c) l = refl
near_kept w n r e t first Lost l = refl

-- a later event changes nothing of what is carried to a round that is past
pub carried_kept : (w : World) (i r j : ℕ) (e : Event) (t : List Event)
    → w.start (r + 1) ≤ steps i t → carried w (e ∷ t) i r j ≡ carried w t i r j
carried_kept w i r j e t n =
    carried_by w (e ∷ t) i r j
    ∙ some_same _ _ (λ k. ap (taken_near w r) (fate_next w e t (copy_to j i r k))
    ∙ near_kept w (copy_to j i r k) r e t (fate w t (copy_to j i r 0))
    (fate w t (copy_to j i r k)) n)
    ∙ sym (carried_by w t i r j)
