-- The places of a history's events that pass a test, and the moments of these events.
use Rattle.std.proofs.Common.{◌≡◌, ℕ, ◌+◌, ◌<◌, ◌≤◌, Bool, true, false, List, [], ◌∷◌, ◌++◌}
use Rattle.std.proofs.Common.{length, Option, Some, None, sym, refl, ap, ◌∙◌, arith, ◌⊎◌, inl}
use Rattle.std.proofs.Common.{inr, if◌then◌else◌}
use Rattle.std.specs.Prelude.{reverse}
use Rattle.std.specs.List.{slice_get}
use Rattle.std.proofs.lemmas.Bool.{cases_Bool, cases_lt}
use Rattle.std.proofs.lemmas.List.{get_or_append_left, length_push}
use Rattle.std.proofs.lemmas.Option.{same_Some, slice_get-get_or, slice_get_within}
use Rattle.std.proofs.Math.Seq.{get_or-append_seam}
use Rattle.run_events.specs.declared.event.Event.{Event}
use Rattle.step_book.specs.Places.{IsStepAt, steps_before}
use Rattle.step_book.specs.Trace.{is_step, steps}
use Rattle.step_book.proofs.Moments.{At, Newest, Older, at_place, at_steps}
use Rattle.step_book.proofs.Placed.{step_event}
use Rattle.step_book.proofs.Places.{steps_at, steps_other}
use Rattle.omission_reasons.specs.Listing.{listed, places_where}

-- ---- a list with one item more

read_left : (xs : List ℕ) (x k : ℕ) → k < length xs
    → slice_get (xs ++ x ∷ []) k ≡ slice_get xs k
read_left xs x k l =
    slice_get-get_or (xs ++ x ∷ []) k x (let n = length_push xs x in omega arith)
    ∙ ap Some (get_or_append_left xs (x ∷ []) x k l) ∙ sym (slice_get-get_or xs k x l)

read_last : (xs : List ℕ) (x : ℕ) → slice_get (xs ++ x ∷ []) (length xs) ≡ Some x
read_last xs x =
    slice_get-get_or (xs ++ x ∷ []) (length xs) x (let n = length_push xs x in omega arith)
    ∙ ap Some (get_or-append_seam xs x [] x)

-- ---- the list, event by event

pub listed_first : (q : Event → Bool) → places_where q [] ≡ []
unfolding places_where
listed_first q = refl

pub listed_next : (q : Event → Bool) (e : Event) (t : List Event)
    → places_where q (e ∷ t) ≡ listed q e (length t) (places_where q t)
unfolding places_where
listed_next q e t = refl

listed_on : (q : Event → Bool) (e : Event) (t : List Event) → q e ≡ true
    → places_where q (e ∷ t) ≡ places_where q t ++ length t ∷ []
listed_on q e t h = listed_next q e t
    ∙ ap (λ (b : Bool). if b then places_where q t ++ length t ∷ [] else places_where q t) h

listed_off : (q : Event → Bool) (e : Event) (t : List Event) → q e ≡ false
    → places_where q (e ∷ t) ≡ places_where q t
listed_off q e t h = listed_next q e t
    ∙ ap (λ (b : Bool). if b then places_where q t ++ length t ∷ [] else places_where q t) h

-- ---- what stands in the list

-- an event at place p passes the test, and is number c of those that do
pub record Listed (q : Event → Bool) (t : List Event) (c p : ℕ) : Type 0 where
  pub moment : List Event
  pub event : Event
  pub stands : At moment event t
  pub passes : q event ≡ true
  pub place : length moment ≡ p
  pub number : length (places_where q moment) ≡ c

listed_older : (q : Event → Bool) (e : Event) (t : List Event) (c p : ℕ) → Listed q t c p
    → Listed q (e ∷ t) c p
listed_older q e t c p h = record {
  moment = h.moment;
  event = h.event;
  stands = Older e t h.stands;
  passes = h.passes;
  place = h.place;
  number = h.number;
}

listed_by : (q : Event → Bool) (e : Event) (t : List Event) (c p : ℕ)
    → slice_get (places_where q (e ∷ t)) c ≡ Some p → (q e ≡ true) ⊎ (q e ≡ false)
    → (c < length (places_where q t)) ⊎ (length (places_where q t) ≤ c)
    → (slice_get (places_where q t) c ≡ Some p → Listed q t c p) → Listed q (e ∷ t) c p
listed_by q e t c p h (inr off) l past =
    listed_older q e t c p (past (sym (ap (λ xs. slice_get xs c) (listed_off q e t off)) ∙ h))
listed_by q e t c p h (inl on) (inl low) past =
    listed_older q e t c p
    (past (sym (ap (λ xs. slice_get xs c) (listed_on q e t on)
    ∙ read_left (places_where q t) (length t) c low) ∙ h))
listed_by q e t c p h (inl on) (inr high) past =
    let xs = places_where q t in
    let g : slice_get (xs ++ length t ∷ []) c ≡ Some p =
    sym (ap (λ ys. slice_get ys c) (listed_on q e t on)) ∙ h in
    let within = slice_get_within (xs ++ length t ∷ []) c p g in
    let n = length_push xs (length t) in
    let last : length xs ≡ c = omega arith in
    record {
      moment = t;
      event = e;
      stands = Newest;
      passes = on;
      place = same_Some (length t) p (sym (read_last xs (length t))
          ∙ ap (slice_get (xs ++ length t ∷ [])) last ∙ g);
      number = last;
    }

-- a place in the list is that of such an event
pub listed_read : (q : Event → Bool) (t : List Event) (c p : ℕ)
    → slice_get (places_where q t) c ≡ Some p → Listed q t c p
listed_read q [] c p h =
    let n = ap length (listed_first q) in
    absurd (let l = slice_get_within (places_where q []) c p h in omega arith)
listed_read q (e ∷ t) c p h = listed_by q e t c p h (cases_Bool (q e)) (cases_lt _ _)
    (λ g. listed_read q t c p g)

grow_by : (q : Event → Bool) (e : Event) (t : List Event) → (q e ≡ true) ⊎ (q e ≡ false)
    → length (places_where q t) ≤ length (places_where q (e ∷ t))
grow_by q e t (inl on) =
    let n = ap length (listed_on q e t on) ∙ length_push (places_where q t) (length t) in
    omega arith
grow_by q e t (inr off) = let n = ap length (listed_off q e t off) in omega arith

pub listed_less : (q : Event → Bool) (m : List Event) (e : Event) (t : List Event) → At m e t
    → q e ≡ true → length (places_where q m) < length (places_where q t)
listed_less q m e [] h on = elim h [ ]
listed_less q m e (d ∷ t) Newest on =
    let n = ap length (listed_on q e m on) ∙ length_push (places_where q m) (length m) in
    omega arith
listed_less q m e (d ∷ t) (Older d' t' h) on =
    let up = grow_by q d t (cases_Bool (q d)) in
    omega (arith, listed_less q m e t h on)

read_older : (q : Event → Bool) (e : Event) (t : List Event) (k : ℕ)
    → k < length (places_where q t) → (q e ≡ true) ⊎ (q e ≡ false)
    → slice_get (places_where q (e ∷ t)) k ≡ slice_get (places_where q t) k
read_older q e t k l (inl on) = ap (λ xs. slice_get xs k) (listed_on q e t on)
    ∙ read_left (places_where q t) (length t) k l
read_older q e t k l (inr off) = ap (λ xs. slice_get xs k) (listed_off q e t off)

-- and each such event stands in it
pub listed_found : (q : Event → Bool) (m : List Event) (e : Event) (t : List Event) → At m e t
    → q e ≡ true → slice_get (places_where q t) (length (places_where q m)) ≡ Some (length m)
listed_found q m e [] h on = elim h [ ]
listed_found q m e (d ∷ t) Newest on =
    ap (λ xs. slice_get xs (length (places_where q m))) (listed_on q e m on)
    ∙ read_last (places_where q m) (length m)
listed_found q m e (d ∷ t) (Older d' t' h) on =
    read_older q d t (length (places_where q m)) (listed_less q m e t h on) (cases_Bool (q d))
    ∙ listed_found q m e t h on

-- ---- the steps of a node

steps_by : (i : ℕ) (e : Event) (t : List Event) → (is_step i e ≡ true) ⊎ (is_step i e ≡ false)
    → length (places_where (is_step i) t) ≡ steps i t
    → length (places_where (is_step i) (e ∷ t)) ≡ steps i (e ∷ t)
steps_by i e t (inl on) past =
    ap length (listed_on (is_step i) e t on)
    ∙ length_push (places_where (is_step i) t) (length t)
    ∙ ap (λ n. n + 1) past ∙ sym (steps_at i e t on)
steps_by i e t (inr off) past = ap length (listed_off (is_step i) e t off) ∙ past
    ∙ sym (steps_other i e t off)

pub steps_listed : (i : ℕ) (t : List Event) → length (places_where (is_step i) t) ≡ steps i t
unfolding steps
steps_listed i [] = ap length (listed_first (is_step i))
steps_listed i (e ∷ t) = steps_by i e t (cases_Bool (is_step i e)) (steps_listed i t)

-- number c of the list of a node's steps is the place of its step number c
pub step_listed : (i : ℕ) (t : List Event) (c p : ℕ)
    → slice_get (places_where (is_step i) t) c ≡ Some p → IsStepAt (reverse t) i c p
step_listed i t c p h =
    let l = listed_read (is_step i) t c p h in
    let is = step_event i l.event l.passes in
    record {
      there = ap (slice_get (reverse t)) (sym l.place)
          ∙ at_place l.moment l.event t l.stands ∙ ap Some is;
      number = ap (λ k. steps_before (reverse t) i k) (sym l.place)
          ∙ at_steps i l.moment l.event t l.stands ∙ sym (steps_listed i l.moment) ∙ l.number;
    }

-- a step that was taken stands in the list
pub step_there : (i : ℕ) (t : List Event) (c : ℕ) → c < steps i t
    → slice_get (places_where (is_step i) t) c ≡ None → ⊥
step_there i t c l h =
    let n = steps_listed i t in
    let is : ◌≡◌ {A = Option ℕ} None (Some _) = sym h
    ∙ slice_get-get_or (places_where (is_step i) t) c 0 (omega arith) in
    cc
