-- Moments of a history, and places in the list of events that it is the reverse of.
use Rattle.std.proofs.Common.{◌≡◌, ℕ, ◌+◌, ◌<◌, ◌≤◌, Bool, true, false, List, [], ◌∷◌, ◌++◌, length}
use Rattle.std.proofs.Common.{take, Some, sym, subst, refl, ap, ◌∙◌, arith, ◌⊎◌, inl, inr}
use Rattle.std.proofs.Common.{if◌then◌else◌}
use Rattle.std.specs.Prelude.{reverse}
use Rattle.std.specs.List.{count_by, slice_get}
use Rattle.std.proofs.lemmas.Bool.{cases_lt, eq-eqb}
use Rattle.std.proofs.lemmas.List.{get_or_append_left, length-reverse, reverse-append}
use Rattle.std.proofs.lemmas.List.{take-append-le, take_at}
use Rattle.std.proofs.lemmas.Option.{slice_get-get_or, slice_get_within}
use Rattle.std.proofs.Math.Seq.{get_or-append_seam}
use Rattle.std.proofs.lemmas.Grind.{common_steps}
use Rattle.run_events.specs.declared.event.Event.{Event}
use Rattle.run_events.specs.declared.event.Event.TheVariants.{Step}
use Rattle.step_book.specs.Places.{steps_before}
use Rattle.step_book.specs.Trace.{is_step, steps}
use Rattle.step_book.proofs.Places.{steps_at, steps_grow}

-- the history has this event, and the moment m is what went before it
pub data At (m : List Event) (e : Event) : List Event → Type 0 where
  Newest : At m e (e ∷ m)
  Older : (d : Event) (t : List Event) → At m e t → At m e (d ∷ t)

pub at_longer : (m : List Event) (e : Event) (t : List Event) → At m e t → length m < length t
at_longer m e [] h = elim h [ ]
at_longer m e (d ∷ t) Newest = omega arith
at_longer m e (d ∷ t) (Older d' t' h) = omega (arith, at_longer m e t h)

-- one event more stands last in the list
last_event : (e : Event) (t : List Event) → reverse (e ∷ t) ≡ reverse t ++ e ∷ []
last_event e t = reverse-append (e ∷ []) t

read_left : (xs : List Event) (e : Event) (k : ℕ) → k < length xs
    → slice_get (xs ++ e ∷ []) k ≡ slice_get xs k
read_left xs e k l =
    slice_get-get_or (xs ++ e ∷ []) k e (grind (arith, common_steps))
    ∙ ap Some (get_or_append_left xs (e ∷ []) e k l) ∙ sym (slice_get-get_or xs k e l)

read_last : (xs : List Event) (e : Event) → slice_get (xs ++ e ∷ []) (length xs) ≡ Some e
read_last xs e = slice_get-get_or (xs ++ e ∷ []) (length xs) e (grind (arith, common_steps))
    ∙ ap Some (get_or-append_seam xs e [] e)

pub read_older : (d : Event) (t : List Event) (k : ℕ) → k < length t
    → slice_get (reverse (d ∷ t)) k ≡ slice_get (reverse t) k
read_older d t k l = ap (λ z. slice_get z k) (last_event d t)
    ∙ read_left (reverse t) d k (let n = length-reverse t in omega arith)

pub read_newest : (d : Event) (t : List Event) → slice_get (reverse (d ∷ t)) (length t) ≡ Some d
read_newest d t =
    ap (λ z. slice_get z (length t)) (last_event d t)
    ∙ ap (slice_get (reverse t ++ d ∷ [])) (sym (length-reverse t)) ∙ read_last (reverse t) d

-- the event of a moment stands at the place that is its length
pub at_place : (m : List Event) (e : Event) (t : List Event) → At m e t
    → slice_get (reverse t) (length m) ≡ Some e
at_place m e [] h = elim h [ ]
at_place m e (d ∷ t) Newest = read_newest e m
at_place m e (d ∷ t) (Older d' t' h) = read_older d t (length m) (at_longer m e t h)
    ∙ at_place m e t h

place_at_by : (e : Event) (d : Event) (t : List Event) (k : ℕ)
    → slice_get (reverse (d ∷ t)) k ≡ Some e → (k < length t) ⊎ (length t ≤ k)
    → (k < length t → slice_get (reverse t) k ≡ Some e
    → (m : List Event) × (At m e t) × (length m ≡ k))
    → (m : List Event) × (At m e (d ∷ t)) × (length m ≡ k)
place_at_by e d t k h (inl l) f = let x = f l (sym (read_older d t k l) ∙ h) in
    (x.0, Older d t x.1, x.2)
place_at_by e d t k h (inr l) f =
    let within = slice_get_within (reverse (d ∷ t)) k e h in
    let long = length-reverse (d ∷ t) in
    let last : length t ≡ k = omega arith in
    let same : d ≡ e = (let both : Some d ≡ Some e = sym (read_newest d t)
    ∙ ap (slice_get (reverse (d ∷ t))) last ∙ h in cc) in
    (t, subst (λ x. At t x (d ∷ t)) same Newest, last)

-- and each place of the list is that of a moment
pub place_at : (e : Event) (t : List Event) (k : ℕ) → slice_get (reverse t) k ≡ Some e
    → (m : List Event) × (At m e t) × (length m ≡ k)
place_at e [] k h = cc
place_at e (d ∷ t) k h = place_at_by e d t k h (cases_lt k (length t)) (λ l g. place_at e t k g)

count_more_by : (p : Event → Bool) (e : Event) (xs : List Event) (n : ℕ) → count_by p xs ≡ n
    → (b : Bool) → p e ≡ b → count_by p (xs ++ e ∷ []) ≡ (if p e then n + 1 else n)
count_more_by p e xs n ih true h = grind (arith, common_steps)
count_more_by p e xs n ih false h = grind (arith, common_steps)

count_more : (i : ℕ) (e : Event) (xs : List Event) (n : ℕ) → count_by (is_step i) xs ≡ n
    → count_by (is_step i) (xs ++ e ∷ []) ≡ (if is_step i e then n + 1 else n)
count_more i e xs n ih = count_more_by (is_step i) e xs n ih (is_step i e) refl

-- how many steps stand before a moment
pub count_steps : (i : ℕ) (t : List Event) → count_by (is_step i) (reverse t) ≡ steps i t
unfolding steps
count_steps i [] = refl
count_steps i (e ∷ t) = ap (count_by (is_step i)) (last_event e t)
    ∙ count_more i e (reverse t) (steps i t) (count_steps i t)

pub take_older : (d : Event) (t : List Event) (k : ℕ) → k ≤ length t
    → take k (reverse (d ∷ t)) ≡ take k (reverse t)
take_older d t k l = ap (take k) (last_event d t)
    ∙ take-append-le k (reverse t) (d ∷ []) (let n = length-reverse t in omega arith)

pub at_before : (m : List Event) (e : Event) (t : List Event) → At m e t
    → take (length m) (reverse t) ≡ reverse m
at_before m e [] h = elim h [ ]
at_before m e (d ∷ t) Newest = ap (take (length m)) (last_event e m)
    ∙ take_at (reverse m) (e ∷ []) (length m) (length-reverse m)
at_before m e (d ∷ t) (Older d' t' h) = take_older d t (length m) (let l = at_longer m e t h in
    omega arith) ∙ at_before m e t h

pub at_steps : (i : ℕ) (m : List Event) (e : Event) (t : List Event) → At m e t
    → steps_before (reverse t) i (length m) ≡ steps i m
at_steps i m e t h = ap (count_by (is_step i)) (at_before m e t h) ∙ count_steps i m

-- an earlier moment is one of the later moment's
pub at_within : (m : List Event) (e : Event) (n : List Event) (d : Event) (t : List Event)
    → At m e t → At n d t → length n < length m → At n d m
at_within m e n d [] h k l = elim h [ ]
at_within m e n d (x ∷ t) Newest Newest l = absurd (omega arith)
at_within m e n d (x ∷ t) Newest (Older y u k) l = k
at_within m e n d (x ∷ t) (Older y u h) Newest l = absurd (let z = at_longer m e t h in omega arith)
at_within m e n d (x ∷ t) (Older y u h) (Older y' u' k) l = at_within m e n d t h k l

-- moments of one length are one
pub at_same : (m : List Event) (e : Event) (n : List Event) (d : Event) (t : List Event) → At m e t
    → At n d t → length n ≡ length m → (n ≡ m) × (d ≡ e)
at_same m e n d [] h k l = elim h [ ]
at_same m e n d (x ∷ t) Newest Newest l = (refl, refl)
at_same m e n d (x ∷ t) Newest (Older y u k) l = absurd (let z = at_longer n d t k in omega arith)
at_same m e n d (x ∷ t) (Older y u h) Newest l = absurd (let z = at_longer m e t h in omega arith)
at_same m e n d (x ∷ t) (Older y u h) (Older y' u' k) l = at_same m e n d t h k l

-- each step of a node has a number of its own
pub step_rises : (i : ℕ) (m t : List Event) → At m (Step i) t → steps i m < steps i t
step_rises i m [] h = elim h [ ]
step_rises i m (d ∷ t) Newest = let up = steps_at i (Step i) m (eq-eqb i i refl) in omega arith
step_rises i m (d ∷ t) (Older d' t' h) = let up = steps_grow i d t in
    omega (arith, step_rises i m t h)
