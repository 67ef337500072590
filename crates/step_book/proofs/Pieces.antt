-- Frames in pieces, as they are read, added and taken.
use Rattle.std.proofs.Common.{◌≡◌, ℕ, zero, suc, ◌+◌, ◌*◌, ◌<◌, ◌≤◌, List, [], ◌∷◌, ◌++◌}
use Rattle.std.proofs.Common.{append-nil, append_assoc, arith, length, ap, sym, ◌∙◌, refl}
use Rattle.std.specs.Prelude.{Option, None, Some, Vec, option_map, slice_get}
use Rattle.std.specs.List.{ItemBy, flat_map}
use Rattle.std.proofs.lemmas.Option.{none-some, same_Some, slice_get_past, slice_get_read}
use Rattle.std.proofs.lemmas.Grind.{flat_map-append}
use Rattle.step_book.specs.Pieces.{AreFull, joined, left}

-- a place in the first of two lists, and one in the second
get_near : {A : Type 0} (xs ys : List A) (k : ℕ) → k < length xs
    → slice_get (xs ++ ys) k ≡ slice_get xs k
get_near [] ys k h = absurd (omega (arith, h))
get_near (x ∷ xs) ys zero h = refl
get_near (x ∷ xs) ys (suc k) h = get_near xs ys k (omega (arith, h))

get_far : {A : Type 0} (xs ys : List A) (i k : ℕ) → i ≡ length xs + k
    → slice_get (xs ++ ys) i ≡ slice_get ys k
get_far [] ys i k e = ap (λ j. slice_get ys j) (omega (arith, e))
get_far (x ∷ xs) ys zero k e = absurd (omega (arith, e))
get_far (x ∷ xs) ys (suc i) k e = get_far xs ys i k (omega (arith, e))

-- the pieces behind the first are full where all are
pub rest_full : {A B : Type 0} (n : ℕ) (p : Vec A B) (ps : List (Vec A B)) → AreFull n (p ∷ ps)
    → AreFull n ps
rest_full n p ps h = λ k d l. h (suc k) d (omega (arith, l))

pub first_full : {A B : Type 0} (n : ℕ) (p : Vec A B) (ps : List (Vec A B)) → AreFull n (p ∷ ps)
    → length p.items ≡ n
first_full n p ps h = h 0 p (omega arith)

first_joined : {A B : Type 0} (p : Vec A B) (ps : List (Vec A B)) (last : List A)
    → joined (p ∷ ps) last ≡ p.items ++ joined ps last
first_joined p ps last = append_assoc p.items (flat_map (λ v. v.items) ps) last

-- a frame of a full piece
pub at_full : {A B : Type 0} (full : List (Vec A B)) (last : List A) (v : Vec A B) (q r i : ℕ)
    → AreFull 16 full → slice_get full q ≡ Some v → r < 16 → i ≡ q * 16 + r
    → slice_get (joined full last) i ≡ slice_get v.items r
at_full [] last v q r i h there small e = absurd (none-some v there)
at_full (p ∷ ps) last v zero r i h there small e =
    ap (λ xs. slice_get xs i) (first_joined p ps last)
    ∙ get_near p.items (joined ps last) i (let n = first_full 16 p ps h in
    omega (arith, n, small, e))
    ∙ ap (λ k. slice_get p.items k) (omega (arith, e))
    ∙ ap (λ w. slice_get w.items r) (same_Some p v there)
at_full (p ∷ ps) last v (suc q) r i h there small e =
    ap (λ xs. slice_get xs i) (first_joined p ps last)
    ∙ get_far p.items (joined ps last) i (q * 16 + r) (let n = first_full 16 p ps h in
    omega (arith, n, e))
    ∙ at_full ps last v q r (q * 16 + r) (rest_full 16 p ps h) there small refl

-- a frame of the last
pub at_last : {A B : Type 0} (full : List (Vec A B)) (last : List A) (k i : ℕ) → AreFull 16 full
    → i ≡ length full * 16 + k
    → slice_get (joined full last) i ≡ slice_get last k
at_last [] last k i h e = ap (λ j. slice_get last j) (omega (arith, e))
at_last (p ∷ ps) last k i h e =
    ap (λ xs. slice_get xs i) (first_joined p ps last)
    ∙ get_far p.items (joined ps last) i (length ps * 16 + k) (let n = first_full 16 p ps h in
    omega (arith, n, e))
    ∙ at_last ps last k (length ps * 16 + k) (rest_full 16 p ps h) refl

-- the last becomes a full piece
pub joined_more : {A B : Type 0} (full : List (Vec A B)) (last : Vec A B)
    → joined (full ++ last ∷ []) [] ≡ joined full last.items
joined_more full last =
    append-nil (flat_map (λ v. v.items) (full ++ last ∷ []))
    ∙ flat_map-append (λ v. v.items) full (last ∷ [])
    ∙ ap (λ xs. flat_map (λ v. v.items) full ++ xs) (append-nil last.items)

-- a frame more behind the last
pub joined_push : {A B : Type 0} (full : List (Vec A B)) (old new : List A) (x : A)
    → new ≡ old ++ x ∷ [] → joined full new ≡ joined full old ++ x ∷ []
joined_push full old new x e =
    ap (λ xs. flat_map (λ v. v.items) full ++ xs) e
    ∙ sym (append_assoc (flat_map (λ v. v.items) full) old (x ∷ []))

-- an element that is lent, or none past the end
pub lent_is : {R X : Type 0} (now : R → X) (xs : List X) (i : ℕ) (r : Option R)
    → ItemBy now xs i i r → option_map now r ≡ slice_get xs i
lent_is now xs i None h = sym (slice_get_past xs i h.3)
lent_is now xs i (Some x) h =
    sym (slice_get_read xs (length xs) i (now x) refl h.3.0 (h.3.1 (now x)))

-- behind the rest of a piece that is at its end, the next piece begins
pub left_turned : {A B : Type 0} (piece now : List A) (next : Vec A B) (full rest : List (Vec A B))
    (last : List A) → piece ≡ [] → full ≡ next ∷ rest → now ≡ next.items
    → left now rest last ≡ left piece full last
left_turned piece now next full rest last ended more begun =
    ap (λ xs. xs ++ joined rest last) begun ∙ sym (first_joined next rest last)
    ∙ ap (λ f. joined f last) (sym more) ∙ ap (λ xs. xs ++ joined full last) (sym ended)

-- nothing is left of no items
pub none_of : {A : Type 0} (xs : List A) → length xs ≡ 0 → xs ≡ []
none_of [] e = refl
none_of (x ∷ xs) e = absurd (omega (arith, e))

pub none_left : {A B : Type 0} (piece : List A) (full : List (Vec A B)) (last : List A) → piece ≡ []
    → full ≡ [] → last ≡ [] → left piece full last ≡ []
none_left piece full last a b c =
    ap (λ xs. left xs full last) a ∙ ap (λ f. joined f last) b ∙ c

-- if none is lent, the place is past the end
pub past_all : {A : Type 0} (xs : List A) (k : ℕ) → slice_get xs k ≡ None → length xs ≤ k
past_all [] k e = omega arith
past_all (x ∷ xs) zero e = absurd (none-some x (sym e))
past_all (x ∷ xs) (suc k) e = let past = past_all xs k e in omega (arith, past)
