-- Lists whose first elements are left out.
use Rattle.std.proofs.Common.{
  ◌≡◌,
  ℕ,
  zero,
  suc,
  ◌+◌,
  ◌≤◌,
  List,
  [],
  ◌∷◌,
  ◌++◌,
  drop,
  take,
  length,
  ap,
  sym,
  ◌∙◌,
  refl,
  arith,
}
use Rattle.std.proofs.lemmas.List.{drop-append-le, drop-take, length-take-le}
use Rattle.std.proofs.Math.Seq.{drop-nil}
use Rattle.std.specs.List.{insert, remove}

drop_at : {X : Type 0} (k n m : ℕ) (xs : List X) → m ≡ k + n → drop m xs ≡ drop n (drop k xs)
drop_at zero n m xs e = ap (λ z. drop z xs) (omega (arith, e))
drop_at (suc k) n m [] e = drop-nil m ∙ sym (drop-nil n)
drop_at (suc k) n zero (x ∷ xs) e = absurd (omega (arith, e))
drop_at (suc k) n (suc m) (x ∷ xs) e = drop_at k n m xs (omega (arith, e))

pub drop_drop : {X : Type 0} (k n : ℕ) (xs : List X) → drop (k + n) xs ≡ drop n (drop k xs)
drop_drop k n xs = drop_at k n (k + n) xs refl

-- an element that is removed, or added, behind those that are left out
pub drop_remove : {X : Type 0} (k i : ℕ) (xs : List X) → k + i ≤ length xs
    → drop k (remove xs (k + i)) ≡ remove (drop k xs) i
drop_remove k i xs le =
    let l : k ≤ length (take (k + i) xs) = let e = length-take-le (k + i) xs le in omega arith in
    let e : suc (k + i) ≡ k + suc i = omega arith in
    drop-append-le k (take (k + i) xs) (drop (suc (k + i)) xs) l
    ∙ ap (λ ys. ys ++ drop (suc (k + i)) xs) (drop-take k i xs)
    ∙ ap (λ ys. take i (drop k xs) ++ ys) (ap (λ n. drop n xs) e ∙ drop_drop k (suc i) xs)

pub drop_insert : {X : Type 0} (k i : ℕ) (x : X) (xs : List X) → k + i ≤ length xs
    → drop k (insert xs (k + i) x) ≡ insert (drop k xs) i x
drop_insert k i x xs le =
    let l : k ≤ length (take (k + i) xs) = let e = length-take-le (k + i) xs le in omega arith in
    drop-append-le k (take (k + i) xs) (x ∷ drop (k + i) xs) l
    ∙ ap (λ ys. ys ++ x ∷ drop (k + i) xs) (drop-take k i xs)
    ∙ ap (λ ys. take i (drop k xs) ++ x ∷ ys) (drop_drop k i xs)

pub drop_next : {X : Type 0} (k : ℕ) (xs : List X) → drop (k + 1) xs ≡ remove (drop k xs) 0
drop_next k xs = drop_drop k 1 xs
