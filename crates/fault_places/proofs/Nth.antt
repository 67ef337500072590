-- What `nth` gives of an iterator that gives a list.
use Rattle.std.proofs.Common.{◌≡◌, ◌≤◌, ◌∙◌, ap, arith, length, refl, subst, sym}
use Rattle.std.specs.Prelude.{ℕ, zero, suc, List, [], ◌∷◌, Option, Some, None, option_map}
use Rattle.std.specs.Prelude.{slice_get}
use Rattle.std.specs.Iterator.{AlwaysYields, Yields, SkipsThenYields}

module _ {S A B : Type 0} (steps : S → Option A → S → Type 0) (v : A → B) where
  -- the item behind xs
  nth_some : (ys : List B) (xs : List A) (s t u : S) (x : A) → AlwaysYields steps v s ys
      → Yields steps s xs t → steps t (Some x) u → slice_get ys (length xs) ≡ Some (v x)
  nth_some [] [] s t u x all run step =
      absurd (all x u (subst (λ k. steps k (Some x) u) (sym run) step))
  nth_some [] (w ∷ xs) s t u x all run step = absurd (all w run.0 run.1)
  nth_some (y ∷ ys) [] s t u x all run step =
      ap Some (sym (all.1 x u (subst (λ k. steps k (Some x) u) (sym run) step)).0)
  nth_some (y ∷ ys) (w ∷ xs) s t u x all run step =
      nth_some ys xs run.0 t u x (all.1 w run.0 run.1).1 run.2 step

  -- nothing behind xs, which are all
  nth_none : (ys : List B) (xs : List A) (n : ℕ) (s t u : S) → AlwaysYields steps v s ys
      → Yields steps s xs t → steps t None u → length xs ≤ n → slice_get ys n ≡ None
  nth_none [] xs n s t u all run step le = refl
  nth_none (y ∷ ys) [] n s t u all run step le =
      absurd (all.0 u (subst (λ k. steps k None u) (sym run) step))
  nth_none (y ∷ ys) (w ∷ xs) zero s t u all run step le = absurd (omega arith)
  nth_none (y ∷ ys) (w ∷ xs) (suc n) s t u all run step le =
      nth_none ys xs n run.0 t u (all.1 w run.0 run.1).1 run.2 step (omega arith)

  pub nth_gives : (ys : List B) (n : ℕ) (s u : S) (r : Option A) → AlwaysYields steps v s ys
      → SkipsThenYields steps s n r u → option_map v r ≡ slice_get ys n
  nth_gives ys n s u None all run =
      sym (nth_none ys run.0 n s run.1.0 u all run.1.1 run.1.2 run.2)
  nth_gives ys n s u (Some x) all run =
      sym (nth_some ys run.0 s run.1.0 u x all run.1.1 run.1.2)
      ∙ ap (slice_get ys) run.2
