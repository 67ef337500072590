-- The numbers of steps of all nodes.
use Rattle.std.proofs.Common.{◌≡◌, ◌∙◌, ◌+◌, ◌++◌, ◌∷◌, [], ℕ, List, ap, arith, map, sym}
use Rattle.std.specs.List.{range_with_len}
use Rattle.std.proofs.lemmas.List.FromFn.{map-range_with_len_more}

-- those of one node more
pub one_stop_more : (f : ℕ → ℕ) (n x : ℕ) (old new : List ℕ) → old ≡ map f (range_with_len 0 n)
    → x ≡ f n → new ≡ old ++ x ∷ [] → new ≡ map f (range_with_len 0 (n + 1))
one_stop_more f n x old new e d a =
    a ∙ ap (λ xs. xs ++ x ∷ []) e ∙ ap (λ y. map f (range_with_len 0 n) ++ y ∷ []) d
    ∙ sym (map-range_with_len_more f 0 n n (omega arith))

pub all_stops : (f : ℕ → ℕ) (n m : ℕ) (stops : List ℕ) → n ≡ m
    → stops ≡ map f (range_with_len 0 n) → stops ≡ map f (range_with_len 0 m)
all_stops f n m stops e d = d ∙ ap (λ k. map f (range_with_len 0 k)) e
