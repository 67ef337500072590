-- Lists that a loop makes.
use Rattle.std.proofs.Common.{◌≡◌, ℕ, zero, suc, ◌+◌, List, [], ◌∷◌, ◌++◌, map, Option, Some, None}
use Rattle.std.proofs.Common.{sym, ap, ◌∙◌, arith, append-nil}
use Rattle.std.specs.List.{range_with_len, filter_map, cons_option}
use Rattle.std.proofs.lemmas.List.Elements.{filter_map-append}
use Rattle.std.proofs.lemmas.List.FromFn.{map-range_with_len_more}

-- one more value of f
pub map_push : {X : Type 0} (f : ℕ → X) (xs ys : List X) (v : ℕ) (n : X)
    → xs ≡ map f (range_with_len 0 v) → n ≡ f v → ys ≡ xs ++ n ∷ []
    → ys ≡ map f (range_with_len 0 (v + 1))
map_push f xs ys v n e m p =
    p ∙ ap (λ l. l ++ n ∷ []) e ∙ ap (λ k. map f (range_with_len 0 v) ++ k ∷ []) m
    ∙ sym (map-range_with_len_more f 0 v v (omega arith))

range_more : (a n : ℕ) → range_with_len a (suc n) ≡ range_with_len a n ++ (a + n) ∷ []
range_more a zero = let e : a ≡ a + 0 = omega arith in ap (λ k. k ∷ []) e
range_more a (suc n) =
    let e : a + 1 + n ≡ a + suc n = omega arith in
    ap (λ l. a ∷ l) (range_more (a + 1) n) ∙ ap (λ k. a ∷ (range_with_len (a + 1) n ++ k ∷ [])) e

-- what h gives of one number more
pub filter_map_more : {Y : Type 0} (h : ℕ → Option Y) (v : ℕ)
    → filter_map h (range_with_len 0 (v + 1)) ≡ filter_map h (range_with_len 0 v)
    ++ filter_map h (v ∷ [])
filter_map_more h v =
    let e : v + 1 ≡ suc v = omega arith in
    let z : 0 + v ≡ v = omega arith in
    ap (λ n. filter_map h (range_with_len 0 n)) e
    ∙ ap (filter_map h) (range_more 0 v ∙ ap (λ k. range_with_len 0 v ++ k ∷ []) z)
    ∙ filter_map-append h (range_with_len 0 v) (v ∷ [])

pub filter_map_skip : {Y : Type 0} (h : ℕ → Option Y) (xs : List Y) (v : ℕ)
    → xs ≡ filter_map h (range_with_len 0 v) → h v ≡ None
    → xs ≡ filter_map h (range_with_len 0 (v + 1))
filter_map_skip h xs v e n =
    sym (filter_map_more h v ∙ ap (λ o. filter_map h (range_with_len 0 v) ++ cons_option o []) n
    ∙ append-nil (filter_map h (range_with_len 0 v)) ∙ sym e)

pub filter_map_push : {Y : Type 0} (h : ℕ → Option Y) (xs ys : List Y) (v : ℕ) (y : Y)
    → xs ≡ filter_map h (range_with_len 0 v) → h v ≡ Some y → ys ≡ xs ++ y ∷ []
    → ys ≡ filter_map h (range_with_len 0 (v + 1))
filter_map_push h xs ys v y e m p =
    p ∙ ap (λ l. l ++ y ∷ []) e
    ∙ sym (filter_map_more h v
    ∙ ap (λ o. filter_map h (range_with_len 0 v) ++ cons_option o []) m)
