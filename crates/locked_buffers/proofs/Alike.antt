-- Lists that agree so far, one of them read through a function.
use Rattle.std.proofs.Common.{◌≡◌, ℕ, ◌+◌, ◌<◌, ◌≤◌, List, length, get_or, map, take}
use Rattle.std.proofs.Common.{Bool, false, sym, ap, ◌∙◌, arith}
use Rattle.std.specs.Prelude.{◌↔◌, IsTrue}
use Rattle.std.proofs.lemmas.List.{get_or-map, get_or_default, length-map, take_all, take_more_same}

-- as far as a place
abbrev pub AreAlike : {X Y : Type 0} → (X → Y) → List X → List Y → ℕ → Type 0
AreAlike f xs ys k = (length xs ≡ length ys) × (take k (map f xs) ≡ take k ys)

-- and one further
pub alike_more : {X Y : Type 0} (f : X → Y) (xs : List X) (ys : List Y) (k : ℕ) (x : X) (d : Y)
    → k < length xs
    → x ≡ get_or xs k x → f x ≡ get_or ys k d → AreAlike f xs ys k → AreAlike f xs ys (k + 1)
alike_more f xs ys k x d l is same h = (
  h.0,
  take_more_same (map f xs) ys k d (let s = length-map xs f in omega arith) (let s = h.0 in
      omega arith) h.1
      (get_or-map f xs k x d l ∙ ap f (sym is) ∙ same),
)

-- but not there, by a test
pub unlike_at : {X Y : Type 0} (f : X → Y) (xs : List X) (ys : List Y) (k : ℕ) (x : X) (d : Y)
    (same : Bool) → k < length xs
    → x ≡ get_or xs k x → (f x ≡ get_or ys k d → IsTrue same) → same ≡ false
    → IsTrue false ↔ (map f xs ≡ ys)
unlike_at f xs ys k x d same l is tells off = (
  λ h. cc,
  λ h. sym off ∙ tells (ap f is ∙ sym (get_or-map f xs k x d l)
      ∙ ap (λ z. get_or z k d) h),
)

-- what stands there, where both are read through a function
pub read_through : {X Y : Type 0} (f : X → Y) (xs : List X) (k : ℕ) (x : X) (d : Y) → k < length xs
    → x ≡ get_or xs k x → f x ≡ get_or (map f xs) k d
read_through f xs k x d l is = ap f is ∙ sym (get_or-map f xs k x d l)

-- two lists, the same as far as a place and there, are the same one further
pub same_more : {Y : Type 0} (xs ys : List Y) (k : ℕ) (d y : Y) → k < length xs
    → length xs ≡ length ys
    → y ≡ get_or ys k y → get_or xs k d ≡ y → take k xs ≡ take k ys
    → take (k + 1) xs ≡ take (k + 1) ys
same_more xs ys k d y l sized other same h =
    take_more_same xs ys k d l (omega (arith, l, sized)) h (same ∙ other
    ∙ get_or_default ys k y d (omega (arith, l, sized)))

-- to the end
pub same_all : {Y : Type 0} (xs ys : List Y) (k : ℕ) → length xs ≡ length ys → length xs ≤ k
    → take k xs ≡ take k ys → xs ≡ ys
same_all xs ys k sized l h = sym (take_all k xs l) ∙ h ∙ take_all k ys (omega (arith, l, sized))

-- but not with another item there, by a test
pub unlike_here : {Y : Type 0} (xs ys : List Y) (k : ℕ) (d y : Y) (same : Bool) → k < length xs
    → y ≡ get_or ys k y → (get_or xs k d ≡ y → IsTrue same) → same ≡ false
    → IsTrue false ↔ (xs ≡ ys)
unlike_here xs ys k d y same l other tells off = (
  λ h. cc,
  λ h. sym off ∙ tells (ap (λ z. get_or z k d) h
      ∙ get_or_default ys k d y (omega (arith, l, ap length h)) ∙ sym other),
)
