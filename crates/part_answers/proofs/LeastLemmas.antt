-- The least of some numbers, as it's found step by step.
use Rattle.std.proofs.Common.{◌≡◌, ◌∙◌, ◌≤◌, ◌<◌, ◌+◌, ◌⊎◌, ℕ, List, None, Option, Some, ap, arith}
use Rattle.std.proofs.Common.{get_or, inl, inr, length, refl, subst, sym}
use Rattle.std.specs.Prelude.{Any, min}
use Rattle.std.proofs.lemmas.Bool.{cases_lt}
use Rattle.std.proofs.lemmas.List.{get_or_default}
use Rattle.part_answers.specs.Tables.{IsNo, earlier}
use Rattle.part_answers.specs.Wholes.{IsFailureIn, IsLeast}
use Rattle.part_answers.specs.declared.answered.Answered.{Answered}
use Rattle.part_answers.specs.declared.answered.Outcome.{Outcome}
use Rattle.part_answers.specs.declared.answered.Outcome.TheVariants.{Fails}
use Rattle.part_answers.specs.declared.property.Property.{Property}

-- the least of the numbers of either kind
least_either : (P Q R : ℕ → Type 0) (a b : Option ℕ) → IsLeast P a → IsLeast Q b
    → ((n : ℕ) → P n → R n) → ((n : ℕ) → Q n → R n) → ((n : ℕ) → R n → P n ⊎ Q n)
    → IsLeast R (earlier a b)
least_either P Q R None None a b p q r = λ n h. elim (r n h) [
  | inl left ↦ a n left
  | inr right ↦ b n right
]
least_either P Q R None (Some y) a b p q r = (
  q y b.0,
  λ n h. elim (r n h) [ inl left ↦ absurd (a n left) | inr right ↦ b.1 n right ],
)
least_either P Q R (Some x) None a b p q r = (
  p x a.0,
  λ n h. elim (r n h) [ inl left ↦ a.1 n left | inr right ↦ absurd (b n right) ],
)
least_either P Q R (Some x) (Some y) a b p q r = (
  elim (cases_lt x y) [
    | inl lt ↦ let is : x ≡ min x y = omega (arith, lt) in subst R is (p x a.0)
    | inr ge ↦ let is : y ≡ min x y = omega (arith, ge) in subst R is (q y b.0)
  ],
  λ n h. elim (r n h) [
    | inl left ↦ omega (arith, a.1 n left)
    | inr right ↦ omega (arith, b.1 n right)
  ],
)

pub least_same : (P R : ℕ → Type 0) (a : Option ℕ) → IsLeast P a → ((n : ℕ) → P n → R n)
    → ((n : ℕ) → R n → P n) → IsLeast R a
least_same P R None a p r = λ n h. a n (r n h)
least_same P R (Some x) a p r = (p x a.0, λ n h. a.1 n (r n h))

module _ {A : Type 0} (F : A → ℕ → Type 0) (xs : List A) where
  -- one of the first i has the number
  pub Before : (i n : ℕ) → Type 0
  Before i n = (k : ℕ) × (x : A) × (k < i) × (k < length xs) × (get_or xs k x ≡ x) × F x n

  pub least_of_none : IsLeast (Before 0) None
  unfolding Before
  least_of_none = λ n h. absurd (omega (arith, h.2))

  pub least_of_more : (i : ℕ) (x : A) (least one : Option ℕ) → i < length xs → x ≡ get_or xs i x
      → IsLeast (Before i) least → IsLeast (F x) one → IsLeast (Before (i + 1)) (earlier least one)
  unfolding Before
  least_of_more i x least one lt is before last =
      least_either (Before i) (F x) (Before (i + 1)) least one before last
      (λ n h. (h.0, h.1, omega (arith, h.2), h.3, h.4, h.5))
      (λ n h. (i, x, omega arith, lt, sym is, h))
      (λ n h. elim (cases_lt h.0 i) [
        | inl below ↦ inl (h.0, h.1, below, h.3, h.4, h.5)
        | inr at ↦ let same : h.0 ≡ i = omega (arith, at, h.2) in
            inr (subst (λ y. F y n)
            (sym h.4 ∙ ap (λ k. get_or xs k h.1) same ∙ get_or_default xs i h.1 x lt ∙ sym is) h.5)
      ])

-- all have been looked at
pub least_of_all : {A : Type 0} (F : A → ℕ → Type 0) (xs : List A) (i : ℕ) (least : Option ℕ)
    → length xs ≤ i → IsLeast (Before F xs i) least → IsLeast (λ n. Any (λ x. F x n) xs) least
unfolding Before
least_of_all F xs i least all h =
    least_same (Before F xs i) (λ n. Any (λ x. F x n) xs) least h
    (λ n b. (b.0, b.1, b.3, b.4, b.5))
    (λ n a. (a.0, a.1, omega (arith, all, a.2), a.2, a.3, a.4))

same_answered : (a : Answered) (property : Property) (outcome : Outcome) → a.property ≡ property
    → a.outcome ≡ outcome → a ≡ record { property = property; outcome = outcome }
same_answered a property outcome p o =
    ap (λ (q : Property). record { property = q; outcome = a.outcome }) p
    ∙ ap (λ (n : Outcome). record { property = property; outcome = n }) o

-- an answer of that kind is the `no`
pub least_no : (answers : List Answered) (property : Property) (least : Option ℕ)
    → IsLeast (λ n. Any (λ a. IsNo property a n) answers) least
    → IsLeast (IsFailureIn answers property) least
least_no answers property least h =
    least_same (λ n. Any (λ a. IsNo property a n) answers) (IsFailureIn answers property) least h
    (λ n any. (
      any.0,
      any.2,
      get_or_default answers any.0 _ any.1 any.2 ∙ any.3
          ∙ same_answered any.1 property (Fails n) any.4.0 any.4.1,
    ))
    (λ n has. (has.0, record { property = property; outcome = Fails n }, has.1, has.2, (refl, refl)))
