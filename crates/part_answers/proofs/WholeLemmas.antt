-- The whole answer, property after property.
use Rattle.std.proofs.Common.{◌≡◌, ◌↔◌, ◌<◌, ℕ, All, Bool, List}
use Rattle.std.proofs.Common.{length, take, true, false}
use Rattle.std.specs.Bool.{IsTrue, MatchBool}
use Rattle.std.specs.List.{AllWithin, HoldsAt}
use Rattle.std.proofs.lemmas.Iterator.Search.{true_from_All}
use Rattle.std.proofs.lemmas.List.Elements.{All-from_all_within}
use Rattle.part_answers.specs.Wholes.{IsAnswerOf, properties_of}
use Rattle.part_answers.specs.declared.answered.Answered.{Answered}
use Rattle.part_answers.specs.declared.part.PartAnswers.{PartAnswers}

-- the first of these properties are answered for all parts
pub record IsWholeTo (parts : List PartAnswers) (answers : List Answered) (i : ℕ)
    (whole : List Answered) : Type 0 where
  pub names : properties_of whole ≡ properties_of (take i answers)
  pub right : All (IsAnswerOf parts) whole

-- a test of each element is true exactly if all pass it
module _ {A : Type 0} (P : A → Type 0) (xs : List A) where
  all_passed : (r : Bool) → MatchBool r (AllWithin P xs 0 (length xs))
      ((k : ℕ) × (k < length xs) × HoldsAt (λ x. ¬ (P x)) xs k) → IsTrue r → All P xs
  all_passed true cases is = All-from_all_within P xs cases
  all_passed false cases is = absurd (cc is)

  pub true_exactly : (r : Bool) → MatchBool r (AllWithin P xs 0 (length xs))
      ((k : ℕ) × (k < length xs) × HoldsAt (λ x. ¬ (P x)) xs k) → IsTrue r ↔ All P xs
  true_exactly r cases = (
    all_passed r cases,
    true_from_All P (λ x. ¬ (P x)) r xs (λ x yes no. no yes) cases,
  )
