-- What is found of parts tells whether they make a whole.
use Rattle.std.proofs.Common.{◌≡◌, ◌∙◌, ◌≤◌, ◌-◌, ◌∷◌, [], ℕ, All, Bool, List, ap, arith, false}
use Rattle.std.proofs.Common.{get_or, length, refl, subst, sym, true}
use Rattle.std.specs.Prelude.{cond}
use Rattle.part_answers.specs.Tables.{AreMarked, IsFirstUnmarked, IsTable}
use Rattle.part_answers.specs.Wholes.{AreAllParts, IsAlike, IsAnswerOf, IsMissing}
use Rattle.part_answers.specs.Wholes.{IsWhole, properties_of}
use Rattle.part_answers.specs.declared.answered.Answered.{Answered}
use Rattle.part_answers.specs.declared.part.PartAnswers.{PartAnswers}
use Rattle.part_answers.proofs.TableLemmas.{times_are}

at_most_one : (b : Bool) → cond b 1 0 ≤ 1
at_most_one true = omega arith
at_most_one false = omega arith

-- of parts that are alike, the table tells all
module _ (first : PartAnswers) (rest : List PartAnswers)
    (alike : All (IsAlike first) (first ∷ rest)) (table : List Bool)
    (known : IsTable first.part.count (first ∷ rest) table) where
  missing : (number : ℕ) → IsFirstUnmarked table number → IsMissing (first ∷ rest) number
  missing number found =
      let count = first.part.count in
      let parts = first ∷ rest in
      let long : length table ≡ count = known.long in
      let high : number ≤ count = omega (arith, long, found.high) in
      record {
        alike = alike;
        low = found.low;
        high = high;
        missing = times_are count parts table known number found.low high false found.unmarked;
        before = λ n low below. times_are count parts table known n low
            (omega (arith, below, high)) true (found.marked (n - 1) (omega (arith, low, below)));
        single = λ n low most. let times_n = times_are count parts table known n low most
            (get_or table (n - 1) false) refl in
            subst (λ m. m ≤ 1) (sym times_n) (at_most_one (get_or table (n - 1) false));
      }

  complete : AreMarked table (length table) → AreAllParts (first ∷ rest)
  complete marked =
      let count = first.part.count in
      let long : length table ≡ count = known.long in
      let range = (alike 0 first (omega arith)).number in
      record {
        some = omega (arith, range.0, range.1);
        alike = alike;
        once = λ n low high. times_are count (first ∷ rest) table known n low high true
            (marked (n - 1) (omega (arith, low, high, long)));
      }

-- the same of parts of which this is the first
module _ (first : PartAnswers) where
  pub is_missing : (parts : List PartAnswers) (table : List Bool) (number : ℕ) → 1 ≤ length parts
      → first ≡ get_or parts 0 first → All (IsAlike first) parts
      → IsTable first.part.count parts table → IsFirstUnmarked table number
      → IsMissing parts number
  is_missing [] table number some is alike known found = absurd (omega (arith, some))
  is_missing (p ∷ rest) table number some is alike known found =
      missing p rest (subst (λ (f : PartAnswers). All (IsAlike f) (p ∷ rest)) is alike) table
      (subst (λ (f : PartAnswers). IsTable f.part.count (p ∷ rest) table) is known) number found

  pub are_all : (parts : List PartAnswers) (table : List Bool) → 1 ≤ length parts
      → first ≡ get_or parts 0 first → All (IsAlike first) parts
      → IsTable first.part.count parts table → AreMarked table (length table)
      → AreAllParts parts
  are_all [] table some is alike known marked = absurd (omega (arith, some))
  are_all (p ∷ rest) table some is alike known marked =
      complete p rest (subst (λ (f : PartAnswers). All (IsAlike f) (p ∷ rest)) is alike) table
      (subst (λ (f : PartAnswers). IsTable f.part.count (p ∷ rest) table) is known) marked

  pub is_whole : (parts : List PartAnswers) (whole : List Answered) → 1 ≤ length parts
      → first ≡ get_or parts 0 first → properties_of whole ≡ properties_of first.answers.items
      → All (IsAnswerOf parts) whole → IsWhole parts whole
  is_whole [] whole some is names right = absurd (omega (arith, some))
  is_whole (p ∷ rest) whole some is names right = (
    names ∙ ap (λ (f : PartAnswers). properties_of f.answers.items) is,
    right,
  )
