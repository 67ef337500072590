-- What parts answer together.
use Rattle.std.specs.Prelude.{◌≡◌, ◌≤◌, ◌<◌, ◌==◌, ◌∷◌, [], ℕ, All, Any, Contains, HoldsAt, List}
use Rattle.std.specs.Prelude.{None, Option, Some, count_by, length, map, take, ⊤}
use Rattle.part_answers.specs.declared.answered.Answered.{Answered}
use Rattle.part_answers.specs.declared.answered.Outcome.{Outcome}
use Rattle.part_answers.specs.declared.answered.Outcome.TheVariants as outcome
use Rattle.part_answers.specs.declared.joining.PartsFault.{PartsFault}
use Rattle.part_answers.specs.declared.joining.PartsFault.TheVariants as fault
use Rattle.part_answers.specs.declared.part.PartAnswers.{PartAnswers}
use Rattle.part_answers.specs.declared.property.Property.{Property}

-- the properties that are answered, in order
abbrev pub properties_of : List Answered → List Property
properties_of answers = map (λ a. a.property) answers

-- it answers the same properties for a part of the same question, cut into as many parts
pub record IsAlike (first other : PartAnswers) : Type 0 where
  pub question : other.question ≡ first.question
  pub count : other.part.count ≡ first.part.count
  pub number : (1 ≤ other.part.number) × (other.part.number ≤ first.part.count)
  pub properties : properties_of other.answers.items ≡ properties_of first.answers.items

-- the same of the first of some parts
abbrev pub FitsFirst : List PartAnswers → PartAnswers → Type 0
FitsFirst [] other = ⊥
FitsFirst (first ∷ parts) other = IsAlike first other

-- how often the part of this number is there
abbrev pub times : (number : ℕ) → List PartAnswers → ℕ
times number parts = count_by (λ p. p.part.number == number) parts

-- into how many parts the first says that its search is cut
abbrev pub count_of : List PartAnswers → ℕ
count_of [] = 0
count_of (first ∷ parts) = first.part.count

-- all are parts of one search, and each of its parts is there once
pub record AreAllParts (parts : List PartAnswers) : Type 0 where
  pub some : 1 ≤ count_of parts
  pub alike : All (FitsFirst parts) parts
  pub once : (n : ℕ) → 1 ≤ n → n ≤ count_of parts → times n parts ≡ 1

-- some answer is that the property fails in this round
abbrev pub IsFailureIn : List Answered → Property → ℕ → Type 0
IsFailureIn answers property round =
    Contains answers (record { property = property; outcome = outcome.Fails round })

-- some part answers so
abbrev pub FailsIn : List PartAnswers → Property → ℕ → Type 0
FailsIn parts property round = Any (λ p. IsFailureIn p.answers.items property round) parts

-- this is the least of some numbers, or there are none
abbrev pub IsLeast : (ℕ → Type 0) → Option ℕ → Type 0
IsLeast P None = (n : ℕ) → ¬ (P n)
IsLeast P (Some least) = P least × ((n : ℕ) → P n → least ≤ n)

-- the part answers that the property holds in any number of rounds
abbrev pub HoldsInAllRounds : Property → PartAnswers → Type 0
HoldsInAllRounds property p =
    Contains p.answers.items (record { property = property; outcome = outcome.HoldsInAllRounds })

-- no part answers that the property fails
abbrev pub NeverFails : List PartAnswers → Property → Type 0
NeverFails parts property = (n : ℕ) → ¬ (FailsIn parts property n)

-- what the parts answer together of a property
abbrev pub IsOutcomeOf : List PartAnswers → Property → Outcome → Type 0
IsOutcomeOf parts property (outcome.Fails least) = IsLeast (FailsIn parts property) (Some least)
IsOutcomeOf parts property outcome.HoldsInAllRounds =
    NeverFails parts property × All (HoldsInAllRounds property) parts
IsOutcomeOf parts property outcome.Holds =
    NeverFails parts property × ¬ (All (HoldsInAllRounds property) parts)

-- this is the least round in which the property fails in some part; or it's a yes, and one in all
-- rounds exactly if each part answers so
abbrev pub IsAnswerOf : List PartAnswers → Answered → Type 0
IsAnswerOf parts a = IsOutcomeOf parts a.property a.outcome

-- the parts' properties, each answered for all parts
abbrev pub IsWhole : List PartAnswers → List Answered → Type 0
IsWhole [] whole = ⊥
IsWhole (first ∷ parts) whole =
    (properties_of whole ≡ properties_of first.answers.items)
    × All (IsAnswerOf (first ∷ parts)) whole

-- the first that is no part of the first's search
pub record IsOther (parts : List PartAnswers) (place : ℕ) : Type 0 where
  pub inside : place < length parts
  pub other : HoldsAt (λ p. ¬ (FitsFirst parts p)) parts place
  pub alike : All (FitsFirst parts) (take place parts)

-- the least part of the search that isn't there, where none is there twice
pub record IsMissing (parts : List PartAnswers) (number : ℕ) : Type 0 where
  pub alike : All (FitsFirst parts) parts
  pub low : 1 ≤ number
  pub high : number ≤ count_of parts
  pub missing : times number parts ≡ 0
  pub before : (n : ℕ) → 1 ≤ n → n < number → times n parts ≡ 1
  pub single : (n : ℕ) → 1 ≤ n → n ≤ count_of parts → times n parts ≤ 1

-- why parts make no whole
abbrev pub IsFaultOf : List PartAnswers → PartsFault → Type 0
IsFaultOf parts fault.NoParts = parts ≡ []
IsFaultOf parts (fault.Other place) = IsOther parts place
IsFaultOf parts (fault.Twice number) = All (FitsFirst parts) parts × (2 ≤ times number parts)
IsFaultOf parts (fault.Missing number) = IsMissing parts number
IsFaultOf parts fault.NoMemory = ⊤
