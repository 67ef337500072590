-- Which parts are there, as they are counted. Only proofs pass through here.
use Rattle.std.specs.Prelude.{◌≡◌, ◌≤◌, ◌<◌, ◌-◌, ℕ, All, Bool, HoldsAt, List, None, Option}
use Rattle.std.specs.Prelude.{Some, cond, false, get_or, length, min, suc, take, true, ⊤}
use Rattle.part_answers.specs.Wholes.{IsAlike, times}
use Rattle.part_answers.specs.declared.answered.Answered.{Answered}
use Rattle.part_answers.specs.declared.answered.Outcome.TheVariants as outcome
use Rattle.part_answers.specs.declared.part.PartAnswers.{PartAnswers}
use Rattle.part_answers.specs.declared.joining.PartsFault.{PartsFault}
use Rattle.part_answers.specs.declared.joining.PartsFault.TheVariants as fault
use Rattle.part_answers.specs.declared.property.Property.{Property}

-- the first that is no part of this one's search
pub record IsFirstOther (first : PartAnswers) (parts : List PartAnswers) (place : ℕ) : Type 0 where
  pub inside : place < length parts
  pub other : HoldsAt (λ p. ¬ (IsAlike first p)) parts place
  pub alike : All (IsAlike first) (take place parts)

-- the part is one of so many
abbrev pub IsInRange : (count : ℕ) → PartAnswers → Type 0
IsInRange count p = (1 ≤ p.part.number) × (p.part.number ≤ count)

-- the table tells of each number whether its part is there, and none is there twice
pub record IsTable (count : ℕ) (parts : List PartAnswers) (table : List Bool) : Type 0 where
  pub long : length table ≡ count
  pub marks : (k : ℕ) → k < count → times (suc k) parts ≡ cond (get_or table k false) 1 0

-- the part of this number is there more than once, or there was no memory
abbrev pub IsTwice : List PartAnswers → PartsFault → Type 0
IsTwice parts (fault.Twice number) = 2 ≤ times number parts
IsTwice parts fault.NoMemory = ⊤
IsTwice parts _ = ⊥

-- the first places of the table are marked
abbrev pub AreMarked : List Bool → (n : ℕ) → Type 0
AreMarked table n = (k : ℕ) → k < n → get_or table k false ≡ true

-- the place before this number is the first that isn't
pub record IsFirstUnmarked (table : List Bool) (number : ℕ) : Type 0 where
  pub low : 1 ≤ number
  pub high : number ≤ length table
  pub unmarked : get_or table (number - 1) false ≡ false
  pub marked : AreMarked table (number - 1)

-- the lesser of two numbers, if there are two
abbrev pub earlier : Option ℕ → Option ℕ → Option ℕ
earlier None second = second
earlier (Some a) None = Some a
earlier (Some a) (Some b) = Some (min a b)

-- the answer is that the property fails in this round
abbrev pub IsNo : Property → Answered → ℕ → Type 0
IsNo property a round = (a.property ≡ property) × (a.outcome ≡ outcome.Fails round)
