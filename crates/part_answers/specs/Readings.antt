-- What the readers of lines find. Only proofs pass through here.
use Rattle.std.specs.Prelude.{◌≡◌, ◌≢◌, ◌≤◌, [], ℕ, List, ⊤}
use Rattle.part_answers.specs.Answers.{AreFrom, IsAnswered, answered_text, answers_text}
use Rattle.part_answers.specs.Cuts.{IsCut}
use Rattle.part_answers.specs.Heads.{IsHead, head_text}
use Rattle.part_answers.specs.Properties.{rank}
use Rattle.part_answers.specs.declared.answered.Answered.{Answered}
use Rattle.part_answers.specs.declared.part.PartHead.{PartHead}
use Rattle.part_answers.specs.declared.reading.PartFault.{PartFault}
use Rattle.part_answers.specs.declared.reading.PartFault.TheVariants.{BadLine, NoMemory}

-- the line end
abbrev pub newline : ℕ
newline = 10

-- the first line is a part's first, and this follows it
pub record BeginsWithHead (text : List ℕ) (head : PartHead) (rest : List ℕ) : Type 0 where
  pub cut : IsCut newline text (head_text head) rest
  pub is_head : IsHead head

-- the first line answers a property of this rank or a later one, and this follows it
pub record BeginsWithAnswer (text : List ℕ) (least : ℕ) (a : Answered) (rest : List ℕ) : Type 0
  where
    pub cut : IsCut newline text (answered_text a) rest
    pub answered : IsAnswered a
    pub late : least ≤ rank a.property

-- the lines are those of some answers
pub record AreLinesOf (text : List ℕ) (answers : List Answered) : Type 0 where
  pub lines : text ≡ answers_text answers
  pub rising : AreFrom 0 answers
  pub some : answers ≢ []

-- the lines are those of no answers, or there was no memory
abbrev pub AreNoLines : List ℕ → PartFault → Type 0
AreNoLines text (BadLine n) = (answers : List Answered) → ¬ (AreLinesOf text answers)
AreNoLines text NoMemory = ⊤
