-- What a part answers, and its text.
use Rattle.std.specs.Prelude.{◌≡◌, ◌≢◌, ◌++◌, [], ℕ, List, ⊤}
use Rattle.part_answers.specs.Answers.{AreFrom, answers_text}
use Rattle.part_answers.specs.Heads.{IsHead, head_line}
use Rattle.part_answers.specs.declared.part.PartAnswers.{PartAnswers}
use Rattle.part_answers.specs.declared.part.PartHead.{PartHead}
use Rattle.part_answers.specs.declared.reading.PartFault.{PartFault}
use Rattle.part_answers.specs.declared.reading.PartFault.TheVariants.{BadLine, NoMemory}

abbrev pub head_of : PartAnswers → PartHead
head_of p = record { part = p.part; question = p.question }

-- a part of a question, and at least one property in order
pub record IsWellFormed (p : PartAnswers) : Type 0 where
  pub head : IsHead (head_of p)
  pub answers : AreFrom 0 p.answers.items
  pub some : p.answers.items ≢ []

-- a line that tells the part, and then one for each property
abbrev pub part_text : PartAnswers → List ℕ
part_text p = head_line (head_of p) ++ answers_text p.answers.items

-- the same is answered for the same part of the same question
pub record IsSamePart (p q : PartAnswers) : Type 0 where
  pub part : p.part ≡ q.part
  pub question : p.question ≡ q.question
  pub answers : p.answers.items ≡ q.answers.items

-- no other part has the text
abbrev pub IsOnlyPart : List ℕ → PartAnswers → Type 0
IsOnlyPart text p = (q : PartAnswers) → IsWellFormed q → text ≡ part_text q → IsSamePart p q

-- the text is that of no part, or there was no memory for what it says
abbrev pub IsNoPart : List ℕ → PartFault → Type 0
IsNoPart text (BadLine n) = (p : PartAnswers) → IsWellFormed p → text ≢ part_text p
IsNoPart text NoMemory = ⊤
