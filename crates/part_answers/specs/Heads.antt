-- Which part of which question is answered.
use Rattle.std.specs.Prelude.{◌≤◌, ◌++◌, List, codes, ℕ}
use Rattle.std.specs.Fmt.{decimal}
use Rattle.part_answers.specs.Questions.{IsQuestion}
use Rattle.part_answers.specs.declared.part.Part.{Part}
use Rattle.part_answers.specs.declared.part.PartHead.{PartHead}

-- one of the parts, of which there are at most 65,536
abbrev pub IsPart : Part → Type 0
IsPart part = (1 ≤ part.number) × (part.number ≤ part.count) × (part.count ≤ 65536)

-- its number and how many parts there are, as `2/8`
abbrev pub share_text : Part → List ℕ
share_text part = decimal part.number ++ codes "/" ++ decimal part.count

-- the first line of a part's answers
abbrev pub head_text : PartHead → List ℕ
head_text head = codes "part " ++ share_text head.part ++ codes " of " ++ head.question

-- the same as a whole line
abbrev pub head_line : PartHead → List ℕ
head_line head = head_text head ++ codes "\n"

-- one of the parts of some question
abbrev pub IsHead : PartHead → Type 0
IsHead head = IsPart head.part × IsQuestion head.question
