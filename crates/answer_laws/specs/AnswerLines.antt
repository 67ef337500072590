-- The answers among the lines that `explore` prints.
use Rattle.std.specs.Prelude.{◌≡◌, ◌||◌, ⊤, All, Bool, List, codes, filter, length, map, not, take}
use Rattle.std.specs.Prelude.{ℕ}
use Rattle.std.specs.Str.{bytes_eq}
use Rattle.std.specs.Str.Lines.{lines}
use Rattle.answer_details.specs.Texts.{detailed_text}
use Rattle.answer_details.specs.declared.details.Details.{Details}
use Rattle.exploration_texts.specs.Lines.{told_text}
use Rattle.exploration_texts.specs.declared.told.Answered.{Answered}
use Rattle.exploration_texts.specs.declared.told.Answered.TheVariants.{Fails, Holds}
use Rattle.exploration_texts.specs.declared.told.Answered.TheVariants.{HoldsInAllRounds, NotFound}
use Rattle.exploration_texts.specs.declared.told.Told.{Told}
use Rattle.schedule_text.specs.Small.{IsSmall}

-- the line begins so
abbrev pub begins : (mark line : List ℕ) → Bool
begins mark line = bytes_eq (take (length mark) line) mark

-- a line of a run, which begins with four blanks, or a note
abbrev pub is_aside : (line : List ℕ) → Bool
is_aside line = begins (codes "    ") line || begins (codes "note: ") line

-- the lines of a text that are neither of a run nor notes
abbrev pub answer_lines : (text : List ℕ) → List (List ℕ)
answer_lines text = filter (λ line. not (is_aside line)) (lines text)

-- the number of an answer is one of 32 bits, as all are
abbrev pub HasSmallNumber : Answered → Type 0
HasSmallNumber Holds = ⊤
HasSmallNumber HoldsInAllRounds = ⊤
HasSmallNumber (Fails c) = IsSmall c.round
HasSmallNumber (NotFound n) = IsSmall n

-- The lines that begin neither with four blanks nor with `note: ` are the answers.
abbrev pub AnswersAreTheLines : Type 0
AnswersAreTheLines =
    (told : List Told) (details : Details) → All (λ t. HasSmallNumber t.answer) told
    → answer_lines (detailed_text told details) ≡ map told_text told
