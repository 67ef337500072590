-- What is told of a part of a search, and what all parts of it tell together.
use Rattle.std.specs.Prelude.{◌≡◌, ◌≢◌, ◌++◌, ◌-◌, [], ℕ, All, Contains, List, None, Option, Some}
use Rattle.std.specs.List.{AllZip}
use Rattle.command_words.specs.declared.exploring.Exploring.{Exploring}
use Rattle.exploration_texts.specs.Lines.{answers_text}
use Rattle.exploration_texts.specs.Told.{AreAnswers}
use Rattle.exploration_texts.specs.declared.told.Answered.{Answered}
use Rattle.exploration_texts.specs.declared.told.Answered.TheVariants as answered
use Rattle.exploration_texts.specs.declared.told.Told.{Told}
use Rattle.part_answers.specs.Heads.{IsHead, head_line}
use Rattle.part_answers.specs.Parts.{IsWellFormed, head_of, part_text}
use Rattle.part_answers.specs.Wholes.{AreAllParts, IsWhole}
use Rattle.part_answers.specs.declared.answered.Answered.{Answered as PartAnswered}
use Rattle.part_answers.specs.declared.answered.Outcome.{Outcome}
use Rattle.part_answers.specs.declared.answered.Outcome.TheVariants as outcome
use Rattle.part_answers.specs.declared.part.Part.{Part}
use Rattle.part_answers.specs.declared.part.PartAnswers.{PartAnswers}
use Rattle.part_answers.specs.declared.part.PartHead.{PartHead}
use Rattle.part_answers.specs.declared.property.Property.{Property as PropertyName}
use Rattle.round_explorer.specs.Answers.{IsRight}
use Rattle.round_explorer.specs.Parts.{part_lists}
use Rattle.round_explorer.specs.declared.answer.Answer.{Answer}
use Rattle.round_explorer.specs.declared.answer.Answer.TheVariants as all
use Rattle.round_explorer.specs.declared.property.Property.{Property}
use Rattle.round_explorer.specs.declared.question.AskedInputs.{AskedInputs}
use Rattle.round_explorer.specs.declared.question.AskedInputs.TheVariants.{Any}
use Rattle.round_explorer.specs.declared.question.Question.{Question}
use Rattle.round_lang.specs.Syntax.{ProgramTree}
use Rattle.round_meaning.specs.Setups.{IsSetup}
use Rattle.round_meaning.specs.declared.setup.Setup.{Setup}

-- what a part answers of a property of which this is told; nothing if it's told of a sample
abbrev pub outcome_of : Answered → Option Outcome
outcome_of answered.Holds = Some outcome.Holds
outcome_of answered.HoldsInAllRounds = Some outcome.HoldsInAllRounds
outcome_of (answered.Fails c) = Some (outcome.Fails c.round)
outcome_of (answered.NotFound n) = None

-- a part answers what is told of the property
abbrev pub IsAnsweredAs : Told → PartAnswered → Type 0
IsAnsweredAs t a = (a.property ≡ t.name) × (outcome_of t.answer ≡ Some a.outcome)

-- a part has answers to what is told of it, each at its place; and whoever reads what is printed of
-- it reads these answers of this part
abbrev pub PartsAreRead : Type 0
PartsAreRead =
    (p : ProgramTree) (s : Setup) (e : Exploring) (told : List Told) (head : PartHead)
    → IsSetup s → e.sample ≡ None → AreAnswers p s e told → told ≢ [] → IsHead head
    → (answers : List PartAnswered) × AllZip IsAnsweredAs told answers
    × ((part : PartAnswers) → head_of part ≡ head → part.answers.items ≡ answers
    → IsWellFormed part × (head_line head ++ answers_text told ≡ part_text part))

-- what a part answers of a property of which the search answers this
abbrev pub outcome_by : Answer → Outcome
outcome_by all.Holds = outcome.Holds
outcome_by all.HoldsInAllRounds = outcome.HoldsInAllRounds
outcome_by (all.Fails c) = outcome.Fails c.round

-- the lists of inputs that a part asks about
abbrev pub lists_of_part : Part → AskedInputs
lists_of_part part = part_lists (part.number - 1) part.count

-- the part answers rightly of a property, under this name, for its lists of inputs
abbrev pub AnswersRightly : ProgramTree → Setup → Question → Property → PropertyName → PartAnswers
    → Type 0
AnswersRightly p s question property name part =
    (answer : Answer) × IsRight p s question (lists_of_part part.part) property answer
    × Contains part.answers.items (record { property = name; outcome = outcome_by answer })

-- what all parts of a search answer rightly is right of all lists of inputs once it's put together
abbrev pub PartsTellTheWhole : Type 0
PartsTellTheWhole =
    (p : ProgramTree) (s : Setup) (question : Question) (property : Property)
    (name : PropertyName) (parts : List PartAnswers) (whole : List PartAnswered)
    (a : PartAnswered) → All IsWellFormed parts → AreAllParts parts → IsWhole parts whole
    → Contains whole a → a.property ≡ name
    → All (AnswersRightly p s question property name) parts
    → (answer : Answer) × IsRight p s question Any property answer
    × (outcome_by answer ≡ a.outcome)
