-- What is told of the properties that the options of `explore` ask.
use Rattle.std.specs.Borrow.{Bor}
use Rattle.std.specs.Prelude.{◌≡◌, ◌≤◌, ◌++◌, ◌∷◌, ◌&&◌, ◌⊎◌, [], All, Bool, List, None, Option}
use Rattle.std.specs.Prelude.{Some, false, is_some, map, true, ⊤}
use Rattle.command_words.specs.declared.exploring.Checks.{Checks}
use Rattle.command_words.specs.declared.exploring.Exploring.{Exploring}
use Rattle.command_words.specs.declared.searching.SampleChoice.{SampleChoice}
use Rattle.exploration_texts.specs.Asking.{inputs_of, question_of}
use Rattle.exploration_texts.specs.Conditions.{IsConditionFor}
use Rattle.exploration_texts.specs.declared.answering.Known.{Known}
use Rattle.exploration_texts.specs.declared.answering.Known.TheVariants as known
use Rattle.exploration_texts.specs.declared.answering.Search.{Search}
use Rattle.exploration_texts.specs.declared.told.Answered.{Answered}
use Rattle.exploration_texts.specs.declared.told.Answered.TheVariants.{Fails, Holds}
use Rattle.exploration_texts.specs.declared.told.Answered.TheVariants.{HoldsInAllRounds, NotFound}
use Rattle.exploration_texts.specs.declared.told.Told.{Told}
use Rattle.part_answers.specs.declared.property.Property.{Property as PropertyName}
use Rattle.part_answers.specs.declared.property.Property.TheVariants as names
use Rattle.round_explorer.specs.Answers.{IsRight}
use Rattle.round_explorer.specs.declared.answer.Answer.{Answer}
use Rattle.round_explorer.specs.declared.answer.Answer.TheVariants as all
use Rattle.round_explorer.specs.declared.answer.Counterexample.{Counterexample}
use Rattle.round_explorer.specs.declared.property.Property.{Property}
use Rattle.round_explorer.specs.declared.property.Property.TheVariants.{Agreement, Always, Final}
use Rattle.round_explorer.specs.declared.property.Property.TheVariants.{Safety, Termination}
use Rattle.round_explorer.specs.declared.property.Property.TheVariants.{Validity}
use Rattle.round_explorer.specs.declared.question.AskedInputs.{AskedInputs}
use Rattle.round_explorer.specs.declared.question.Question.{Question}
use Rattle.round_lang.specs.Syntax.{ProgramTree}
use Rattle.round_lang.specs.Tree.{Tree}
use Rattle.round_meaning.specs.declared.setup.Setup.{Setup}
use Rattle.run_samples.specs.Found.{AreFaultless, EachIsMade, IsFound}

-- the name of a property; none is of safety, of which nothing is told
abbrev pub name_of : Property → PropertyName
name_of Agreement = names.Agreement
name_of Validity = names.Validity
name_of Final = names.Final
name_of Safety = names.Agreement
name_of Termination = names.Termination
name_of (Always f) = names.Always

-- one more name, if it is asked
abbrev pub asked : Bool → PropertyName → List PropertyName
asked true name = name ∷ []
asked false name = []

-- the names of what is asked, in their order
abbrev pub names_of : Checks → (has_condition : Bool) → List PropertyName
names_of c has_condition =
    asked c.agreement names.Agreement ++ asked c.validity names.Validity
    ++ asked c.finality names.Final ++ asked c.termination names.Termination
    ++ asked has_condition names.Always

-- the property has this name, and that of EXPR is of this condition
abbrev pub IsNamed : Option Tree → PropertyName → Property → Type 0
IsNamed condition names.Agreement property = property ≡ Agreement
IsNamed condition names.Validity property = property ≡ Validity
IsNamed condition names.Final property = property ≡ Final
IsNamed condition names.Termination property = property ≡ Termination
IsNamed condition names.Always (Always f) = condition ≡ Some f.now
IsNamed condition names.Always _ = ⊥

-- the answer of a search through all runs
abbrev pub answered_by : Answer → Answered
answered_by all.Holds = Holds
answered_by all.HoldsInAllRounds = HoldsInAllRounds
answered_by (all.Fails c) = Fails c

-- the answer is right of a property: it's one of all runs that are asked about; or of a sample, and
-- then a failure is one, or it fails in none of the n runs that were made: all that the sample has
abbrev pub IsAnswer : ProgramTree → Setup → Question → AskedInputs → Option SampleChoice
    → Property → Answered → Type 0
IsAnswer p s question inputs None x Holds = IsRight p s question inputs x all.Holds
IsAnswer p s question inputs None x HoldsInAllRounds =
    IsRight p s question inputs x all.HoldsInAllRounds
IsAnswer p s question inputs None x (Fails c) = IsRight p s question inputs x (all.Fails c)
IsAnswer p s question inputs None x (NotFound n) = ⊥
IsAnswer p s question inputs (Some sample) x Holds = ⊥
IsAnswer p s question inputs (Some sample) x HoldsInAllRounds = ⊥
IsAnswer p s question inputs (Some sample) x (Fails c) = IsFound p s question inputs x c
IsAnswer p s question inputs (Some sample) x (NotFound n) =
    AreFaultless p s question inputs x n
    × (n ≤ sample.count) × (EachIsMade s question inputs → n ≡ sample.count)

-- the answer is right of the property of this name
abbrev pub IsRightOf : ProgramTree → Setup → Question → AskedInputs → Option SampleChoice
    → Option Tree → Told → Type 0
IsRightOf p s question inputs sample condition told =
    (property : Property) × IsNamed condition told.name property
    × IsAnswer p s question inputs sample property told.answer

-- what the options ask is told, in order, and each answer is right
pub record AreAnswers (p : ProgramTree) (s : Setup) (e : Exploring) (told : List Told)
    : Type 0 where
  pub condition : Option Tree
  pub is_condition : IsConditionFor p e.always condition
  pub names : map (λ t. t.name) told ≡ names_of e.checks (is_some condition)
  pub right : All (IsRightOf p s (question_of e) (inputs_of e) e.sample condition) told

-- no failure is told
abbrev pub holds : Answered → Bool
holds Holds = true
holds HoldsInAllRounds = true
holds (Fails c) = false
holds (NotFound n) = true

-- of no property is a failure told
abbrev pub all_hold : List Told → Bool
all_hold [] = true
all_hold (t ∷ ts) = holds t.answer && all_hold ts

-- this is the first property of which one is, and what was found
abbrev pub IsFirstNo : List Told → PropertyName → Counterexample → Type 0
IsFirstNo [] name c = ⊥
IsFirstNo (t ∷ ts) name c =
    (t ≡ record { name = name; answer = Fails c })
    ⊎ ((holds t.answer ≡ true) × IsFirstNo ts name c)

-- the answer is right of what a search is about
abbrev pub IsAnswerOf : Search → Property → Answered → Type 0
IsAnswerOf w x answer =
    IsAnswer w.program.now w.setup.now w.question w.inputs w.sample x answer

-- the property is agreement, validity or finality
abbrev pub is_of_safety : Property → Bool
is_of_safety Agreement = true
is_of_safety Validity = true
is_of_safety Final = true
is_of_safety _ = false

-- what is known of agreement, validity and finality is true of all at once
abbrev pub IsKnown : Search → Known → Type 0
IsKnown w known.Nothing = ⊤
IsKnown w known.Hold = IsAnswerOf w Safety Holds
IsKnown w (known.NoneFound n) = IsAnswerOf w Safety (NotFound n)
IsKnown w known.HoldInAllRounds = IsAnswerOf w Safety HoldsInAllRounds

-- the answer of one more property
abbrev pub AddsAnswer : Search → Property → (old new : List Told) → Type 0
AddsAnswer w property old new =
    (answer : Answered)
    × (new ≡ old ++ record { name = name_of property; answer = answer } ∷ [])
    × IsAnswerOf w property answer

-- the same, if it is asked
abbrev pub Adds : Search → Bool → Property → (old new : List Told) → Type 0
Adds w true property old new = AddsAnswer w property old new
Adds w false property old new = new ≡ old

-- the same of a condition, if there is one
abbrev pub AddsAlways : Search → Option (Bor Tree) → (old new : List Told) → Type 0
AddsAlways w (Some f) old new = AddsAnswer w (Always f) old new
AddsAlways w None old new = new ≡ old

-- these are the answers of a search
pub record AreAnswersOf (w : Search) (c : Checks) (condition : Option Tree) (told : List Told)
    : Type 0 where
  pub names : map (λ t. t.name) told ≡ names_of c (is_some condition)
  pub right :
      All (IsRightOf w.program.now w.setup.now w.question w.inputs w.sample condition) told
