-- The lines of `explore`.
use Rattle.std.specs.Prelude.{ℕ, ◌++◌, ◌∷◌, List, codes}
use Rattle.std.specs.Fmt.{decimal}
use Rattle.std.specs.List.{flat_map}
use Rattle.command_words.specs.declared.forms.AnswerFormat.{AnswerFormat}
use Rattle.command_words.specs.declared.forms.AnswerFormat.TheVariants as format
use Rattle.exploration_texts.specs.declared.condition.ConditionFault.{ConditionFault}
use Rattle.exploration_texts.specs.declared.condition.ConditionFault.TheVariants as fault
use Rattle.exploration_texts.specs.declared.told.Answered.{Answered}
use Rattle.exploration_texts.specs.declared.told.Answered.TheVariants.{Fails, Holds}
use Rattle.exploration_texts.specs.declared.told.Answered.TheVariants.{HoldsInAllRounds, NotFound}
use Rattle.exploration_texts.specs.declared.told.Told.{Told}
use Rattle.part_answers.specs.Answers.{outcome_words}
use Rattle.part_answers.specs.Properties.{name_text}
use Rattle.part_answers.specs.declared.answered.Outcome.TheVariants as outcome
use Rattle.part_answers.specs.declared.property.Property.{Property as PropertyName}
use Rattle.round_check.specs.declared.fault.CheckFault.{CheckFault}
use Rattle.round_check.specs.declared.fault.CheckFault.TheVariants as check
use Rattle.round_lang.specs.declared.fault.LangFault.{LangFault}
use Rattle.round_lang.specs.declared.fault.LangFault.TheVariants as lang

-- the answer: as a part of a search has it, or in how many runs of a sample no failure was found
abbrev pub answer_words : Answered → List ℕ
answer_words Holds = outcome_words outcome.Holds
answer_words HoldsInAllRounds = outcome_words outcome.HoldsInAllRounds
answer_words (Fails c) = outcome_words (outcome.Fails c.round)
answer_words (NotFound n) = codes "none found in " ++ decimal n

-- the property, a space, and its answer
abbrev pub told_text : Told → List ℕ
told_text t = name_text t.name ++ 32 ∷ answer_words t.answer

abbrev pub told_line : Told → List ℕ
told_line t = told_text t ++ codes "\n"

-- a line for each property
abbrev pub answers_text : List Told → List ℕ
answers_text told = flat_map told_line told

abbrev pub answer_data : Answered → List ℕ
answer_data Holds = codes "true,\"round\":null"
answer_data HoldsInAllRounds = codes "true,\"round\":null,\"rounds\":\"all\""
answer_data (Fails c) = codes "false,\"round\":" ++ decimal c.round
answer_data (NotFound n) = codes "null,\"round\":null,\"runs\":" ++ decimal n

-- the property and its answer as an object without its end
abbrev pub told_members : Told → List ℕ
told_members t =
    codes "{\"property\":\"" ++ name_text t.name ++ codes "\",\"holds\":" ++ answer_data t.answer

-- the whole object, `{"property":"final","holds":false,"round":2}`
abbrev pub told_data : Told → List ℕ
told_data t = told_members t ++ codes "}\n"

-- an object a line for each property
abbrev pub answers_data : List Told → List ℕ
answers_data told = flat_map told_data told

-- the lines of all answers in a format
abbrev pub answers_as : AnswerFormat → List Told → List ℕ
answers_as format.Text told = answers_text told
answers_as format.Json told = answers_data told

-- the comment of a schedule that shows a property failing
abbrev pub comment_text : PropertyName → (round : ℕ) → List ℕ
comment_text name round =
    codes "# " ++ name_text name ++ codes " fails in round " ++ decimal round

-- a text that is no expression, with the place of what is wrong
abbrev pub source_text : LangFault → List ℕ
source_text (lang.BadToken span) =
    codes "source 1 at " ++ decimal span.first ++ codes " " ++ decimal span.after
source_text (lang.Unexpected span) =
    codes "source 2 at " ++ decimal span.first ++ codes " " ++ decimal span.after
source_text lang.TooDeep = codes "source 3"
source_text lang.TooLong = codes "source 4"
source_text (lang.LimitPassed span) =
    codes "source 5 at " ++ decimal span.first ++ codes " " ++ decimal span.after
source_text lang.NoMemory = codes "no memory"

-- the causes of an expression that is no condition, by their numbers
abbrev pub check_text : CheckFault → List ℕ
check_text check.UnknownName = codes "check 1"
check_text check.DoubleName = codes "check 2"
check_text check.WrongType = codes "check 3"
check_text check.FieldCount = codes "check 4"
check_text check.NotAllowedHere = codes "check 5"
check_text check.NoInput = codes "check 6"
check_text check.NoDecision = codes "check 7"
check_text check.MissingRound = codes "check 8"
check_text check.NoMemory = codes "no memory"

-- why EXPR isn't asked, in words
abbrev pub condition_text : ConditionFault → List ℕ
condition_text (fault.Source e) = source_text e
condition_text (fault.Check e) = check_text e
condition_text fault.NoMemory = codes "no memory"
