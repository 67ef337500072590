-- Parts of a search: what is told of one, and what all of them make together.
use Rattle.std.specs.Borrow.{Bor}
use Rattle.std.specs.Prelude.{◌≡◌, ◌≢◌, ◌<◌, ◌⊎◌, ◌++◌, ◌&&◌, ⊤, ℕ, Bool, IfSome, List, None}
use Rattle.std.specs.Prelude.{Option, Some, [], codes, false, get_or, if◌then◌else◌, is_none}
use Rattle.std.specs.Prelude.{length, map, not, string_bytes, true}
use Rattle.std.specs.Fmt.{decimal}
use Rattle.std.specs.Io.KnownBytes.{Appends}
use Rattle.std.specs.List.{AllZip, list_all}
use Rattle.answer_details.specs.Texts.{detailed_data, detailed_text}
use Rattle.answer_details.specs.declared.details.Details.{Details}
use Rattle.command_runs.specs.Sources.{ShowsSource, SpellsTyped}
use Rattle.command_runs.specs.Texts.{Files}
use Rattle.command_runs.specs.declared.outcome.Outcome.{Outcome}
use Rattle.command_runs.specs.declared.outcome.Outcome.TheVariants.{Done, No}
use Rattle.command_runs.specs.declared.part_refusal.PartRefusal.{PartRefusal}
use Rattle.command_runs.specs.declared.part_refusal.PartRefusal.TheVariants.{Line, Parts}
use Rattle.command_words.specs.declared.exploring.Exploring.{Exploring}
use Rattle.command_words.specs.declared.forms.AnswerFormat.{AnswerFormat}
use Rattle.command_words.specs.declared.forms.AnswerFormat.TheVariants as format
use Rattle.command_words.specs.declared.searching.PartChoice.{PartChoice}
use Rattle.command_words.specs.declared.values.Source.{Source}
use Rattle.command_words.specs.declared.values.Source.TheVariants.{File, Library}
use Rattle.exploration_texts.specs.Lines.{answers_as}
use Rattle.exploration_texts.specs.Questions.{question_text}
use Rattle.exploration_texts.specs.declared.told.Told.{Told}
use Rattle.hex.specs.Hex.{encode_lower}
use Rattle.part_answers.specs.Answers.{answers_text}
use Rattle.part_answers.specs.Heads.{head_line}
use Rattle.part_answers.specs.Parts.{IsWellFormed, part_text}
use Rattle.part_answers.specs.Wholes.{AreAllParts, IsFaultOf, IsWhole}
use Rattle.part_answers.specs.declared.answered.Answered.{Answered}
use Rattle.part_answers.specs.declared.answered.Outcome.{Outcome as PropertyOutcome}
use Rattle.part_answers.specs.declared.answered.Outcome.TheVariants as property
use Rattle.part_answers.specs.declared.part.Part.{Part}
use Rattle.part_answers.specs.declared.part.PartAnswers.{PartAnswers}
use Rattle.part_answers.specs.declared.part.PartHead.{PartHead}
use Rattle.round_lang.specs.Limits.{max_text}
use Rattle.round_lang.specs.Syntax.{ProgramTree}
use Rattle.round_meaning.specs.declared.setup.Setup.{Setup}
use Rattle.schedule_text.specs.Bytes.{IsLongText, IsNoText, IsText}
use Rattle.sha2.specs.Sha256.{sha256}

-- the hex digits of the digest of a question: of a source's text, of the header's numbers and of
-- what is asked
abbrev pub IsDigestOf : (text : List ℕ) → Setup → Exploring → List ℕ → Type 0
IsDigestOf text s e question = question ≡ encode_lower (sha256 (question_text text s e))

-- the text of a source file is the one that spells the program that is searched, whatever the file
-- holds later
abbrev pub IsTextOfProgram : Source → (text : List ℕ) → ProgramTree → Type 0
IsTextOfProgram (File name) text p = SpellsTyped text p
IsTextOfProgram (Library name values) text p = ⊤

-- the question of a search for this program, which is its source's
abbrev pub IsQuestionOf : Source → Files → Setup → ProgramTree → Exploring → List ℕ → Type 0
IsQuestionOf source files s p e question =
    (text : List ℕ) × ShowsSource source files text × IsTextOfProgram source text p
    × IsDigestOf text s e question

abbrev pub part_of : PartChoice → Part
part_of p = record { number = p.number; count = p.count }

-- which part of which question is told of: the one that is asked about, if it's only one
abbrev pub IsHeadFor : Option PartChoice → (List ℕ → Type 0) → Option PartHead → Type 0
IsHeadFor None IsQuestion None = ⊤
IsHeadFor (Some p) IsQuestion (Some head) = (head.part ≡ part_of p) × IsQuestion head.question
IsHeadFor _ IsQuestion _ = ⊥

abbrev pub IsHeadOf : Source → Files → Setup → ProgramTree → Exploring → Option PartHead → Type 0
IsHeadOf source files s p e head = IsHeadFor e.part (IsQuestionOf source files s p e) head

-- `{"part":2,"of":8,"question":"9f86d0..."}`
abbrev pub head_data : PartHead → List ℕ
head_data head =
    codes "{\"part\":" ++ decimal head.part.number ++ codes ",\"of\":"
    ++ decimal head.part.count ++ codes ",\"question\":\"" ++ head.question ++ codes "\"}\n"

-- the first line of a part, in a format
abbrev pub head_as : AnswerFormat → PartHead → List ℕ
head_as format.Text head = head_line head
head_as format.Json head = head_data head

-- what is printed of answers: of a part behind its first line
abbrev pub explored_as : AnswerFormat → Option PartHead → List Told → List ℕ
explored_as f None told = answers_as f told
explored_as f (Some head) told = head_as f head ++ answers_as f told

-- the runs in which properties fail and the notes are printed too, unless the answers are of a part
-- or are to be brief
abbrev pub has_details : Exploring → Bool
has_details e = not e.brief && is_none e.part

-- what is printed of answers and of their details
abbrev pub explored_with :
    AnswerFormat → Option PartHead → List Told → Option Details → List ℕ
explored_with format.Text None told (Some details) = detailed_text told details
explored_with format.Json None told (Some details) =
    detailed_data told (map (λ run. string_bytes run) details.runs.items)
explored_with f head told details = explored_as f head told

-- the file has the answers of this part
abbrev pub HoldsPart : Option (List ℕ) → PartAnswers → Type 0
HoldsPart file p =
    IfSome file (λ held. IsText max_text held × (held ≡ part_text p) × IsWellFormed p)

-- the files of these names have the answers of these parts
abbrev pub HoldParts : Files → List (Bor (List ℕ)) → List PartAnswers → Type 0
HoldParts files names parts = AllZip (λ name p. HoldsPart (files name.now) p) names parts

-- the files have the answers of all parts, and this is what they make together
abbrev pub MakesWhole : Files → List (Bor (List ℕ)) → List Answered → Type 0
MakesWhole files names whole =
    (parts : List PartAnswers) × HoldParts files names parts × AreAllParts parts
    × IsWhole parts whole

-- the property doesn't fail
abbrev pub is_yes : Answered → Bool
is_yes a = holds a.outcome
  where
    holds : PropertyOutcome → Bool
    holds (property.Fails round) = false
    holds _ = true

-- how `together` ends that prints this
abbrev pub outcome_of_whole : List Answered → Outcome
outcome_of_whole whole = if list_all is_yes whole then Done else No

-- `out` gained what the parts make together, and the command ends so
abbrev pub TellsWhole : Files → List (Bor (List ℕ)) → Outcome → (old new : Option (List ℕ))
    → Type 0
TellsWhole files names o old new =
    (whole : List Answered) × MakesWhole files names whole × (o ≡ outcome_of_whole whole)
    × Appends old new (answers_text whole)

-- the name at a place
abbrev pub name_at : List (Bor (List ℕ)) → ℕ → List ℕ
name_at names k = get_or (map (λ name. name.now) names) k []

-- this is the first file without the answers of a part: the files before it have some
pub record IsFirstWithout (files : Files) (names : List (Bor (List ℕ))) (k : ℕ) : Type 0 where
  pub within : k < length names
  pub before : (i : ℕ) → i < k
      → (p : PartAnswers) × HoldsPart (files (name_at names i)) p

-- why the files don't make a whole: one has no text, or one that is too long
abbrev pub HasNoPartText : Files → List (Bor (List ℕ)) → Type 0
HasNoPartText files names =
    (k : ℕ) × IsFirstWithout files names k
    × IfSome (files (name_at names k)) (λ held. IsNoText max_text held ⊎ IsLongText max_text held)

-- or one has the text of no part, or they are not all parts of one search, once each
abbrev pub MakesNoWhole : Files → List (Bor (List ℕ)) → PartRefusal → Type 0
MakesNoWhole files names (Line k n) =
    IsFirstWithout files names k
    × IfSome (files (name_at names k))
    (λ held. (p : PartAnswers) → IsWellFormed p → held ≢ part_text p)
MakesNoWhole files names (Parts fault) =
    (parts : List PartAnswers) × HoldParts files names parts × IsFaultOf parts fault
