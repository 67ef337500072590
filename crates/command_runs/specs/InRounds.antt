-- What is found in all runs in rounds, and how a command ends that was carried out.
use Rattle.std.specs.Borrow.{Bor}
use Rattle.std.specs.Prelude.{◌≡◌, ◌++◌, ◌∷◌, ◌<◌, ◌≤◌, ⊤, ℕ, List, None, Option, Some, false}
use Rattle.std.specs.Prelude.{if◌then◌else◌, length, option_map, string_bytes, true}
use Rattle.command_runs.specs.declared.exploring.Found.{Found}
use Rattle.command_runs.specs.declared.outcome.Outcome.{Outcome}
use Rattle.command_runs.specs.declared.outcome.Outcome.TheVariants.{Done, No}
use Rattle.command_runs.specs.declared.trace_fault.TraceFault.{TraceFault}
use Rattle.command_runs.specs.declared.trace_fault.TraceFault.TheVariants as fault
use Rattle.command_words.specs.declared.exploring.Exploring.{Exploring}
use Rattle.exploration_texts.specs.Lines.{comment_text}
use Rattle.exploration_texts.specs.Stops.{steps_of}
use Rattle.exploration_texts.specs.Told.{AreAnswers, IsFirstNo, all_hold}
use Rattle.exploration_texts.specs.declared.told.Told.{Told}
use Rattle.part_answers.specs.declared.property.Property.{Property as PropertyName}
use Rattle.omission_schedules.specs.Schedules.{schedule_with_stops}
use Rattle.round_explorer.specs.Answers.{in_rounds, with_inputs}
use Rattle.round_explorer.specs.declared.answer.Counterexample.{Counterexample}
use Rattle.round_lang.specs.Syntax.{ProgramTree}
use Rattle.round_meaning.specs.Omissions.{is_omitted}
use Rattle.round_meaning.specs.declared.setup.Setup.{Setup}
use Rattle.schedule_text.specs.Texts.{Says, max_text}
use Rattle.schedule_text.specs.Writing.{text_of}
use Rattle.run_events.specs.declared.plan_kind.PlanKind.{PlanKind}
use Rattle.run_events.specs.declared.event.Event.{Event}

-- the setup of the run in which a property fails, up to the round in which it does
abbrev pub shown_setup : Setup → Counterexample → Setup
shown_setup s c = in_rounds (with_inputs s c.inputs) c.round

-- the schedule that goes round by round up to that one, omits what this run does, and in which
-- nodes that crash stop
abbrev pub shown_by : (receives start : ℕ → ℕ) → Setup → Counterexample → List Event
shown_by receives start s c =
    schedule_with_stops s.nodes receives start
    (steps_of s.nodes start c.round c.failures.items) (is_omitted c.omissions) c.round

-- the text is that of this schedule, behind a comment that says which property fails in which
-- round, and is read as the schedule where it isn't too long
pub record IsShown (receives start : ℕ → ℕ) (s : Setup) (k : PlanKind) (name : PropertyName)
    (c : Counterexample) (text : List ℕ) : Type 0 where
  pub spelled : text ≡ comment_text name c.round
      ++ 10 ∷ text_of (shown_setup s c) k (shown_by receives start s c)
  pub read_back : length text ≤ max_text
      → Says text (shown_setup s c) k (shown_by receives start s c)

-- the text shows the first property that fails
abbrev pub ShowsFailure :
    (receives start : ℕ → ℕ) → Setup → PlanKind → List Told → (text : List ℕ) → Type 0
ShowsFailure receives start s k told text =
    (name : PropertyName) × (c : Counterexample) × IsFirstNo told name c
    × IsShown receives start s k name c text

-- the same if some property fails, and there is no text if each holds
abbrev pub ShowsFirst :
    (receives start : ℕ → ℕ) → Setup → PlanKind → List Told → (text : Option (List ℕ)) → Type 0
ShowsFirst receives start s k told None = all_hold told ≡ true
ShowsFirst receives start s k told (Some text) = ShowsFailure receives start s k told text

-- the trace, if one is asked for
abbrev pub IsTrace : (receives start : ℕ → ℕ) → Setup → PlanKind → Option (Bor (List ℕ))
    → List Told → (trace : Option (List ℕ)) → Type 0
IsTrace receives start s k None told trace = trace ≡ None
IsTrace receives start s k (Some name) told trace = ShowsFirst receives start s k told trace

-- what the options ask is told, and this is the trace
pub record IsFound (receives start : ℕ → ℕ) (p : ProgramTree) (s : Setup) (k : PlanKind)
    (e : Exploring) (found : Found) : Type 0 where
  pub answers : AreAnswers p s e found.told.items
  pub trace : IsTrace receives start s k e.trace found.told.items
      (option_map (λ text. string_bytes text) found.trace)

-- there is a trace just if one is asked for and a property fails
abbrev pub IsMade : Option (Bor (List ℕ)) → List Told → (trace : Option (List ℕ)) → Type 0
IsMade None told trace = trace ≡ None
IsMade (Some name) told None = all_hold told ≡ true
IsMade (Some name) told (Some text) = all_hold told ≡ false

-- the bytes of a trace that was found
abbrev pub trace_of : Found → Option (List ℕ)
trace_of found = option_map (λ text. string_bytes text) found.trace

-- why a trace isn't written: it's longer than what commands read, or the desk doesn't take it
abbrev pub IsTraceFault : (trace : Option (List ℕ)) → TraceFault → Type 0
IsTraceFault (Some text) fault.TooLong = max_text < length text
IsTraceFault (Some text) _ = ⊤
IsTraceFault None _ = ⊥

-- how `explore` ends that tells this
abbrev pub outcome_of : List Told → Outcome
outcome_of told = if all_hold told then Done else No

-- the exit status
abbrev pub code_of : Outcome → ℕ
code_of Done = 0
code_of No = 5
