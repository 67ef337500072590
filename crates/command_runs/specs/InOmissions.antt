-- What is made of the lines that say which messages a run omits.
use Rattle.std.specs.Prelude.{⊤, ℕ, List, Some}
use Rattle.adversary.specs.declared.fault.RunFault.{RunFault}
use Rattle.adversary.specs.declared.fault.RunFault.TheVariants as run
use Rattle.omission_explainer.specs.declared.report.Report.{Report}
use Rattle.omission_schedules.specs.Reports.{ShowsRounds}
use Rattle.omission_schedules.specs.Schedules.{schedule_with_stops}
use Rattle.omission_texts.specs.Meaning.{IsFirstUnknown, omits}
use Rattle.omission_texts.specs.Stops.{steps_of}
use Rattle.omission_texts.specs.declared.line.OmissionLine.{OmissionLine}
use Rattle.round_lang.specs.Syntax.{ProgramTree}
use Rattle.round_meaning.specs.Setups.{IsLawful}
use Rattle.round_meaning.specs.declared.setup.Setup.{Setup}
use Rattle.run_events.specs.declared.event.Event.{Event}

-- the schedule that goes round by round, omits what the lines say, and in which a node that they
-- have crash stops
abbrev pub realised_by : (receives start : ℕ → ℕ) → Setup → List OmissionLine → List Event
realised_by receives start s ls =
    schedule_with_stops s.nodes receives start (steps_of s.nodes start s ls) (omits ls) s.rounds

-- the report shows the run in rounds that omits what the lines say, and in which a node that they
-- have crash stops
abbrev pub ShowsOmitting :
    (start : ℕ → ℕ) → ProgramTree → Setup → List OmissionLine → Report → Type 0
ShowsOmitting start p s ls report =
    ShowsRounds start p s (steps_of s.nodes start s ls) (omits ls) report

-- why there is no such run: the setup isn't lawful, or else this is the first line that names no
-- message of the run
abbrev pub OmissionCause : ProgramTree → Setup → List OmissionLine → RunFault → Type 0
OmissionCause p s ls run.BadSetup = ¬ (IsLawful p.values s)
OmissionCause p s ls (run.UnknownMessage n) = IsLawful p.values s × IsFirstUnknown s ls (Some n)
OmissionCause p s ls run.NoMemory = ⊤
OmissionCause p s ls _ = ⊥
