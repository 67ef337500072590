-- What a run by threads gives.
use Rattle.std.specs.Prelude.{◌≡◌, ◌≢◌, ◌↔◌, ◌+◌, ℕ, All, Bool, List, IsTrue, string_bytes}
use Rattle.adversary.specs.Asking.{Chooses}
use Rattle.adversary.specs.Driving.{ClosedAreDue}
use Rattle.command_runs.specs.Explained.{IsReportSoFar}
use Rattle.command_runs.specs.InLockstep.{IsWritten}
use Rattle.command_runs.specs.declared.threads.ThreadRun.{ThreadRun}
use Rattle.node_threads.specs.Ends.{AreBehind, HaveEnded}
use Rattle.node_threads.specs.declared.ended.Ended.{Ended}
use Rattle.node_threads.specs.declared.ended.Ended.TheVariants.{NoMemory}
use Rattle.omission_explainer.specs.declared.report.Report.{Report}
use Rattle.policies.specs.Policies.{prompt_choice}
use Rattle.policies.specs.declared.prompt.Prompt.{Prompt}
use Rattle.round_lang.specs.Syntax.{ProgramTree}
use Rattle.round_meaning.specs.declared.setup.Setup.{Setup}
use Rattle.schedule_text.specs.declared.pace.Stop.{Stop}
use Rattle.schedule_text.specs.declared.reading.ThreadSetup.{ThreadSetup}
use Rattle.run_events.specs.declared.event.Event.{Event}

-- how a network chooses that releases each message as soon as it can, in their order
abbrev pub chooses_promptly : Chooses Prompt
chooses_promptly old now flight choice new = choice ≡ prompt_choice flight

-- The report is of a run whose events are these, as in Explained. Each node's thread closed all its
-- rounds, with no stop before their end; or it stopped after as many steps as its stop says; or it
-- had no memory to go on. The run is whole if none lacked memory, and then a round is closed if its
-- node took all its steps.
pub record IsThreadRun (start : ℕ → ℕ) (p : ProgramTree) (s : Setup) (stops : List Stop)
    (whole : Bool) (events : List Event) (report : Report) : Type 0 where
  pub told : IsReportSoFar start p s events report
  pub ends : List Ended
  pub ended : HaveEnded start told.run stops ends
  pub behind : AreBehind (start (s.rounds + 1)) stops ends
  pub memory : IsTrue whole ↔ All (λ e. e ≢ NoMemory) ends
  pub closed : IsTrue whole → ClosedAreDue start told.run

-- the report is of a run by threads, and the trace is the text of its events
abbrev pub IsRunOf : (start : ℕ → ℕ) → ProgramTree → ThreadSetup → ThreadRun → Type 0
IsRunOf start p t run =
    (events : List Event) × IsThreadRun start p t.setup t.stops.items run.whole events run.report
    × IsWritten t.setup t.plan events (string_bytes run.trace)
