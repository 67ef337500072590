-- From what a run by threads gives to what the command does.
use Rattle.std.proofs.Common.{◌≡◌, ℕ, Bool, List, Option, Some, None, sym, subst}
use Rattle.std.specs.Prelude.{IfSome, string_bytes}
use Rattle.command_runs.specs.ByThreads.{IsRunOf}
use Rattle.command_runs.specs.InLockstep.{IsWritten}
use Rattle.command_runs.specs.Served.{IsProgramOf, IsThreadSetup, ReportsThreads}
use Rattle.node_threads.specs.Ends.{IsFitForThreads}
use Rattle.command_runs.specs.Texts.{Files}
use Rattle.command_runs.specs.declared.threads.ThreadRun.{ThreadRun}
use Rattle.command_words.specs.declared.values.Source.{Source}
use Rattle.omission_explainer.specs.declared.report.Report.{Report}
use Rattle.round_lang.specs.Syntax.{ProgramTree}
use Rattle.round_meaning.specs.declared.setup.Setup.{Setup}
use Rattle.schedule_text.specs.declared.reading.ThreadSetup.{ThreadSetup}
use Rattle.run_events.specs.declared.plan_kind.PlanKind.{PlanKind}
use Rattle.run_events.specs.declared.event.Event.{Event}
use Rattle.slot_plans.specs.Named.{IsPlan, start_of}

-- a run by threads of a setup that was read is one of its file
pub reports_threads : (source : Source) (files : Files) (p : ProgramTree) (t : ThreadSetup)
    (run : ThreadRun) (file : Option (List ℕ))
    → IsProgramOf source files t.setup.nodes t.setup.faults p
    → IfSome file (λ text. IsThreadSetup text t.setup t.plan t.pace t.stops.items)
    → IsPlan t.plan → IsFitForThreads p.values t.setup t.stops.items
    → IsRunOf (start_of t.plan t.setup.nodes) p t run
    → ReportsThreads source files file (Some (string_bytes run.trace)) run.whole run.report
reports_threads source files p t run None is read plan fit made = tt
reports_threads source files p t run (Some text) is read plan fit made =
    (t.setup, t.plan, t.pace, t.stops.items, made.0, p, read, is, plan, fit, made.1, made.2)

-- a trace that was written is in its file
traced : (s : Setup) (k : PlanKind) (events : List Event) (made : List ℕ) (after : Option (List ℕ))
    → IsWritten s k events made → IfSome after (λ held. held ≡ made)
    → IfSome after (λ held. IsWritten s k events held)
traced s k events made None is same = tt
traced s k events made (Some held) is same = subst (λ text. IsWritten s k events text) (sym same) is

pub reports_traced : (source : Source) (files : Files) (file after : Option (List ℕ))
    (made : List ℕ) (whole : Bool) (report : Report)
    → ReportsThreads source files file (Some made) whole report
    → IfSome after (λ held. held ≡ made) → ReportsThreads source files file after whole report
reports_traced source files None after made whole report is same = tt
reports_traced source files (Some text) after made whole report
    (s, k, pace, stops, events, p, read, of, plan, fit, ran, written) same = (
      s,
      k,
      pace,
      stops,
      events,
      p,
      read,
      of,
      plan,
      fit,
      ran,
      traced s k events made after written same,
    )
