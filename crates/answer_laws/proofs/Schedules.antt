-- The report of the run of a schedule shows the run in rounds.
use Rattle.std.proofs.Common.{◌∙◌, ℕ, Bool, ap, sym}
use Rattle.command_runs.specs.Explained.{IsReportOf}
use Rattle.omission_explainer.specs.Reported.{declared_names, declared_types}
use Rattle.omission_explainer.specs.declared.report.Report.{Report}
use Rattle.omission_schedules.specs.Reports.{IsExplained, IsScheduleRun, ShowsRounds}
use Rattle.omission_schedules.specs.Schedules.{schedule_with_stops}
use Rattle.omission_schedules.proofs.OneReport.{one_report}
use Rattle.omission_schedules.proofs.Shown.{schedules_show_rounds}
use Rattle.omission_texts.specs.Meaning.{omits}
use Rattle.omission_texts.specs.Stops.{steps_of}
use Rattle.round_lang.specs.Syntax.{ProgramTree}
use Rattle.round_meaning.specs.declared.setup.Setup.{Setup}
use Rattle.slot_plans.specs.Plan.{PlanLaws}
use Rattle.answer_laws.specs.Read.{RunsReportRounds}

pub shows_rounds : (receives start stops : ℕ → ℕ) (p : ProgramTree) (s : Setup)
    (omits : ℕ → ℕ → ℕ → Bool) (report : Report) → PlanLaws s.nodes receives start
    → IsReportOf start p s (schedule_with_stops s.nodes receives start stops omits s.rounds) report
    → ShowsRounds start p s stops omits report
shows_rounds receives start stops p s omits report laws told =
    let x = told.so_far in
    let run : IsScheduleRun receives start p s stops omits x.run = record {
      program = x.program;
      setup = x.setup;
      trace = x.trace;
      agrees = x.agrees;
      closed = told.closed;
    } in
    let explained : IsExplained start x.run report = record {
      values = x.values ∙ ap (λ (q : ProgramTree). q.values) (sym x.program);
      names = x.names ∙ ap declared_names (sym x.program);
      types = x.types ∙ ap declared_types (sym x.program);
      listed = x.listed;
      reported = x.reported;
      counted = x.counted;
    } in
    schedules_show_rounds receives start stops p s omits laws x.run report run explained

pub runs_report_rounds : RunsReportRounds
runs_report_rounds receives start p s ls report again laws shows told =
    one_report start (steps_of s.nodes start s ls) p s (omits ls) report again shows
    (shows_rounds receives start (steps_of s.nodes start s ls) p s (omits ls) again laws told)
