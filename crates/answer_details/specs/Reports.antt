-- The run in which a property fails.
use Rattle.std.specs.Prelude.{ℕ, map, slice_index}
use Rattle.std.specs.List.{range_with_len}
use Rattle.exploration_texts.specs.Stops.{steps_of}
use Rattle.omission_explainer.specs.declared.report.Report.{Report}
use Rattle.omission_schedules.specs.Reports.{ShowsRounds}
use Rattle.round_explorer.specs.Answers.{in_rounds, with_inputs}
use Rattle.round_explorer.specs.declared.answer.Counterexample.{Counterexample}
use Rattle.round_lang.specs.Syntax.{ProgramTree}
use Rattle.round_meaning.specs.Omissions.{is_omitted}
use Rattle.round_meaning.specs.declared.setup.Setup.{Setup}

-- the report is that of the run in which the property fails: it has these inputs, omits these
-- messages, nodes that crash stop, and it ends with the round in which the property fails
abbrev pub ReportsFailure :
    (start : ℕ → ℕ) → ProgramTree → Setup → Counterexample → Report → Type 0
ReportsFailure start p s c report =
    ShowsRounds start p (in_rounds (with_inputs s c.inputs) c.round)
    (slice_index (map (steps_of s.nodes start c.round c.failures.items)
    (range_with_len 0 s.nodes))) (is_omitted c.omissions) report
