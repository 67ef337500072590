use Rattle.std.proofs.Common.{◌≡◌, drop, length, map}
use Rattle.std.specs.Prelude.{nat_lt}
use Rattle.std.specs.List.{range_with_len}
use Rattle.run_data.specs.ReportData.{variable_field}
use Rattle.run_data.proofs.Left.{range_from}
use Rattle.run_data.proofs.Texts.{Filling}
use Rattle.run_data.proofs.values.push_state.Given as goal

-- the variables from this place on are left, and so are their values
abbrev pub invariant-loop-place : goal.invariant-loop-place
invariant-loop-place l =
    let field = variable_field l.report l.state in
    let n = length l.report.names in
    record {
      text : Filling l.fn.line (map field (range_with_len 0 n)) l.line (nat_lt 0 l.place)
          (map field (range_from l.place n));
      rest : l.left ≡ drop l.place l.state;
    }
