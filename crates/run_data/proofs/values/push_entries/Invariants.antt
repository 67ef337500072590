use Rattle.std.proofs.Common.{◌≡◌, drop, map}
use Rattle.omission_explainer.specs.Report.{entered, is_entered}
use Rattle.run_data.specs.ReportData.{entry_field}
use Rattle.run_data.proofs.Left.{passing}
use Rattle.run_data.proofs.Texts.{Filling}
use Rattle.run_data.proofs.values.push_entries.Given as goal

-- the entries from this value on are left
abbrev pub invariant-loop-value : goal.invariant-loop-value
invariant-loop-value l =
    let entries = l.fn.left in
    let field = entry_field entries in
    record {
      text : Filling l.fn.line (map field (entered l.values entries)) l.line l.is_later
          (map field (passing (is_entered entries) l.value l.values));
      rest : l.left ≡ drop l.value entries;
    }
