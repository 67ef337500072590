use Rattle.std.proofs.Common.{◌∙◌, ◌++◌, ap, sym}
use Rattle.std.proofs.lemmas.Result.{IfOk-weaker}
use Rattle.round_lang.specs.Values.{at}
use Rattle.serde_json.specs.Written.{compact_text}
use Rattle.run_data.specs.ReportData.{entries_data, value_data}
use Rattle.run_data.proofs.values.push_value.Goals as goal

pub returns-in-Row-clause-text : goal.returns-in-Row-clause-text
returns-in-Row-clause-text c =
    let first = c.args.line.now in
    let k = c.args.values in
    IfOk-weaker c.push_entries.result _ _
    (λ _ e. e ∙ ap (λ es. first ++ compact_text (entries_data k es)) c.next_row.ensures.value
    ∙ ap (λ t. first ++ compact_text (value_data k t (at c.args.left.now 0))) (sym c.in-Row.is))
    c.push_entries.ensures
