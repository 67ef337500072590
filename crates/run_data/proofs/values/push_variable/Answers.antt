use Rattle.std.proofs.Common.{◌≡◌, ◌∙◌, ◌<◌, [], ap, get_or, length, subst, sym}
use Rattle.std.proofs.lemmas.List.{get_or_read}
use Rattle.std.proofs.lemmas.Result.{IfOk-weaker}
use Rattle.round_lang.specs.Values.{at}
use Rattle.omission_explainer.specs.Report.{type_at}
use Rattle.run_data.specs.ReportData.{value_data}
use Rattle.run_data.proofs.Texts.{field_pushed}
use Rattle.run_data.proofs.values.push_variable.Goals as goal

pub returns-clause-text : goal.returns-clause-text
returns-clause-text c =
    let report = c.args.report.now in
    let i = c.args.place in
    let value = at c.args.left.now 0 in
    let names = c.as_slice-names.result.now in
    let below : i < length names =
    subst (λ ns. i < length ns) (sym c.as_slice-names.ensures) c.requires in
    let named : c.index-names-place.result ≡ get_or report.names i [] =
    get_or_read names i _ below c.index-names-place.is []
    ∙ ap (λ ns. get_or ns i []) c.as_slice-names.ensures in
    let typed : c.type_at-ty.result ≡ type_at report.types i =
    c.type_at-ty.ensures ∙ ap (λ ts. type_at ts i) c.as_slice.ensures in
    IfOk-weaker c.push_value.result _ _
    (λ _ e. field_pushed c.args.line.now c.push_comma_if.new.self c.push_name.new.self
    c.push_value.new.line c.index-names-place.result (get_or report.names i []) c.args.is_later
    (value_data report.values c.type_at-ty.result value)
    (value_data report.values (type_at report.types i) value) c.in_ok-push_comma_if.ensures
    c.in_ok-push_name.ensures e named (ap (λ t. value_data report.values t value) typed))
    c.push_value.ensures.text
