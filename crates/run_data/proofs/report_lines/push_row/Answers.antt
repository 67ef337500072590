use Rattle.std.proofs.Common.{◌≡◌, ◌∙◌, ◌++◌, ap, subst}
use Rattle.std.specs.Arc.{arc_value}
use Rattle.std.specs.Fmt.{decimal}
use Rattle.std.specs.Prelude.{codes}
use Rattle.std.proofs.lemmas.Result.{IfOk-weaker}
use Rattle.omission_explainer.specs.Rows.{ClosedRound}
use Rattle.serde_json.specs.Written.{compact_text}
use Rattle.run_data.specs.ReportData.{row_object, set_data, state_data}
use Rattle.run_data.proofs.Lines.{row_made}
use Rattle.run_data.proofs.report_lines.push_row.Goals as goal

pub returns : goal.returns
returns c =
    let report = c.args.report.now in
    let first = c.args.line.now in
    let inside = c.row.inside in
    let r : ClosedRound = record {
      round = inside.round;
      node = inside.node;
      heard = inside.heard.bits;
      silent = inside.silent.bits;
      omitted = inside.omitted.bits;
      state = arc_value inside.state;
      decision = inside.decision;
    } in
    let round = c.in_ok-push_labelled.ensures
    ∙ ap (λ n. first ++ (codes "{\"round\":" ++ decimal n)) c.from.ensures in
    let node = c.in_ok-push_labelled-2.ensures
    ∙ ap (λ n. c.push_labelled.new.self ++ (codes ",\"node\":" ++ decimal n)) c.from-2.ensures in
    let heard = c.in_ok-push_labelled_set.ensures
    ∙ ap (λ s. c.push_labelled-2.new.self ++ (codes ",\"heard\":" ++ compact_text (set_data s)))
    c.set_of.ensures in
    let silent = c.in_ok-push_labelled_set-2.ensures
    ∙ ap (λ s. c.push_labelled_set.new.self ++ (codes ",\"silent\":" ++ compact_text (set_data s)))
    c.set_of-2.ensures in
    let omitted = c.in_ok-push_labelled_set-3.ensures
    ∙ ap (λ s. c.push_labelled_set-2.new.self
    ++ (codes ",\"omitted\":" ++ compact_text (set_data s)))
    c.set_of-3.ensures in
    let state = c.in_ok-push_state.ensures
    ∙ ap (λ vs. c.push_all.new.self ++ compact_text (state_data report vs)) c.deref.ensures in
    IfOk-weaker c.push.result _ _
    (λ _ e. subst (λ x. c.push.new.self ≡ first ++ compact_text (row_object report x))
    c.row.view_is
    (row_made report r first c.push_labelled.new.self c.push_labelled-2.new.self
    c.push_labelled_set.new.self c.push_labelled_set-2.new.self c.push_labelled_set-3.new.self
    c.push_all.new.self c.push_state.new.line c.push_decision.new.line c.push.new.self round node
    heard silent omitted c.in_ok-push_all.ensures state c.in_ok-push_decision.ensures e))
    c.push.ensures
