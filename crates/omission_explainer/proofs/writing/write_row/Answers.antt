use Rattle.std.proofs.Common.{◌++◌, subst}
use Rattle.std.specs.Arc.{arc_value}
use Rattle.std.specs.Fmt.{decimal}
use Rattle.std.specs.Prelude.{codes}
use Rattle.omission_explainer.specs.Report.{decision_text, row_text, state_text}
use Rattle.omission_explainer.specs.Rows.{ClosedRound}
use Rattle.omission_explainer.specs.Short.{Tells}
use Rattle.omission_explainer.proofs.Texts.{row_told, tells_pushed}
use Rattle.omission_explainer.proofs.writing.write_row.Goals as goal

pub returns : goal.returns
returns g c =
    let out = g.W.Write.contents in
    let report = c.args.report.now in
    let inside = c.row.inside in
    let r : ClosedRound = record {
      round = inside.round;
      node = inside.node;
      heard = inside.heard.bits;
      silent = inside.silent.bits;
      omitted = inside.omitted.bits;
      state = arc_value inside.state;
      decision = inside.decision;
    } in
    let first = out c.args.out.now in
    let begun = out c.make_room.new.out in
    let told = out c.write_state.new.out in
    let last = out c.make_room-2.new.out in
    let start : Tells first c.args.text.now begun c.push_head.new.text
    (codes "round " ++ decimal r.round ++ codes " node " ++ decimal r.node) =
    tells_pushed first begun c.args.text.now c.make_room.new.text c.push_head.new.text _
    c.in_ok-make_room.ensures.same c.push_head.ensures in
    let state : Tells (out c.write_nodes-3.new.out) c.write_nodes-3.new.text told
    c.write_state.new.text (state_text report r.state) =
    subst (λ vs. Tells (out c.write_nodes-3.new.out) c.write_nodes-3.new.text told
    c.write_state.new.text (state_text report vs)) c.deref.ensures
    c.in_ok-write_state.ensures in
    let decision : Tells told c.write_state.new.text last c.push_decision.new.text
    (codes " decision " ++ decision_text r.decision ++ codes "\n") =
    tells_pushed told last c.write_state.new.text c.make_room-2.new.text c.push_decision.new.text _
    c.in_ok-make_room-2.ensures.same c.push_decision.ensures in
    subst (λ x. Tells first c.args.text.now last c.push_decision.new.text (row_text report x))
    c.row.view_is
    (row_told first begun _ _ _ told last c.args.text.now c.push_head.new.text _ _ _
    c.write_state.new.text c.push_decision.new.text report r start c.in_ok-write_nodes.ensures
    c.in_ok-write_nodes-2.ensures c.in_ok-write_nodes-3.ensures state decision)
