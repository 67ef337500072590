use Rattle.std.proofs.Common.{◌∙◌, ap, drop, subst}
use Rattle.std.specs.Prelude.{codes}
use Rattle.std.proofs.lemmas.List.{drop-drop}
use Rattle.omission_explainer.specs.Report.{named_text, variable_text}
use Rattle.omission_explainer.specs.Short.{Tells}
use Rattle.omission_explainer.proofs.Texts.{first_left, flat_map_below}
use Rattle.omission_explainer.proofs.writing.write_state.Goals as goal

pub loop-place-preserved : goal.loop-place-preserved
loop-place-preserved g c =
    let out = g.W.Write.contents in
    let report = c.args.report.now in
    let state = c.args.state.now in
    let place = c.loop-place.place in
    let mid = out c.loop-place.out in
    let new = out c.write_variable.new.out in
    let more : Tells mid c.loop-place.text new c.write_variable.new.text
    (variable_text report state place) =
    subst (λ v. Tells mid c.loop-place.text new c.write_variable.new.text
    (named_text report place v))
    (first_left state c.loop-place.left place c.loop-place.invariant.rest)
    c.in_ok-write_variable.ensures.text in
    record {
      told = flat_map_below (out c.args.out.now) mid new c.args.text.now c.loop-place.text
          c.write_variable.new.text (codes " state") (variable_text report state) place
          c.loop-place.invariant.told more;
      rest = c.in_ok-write_variable.ensures.left ∙ ap (drop 1) c.loop-place.invariant.rest
          ∙ drop-drop 1 place state;
    }
