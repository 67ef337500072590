use Rattle.std.proofs.Common.{◌≡◌, ◌∙◌, ◌+◌, ◌<◌, ◌++◌, ap, arith, drop, length, map, subst, true}
use Rattle.std.specs.Prelude.{nat_lt}
use Rattle.std.specs.List.{range_with_len}
use Rattle.std.proofs.lemmas.List.{drop-drop}
use Rattle.std.proofs.lemmas.Bool.Decides.{nat_tests}
use Rattle.serde_json.specs.Written.{comma_if}
use Rattle.omission_explainer.proofs.Texts.{first_left}
use Rattle.run_data.specs.Objects.{field_text}
use Rattle.run_data.specs.ReportData.{named_field, variable_field}
use Rattle.run_data.proofs.Left.{range_from, range_left}
use Rattle.run_data.proofs.Texts.{Filling, filling_more}
use Rattle.run_data.proofs.values.push_state.Goals as goal

pub loop-place-preserved : goal.loop-place-preserved
loop-place-preserved c =
    let report = c.args.report.now in
    let state = c.args.state.now in
    let field = variable_field report state in
    let n = length report.names in
    let i = c.loop-place.place in
    let all = map field (range_with_len 0 n) in
    let below : i < n = omega (arith, ap length c.as_slice-place-end.ensures) in
    let before = subst (λ l. Filling c.args.line.now all c.loop-place.line (nat_lt 0 i) (map field l))
    (range_left i n below) c.loop-place.invariant.text in
    let told : c.push_variable.new.line ≡ c.loop-place.line
    ++ (comma_if (nat_lt 0 i) ++ field_text (field i)) =
    c.in_ok-push_variable.ensures.text
    ∙ ap (λ v. c.loop-place.line ++ (comma_if (nat_lt 0 i) ++ field_text (named_field report i v)))
    (first_left state c.loop-place.left i c.loop-place.invariant.rest) in
    let more = filling_more c.args.line.now all c.loop-place.line c.push_variable.new.line
    (nat_lt 0 i) (field i) (map field (range_from (i + 1) n)) before told in
    let later : true ≡ nat_lt 0 (i + 1) = grind (arith, nat_tests) in
    record {
      text = subst (λ b. Filling c.args.line.now all c.push_variable.new.line b
          (map field (range_from (i + 1) n))) later more;
      rest = c.in_ok-push_variable.ensures.left ∙ ap (drop 1) c.loop-place.invariant.rest
          ∙ drop-drop 1 i state;
    }
