use Rattle.std.proofs.Common.{◌≡◌, ◌∙◌, ◌+◌, ◌<◌, ◌++◌, ap, drop, map, subst, sym}
use Rattle.std.specs.Prelude.{slice_index}
use Rattle.std.specs.Fmt.{decimal}
use Rattle.std.proofs.lemmas.List.{drop-drop}
use Rattle.serde_json.specs.Written.{comma_if}
use Rattle.omission_explainer.specs.Report.{entered, is_entered}
use Rattle.omission_explainer.proofs.Texts.{entry_absent, entry_left, entry_there}
use Rattle.run_data.specs.Objects.{field_text, number_data}
use Rattle.run_data.specs.ReportData.{entry_field}
use Rattle.run_data.proofs.Left.{passing, passing_first, passing_later}
use Rattle.run_data.proofs.Texts.{Filling, filling_more}
use Rattle.run_data.proofs.values.push_entries.Goals as goal
use Rattle.run_data.proofs.values.push_entries.Goals.{then-entry-ne0+in_ok-push_entry}
use Rattle.run_data.proofs.values.push_entries.Goals.{else-entry-ne0}

pub loop-value-preserved : goal.loop-value-preserved
loop-value-preserved c =
    let entries = c.args.left.now in
    let k = c.args.values in
    let i = c.loop-value.value in
    let e = c.next_entry-entry.result in
    let first = c.args.line.now in
    let text = c.loop-value.line in
    let is_later = c.loop-value.is_later in
    let field = entry_field entries in
    let all = map field (entered k entries) in
    let left = map field (passing (is_entered entries) (i + 1) k) in
    let below : i < k = c.loop-value-test.true in
    let is : e ≡ slice_index entries i =
    c.next_entry-entry.ensures.entry
    ∙ entry_left entries c.loop-value.left i c.loop-value.invariant.rest in
    let filled : Filling first all c.if-entry-ne0.line c.if-entry-ne0.is_later left =
    elim c.if-entry-ne0.branch [
      | then-entry-ne0+in_ok-push_entry w ↦
          let before = subst (λ l. Filling first all text is_later (map field l))
          (passing_first (is_entered entries) i k below
          (entry_there entries i e is w.if-entry-ne0.true)) c.loop-value.invariant.text in
          let told : w.push_entry.new.line ≡ text
          ++ (comma_if is_later ++ field_text (field i)) =
          w.in_ok-push_entry.ensures
          ∙ ap (λ n. text ++ (comma_if is_later ++ field_text (decimal i, number_data n))) is in
          let more =
          filling_more first all text w.push_entry.new.line is_later (field i) left before
          told in
          subst (λ t. Filling first all t c.if-entry-ne0.is_later left) (sym w.line-is)
          (subst (λ b. Filling first all w.push_entry.new.line b left) (sym w.is_later-is) more)
      | else-entry-ne0 w ↦
          let before = subst (λ l. Filling first all text is_later (map field l))
          (passing_later (is_entered entries) i k below
          (entry_absent entries i e is w.if-entry-ne0.false)) c.loop-value.invariant.text in
          subst (λ t. Filling first all t c.if-entry-ne0.is_later left) (sym w.line-is)
          (subst (λ b. Filling first all text b left) (sym w.is_later-is) before)
    ] in
    record {
      text = filled;
      rest = c.next_entry-entry.ensures.rest ∙ ap (drop 1) c.loop-value.invariant.rest
          ∙ drop-drop 1 i entries;
    }
