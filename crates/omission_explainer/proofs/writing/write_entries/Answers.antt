use Rattle.std.proofs.Common.{◌≡◌, ◌∙◌, ◌+◌, [], ap, drop, sym, subst, arith}
use Rattle.std.specs.Prelude.{codes, if◌then◌else◌, slice_index}
use Rattle.std.proofs.lemmas.List.{drop-drop}
use Rattle.omission_explainer.specs.Report.{entry_text, is_entered}
use Rattle.omission_explainer.proofs.Texts.{TellsPassing, entry_absent, entry_left, entry_there}
use Rattle.omission_explainer.proofs.Texts.{entry_told, passing_all, passing_taken, passing_passed}
use Rattle.omission_explainer.proofs.Texts.{tells_pushed}
use Rattle.omission_explainer.proofs.writing.write_entries.Goals as goal
use Rattle.omission_explainer.proofs.writing.write_entries.Goals.{then-entry-ne0+in_ok-make_room-2}
use Rattle.omission_explainer.proofs.writing.write_entries.Goals.{else-entry-ne0}

pub loop-value-preserved : goal.loop-value-preserved
loop-value-preserved g c =
    let out = g.W.Write.contents in
    let i = c.loop-value.value in
    let e = c.next_entry-entry.result in
    let entries = c.args.left.now in
    let is : e ≡ slice_index entries i =
    c.next_entry-entry.ensures.entry
    ∙ entry_left entries c.loop-value.left i c.loop-value.invariant.rest in
    let now = c.loop-value.has_entry in
    let old = out c.args.out.now in
    let s = c.args.text.now in
    let told : TellsPassing old s (out c.if-entry-ne0.out) c.if-entry-ne0.text (entry_text entries)
    (is_entered entries) (i + 1) c.if-entry-ne0.has_entry =
    elim c.if-entry-ne0.branch [
      | then-entry-ne0+in_ok-make_room-2 w ↦
          let room = w.make_room-then-entry-ne0.new in
          let told = tells_pushed (out c.loop-value.out)
          (out room.out) c.loop-value.text room.text w.push_entry.new.text _
          w.in_ok-make_room-2.ensures.same w.push_entry.ensures in
          let more = entry_told (out c.loop-value.out)
          (out room.out) c.loop-value.text w.push_entry.new.text entries
          (if now then codes "," else []) i e is told in
          let all = passing_taken old (out c.loop-value.out)
          (out room.out) s c.loop-value.text w.push_entry.new.text (entry_text entries)
          (is_entered entries) i now c.loop-value.invariant.told
          (entry_there entries i e is w.if-entry-ne0.true) more in
          subst (λ o. TellsPassing old s o c.if-entry-ne0.text (entry_text entries)
          (is_entered entries) (i + 1) c.if-entry-ne0.has_entry) (sym (ap out w.out-is))
          (subst (λ t. TellsPassing old s (out room.out) t (entry_text entries) (is_entered entries)
          (i + 1) c.if-entry-ne0.has_entry) (sym w.text-is)
          (subst (λ h. TellsPassing old s (out room.out) w.push_entry.new.text (entry_text entries)
          (is_entered entries) (i + 1) h) (sym w.has_entry-is) all))
      | else-entry-ne0 w ↦
          let all = passing_passed old (out c.loop-value.out) s c.loop-value.text
          (entry_text entries) (is_entered entries) i now c.loop-value.invariant.told
          (entry_absent entries i e is w.if-entry-ne0.false) in
          subst (λ o. TellsPassing old s o c.if-entry-ne0.text (entry_text entries)
          (is_entered entries) (i + 1) c.if-entry-ne0.has_entry) (sym (ap out w.out-is))
          (subst (λ t. TellsPassing old s (out c.loop-value.out) t (entry_text entries)
          (is_entered entries) (i + 1) c.if-entry-ne0.has_entry) (sym w.text-is)
          (subst (λ h. TellsPassing old s (out c.loop-value.out) c.loop-value.text
          (entry_text entries) (is_entered entries) (i + 1) h) (sym w.has_entry-is) all))
    ] in
    record {
      told = told;
      rest = c.next_entry-entry.ensures.rest ∙ ap (drop 1) c.loop-value.invariant.rest
          ∙ drop-drop 1 i entries;
    }

pub returns : goal.returns
returns g c =
    let out = g.W.Write.contents in
    let entries = c.args.left.now in
    let last = tells_pushed (out c.loop-value.out)
    (out c.make_room-2.new.out) c.loop-value.text c.make_room-2.new.text c.push-2.new.self
    (codes "]") c.in_ok-make_room-3.ensures.same c.push-2.ensures.text in
    passing_all (out c.args.out.now) (out c.loop-value.out)
    (out c.make_room-2.new.out) c.args.text.now c.loop-value.text c.push-2.new.self entries
    c.loop-value.value c.args.values c.loop-value.has_entry
    (omega (arith, c.loop-value-test.false, c.loop-value.auto.value-end))
    c.loop-value.invariant.told last
