use Rattle.std.proofs.Common.{subst, sym}
use Rattle.std.proofs.lemmas.Result.{on_ok_weaker}
use Rattle.round_lang.specs.Values.{at}
use Rattle.omission_explainer.specs.Report.{entries_text, value_text}
use Rattle.omission_explainer.specs.Short.{Tells}
use Rattle.omission_explainer.proofs.Texts.{Tells-trans}
use Rattle.omission_explainer.proofs.writing.write_value.Goals as goal

pub returns-in-Row-clause-text : goal.returns-in-Row-clause-text
returns-in-Row-clause-text g c =
    let out = g.W.Write.contents in
    let first = out c.args.out.now in
    let mid = out c.make_room.new.out in
    let last = out c.write_entries.new.out in
    let value = at c.args.left.now 0 in
    on_ok_weaker {P = Tells mid c.make_room.new.text last c.write_entries.new.text
    (entries_text c.args.values c.next_row.result)} {Q =
    Tells first c.args.text.now last c.write_entries.new.text
    (value_text c.args.values c.args.ty value)} c.write_entries.result
    (λ entries. let told =
    subst (λ es. Tells mid c.make_room.new.text last c.write_entries.new.text
    (entries_text c.args.values es)) c.next_row.ensures.value entries in
    subst (λ t. Tells first c.args.text.now last c.write_entries.new.text
    (value_text c.args.values t value)) (sym c.in-Row.is)
    (Tells-trans first mid last c.args.text.now c.make_room.new.text c.write_entries.new.text _ _
    c.in_ok-make_room.ensures.same told))
    c.write_entries.ensures
