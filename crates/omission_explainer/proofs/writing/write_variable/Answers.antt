use Rattle.std.proofs.Common.{◌≡◌, ◌∙◌, ◌++◌, ◌<◌, [], ap, append_assoc, get_or, length, subst, sym}
use Rattle.std.specs.Prelude.{codes}
use Rattle.std.proofs.lemmas.List.{get_or_read}
use Rattle.std.proofs.lemmas.Result.{on_ok_weaker}
use Rattle.round_lang.specs.Values.{at}
use Rattle.omission_explainer.specs.Report.{named_text, type_at, value_text}
use Rattle.omission_explainer.specs.Short.{Tells}
use Rattle.omission_explainer.proofs.Texts.{tells_pushed, variable_told}
use Rattle.omission_explainer.proofs.writing.write_variable.Goals as goal

pub returns-clause-text : goal.returns-clause-text
returns-clause-text g c =
    let out = g.W.Write.contents in
    let report = c.args.report.now in
    let value = at c.args.left.now 0 in
    let i = c.args.place in
    let first = out c.args.out.now in
    let mid = out c.make_room.new.out in
    let last = out c.write_value.new.out in
    let names = c.as_slice-names.result.now in
    let name = c.as_str.result.now in
    let text = c.make_room.new.text in
    let below : i < length names =
    subst (λ ns. i < length ns) (sym c.as_slice-names.ensures) c.requires in
    let named : name ≡ get_or report.names i [] =
    c.as_str.ensures.text ∙ get_or_read names i _ below c.index-names-place.is []
    ∙ ap (λ ns. get_or ns i []) c.as_slice-names.ensures in
    let typed : c.type_at-ty.result ≡ type_at report.types i =
    c.type_at-ty.ensures ∙ ap (λ ts. type_at ts i) c.as_slice.ensures in
    let label : Tells first c.args.text.now mid c.push-2.new.self (codes " " ++ name ++ codes "=") =
    tells_pushed first mid c.args.text.now text c.push-2.new.self
    (codes " " ++ name ++ codes "=") c.in_ok-make_room.ensures.same
    (c.push-2.ensures.text ∙ ap (λ t. t ++ codes "=") (c.push_all.ensures.text
    ∙ ap (λ n. c.push.new.self ++ n) c.as_bytes.ensures.value
    ∙ ap (λ t. t ++ name) c.push.ensures.text)
    ∙ ap (λ t. t ++ codes "=") (append_assoc text (codes " ") name)
    ∙ append_assoc text (codes " " ++ name) (codes "=")) in
    on_ok_weaker {P = Tells mid c.push-2.new.self last c.write_value.new.text
    (value_text report.values c.type_at-ty.result value)} {Q =
    Tells first c.args.text.now last c.write_value.new.text (named_text report i value)}
    c.write_value.result
    (λ told. variable_told first mid last c.args.text.now c.push-2.new.self c.write_value.new.text
    report value i name c.type_at-ty.result named typed label told)
    c.write_value.ensures.text
