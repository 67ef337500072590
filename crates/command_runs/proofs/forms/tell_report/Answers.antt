use Rattle.std.proofs.Common.{refl, subst, sym}
use Rattle.command_words.specs.declared.forms.Format.{Format}
use Rattle.command_runs.proofs.Serving.{printed}
use Rattle.command_runs.proofs.forms.tell_report.Goals as goal
use Rattle.command_runs.specs.Served.{IsFormed, told_text}

pub returns-in-Text-clause-said : goal.returns-in-Text-clause-said
returns-in-Text-clause-said g c =
    let report = c.args.report.now in
    let told = c.args.form.decided in
    let text = told_text report told in
    let formed = subst (λ (f : Format). IsFormed f report told text) (sym c.in-Text.is) refl in
    printed c.written.result c.write_told.result _ _ _ text c.written.ensures.done
    c.write_told.ensures c.written.ensures.kept (λ wrote. (text, formed, wrote))
