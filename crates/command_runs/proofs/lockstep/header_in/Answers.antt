use Rattle.std.proofs.Common.{◌≡◌, List, subst, sym, ℕ}
use Rattle.std.proofs.lemmas.Result.{IfErr-weaker, IfOk-weaker}
use Rattle.std.specs.Prelude.{string_bytes}
use Rattle.command_runs.proofs.Refusing.{err_then, file_text, no_text, no_text_of}
use Rattle.command_runs.proofs.lockstep.header_in.Goals as goal
use Rattle.command_runs.specs.Refused.{IsMissing, fault_in}
use Rattle.command_runs.specs.Stages.{IsNoReadOf}
use Rattle.schedule_text.specs.Texts.{SaysOf}
use Rattle.schedule_text.specs.declared.kind.Kind.TheVariants.{Header}

pub returns-clause-header : goal.returns-clause-header
returns-clause-header g c =
    let file = g.D.Desk.files c.args.desk.now c.args.name.now in
    let text = string_bytes c.in_ok-text.text in
    IfOk-weaker c.header_of.result _ _
    (λ h says. file_text Header file text h.0 h.1 tt c.in_ok-text.ensures.held
    (subst (λ (t : List ℕ). SaysOf Header t h.0 h.1 tt) c.as_str.ensures.value says))
    c.header_of.ensures.header

pub returns-clause-refused : goal.returns-clause-refused
returns-clause-refused g c =
    let file = g.D.Desk.files c.args.desk.now c.args.name.now in
    let text = string_bytes c.in_ok-text.text in
    IfErr-weaker c.header_of.result _ (IsMissing Header file)
    (λ r none. no_text (fault_in Header) file text r c.in_ok-text.ensures.held
    (subst (λ (t : List ℕ). IsNoReadOf Header t r) c.as_str.ensures.value none))
    c.header_of.ensures.refused

pub returns-in_err-text-clause-refused : goal.returns-in_err-text-clause-refused
returns-in_err-text-clause-refused g c =
    let cause = IsMissing Header (g.D.Desk.files c.args.desk.now c.args.name.now) in
    let fault = c.in_err-text.field-0.0 in
    err_then c.from_residual.result (λ r. r ≡ fault) cause c.from_residual.ensures.1
    (λ r is. subst cause (sym is)
    (no_text_of (fault_in Header) _ fault c.in_err-text.ensures.refused))
