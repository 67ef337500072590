use Rattle.std.proofs.Common.{◌≡◌, ◌∙◌, ap, sym}
use Rattle.round_meaning.specs.Turn.{decision}
use Rattle.omission_explainer.proofs.explaining.row_of.Goals as goal

pub returns-clause-decision : goal.returns-clause-decision
returns-clause-decision g c =
    let same : c.deref.result.now ≡ c.in_ok-try_clone.field-0.value =
    cc (c.deref.ensures, c.in_ok-try_clone.ensures) in
    c.decision_at.ensures ∙ sym (c.requires.decided c.deref.result.now)
    ∙ ap (decision c.args.book.now.log.program) same
