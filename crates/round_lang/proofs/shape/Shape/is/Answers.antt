use Rattle.std.proofs.Common.{sym, ◌∙◌}
use Rattle.std.proofs.lemmas.Slice.Eq.{slice_eq-Decides}
use Rattle.round_lang.proofs.KindEquality.{kind_decides}
use Rattle.round_lang.proofs.shape.Shape.is.Goals as goal

pub returns : goal.returns
returns c =
    let h = slice_eq-Decides kind_decides c.kinds.result.now c.args.kinds.now c.eq.result
    c.eq.ensures in
    (λ t. sym c.kinds.ensures ∙ h.0 t, λ e. h.1 (c.kinds.ensures ∙ e))
