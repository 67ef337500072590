use Rattle.std.proofs.Common.{ap, sym, ◌∙◌}
use Rattle.std.proofs.lemmas.Bool.Decides.{Decides-eqb}
use Rattle.std.proofs.lemmas.Slice.Eq.{slice_eq-Decides}
use Rattle.std.specs.Arc.{arc_value}
use Rattle.round_check.proofs.BytesApart.{packed_apart}
use Rattle.round_check.proofs.ToldApart.{told_apart}
use Rattle.round_check.specs.Spelling.{packed, spelled}
use Rattle.round_check.proofs.checked.Checked.same.Goals as goal

pub returns : goal.returns
returns c =
    let one = arc_value c.self.inside.shaped in
    let other = arc_value c.other.inside.shaped in
    let alike = slice_eq-Decides Decides-eqb one.spelling.items other.spelling.items c.eq.result
    (rw (c.deref.ensures, c.deref-2.ensures) at c.eq.ensures) in
    rw (← c.self.view_is, ← c.other.view_is) (
      λ yes. told_apart one.program other.program
          (packed_apart (spelled one.program) (spelled other.program)
          (sym one.spelling_is ∙ alike.0 yes ∙ other.spelling_is)),
      λ same. alike.1
          (one.spelling_is ∙ ap (λ p. packed (spelled p)) same ∙ sym other.spelling_is),
    )
