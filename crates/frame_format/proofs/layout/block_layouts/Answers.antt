use Rattle.std.proofs.Common.{ℕ, ◌≡◌, ◌∙◌, ◌<◌, ◌++◌, ◌∷◌, [], List, length, ap, arith, sym, subst}
use Rattle.std.proofs.Common.{take, get_or}
use Rattle.round_lang.specs.declared.kind.Kind.{Kind}
use Rattle.round_lang.specs.Syntax.{ProgramTree}
use Rattle.round_check.specs.Shapes.{message_kinds}
use Rattle.frame_format.specs.Formats.{IsBlock}
use Rattle.frame_format.proofs.Sizes.{kinds_more, lawful_more}
use Rattle.frame_format.proofs.layout.block_layouts.Goals as goal

pub loop-place-preserved : goal.loop-place-preserved
loop-place-preserved c =
    let p = c.args.program.now in
    let place = c.loop-place.place in
    let old = c.loop-place.blocks.items in
    let kinds = c.in_ok-block_layout.field-0 in
    let new : c.push.new.self.items ≡ old ++ kinds ∷ [] = c.in_ok-push.ensures.items in
    let within : place < length p.blocks = omega (
      arith,
      ap length c.blocks-listed.ensures,
      ap (λ (t : ProgramTree). length t.blocks) c.program.ensures,
    ) in
    record {
      blocks = new ∙ ap (λ (bs : List (List Kind)). bs ++ kinds ∷ []) c.loop-place.invariant.blocks
          ∙ ap (λ (one : List Kind). take place (message_kinds p) ++ one ∷ [])
          c.in_ok-block_layout.ensures.value ∙ sym (kinds_more p place within);
      lawful = subst (λ (bs : List (List Kind)). (i : ℕ)
          → IsBlock (get_or bs i [])) (sym new)
          (lawful_more old kinds c.loop-place.invariant.lawful c.in_ok-block_layout.ensures.block);
    }
