use Rattle.std.proofs.Common.{◌≡◌, ◌≤◌, [], length, get_or, arith, ap, sym, subst, ◌∙◌}
use Rattle.std.proofs.lemmas.Option.{unwrap_or-slice_get}
use Rattle.round_lang.specs.Syntax.{ProgramTree}
use Rattle.round_check.specs.Shapes.{message_kinds}
use Rattle.frame_format.specs.Formats.{IsBlock}
use Rattle.frame_format.proofs.Sizes.{IsBlock-at}
use Rattle.frame_format.proofs.layout.block_layout.Goals as goal

pub new-requires : goal.new-requires
new-requires c =
    let p = c.args.program.now in
    let few : p.values ≤ 64 = omega (arith, ap (λ (t : ProgramTree). t.values) c.program.ensures) in
    let short : length c.args.block.now.fields ≤ 8 =
    omega (arith, ap length c.fields-fields.ensures.fields) in
    let is : c.in_ok-shape_at.field-0 ≡ get_or (message_kinds p) c.args.place [] =
    c.in_ok-shape_at.ensures ∙ unwrap_or-slice_get (message_kinds p) c.args.place [] in
    subst IsBlock (sym is) (IsBlock-at p c.args.place c.args.block.now c.requires few short)

pub returns-clause-value : goal.returns-clause-value
returns-clause-value c =
    c.new.ensures ∙ c.in_ok-shape_at.ensures
    ∙ unwrap_or-slice_get (message_kinds c.args.program.now) c.args.place []
