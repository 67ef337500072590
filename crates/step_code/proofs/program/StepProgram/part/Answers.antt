use Rattle.std.proofs.Common.{◌≡◌, ◌∙◌, ◌-◌, ◌%◌, Some, ap, subst}
use Rattle.std.specs.Prelude.{slice_get}
use Rattle.round_lang.specs.Syntax.{ProgramTree}
use Rattle.step_code.specs.Turns.{IsPart}
use Rattle.step_code.proofs.Answering.{part_is}
use Rattle.step_code.proofs.program.StepProgram.part.Goals as goal

pub returns-clause-some : goal.returns-clause-some
returns-clause-some c =
    let q : ProgramTree = c.self.inside.program in
    let tree : c.program-program.result.now ≡ q = c.program-program.ensures in
    let place = c.place_at-place.ensures
    ∙ ap (λ (t : ProgramTree). (c.args.round - 1) % t.period) tree in
    let block : Some c.in_ok-block.block.now ≡ slice_get q.blocks c.place_at-place.result =
    c.in_ok-block.ensures
    ∙ ap (λ (t : ProgramTree). slice_get t.blocks c.place_at-place.result) tree in
    let code : Some c.in_ok-code.code.now ≡ slice_get c.self.inside.blocks.items
    c.place_at-place.result = c.in_ok-code.ensures
    ∙ ap (λ l. slice_get l c.place_at-place.result) c.as_slice.ensures.value in
    subst (λ (p : ProgramTree). IsPart p c.args.round c.in_ok-block.block.now c.in_ok-code.code.now)
    c.self.view_is
    (part_is q c.args.round c.place_at-place.result c.in_ok-block.block.now c.in_ok-code.code.now
    c.self.inside.room c.self.inside.message c.self.inside.init.items c.self.inside.blocks.items
    c.self.invariant.compiled c.self.invariant.safe place block code)
