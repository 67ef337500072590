use Rattle.std.proofs.Common.{List, length, subst, sym}
use Rattle.round_lang.specs.Syntax.{ProgramTree}
use Rattle.step_code.specs.declared.instr.Instr.{Instr}
use Rattle.step_code.specs.Layout.{room_of}
use Rattle.step_code.specs.Machine.{Fine}
use Rattle.step_code.proofs.program.StepProgram.init_code.Goals as goal

pub returns-clause-fine : goal.returns-clause-fine
returns-clause-fine c =
    let p : ProgramTree = c.self.inside.program in
    let code = c.self.inside.init.items in
    let in_room = subst (λ n. Fine p.values n code (length code)) c.self.invariant.compiled.room_is
    c.self.invariant.safe.start in
    let lent = subst (λ (l : List Instr). Fine p.values (room_of p) l (length l))
    (sym c.deref.ensures.value) in_room in
    subst (λ (q : ProgramTree). Fine q.values (room_of q) c.deref.result.now
    (length c.deref.result.now)) c.self.view_is lent
