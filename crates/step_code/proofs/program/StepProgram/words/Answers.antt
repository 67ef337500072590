use Rattle.std.proofs.Common.{◌+◌, ◌≤◌, subst, sym}
use Rattle.round_lang.specs.Syntax.{ProgramTree}
use Rattle.step_code.proofs.Safe.{room_long}
use Rattle.step_code.proofs.program.StepProgram.words.Goals as goal

pub returns-clause-constants : goal.returns-clause-constants
returns-clause-constants c =
    subst (λ (p : ProgramTree). 13 + p.values ≤ c.self.inside.room) c.self.view_is
    (subst (λ n. 13 + c.self.inside.program.values ≤ n) (sym c.self.invariant.compiled.room_is)
    (room_long c.self.inside.program))
