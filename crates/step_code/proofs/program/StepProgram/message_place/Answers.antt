use Rattle.std.proofs.Common.{◌≤◌, ◌∙◌, ap, subst, sym}
use Rattle.round_lang.specs.Syntax.{ProgramTree}
use Rattle.step_code.specs.Layout.{message_place, room_of, state_place}
use Rattle.step_code.proofs.Safe.{message_within, state_from}
use Rattle.step_code.proofs.program.StepProgram.message_place.Goals as goal

pub returns-clause-place : goal.returns-clause-place
returns-clause-place c = c.self.invariant.compiled.message_is ∙ ap message_place c.self.view_is

pub returns-clause-behind : goal.returns-clause-behind
returns-clause-behind c =
    subst (λ (p : ProgramTree). state_place p.values ≤ c.self.inside.message) c.self.view_is
    (subst (λ n. state_place c.self.inside.program.values ≤ n)
    (sym c.self.invariant.compiled.message_is) (state_from c.self.inside.program))

pub returns-clause-within : goal.returns-clause-within
returns-clause-within c =
    subst (λ (p : ProgramTree). c.self.inside.message ≤ room_of p) c.self.view_is
    (subst (λ n. n ≤ room_of c.self.inside.program) (sym c.self.invariant.compiled.message_is)
    (message_within c.self.inside.program))
