use Rattle.std.proofs.Common.{◌≡◌, ◌∙◌, ◌+◌, ◌-◌, ◌/◌, ◌<◌, ◌^◌, ℕ, ap, subst, arith}
use Rattle.round_lang.specs.Syntax.{ProgramTree}
use Rattle.round_meaning.specs.Turn.{phase_of}
use Rattle.step_code.proofs.Answering.{small_node}
use Rattle.step_code.proofs.Safe.{room_long}
use Rattle.step_code.proofs.program.StepProgram.set_env.Goals as goal

pub fill-requires : goal.fill-requires
fill-requires c = omega (arith, c.requires.long, room_long c.args.self.now)

pub returns-clause-small : goal.returns-clause-small
returns-clause-small c =
    let p : ProgramTree = c.args.self.now in
    let period : c.period.result ≡ p.period = c.period.ensures.value
    ∙ ap (λ (t : ProgramTree). t.period) (c.program-2.ensures ∙ c.program.ensures) in
    let phase : c.word-5.result ≡ phase_of p c.args.round = c.word-5.ensures.word
    ∙ ap (λ n. n / c.period.result + 1) c.saturating_sub.ensures
    ∙ ap (λ n. (c.args.round - 1) / n + 1) period in
    let limit = λ (n : ℕ). n < 2 ^ 32 in
    small_node p c.args.setup.now.nodes c.args.setup.now.faults c.args.round c.args.me c.args.dest
    c.requires.few
    (subst limit c.word-2.ensures.word c.word-2.ensures.small)
    (subst limit c.word-3.ensures.word c.word-3.ensures.small)
    (subst limit c.word-4.ensures.word c.word-4.ensures.small)
    (subst limit c.word.ensures.word c.word.ensures.small)
    (subst limit phase c.word-5.ensures.small)
    (subst limit c.word-6.ensures.word c.word-6.ensures.small)
