use Rattle.std.proofs.Common.{ap, ◌∙◌, arith}
use Rattle.round_lang.specs.Sets.{least, members}
use Rattle.round_lang.specs.Syntax.{ProgramTree}
use Rattle.round_meaning.specs.Turn.{decided}
use Rattle.round_meaning.proofs.Decisions.{first_member-none, first_member-some}
use Rattle.round_meaning.proofs.turn.decision_of.Goals as goal

pub returns-then-least-lt64 : goal.returns-then-least-lt64
returns-then-least-lt64 c =
    let p = c.args.program.now in
    let s = decided p c.args.vars.now p.decides in
    let same = c.decided.ensures
    ∙ ap (λ (q : ProgramTree). decided q c.args.vars.now q.decides) c.program.ensures in
    first_member-some (members s) 64 c.least-least.result (c.least-least.ensures
    ∙ ap (least 64) same) (omega arith)

pub returns-else-least-lt64 : goal.returns-else-least-lt64
returns-else-least-lt64 c =
    let p = c.args.program.now in
    let s = decided p c.args.vars.now p.decides in
    let same = c.decided.ensures
    ∙ ap (λ (q : ProgramTree). decided q c.args.vars.now q.decides) c.program.ensures in
    first_member-none s c.least-least.result (c.least-least.ensures
    ∙ ap (least 64) same) (omega arith)
