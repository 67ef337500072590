use Rattle.std.proofs.Common.{◌∙◌, ◌⊎◌, map, subst, sym}
use Rattle.command_runs.specs.Desks.{WroteAll}
use Rattle.command_runs.specs.Served.{AsksForHelp, IsEnded}
use Rattle.command_runs.proofs.Explored.{code_known, code_same, code_served}
use Rattle.command_runs.proofs.run.run_words.Goals as goal

pub returns-in-Ok-clause-status : goal.returns-in-Ok-clause-status
returns-in-Ok-clause-status g c = code_known c.in-Ok.outcome c.status.result c.status.ensures

pub returns-in-Ok-clause-served : goal.returns-in-Ok-clause-served
returns-in-Ok-clause-served g c = λ o is.
    let words = map (λ s. s.now) c.args.words.now in
    subst (λ x. IsEnded words (g.D.Desk.files c.args.desk.now) (g.D.Desk.files c.serve.new.desk) x
    (g.O.Write.contents c.args.out.now) (g.O.Write.contents c.serve.new.out))
    (code_same c.in-Ok.outcome o (sym c.status.ensures ∙ is)) c.in-Ok.ensures.served

pub returns-in-Ok-clause-refused : goal.returns-in-Ok-clause-refused
returns-in-Ok-clause-refused g c = λ some few.
    code_served c.in-Ok.outcome c.status.result c.status.ensures some few

pub returns-in-Ok-clause-traced : goal.returns-in-Ok-clause-traced
returns-in-Ok-clause-traced g c = λ o is.
    let words = map (λ s. s.now) c.args.words.now in
    subst (λ x. WroteAll words x (g.D.Desk.written c.args.desk.now)
    (g.D.Desk.written c.serve.new.desk) ⊎ AsksForHelp words)
    (code_same c.in-Ok.outcome o (sym c.status.ensures ∙ is)) c.in-Ok.ensures.traced
