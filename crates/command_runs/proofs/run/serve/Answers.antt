use Rattle.std.proofs.Common.{map}
use Rattle.command_runs.proofs.Telling.{left_if}
use Rattle.command_runs.proofs.run.serve.Goals as goal

pub returns-in-Ok-clause-left : goal.returns-in-Ok-clause-left
returns-in-Ok-clause-left g c =
    left_if c.carry_out.result (map (λ s. s.now) c.args.words.now) c.in-Ok.command
    (g.D.Desk.files c.args.desk.now) (g.D.Desk.files c.carry_out.new.desk)
    (g.O.Write.contents c.args.out.now) (g.O.Write.contents c.carry_out.new.out) c.in-Ok.ensures.ok
    c.carry_out.ensures.refused c.carry_out.ensures.left
