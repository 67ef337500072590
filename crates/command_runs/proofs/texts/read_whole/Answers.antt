use Rattle.std.specs.Prelude.{string_bytes}
use Rattle.std.proofs.lemmas.Result.{IfErr-weaker, IfOk-weaker}
use Rattle.command_runs.proofs.Wholes.{no_whole_held, whole_held}
use Rattle.command_runs.proofs.texts.read_whole.Goals as goal

pub returns-in-Ok-clause-held : goal.returns-in-Ok-clause-held
returns-in-Ok-clause-held g c =
    let file = g.D.Desk.files c.args.desk.now c.args.name.now in
    IfOk-weaker c.into_string.result _ _
    (λ s is. whole_held c.args.limit file c.in-Ok.text (string_bytes s) c.in-Ok.ensures.held is)
    c.into_string.ensures.whole

pub returns-in-Ok-clause-refused : goal.returns-in-Ok-clause-refused
returns-in-Ok-clause-refused g c =
    let file = g.D.Desk.files c.args.desk.now c.args.name.now in
    IfErr-weaker c.into_string.result _ _
    (λ e none. no_whole_held c.args.limit file c.in-Ok.text e c.in-Ok.ensures.held none)
    c.into_string.ensures.refused
