use Rattle.std.proofs.Common.{◌≡◌, subst, sym}
use Rattle.std.specs.Prelude.{string_bytes}
use Rattle.std.proofs.lemmas.Result.{IfErr-weaker}
use Rattle.command_words.specs.declared.words.Words.TheVariants.{Realise}
use Rattle.command_runs.proofs.run.realise.Goals as goal
use Rattle.command_runs.specs.Refused.{IsRefusedCommand}
use Rattle.command_runs.specs.declared.refusal.Refusal.TheVariants.{Write}

pub returns-clause-refused : goal.returns-clause-refused
returns-clause-refused g c =
    let files = g.D.Desk.files c.args.desk.now in
    let w = Realise c.args.omitting.source c.args.omitting.header c.args.omitting.omissions in
    IfErr-weaker c.written.result (λ r. r ≡ Write) (IsRefusedCommand w files)
    (λ r e. subst (IsRefusedCommand w files) (sym e)
    (files, string_bytes c.in_ok-text.text, c.in_ok-text.ensures.made)) c.written.ensures.refused
