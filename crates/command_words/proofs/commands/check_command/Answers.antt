use Rattle.std.proofs.Common.{rules, codes}
use Rattle.std.proofs.lemmas.Result.{IfOk-weaker}
use Rattle.clap.specs.Words.{new_app}
use Rattle.command_words.specs.Commands.{source_rule}
use Rattle.command_words.proofs.CommandLemmas.{arg_added}
use Rattle.command_words.proofs.commands.check_command.Goals as goal

pub returns : goal.returns
returns c =
    let first = arg_added _ _ _ (new_app (codes "check")) source_rule c.in_ok-arg.ensures
    (search rules) c.source_arg.ensures.rule c.source_arg.ensures.local in
    IfOk-weaker c.arg-2.result _ _
    (λ r h. arg_added _ _ _ _ _ h first c.format_arg.ensures.rule c.format_arg.ensures.local)
    c.arg-2.ensures
