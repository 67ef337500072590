use Rattle.std.proofs.Common.{rules, codes}
use Rattle.clap.specs.Words.{new_app}
use Rattle.command_words.specs.Commands.{source_rule}
use Rattle.command_words.proofs.CommandLemmas.{arg_added}
use Rattle.command_words.proofs.commands.run_command.Goals as goal

pub returns : goal.returns
returns c =
    let first = arg_added _ _ _ (new_app (codes "run")) source_rule c.in_ok-arg.ensures
    (search rules) c.source_arg.ensures.rule c.source_arg.ensures.local in
    let second = arg_added _ _ _ _ _ c.in_ok-command.ensures first c.schedule_arg.ensures.rule
    c.schedule_arg.ensures.local in
    c.with_form.ensures _ second
