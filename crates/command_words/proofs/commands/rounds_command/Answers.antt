use Rattle.std.proofs.Common.{rules, codes}
use Rattle.clap.specs.Words.{new_app}
use Rattle.command_words.specs.Commands.{source_rule}
use Rattle.command_words.proofs.CommandLemmas.{arg_added}
use Rattle.command_words.proofs.commands.rounds_command.Goals as goal

pub returns : goal.returns
returns c =
    let first = arg_added _ _ _ (new_app (codes "rounds")) source_rule c.in_ok-arg.ensures
    (search rules) c.source_arg.ensures.rule c.source_arg.ensures.local in
    let second = arg_added _ _ _ _ _ c.in_ok-arg-2.ensures first c.header_arg.ensures.rule
    c.header_arg.ensures.local in
    let third = arg_added _ _ _ _ _ c.in_ok-command.ensures second c.omissions_arg.ensures.rule
    c.omissions_arg.ensures.local in
    c.with_form.ensures _ third
