use Rattle.std.proofs.Common.{rules, codes}
use Rattle.std.proofs.lemmas.Result.{IfOk-weaker}
use Rattle.clap.specs.Words.{new_app}
use Rattle.command_words.specs.Commands.{source_rule}
use Rattle.command_words.proofs.CommandLemmas.{arg_added}
use Rattle.command_words.proofs.commands.draw_command.Goals as goal

pub returns : goal.returns
returns c =
    let first = arg_added _ _ _ (new_app (codes "draw")) source_rule c.in_ok-arg.ensures
    (search rules) c.source_arg.ensures.rule c.source_arg.ensures.local in
    let second = arg_added _ _ _ _ _ c.in_ok-arg-2.ensures first c.schedule_arg.ensures.rule
    c.schedule_arg.ensures.local in
    let third = arg_added _ _ _ _ _ c.in_ok-arg-3.ensures second c.optional_arg.ensures.rule
    c.optional_arg.ensures.local in
    let fourth = arg_added _ _ _ _ _ c.in_ok-arg-4.ensures third c.optional_arg-2.ensures.rule
    c.optional_arg-2.ensures.local in
    let fifth = arg_added _ _ _ _ _ c.in_ok-arg-5.ensures fourth c.flag_arg.ensures.rule
    c.flag_arg.ensures.local in
    IfOk-weaker c.arg-6.result _ _
    (λ r h. arg_added _ _ _ _ _ h fifth c.flag_arg-2.ensures.rule c.flag_arg-2.ensures.local)
    c.arg-6.ensures
