use Rattle.std.proofs.lemmas.Result.{IfOk-weaker}
use Rattle.command_words.proofs.CommandLemmas.{arg_added}
use Rattle.command_words.proofs.commands.explore_command.Goals as goal

pub returns : goal.returns
returns c =
    let first = arg_added _ _ _ _ _ c.in_ok-arg.ensures c.in_ok-explore_by_search.ensures
    c.optional_arg.ensures.rule c.optional_arg.ensures.local in
    let second = arg_added _ _ _ _ _ c.in_ok-arg-2.ensures first c.optional_arg-2.ensures.rule
    c.optional_arg-2.ensures.local in
    let third = arg_added _ _ _ _ _ c.in_ok-arg-3.ensures second c.optional_arg-3.ensures.rule
    c.optional_arg-3.ensures.local in
    let fourth = arg_added _ _ _ _ _ c.in_ok-arg-4.ensures third c.format_arg.ensures.rule
    c.format_arg.ensures.local in
    IfOk-weaker c.arg-5.result _ _
    (λ r h. arg_added _ _ _ _ _ h fourth c.flag_arg.ensures.rule c.flag_arg.ensures.local)
    c.arg-5.ensures
