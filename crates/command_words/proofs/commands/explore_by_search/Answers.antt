use Rattle.std.proofs.lemmas.Result.{IfOk-weaker}
use Rattle.command_words.proofs.CommandLemmas.{arg_added}
use Rattle.command_words.proofs.commands.explore_by_search.Goals as goal

pub returns : goal.returns
returns c =
    let first = arg_added _ _ _ _ _ c.in_ok-arg.ensures c.in_ok-explore_some_runs.ensures
    c.optional_arg.ensures.rule c.optional_arg.ensures.local in
    let second = arg_added _ _ _ _ _ c.in_ok-arg-2.ensures first c.optional_arg-2.ensures.rule
    c.optional_arg-2.ensures.local in
    let third = arg_added _ _ _ _ _ c.in_ok-arg-3.ensures second c.optional_arg-3.ensures.rule
    c.optional_arg-3.ensures.local in
    IfOk-weaker c.arg-4.result _ _
    (λ r h. arg_added _ _ _ _ _ h third c.optional_arg-4.ensures.rule
    c.optional_arg-4.ensures.local) c.arg-4.ensures
