use Rattle.std.proofs.lemmas.Result.{IfOk-weaker}
use Rattle.command_words.proofs.CommandLemmas.{arg_added}
use Rattle.command_words.proofs.commands.with_form.Goals as goal

pub returns : goal.returns
returns c = λ app is.
    let first = arg_added _ _ _ app _ c.in_ok-arg.ensures is c.decided_arg.ensures.rule
    c.decided_arg.ensures.local in
    let second = arg_added _ _ _ _ _ c.in_ok-arg-2.ensures first c.format_arg.ensures.rule
    c.format_arg.ensures.local in
    let third = arg_added _ _ _ _ _ c.in_ok-arg-3.ensures second c.optional_arg.ensures.rule
    c.optional_arg.ensures.local in
    let fourth = arg_added _ _ _ _ _ c.in_ok-arg-4.ensures third c.optional_arg-2.ensures.rule
    c.optional_arg-2.ensures.local in
    IfOk-weaker c.arg-5.result _ _
    (λ r h. arg_added _ _ _ _ _ h fourth c.flag_arg.ensures.rule c.flag_arg.ensures.local)
    c.arg-5.ensures
