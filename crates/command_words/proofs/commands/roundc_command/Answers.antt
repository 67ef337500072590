use Rattle.std.proofs.lemmas.Result.{IfOk-weaker}
use Rattle.command_words.proofs.CommandLemmas.{subcommand_added}
use Rattle.command_words.proofs.commands.roundc_command.Goals as goal

pub returns : goal.returns
returns c =
    let first = subcommand_added _ _ _ _ _ c.in_ok-subcommand.ensures c.in_ok-bare_command.ensures
    c.in_ok-check_command.ensures in
    let second =
    subcommand_added _ _ _ _ _ c.in_ok-subcommand-2.ensures first c.in_ok-show_command.ensures in
    let third =
    subcommand_added _ _ _ _ _ c.in_ok-subcommand-3.ensures second c.in_ok-run_command.ensures in
    let fourth =
    subcommand_added _ _ _ _ _ c.in_ok-subcommand-4.ensures third c.in_ok-draw_command.ensures in
    let fifth = subcommand_added _ _ _ _ _ c.in_ok-subcommand-5.ensures fourth
    c.in_ok-threads_command.ensures in
    let sixth = subcommand_added _ _ _ _ _ c.in_ok-subcommand-6.ensures fifth
    c.in_ok-judge_command.ensures in
    let seventh = subcommand_added _ _ _ _ _ c.in_ok-subcommand-7.ensures sixth
    c.in_ok-lockstep_command.ensures in
    let eighth = subcommand_added _ _ _ _ _ c.in_ok-subcommand-8.ensures seventh
    c.in_ok-realise_command.ensures in
    let ninth = subcommand_added _ _ _ _ _ c.in_ok-subcommand-9.ensures eighth
    c.in_ok-rounds_command.ensures in
    let tenth = subcommand_added _ _ _ _ _ c.in_ok-subcommand-10.ensures ninth
    c.in_ok-explore_command.ensures in
    IfOk-weaker c.subcommand-11.result _ _
    (λ r h. subcommand_added _ _ _ _ _ h tenth c.in_ok-together_command.ensures)
    c.subcommand-11.ensures
