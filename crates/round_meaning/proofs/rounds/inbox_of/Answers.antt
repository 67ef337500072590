use Rattle.std.proofs.Common.{ap, sym, ◌∙◌}
use Rattle.round_meaning.specs.Omissions.{is_omitted}
use Rattle.round_meaning.specs.Rounds.{algorithm_of, heard}
use Rattle.round_meaning.specs.States.{state_in}
use Rattle.round_meaning.proofs.Lists.{filter_map_skip, filter_map_push}
use Rattle.round_meaning.proofs.rounds.inbox_of.Goals as goal
use Rattle.round_meaning.proofs.rounds.inbox_of.Goals.{in-Some+in_ok-push, in_default}

pub loop-from-preserved : goal.loop-from-preserved
loop-from-preserved c =
    let h = heard (algorithm_of c.args.program.now c.args.setup.now)
    (is_omitted c.args.omissions.now c.args.me c.args.round)
    (state_in c.args.before.now) c.args.round c.args.me in
    let j = c.loop-from.from in
    elim c.match-branch-2.branch [
      | in-Some+in_ok-push w ↦ filter_map_push h _ _ j _ c.loop-from.invariant
          (sym c.in_ok-message.ensures ∙ w.in-Some.is) (ap (λ v. v.items) w.inbox-is
          ∙ w.in_ok-push.ensures.items)
      | in_default w ↦ ap (λ v. v.items) w.inbox-is
          ∙ filter_map_skip h _ j c.loop-from.invariant (sym c.in_ok-message.ensures
          ∙ w.in_default.is)
    ]
