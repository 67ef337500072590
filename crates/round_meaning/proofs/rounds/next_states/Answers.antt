use Rattle.std.proofs.Common.{◌≡◌, ◌+◌, map, ap, length, ◌∙◌, arith}
use Rattle.std.specs.List.{range_with_len}
use Rattle.round_meaning.specs.Omissions.{is_omitted}
use Rattle.round_meaning.specs.Rounds.{algorithm, algorithm_of}
use Rattle.round_meaning.specs.States.{next_state, state_in}
use Rattle.round_meaning.proofs.Lists.{map_push}
use Rattle.round_meaning.proofs.RoundLaws.{length-states_after, states_after_more}
use Rattle.round_meaning.proofs.rounds.next_states.Goals as goal

pub next_state-requires-clause-nodes : goal.next_state-requires-clause-nodes
unfolding algorithm
next_state-requires-clause-nodes c =
    let a = algorithm_of c.args.program.now c.args.setup.now in
    ap length c.requires.before
    ∙ length-states_after a (is_omitted c.args.omissions.now) c.args.done

pub loop-me-preserved : goal.loop-me-preserved
loop-me-preserved c = map_push _ _ _ _ _ c.loop-me.invariant c.in_ok-state.ensures
    c.in_ok-push.ensures.ok

pub returns : goal.returns
unfolding algorithm
returns c =
    let a = algorithm_of c.args.program.now c.args.setup.now in
    let omitted = is_omitted c.args.omissions.now in
    let all : c.loop-me.me ≡ c.args.setup.now.nodes = omega arith in
    c.loop-me.invariant
    ∙ ap (λ n. map (next_state a omitted (c.args.done + 1) (state_in c.args.before.now))
    (range_with_len 0 n)) all
    ∙ states_after_more a omitted c.args.done c.args.before.now c.requires.before
