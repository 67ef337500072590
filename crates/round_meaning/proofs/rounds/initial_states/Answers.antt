use Rattle.round_meaning.proofs.Lists.{map_push}
use Rattle.round_meaning.proofs.rounds.initial_states.Goals as goal

pub loop-me-preserved : goal.loop-me-preserved
loop-me-preserved c = map_push _ _ _ _ _ c.loop-me.invariant c.in_ok-state.ensures
    c.in_ok-push.ensures.ok
