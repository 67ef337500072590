use Rattle.round_meaning.proofs.Lists.{map_push}
use Rattle.omission_schedules.proofs.rounds.initial_states.Goals as goal

pub loop-node-preserved : goal.loop-node-preserved
loop-node-preserved c = map_push _ _ _ _ _ c.loop-node.invariant c.in_ok-initial_of.ensures
    c.in_ok-push.ensures.items
