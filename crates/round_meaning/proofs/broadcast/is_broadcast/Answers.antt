use Rattle.std.proofs.Common.{◌≡◌, Bool, true, false, not, refl, sym, ap, ◌∙◌}
use Rattle.std.specs.Prelude.{IsTrue}
use Rattle.round_meaning.specs.Broadcast.{sends_by_dest}
use Rattle.round_meaning.specs.Turn.{block_at, node_env, with_vars}
use Rattle.round_meaning.proofs.Broadcasts.{sent_same}
use Rattle.round_meaning.proofs.broadcast.is_broadcast.Goals as goal

not_true : (b : Bool) → IsTrue (not b) → b ≡ false
not_true true h = absurd cc
not_true false h = refl

pub returns-clause-broadcast : goal.returns-clause-broadcast
unfolding Rattle.round_meaning.specs.Rounds.algorithm
returns-clause-broadcast c = λ is s vs j i k.
    let none : sends_by_dest (block_at c.args.program.now c.args.round) ≡ false =
    ap (λ p. sends_by_dest (block_at p c.args.round)) (sym c.program.ensures)
    ∙ sym c.sends_by_dest.ensures ∙ not_true c.sends_by_dest.result is in
    sent_same (block_at c.args.program.now c.args.round)
    (with_vars vs (node_env c.args.program.now s.nodes s.faults c.args.round j)) i k none
