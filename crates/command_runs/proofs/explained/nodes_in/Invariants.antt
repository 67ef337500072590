use Rattle.std.proofs.Common.{ℕ, ◌<◌, get_or, take}
use Rattle.command_runs.specs.Explained.{AreListed}
use Rattle.command_runs.proofs.explained.nodes_in.Given as goal

abbrev pub invariant-loop-node : goal.invariant-loop-node
invariant-loop-node l =
    AreListed l.nodes (take l.node-index l.list) l.set.bits
    × ((k d : ℕ) → k < l.node-index → get_or l.list k d < l.nodes)
