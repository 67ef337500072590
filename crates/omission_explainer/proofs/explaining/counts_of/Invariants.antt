use Rattle.std.proofs.Common.{◌≡◌, map}
use Rattle.std.specs.List.{range_with_len}
use Rattle.omission_explainer.specs.Reported.{count_in}
use Rattle.omission_explainer.proofs.explaining.counts_of.Given as goal

abbrev pub invariant-loop-node : goal.invariant-loop-node
invariant-loop-node g l = l.counts.items ≡ map (count_in l.book.log) (range_with_len 0 l.node)
