use Rattle.std.proofs.Common.{take}
use Rattle.omission_explainer.specs.Report.{counts_text}
use Rattle.omission_explainer.specs.Short.{Tells}
use Rattle.omission_explainer.proofs.writing.write_counts.Given as goal

abbrev pub invariant-loop-node : goal.invariant-loop-node
invariant-loop-node g l =
    Tells (g.W.Write.contents l.initial.out) l.initial.text (g.W.Write.contents l.out) l.text
    (counts_text 0 (take l.node l.counts))
