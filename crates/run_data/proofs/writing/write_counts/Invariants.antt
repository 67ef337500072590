use Rattle.std.proofs.Common.{take}
use Rattle.std.specs.Io.KnownBytes.{Appends}
use Rattle.run_data.specs.ReportData.{count_lines}
use Rattle.run_data.proofs.writing.write_counts.Given as goal

-- the lines of the nodes before this one are written
abbrev pub invariant-loop-node : goal.invariant-loop-node
invariant-loop-node g l =
    Appends (g.W.Write.contents l.initial.out) (g.W.Write.contents l.out)
    (count_lines 0 (take l.node l.counts))
