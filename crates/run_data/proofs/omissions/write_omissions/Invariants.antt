use Rattle.std.proofs.Common.{take}
use Rattle.std.specs.Io.KnownBytes.{Appends}
use Rattle.std.specs.List.{flat_map}
use Rattle.run_data.specs.Omitted.{omit_lines}
use Rattle.run_data.proofs.omissions.write_omissions.Given as goal

-- the lines of the rows before this one are written
abbrev pub invariant-loop-row : goal.invariant-loop-row
invariant-loop-row g l =
    Appends (g.W.Write.contents l.initial.out) (g.W.Write.contents l.out)
    (flat_map omit_lines (take l.row-index l.row-items))
