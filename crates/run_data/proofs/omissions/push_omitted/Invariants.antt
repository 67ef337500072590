use Rattle.std.specs.Prelude.{◌++◌}
use Rattle.run_data.specs.Omitted.{omit_line, omit_lines}
use Rattle.run_data.proofs.Omitted.{IsLeft}
use Rattle.run_data.proofs.omissions.push_omitted.Given as goal

-- the lines of the senders from this one on are left
abbrev pub invariant-loop-sender : goal.invariant-loop-sender
invariant-loop-sender l =
    IsLeft (omit_line l.row) l.row.omitted l.sender l.lines (l.fn.lines ++ omit_lines l.row)
