use Rattle.std.proofs.Common.{◌+◌, ◌-◌, vec_len, None}
use Rattle.step_book.specs.Tables.{SameTables}
use Rattle.step_book.proofs.buffer.add_tables.Given as goal

abbrev pub invariant-loop-alloc : goal.invariant-loop-alloc
invariant-loop-alloc l = SameTables None l.fn.tables.items l.tables.items

abbrev pub decreases-loop-alloc : goal.decreases-loop-alloc
decreases-loop-alloc l = l.round + 1 - vec_len l.tables
