use Rattle.std.proofs.Common.{◌+◌, ◌-◌, vec_len}
use Rattle.step_book.specs.declared.mark.Mark.TheVariants.{Unsent}
use Rattle.step_book.specs.Tables.{SameTables, tables_of}
use Rattle.step_book.proofs.marks.add_tables.Given as goal

abbrev pub invariant-loop-alloc : goal.invariant-loop-alloc
invariant-loop-alloc l = SameTables Unsent (tables_of l.fn.tables.items) (tables_of l.tables.items)

abbrev pub decreases-loop-alloc : goal.decreases-loop-alloc
decreases-loop-alloc l = l.copy + 1 - vec_len l.tables
