use Rattle.std.proofs.Common.{[], ◌+◌, ◌-◌, vec_len}
use Rattle.step_book.specs.Tables.{SameTable, tables_of}
use Rattle.omission_reasons.proofs.places.add_lists.Given as goal

abbrev pub invariant-loop-alloc : goal.invariant-loop-alloc
invariant-loop-alloc l = SameTable [] (tables_of l.fn.lists.items) (tables_of l.lists.items)

abbrev pub decreases-loop-alloc : goal.decreases-loop-alloc
decreases-loop-alloc l = l.list + 1 - vec_len l.lists
