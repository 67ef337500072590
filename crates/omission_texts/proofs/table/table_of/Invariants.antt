use Rattle.std.proofs.Common.{[]}
use Rattle.omission_texts.specs.Tables.{Adds}
use Rattle.omission_texts.proofs.LineTables.{of_first}
use Rattle.omission_texts.proofs.table.table_of.Given as goal

abbrev pub invariant-loop-line : goal.invariant-loop-line
invariant-loop-line l = Adds (of_first l.setup l.lines l.line-index) [] l.table
