use Rattle.std.proofs.Common.{List, arith, set, subst}
use Rattle.std.proofs.lemmas.Result.{on_ok_weaker}
use Rattle.step_book.specs.declared.mark.Mark.{Mark}
use Rattle.step_book.specs.declared.mark.Mark.TheVariants.{Unsent}
use Rattle.step_book.specs.Tables.{SameTables, tables_of}
use Rattle.step_book.proofs.Tables.{room_vec, same_then, same_vec}
use Rattle.step_book.proofs.marks.Marks.grow.Goals as goal

pub returns-clause-room : goal.returns-clause-room
returns-clause-room c =
    on_ok_weaker c.grow.result
    (λ long. room_vec c.add_tables.new.tables.items c.grow.new.marks c.args.copy c.args.place
    (let there = c.in_ok-add_tables.ensures.there in omega arith) (let l = long in omega arith))
    c.grow.ensures.long

pub returns-clause-same : goal.returns-clause-same
returns-clause-same c =
    let more = c.add_tables.new.tables.items in
    let new = tables_of (set more c.args.copy c.grow.new.marks) in
    subst (λ (z : List (List Mark)). SameTables Unsent z new) c.self.view_is
    (same_then Unsent (tables_of c.self.inside.tables.items)
    (tables_of more) new c.in_ok-add_tables.ensures.same
    (same_vec Unsent more c.index_mut.result.now c.grow.new.marks c.args.copy
    (let there = c.in_ok-add_tables.ensures.there in
    omega arith) c.index_mut.ensures.value c.grow.ensures.same))
