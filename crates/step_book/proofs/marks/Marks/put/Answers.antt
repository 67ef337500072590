use Rattle.std.proofs.Common.{List, ap, set, subst, sym}
use Rattle.std.specs.Vec.{with_item}
use Rattle.step_book.specs.declared.mark.Mark.{Mark}
use Rattle.step_book.specs.declared.mark.Mark.TheVariants.{Unsent}
use Rattle.step_book.specs.Tables.{HasPlace, Puts, tables_of}
use Rattle.step_book.proofs.Tables.{puts_vec}
use Rattle.step_book.proofs.marks.Marks.put.Goals as goal

pub returns : goal.returns
returns c =
    let tables = c.self.inside.tables.items in
    let new = with_item c.index_mut.result.now c.args.place c.new.result in
    subst (λ (z : List (List Mark)). Puts Unsent z
    (tables_of (set tables c.args.copy new)) c.args.copy c.args.place c.args.mark)
    c.self.view_is
    (puts_vec Unsent tables c.index_mut.result.now new c.args.copy c.args.place c.args.mark
    (subst (λ (z : List (List Mark)). HasPlace z c.args.copy c.args.place)
    (sym c.self.view_is) c.requires.place) c.index_mut.ensures.value
    (ap (set c.index_mut.result.now.items c.args.place) c.new.ensures))
