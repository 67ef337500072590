use Rattle.std.proofs.Common.{[], ◌∷◌, ◌++◌, ℕ, List, arith, get_or, set, subst}
use Rattle.step_book.specs.Tables.{PutsAt, tables_of}
use Rattle.omission_reasons.proofs.Lists.{puts_pushed}
use Rattle.omission_reasons.proofs.places.Places.add.Goals as goal

pub returns : goal.returns
returns c =
    let list = c.args.list in
    let place = c.args.place in
    let there = c.in_ok-add_lists.ensures.there in
    let new = tables_of (set c.add_lists.new.lists.items list c.push.new.self) in
    subst (λ (z : List (List ℕ)). PutsAt [] z new list (get_or z list [] ++ place ∷ []))
    c.self.view_is
    (puts_pushed (tables_of c.self.inside.lists.items)
    c.add_lists.new.lists.items c.index_mut.result.now c.push.new.self list place (omega arith)
    c.index_mut.ensures.value c.in_ok-push.ensures.items c.in_ok-add_lists.ensures.same)
