use Rattle.std.proofs.Common.{List, Some, ◌∙◌, ap, arith, get_or, length, sym}
use Rattle.std.proofs.lemmas.Option.{slice_get-get_or}
use Rattle.run_events.specs.declared.name.Name.{Name}
use Rattle.step_book.proofs.Flight.{flight_whole}
use Rattle.step_book.proofs.Reading.{of_view}
use Rattle.step_book.proofs.book.Book.flight.Goals as goal

pub add_copies-requires-clause-message : goal.add_copies-requires-clause-message
add_copies-requires-clause-message g c =
    let h = of_view g.P.Plan.start g.P.Plan.nodes c.self.view_is c.self.invariant in
    let size = ap length c.deref-message-items.ensures.value in
    let names = c.self.inside.messages.items in
    let k = c.loop-serial.serial in
    let item = c.message-item.result in
    let is = c.name.ensures ∙ c.message-item.is
    ∙ ap (λ (xs : List Name). get_or xs k item) c.deref-message-items.ensures.value in
    (h.serials.each k c.name.result).0
    (slice_get-get_or names k item (let test = c.loop-serial-test.true in omega arith)
    ∙ ap (λ (n : Name). Some n) (sym is))

pub returns : goal.returns
returns g c =
    let size = ap length c.deref-message-items.ensures.value in
    flight_whole (of_view g.P.Plan.start g.P.Plan.nodes c.self.view_is c.self.invariant)
    c.loop-serial.serial c.loop-serial.flight.items (omega arith) c.loop-serial.invariant
