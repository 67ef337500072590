use Rattle.std.proofs.Common.{ap, arith}
use Rattle.step_book.specs.Log.{Recorded}
use Rattle.step_book.proofs.Flight.{slot_small}
use Rattle.step_book.proofs.Reading.{of_view}
use Rattle.step_book.proofs.book.Book.slot.Goals as goal

pub overflow_add-result : goal.overflow_add-result
overflow_add-result g c =
    let v = c.args.self.now in
    let small = slot_small (of_view g.P.Plan.start g.P.Plan.nodes c.self.view_is c.self.invariant)
    (g.P.Plan.receives v.plan) c.args.name (g.met.P.Plan.laws v.plan) c.requires in
    let plan = ap (λ (z : Recorded _). g.P.Plan.start z.plan c.args.name.round) c.self.view_is in
    let first = c.start.ensures in
    omega arith
