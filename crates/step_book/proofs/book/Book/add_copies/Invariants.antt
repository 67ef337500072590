use Rattle.step_book.specs.Flight.{IsFlightBefore}
use Rattle.step_book.proofs.book.Book.add_copies.Given as goal

abbrev pub invariant-loop-copy : goal.invariant-loop-copy
invariant-loop-copy g l = IsFlightBefore (g.P.Plan.start l.self.plan) l.self.log l.serial l.copy
    l.flight.items
