use Rattle.step_book.specs.Flight.{IsFlightBefore}
use Rattle.step_book.proofs.book.Book.flight.Given as goal

abbrev pub invariant-loop-serial : goal.invariant-loop-serial
invariant-loop-serial g l =
    IsFlightBefore (g.P.Plan.start l.self.plan) l.self.log l.serial 0 l.flight.items
