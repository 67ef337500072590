use Rattle.std.proofs.Common.{arith}
use Rattle.slot_plans.proofs.Rounds.{start-fits}
use Rattle.step_book.proofs.Reading.{of_view, rounds_few}
use Rattle.step_book.proofs.book.Book.start.Goals as goal

pub returns-clause-small : goal.returns-clause-small
returns-clause-small g c =
    let few = rounds_few (of_view g.P.Plan.start g.P.Plan.nodes c.self.view_is c.self.invariant) in
    omega (
      arith,
      c.requires.last,
      c.from.ensures,
      c.start.ensures,
      start-fits (g.met.P.Plan.laws c.self.inside.plan) c.args.round c.requires.first
          (omega (arith, c.requires.last)),
    )
