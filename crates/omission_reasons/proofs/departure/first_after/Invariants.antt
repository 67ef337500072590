use Rattle.omission_reasons.specs.Departures.{IsSoughtAt}
use Rattle.omission_reasons.proofs.Firsts.{NoneOf}
use Rattle.omission_reasons.proofs.departure.first_after.Given as goal

abbrev pub invariant-loop-place : goal.invariant-loop-place
invariant-loop-place g l =
    NoneOf l.place-items (IsSoughtAt l.sought l.book.log.trace l.name) l.after l.place-index
