use Rattle.std.proofs.Common.{◌-◌, ◌<◌, ◌≤◌, ℕ, length}
use Rattle.node_threads.specs.Flights.{IsCopyAt}
use Rattle.node_threads.proofs.flight.end_of_copies.Given as goal

abbrev pub invariant-loop-end : goal.invariant-loop-end
invariant-loop-end l = record {
  low : l.place < l.end;
  high : l.end ≤ length l.messages;
  same : (place : ℕ) → l.place ≤ place → place < l.end → IsCopyAt l.messages l.serial place;
}

abbrev pub decreases-loop-end : goal.decreases-loop-end
decreases-loop-end l = length l.messages - l.end
