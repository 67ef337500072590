-- The names so far are no nearer than the nearest, which is near enough, if there is one.
use Rattle.std.proofs.Common.{◌≡◌, ◌+◌, ◌≤◌, ◌<◌, ℕ, get_or}
use Rattle.std.specs.Prelude.{MatchOption}
use Rattle.fault_places.specs.Nearness.{edits, most_edits}
use Rattle.fault_places.specs.declared.nearest.Meant.{Meant}
use Rattle.fault_places.proofs.nearest.nearest.Given as goal

abbrev pub invariant-loop-other : goal.invariant-loop-other
invariant-loop-other l =
    MatchOption l.nearest (l.limit ≡ most_edits l.name + 1)
    (λ near. (edits l.name near.text.now ≡ l.limit) × (l.limit ≤ most_edits l.name))
    × ((k : ℕ) (other : Meant) → k < l.other-index
    → l.limit ≤ edits l.name (get_or l.names k other).text.now)
