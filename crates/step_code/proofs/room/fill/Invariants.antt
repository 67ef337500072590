use Rattle.std.proofs.Common.{◌≡◌, ◌+◌, ◌<◌, ◌≤◌, ◌⊎◌, ℕ, length}
use Rattle.std.specs.Prelude.{slice_index}
use Rattle.step_code.proofs.room.fill.Given as goal

abbrev pub invariant-loop-i : goal.invariant-loop-i
invariant-loop-i l =
    ((j : ℕ) → j < l.i → slice_index l.room (l.first + j) ≡ slice_index l.words j)
    × ((j : ℕ) → (j < l.first) ⊎ (l.first + length l.words ≤ j)
    → slice_index l.room j ≡ slice_index l.fn.room j)
