-- Which step breaks lockstep.
use Rattle.std.specs.Prelude.{◌≡◌, ℕ, ◌<◌, ◌≤◌, true, List, slice_index}
use Rattle.round_lang.specs.Sets.{is_in}
use Rattle.step_book.specs.Places.{IsStepAt, steps_before}
use Rattle.run_events.specs.declared.event.Event.{Event}
use Rattle.verdict_reasons.specs.declared.pace.PaceBreak.{PaceBreak}

-- a correct node takes its step number `step` at this place, and another has taken fewer steps
-- before it
pub record IsPaceBreak (trace : List Event) (correct : ℕ) (b : PaceBreak) : Type 0 where
  pub node : is_in correct b.node ≡ true
  pub other : is_in correct b.behind ≡ true
  pub there : IsStepAt trace b.node b.step b.place
  pub number : steps_before trace b.behind b.place ≡ b.behind_steps
  pub fewer : b.behind_steps < b.step

-- no step at an earlier place breaks lockstep, and no lesser node is behind this one
pub record IsFirstPaceBreak (trace : List Event) (correct : ℕ) (b : PaceBreak) : Type 0 where
  pub breaks : IsPaceBreak trace correct b
  pub first : (other : PaceBreak) → IsPaceBreak trace correct other → b.place ≤ other.place
  pub least : (other : PaceBreak) → IsPaceBreak trace correct other → other.place ≡ b.place
      → b.behind ≤ other.behind

-- `counts` has how many steps each correct node took: of those that took fewer than this node,
-- `other` is the least
pub record IsFirstBehind (correct : ℕ) (counts : List ℕ) (node other : ℕ) : Type 0 where
  pub correct_node : is_in correct other ≡ true
  pub fewer : slice_index counts other < slice_index counts node
  pub least : (j : ℕ) → j < other → is_in correct j ≡ true
      → slice_index counts node ≤ slice_index counts j
