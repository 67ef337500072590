-- The steps of correct nodes. A set of nodes is a number, of which bit i stands for node i.
use Rattle.std.specs.Prelude.{◌≡◌, ℕ, true, false, List, length, slice_index}
use Rattle.round_lang.specs.Sets.{is_in}
use Rattle.step_book.specs.Places.{steps_before}
use Rattle.step_book.specs.Trace.{is_step}
use Rattle.run_events.specs.declared.event.Event.{Event}
use Rattle.run_events.specs.declared.event.Event.TheVariants.{Step}

-- the event is a step of this node, which is correct
pub record IsStepOf (correct : ℕ) (e : Event) (node : ℕ) : Type 0 where
  pub step : e ≡ Step node
  pub correct_node : is_in correct node ≡ true

-- the event isn't a step of a correct node
abbrev pub IsOtherEvent : ℕ → Event → Type 0
IsOtherEvent correct e = (k : ℕ) → is_in correct k ≡ true → is_step k e ≡ false

-- `counts` has how many steps each correct node took before this place
pub record AreCounts (trace : List Event) (correct : ℕ) (counts : List ℕ) (place : ℕ) : Type 0 where
  pub sized : length counts ≡ 16
  pub counted : (k : ℕ) → is_in correct k ≡ true
      → slice_index counts k ≡ steps_before trace k place
