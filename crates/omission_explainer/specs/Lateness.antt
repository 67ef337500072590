-- The delay bound in the receiver's own steps, as one pass over a trace can tell it.
use Rattle.std.specs.Prelude.{◌≡◌, ℕ, ◌+◌, ◌<◌, ◌≤◌, Bool, true, false, List}
use Rattle.std.specs.Prelude.{if◌then◌else◌, max, min, slice_index}
use Rattle.round_lang.specs.Sets.{is_in}
use Rattle.step_book.specs.declared.mark.Mark.{Mark}
use Rattle.step_book.specs.declared.mark.Mark.TheVariants.{Unsent, Silent, Flying, Released, Lost}
use Rattle.step_book.specs.History.{mark_of}
use Rattle.step_book.specs.Slots.{IsMessageAt}
use Rattle.step_book.specs.Trace.{steps}
use Rattle.step_book.specs.World.{World, is_receive}
use Rattle.run_events.specs.declared.event.Event.{Event}
use Rattle.run_events.specs.declared.name.Name.{Name}

-- the step number below which a receiver that has taken `count` steps lacked a copy: that of its
-- release, as its mark keeps it, or the next one
abbrev pub copy_open_until : ℕ → Mark → ℕ
copy_open_until count Unsent = count
copy_open_until count Silent = count
copy_open_until count Flying = count
copy_open_until count (Released x) = x
copy_open_until count Lost = count

-- copy 0 was made of a message
abbrev pub is_spoken : Mark → Bool
is_spoken Unsent = false
is_spoken Silent = false
is_spoken Flying = true
is_spoken (Released x) = true
is_spoken Lost = true

-- the least of a message's copies
abbrev pub least_copy : (ℕ → ℕ) → ℕ
least_copy f = min (min (min (f 0) (f 1)) (f 2)) (f 3)

-- the marks of a message's copies
abbrev pub marks_of : World → List Event → Name → ℕ → Mark
marks_of w t n k = mark_of w t (record n { copy = k })

-- the step number below which a receiver that has taken `count` steps lacked each copy of a
-- message; where no message was sent, it lacks nothing
abbrev pub open_until : ℕ → (ℕ → Mark) → ℕ
open_until count marks =
    if is_spoken (marks 0) then least_copy (λ k. copy_open_until count (marks k)) else 0

-- one of the step numbers from low on and below high is a receive
pub record HasReceive (w : World) (low high : ℕ) : Type 0 where
  pub step : ℕ
  pub after : low ≤ step
  pub before : step < high
  pub receive : is_receive w step ≡ true

-- node i takes its next step, and `counts` has how many each correct node took before: none of them
-- took fewer than node i
abbrev pub KeepsPace : ℕ → List ℕ → ℕ → Type 0
KeepsPace correct counts i =
    (j : ℕ) → is_in correct j ≡ true → slice_index counts i ≤ slice_index counts j

-- node j takes its next step, and `counts` has how many each correct node took before: no message
-- that it sends there is too late for a receive
abbrev pub KeepsBound : World → List Event → ℕ → ℕ → ℕ → List ℕ → ℕ → Type 0
KeepsBound w t correct delta gst counts j =
    (n : Name) → IsMessageAt w j (slice_index counts j) n → is_in correct n.to ≡ true
    → gst ≤ slice_index counts j → ¬ HasReceive w (max (slice_index counts j + delta)
    (slice_index counts n.to)) (open_until (steps n.to t) (marks_of w t n))
