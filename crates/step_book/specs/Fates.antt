-- What becomes of each copy of a message, event by event.
use Rattle.std.specs.Prelude.{ℕ, ◌+◌, Bool, true, false, ◌&&◌, ◌||◌, ◌==◌, if◌then◌else◌, List, []}
use Rattle.std.specs.Prelude.{◌∷◌}
use Rattle.run_events.specs.declared.event.Event.{Event}
use Rattle.run_events.specs.declared.name.Name.{Name}
use Rattle.run_events.specs.Names.{original}
use Rattle.step_book.specs.Trace.{is_copy, is_drop, is_release, is_step, steps}
use Rattle.step_book.specs.World.{World, is_receive, lies_near}

-- a copy isn't made, or it's in flight, or it waits since its receiver had taken x steps, or it
-- waited since x and was taken at the receiver's step number c, or it's lost
pub data Fate : Type 0 where
  Unmade : Fate
  Moving : Fate
  Waiting : ℕ → Fate
  Taken : ℕ → ℕ → Fate
  Lost : Fate

abbrev pub is_moving : Fate → Bool
is_moving Unmade = false
is_moving Moving = true
is_moving (Waiting x) = false
is_moving (Taken x c) = false
is_moving Lost = false

abbrev pub is_waiting : Fate → Bool
is_waiting Unmade = false
is_waiting Moving = false
is_waiting (Waiting x) = true
is_waiting (Taken x c) = false
is_waiting Lost = false

-- the sender takes the message's slot
abbrev pub is_slot : World → Name → Event → List Event → Bool
is_slot w n e past = is_step n.from e && (steps n.from past == w.start n.round + n.to)

-- node i receives
abbrev pub is_take : World → ℕ → Event → List Event → Bool
is_take w i e past = is_step i e && is_receive w (steps i past)

-- the slot makes copy 0, and the network makes any other while copy 0 is in flight
abbrev pub makes : World → Name → Event → List Event → Fate → Bool
makes w n e past first = if n.copy == 0 then is_slot w n e past else is_copy n e && is_moving first

-- what an event makes of a copy, by what became of copy 0 and of itself before
abbrev pub after : World → Name → Event → List Event → Fate → Fate → Fate
after w n e past first Unmade = if makes w n e past first then Moving else Unmade
after w n e past first Moving =
    if is_release n e then Waiting (steps n.to past) else if is_drop n e then Lost else Moving
after w n e past first (Waiting x) =
    if is_take w n.to e past then Taken x (steps n.to past) else Waiting x
after w n e past first (Taken x c) = Taken x c
after w n e past first Lost = Lost

-- what became of a copy
unfoldable pub fate : World → List Event → Name → Fate
fate w [] n = Unmade
fate w (e ∷ past) n = after w n e past (fate w past (original n)) (fate w past n)

-- it was taken in the round r, or in one of the rounds before it in which a message of r is kept
abbrev pub taken_near : World → ℕ → Fate → Bool
taken_near w r Unmade = false
taken_near w r Moving = false
taken_near w r (Waiting x) = false
taken_near w r (Taken x c) = lies_near w r c
taken_near w r Lost = false

-- it holds of one of a message's copies
abbrev pub some_copy : (ℕ → Bool) → Bool
some_copy holds = holds 0 || holds 1 || holds 2 || holds 3

-- a copy of the message of round r from j to i is carried
unfoldable pub carried : World → List Event → ℕ → ℕ → ℕ → Bool
carried w t i r j =
    some_copy (λ k. taken_near w r (fate w t (record { from = j; to = i; round = r; copy = k })))
