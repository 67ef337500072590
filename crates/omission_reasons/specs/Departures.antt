-- Where a copy is made and where it leaves, as they are sought in a trace.
use Rattle.std.specs.Prelude.{◌≡◌, ℕ, ◌≤◌, ◌<◌, ◌⊎◌, false, List}
use Rattle.run_events.specs.declared.event.Event.{Event}
use Rattle.run_events.specs.declared.event.Event.TheVariants.{Release, Drop, Copy}
use Rattle.run_events.specs.declared.name.Name.{Name}
use Rattle.step_book.specs.Places.{IsCopyAt, IsFirstAfter, IsLeftAt, IsMadeAt, IsReceiveOf}
use Rattle.step_book.specs.World.{World, is_receive}
use Rattle.omission_reasons.specs.declared.departure.Sought.{Sought}
use Rattle.omission_reasons.specs.declared.departure.Sought.TheVariants.{Copying, Leaving}
use Rattle.omission_reasons.specs.declared.receive.Receive.{Receive}

-- the event is of the kind that is sought, and names the copy
abbrev pub IsSought : Sought → Name → Event → Type 0
IsSought Copying n e = e ≡ Copy n
IsSought Leaving n e = (e ≡ Release n) ⊎ (e ≡ Drop n)

-- such an event stands at this place
abbrev pub IsSoughtAt : Sought → List Event → Name → ℕ → Type 0
IsSoughtAt Copying trace n place = IsCopyAt trace n place
IsSoughtAt Leaving trace n place = IsLeftAt trace n place

-- the copy leaves at this place: it was made before, and this is its first release or drop since
pub record LeavesAt (w : World) (trace : List Event) (n : Name) (place : ℕ) : Type 0 where
  pub made_at : ℕ
  pub made : IsMadeAt w trace n made_at
  pub first : IsFirstAfter (IsLeftAt trace n) made_at place

-- the copy leaves at some place
pub record IsGone (w : World) (trace : List Event) (n : Name) : Type 0 where
  pub place : ℕ
  pub leaves : LeavesAt w trace n place

-- none of the step numbers from low on is a receive
abbrev pub NoReceiveFrom : World → ℕ → Type 0
NoReceiveFrom w low = (x : ℕ) → low ≤ x → is_receive w x ≡ false

-- of the step numbers from low on this is the first that is a receive
pub record IsFirstReceive (w : World) (low : ℕ) (r : Receive) : Type 0 where
  pub after : low ≤ r.step
  pub receive : IsReceiveOf w r.round r.step
  pub first : (x : ℕ) → low ≤ x → x < r.step → is_receive w x ≡ false
