-- Places in the trace of a run, its list of events, which has the oldest first. Places, nodes and
-- the steps of a node are numbered from 0, rounds from 1. Round r of each node begins with its step
-- number `start r`: a send to each node, from 0 on, and then receives. A `Name` names one copy of a
-- message: `from`, `to`, `round` and `copy`.
use Rattle.std.specs.Prelude.{◌≡◌, ℕ, ◌+◌, ◌<◌, ◌≤◌, ◌⊎◌, List, Some, count_by, slice_get, take}
use Rattle.run_events.specs.declared.event.Event.{Event}
use Rattle.run_events.specs.declared.event.Event.TheVariants.{Step, Release, Drop, Copy}
use Rattle.run_events.specs.declared.name.Name.{Name}
use Rattle.run_events.specs.Limits.{max_copy}
use Rattle.run_events.specs.Names.{original}
use Rattle.step_book.specs.Trace.{is_step}
use Rattle.step_book.specs.World.{World, earliest, nodes_of}

-- how many steps node i has taken before a place
abbrev pub steps_before : List Event → ℕ → ℕ → ℕ
steps_before trace i place = count_by (is_step i) (take place trace)

-- node i takes its step number c at this place
pub record IsStepAt (trace : List Event) (i c place : ℕ) : Type 0 where
  pub there : slice_get trace place ≡ Some (Step i)
  pub number : steps_before trace i place ≡ c

-- a release of the copy stands at this place: into its receiver's buffer, if the copy is in flight
abbrev pub IsReleaseAt : List Event → Name → ℕ → Type 0
IsReleaseAt trace n place = slice_get trace place ≡ Some (Release n)

-- a drop of the copy stands at this place
abbrev pub IsDropAt : List Event → Name → ℕ → Type 0
IsDropAt trace n place = slice_get trace place ≡ Some (Drop n)

-- an event that makes the copy, if it can be made, stands at this place
abbrev pub IsCopyAt : List Event → Name → ℕ → Type 0
IsCopyAt trace n place = slice_get trace place ≡ Some (Copy n)

-- a release or a drop of the copy stands at this place
abbrev pub IsLeftAt : List Event → Name → ℕ → Type 0
IsLeftAt trace n place = IsReleaseAt trace n place ⊎ IsDropAt trace n place

-- step number c is a receive of round r
pub record IsReceiveOf (w : World) (r c : ℕ) : Type 0 where
  pub first : 1 ≤ r
  pub last : r ≤ w.rounds
  pub after_sends : w.start r + nodes_of w ≤ c
  pub before_end : c < w.start (r + 1)

-- node i takes a receive step at this place
pub record IsReceiveAt (w : World) (trace : List Event) (i place : ℕ) : Type 0 where
  pub round : ℕ
  pub step : ℕ
  pub there : IsStepAt trace i step place
  pub receives : IsReceiveOf w round step

-- a place is the first of its kind after another
pub record IsFirstAfter (Is : ℕ → Type 0) (before place : ℕ) : Type 0 where
  pub later : before < place
  pub there : Is place
  pub none : (k : ℕ) → before < k → k < place → ¬ Is k

-- the sender takes the message's slot at this place: the step of its round that sends to the
-- receiver
abbrev pub IsSlotAt : World → List Event → Name → ℕ → Type 0
IsSlotAt w trace n place = IsStepAt trace n.from (w.start n.round + n.to) place

-- a copy other than 0 is made by the first event for it after the slot, if copy 0 was neither
-- released nor dropped between the two
pub record IsCopiedAt (w : World) (trace : List Event) (n : Name) (place : ℕ) : Type 0 where
  pub slot : ℕ
  pub sent : IsSlotAt w trace n slot
  pub first : IsFirstAfter (IsCopyAt trace n) slot place
  pub flies : (k : ℕ) → slot < k → k < place → ¬ IsLeftAt trace (original n) k

-- a copy is made at this place: copy 0 by the slot, any other by the network
pub data IsMadeAt (w : World) (trace : List Event) (n : Name) (place : ℕ) : Type 0 where
  Sent : n.copy ≡ 0 → IsSlotAt w trace n place → IsMadeAt w trace n place
  Copied : 0 < n.copy → IsCopiedAt w trace n place → IsMadeAt w trace n place

-- the copy is made at a; its first release or drop after that is a release, at b; the receiver's
-- first receive after b is at c, in the message's round or in one of the rounds before it in which
-- the message is kept
pub record IsCarriedAs (w : World) (trace : List Event) (n : Name) : Type 0 where
  pub a : ℕ
  pub b : ℕ
  pub c : ℕ
  pub made : IsMadeAt w trace n a
  pub leaves : IsFirstAfter (IsLeftAt trace n) a b
  pub release : IsReleaseAt trace n b
  pub receive : IsFirstAfter (IsReceiveAt w trace n.to) b c
  pub from_start : w.start (earliest n.round) ≤ steps_before trace n.to c
  pub before_end : steps_before trace n.to c < w.start (n.round + 1)

-- one of the message's copies is carried
pub record IsCarried (w : World) (trace : List Event) (n : Name) : Type 0 where
  pub copy : ℕ
  pub few : copy ≤ max_copy
  pub carried : IsCarriedAs w trace (record n { copy = copy })
