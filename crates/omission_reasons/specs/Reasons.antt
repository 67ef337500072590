-- Why a report omits a message: what became of each of its copies, by places in the trace.
use Rattle.std.specs.Prelude.{◌≡◌, ℕ, ◌<◌, ◌⊎◌, List, true}
use Rattle.round_lang.specs.Sets.{is_in}
use Rattle.run_events.specs.declared.event.Event.{Event}
use Rattle.run_events.specs.declared.name.Name.{Name}
use Rattle.step_book.specs.Agreed.{IsInFlight}
use Rattle.step_book.specs.Log.{Log, round_of, world_of}
use Rattle.step_book.specs.Places.{IsDropAt, IsFirstAfter, IsLeftAt, IsMadeAt, IsReceiveAt}
use Rattle.step_book.specs.Places.{IsReceiveOf, IsSlotAt, steps_before}
use Rattle.step_book.specs.World.{World, earliest}
use Rattle.omission_explainer.specs.Reported.{omitted_in}
use Rattle.omission_explainer.specs.Verdict.{IsLetInAt}
use Rattle.omission_reasons.specs.declared.reason.Reason.{Reason}
use Rattle.omission_reasons.specs.declared.reason.Reason.TheVariants.{NotSent, InFlight, Dropped}
use Rattle.omission_reasons.specs.declared.reason.Reason.TheVariants.{Waiting, Late, Early}

-- the message's round is closed at its receiver, and the report lists its sender among those that
-- this round omitted
pub record IsOmitted (start : ℕ → ℕ) (v : Log) (n : Name) : Type 0 where
  pub closed : n.round < round_of v n.to
  pub omitted : is_in (omitted_in start v n.round n.to) n.from ≡ true

-- the copy was made
pub record IsMade (start : ℕ → ℕ) (v : Log) (n : Name) : Type 0 where
  pub place : ℕ
  pub made : IsMadeAt (world_of start v) v.trace n place

-- there is a reason to tell of the copy: its message is omitted, and it's copy 0 or was made
pub record HasReason (start : ℕ → ℕ) (v : Log) (n : Name) : Type 0 where
  pub omitted : IsOmitted start v n
  pub copy : (n.copy ≡ 0) ⊎ IsMade start v n

-- the copy is lost at place b: it was made before, and its first release or drop since is the drop
-- at b
pub record IsLostAt (w : World) (trace : List Event) (n : Name) (b : ℕ) : Type 0 where
  pub place : ℕ
  pub made : IsMadeAt w trace n place
  pub leaves : IsFirstAfter (IsLeftAt trace n) place b
  pub drop : IsDropAt trace n b

-- the copy is let in at b, and no receive of its receiver follows
pub record IsLeftWaiting (w : World) (trace : List Event) (n : Name) (b : ℕ) : Type 0 where
  pub let_in : IsLetInAt w trace n b
  pub none : (c : ℕ) → b < c → ¬ IsReceiveAt w trace n.to c

-- the copy is let in at b, and the receiver's first receive after that is at c, in its round q
pub record IsReceivedAt (w : World) (trace : List Event) (n : Name) (b c q : ℕ) : Type 0 where
  pub let_in : IsLetInAt w trace n b
  pub receive : IsFirstAfter (IsReceiveAt w trace n.to) b c
  pub round : IsReceiveOf w q (steps_before trace n.to c)

-- the reason tells what became of the copy: its sender never took the slot, it's still in flight,
-- it was dropped, it waits, or it was received in a round in which the message isn't kept
abbrev pub IsReason : (ℕ → ℕ) → Log → Name → Reason → Type 0
IsReason start v n NotSent = (a : ℕ) → ¬ IsSlotAt (world_of start v) v.trace n a
IsReason start v n InFlight = IsInFlight start v n
IsReason start v n (Dropped b) = IsLostAt (world_of start v) v.trace n b
IsReason start v n (Waiting b) = IsLeftWaiting (world_of start v) v.trace n b
IsReason start v n (Late b c q) = (n.round < q) × IsReceivedAt (world_of start v) v.trace n b c q
IsReason start v n (Early b c q) =
    (q < earliest n.round) × IsReceivedAt (world_of start v) v.trace n b c q
