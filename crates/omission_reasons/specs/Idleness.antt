-- Why an event of the network did nothing, by places in the trace.
use Rattle.std.specs.Prelude.{◌≡◌, ℕ, ◌<◌, ◌≤◌, IsSome, None}
use Rattle.run_events.specs.declared.name.Name.{Name}
use Rattle.run_events.specs.Names.{original}
use Rattle.step_book.specs.Agreed.{message_sent}
use Rattle.step_book.specs.Log.{Log, world_of}
use Rattle.step_book.specs.Places.{IsMadeAt, IsSlotAt}
use Rattle.omission_reasons.specs.Departures.{LeavesAt}
use Rattle.omission_reasons.specs.declared.idle.Idle.{Idle}
use Rattle.omission_reasons.specs.declared.idle.Idle.TheVariants.{NotMade, Silent, Gone, Made}

-- the sender took the message's slot before this place, and was silent
pub record IsSilentBefore (start : ℕ → ℕ) (v : Log) (n : Name) (place : ℕ) : Type 0 where
  pub slot : ℕ
  pub sent : IsSlotAt (world_of start v) v.trace n slot
  pub before : slot < place
  pub silent : message_sent start v n ≡ None

-- the copy wasn't there at this place: it was made at no place before it, the sender was silent, or
-- it had left at b
abbrev pub IsAbsent : (ℕ → ℕ) → Log → Name → ℕ → Idle → Type 0
IsAbsent start v n place NotMade =
    (a : ℕ) → IsMadeAt (world_of start v) v.trace n a → place ≤ a
IsAbsent start v n place Silent = IsSilentBefore start v n place
IsAbsent start v n place (Gone b) = LeavesAt (world_of start v) v.trace n b × (b < place)
IsAbsent start v n place (Made a) = ⊥

-- a copy wasn't made at this place: copy 0 wasn't there, or this one had been made at a
abbrev pub IsNotCopied : (ℕ → ℕ) → Log → Name → ℕ → Idle → Type 0
IsNotCopied start v n place NotMade = IsAbsent start v (original n) place NotMade
IsNotCopied start v n place Silent = IsAbsent start v (original n) place Silent
IsNotCopied start v n place (Gone b) = IsAbsent start v (original n) place (Gone b)
IsNotCopied start v n place (Made a) =
    IsMadeAt (world_of start v) v.trace n a × (a < place)

-- a release or a drop at this place let a copy of a message go: it leaves there
pub record LetsGo (start : ℕ → ℕ) (v : Log) (n : Name) (place : ℕ) : Type 0 where
  pub leaves : LeavesAt (world_of start v) v.trace n place
  pub message : IsSome (message_sent start v n)

-- a copy of a message was made at this place
pub record Copies (start : ℕ → ℕ) (v : Log) (n : Name) (place : ℕ) : Type 0 where
  pub made : IsMadeAt (world_of start v) v.trace n place
  pub message : IsSome (message_sent start v n)
