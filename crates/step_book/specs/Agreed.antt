-- When a journal agrees with its program, setup and plan: what its calls answer is what the run in
-- rounds says, with the messages omitted that the trace doesn't carry.
use Rattle.std.specs.Prelude.{◌≡◌, ℕ, ◌+◌, ◌-◌, ◌<◌, ◌≤◌, ◌↔◌, List, [], Option, Some, None, true}
use Rattle.std.specs.Prelude.{IsSome, slice_index_or}
use Rattle.std.specs.List.{count_by}
use Rattle.round_lang.specs.declared.value.Value.{Value}
use Rattle.round_meaning.specs.Rounds.{algorithm_of}
use Rattle.run_events.specs.declared.name.Name.{Name}
use Rattle.step_machine.specs.Sealed.{Frame, sent_under}
use Rattle.step_book.specs.declared.mark.Mark.{Mark}
use Rattle.step_book.specs.declared.mark.Mark.TheVariants.{Unsent, Silent, Flying, Released, Lost}
use Rattle.step_book.specs.Agreement.{row}
use Rattle.step_book.specs.Fates.{carried}
use Rattle.step_book.specs.History.{state}
use Rattle.step_book.specs.Log.{Log, count_of, history, round_of, world_of}
use Rattle.step_book.specs.Names.{IsName}
use Rattle.step_book.specs.Places.{IsCarried, IsFirstAfter, IsLeftAt, IsMadeAt, IsReceiveAt}
use Rattle.step_book.specs.Places.{IsReleaseAt, IsSlotAt}
use Rattle.step_book.specs.Trace.{is_name}

-- the state of node i after r rounds of the run in rounds
abbrev pub state_in : (ℕ → ℕ) → Log → ℕ → ℕ → List Value
state_in start v i r = state (world_of start v) (history v) r i

-- what the sender sends under this name in the run in rounds
abbrev pub message_sent : (ℕ → ℕ) → Log → Name → Option (List Value)
message_sent start v n =
    sent_under (algorithm_of v.program v.setup) n (state_in start v n.from (n.round - 1))

-- the frame has the message that the run in rounds sends under its name, and names the state there
-- that sends it
pub record IsSaid (start : ℕ → ℕ) (v : Log) (f : Frame) : Type 0 where
  pub state : f.state ≡ state_in start v f.name.from (f.name.round - 1)
  pub message : message_sent start v f.name ≡ Some f.message

-- a message, and not silence, is recorded
abbrev pub IsMessage : Mark → Type 0
IsMessage Unsent = ⊥
IsMessage Silent = ⊥
IsMessage Flying = Unit {0}
IsMessage (Released x) = Unit {0}
IsMessage Lost = Unit {0}

-- silence is recorded if there is no message, and a message if there is one
abbrev pub IsSpoken : Option (List Value) → Mark → Type 0
IsSpoken None m = m ≡ Silent
IsSpoken (Some x) m = IsMessage m

-- the copy of a message was made at a, and no release or drop of it follows
pub record IsInFlight (start : ℕ → ℕ) (v : Log) (n : Name) : Type 0 where
  pub a : ℕ
  pub made : IsMadeAt (world_of start v) v.trace n a
  pub message : IsSome (message_sent start v n)
  pub none : (b : ℕ) → a < b → ¬ IsLeftAt v.trace n b

-- the copy of a message was made at a, then released at b before any drop of it, and no receive of
-- its receiver follows b
pub record IsInBuffer (start : ℕ → ℕ) (v : Log) (n : Name) : Type 0 where
  pub a : ℕ
  pub b : ℕ
  pub made : IsMadeAt (world_of start v) v.trace n a
  pub message : IsSome (message_sent start v n)
  pub leaves : IsFirstAfter (IsLeftAt v.trace n) a b
  pub release : IsReleaseAt v.trace n b
  pub none : (c : ℕ) → b < c → ¬ IsReceiveAt (world_of start v) v.trace n.to c

-- the node has taken each step of its round r
pub record IsDueRound (start : ℕ → ℕ) (v : Log) (i r : ℕ) : Type 0 where
  pub first : 1 ≤ r
  pub last : r ≤ v.setup.rounds
  pub over : start (r + 1) ≤ count_of v i

-- what is recorded of each message, the names that wait for each node and the states of its closed
-- rounds are those of the run in rounds, by the places in the trace
pub record JournalAgrees (start : ℕ → ℕ) (v : Log) (mark : Name → Mark)
    (waiting : ℕ → List Name) : Type 0 where
  -- a message is omitted in the run in rounds exactly if the trace doesn't carry it
  pub omissions : (n : Name) → IsName v.setup n
      → (carried (world_of start v) (history v) n.to n.round n.from ≡ true)
      ↔ IsCarried (world_of start v) v.trace n
  -- a slot is recorded as a message or as silence, as in the run in rounds
  pub spoken : (n : Name) (a : ℕ) → IsName v.setup n → n.copy ≡ 0
      → IsSlotAt (world_of start v) v.trace n a → IsSpoken (message_sent start v n) (mark n)
  -- a copy that wasn't made isn't recorded, and silence has no copies
  pub unsent : (n : Name) → IsName v.setup n
      → ((a : ℕ) → ¬ IsMadeAt (world_of start v) v.trace n a) → mark n ≡ Unsent
  pub uncopied : (n : Name) → IsName v.setup n → 0 < n.copy
      → message_sent start v n ≡ None → mark n ≡ Unsent
  -- the recorded state of a closed round is that of the run in rounds
  pub stated : (i r : ℕ) → i < v.setup.nodes → r < round_of v i
      → slice_index_or (row v.rows i) r [] ≡ state_in start v i r
  -- a closed round is due; of the due rounds at most the last isn't closed, and then its node has
  -- taken no step since
  pub closed : (i r : ℕ) → i < v.setup.nodes → 1 ≤ r → r < round_of v i → IsDueRound start v i r
  pub due : (i r : ℕ) → i < v.setup.nodes → IsDueRound start v i r → r ≤ round_of v i
  pub exact : (i : ℕ) → i < v.setup.nodes → IsDueRound start v i (round_of v i)
      → count_of v i ≡ start (round_of v i + 1)
  -- a copy is in flight exactly if it was made and neither released nor dropped since
  pub flies : (n : Name) → IsName v.setup n → (mark n ≡ Flying) ↔ IsInFlight start v n
  -- it waits, once, exactly if it was released and not taken since
  pub waits : (n : Name) → IsName v.setup n
      → (count_by (is_name n) (waiting n.to) ≡ 1) ↔ IsInBuffer start v n
  pub once : (n : Name) → IsName v.setup n → count_by (is_name n) (waiting n.to) ≤ 1

-- what is closed stays: a recorded state, a state of the run in rounds, and what was carried to a
-- closed round
pub record KeepsClosed (start : ℕ → ℕ) (old new : Log) : Type 0 where
  pub rounds : (i : ℕ) → i < old.setup.nodes → round_of old i ≤ round_of new i
  pub recorded : (i r : ℕ) → i < old.setup.nodes → r < round_of old i
      → slice_index_or (row new.rows i) r [] ≡ slice_index_or (row old.rows i) r []
  pub states : (i r : ℕ) → i < old.setup.nodes → r < round_of old i
      → state_in start new i r ≡ state_in start old i r
  pub carries : (i r j : ℕ) → i < old.setup.nodes → 1 ≤ r
      → r < round_of old i → carried (world_of start new) (history new) i r j
      ≡ carried (world_of start old) (history old) i r j
