-- What a run is judged by: whether its correct nodes step in lockstep, and whether the messages
-- between them keep a bound on the delay. A set of nodes is a number, of which bit i stands for
-- node i.
use Rattle.std.specs.Prelude.{◌≡◌, ℕ, ◌+◌, ◌<◌, ◌≤◌, ◌++◌, Bool, true, false, List, Option, Some}
use Rattle.std.specs.Prelude.{None, IsSome, codes}
use Rattle.std.specs.Fmt.{decimal}
use Rattle.round_lang.specs.Sets.{is_in}
use Rattle.step_book.specs.Agreed.{message_sent}
use Rattle.step_book.specs.Log.{Log, round_of, world_of}
use Rattle.step_book.specs.Names.{IsName}
use Rattle.step_book.specs.Places.{IsFirstAfter, IsLeftAt, IsMadeAt, IsReleaseAt, IsStepAt}
use Rattle.step_book.specs.Places.{steps_before}
use Rattle.step_book.specs.World.{World, is_receive}
use Rattle.run_events.specs.declared.event.Event.{Event}
use Rattle.run_events.specs.declared.name.Name.{Name}
use Rattle.run_events.specs.Limits.{max_copy}
use Rattle.omission_explainer.specs.declared.judging.Verdict.{Verdict}
use Rattle.omission_explainer.specs.Reported.{omitted_in}

-- each member of the set is a node
abbrev pub AreNodes : ℕ → ℕ → Type 0
AreNodes nodes members = (i : ℕ) → is_in members i ≡ true → i < nodes

-- whenever a correct node takes its step number c, every correct node has taken at least c steps
-- before it
abbrev pub IsLockstep : List Event → ℕ → Type 0
IsLockstep trace correct =
    (i j c place : ℕ) → is_in correct i ≡ true → is_in correct j ≡ true → IsStepAt trace i c place
    → c ≤ steps_before trace j place

-- the message of this name is sent at a place, by its sender's step number s, which makes copy 0;
-- silence is no message
pub record IsSentAt (start : ℕ → ℕ) (v : Log) (n : Name) (s place : ℕ) : Type 0 where
  pub name : IsName v.setup n
  pub copy : n.copy ≡ 0
  pub slot : s ≡ start n.round + n.to
  pub there : IsStepAt v.trace n.from s place
  pub message : IsSome (message_sent start v n)

-- the copy is let in at place b: it was made before, and its first release or drop since is the
-- release at b
pub record IsLetInAt (w : World) (trace : List Event) (n : Name) (b : ℕ) : Type 0 where
  pub place : ℕ
  pub made : IsMadeAt w trace n place
  pub leaves : IsFirstAfter (IsLeftAt trace n) place b
  pub release : IsReleaseAt trace n b

-- one of the message's copies is let in between two places
pub record IsLetInBetween (w : World) (trace : List Event) (n : Name) (a c : ℕ) : Type 0 where
  pub copy : ℕ
  pub few : copy ≤ max_copy
  pub place : ℕ
  pub let_in : IsLetInAt w trace (record n { copy = copy }) place
  pub after : a < place
  pub before : place < c

-- of each message that a correct node sends to a correct node by its step number s, which is gst or
-- more, some copy is let in before each receive of the receiver that comes after the send and has
-- step number s + delta or more
abbrev pub IsDelayBound : (ℕ → ℕ) → Log → ℕ → ℕ → ℕ → Type 0
IsDelayBound start v correct delta gst =
    (n : Name) (s a received c : ℕ)
    → is_in correct n.from ≡ true → is_in correct n.to ≡ true
    → IsSentAt start v n s a → gst ≤ s
    → IsStepAt v.trace n.to received c → is_receive (world_of start v) received ≡ true
    → s + delta ≤ received → a < c → IsLetInBetween (world_of start v) v.trace n a c

-- from round first on, no closed round of a correct node omits the message of a correct node
abbrev pub HearsFrom : (ℕ → ℕ) → Log → ℕ → ℕ → Type 0
HearsFrom start v correct first =
    (r i j : ℕ) → first ≤ r → r < round_of v i → is_in correct i ≡ true → is_in correct j ≡ true
    → is_in (omitted_in start v r i) j ≡ false

-- an answer's text
abbrev pub yes_or_no : Bool → List ℕ
yes_or_no true = codes "yes"
yes_or_no false = codes "no"

-- the text of a round, or of none
abbrev pub round_or_none : Option ℕ → List ℕ
round_or_none None = codes "none"
round_or_none (Some r) = decimal r

-- a verdict's text, as `lockstep yes bound no clear 5`
abbrev pub verdict_text : Verdict → List ℕ
verdict_text v =
    codes "lockstep " ++ yes_or_no v.lockstep ++ codes " bound " ++ yes_or_no v.bound
    ++ codes " clear " ++ round_or_none v.clear
