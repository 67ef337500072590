-- What has to be shown of a program, so that its runs agree.
use Rattle.std.specs.Prelude.{◌≡◌, ℕ, suc, ◌<◌, ◌≤◌, Bool, All, Option, Some, length}
use Rattle.std.specs.Prelude.{slice_index}
use Rattle.run_events.specs.Limits.{max_nodes}
use Rattle.round_lang.specs.Syntax.{ProgramTree}
use Rattle.round_meaning.specs.declared.setup.Setup.{Setup}
use Rattle.round_meaning.specs.Agreement.{AgreesIn, IsInput, IsValidIn}
use Rattle.round_meaning.specs.Setups.{IsLawful}
use Rattle.round_proofs.specs.Machines.{Machine, next_world, round_of}

-- the states of all nodes one round later, which is round r + 1
abbrev pub one_on : {Node Message : Type 0} → Machine Node Message → Setup → (period : ℕ)
    → (omits : ℕ → ℕ → ℕ → Bool) → (r : ℕ) → (ℕ → Node) → ℕ → Node
one_on m s period omits r w = next_world m s.nodes (round_of period r) (λ i. omits i (suc r)) w

-- a setup with some nodes, within the limit, each of which has an input below K
pub record IsFit (values : ℕ) (s : Setup) : Type 0 where
  pub some_node : 0 < s.nodes
  pub few_nodes : s.nodes ≤ max_nodes
  pub inputs : length s.inputs ≡ s.nodes
  pub below : All (λ x. x < values) s.inputs

-- Five obligations, for one setup, one omission table and the first `last` rounds: then any two
-- decisions that count are equal. `Counts i r` says that the state of node i after round r counts,
-- `Inv r w` is an invariant of the states w of all nodes after r rounds, and `Locked r w v` says
-- that from then on nothing but v can be decided.
pub record IsAgreed {Node Message : Type 0} (m : Machine Node Message) (s : Setup) (period : ℕ)
    (omits : ℕ → ℕ → ℕ → Bool) (last : ℕ) (Counts : ℕ → ℕ → Type 0) (decided : Node → Option ℕ)
    (Inv : ℕ → (ℕ → Node) → Type 0) (Locked : ℕ → (ℕ → Node) → ℕ → Type 0) : Type 0 where
  -- the invariant holds at the start
  pub starts : Inv 0 (λ i. m.start (slice_index s.inputs i) i)
  -- each round keeps it
  pub goes_on : (r : ℕ) (w : ℕ → Node) → r < last → Inv r w
      → Inv (suc r) (one_on m s period omits r w)
  -- a decision that counts is locked
  pub locks : (r : ℕ) (w : ℕ → Node) (i v : ℕ) → r ≤ last → Inv r w → Counts i r
      → decided (w i) ≡ Some v → Locked r w v
  -- each round keeps a lock
  pub stays : (r : ℕ) (w : ℕ → Node) (v : ℕ) → r < last → Inv r w → Locked r w v
      → Locked (suc r) (one_on m s period omits r w) v
  -- at most one value is locked
  pub one : (r : ℕ) (w : ℕ → Node) (v u : ℕ) → r ≤ last → Inv r w → Locked r w v → Locked r w u
      → v ≡ u

-- The sixth, for validity.
pub record IsSafe {Node Message : Type 0} (m : Machine Node Message) (s : Setup) (period : ℕ)
    (omits : ℕ → ℕ → ℕ → Bool) (last : ℕ) (Counts : ℕ → ℕ → Type 0) (decided : Node → Option ℕ)
    (Inv : ℕ → (ℕ → Node) → Type 0) (Locked : ℕ → (ℕ → Node) → ℕ → Type 0) : Type 0 where
  pub agreed : IsAgreed m s period omits last Counts decided Inv Locked
  pub open agreed use *
  -- a locked value is some node's input
  pub valid : (r : ℕ) (w : ℕ → Node) (v : ℕ) → r ≤ last → Inv r w → Locked r w v → IsInput s v

-- The seventh, for finality.
pub record IsKept {Node Message : Type 0} (m : Machine Node Message) (s : Setup) (period : ℕ)
    (omits : ℕ → ℕ → ℕ → Bool) (last : ℕ) (Counts : ℕ → ℕ → Type 0) (decided : Node → Option ℕ)
    (Inv : ℕ → (ℕ → Node) → Type 0) : Type 0 where
  -- a node that has decided has some decision after each later round that counts for it
  pub keeps : (r : ℕ) (w : ℕ → Node) (i v : ℕ) → r < last → Inv r w → Counts i (suc r)
      → decided (w i) ≡ Some v
      → (u : ℕ) × (decided (one_on m s period omits r w i) ≡ Some u)

-- agreement under every omission table that is allowed, for all lawful setups
abbrev pub AgreesUnder : (Setup → (ℕ → ℕ → ℕ → Bool) → Type 0) → ProgramTree → Type 0
AgreesUnder Allowed p =
    (s : Setup) (omits : ℕ → ℕ → ℕ → Bool) → IsLawful p.values s → Allowed s omits
    → AgreesIn p s omits

-- validity under every omission table that is allowed, for all lawful setups
abbrev pub ValidUnder : (Setup → (ℕ → ℕ → ℕ → Bool) → Type 0) → ProgramTree → Type 0
ValidUnder Allowed p =
    (s : Setup) (omits : ℕ → ℕ → ℕ → Bool) → IsLawful p.values s → Allowed s omits
    → IsValidIn p s omits
