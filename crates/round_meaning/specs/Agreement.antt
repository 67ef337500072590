-- Agreement and validity of runs in rounds, and what Algorithm 1 keeps under every omission table.
use Rattle.std.specs.Prelude.{◌≡◌, ◌≢◌, ℕ, suc, ◌+◌, ◌*◌, ◌<◌, ◌≤◌, Bool, List, Some, None, nat_le}
use Rattle.std.specs.Prelude.{slice_index}
use Rattle.std.specs.List.{count_by, range_with_len}
use Rattle.round_lang.specs.declared.value.Value.{Value}
use Rattle.round_lang.specs.Limits.{max_values}
use Rattle.round_lang.specs.Syntax.{ProgramTree}
use Rattle.round_meaning.specs.declared.setup.Setup.{Setup}
use Rattle.round_meaning.specs.Algorithm1.{dls1, lock_in}
use Rattle.round_meaning.specs.Rounds.{algorithm_of, rounds}
use Rattle.round_meaning.specs.Setups.{IsLawful}
use Rattle.round_meaning.specs.States.{States, state_of}
use Rattle.round_meaning.specs.Turn.{decision, phase_of}

-- a lawful setup with fewer than half of the nodes faulty
pub record HasMajority (k : ℕ) (s : Setup) : Type 0 where
  pub values : k ≤ max_values
  pub lawful : IsLawful k s
  pub majority : 2 * s.faults + 1 ≤ s.nodes

-- the value is some node's input
abbrev pub IsInput : Setup → ℕ → Type 0
IsInput s v = (i : ℕ) × (i < s.nodes) × (slice_index s.inputs i ≡ v)

-- node i has decided v after r rounds of the program; `omits i r j`: i doesn't get j's message of
-- round r
abbrev pub Decides : ProgramTree → Setup → (omits : ℕ → ℕ → ℕ → Bool) → (r i v : ℕ) → Type 0
Decides p s omits r i v = decision p (rounds (algorithm_of p s) omits r i) ≡ Some v

-- agreement under one omission table: any two decisions, of any nodes after any rounds, are equal
abbrev pub AgreesIn : ProgramTree → Setup → (omits : ℕ → ℕ → ℕ → Bool) → Type 0
AgreesIn p s omits =
    (i j r q v u : ℕ) → i < s.nodes → j < s.nodes → Decides p s omits r i v
    → Decides p s omits q j u → v ≡ u

-- validity under one omission table: each decision is some node's input
abbrev pub IsValidIn : ProgramTree → Setup → (omits : ℕ → ℕ → ℕ → Bool) → Type 0
IsValidIn p s omits =
    (i r v : ℕ) → i < s.nodes → Decides p s omits r i v → IsInput s v

-- a run of Algorithm 1 for which it was made
abbrev pub RunsAlgorithm1 : ProgramTree → Setup → Type 0
RunsAlgorithm1 p s = (p ≡ dls1 p.values) × HasMajority p.values s

-- the state of node i after r rounds of Algorithm 1; `omits i r j`: i doesn't get j's message of
-- round r
abbrev pub state_after : ℕ → Setup → (omits : ℕ → ℕ → ℕ → Bool) → (r i : ℕ) → List Value
state_after k s omits r i = rounds (algorithm_of (dls1 k) s) omits r i

-- node i has decided v by then
abbrev pub HasDecided : ℕ → Setup → (omits : ℕ → ℕ → ℕ → Bool) → (r i v : ℕ) → Type 0
HasDecided k s omits r i v = Decides (dls1 k) s omits r i v

-- it decides v in the round after r
abbrev pub DecidesNext : ℕ → Setup → (omits : ℕ → ℕ → ℕ → Bool) → (r i v : ℕ) → Type 0
DecidesNext k s omits r i v =
    (decision (dls1 k) (state_after k s omits r i) ≡ None) × HasDecided k s omits (suc r) i v

-- Algorithm 1 keeps agreement under every omission table
abbrev pub Agreement : Type 0
Agreement =
    (p : ProgramTree) (s : Setup) (omits : ℕ → ℕ → ℕ → Bool) → RunsAlgorithm1 p s
    → AgreesIn p s omits

-- and validity
abbrev pub Validity : Type 0
Validity =
    (p : ProgramTree) (s : Setup) (omits : ℕ → ℕ → ℕ → Bool) → RunsAlgorithm1 p s
    → IsValidIn p s omits

-- from the round on in which v is decided, more than t nodes hold a lock on v of that round's phase
-- or later
abbrev pub DecisionsAreLocked : Type 0
DecisionsAreLocked =
    (k : ℕ) (s : Setup) (omits : ℕ → ℕ → ℕ → Bool) → HasMajority k s → (i r d v : ℕ) → i < s.nodes
    → DecidesNext k s omits r i v → s.faults + 1 ≤ count_by (λ j. nat_le (phase_of (dls1 k) (suc r))
    (lock_in (state_after k s omits (suc r + d) j) v)) (range_with_len 0 s.nodes)

-- from the round on in which v is decided, no lock on another value has that round's phase or a
-- later one
abbrev pub NoOtherLocks : Type 0
NoOtherLocks =
    (k : ℕ) (s : Setup) (omits : ℕ → ℕ → ℕ → Bool) → HasMajority k s → (i r d v : ℕ) → i < s.nodes
    → DecidesNext k s omits r i v → (j u : ℕ) → j < s.nodes → u < k → u ≢ v
    → lock_in (state_after k s omits (suc r + d) j) u < phase_of (dls1 k) (suc r)

-- all decisions in the table are equal
abbrev pub DecisionsAgree : States → Type 0
DecisionsAgree t =
    (i j r q v u : ℕ) → i < t.nodes → j < t.nodes → r ≤ t.rounds
    → q ≤ t.rounds → decision t.program (state_of t i r) ≡ Some v
    → decision t.program (state_of t j q) ≡ Some u → v ≡ u

-- each decision in the table is some node's input
abbrev pub DecisionsAreInputs : Setup → States → Type 0
DecisionsAreInputs s t =
    (i r v : ℕ) → i < t.nodes → r ≤ t.rounds
    → decision t.program (state_of t i r) ≡ Some v → IsInput s v
