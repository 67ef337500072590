-- Decisions in time, in the rows of a report.
use Rattle.std.specs.Prelude.{◌≡◌, ◌⊎◌, ℕ, ◌+◌, ◌<◌, ◌≤◌, true, All, IsSome, List, [], ◌∷◌, map}
use Rattle.std.specs.List.{count_by, range_with_len}
use Rattle.round_lang.specs.Sets.{is_in}
use Rattle.round_proofs.specs.Terminating.{DecideFrom}
use Rattle.round_meaning.specs.Rounds.{algorithm_of}
use Rattle.omission_explainer.specs.InRounds.{IsOfRounds, printed_omits}
use Rattle.omission_explainer.specs.Reported.{IsReported, closed_rounds, place}
use Rattle.omission_explainer.specs.Rows.{ClosedRound}
use Rattle.step_book.specs.Log.{Log, count_of, round_of}

-- what `explain` says of the rows of its report: they are printed right (`reported`), one for each
-- closed round (`listed`), and of the run in rounds under the omissions that they print
-- (`in_rounds`)
pub record IsReportOf (start : ℕ → ℕ) (v : Log) (rows : List ClosedRound) : Type 0 where
  pub reported : All (IsReported start v) rows
  pub listed : map place rows ≡ closed_rounds v
  pub in_rounds : All (IsOfRounds (algorithm_of v.program v.setup) (printed_omits rows)) rows

-- each row of a node of the set, of this round or a later one, has a decision
abbrev pub HaveDecidedBy : (members round : ℕ) → List ClosedRound → Type 0
HaveDecidedBy members round rows =
    All (λ (row : ClosedRound). is_in members row.node ≡ true → round ≤ row.round
    → IsSome row.decision) rows

-- some row of node i and round r has a decision
abbrev pub HasDecision : (i r : ℕ) → List ClosedRound → Type 0
HasDecision i r [] = ⊥
HasDecision i r (row ∷ rows) =
    ((row.node ≡ i) × (row.round ≡ r) × IsSome row.decision) ⊎ HasDecision i r rows

-- all but t nodes are in the set
abbrev pub IsAllButFew : Log → (members : ℕ) → Type 0
IsAllButFew v members =
    v.setup.nodes ≤ count_by (is_in members) (range_with_len 0 v.setup.nodes) + v.setup.faults

-- the nodes of the set have decided as soon as they have closed a round from `round` on: for each
-- `round` by which nodes of the program decide if they hear each other from round `clear` on
pub record DecideInTime (v : Log) (members clear : ℕ) (rows : List ClosedRound) : Type 0 where
  pub reported : (round : ℕ) → IsAllButFew v members → DecideFrom v.program v.setup clear round
      → HaveDecidedBy members round rows
  pub closed : (round i r : ℕ) → IsAllButFew v members
      → DecideFrom v.program v.setup clear round → i < v.setup.nodes → is_in members i ≡ true
      → round ≤ r → 1 ≤ r → r ≤ v.setup.rounds → r < round_of v i → HasDecision i r rows

-- the nodes of the set have decided as soon as they have taken all steps of such a round
abbrev pub DecideByStep : (start : ℕ → ℕ) → Log → (members clear : ℕ) → List ClosedRound → Type 0
DecideByStep start v members clear rows =
    (round i : ℕ) → IsAllButFew v members → DecideFrom v.program v.setup clear round
    → i < v.setup.nodes → is_in members i ≡ true → 1 ≤ round → round ≤ v.setup.rounds
    → start (round + 1) ≤ count_of v i → HasDecision i round rows
