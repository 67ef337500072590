-- What all decisions of a report come to.
use Rattle.std.specs.Prelude.{◌≡◌, ◌≢◌, ◌⊎◌, ◌<◌, ℕ, Bool, List, [], ◌∷◌, All, Option, Some, None}
use Rattle.std.specs.Prelude.{◌++◌, codes, if◌then◌else◌, ◌==◌}
use Rattle.std.specs.Fmt.{decimal}
use Rattle.std.specs.List.{fold}
use Rattle.round_lang.specs.Syntax.{ProgramTree}
use Rattle.round_meaning.specs.Agreement.{AgreesIn, IsInput}
use Rattle.round_meaning.specs.Rounds.{algorithm_of}
use Rattle.round_meaning.specs.Turn.{decision}
use Rattle.round_meaning.specs.declared.setup.Setup.{Setup}
use Rattle.omission_explainer.specs.InRounds.{IsOfRounds}
use Rattle.omission_explainer.specs.Rows.{ClosedRound}
use Rattle.omission_explainer.specs.declared.summary.Decided.{Decided}
use Rattle.omission_explainer.specs.declared.summary.Decided.TheVariants as d

-- a row has the decision v
abbrev pub IsDecided : List ClosedRound → ℕ → Type 0
IsDecided [] v = ⊥
IsDecided (row ∷ rows) v = (row.decision ≡ Some v) ⊎ IsDecided rows v

-- no row has a decision, or all decisions are one value, or two of them differ
abbrev pub IsSummary : List ClosedRound → Decided → Type 0
IsSummary rows d.None = (v : ℕ) → IsDecided rows v → ⊥
IsSummary rows (d.One v) = IsDecided rows v × ((u : ℕ) → IsDecided rows u → u ≡ v)
IsSummary rows d.Split = (v : ℕ) × (u : ℕ) × IsDecided rows v × IsDecided rows u × (v ≢ u)

-- what one more decision makes of the summary so far
abbrev pub with_decision : Decided → Option ℕ → Decided
with_decision all None = all
with_decision d.None (Some v) = d.One v
with_decision (d.One u) (Some v) = if v == u then d.One u else d.Split
with_decision d.Split (Some v) = d.Split

-- what all rows come to, one after another
abbrev pub summary_of : List ClosedRound → Decided
summary_of rows = fold (λ all (row : ClosedRound). with_decision all row.decision) d.None rows

-- the row's state is its node's after its round, in the run in rounds, and its decision is the
-- state's
abbrev pub IsOfRun : ProgramTree → Setup → (omits : ℕ → ℕ → ℕ → Bool) → ClosedRound → Type 0
IsOfRun p s omits row =
    (row.node < s.nodes) × IsOfRounds (algorithm_of p s) omits row
    × (row.decision ≡ decision p row.state)

abbrev pub AreOfRun : ProgramTree → Setup → (omits : ℕ → ℕ → ℕ → Bool) → List ClosedRound → Type 0
AreOfRun p s omits rows = All (IsOfRun p s omits) rows

-- all decisions are equal
abbrev pub AreAgreed : List ClosedRound → Type 0
AreAgreed rows = (v u : ℕ) → IsDecided rows v → IsDecided rows u → v ≡ u

-- each decision is some node's input
abbrev pub AreInputs : Setup → List ClosedRound → Type 0
AreInputs s rows = (v : ℕ) → IsDecided rows v → IsInput s v

-- the summary of rows of a run whose decisions agree isn't Split
abbrev pub IsNeverSplit : List ClosedRound → Decided → Type 0
IsNeverSplit rows all =
    (p : ProgramTree) (s : Setup) (omits : ℕ → ℕ → ℕ → Bool) → AgreesIn p s omits
    → AreOfRun p s omits rows → all ≢ d.Split

-- `-`, the decision, or `split`
abbrev pub decided_text : Decided → List ℕ
decided_text d.None = codes "-"
decided_text (d.One v) = decimal v
decided_text d.Split = codes "split"

-- the line of it, if one is asked for
abbrev pub decided_line : Bool → Decided → List ℕ
decided_line told all = if told then codes "decided " ++ decided_text all ++ codes "\n" else []
