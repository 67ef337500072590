-- What holds of all decisions of a run holds of those in the rows of its report.
use Rattle.std.proofs.Common.{ℕ, List, [], ◌∷◌, All}
use Rattle.std.proofs.lemmas.List.Elements.{All-from_recursion, All-head, All-tail}
use Rattle.std.specs.List.{AllByRecursion}
use Rattle.omission_explainer.specs.Decided.{AreAgreed, AreInputs, AreOfRun, IsOfRun}
use Rattle.omission_explainer.specs.InRounds.{IsOfRounds, printed_omits}
use Rattle.omission_explainer.specs.Reported.{IsReported}
use Rattle.omission_explainer.specs.Rows.{ClosedRound}
use Rattle.omission_explainer.proofs.Summaries.{decided_rows_agree, decided_rows_are_inputs}
use Rattle.round_meaning.specs.Agreement.{AgreesIn, IsValidIn}
use Rattle.round_meaning.specs.Rounds.{algorithm_of}
use Rattle.step_book.specs.Log.{Log}

both : {X : Type 0} (P Q R : X → Type 0) → ((x : X) → P x → Q x → R x) → (xs : List X)
    → All P xs → All Q xs → AllByRecursion R xs
both P Q R f [] a b = tt
both P Q R f (x ∷ xs) a b = (
  f x (All-head P x xs a) (All-head Q x xs b),
  both P Q R f xs (All-tail P x xs a) (All-tail Q x xs b),
)

-- the rows are of the run in rounds under the omissions that they print
of_run : (start : ℕ → ℕ) (v : Log) (rows : List ClosedRound) → All (IsReported start v) rows
    → All (IsOfRounds (algorithm_of v.program v.setup) (printed_omits rows)) rows
    → AreOfRun v.program v.setup (printed_omits rows) rows
of_run start v rows reported in_rounds =
    let omits = printed_omits rows in
    let of = IsOfRun v.program v.setup omits in
    All-from_recursion of rows
    (both (IsReported start v) (IsOfRounds (algorithm_of v.program v.setup) omits) of
    (λ row said round. (said.node, round, said.decided)) rows reported in_rounds)

pub rows_agree : (start : ℕ → ℕ) (v : Log) (rows : List ClosedRound) → All (IsReported start v) rows
    → All (IsOfRounds (algorithm_of v.program v.setup) (printed_omits rows)) rows
    → AgreesIn v.program v.setup (printed_omits rows) → AreAgreed rows
rows_agree start v rows reported in_rounds agrees =
    decided_rows_agree rows v.program v.setup (printed_omits rows) agrees
    (of_run start v rows reported in_rounds)

pub rows_are_inputs : (start : ℕ → ℕ) (v : Log) (rows : List ClosedRound)
    → All (IsReported start v) rows
    → All (IsOfRounds (algorithm_of v.program v.setup) (printed_omits rows)) rows
    → IsValidIn v.program v.setup (printed_omits rows) → AreInputs v.setup rows
rows_are_inputs start v rows reported in_rounds valid =
    decided_rows_are_inputs rows v.program v.setup (printed_omits rows) valid
    (of_run start v rows reported in_rounds)
