-- What is asked of n nodes and t faults.
use Rattle.std.specs.Prelude.{◌≡◌, ℕ, ◌*◌, ◌<◌, ⊤, Some}
use Rattle.round_explorer.specs.declared.question.FaultKind.TheVariants.{Crash}
use Rattle.round_explorer.specs.declared.question.Question.{Question}

-- anything: any failures, and any omissions
abbrev pub AsksAnything : ℕ → ℕ → Question → Type 0
AsksAnything n t question = ⊤

-- each node hears more than half of the nodes in each round: --hears H with 2H > N
abbrev pub AsksMajority : ℕ → ℕ → Question → Type 0
AsksMajority n t question = n < 2 * question.hears

-- up to t nodes crash, and no other message is lost: --faults crash --clear 1
abbrev pub AsksCrashes : ℕ → ℕ → Question → Type 0
AsksCrashes n t question = (question.faults ≡ Crash) × (question.clear ≡ Some 1)
