-- How many steps each node takes in a run with failures.
use Rattle.std.specs.Prelude.{◌≡◌, ◌+◌, ◌≤◌, ◌&&◌, ⊤, ℕ, List, length, nat_le}
use Rattle.std.specs.Prelude.{if◌then◌else◌}
use Rattle.exploration_texts.specs.declared.told.Answered.{Answered}
use Rattle.exploration_texts.specs.declared.told.Answered.TheVariants.{Fails, Holds}
use Rattle.exploration_texts.specs.declared.told.Answered.TheVariants.{HoldsInAllRounds, NotFound}
use Rattle.exploration_texts.specs.declared.told.Told.{Told}
use Rattle.round_explorer.specs.Questions.{failure_of}
use Rattle.round_explorer.specs.declared.answer.Counterexample.{Counterexample}
use Rattle.round_explorer.specs.declared.question.Failure.{Failure}
use Rattle.round_explorer.specs.declared.question.Failure.TheVariants.{Crashes, Never, Omits}
use Rattle.round_meaning.specs.declared.setup.Setup.{Setup}

-- how many steps a node with this failure takes, if a round is so many sends, and begins at this
-- step: all of the run; or if it crashes in one of its rounds, those before that round and the
-- sends of it
abbrev pub steps_with : (nodes : ℕ) → (start : ℕ → ℕ) → (rounds : ℕ) → Failure → ℕ
steps_with nodes start rounds Never = start (rounds + 1)
steps_with nodes start rounds Omits = start (rounds + 1)
steps_with nodes start rounds (Crashes c) =
    if nat_le 1 c && nat_le c rounds then start c + nodes else start (rounds + 1)

-- the same of node i, if a pattern has the failures
abbrev pub steps_of : (nodes : ℕ) → (start : ℕ → ℕ) → (rounds : ℕ) → List Failure → ℕ → ℕ
steps_of nodes start rounds pattern i =
    steps_with nodes start rounds (failure_of pattern i)

-- a schedule can show the run: each node has an input, and the failure is in its rounds
pub record IsShowable (s : Setup) (c : Counterexample) : Type 0 where
  pub inputs : length c.inputs ≡ s.nodes
  pub past : c.round ≤ s.rounds

-- the same of what was found of a property, if it fails
abbrev pub CanBeShown : Setup → Answered → Type 0
CanBeShown s Holds = ⊤
CanBeShown s HoldsInAllRounds = ⊤
CanBeShown s (NotFound n) = ⊤
CanBeShown s (Fails c) = IsShowable s c

-- what is told of a property can be shown by a schedule, if it's a failure
abbrev pub IsToldToShow : Setup → Told → Type 0
IsToldToShow s t = CanBeShown s t.answer
