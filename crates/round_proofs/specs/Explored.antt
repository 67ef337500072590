-- What exploring would answer if it could try every setup.
use Rattle.std.specs.Prelude.{ℕ, ◌<◌, ◌≤◌, List}
use Rattle.run_events.specs.Limits.{max_nodes}
use Rattle.round_lang.specs.Syntax.{ProgramTree}
use Rattle.round_meaning.specs.declared.setup.Setup.{Setup}
use Rattle.round_meaning.specs.Setups.{max_faults}
use Rattle.round_explorer.specs.declared.property.Property.{Property}
use Rattle.round_explorer.specs.declared.question.Failure.{Failure}
use Rattle.round_explorer.specs.declared.question.AskedInputs.TheVariants as asked
use Rattle.round_explorer.specs.declared.question.Question.{Question}
use Rattle.round_explorer.specs.Answers.{AllHoldInAllRounds, IsAsked, in_rounds, run_of}
use Rattle.round_explorer.specs.Properties.{Counts, Run}
use Rattle.round_explorer.specs.Questions.{IsPattern, IsTable, Messages, failure_of}
use Rattle.round_proofs.specs.Safety.{IsFit}

-- the nodes and faults are within the product's limits
pub record IsSized (s : Setup) : Type 0 where
  pub some_node : 0 < s.nodes
  pub few_nodes : s.nodes ≤ max_nodes
  pub few_faults : s.faults ≤ max_faults

-- `Asks n t question` says what is asked of n nodes and t faults. For all nodes and faults, all
-- inputs and any number of rounds, the property holds of every run that such a question asks about:
-- what exploring answers as `yes in all rounds` for one header, for all of them
abbrev pub HoldsForAll : ProgramTree → (ℕ → ℕ → Question → Type 0) → Property → Type 0
HoldsForAll p Asks property =
    (s : Setup) (question : Question) → IsSized s → Asks s.nodes s.faults question
    → AllHoldInAllRounds p s question asked.Any property

-- the same of what exploring has no word for: `Good run k` says something of a run up to round k
abbrev pub EachRun : ProgramTree → (ℕ → ℕ → Question → Type 0) → (Good : Run → ℕ → Type 0) → Type 0
EachRun p Asks Good =
    (s : Setup) (question : Question) → IsSized s → Asks s.nodes s.faults question → (rounds : ℕ)
    (inputs : List ℕ) (pattern : List Failure) (omits : Messages)
    → IsAsked p (in_rounds s rounds) question asked.Any inputs pattern omits
    → Good (run_of p (in_rounds s rounds) inputs pattern omits) rounds

-- a run that is asked about: its setup with its inputs and rounds, how its nodes fail, and what is
-- omitted
pub record IsRun (values : ℕ) (Asks : ℕ → ℕ → Question → Type 0) (s : Setup) (question : Question)
    (pattern : List Failure) (omits : Messages) : Type 0 where
  pub fit : IsFit values s
  pub few_faults : s.faults ≤ max_faults
  pub asks : Asks s.nodes s.faults question
  pub fails : IsPattern question s pattern
  pub table : IsTable question s.nodes pattern s.rounds omits

-- the states that count in a run
abbrev pub Counted : Setup → List Failure → ℕ → ℕ → Type 0
Counted s pattern i r = (i < s.nodes) × Counts (failure_of pattern i) r
