-- What exploring would answer about termination if it could try every setup.
use Rattle.std.specs.Prelude.{◌≡◌, ◌≢◌, ℕ, ◌*◌, ◌<◌, ◌≤◌, Bool, true, not, List, Some}
use Rattle.round_lang.specs.Syntax.{ProgramTree}
use Rattle.round_meaning.specs.declared.setup.Setup.{Setup}
use Rattle.round_meaning.specs.Agreement.{Decides}
use Rattle.round_explorer.specs.declared.property.Property.TheVariants.{Termination}
use Rattle.round_explorer.specs.declared.question.AskedInputs.TheVariants as asked
use Rattle.round_explorer.specs.declared.question.Failure.{Failure}
use Rattle.round_explorer.specs.declared.question.FaultKind.TheVariants.{Omission}
use Rattle.round_explorer.specs.declared.question.Question.{Question}
use Rattle.round_explorer.specs.Answers.{AllHoldUpTo}
use Rattle.round_explorer.specs.Questions.{failure_of, is_faulty}
use Rattle.round_proofs.specs.Explored.{IsSized}
use Rattle.round_proofs.specs.Progress.{HearsLiving}
use Rattle.round_proofs.specs.Safety.{IsFit}

-- `bound n t C` is the round by which n nodes, of which t may fail, are to have decided if round C
-- is the first clear one. For all nodes and faults, all inputs, any C and any number of rounds from
-- the bound on, each node that doesn't fail has decided after the last round of every run that such
-- a question asks about
abbrev pub DecidesBy : ProgramTree → (ℕ → ℕ → Question → Type 0) → (ℕ → ℕ → ℕ → ℕ) → Type 0
DecidesBy p Asks bound =
    (s : Setup) (question : Question) (clear : ℕ) → IsSized s → Asks s.nodes s.faults question
    → question.clear ≡ Some clear → 1 ≤ clear → bound s.nodes s.faults clear ≤ s.rounds
    → AllHoldUpTo p s question asked.Any Termination s.rounds

-- under every omission table: if the nodes of a set hear each other from round `clear` on, and at
-- most t nodes are outside the set, each node of the set has decided after each round from `round`
-- on
abbrev pub DecideFrom : ProgramTree → Setup → (clear round : ℕ) → Type 0
DecideFrom p s clear round =
    (omits : ℕ → ℕ → ℕ → Bool) (living : ℕ → Bool) (last : ℕ)
    → HearsLiving s living omits clear last → round ≤ last → (i : ℕ) → i < s.nodes
    → living i ≡ true → (v : ℕ) × Decides p s omits last i v

-- that of all setups with few enough faults, from the bound on
abbrev pub LivingDecide : ProgramTree → (Few : ℕ → ℕ → Type 0) → (ℕ → ℕ → ℕ → ℕ) → Type 0
LivingDecide p Few bound =
    (s : Setup) (clear : ℕ) → IsFit p.values s → Few s.nodes s.faults → 1 ≤ clear
    → DecideFrom p s clear (bound s.nodes s.faults clear)

-- t is less than half of n
abbrev pub IsMinority : ℕ → ℕ → Type 0
IsMinority n t = 2 * t < n

-- less than a third of the nodes fail, and by crashes alone: --faults crash or none
abbrev pub AsksFewCrashes : ℕ → ℕ → Question → Type 0
AsksFewCrashes n t question = (3 * t < n) × (question.faults ≢ Omission)

-- nodes fail by crashes alone: --faults crash or none
abbrev pub AsksNoOmissions : ℕ → ℕ → Question → Type 0
AsksNoOmissions n t question = question.faults ≢ Omission

-- less than half of the nodes fail, in any way
abbrev pub AsksFewFaults : ℕ → ℕ → Question → Type 0
AsksFewFaults n t question = IsMinority n t

-- node j doesn't fail
abbrev pub lives : List Failure → ℕ → Bool
lives pattern j = not (is_faulty (failure_of pattern j))
