-- What is within its limits if a run is made.
use Rattle.std.specs.Prelude.{ℕ, ◌<◌, ◌≤◌, All, List, Option}
use Rattle.adversary.specs.Driving.{IsKnown}
use Rattle.command_words.specs.declared.exploring.Exploring.{Exploring}
use Rattle.exploration_texts.specs.Conditions.{IsConditionFor}
use Rattle.omission_texts.specs.Meaning.{IsKnown as IsKnownLine}
use Rattle.omission_texts.specs.declared.line.OmissionLine.{OmissionLine}
use Rattle.round_lang.specs.Syntax.{ProgramTree}
use Rattle.round_lang.specs.Tree.{Tree}
use Rattle.round_meaning.specs.Setups.{IsLawful}
use Rattle.round_meaning.specs.declared.setup.Setup.{Setup}
use Rattle.slot_plans.specs.Named.{IsPlan}
use Rattle.run_events.specs.declared.plan_kind.PlanKind.{PlanKind}
use Rattle.run_events.specs.declared.event.Event.{Event}

-- the numbers of a run are within their limits, the nodes of LIST are nodes of the run, and each
-- event names what the run has
pub record IsFitRun (p : ProgramTree) (s : Setup) (correct : List ℕ) (events : List Event)
    : Type 0 where
  pub setup : IsLawful p.values s
  pub listed : All (λ n. n < s.nodes) correct
  pub known : All (IsKnown s) events

-- the numbers of a run with omissions are within their limits, and each line names messages of it
pub record IsFitOmitting (p : ProgramTree) (s : Setup) (ls : List OmissionLine) : Type 0 where
  pub setup : IsLawful p.values s
  pub known : All (IsKnownLine s) ls

-- the numbers of a search are within their limits; no node hears more nodes than there are
abbrev pub IsExplorable : ProgramTree → Setup → Exploring → Type 0
IsExplorable p s e = IsLawful p.values s × (e.hears ≤ s.nodes)

-- all runs are gone through: the numbers are within their limits, and EXPR is a condition
pub record IsExplored (p : ProgramTree) (s : Setup) (k : PlanKind) (e : Exploring) : Type 0 where
  pub explorable : IsExplorable p s e
  pub plan : IsPlan k
  pub condition : Option Tree
  pub is_condition : IsConditionFor p e.always condition
