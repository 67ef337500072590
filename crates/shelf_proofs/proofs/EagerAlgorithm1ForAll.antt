-- What is proved of Algorithm 1 whose nodes send in every fourth round, for all setups.
use Rattle.std.proofs.Common.{ℕ, ◌≤◌}
use Rattle.std.specs.Prelude.{slice_index}
use Rattle.round_meaning.proofs.PhaseProgram.{values_of}
use Rattle.round_meaning.proofs.PhaseSteps.{node_decision}
use Rattle.round_explorer.specs.declared.property.Property.TheVariants.{Safety}
use Rattle.round_proofs.specs.Explored.{Counted, HoldsForAll}
use Rattle.round_proofs.specs.Terminating.{AsksFewFaults, DecidesBy, IsMinority, LivingDecide}
use Rattle.round_proofs.proofs.Deciding.{asked_decide}
use Rattle.round_proofs.proofs.Explored.{holds_for_all}
use Rattle.shelf_proofs.specs.Bounds.{eager_bound}
use Rattle.shelf_proofs.specs.EagerAlgorithm1.{eager_algorithm_1_tree}
use Rattle.shelf_proofs.proofs.Algorithm1ForAll.{suits}
use Rattle.shelf_proofs.proofs.EagerAlgorithm1Decides as deciding
use Rattle.shelf_proofs.proofs.EagerAlgorithm1Safe.{Inv, IsLocked, eager_kept, eager_safe, setting}
use Rattle.shelf_proofs.proofs.EagerAlgorithm1Steps.{letter, machine, shows, spells}

pub is_safe : (k : ℕ) → k ≤ 64 → HoldsForAll (eager_algorithm_1_tree k) AsksFewFaults Safety
is_safe k small =
    holds_for_all (eager_algorithm_1_tree k) AsksFewFaults (machine k) values_of letter
    node_decision (λ s pattern. Inv (setting k s) (slice_index s.inputs))
    (λ s pattern. IsLocked (setting k s) (slice_index s.inputs)) (spells k) (shows k)
    (λ s question pattern omits run. (
      eager_safe k s omits s.rounds (Counted s pattern) (λ i r c. c.0)
          (suits k s small run.fit run.asks),
      eager_kept k s omits s.rounds (Counted s pattern) (λ i r c. c.0)
          (suits k s small run.fit run.asks),
    ))

pub living_decide : (k : ℕ) → k ≤ 64
    → LivingDecide (eager_algorithm_1_tree k) IsMinority eager_bound
living_decide k small s clear fit few begun omits living last hears past i hi live =
    deciding.living_decide k s omits living clear last (record {
      suits = suits k s small fit few;
      some = fit.some_node;
      hears = hears;
    }) begun past i hi live

pub decides : (k : ℕ) → k ≤ 64 → DecidesBy (eager_algorithm_1_tree k) AsksFewFaults eager_bound
decides k small =
    asked_decide (eager_algorithm_1_tree k) IsMinority eager_bound (living_decide k small)
