-- What is proved of the rotating coordinator, for all setups.
use Rattle.std.proofs.Common.{◌≡◌, ℕ, ◌+◌, ◌*◌, ◌/◌, ◌%◌, ◌<◌, ◌≤◌, Bool}
use Rattle.std.proofs.Common.{subst, arith}
use Rattle.round_meaning.specs.declared.setup.Setup.{Setup}
use Rattle.round_explorer.specs.declared.property.Property.TheVariants.{Safety}
use Rattle.round_proofs.specs.Asking.{AsksAnything}
use Rattle.round_proofs.specs.Explored.{Counted, HoldsForAll}
use Rattle.round_proofs.specs.Predicates.{Any}
use Rattle.round_proofs.specs.Progress.{HearsLiving, IsProgress}
use Rattle.round_proofs.specs.Safety.{AgreesUnder, IsFit, ValidUnder}
use Rattle.round_proofs.specs.Terminating.{AsksFewFaults, DecidesBy, IsMinority, LivingDecide}
use Rattle.round_proofs.proofs.Deciding.{Window, asked_decide, machine_decides}
use Rattle.round_proofs.proofs.Explored.{holds_for_all}
use Rattle.round_proofs.proofs.Safe.{agrees_under, valid_under}
use Rattle.shelf_proofs.specs.Bounds.{phases_bound}
use Rattle.shelf_proofs.specs.RotatingCoordinator.{rotating_coordinator_tree}
use Rattle.shelf_proofs.proofs.LastVotingDecides.{ClearPhase, clear_phase}
use Rattle.shelf_proofs.proofs.LastVotingInvariant.{Locked}
use Rattle.shelf_proofs.proofs.RotatingCoordinatorDecides.{Reached, rotating_coordinator_decides}
use Rattle.shelf_proofs.proofs.RotatingCoordinatorSafe.{Inv, rotating_coordinator_kept}
use Rattle.shelf_proofs.proofs.RotatingCoordinatorSafe.{rotating_coordinator_safe}
use Rattle.shelf_proofs.proofs.LastVotingSteps.{decided}
use Rattle.shelf_proofs.proofs.RotatingCoordinatorSteps.{letter, machine, shows, spells, state}

pub agrees : (k : ℕ) → k ≤ 64 → AgreesUnder Any (rotating_coordinator_tree k)
agrees k small =
    agrees_under (rotating_coordinator_tree k) Any (machine k) state letter decided (Inv k)
    (λ s r. Locked s 0) (spells k) (shows k)
    (λ s omits last fit any. rotating_coordinator_safe k s omits last (λ i r. i < s.nodes)
    (λ i r c. c)
    (record { small = small; fit = fit }))

pub is_valid : (k : ℕ) → k ≤ 64 → ValidUnder Any (rotating_coordinator_tree k)
is_valid k small =
    valid_under (rotating_coordinator_tree k) Any (machine k) state letter decided (Inv k)
    (λ s r. Locked s 0) (spells k) (shows k)
    (λ s omits last fit any. rotating_coordinator_safe k s omits last (λ i r. i < s.nodes)
    (λ i r c. c)
    (record { small = small; fit = fit }))

pub is_safe : (k : ℕ) → k ≤ 64 → HoldsForAll (rotating_coordinator_tree k) AsksAnything Safety
is_safe k small =
    holds_for_all (rotating_coordinator_tree k) AsksAnything (machine k) state letter decided
    (λ s pattern. Inv k s) (λ s pattern r. Locked s 0) (spells k) (shows k)
    (λ s question pattern omits run. (
      rotating_coordinator_safe k s omits s.rounds (Counted s pattern) (λ i r c. c.0)
          (record { small = small; fit = run.fit }),
      rotating_coordinator_kept k s omits s.rounds (Counted s pattern) (λ i r c. c.0)
          (record { small = small; fit = run.fit }),
    ))

-- a phase of clear rounds whose coordinator doesn't fail
window : (k : ℕ) → k ≤ 64 → (s : Setup) (omits : ℕ → ℕ → ℕ → Bool) (living : ℕ → Bool)
    (clear end : ℕ) → IsFit k s → IsMinority s.nodes s.faults → HearsLiving s living omits clear end
    → 1 ≤ clear → phases_bound s.nodes s.faults clear ≤ end
    → (win : Window end)
    × IsProgress (machine k s.nodes s.faults) s 4 omits win.from win.many living
    decided (Inv k s)
    (Reached s living (win.from / 4 + 1) (win.from / 4 % s.nodes))
window k small s omits living clear end fit few hears begun enough = (
  record { from = 4 * it.before; many = 4; past = it.past },
  subst (λ p. IsProgress (machine k s.nodes s.faults) s 4 omits (4 * it.before) 4 living
      decided (Inv k s) (Reached s living (p + 1) (p % s.nodes)))
      (let e : it.before ≡ 4 * it.before / 4 = omega arith in e)
      (rotating_coordinator_decides k s omits it.before (it.before % s.nodes) living
      (record { small = small; fit = fit }) it.leads it.clear),
)
  where
    it : ClearPhase s omits living end
    it = clear_phase s omits living clear end fit.some_node few hears begun enough

pub living_decide : (k : ℕ) → k ≤ 64 → LivingDecide
    (rotating_coordinator_tree k) IsMinority phases_bound
living_decide k small s clear fit few begun omits living end hears enough =
    let win = window k small s omits living clear end fit few hears begun enough in
    machine_decides (rotating_coordinator_tree k) s (machine k s.nodes s.faults) state
    letter decided (Inv k s) (λ r. Locked s 0) omits end
    living win.0 (Reached s living (win.0.from / 4 + 1) (win.0.from / 4 % s.nodes))
    (spells k s.nodes s.faults) (shows k)
    (rotating_coordinator_safe k s omits end (λ i r. i < s.nodes) (λ i r c. c)
    (record { small = small; fit = fit })).agreed
    (rotating_coordinator_kept k s omits end (λ i r. i < s.nodes) (λ i r c. c)
    (record { small = small; fit = fit })) win.1

pub decides : (k : ℕ) → k ≤ 64 → DecidesBy (rotating_coordinator_tree k) AsksFewFaults phases_bound
decides k small =
    asked_decide (rotating_coordinator_tree k) IsMinority phases_bound (living_decide k small)
