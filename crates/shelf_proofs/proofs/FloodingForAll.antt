-- What is proved of flooding for t + 1 rounds, for all setups.
use Rattle.std.proofs.Common.{ℕ, ◌≤◌, ◌+◌, arith}
use Rattle.std.specs.Prelude.{⊤}
use Rattle.round_explorer.specs.declared.property.Property.TheVariants.{Safety}
use Rattle.round_proofs.specs.Asking.{AsksCrashes}
use Rattle.round_proofs.specs.Explored.{Counted, HoldsForAll}
use Rattle.round_proofs.specs.Terminating.{DecidesBy, lives}
use Rattle.round_proofs.proofs.CrashRuns.{alive, counted_lives, crash_run}
use Rattle.round_proofs.proofs.Deciding.{decides_by}
use Rattle.round_proofs.proofs.Explored.{holds_for_all}
use Rattle.shelf_proofs.specs.Bounds.{flooding_bound}
use Rattle.shelf_proofs.specs.Flooding.{flooding_tree}
use Rattle.shelf_proofs.proofs.FloodingSafe.{Inv, Locked, flooding_decides, flooding_kept}
use Rattle.shelf_proofs.proofs.FloodingSafe.{flooding_safe}
use Rattle.shelf_proofs.proofs.FloodingSteps.{decided, letter, machine, shows, spells, state}

pub is_safe : (k : ℕ) → k ≤ 64 → HoldsForAll (flooding_tree k) AsksCrashes Safety
is_safe k small =
    holds_for_all (flooding_tree k) AsksCrashes (machine k) state
    letter decided
    (λ s pattern. Inv s (alive pattern))
    (λ s pattern. Locked s (alive pattern)) (spells k)
    (shows k)
    (λ s question pattern omits run. (
      flooding_safe k s (alive pattern) s.rounds omits (Counted s pattern)
          (counted_lives s pattern)
          (record { small = small; fit = run.fit; faults = run.few_faults })
          (crash_run question s pattern omits run.asks run.fails run.table),
      flooding_kept k s (alive pattern) s.rounds omits (Counted s pattern)
          (counted_lives s pattern),
    ))

pub decides : (k : ℕ) → k ≤ 64 → DecidesBy (flooding_tree k) AsksCrashes flooding_bound
decides k small =
    decides_by (flooding_tree k) AsksCrashes flooding_bound (machine k) state letter decided
    (λ s pattern. Inv s (alive pattern)) (λ s pattern. Locked s (alive pattern))
    (λ s pattern from q w. ⊤) (spells k) (shows k)
    (λ s question pattern omits run. (
      (flooding_safe k s (alive pattern) s.rounds omits (Counted s pattern)
          (counted_lives s pattern)
          (record { small = small; fit = run.fit; faults = run.few_faults })
          (crash_run question s pattern omits run.asks run.fails run.table)).agreed,
      flooding_kept k s (alive pattern) s.rounds omits (Counted s pattern)
          (counted_lives s pattern),
    ))
    (λ s question pattern omits clear h. (
      record { from = 0; many = s.faults + 1; past = omega (arith, h.enough) },
      flooding_decides k s (alive pattern) omits (lives pattern),
    ))
