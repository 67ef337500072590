-- What is proved of early-deciding flooding, for all setups.
use Rattle.std.proofs.Common.{ℕ, ◌+◌, ◌≤◌, List, arith}
use Rattle.std.specs.Prelude.{⊤, not}
use Rattle.std.specs.List.{count_by}
use Rattle.round_meaning.specs.declared.setup.Setup.{Setup}
use Rattle.round_meaning.proofs.Hearing.{count, count_more}
use Rattle.round_explorer.specs.declared.property.Property.TheVariants.{Safety}
use Rattle.round_explorer.specs.declared.question.Failure.{Failure}
use Rattle.round_explorer.specs.declared.question.Question.{Question}
use Rattle.round_explorer.specs.Answers.{in_rounds, run_of, with_inputs}
use Rattle.round_explorer.specs.Questions.{IsPattern, Messages, failure_of, is_faulty}
use Rattle.round_proofs.specs.Asking.{AsksCrashes}
use Rattle.round_proofs.specs.Explored.{Counted, EachRun, HoldsForAll, IsRun}
use Rattle.round_proofs.specs.Safety.{IsKept, IsSafe}
use Rattle.round_proofs.specs.Terminating.{DecidesBy, lives}
use Rattle.round_proofs.proofs.ClearRounds.{faulty_count}
use Rattle.round_proofs.proofs.Counting.{count_rest}
use Rattle.round_proofs.proofs.CrashRuns.{alive, counted_lives, crash_run, faulty_if_dead}
use Rattle.round_proofs.proofs.Deciding.{decides_by, run_terminates}
use Rattle.round_proofs.proofs.Explored.{asked_run, holds_for_all, sized_in}
use Rattle.shelf_proofs.specs.Bounds.{flooding_bound}
use Rattle.shelf_proofs.specs.Early.{DecidesEarly}
use Rattle.shelf_proofs.specs.EarlyFlooding.{early_flooding_tree}
use Rattle.shelf_proofs.proofs.EarlyFloodingInvariant.{Inv, Locked}
use Rattle.shelf_proofs.proofs.EarlyFloodingSafe.{Reached, early_flooding_decides}
use Rattle.shelf_proofs.proofs.EarlyFloodingSafe.{early_flooding_is_early, early_flooding_kept}
use Rattle.shelf_proofs.proofs.EarlyFloodingSafe.{early_flooding_safe}
use Rattle.shelf_proofs.proofs.EarlyFloodingSteps.{decided, letter, machine, shows, spells, state}

-- a run in which nodes crash is safe, and keeps its decisions
run_is_safe : (k : ℕ) → k ≤ 64 → (s : Setup) (question : Question) (pattern : List Failure)
    (omits : Messages) → IsRun k AsksCrashes s question pattern omits
    → IsSafe (machine k s.nodes s.faults) s 1 omits s.rounds (Counted s pattern) decided
    (Inv s (alive pattern)) (Locked s (alive pattern))
    × IsKept (machine k s.nodes s.faults) s 1 omits s.rounds (Counted s pattern) decided
    (Inv s (alive pattern))
run_is_safe k small s question pattern omits run = (
  early_flooding_safe k s (alive pattern) s.rounds omits (Counted s pattern)
      (counted_lives s pattern)
      (record { small = small; fit = run.fit; faults = run.few_faults })
      (crash_run question s pattern omits run.asks run.fails run.table),
  early_flooding_kept k s (alive pattern) s.rounds omits (Counted s pattern)
      (counted_lives s pattern)
      (record { small = small; fit = run.fit; faults = run.few_faults })
      (crash_run question s pattern omits run.asks run.fails run.table),
)

pub is_safe : (k : ℕ) → k ≤ 64 → HoldsForAll (early_flooding_tree k) AsksCrashes Safety
is_safe k small =
    holds_for_all (early_flooding_tree k) AsksCrashes (machine k) state letter decided
    (λ s pattern. Inv s (alive pattern)) (λ s pattern. Locked s (alive pattern)) (spells k)
    (shows k) (λ s question pattern omits run. run_is_safe k small s question pattern omits run)

pub decides : (k : ℕ) → k ≤ 64 → DecidesBy (early_flooding_tree k) AsksCrashes flooding_bound
decides k small =
    decides_by (early_flooding_tree k) AsksCrashes flooding_bound (machine k) state letter decided
    (λ s pattern. Inv s (alive pattern)) (λ s pattern. Locked s (alive pattern))
    (λ s pattern from q w. ⊤) (spells k) (shows k)
    (λ s question pattern omits run.
    let both = run_is_safe k small s question pattern omits run in (both.0.agreed, both.1))
    (λ s question pattern omits clear h. (
      record { from = 0; many = s.faults + 1; past = omega (arith, h.enough) },
      early_flooding_decides k s (alive pattern) omits (lives pattern),
    ))

-- all nodes but those that fail are alive
few_dead : (question : Question) (s : Setup) (pattern : List Failure)
    → IsPattern question s pattern → (r : ℕ)
    → s.nodes ≤ count (alive pattern r) 0 s.nodes + count_by is_faulty pattern
few_dead question s pattern is r =
    let rest = count_rest (alive pattern r) 0 s.nodes in
    let more = count_more (λ j. not (alive pattern r j)) (λ j. is_faulty (failure_of pattern j)) 0
    s.nodes (λ j lo hi h. faulty_if_dead (failure_of pattern j) r h) in
    let faulty = faulty_count question s pattern is in
    omega arith

run_is_early : (k : ℕ) (s : Setup) (question : Question) (inputs : List ℕ)
    (pattern : List Failure) (omits : Messages) → k ≤ 64
    → IsRun k AsksCrashes (with_inputs s inputs) question pattern omits
    → DecidesEarly (run_of (early_flooding_tree k) s inputs pattern omits) s.rounds
run_is_early k s question inputs pattern omits small run past =
    let z = with_inputs s inputs in
    let both = run_is_safe k small z question pattern omits run in
    let f : ℕ = count_by is_faulty pattern in
    run_terminates (early_flooding_tree k) s (machine k s.nodes s.faults) state letter decided
    (Inv z (alive pattern)) (Locked z (alive pattern)) inputs pattern omits
    (record { from = 0; many = f + 2; past = omega arith }) (Reached z f)
    (spells k s.nodes s.faults) (shows k) both.0.agreed both.1
    (early_flooding_is_early k z (alive pattern) omits (lives pattern) f
    (few_dead question z pattern run.fails))

pub is_early : (k : ℕ) → k ≤ 64 → EachRun (early_flooding_tree k) AsksCrashes DecidesEarly
is_early k small s question sized asks rounds inputs pattern omits asked =
    run_is_early k (in_rounds s rounds) question inputs pattern omits small
    (asked_run (early_flooding_tree k) AsksCrashes (in_rounds s rounds) question inputs pattern
    omits (sized_in s rounds sized) asks asked)
