-- What is proved of OneThirdRule, for all setups.
use Rattle.std.proofs.Common.{◌≡◌, ℕ, zero, suc, ◌+◌, ◌<◌, ◌≤◌, List, sym, ◌∙◌, arith}
use Rattle.std.specs.Prelude.{not}
use Rattle.round_meaning.specs.declared.setup.Setup.{Setup}
use Rattle.round_explorer.specs.declared.property.Property.TheVariants.{Safety}
use Rattle.round_explorer.specs.declared.question.Failure.{Failure}
use Rattle.round_explorer.specs.declared.question.Question.{Question}
use Rattle.round_explorer.specs.Questions.{Messages, failure_of}
use Rattle.round_explorer.specs.Searched.{is_counted}
use Rattle.round_proofs.specs.Asking.{AsksAnything}
use Rattle.round_proofs.specs.Explored.{Counted, HoldsForAll}
use Rattle.round_proofs.specs.Predicates.{Any}
use Rattle.round_proofs.specs.Progress.{IsProgress}
use Rattle.round_proofs.specs.Safety.{AgreesUnder, ValidUnder}
use Rattle.round_proofs.specs.Terminating.{AsksFewCrashes, DecidesBy, lives}
use Rattle.round_proofs.proofs.CrashRounds.{IsCalm, calm_misses, calm_round}
use Rattle.round_proofs.proofs.Deciding.{IsClearRun, Window, decides_by}
use Rattle.round_proofs.proofs.Explored.{holds_for_all}
use Rattle.round_proofs.proofs.Safe.{agrees_under, valid_under}
use Rattle.shelf_proofs.specs.Bounds.{calm_bound}
use Rattle.shelf_proofs.specs.OneThirdRule.{one_third_rule_tree}
use Rattle.shelf_proofs.proofs.OneThirdDecides.{Reached, most_live, one_third_decides}
use Rattle.shelf_proofs.proofs.OneThirdSafe.{Inv, Locked, one_third_kept, one_third_safe}
use Rattle.shelf_proofs.proofs.OneThirdSteps.{decided, letter, machine, shows, spells, state}

pub agrees : (k : ℕ) → k ≤ 64 → AgreesUnder Any (one_third_rule_tree k)
agrees k small =
    agrees_under (one_third_rule_tree k) Any (λ n t. machine k n) state letter decided (Inv k)
    (λ s. Locked s.nodes) (spells k) (shows k)
    (λ s omits last fit any. one_third_safe k s omits last (λ i r. i < s.nodes) (λ i r c. c) small
    fit)

pub is_valid : (k : ℕ) → k ≤ 64 → ValidUnder Any (one_third_rule_tree k)
is_valid k small =
    valid_under (one_third_rule_tree k) Any (λ n t. machine k n) state letter decided (Inv k)
    (λ s. Locked s.nodes) (spells k) (shows k)
    (λ s omits last fit any. one_third_safe k s omits last (λ i r. i < s.nodes) (λ i r c. c) small
    fit)

pub is_safe : (k : ℕ) → k ≤ 64 → HoldsForAll (one_third_rule_tree k) AsksAnything Safety
is_safe k small =
    holds_for_all (one_third_rule_tree k) AsksAnything (λ n t. machine k n) state letter decided
    (λ s pattern. Inv k s) (λ s pattern. Locked s.nodes) (spells k) (shows k)
    (λ s question pattern omits run. (
      one_third_safe k s omits s.rounds (Counted s pattern) (λ i r c. c.0) small run.fit,
      one_third_kept k s omits s.rounds (Counted s pattern) (λ i r c. c.0) small run.fit,
    ))

-- a calm round and the next: in the one all nodes hear the same, and in the other they decide
window : (k : ℕ) → k ≤ 64 → (s : Setup) (question : Question) (pattern : List Failure)
    (omits : Messages) (clear : ℕ)
    → IsClearRun k AsksFewCrashes calm_bound s question pattern omits clear
    → (win : Window s.rounds)
    × IsProgress (machine k s.nodes) s 1 omits win.from win.many (lives pattern) decided (Inv k s)
    (Reached s.nodes (lives pattern))
window k small s question pattern omits clear h = go
    (calm_round question s pattern clear h.run.fails)
  where
    go : (r : ℕ) × (clear ≤ r) × (r ≤ clear + s.faults) × IsCalm pattern s.nodes r
        → (win : Window s.rounds)
        × IsProgress (machine k s.nodes) s 1 omits win.from win.many (lives pattern) decided
        (Inv k s) (Reached s.nodes (lives pattern))
    go (zero, le, past, calm) = absurd (omega (arith, h.some))
    go (suc from, le, past, calm) = (
      record { from = from; many = 2; past = omega (arith, h.enough) },
      one_third_decides k s omits from (lives pattern) small h.run.fit (record {
        alike = λ i p j hi hp hj li lp. miss i j hi hj ∙ sym (miss p j hp hj);
        most = most_live s (lives pattern) omits clear s.rounds h.hears h.run.asks.0;
        heard = λ i j hi hj li lj.
            h.hears.heard i (suc from) j hi hj le (omega (arith, h.enough)) li lj;
        again = λ i j hi hj li lj. h.hears.heard i (suc (suc from)) j hi hj (omega arith)
            (omega (arith, h.enough)) li lj;
      }),
    )
      where
        miss : (i j : ℕ) → i < s.nodes → j < s.nodes
            → omits i (suc from) j ≡ not (is_counted (failure_of pattern j) (suc from))
        miss = calm_misses question s pattern omits clear (suc from) h.has_clear h.run.asks.1
            h.run.fails h.run.table le (omega arith) (omega (arith, h.enough)) calm

pub decides : (k : ℕ) → k ≤ 64 → DecidesBy (one_third_rule_tree k) AsksFewCrashes calm_bound
decides k small =
    decides_by (one_third_rule_tree k) AsksFewCrashes calm_bound (λ n t. machine k n) state letter
    decided (λ s pattern. Inv k s) (λ s pattern. Locked s.nodes)
    (λ s pattern from. Reached s.nodes (lives pattern)) (spells k) (shows k)
    (λ s question pattern omits run. (
      (one_third_safe k s omits s.rounds (Counted s pattern) (λ i r c. c.0) small run.fit).agreed,
      one_third_kept k s omits s.rounds (Counted s pattern) (λ i r c. c.0) small run.fit,
    ))
    (window k small)
