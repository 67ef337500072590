-- What is proved of UniformVoting, for all setups.
use Rattle.std.proofs.Common.{◌≡◌, ℕ, zero, suc, ◌+◌, ◌*◌, ◌%◌, ◌<◌, ◌≤◌, Bool, true, false, List}
use Rattle.std.proofs.Common.{refl, sym, ◌∙◌, arith}
use Rattle.std.specs.Prelude.{not}
use Rattle.std.proofs.lemmas.Bool.{false≢true}
use Rattle.round_meaning.specs.declared.setup.Setup.{Setup}
use Rattle.round_meaning.proofs.Hearing.{count-is}
use Rattle.round_explorer.specs.declared.property.Property.TheVariants.{Safety}
use Rattle.round_explorer.specs.declared.question.Failure.{Failure}
use Rattle.round_explorer.specs.declared.question.Question.{Question}
use Rattle.round_explorer.specs.Questions.{IsTable, Messages, failure_of}
use Rattle.round_explorer.specs.Searched.{is_counted}
use Rattle.round_proofs.specs.Asking.{AsksMajority}
use Rattle.round_proofs.specs.Explored.{Counted, HoldsForAll}
use Rattle.round_proofs.specs.Predicates.{NoSplit}
use Rattle.round_proofs.specs.Progress.{IsProgress}
use Rattle.round_proofs.specs.Terminating.{AsksNoOmissions, DecidesBy, lives}
use Rattle.round_proofs.specs.Safety.{AgreesUnder, ValidUnder}
use Rattle.round_proofs.proofs.Counting.{count_rest, majorities_meet}
use Rattle.round_proofs.proofs.ClearRounds.{living_heard}
use Rattle.round_proofs.proofs.CrashRounds.{IsCalm, calm_misses, calm_round}
use Rattle.round_proofs.proofs.Deciding.{IsClearRun, Window, decides_anyway}
use Rattle.round_proofs.proofs.Explored.{holds_for_all}
use Rattle.round_proofs.proofs.Safe.{agrees_under, valid_under}
use Rattle.shelf_proofs.specs.Bounds.{voting_bound}
use Rattle.shelf_proofs.specs.UniformVoting.{uniform_voting_tree}
use Rattle.shelf_proofs.proofs.UniformVotingDecides.{Reached, uniform_voting_decides}
use Rattle.shelf_proofs.proofs.UniformVotingDecides.{valid_holds, valid_kept}
use Rattle.shelf_proofs.proofs.UniformVotingRounds.{Locked, Valid}
use Rattle.shelf_proofs.proofs.UniformVotingSafe.{Inv, Meets, uniform_voting_kept}
use Rattle.shelf_proofs.proofs.UniformVotingSafe.{uniform_voting_safe}
use Rattle.shelf_proofs.proofs.UniformVotingSteps.{decided, letter, machine, shows, spells, state}

pub agrees : (k : ℕ) → k ≤ 64 → AgreesUnder NoSplit (uniform_voting_tree k)
agrees k small =
    agrees_under (uniform_voting_tree k) NoSplit (machine k) state letter decided Inv Locked
    (spells k)
    (shows k) (λ s omits last fit meets. uniform_voting_safe k s omits last (λ i r. i < s.nodes)
    (λ i r c. c)
    (record { small = small; fit = fit }) (λ r lt. meets (suc r)))

pub is_valid : (k : ℕ) → k ≤ 64 → ValidUnder NoSplit (uniform_voting_tree k)
is_valid k small =
    valid_under (uniform_voting_tree k) NoSplit (machine k) state letter decided Inv Locked
    (spells k)
    (shows k) (λ s omits last fit meets. uniform_voting_safe k s omits last (λ i r. i < s.nodes)
    (λ i r c. c)
    (record { small = small; fit = fit }) (λ r lt. meets (suc r)))

-- where each node hears more than half of the nodes, any two hear a common one
meets : (question : Question) (s : Setup) (pattern : List Failure) (rounds : ℕ)
    (omits : ℕ → ℕ → ℕ → Bool) → s.nodes < 2 * question.hears
    → IsTable question s.nodes pattern rounds omits
    → (r : ℕ) → r < rounds → Meets s (λ i. omits i (suc r))
meets question s pattern rounds omits most is r lt i k hi hk =
    let a = is i (suc r) hi (omega arith) (omega arith) in
    let b = is k (suc r) hk (omega arith) (omega arith) in
    let e = count-is (omits i (suc r)) 0 s.nodes in
    let f = count-is (omits k (suc r)) 0 s.nodes in
    let x = count_rest (omits i (suc r)) 0 s.nodes in
    let y = count_rest (omits k (suc r)) 0 s.nodes in
    let m = majorities_meet (λ j. not (omits i (suc r) j)) (λ j. not (omits k (suc r) j)) s.nodes
    (omega (arith, a.heard)) (omega (arith, b.heard)) in
    (m.0, m.1, off (omits i (suc r) m.0) m.2, off (omits k (suc r) m.0) m.3)
  where
    off : (b : Bool) → not b ≡ true → b ≡ false
    off true e = absurd (false≢true e)
    off false e = refl

pub is_safe : (k : ℕ) → k ≤ 64 → HoldsForAll (uniform_voting_tree k) AsksMajority Safety
is_safe k small =
    holds_for_all (uniform_voting_tree k) AsksMajority (machine k) state letter decided
    (λ s pattern. Inv s) (λ s pattern. Locked s) (spells k) (shows k)
    (λ s question pattern omits run. (
      uniform_voting_safe k s omits s.rounds (Counted s pattern) (λ i r c. c.0)
          (record { small = small; fit = run.fit })
          (meets question s pattern s.rounds omits run.asks run.table),
      uniform_voting_kept k s omits s.rounds (Counted s pattern) (λ i r c. c.0)
          (record { small = small; fit = run.fit }),
    ))

-- a round in which no node crashes, and the rounds up to the end of the next whole phase
window : (k : ℕ) → k ≤ 64 → (s : Setup) (question : Question) (pattern : List Failure)
    (omits : Messages) (clear : ℕ)
    → IsClearRun k AsksNoOmissions voting_bound s question pattern omits clear
    → (win : Window s.rounds)
    × IsProgress (machine k s.nodes s.faults) s 2 omits win.from win.many (lives pattern) decided
    (λ r. Valid s) (Reached s (lives pattern) win.from)
window k small s question pattern omits clear h = go
    (calm_round question s pattern clear h.run.fails)
  where
    go : (r : ℕ) × (clear ≤ r) × (r ≤ clear + s.faults) × IsCalm pattern s.nodes r
        → (win : Window s.rounds)
        × IsProgress (machine k s.nodes s.faults) s 2 omits win.from win.many (lives pattern)
        decided (λ r. Valid s) (Reached s (lives pattern) win.from)
    go (zero, le, past, calm) = absurd (omega (arith, h.some))
    go (suc from, le, past, calm) = (
      record { from = from; many = many; past = within },
      uniform_voting_decides k s omits from many (lives pattern)
          (record { small = small; fit = h.run.fit }) (record {
            alike = λ i p j hi hp hj. miss i j hi hj ∙ sym (miss p j hp hj);
            heard = λ q c lt hc lc i hi.
                living_heard question s pattern omits clear h.has_clear h.some h.run.table i
                (suc (from + q)) c hi hc (omega arith) (omega (arith, within)) lc;
          }) (omega arith) (omega arith),
    )
      where
        many : ℕ
        many = 3 + (from + 3) % 2

        within : from + (3 + (from + 3) % 2) ≤ s.rounds
        within = omega (arith, h.enough)

        miss : (i j : ℕ) → i < s.nodes → j < s.nodes
            → omits i (suc from) j ≡ not (is_counted (failure_of pattern j) (suc from))
        miss = calm_misses question s pattern omits clear (suc from) h.has_clear h.run.asks
            h.run.fails h.run.table le (omega arith) (omega (arith, within)) calm

pub decides : (k : ℕ) → k ≤ 64
    → DecidesBy (uniform_voting_tree k) AsksNoOmissions voting_bound
decides k small =
    decides_anyway (uniform_voting_tree k) AsksNoOmissions voting_bound (machine k) state letter
    decided (λ s pattern r. Valid s) (λ s pattern from. Reached s (lives pattern) from) (spells k)
    (shows k)
    (λ s question pattern omits run. (
      valid_holds k s omits s.rounds (record { small = small; fit = run.fit }),
      valid_kept k s omits s.rounds (Counted s pattern) (λ i r c. c.0)
          (record { small = small; fit = run.fit }),
    ))
    (window k small)
