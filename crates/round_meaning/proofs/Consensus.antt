-- Agreement, validity and the lock invariant, of setups.
use Rattle.std.proofs.Common.{◌≡◌, ◌≢◌, ℕ, suc, ◌+◌, ◌-◌, ◌/◌, ◌<◌, ◌≤◌, Bool, List, Some, sym, ap}
use Rattle.std.proofs.Common.{◌∙◌, subst, arith}
use Rattle.std.specs.Prelude.{nat_le, slice_index}
use Rattle.std.specs.List.{count_by, range_with_len}
use Rattle.std.proofs.lemmas.List.Elements.{All-get_or}
use Rattle.round_lang.specs.declared.value.Value.{Value}
use Rattle.round_lang.specs.Syntax.{ProgramTree}
use Rattle.round_meaning.specs.declared.setup.Setup.{Setup}
use Rattle.round_meaning.specs.Agreement.{Agreement, AgreesIn, Decides, DecisionsAgree, HasMajority}
use Rattle.round_meaning.specs.Agreement.{DecisionsAreInputs, HasDecided, DecidesNext, IsInput}
use Rattle.round_meaning.specs.Agreement.{IsValidIn, Validity, state_after}
use Rattle.round_meaning.specs.Algorithm1.{dls1, lock_in}
use Rattle.round_meaning.specs.Rounds.{algorithm_of}
use Rattle.round_meaning.specs.States.{HasRun, States, state_of}
use Rattle.round_meaning.specs.Turn.{decision, phase_of}
use Rattle.round_meaning.proofs.PhaseProgram.{rounds_run, decides_run}
use Rattle.round_meaning.proofs.PhaseRuns.{agreement, locked_counts, locked_since, validity}
use Rattle.round_meaning.proofs.PhaseSteps.{Setting, Suits, node_decision, run}

abbrev setting : ℕ → Setup → Setting
setting k s = record { values = k; nodes = s.nodes; faults = s.faults }

suits : (k : ℕ) (s : Setup) → HasMajority k s → Suits (setting k s) (slice_index s.inputs)
suits k s h = record {
  values = h.values;
  nodes = omega (arith, h.lawful.sized.few_nodes);
  faults = h.majority;
  inputs_in = λ i l. All-get_or (λ x. x < k) s.inputs i 0
      (omega (arith, h.lawful.sized.inputs)) h.lawful.inputs;
}

-- a decision of the program is one of the steps
stepped : (k : ℕ) (s : Setup) (omits : ℕ → ℕ → ℕ → Bool) (r i v : ℕ) → HasDecided k s omits r i v
    → node_decision (run (setting k s) (slice_index s.inputs) omits r i) ≡ Some v
stepped k s omits r i v h = sym (decides_run (setting k s) (slice_index s.inputs) omits r i) ∙ h

pub decisions_agree : (k : ℕ) (s : Setup) (omits : ℕ → ℕ → ℕ → Bool) → HasMajority k s
    → (i j r q v u : ℕ) → i < s.nodes → j < s.nodes
    → HasDecided k s omits r i v → HasDecided k s omits q j u → v ≡ u
decisions_agree k s omits h i j r q v u hi hj a b =
    agreement (setting k s) (slice_index s.inputs) omits (suits k s h) i j r q v u hi hj
    (stepped k s omits r i v a) (stepped k s omits q j u b)

pub decisions_are_inputs : (k : ℕ) (s : Setup) (omits : ℕ → ℕ → ℕ → Bool) → HasMajority k s
    → (i r v : ℕ) → i < s.nodes
    → HasDecided k s omits r i v → IsInput s v
decisions_are_inputs k s omits h i r v hi a =
    validity (setting k s) (slice_index s.inputs) omits (suits k s h) i r v hi
    (stepped k s omits r i v a)

-- the lock invariant
pub decisions_are_locked : (k : ℕ) (s : Setup) (omits : ℕ → ℕ → ℕ → Bool) → HasMajority k s
    → (i r d v : ℕ) → i < s.nodes → DecidesNext k s omits r i v
    → (s.faults + 1 ≤ count_by
    (λ j. nat_le (phase_of (dls1 k) (suc r)) (lock_in (state_after k s omits (suc r + d) j) v))
    (range_with_len 0 s.nodes))
    × ((j u : ℕ) → j < s.nodes → u < k → u ≢ v
    → lock_in (state_after k s omits (suc r + d) j) u < phase_of (dls1 k) (suc r))
decisions_are_locked k s omits h i r d v hi a =
    let l = locked_since (setting k s) (slice_index s.inputs) omits (suits k s h) i r d v hi
    (sym (decides_run (setting k s) (slice_index s.inputs) omits r i)
    ∙ a.0) (stepped k s omits (suc r) i v a.1) in
    let P : ℕ → (ℕ → List Value)
    → Type 0 = λ h f. (s.faults + 1 ≤ count_by (λ j. nat_le h (lock_in (f j) v))
    (range_with_len 0 s.nodes)) × ((j u : ℕ) → j < s.nodes → u < k → u ≢ v
    → lock_in (f j) u < h) in
    let phase : r / 4 + 1 ≡ phase_of (dls1 k) (suc r) = ap (λ n. n / 4 + 1) (before r) in
    subst (λ h. P h (state_after k s omits (suc r + d))) phase
    (subst (P (r / 4 + 1)) (sym (rounds_run (setting k s) (slice_index s.inputs) omits (suc r + d)))
    (locked_counts (setting k s) (run (setting k s) (slice_index s.inputs) omits (suc r + d)) v
    (r / 4 + 1) l))
  where
    before : (r : ℕ) → r ≡ suc r - 1
    before r = omega arith

pub algorithm_1_agrees : Agreement
algorithm_1_agrees p s omits runs =
    subst (λ q. AgreesIn q s omits) (sym runs.0) (decisions_agree p.values s omits runs.1)

pub algorithm_1_is_valid : Validity
algorithm_1_is_valid p s omits runs =
    subst (λ q. IsValidIn q s omits) (sym runs.0) (decisions_are_inputs p.values s omits runs.1)

-- a decision in a table of the program's states is one of the program
tabled : (p : ProgramTree) (s : Setup) (omits : ℕ → ℕ → ℕ → Bool) (t : States) → t.program ≡ p
    → t.nodes ≡ s.nodes → HasRun t (algorithm_of p s) omits
    → (r i v : ℕ) → i < t.nodes → r ≤ t.rounds → decision t.program (state_of t i r) ≡ Some v
    → Decides p s omits r i v
tabled p s omits t same nodes has r i v hi hr d =
    sym (ap (λ q. decision q (state_of t i r)) same ∙ ap (decision p) (has r i hr hi)) ∙ d

pub table_agrees : (p : ProgramTree) (s : Setup) (omits : ℕ → ℕ → ℕ → Bool) (t : States)
    → t.program ≡ p → t.nodes ≡ s.nodes → HasRun t (algorithm_of p s) omits → AgreesIn p s omits
    → DecisionsAgree t
table_agrees p s omits t same nodes has agrees i j r q v u hi hj hr hq a b =
    agrees i j r q v u (omega arith) (omega arith)
    (tabled p s omits t same nodes has r i v hi hr a)
    (tabled p s omits t same nodes has q j u hj hq b)

pub table_decides_inputs : (p : ProgramTree) (s : Setup) (omits : ℕ → ℕ → ℕ → Bool) (t : States)
    → t.program ≡ p → t.nodes ≡ s.nodes → HasRun t (algorithm_of p s) omits → IsValidIn p s omits
    → DecisionsAreInputs s t
table_decides_inputs p s omits t same nodes has valid i r v hi hr a =
    valid i r v (omega arith) (tabled p s omits t same nodes has r i v hi hr a)
