-- What is proved of Algorithm 1, for all setups.
use Rattle.std.proofs.Common.{◌≡◌, ℕ, ◌+◌, ◌-◌, ◌<◌, ◌≤◌, List, Some, sym, ap, ◌∙◌}
use Rattle.std.proofs.Common.{subst, arith}
use Rattle.std.specs.Prelude.{slice_index}
use Rattle.std.proofs.lemmas.List.Elements.{All-get_or}
use Rattle.round_lang.specs.Values.{set}
use Rattle.round_meaning.specs.declared.setup.Setup.{Setup}
use Rattle.round_meaning.specs.Algorithm1.{dls1}
use Rattle.round_meaning.proofs.Hearing.{count, count-is}
use Rattle.round_meaning.proofs.LockInvariant.{Has, below_values}
use Rattle.round_meaning.proofs.PhaseProgram.{decides_run}
use Rattle.round_meaning.proofs.PhaseRuns.{agreement, stays_long, validity}
use Rattle.round_meaning.proofs.PhaseSteps.{Setting, Suits, node_decision, run}
use Rattle.round_meaning.proofs.SetReading.{decided_in}
use Rattle.round_explorer.specs.declared.property.Property.TheVariants.{Safety}
use Rattle.round_explorer.specs.declared.question.Failure.{Failure}
use Rattle.round_explorer.specs.declared.question.Question.{Question}
use Rattle.round_explorer.specs.Answers.{in_rounds, run_of, with_inputs}
use Rattle.round_explorer.specs.Properties.{Agrees, Decides, HoldsUpTo, IsFinal, IsValid}
use Rattle.round_explorer.specs.Questions.{Messages}
use Rattle.round_proofs.specs.Explored.{HoldsForAll, IsRun}
use Rattle.round_proofs.specs.Safety.{IsFit}
use Rattle.round_proofs.specs.Terminating.{AsksFewFaults, DecidesBy, IsMinority, LivingDecide}
use Rattle.round_proofs.proofs.Deciding.{asked_decide}
use Rattle.round_proofs.proofs.Explored.{asked_run, sized_in}
use Rattle.round_proofs.proofs.SetSizes.{some_first}
use Rattle.shelf_proofs.specs.Bounds.{AsksFewOfSome, IsMinorityOfSome, owners_bound}
use Rattle.shelf_proofs.proofs.Algorithm1Decides.{Clear, living_decide}

abbrev setting : ℕ → Setup → Setting
setting k s = record { values = k; nodes = s.nodes; faults = s.faults }

pub suits : (k : ℕ) (s : Setup) → k ≤ 64 → IsFit k s → IsMinority s.nodes s.faults
    → Suits (setting k s) (slice_index s.inputs)
suits k s small fit few = record {
  values = small;
  nodes = omega (arith, fit.few_nodes);
  faults = omega arith;
  inputs_in = λ i l. All-get_or (λ x. x < k) s.inputs i 0 (omega (arith, fit.inputs)) fit.below;
}

-- it keeps agreement, validity and finality in each run that is asked about
run_is_safe : (k : ℕ) (s : Setup) (question : Question) (inputs : List ℕ) (pattern : List Failure)
    (omits : Messages) (last : ℕ) → k ≤ 64
    → IsRun k AsksFewFaults (with_inputs s inputs) question pattern omits
    → HoldsUpTo Safety (run_of (dls1 k) s inputs pattern omits) last
run_is_safe k s question inputs pattern omits last small is = (agrees, valid, final)
  where
    z : Setup
    z = with_inputs s inputs

    ok : Suits (setting k z) (slice_index z.inputs)
    ok = suits k z small is.fit is.asks

    step : (i r v : ℕ) → Decides (run_of (dls1 k) s inputs pattern omits) last i r v
        → node_decision (run (setting k z) (slice_index z.inputs) omits r i) ≡ Some v
    step i r v d = sym (decides_run (setting k z) (slice_index z.inputs) omits r i) ∙ d.decides

    agrees : Agrees (run_of (dls1 k) s inputs pattern omits) last
    agrees i j r q v u a b =
        agreement (setting k z) (slice_index z.inputs) omits ok i j r q v u a.known b.known
        (step i r v a) (step j q u b)

    valid : IsValid (run_of (dls1 k) s inputs pattern omits) last
    valid i r v a =
        validity (setting k z) (slice_index z.inputs) omits ok i r v a.known (step i r v a)

    final : IsFinal (run_of (dls1 k) s inputs pattern omits) last
    final i q r v a le past c =
        let below = below_values (setting k z) (slice_index z.inputs) ok v (valid i q v a) in
        let later = stays_long (setting k z) (slice_index z.inputs) omits i v q (r - q)
        (omega arith) (decided_in (set (run (setting k z) (slice_index z.inputs) omits q i).done) v
        (step i q v a))
        in
        let e : q + (r - q) ≡ r = omega arith in
        let now = subst
        (λ n. Has (run (setting k z) (slice_index z.inputs) omits n i).done v) e later in
        let it = some_first (set (run (setting k z) (slice_index z.inputs) omits r i).done) v
        (omega arith) now in
        let same = agreement (setting k z) (slice_index z.inputs) omits ok i i r q it.0 v a.known
        a.known it.1 (step i q v a) in
        decides_run (setting k z) (slice_index z.inputs) omits r i ∙ it.1 ∙ ap Some same

pub is_safe : (k : ℕ) → k ≤ 64 → HoldsForAll (dls1 k) AsksFewFaults Safety
is_safe k small s question sized asks rounds inputs pattern omits asked =
    run_is_safe k (in_rounds s rounds) question inputs pattern omits rounds small
    (asked_run (dls1 k) AsksFewFaults (in_rounds s rounds) question inputs pattern omits
    (sized_in s rounds sized) asks asked)

pub living_decides : (k : ℕ) → k ≤ 64 → LivingDecide (dls1 k) IsMinorityOfSome owners_bound
living_decides k small s clear fit few begun omits living last hears past i hi live =
    (it.0, decides_run (setting k s) (slice_index s.inputs) omits last i ∙ it.1)
  where
    many : s.nodes ≤ count living 0 s.nodes + s.faults
    many =
        let e = count-is living 0 s.nodes in
        let l = hears.many in
        omega arith

    ok : Clear (setting k s) (slice_index s.inputs) omits living clear last
    ok = record {
      suits = suits k s small fit few.0;
      heard = hears.heard;
      many = many;
    }

    it : (v : ℕ) × (node_decision (run (setting k s) (slice_index s.inputs) omits last i) ≡ Some v)
    it = living_decide (setting k s) (slice_index s.inputs) omits living clear last ok few.1
        (omega (arith, fit.few_nodes)) begun past i hi live

pub decides : (k : ℕ) → k ≤ 64 → DecidesBy (dls1 k) AsksFewOfSome owners_bound
decides k small = asked_decide (dls1 k) IsMinorityOfSome owners_bound (living_decides k small)
