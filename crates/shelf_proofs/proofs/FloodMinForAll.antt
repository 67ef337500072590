-- What is proved of FloodMin, for all setups.
use Rattle.std.proofs.Common.{◌≡◌, ℕ, zero, suc, ◌+◌, ◌-◌, ◌/◌, ◌%◌, ◌<◌, ◌≤◌, Bool, true}
use Rattle.std.proofs.Common.{List, [], ◌∷◌, refl, sym, ap, ◌∙◌, subst, inl, inr, ◌⊎◌}
use Rattle.std.proofs.Common.{Some, arith}
use Rattle.std.specs.Prelude.{Contains}
use Rattle.std.proofs.lemmas.Bool.{cases_lt}
use Rattle.round_lang.specs.Sets.{is_in, members, only}
use Rattle.round_meaning.specs.declared.setup.Setup.{Setup}
use Rattle.round_meaning.specs.Agreement.{IsInput}
use Rattle.round_meaning.specs.Turn.{first_member}
use Rattle.round_meaning.proofs.SetReading.{decided_in, in_only, none_in}
use Rattle.round_explorer.specs.declared.property.Property.TheVariants.{Final, Validity}
use Rattle.round_explorer.specs.declared.question.Failure.{Failure}
use Rattle.round_explorer.specs.declared.question.Question.{Question}
use Rattle.round_explorer.specs.Answers.{in_rounds, run_of, with_inputs}
use Rattle.round_explorer.specs.Properties.{Decides, IsFinal, IsValid, Terminates, decision_after}
use Rattle.round_explorer.specs.Questions.{Messages}
use Rattle.round_proofs.specs.Asking.{AsksAnything, AsksCrashes}
use Rattle.round_proofs.specs.Explored.{EachRun, HoldsForAll, IsRun}
use Rattle.round_proofs.specs.FewDecisions.{DecidesFew}
use Rattle.round_proofs.specs.Terminating.{DecidesBy}
use Rattle.round_proofs.proofs.CrashRuns.{IsCrash, alive, counted_lives, crash_run}
use Rattle.round_proofs.proofs.Deciding.{some_is}
use Rattle.round_proofs.proofs.Explored.{asked_run, sized_in}
use Rattle.round_proofs.proofs.Safe.{at, spelt}
use Rattle.round_proofs.proofs.SetSizes.{only_itself, some_first}
use Rattle.shelf_proofs.specs.Bounds.{floodmin_bound}
use Rattle.shelf_proofs.specs.FloodMin.{floodmin_tree}
use Rattle.shelf_proofs.proofs.FloodMinSafe.{AtMostTwo, Few, Holds, Inv, Suits, below, few_at_last}
use Rattle.shelf_proofs.proofs.FloodMinSafe.{first, first_few, goes_on, low, low_is, still_few}
use Rattle.shelf_proofs.proofs.FloodMinSafe.{waits}
use Rattle.shelf_proofs.proofs.FloodMinSteps.{Node, decided, letter, machine, shows, spells, state}

abbrev world : ℕ → Setup → (ℕ → ℕ → ℕ → Bool) → ℕ → ℕ → Node
world k s omits r = at (machine k s.nodes s.faults) s 1 omits r

holds : (k : ℕ) (s : Setup) (omits : ℕ → ℕ → ℕ → Bool) → Suits k s → (r : ℕ)
    → Inv k s r (world k s omits r)
holds k s omits ok zero = first k s
holds k s omits ok (suc r) =
    goes_on k s (r % 1) (r / 1 + 1) r (λ i. omits i (suc r)) (world k s omits r) ok
    (holds k s omits ok r)

few : (k : ℕ) (s : Setup) (living : ℕ → ℕ → Bool) (last : ℕ) (omits : ℕ → ℕ → ℕ → Bool)
    → IsCrash s last living omits → (r : ℕ) → r ≤ last → Few k s living r (world k s omits r)
few k s living last omits crash zero le = first_few k s living (world k s omits zero)
few k s living last omits crash (suc r) le =
    still_few k s living last omits (r % 1) (r / 1 + 1) r (world k s omits r) crash (omega arith)
    (few k s living last omits crash r (omega arith))

-- what is chosen stays
same_chosen : (k : ℕ) (s : Setup) (omits : ℕ → ℕ → ℕ → Bool) (i q d : ℕ) → Suits k s
    → s.faults / 2 < q → (world k s omits (q + d) i).chosen ≡ (world k s omits q i).chosen
same_chosen k s omits i q zero ok past =
    let e : q + 0 ≡ q = omega arith in
    ap (λ r. (world k s omits r i).chosen) e
same_chosen k s omits i q (suc d) ok past =
    let e : q + suc d ≡ suc (q + d) = omega arith in
    ap (λ r. (world k s omits r i).chosen) e
    ∙ waits k s (record { position = (q + d) % 1; number = suc (q + d); phase = (q + d) / 1 + 1 })
    (λ i. omits i (suc (q + d))) (world k s omits (q + d)) i ok (λ f. omega arith)
    ∙ same_chosen k s omits i q d ok past

-- a decision is the one member of the set that is chosen
is_chosen : (k x v : ℕ) → first_member (members x) ≡ Some v → (u : ℕ) → x ≡ only k u → v ≡ u
is_chosen k x v d u e =
    (in_only k u v (subst (λ y. is_in y v ≡ true) e (decided_in x v d))).1

-- nobody decides before round t div 2 + 1
late : (k : ℕ) (s : Setup) (omits : ℕ → ℕ → ℕ → Bool) (r i v : ℕ) → Suits k s → i < s.nodes
    → decided (world k s omits r i) ≡ Some v → s.faults / 2 < r
late k s omits r i v ok hi d = by (cases_lt (s.faults / 2) r)
  where
    by : (s.faults / 2 < r) ⊎ (r ≤ s.faults / 2) → s.faults / 2 < r
    by (inl l) = l
    by (inr le) =
        absurd (none_in v (subst (λ y. is_in y v ≡ true) ((holds k s omits ok r).none_yet i hi le)
        (decided_in (world k s omits r i).chosen v d)))

step : (k : ℕ) (s : Setup) (inputs : List ℕ) (pattern : List Failure) (omits : Messages)
    (last i r v : ℕ) → Decides (run_of (floodmin_tree k) s inputs pattern omits) last i r v
    → decided (world k (with_inputs s inputs) omits r i) ≡ Some v
step k s inputs pattern omits last i r v d =
    sym (spelt (floodmin_tree k) (with_inputs s inputs) (machine k s.nodes s.faults) state letter
    decided (spells k s.nodes s.faults) (shows k) omits r i) ∙ d.decides

suits : (k : ℕ) (Asks : ℕ → ℕ → Question → Type 0) (s : Setup) (question : Question)
    (pattern : List Failure) (omits : Messages) → k ≤ 64 → IsRun k Asks s question pattern omits
    → Suits k s
suits k Asks s question pattern omits small run = record {
  small = small;
  fit = run.fit;
  faults = run.few_faults;
}

run_is_valid : (k : ℕ) (s : Setup) (inputs : List ℕ) (pattern : List Failure) (omits : Messages)
    (last : ℕ) → Suits k (with_inputs s inputs)
    → IsValid (run_of (floodmin_tree k) s inputs pattern omits) last
run_is_valid k s inputs pattern omits last ok i r v a =
    by ((holds k z omits ok r).chosen i a.known)
  where
    z : Setup
    z = with_inputs s inputs

    d : decided (world k z omits r i) ≡ Some v
    d = step k s inputs pattern omits last i r v a

    by : ((world k z omits r i).chosen ≡ 0) ⊎ Holds k z (world k z omits r i).chosen
        → IsInput z v
    by (inl none) =
        absurd (none_in v (subst (λ y. is_in y v ≡ true) none
        (decided_in (world k z omits r i).chosen v d)))
    by (inr it) =
        subst (IsInput z) (sym (is_chosen k (world k z omits r i).chosen v d it.0 it.2)) it.1

run_is_final : (k : ℕ) (s : Setup) (inputs : List ℕ) (pattern : List Failure) (omits : Messages)
    (last : ℕ) → Suits k (with_inputs s inputs)
    → IsFinal (run_of (floodmin_tree k) s inputs pattern omits) last
run_is_final k s inputs pattern omits last ok i q r v a le past c =
    let z = with_inputs s inputs in
    let d = step k s inputs pattern omits last i q v a in
    let e : q + (r - q) ≡ r = omega arith in
    let same = same_chosen k z omits i q (r - q) ok (late k z omits q i v ok a.known d) in
    spelt (floodmin_tree k) z (machine k s.nodes s.faults) state letter decided
    (spells k s.nodes s.faults) (shows k) omits r i
    ∙ ap (λ y. first_member (members y))
    (ap (λ n. (world k z omits n i).chosen) (sym e) ∙ same) ∙ d

run_decides_few : (k : ℕ) (s : Setup) (question : Question) (inputs : List ℕ)
    (pattern : List Failure) (omits : Messages) → k ≤ 64
    → IsRun k AsksCrashes (with_inputs s inputs) question pattern omits
    → DecidesFew 2 (run_of (floodmin_tree k) s inputs pattern omits) s.rounds
run_decides_few k s question inputs pattern omits small run =
    by (cases_lt (s.faults / 2) s.rounds)
  where
    z : Setup
    z = with_inputs s inputs

    ok : Suits k z
    ok = suits k AsksCrashes z question pattern omits small run

    crash : IsCrash z s.rounds (alive pattern) omits
    crash = crash_run question z pattern omits run.asks run.fails run.table

    due : ℕ
    due = s.faults / 2 + 1

    by : (s.faults / 2 < s.rounds) ⊎ (s.rounds ≤ s.faults / 2)
        → DecidesFew 2 (run_of (floodmin_tree k) s inputs pattern omits) s.rounds
    by (inr short) = (
      [],
      omega arith,
      λ i r v a.
          let d = step k s inputs pattern omits s.rounds i r v a in
          let past = late k z omits r i v ok a.known d in
          absurd (omega (arith, a.past)),
    )
    by (inl long) = (two.0 ∷ two.1 ∷ [], omega arith, one_of)
      where
        two : AtMostTwo k s.nodes (alive pattern due) (world k z omits due)
        two = few_at_last k z (alive pattern) s.rounds omits (world k z omits due) crash
            (few k z (alive pattern) s.rounds omits crash due (omega arith))

        one_of : (i r v : ℕ) → Decides (run_of (floodmin_tree k) s inputs pattern omits) s.rounds i
            r v
            → Contains (two.0 ∷ two.1 ∷ []) v
        one_of i r v a = place (two.2 i a.known lives)
          where
            d : decided (world k z omits r i) ≡ Some v
            d = step k s inputs pattern omits s.rounds i r v a

            past : s.faults / 2 < r
            past = late k z omits r i v ok a.known d

            lives : alive pattern due i ≡ true
            lives =
                crash.down due r i (omega (arith, past))
                (counted_lives z pattern i r (a.known, a.counts)).1

            e : due + (r - due) ≡ r
            e = omega (arith, past)

            chosen : (world k z omits r i).chosen ≡ (world k z omits due i).lowest
            chosen =
                ap (λ n. (world k z omits n i).chosen) (sym e)
                ∙ same_chosen k z omits i due (r - due) ok (omega arith)
                ∙ (holds k z omits ok due).now i a.known refl

            it : Holds k z (world k z omits due i).lowest
            it = (holds k z omits ok due).lowest i a.known

            is : low k (world k z omits due) i ≡ v
            is = low_is k z (world k z omits due) i it.0 ok it.1 it.2
                ∙ sym (is_chosen k (world k z omits r i).chosen v d it.0 (chosen ∙ it.2))

            place : (low k (world k z omits due) i ≡ two.0)
                ⊎ (low k (world k z omits due) i ≡ two.1)
                → Contains (two.0 ∷ two.1 ∷ []) v
            place (inl f) = (0, omega arith, sym f ∙ is)
            place (inr f) = (1, omega arith, sym f ∙ is)

pub decides_few : (k : ℕ) → k ≤ 64 → EachRun (floodmin_tree k) AsksCrashes (DecidesFew 2)
decides_few k small s question sized asks rounds inputs pattern omits asked =
    run_decides_few k (in_rounds s rounds) question inputs pattern omits small
    (asked_run (floodmin_tree k) AsksCrashes (in_rounds s rounds) question inputs pattern omits
    (sized_in s rounds sized) asks asked)

pub is_valid : (k : ℕ) → k ≤ 64 → HoldsForAll (floodmin_tree k) AsksAnything Validity
is_valid k small s question sized asks rounds inputs pattern omits asked =
    run_is_valid k (in_rounds s rounds) inputs pattern omits rounds
    (suits k AsksAnything (with_inputs (in_rounds s rounds) inputs) question pattern omits small
    (asked_run (floodmin_tree k) AsksAnything (in_rounds s rounds) question inputs pattern omits
    (sized_in s rounds sized) asks asked))

pub is_final : (k : ℕ) → k ≤ 64 → HoldsForAll (floodmin_tree k) AsksAnything Final
is_final k small s question sized asks rounds inputs pattern omits asked =
    run_is_final k (in_rounds s rounds) inputs pattern omits rounds
    (suits k AsksAnything (with_inputs (in_rounds s rounds) inputs) question pattern omits small
    (asked_run (floodmin_tree k) AsksAnything (in_rounds s rounds) question inputs pattern omits
    (sized_in s rounds sized) asks asked))

-- whatever is omitted, each node chooses in round t div 2 + 1
run_terminates : (k : ℕ) (s : Setup) (inputs : List ℕ) (pattern : List Failure) (omits : Messages)
    → Suits k (with_inputs s inputs) → s.faults / 2 + 1 ≤ s.rounds
    → Terminates (run_of (floodmin_tree k) s inputs pattern omits) s.rounds
run_terminates k s inputs pattern omits ok past same i hi never =
    some_is (decision_after (run_of (floodmin_tree k) s inputs pattern omits) i s.rounds) one.0
    (spelt (floodmin_tree k) z (machine k s.nodes s.faults) state letter decided
    (spells k s.nodes s.faults) (shows k) omits s.rounds i
    ∙ ap (λ y. first_member (members y)) chosen
    ∙ one.1)
  where
    z : Setup
    z = with_inputs s inputs

    due : ℕ
    due = s.faults / 2 + 1

    e : due + (s.rounds - due) ≡ s.rounds
    e = omega (arith, past)

    it : Holds k z (world k z omits due i).lowest
    it = (holds k z omits ok due).lowest i hi

    chosen : (world k z omits s.rounds i).chosen ≡ only k it.0
    chosen =
        ap (λ n. (world k z omits n i).chosen) (sym e)
        ∙ same_chosen k z omits i due (s.rounds - due) ok (omega arith)
        ∙ (holds k z omits ok due).now i hi refl ∙ it.2

    small : it.0 < k
    small = below k z ok.fit it.0 it.1

    one : (u : ℕ) × (first_member (members (only k it.0)) ≡ Some u)
    one = some_first (only k it.0) it.0 (omega (arith, ok.small, small)) (only_itself k it.0 small)

pub decides : (k : ℕ) → k ≤ 64 → DecidesBy (floodmin_tree k) AsksAnything floodmin_bound
decides k small s question clear sized asks has some enough inputs pattern omits asked =
    run_terminates k s inputs pattern omits
    (suits k AsksAnything (with_inputs s inputs) question pattern omits small
    (asked_run (floodmin_tree k) AsksAnything s question inputs pattern omits sized asks asked))
    enough
