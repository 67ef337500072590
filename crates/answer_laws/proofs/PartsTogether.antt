-- What right answers of all parts are together.
use Rattle.std.proofs.Common.{◌≡◌, ◌∙◌, ◌+◌, ◌-◌, ◌<◌, ◌≤◌, ◌∷◌, [], ℕ, All, Bool, Contains, List}
use Rattle.std.proofs.Common.{ap, arith, cond, false, get_or, length, refl, subst, suc, sym, true}
use Rattle.std.proofs.Common.{zero}
use Rattle.std.specs.Prelude.{IsSome, ◌==◌}
use Rattle.std.proofs.lemmas.Bool.{cond-false, eqb-true}
use Rattle.std.proofs.lemmas.List.{get_or_default}
use Rattle.std.proofs.lemmas.List.Sums.{sum_by-cons}
use Rattle.answer_laws.specs.Parts.{AnswersRightly, PartsTellTheWhole, lists_of_part}
use Rattle.answer_laws.specs.Parts.{outcome_by}
use Rattle.part_answers.specs.Answers.{AreFrom}
use Rattle.part_answers.specs.Parts.{IsWellFormed}
use Rattle.part_answers.specs.Properties.{rank}
use Rattle.part_answers.specs.Wholes.{AreAllParts, FailsIn, HoldsInAllRounds, IsAnswerOf}
use Rattle.part_answers.specs.Wholes.{IsOutcomeOf, IsWhole, count_of, times}
use Rattle.part_answers.specs.declared.answered.Answered.{Answered as PartAnswered}
use Rattle.part_answers.specs.declared.answered.Outcome.{Outcome}
use Rattle.part_answers.specs.declared.answered.Outcome.TheVariants as outcome
use Rattle.part_answers.specs.declared.part.Part.{Part}
use Rattle.part_answers.specs.declared.part.PartAnswers.{PartAnswers}
use Rattle.part_answers.specs.declared.property.Property.{Property as PropertyName}
use Rattle.round_explorer.specs.Answers.{AllHoldInAllRounds, AllHoldUpTo, IsRight, in_rounds}
use Rattle.round_explorer.specs.Answers.{run_of}
use Rattle.round_explorer.specs.Parts.{PartsAreAll, part_lists}
use Rattle.round_explorer.specs.Properties.{Agrees, Decides, HoldsUpTo, IsFinal, IsValid, Run}
use Rattle.round_explorer.specs.Properties.{decision_after}
use Rattle.round_explorer.specs.declared.answer.Answer.{Answer}
use Rattle.round_explorer.specs.declared.answer.Answer.TheVariants as all
use Rattle.round_explorer.specs.declared.answer.Counterexample.{Counterexample}
use Rattle.round_explorer.specs.declared.property.Property.{Property}
use Rattle.round_explorer.specs.declared.property.Property.TheVariants.{Agreement, Always, Final}
use Rattle.round_explorer.specs.declared.property.Property.TheVariants.{Safety, Termination}
use Rattle.round_explorer.specs.declared.property.Property.TheVariants.{Validity}
use Rattle.round_explorer.specs.declared.question.AskedInputs.{AskedInputs}
use Rattle.round_explorer.specs.declared.question.AskedInputs.TheVariants.{Any}
use Rattle.round_explorer.specs.declared.question.Question.{Question}
use Rattle.round_lang.specs.Syntax.{ProgramTree}
use Rattle.round_meaning.specs.declared.setup.Setup.{Setup}

-- a decision of fewer rounds is one of more
decides_more : (run : Run) (k m i r v : ℕ) → k ≤ m → Decides run k i r v → Decides run m i r v
decides_more run k m i r v l d = record {
  known = d.known;
  begun = d.begun;
  past = omega (arith, d.past, l);
  counts = d.counts;
  decides = d.decides;
}

agrees_less : (run : Run) (k m : ℕ) → k ≤ m → Agrees run m → Agrees run k
agrees_less run k m l h = λ i j r q v u one two.
    h i j r q v u (decides_more run k m i r v l one) (decides_more run k m j q u l two)

valid_less : (run : Run) (k m : ℕ) → k ≤ m → IsValid run m → IsValid run k
valid_less run k m l h = λ i r v one. h i r v (decides_more run k m i r v l one)

final_less : (run : Run) (k m : ℕ) → k ≤ m → IsFinal run m → IsFinal run k
final_less run k m l h = λ i q r v one later past counts.
    h i q r v (decides_more run k m i q v l one) later (omega (arith, past, l)) counts

-- what holds up to a round holds up to each earlier one
holds_less : (x : Property) (run : Run) (k m : ℕ) → k ≤ m → m ≤ run.setup.rounds
    → HoldsUpTo x run m → HoldsUpTo x run k
holds_less Agreement run k m l last h = agrees_less run k m l h
holds_less Validity run k m l last h = valid_less run k m l h
holds_less Final run k m l last h = final_less run k m l h
holds_less Safety run k m l last h =
    (agrees_less run k m l h.0, valid_less run k m l h.1, final_less run k m l h.2)
holds_less Termination run k m l last h = λ here i known never.
    let same : m ≡ k = omega (arith, l, last, here) in
    let end : m ≡ run.setup.rounds = omega (arith, l, last, here) in
    subst (λ n. IsSome (decision_after run i n)) same (h end i known never)
holds_less (Always f) run k m l last h = λ i r known begun past counts.
    h i r known begun (omega (arith, past, l)) counts

-- what a right answer says up to a round, if it isn't that the property fails by then
up_to : (p : ProgramTree) (s : Setup) (question : Question) (lists : AskedInputs) (x : Property)
    (answer : Answer) (k : ℕ) → k ≤ s.rounds → IsRight p s question lists x answer
    → ((c : Counterexample) → answer ≡ all.Fails c → k < c.round)
    → AllHoldUpTo p s question lists x k
up_to p s question lists x all.Holds k l h not = λ inputs pattern omits run.
    holds_less x (run_of p s inputs pattern omits) k s.rounds l (omega arith)
    (h inputs pattern omits run)
up_to p s question lists x all.HoldsInAllRounds k l h not = λ inputs pattern omits run.
    holds_less x (run_of p s inputs pattern omits) k s.rounds l (omega arith)
    (h s.rounds inputs pattern omits run)
up_to p s question lists x (all.Fails c) k l h not = h.first k (not c refl)

-- each property is answered once
rank_from : (least : ℕ) (answers : List PartAnswered) (b : PartAnswered) (k : ℕ)
    → AreFrom least answers → k < length answers → get_or answers k b ≡ b
    → least ≤ rank b.property
rank_from least [] b k h lt is = absurd (omega (arith, lt))
rank_from least (a ∷ rest) b zero (first, answered, more) lt is =
    subst (λ (y : PartAnswered). least ≤ rank y.property) is first
rank_from least (a ∷ rest) b (suc k) (first, answered, more) lt is =
    let later = rank_from (suc (rank a.property)) rest b k more (omega (arith, lt)) is in
    omega (arith, first, later)

one_outcome : (least : ℕ) (answers : List PartAnswered) (b d : PartAnswered) (k m : ℕ)
    → AreFrom least answers → b.property ≡ d.property
    → k < length answers → get_or answers k b ≡ b
    → m < length answers → get_or answers m d ≡ d → b.outcome ≡ d.outcome
one_outcome least [] b d k m h same lt is lt2 is2 = absurd (omega (arith, lt))
one_outcome least (a ∷ rest) b d zero zero h same lt is lt2 is2 =
    ap (λ (y : PartAnswered). y.outcome) (sym is ∙ is2)
one_outcome least (a ∷ rest) b d zero (suc m) (first, answered, more) same lt is lt2 is2 =
    let later = rank_from (suc (rank a.property)) rest d m more (omega (arith, lt2)) is2 in
    let here : rank a.property ≡ rank d.property =
    ap (λ (y : PartAnswered). rank y.property) is ∙ ap rank same in
    absurd (omega (arith, later, here))
one_outcome least (a ∷ rest) b d (suc k) zero (first, answered, more) same lt is lt2 is2 =
    let later = rank_from (suc (rank a.property)) rest b k more (omega (arith, lt)) is in
    let here : rank a.property ≡ rank b.property =
    ap (λ (y : PartAnswered). rank y.property) is2 ∙ ap rank (sym same) in
    absurd (omega (arith, later, here))
one_outcome least (a ∷ rest) b d (suc k) (suc m) (first, answered, more) same lt is lt2 is2 =
    one_outcome (suc (rank a.property)) rest b d k m more same (omega (arith, lt)) is
    (omega (arith, lt2)) is2

abbrev one : Bool → ℕ
one b = cond b 1 0

-- a part of this number is there
abbrev IsAt : (number : ℕ) → List PartAnswers → ℕ → Type 0
IsAt number parts k =
    (k < length parts) × ((d : PartAnswers) → (get_or parts k d).part.number ≡ number)

part_at : (number : ℕ) (parts : List PartAnswers) → 1 ≤ times number parts
    → (k : ℕ) × IsAt number parts k
part_at number [] h = absurd (omega (arith, h))
part_at number (q ∷ qs) h =
    go (q.part.number == number) refl (λ more. part_at number qs more)
  where
    go : (b : Bool) → (q.part.number == number) ≡ b
        → (1 ≤ times number qs → (k : ℕ) × IsAt number qs k) → (k : ℕ) × IsAt number (q ∷ qs) k
    go true e later = (0, (omega arith, λ d. eqb-true q.part.number number e))
    go false e later =
        let here : one (q.part.number == number) ≡ 0 = cond-false _ _ _ e in
        let more : times number (q ∷ qs) ≡ one (q.part.number == number) + times number qs =
        sum_by-cons (λ (y : PartAnswers). one (y.part.number == number)) q qs in
        let rest = later (omega (arith, h, here, more)) in
        (suc rest.0, (omega (arith, rest.1.0), rest.1.1))

module _ (law : PartsAreAll) (p : ProgramTree) (s : Setup) (question : Question) (x : Property)
    (name : PropertyName) (start : PartAnswers) (parts : List PartAnswers)
    (formed : All IsWellFormed parts) (are : AreAllParts parts)
    (counted : (k : ℕ) → k < length parts → (get_or parts k start).part.count ≡ count_of parts)
    (rightly : All (AnswersRightly p s question x name) parts) where
  abbrev part : ℕ → PartAnswers
  part k = get_or parts k start

  -- each part is there
  place_of : (i : ℕ) → i < count_of parts → (k : ℕ) × IsAt (suc i) parts k
  place_of i l =
      let once = are.once (suc i) (omega arith) (omega (arith, l)) in
      part_at (suc i) parts (omega (arith, once))

  lists_are : (i k : ℕ) → IsAt (suc i) parts k
      → lists_of_part (part k).part ≡ part_lists i (count_of parts)
  lists_are i k (lt, number) =
      let is = number start in
      let before : (part k).part.number - 1 ≡ i = omega (arith, is) in
      ap (λ n. part_lists n (part k).part.count) before
      ∙ ap (λ n. part_lists i n) (counted k lt)

  -- what holds in each part up to a round before which no part fails
  each_up_to : (k : ℕ) → k ≤ s.rounds → ((r : ℕ) → FailsIn parts name r → k < r) → (i : ℕ)
      → i < count_of parts → AllHoldUpTo p s question (part_lists i (count_of parts)) x k
  each_up_to k l not i below =
      let place = place_of i below in
      let right = rightly place.0 start place.1.0 in
      subst (λ lists. AllHoldUpTo p s question lists x k) (lists_are i place.0 place.1)
      (up_to p s question (lists_of_part (part place.0).part) x right.0 k l right.1
      (λ c e. not c.round (
        place.0,
        part place.0,
        place.1.0,
        get_or_default parts place.0 (part place.0) start place.1.0,
        subst (λ y. Contains (part place.0).answers.items
            (record { property = name; outcome = outcome_by y })) e right.2,
      )))

  all_up_to : (k : ℕ) → k ≤ s.rounds → ((r : ℕ) → FailsIn parts name r → k < r)
      → AllHoldUpTo p s question Any x k
  all_up_to k l not = (law p s question x (count_of parts) k are.some).0 (each_up_to k l not)

  -- a part has one answer
  same_answer : (k : ℕ) → (lt : k < length parts) → (o : Outcome)
      → Contains (part k).answers.items (record { property = name; outcome = o })
      → outcome_by (rightly k start lt).0 ≡ o
  same_answer k lt o has =
      let right = (rightly k start lt).2 in
      one_outcome 0 (part k).answers.items
      (record { property = name; outcome = outcome_by (rightly k start lt).0 })
      (record { property = name; outcome = o }) right.0 has.0 (formed k start lt).answers refl
      right.1 right.2 has.1 has.2

  in_all : (answer : Answer) → outcome_by answer ≡ outcome.HoldsInAllRounds
      → answer ≡ all.HoldsInAllRounds
  in_all all.Holds e = absurd (cc e)
  in_all all.HoldsInAllRounds e = refl
  in_all (all.Fails c) e = absurd (cc e)

  all_rounds : All (HoldsInAllRounds name) parts → AllHoldInAllRounds p s question Any x
  all_rounds h = λ rounds.
      (law p (in_rounds s rounds) question x (count_of parts) rounds are.some).0 (λ i below.
      let place = place_of i below in
      let right = rightly place.0 start place.1.0 in
      let is = in_all right.0 (same_answer place.0 place.1.0 outcome.HoldsInAllRounds
      (h place.0 start place.1.0)) in
      subst (λ lists. AllHoldUpTo p (in_rounds s rounds) question lists x rounds)
      (lists_are i place.0 place.1)
      (subst (IsRight p s question (lists_of_part (part place.0).part) x) is right.1 rounds))

  fails_in : (lists : Part) (least : ℕ) (answer : Answer)
      → IsRight p s question (lists_of_part lists) x answer
      → outcome_by answer ≡ outcome.Fails least
      → ((r : ℕ) → FailsIn parts name r → least ≤ r)
      → (whole : Answer) × IsRight p s question Any x whole
      × (outcome_by whole ≡ outcome.Fails least)
  fails_in lists least all.Holds h e first = absurd (cc e)
  fails_in lists least all.HoldsInAllRounds h e first = absurd (cc e)
  fails_in lists least (all.Fails c) h e first =
      let round : c.round ≡ least = cc in (
        all.Fails c,
        record {
          is_asked = record {
            are_asked = h.is_asked.are_asked.0;
            is_pattern = h.is_asked.is_pattern;
            is_table = h.is_asked.is_table;
          };
          begun = h.begun;
          past = h.past;
          fails = h.fails;
          first = λ k l. all_up_to k (omega (arith, l, h.past))
              (λ r f. let later = first r f in omega (arith, l, round, later));
        },
        e,
      )

  answer_of : (o : Outcome) → IsOutcomeOf parts name o
      → (whole : Answer) × IsRight p s question Any x whole × (outcome_by whole ≡ o)
  answer_of outcome.Holds h =
      (all.Holds, all_up_to s.rounds (omega arith) (λ r f. absurd (h.0 r f)), refl)
  answer_of outcome.HoldsInAllRounds h = (all.HoldsInAllRounds, all_rounds h.1, refl)
  answer_of (outcome.Fails least) ((k, found, lt, is, has), first) =
      let here : found ≡ part k = sym is ∙ get_or_default parts k found start lt in
      let right = rightly k start lt in
      fails_in (part k).part least right.0 right.1 (same_answer k lt (outcome.Fails least)
      (subst (λ (y : PartAnswers). Contains y.answers.items
      (record { property = name; outcome = outcome.Fails least })) here has)) first

pub parts_tell_the_whole : PartsAreAll → PartsTellTheWhole
parts_tell_the_whole law p s question x name [] whole a formed are is has named rightly = absurd is
parts_tell_the_whole law p s question x name (start ∷ rest) whole a formed are is has named
    rightly =
    let parts = start ∷ rest in
    let answered : IsAnswerOf parts a =
    subst (IsAnswerOf parts) has.2 (is.1 has.0 a has.1) in
    answer_of law p s question x name start parts formed are
    (λ k lt. (are.alike k start lt).count) rightly a.outcome
    (subst (λ n. IsOutcomeOf parts n a.outcome) named answered)
