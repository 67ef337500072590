-- What is told of a part, as the text that is read.
use Rattle.std.proofs.Common.{◌≡◌, ◌≢◌, ◌∙◌, ◌≤◌, ◌++◌, ◌∷◌, [], ℕ, All, Bool, List, None, Option}
use Rattle.std.proofs.Common.{Some, ap, arith, codes, false, map, refl, subst, suc, sym, true}
use Rattle.std.specs.List.{AllZip}
use Rattle.std.specs.Prelude.{is_some}
use Rattle.command_words.specs.declared.exploring.Checks.{Checks}
use Rattle.command_words.specs.declared.exploring.Exploring.{Exploring}
use Rattle.command_words.specs.declared.searching.SampleChoice.{SampleChoice}
use Rattle.exploration_texts.specs.Asking.{inputs_of, question_of}
use Rattle.exploration_texts.specs.Lines.{answer_words, answers_text, told_line}
use Rattle.answer_laws.specs.Parts.{IsAnsweredAs, PartsAreRead, outcome_of}
use Rattle.exploration_texts.specs.Told.{AreAnswers, IsAnswer, IsRightOf, asked, names_of}
use Rattle.exploration_texts.specs.declared.told.Answered.{Answered}
use Rattle.exploration_texts.specs.declared.told.Answered.TheVariants.{Fails, Holds}
use Rattle.exploration_texts.specs.declared.told.Answered.TheVariants.{HoldsInAllRounds, NotFound}
use Rattle.exploration_texts.specs.declared.told.Told.{Told}
use Rattle.part_answers.specs.Answers.{AreFrom, IsOutcome, answered_line, outcome_words}
use Rattle.part_answers.specs.Answers.{answers_text as part_answers_text}
use Rattle.part_answers.specs.Heads.{IsHead, head_line}
use Rattle.part_answers.specs.Parts.{IsWellFormed, head_of, part_text}
use Rattle.part_answers.specs.Properties.{name_text, rank}
use Rattle.part_answers.specs.declared.answered.Answered.{Answered as PartAnswered}
use Rattle.part_answers.specs.declared.answered.Outcome.{Outcome}
use Rattle.part_answers.specs.declared.answered.Outcome.TheVariants as outcome
use Rattle.part_answers.specs.declared.part.PartAnswers.{PartAnswers}
use Rattle.part_answers.specs.declared.part.PartHead.{PartHead}
use Rattle.part_answers.specs.declared.property.Property.{Property as PropertyName}
use Rattle.part_answers.specs.declared.property.Property.TheVariants as names
use Rattle.round_explorer.specs.declared.property.Property.{Property}
use Rattle.round_explorer.specs.declared.question.AskedInputs.{AskedInputs}
use Rattle.round_explorer.specs.declared.question.Question.{Question}
use Rattle.round_lang.specs.Syntax.{ProgramTree}
use Rattle.round_lang.specs.Tree.{Tree}
use Rattle.round_meaning.specs.Setups.{IsSetup}
use Rattle.round_meaning.specs.declared.setup.Setup.{Setup}

-- the answer to what is told; of a sample any
abbrev outcome_or : Answered → Outcome
outcome_or Holds = outcome.Holds
outcome_or HoldsInAllRounds = outcome.HoldsInAllRounds
outcome_or (Fails c) = outcome.Fails c.round
outcome_or (NotFound n) = outcome.Holds

abbrev pub answered_as : Told → PartAnswered
answered_as t = record { property = t.name; outcome = outcome_or t.answer }

-- the properties are in order, from rank low up to below rank high
abbrev RisingTo : (low high : ℕ) → List PropertyName → Type 0
RisingTo low high [] = low ≤ high
RisingTo low high (n ∷ ns) = (low ≤ rank n) × RisingTo (suc (rank n)) high ns

rising_lower : (low mid high : ℕ) (ns : List PropertyName) → low ≤ mid → RisingTo mid high ns
    → RisingTo low high ns
rising_lower low mid high [] l h = omega (arith, l, h)
rising_lower low mid high (n ∷ ns) l (first, rest) = (omega (arith, l, first), rest)

rising_both : (low mid high : ℕ) (ns ms : List PropertyName) → RisingTo low mid ns
    → RisingTo mid high ms → RisingTo low high (ns ++ ms)
rising_both low mid high [] ms h k = rising_lower low mid high ms h k
rising_both low mid high (n ∷ ns) ms (first, rest) k =
    (first, rising_both (suc (rank n)) mid high ns ms rest k)

rising_one : (b : Bool) (n : PropertyName) → RisingTo (rank n) (suc (rank n)) (asked b n)
rising_one true n = (omega arith, omega arith)
rising_one false n = omega arith

-- what is asked is asked in order
names_rise : (c : Checks) (b : Bool) → RisingTo 0 5 (names_of c b)
names_rise c b =
    rising_both 0 4 5 _ _ (rising_both 0 3 4 _ _ (rising_both 0 2 3 _ _
    (rising_both 0 1 2 _ _ (rising_one c.agreement names.Agreement)
    (rising_one c.validity names.Validity)) (rising_one c.finality names.Final))
    (rising_one c.termination names.Termination)) (rising_one b names.Always)

module _ (p : ProgramTree) (s : Setup) (sized : IsSetup s) (question : Question)
    (inputs : AskedInputs) (condition : Option Tree) where
  abbrev IsRightHere : Told → Type 0
  IsRightHere = IsRightOf p s question inputs None condition

  of_all : (x : Property) (a : Answered) → IsAnswer p s question inputs None x a
      → outcome_of a ≡ Some (outcome_or a)
  of_all x Holds h = refl
  of_all x HoldsInAllRounds h = refl
  of_all x (Fails c) h = refl
  of_all x (NotFound n) h = absurd h

  words_same : (x : Property) (a : Answered) → IsAnswer p s question inputs None x a
      → answer_words a ≡ outcome_words (outcome_or a)
  words_same x Holds h = refl
  words_same x HoldsInAllRounds h = refl
  words_same x (Fails c) h = refl
  words_same x (NotFound n) h = absurd h

  in_rounds_of : (x : Property) (a : Answered) → IsAnswer p s question inputs None x a
      → IsOutcome (outcome_or a)
  in_rounds_of x Holds h = tt
  in_rounds_of x HoldsInAllRounds h = tt
  in_rounds_of x (Fails c) h = (h.begun, omega (arith, h.past, sized.few_rounds))
  in_rounds_of x (NotFound n) h = absurd h

  later : (t : Told) (ts : List Told) → All IsRightHere (t ∷ ts) → All IsRightHere ts
  later t ts h = λ k d lt. h (suc k) d (omega (arith, lt))

  answered_each : (told : List Told) → All IsRightHere told
      → AllZip IsAnsweredAs told (map answered_as told)
  answered_each [] h = tt
  answered_each (t ∷ ts) h =
      let first = h 0 t (omega arith) in
      ((refl, of_all first.0 t.answer first.2), answered_each ts (later t ts h))

  lines_same : (told : List Told) → All IsRightHere told
      → answers_text told ≡ part_answers_text (map answered_as told)
  lines_same [] h = refl
  lines_same (t ∷ ts) h =
      let first = h 0 t (omega arith) in
      ap (λ w. ((name_text t.name ++ 32 ∷ w) ++ codes "\n") ++ answers_text ts)
      (words_same first.0 t.answer first.2)
      ∙ ap (λ l. answered_line (answered_as t) ++ l) (lines_same ts (later t ts h))

  rising_answers : (low high : ℕ) (told : List Told) → RisingTo low high (map (λ t. t.name) told)
      → All IsRightHere told → AreFrom low (map answered_as told)
  rising_answers low high [] rise h = tt
  rising_answers low high (t ∷ ts) (first, rest) h =
      let right = h 0 t (omega arith) in (
        first,
        in_rounds_of right.0 t.answer right.2,
        rising_answers (suc (rank t.name)) high ts rest (later t ts h),
      )

some_answers : (told : List Told) → told ≢ [] → map answered_as told ≢ []
some_answers [] some = absurd (some refl)
some_answers (t ∷ ts) some = λ e. absurd (cc e)

pub parts_are_read : PartsAreRead
parts_are_read p s e told head sized all h some is_head =
    let right = subst (λ k. All (IsRightOf p s (question_of e) (inputs_of e) k h.condition) told)
    all h.right in
    let rise = subst (RisingTo 0 5) (sym h.names) (names_rise e.checks (is_some h.condition)) in (
      map answered_as told,
      answered_each p s sized (question_of e) (inputs_of e) h.condition told right,
      λ part same_head same. (
        record {
          head = subst IsHead (sym same_head) is_head;
          answers = subst (AreFrom 0) (sym same) (rising_answers p s sized (question_of e)
              (inputs_of e) h.condition 0 5 told rise right);
          some = subst (λ x. x ≢ []) (sym same) (some_answers told some);
        },
        ap (λ l. head_line head ++ l) (lines_same p s sized (question_of e) (inputs_of e)
            h.condition told right)
            ∙ ap (λ x. head_line x ++ part_answers_text (map answered_as told)) (sym same_head)
            ∙ ap (λ x. head_line (head_of part) ++ part_answers_text x) (sym same),
      ),
    )
