-- The answers of all properties, one after another.
use Rattle.std.proofs.Common.{◌≡◌, ◌∙◌, ◌++◌, ◌∷◌, [], ℕ, All, Bool, List, None, Option, Some, Bor}
use Rattle.std.proofs.Common.{ap, false, get_or, map, refl, subst, sym, true}
use Rattle.std.specs.Prelude.{is_some, option_map}
use Rattle.std.proofs.lemmas.List.{append-nil}
use Rattle.std.proofs.lemmas.List.Elements.{All-append, All-cons, All-nil}
use Rattle.command_words.specs.declared.exploring.Checks.{Checks}
use Rattle.command_words.specs.declared.exploring.Exploring.{Exploring}
use Rattle.command_words.specs.declared.searching.SampleChoice.{SampleChoice}
use Rattle.exploration_texts.specs.Asking.{inputs_of, question_of}
use Rattle.exploration_texts.specs.Conditions.{IsConditionFor}
use Rattle.exploration_texts.specs.Told.{Adds, AddsAlways, AddsAnswer, AreAnswers, AreAnswersOf}
use Rattle.exploration_texts.specs.Told.{IsAnswer, IsAnswerOf, IsNamed, IsRightOf, asked}
use Rattle.exploration_texts.specs.Told.{is_of_safety, name_of}
use Rattle.exploration_texts.specs.declared.answering.Search.{Search}
use Rattle.exploration_texts.specs.declared.told.Answered.{Answered}
use Rattle.exploration_texts.specs.declared.told.Answered.TheVariants.{Holds, HoldsInAllRounds}
use Rattle.exploration_texts.specs.declared.told.Answered.TheVariants.{NotFound}
use Rattle.exploration_texts.specs.declared.told.Told.{Told}
use Rattle.part_answers.specs.declared.property.Property.{Property as PropertyName}
use Rattle.part_answers.specs.declared.property.Property.TheVariants as kinds
use Rattle.round_explorer.specs.Answers.{AllHoldUpTo, in_rounds, run_of}
use Rattle.round_explorer.specs.Properties.{HoldsUpTo, Run}
use Rattle.round_explorer.specs.declared.property.Property.{Property}
use Rattle.round_explorer.specs.declared.property.Property.TheVariants.{Agreement, Always, Final}
use Rattle.round_explorer.specs.declared.property.Property.TheVariants.{Safety, Termination}
use Rattle.round_explorer.specs.declared.property.Property.TheVariants.{Validity}
use Rattle.round_explorer.specs.declared.question.AskedInputs.{AskedInputs}
use Rattle.round_explorer.specs.declared.question.Question.{Question}
use Rattle.round_lang.specs.Syntax.{ProgramTree}
use Rattle.round_lang.specs.Tree.{Tree}
use Rattle.round_meaning.specs.declared.setup.Setup.{Setup}
use Rattle.run_samples.specs.Found.{AreFaultless}

-- so far these are asked, and the answers are right
pub record AreTold (w : Search) (condition : Option Tree) (names : List PropertyName)
    (told : List Told) : Type 0 where
  pub named : map (λ t. t.name) told ≡ names
  pub right :
      All (IsRightOf w.program.now w.setup.now w.question w.inputs w.sample condition) told

names_more : (told : List Told) (one : Told)
    → map (λ t. t.name) (told ++ one ∷ []) ≡ map (λ t. t.name) told ++ one.name ∷ []
names_more [] one = refl
names_more (t ∷ ts) one = ap (λ ns. t.name ∷ ns) (names_more ts one)

module _ (w : Search) (condition : Option Tree) where
  abbrev IsRightHere : Told → Type 0
  IsRightHere = IsRightOf w.program.now w.setup.now w.question w.inputs w.sample condition

  pub none_told : (told : List Told) → told ≡ [] → AreTold w condition [] told
  none_told told e = record {
    named = ap (map (λ t. t.name)) e;
    right = subst (All IsRightHere) (sym e) (All-nil IsRightHere);
  }

  pub one_told : (names : List PropertyName) (x : Property) (old new : List Told)
      → IsNamed condition (name_of x) x → AreTold w condition names old → AddsAnswer w x old new
      → AreTold w condition (names ++ name_of x ∷ []) new
  one_told names x old new is h (answer, made, right) =
      let one : Told = record { name = name_of x; answer = answer } in
      record {
        named = ap (map (λ t. t.name)) made ∙ names_more old one
            ∙ ap (λ ns. ns ++ name_of x ∷ []) h.named;
        right = subst (All IsRightHere) (sym made) (All-append IsRightHere old (one ∷ []) h.right
            (All-cons IsRightHere one [] (x, is, right) (All-nil IsRightHere)));
      }

  none_added : (names : List PropertyName) (old new : List Told) → AreTold w condition names old
      → new ≡ old → AreTold w condition (names ++ []) new
  none_added names old new h same =
      subst (λ ns. AreTold w condition ns new) (sym (append-nil names))
      (subst (AreTold w condition names) (sym same) h)

  pub told_if : (names : List PropertyName) (b : Bool) (x : Property) (old new : List Told)
      → IsNamed condition (name_of x) x → AreTold w condition names old → Adds w b x old new
      → AreTold w condition (names ++ asked b (name_of x)) new
  told_if names true x old new is h added = one_told names x old new is h added
  told_if names false x old new is h same = none_added names old new h same

-- and that of a condition
pub told_always : (w : Search) (always : Option (Bor Tree)) (names : List PropertyName)
    (old new : List Told) → AreTold w (option_map (λ f. f.now) always) names old
    → AddsAlways w always old new → AreTold w (option_map (λ f. f.now) always)
    (names ++ asked (is_some (option_map (λ f. f.now) always)) kinds.Always) new
told_always w (Some f) names old new h added =
    one_told w (Some f.now) names (Always f) old new refl h added
told_always w None names old new h same = none_added w None names old new h same

-- a property that is agreement, validity or finality holds in a run if all three do
one_of_three : (x : Property) (run : Run) (k : ℕ) → is_of_safety x ≡ true → HoldsUpTo Safety run k
    → HoldsUpTo x run k
one_of_three Agreement run k is h = h.0
one_of_three Validity run k is h = h.1
one_of_three Final run k is h = h.2
one_of_three Safety run k is h = absurd (cc is)
one_of_three Termination run k is h = absurd (cc is)
one_of_three (Always f) run k is h = absurd (cc is)

one_of_safety : (p : ProgramTree) (s : Setup) (question : Question) (asked : AskedInputs) (k : ℕ)
    (x : Property) → is_of_safety x ≡ true → AllHoldUpTo p s question asked Safety k
    → AllHoldUpTo p s question asked x k
one_of_safety p s question asked k x is h = λ inputs pattern omits run.
    one_of_three x (run_of p s inputs pattern omits) k is (h inputs pattern omits run)

-- and so in runs that were made
faultless_by : (p : ProgramTree) (s : Setup) (question : Question) (asked : AskedInputs) (n : ℕ)
    (x : Property) → is_of_safety x ≡ true → AreFaultless p s question asked Safety n
    → AreFaultless p s question asked x n
faultless_by p s question asked n x is (made, many, all) = (
  made,
  many,
  λ k d lt.
      let one = get_or made k d in
      let h = all k d lt in
      (h.0, one_of_three x (run_of p s one.inputs one.pattern one.omits) s.rounds is h.1),
)

-- the answer is right of the property, of all runs or of a sample
abbrev IsOf : Search → Option SampleChoice → Property → Answered → Type 0
IsOf w sample x answer = IsAnswer w.program.now w.setup.now w.question w.inputs sample x answer

hold_by : (w : Search) (sample : Option SampleChoice) (x : Property) → is_of_safety x ≡ true
    → IsOf w sample Safety Holds → IsOf w sample x Holds
hold_by w (Some sample) x is h = absurd h
hold_by w None x is h =
    one_of_safety w.program.now w.setup.now w.question w.inputs w.setup.now.rounds x is h

none_by : (w : Search) (sample : Option SampleChoice) (n : ℕ) (x : Property)
    → is_of_safety x ≡ true → IsOf w sample Safety (NotFound n) → IsOf w sample x (NotFound n)
none_by w (Some sample) n x is (held, few, each) = (
  faultless_by w.program.now w.setup.now w.question w.inputs n x is held,
  few,
  each,
)
none_by w None n x is h = absurd h

all_by : (w : Search) (sample : Option SampleChoice) (x : Property) → is_of_safety x ≡ true
    → IsOf w sample Safety HoldsInAllRounds → IsOf w sample x HoldsInAllRounds
all_by w (Some sample) x is h = absurd h
all_by w None x is h = λ rounds.
    one_of_safety w.program.now (in_rounds w.setup.now rounds) w.question w.inputs rounds x is
    (h rounds)

-- it holds if the three do
pub hold_if_safe : (w : Search) (x : Property) → is_of_safety x ≡ true
    → IsAnswerOf w Safety Holds → IsAnswerOf w x Holds
hold_if_safe w x is h = hold_by w w.sample x is h

-- it fails in none of the runs that were made if none of the three does
pub none_if_safe : (w : Search) (n : ℕ) (x : Property) → is_of_safety x ≡ true
    → IsAnswerOf w Safety (NotFound n) → IsAnswerOf w x (NotFound n)
none_if_safe w n x is h = none_by w w.sample n x is h

-- and it holds in any number of rounds if the three do
pub all_if_safe : (w : Search) (x : Property) → is_of_safety x ≡ true
    → IsAnswerOf w Safety HoldsInAllRounds → IsAnswerOf w x HoldsInAllRounds
all_if_safe w x is h = all_by w w.sample x is h

-- what is asked of a search is told
pub all_told : (w : Search) (c : Checks) (condition : Option Tree) (told : List Told)
    → AreTold w condition ((((asked c.agreement kinds.Agreement
    ++ asked c.validity kinds.Validity) ++ asked c.finality kinds.Final)
    ++ asked c.termination kinds.Termination) ++ asked (is_some condition) kinds.Always) told
    → AreAnswersOf w c condition told
all_told w c condition told h = record {
  names = h.named;
  right = h.right;
}

-- what is told of a search is told of what the options ask
pub answers_asked : (w : Search) (p : ProgramTree) (s : Setup) (e : Exploring)
    (condition : Option Tree) (told : List Told) → w.program.now ≡ p → w.setup.now ≡ s
    → w.question ≡ question_of e → w.inputs ≡ inputs_of e → w.sample ≡ e.sample
    → IsConditionFor p e.always condition → AreAnswersOf w e.checks condition told
    → AreAnswers p s e told
answers_asked w p s e condition told same_p same_s same_q same_i same_k is h = record {
  condition = condition;
  is_condition = is;
  names = h.names;
  right = subst (λ x. All (IsRightOf x s (question_of e) (inputs_of e) e.sample condition) told)
      same_p (subst (λ x. All (IsRightOf w.program.now x (question_of e) (inputs_of e) e.sample
      condition) told) same_s (subst (λ x. All (IsRightOf w.program.now w.setup.now x
      (inputs_of e) e.sample condition) told) same_q (subst (λ x. All (IsRightOf w.program.now
      w.setup.now w.question x e.sample condition) told) same_i (subst (λ x. All (IsRightOf
      w.program.now w.setup.now w.question w.inputs x condition) told) same_k h.right))));
}
