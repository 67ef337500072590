-- That a schedule can show each run that is told of.
use Rattle.std.proofs.Common.{◌≡◌, ◌∙◌, ◌≤◌, ◌∷◌, [], ℕ, All, List, None, Option, Some, ap, arith}
use Rattle.std.proofs.Common.{false, get_or, inl, inr, length, refl, subst, suc}
use Rattle.command_words.specs.declared.exploring.Exploring.{Exploring}
use Rattle.command_words.specs.declared.searching.SampleChoice.{SampleChoice}
use Rattle.exploration_texts.specs.Asking.{inputs_of, question_of}
use Rattle.exploration_texts.specs.Stops.{CanBeShown, IsShowable, IsToldToShow}
use Rattle.exploration_texts.specs.Told.{AreAnswers, IsAnswer, IsFirstNo, IsRightOf, all_hold}
use Rattle.exploration_texts.specs.declared.told.Answered.{Answered}
use Rattle.exploration_texts.specs.declared.told.Answered.TheVariants.{Fails, Holds}
use Rattle.exploration_texts.specs.declared.told.Answered.TheVariants.{HoldsInAllRounds, NotFound}
use Rattle.exploration_texts.specs.declared.told.Told.{Told}
use Rattle.part_answers.specs.declared.property.Property.{Property as PropertyName}
use Rattle.round_explorer.specs.Answers.{IsAsked}
use Rattle.round_explorer.specs.Questions.{AreAsked}
use Rattle.round_explorer.specs.declared.answer.Counterexample.{Counterexample}
use Rattle.round_explorer.specs.declared.property.Property.{Property}
use Rattle.round_explorer.specs.declared.question.AskedInputs.{AskedInputs}
use Rattle.round_explorer.specs.declared.question.AskedInputs.TheVariants.{Any, Header, Part}
use Rattle.round_explorer.specs.declared.question.Question.{Question}
use Rattle.round_lang.specs.Syntax.{ProgramTree}
use Rattle.round_lang.specs.Tree.{Tree}
use Rattle.round_meaning.specs.Omissions.{is_omitted}
use Rattle.round_meaning.specs.Setups.{IsSetup}
use Rattle.round_meaning.specs.declared.setup.Setup.{Setup}

inputs_many : (values : ℕ) (s : Setup) (asked : AskedInputs) (inputs : List ℕ) → IsSetup s
    → AreAsked values s asked inputs → length inputs ≡ s.nodes
inputs_many values s Header inputs sized h = ap length h ∙ sized.inputs
inputs_many values s Any inputs sized h = h.0
inputs_many values s (Part part) inputs sized h = h.0.0

module _ (p : ProgramTree) (s : Setup) (sized : IsSetup s) (question : Question)
    (asked : AskedInputs) where
  asked_shown : (c : Counterexample) → IsAsked p s question asked c.inputs c.failures.items
      (is_omitted c.omissions) → c.round ≤ s.rounds → IsShowable s c
  asked_shown c h past = record {
    inputs = inputs_many p.values s asked c.inputs sized h.are_asked;
    past = past;
  }

  right_shown : (sample : Option SampleChoice) (x : Property) (a : Answered)
      → IsAnswer p s question asked sample x a → CanBeShown s a
  right_shown sample x Holds h = tt
  right_shown sample x HoldsInAllRounds h = tt
  right_shown sample x (NotFound n) h = tt
  right_shown None x (Fails c) h = asked_shown c h.is_asked h.past
  right_shown (Some sample) x (Fails c) h = asked_shown c h.is_asked h.past

  told_shown : (sample : Option SampleChoice) (condition : Option Tree) (t : Told)
      → IsRightOf p s question asked sample condition t → IsToldToShow s t
  told_shown sample condition t (x, named, right) = right_shown sample x t.answer right

-- all answers can be shown
pub answers_shown : (p : ProgramTree) (s : Setup) (e : Exploring) (told : List Told) → IsSetup s
    → AreAnswers p s e told → All (IsToldToShow s) told
answers_shown p s e told sized h k d lt =
    told_shown p s sized (question_of e) (inputs_of e) e.sample h.condition (get_or told k d)
    (h.right k d lt)

-- and the first that fails is one of them
pub first_shown : (s : Setup) (told : List Told) (name : PropertyName) (c : Counterexample)
    → All (IsToldToShow s) told → IsFirstNo told name c → IsShowable s c
first_shown s [] name c all h = absurd h
first_shown s (t ∷ ts) name c all (inl same) =
    subst (IsToldToShow s) same (all 0 t (omega arith))
first_shown s (t ∷ ts) name c all (inr (held, later)) =
    first_shown s ts name c (λ k d lt. all (suc k) d (omega (arith, lt))) later

-- if one fails, not all hold
pub first_no : (told : List Told) (name : PropertyName) (c : Counterexample)
    → IsFirstNo told name c → all_hold told ≡ false
first_no [] name c h = absurd h
first_no (t ∷ ts) name c (inl same) = rw same refl
first_no (t ∷ ts) name c (inr (held, later)) = rw held (first_no ts name c later)
