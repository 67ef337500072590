-- The failure that is answered first was found.
use Rattle.std.proofs.Common.{List, [], ◌∷◌, Option, None, Some, inl, inr, subst}
use Rattle.std.specs.Prelude.{All}
use Rattle.std.proofs.lemmas.List.Elements.{All-head, All-tail}
use Rattle.command_words.specs.declared.searching.SampleChoice.{SampleChoice}
use Rattle.exploration_texts.specs.Asking.{inputs_of, question_of}
use Rattle.exploration_texts.specs.Told.{IsAnswer, IsFirstNo, IsNamed, IsRightOf}
use Rattle.exploration_texts.specs.declared.told.Answered.TheVariants.{Fails}
use Rattle.part_answers.specs.declared.property.Property.{Property as PropertyName}
use Rattle.exploration_texts.specs.declared.told.Told.{Told}
use Rattle.round_explorer.specs.declared.answer.Counterexample.{Counterexample}
use Rattle.round_explorer.specs.declared.property.Property.{Property}
use Rattle.round_explorer.specs.declared.question.AskedInputs.{AskedInputs}
use Rattle.round_explorer.specs.declared.question.Question.{Question}
use Rattle.round_lang.specs.Syntax.{ProgramTree}
use Rattle.round_lang.specs.Tree.{Tree}
use Rattle.round_meaning.specs.Omissions.{is_omitted}
use Rattle.round_meaning.specs.declared.setup.Setup.{Setup}
use Rattle.run_samples.specs.Found.{IsFound}
use Rattle.answer_laws.specs.Answered.{AnsweredFailuresAreFound}

module _ (p : ProgramTree) (s : Setup) (question : Question) (inputs : AskedInputs)
    (condition : Option Tree) where
  found_by : (sample : Option SampleChoice) (x : Property) (c : Counterexample)
      → IsAnswer p s question inputs sample x (Fails c) → IsFound p s question inputs x c
  found_by None x c h = record {
    is_asked = h.is_asked;
    begun = h.begun;
    past = h.past;
    fails = h.fails;
    first = λ k l. h.first k l c.inputs c.failures.items (is_omitted c.omissions) h.is_asked;
  }
  found_by (Some sample) x c h = h

  first_found : (sample : Option SampleChoice) (told : List Told) (name : PropertyName)
      (c : Counterexample) → All (IsRightOf p s question inputs sample condition) told
      → IsFirstNo told name c
      → (x : Property) × IsNamed condition name x × IsFound p s question inputs x c
  first_found sample [] name c right none = absurd none
  first_found sample (t ∷ ts) name c right (inl e) =
      let of = subst (IsRightOf p s question inputs sample condition) e
      (All-head (IsRightOf p s question inputs sample condition) t ts right) in
      (of.0, of.1, found_by sample of.0 c of.2)
  first_found sample (t ∷ ts) name c right (inr rest) = first_found sample ts name c
      (All-tail (IsRightOf p s question inputs sample condition) t ts right) rest.1

pub answered_failures_are_found : AnsweredFailuresAreFound
answered_failures_are_found p s e told name c answers fails =
    first_found p s (question_of e) (inputs_of e) answers.condition e.sample told name c
    answers.right fails
