-- The failure that is answered first was found.
use Rattle.std.specs.Prelude.{List}
use Rattle.command_words.specs.declared.exploring.Exploring.{Exploring}
use Rattle.exploration_texts.specs.Asking.{inputs_of, question_of}
use Rattle.exploration_texts.specs.Told.{AreAnswers, IsFirstNo, IsNamed}
use Rattle.part_answers.specs.declared.property.Property.{Property as PropertyName}
use Rattle.exploration_texts.specs.declared.told.Told.{Told}
use Rattle.round_explorer.specs.declared.answer.Counterexample.{Counterexample}
use Rattle.round_explorer.specs.declared.property.Property.{Property}
use Rattle.round_lang.specs.Syntax.{ProgramTree}
use Rattle.round_meaning.specs.declared.setup.Setup.{Setup}
use Rattle.run_samples.specs.Found.{IsFound}

-- the answer to the first property that fails is a failure of it, whether a search or a sample
-- found it
abbrev pub AnsweredFailuresAreFound : Type 0
AnsweredFailuresAreFound =
    (p : ProgramTree) (s : Setup) (e : Exploring) (told : List Told) (name : PropertyName)
    (c : Counterexample) → (answers : AreAnswers p s e told) → IsFirstNo told name c
    → (property : Property) × IsNamed answers.condition name property
    × IsFound p s (question_of e) (inputs_of e) property c
