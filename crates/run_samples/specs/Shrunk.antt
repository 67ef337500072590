-- What becomes of a failure whose omissions are left out as far as they can be.
use Rattle.std.specs.Prelude.{◌≡◌, ℕ, ◌≤◌, true}
use Rattle.round_lang.specs.Syntax.{ProgramTree}
use Rattle.round_meaning.specs.declared.setup.Setup.{Setup}
use Rattle.round_meaning.specs.Omissions.{is_omitted}
use Rattle.round_explorer.specs.declared.answer.Counterexample.{Counterexample}
use Rattle.round_explorer.specs.declared.property.Property.{Property}
use Rattle.round_explorer.specs.declared.question.AskedInputs.{AskedInputs}
use Rattle.round_explorer.specs.declared.question.Question.{Question}
use Rattle.round_explorer.specs.Answers.{IsFirstFailure}
use Rattle.run_samples.specs.Found.{IsFound}

-- the new one has the old one's round, inputs and failures, and up to that round no omission that
-- the old one doesn't have
pub record IsPartOf (old new : Counterexample) : Type 0 where
  pub round : new.round ≡ old.round
  pub inputs : new.inputs ≡ old.inputs
  pub failures : new.failures.items ≡ old.failures.items
  pub omissions : (i q j : ℕ) → q ≤ old.round → is_omitted new.omissions i q j ≡ true
      → is_omitted old.omissions i q j ≡ true

-- if the old one is found in a run that's asked about, so is the new one; and if the old one is a
-- failure before whose round the property holds in all runs that are asked about, so is the new one
pub record StaysFailure (p : ProgramTree) (s : Setup) (question : Question) (property : Property)
    (old new : Counterexample) : Type 0 where
  pub found : (asked : AskedInputs) → IsFound p s question asked property old
      → IsFound p s question asked property new
  pub first : (asked : AskedInputs) → IsFirstFailure p s question asked property old
      → IsFirstFailure p s question asked property new
