-- What was returned is the text's reading.
use Rattle.std.proofs.Common.{ℕ, List, Result, Ok, Err, sym, subst, ◌∙◌}
use Rattle.schedule_text.specs.declared.kind.Kind.{Kind}
use Rattle.schedule_text.specs.declared.fault.ScheduleFault.{ScheduleFault}
use Rattle.schedule_text.specs.declared.fault.ScheduleFault.TheVariants as fault
use Rattle.schedule_text.specs.declared.draft.Draft.{Draft}
use Rattle.schedule_text.specs.Outcome.{GivesEnd, GivesOf, IsReadOf, state_of}
use Rattle.schedule_text.specs.Readings.{AnswerOf, IsReadingOf, ReadOf}
use Rattle.schedule_text.specs.Stages.{answer_at_end, answer_of}
use Rattle.schedule_text.proofs.OneReading.{one_reading}
use Rattle.schedule_text.proofs.Sound.{sound}

module _ {A : Type 0} (kind : Kind) (show : A
    → ReadOf kind) (text : List ℕ) (said : AnswerOf kind) (is : IsReadingOf kind text said) where
  read : (r : Result A ScheduleFault) → GivesOf kind show r said → IsReadOf kind show text r
  read (Ok s) g = subst (λ (a : AnswerOf kind). IsReadingOf kind text a) g is
  read (Err (fault.BadLine n)) g = subst (λ (a : AnswerOf kind). IsReadingOf kind text a) g is
  read (Err (fault.NumberTooLarge n)) g =
      subst (λ (a : AnswerOf kind). IsReadingOf kind text a) g is
  read (Err fault.TooLong) g = subst (λ (a : AnswerOf kind). IsReadingOf kind text a) g is
  read (Err fault.NoMemory) g = tt

  only : (r : Result A ScheduleFault) → GivesOf kind show r said → (a : AnswerOf kind)
      → IsReadingOf kind text a → GivesOf kind show r a
  only (Ok s) g a h = one_reading kind text a said h is ∙ g
  only (Err (fault.BadLine n)) g a h = one_reading kind text a said h is ∙ g
  only (Err (fault.NumberTooLarge n)) g a h = one_reading kind text a said h is ∙ g
  only (Err fault.TooLong) g a h = one_reading kind text a said h is ∙ g
  only (Err fault.NoMemory) g a h = tt

module _ {A : Type 0} (kind : Kind) (show : A → ReadOf kind) (text : List ℕ) where
  fault_given : (e : ScheduleFault) → GivesEnd kind (Err e) (answer_of kind text)
      → GivesOf kind show (Err e) (answer_of kind text)
  fault_given (fault.BadLine n) g = g
  fault_given (fault.NumberTooLarge n) g = g
  fault_given fault.TooLong g = g
  fault_given fault.NoMemory g = tt

  -- the text has a fault
  pub fault_read : (e : ScheduleFault) → GivesEnd kind (Err e) (answer_of kind text)
      → IsReadOf kind show text (Err e)
  fault_read e g = read kind show text (answer_of kind text) (sound kind text) (Err e)
      (fault_given e g)

  pub fault_only : (e : ScheduleFault) → GivesEnd kind (Err e) (answer_of kind text)
      → (a : AnswerOf kind) → IsReadingOf kind text a → GivesOf kind show (Err e) a
  fault_only e g = only kind show text (answer_of kind text) (sound kind text) (Err e)
      (fault_given e g)

  -- its lines were taken in, and this is made of them
  module _ (d : Draft × ℕ) (r : Result A ScheduleFault)
      (end : GivesEnd kind (Ok d) (answer_of kind text))
      (ended : GivesOf kind show r (answer_at_end kind d.1 d.0.stage (state_of d.0))) where
    given : GivesOf kind show r (answer_of kind text)
    given = subst (λ (a : AnswerOf kind). GivesOf kind show r a) (sym end) ended

    pub end_read : IsReadOf kind show text r
    end_read = read kind show text (answer_of kind text) (sound kind text) r given

    pub end_only : (a : AnswerOf kind) → IsReadingOf kind text a → GivesOf kind show r a
    end_only = only kind show text (answer_of kind text) (sound kind text) r given
