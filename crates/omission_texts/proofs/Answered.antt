-- What was returned shows what a text says.
use Rattle.std.proofs.Common.{◌≡◌, ℕ, ◌≤◌, List, length, Ok, Err, sym, ◌∙◌, subst}
use Rattle.std.specs.Str.Lines.{lines}
use Rattle.schedule_text.specs.Texts.{max_text}
use Rattle.schedule_text.specs.declared.fault.ScheduleFault.{ScheduleFault}
use Rattle.schedule_text.specs.declared.fault.ScheduleFault.TheVariants as fault
use Rattle.omission_texts.specs.declared.fault.LineFault.{LineFault}
use Rattle.omission_texts.specs.declared.fault.LineFault.TheVariants as line
use Rattle.omission_texts.specs.declared.line.OmissionLine.{OmissionLine}
use Rattle.omission_texts.specs.Forms.{GivesAnswer, GivesLines, TakesLine, at_line, from_line}
use Rattle.omission_texts.specs.Forms.{said_by}
use Rattle.omission_texts.specs.Readings.{Answer, IsRead, IsReading}
use Rattle.omission_texts.proofs.Readings.{complete, short_told, sound}

-- a line's fault is that of the text
pub fault_gives : (f : LineFault) (n : ℕ) (l : List ℕ) (old new : List OmissionLine)
    (answer : Answer) → TakesLine (Err f) l old new
    → (said_by l old ≡ Err f → answer ≡ Err (at_line n f)) → GivesLines (Err (at_line n f)) answer
fault_gives line.Bad n l old new answer h more = more h
fault_gives line.Large n l old new answer h more = more h
fault_gives line.NoMemory n l old new answer h more = tt

module _ (text : List ℕ) (short : length text ≤ max_text) where
  abbrev said : Answer
  said = from_line 1 (lines text)

  reading : (a : Answer) → said ≡ a → IsReading text a
  reading a e = subst (IsReading text) (short_told text short ∙ e) (sound text)

  only : (a answer : Answer) → said ≡ a → IsReading text answer → answer ≡ a
  only a answer e h = sym (complete text answer h) ∙ short_told text short ∙ e

  pub ok_read : (xs : List OmissionLine) → said ≡ Ok xs → IsReading text (Ok xs)
  ok_read xs e = reading (Ok xs) e

  pub ok_only : (xs : List OmissionLine) → said ≡ Ok xs → (answer : Answer) → IsReading text answer
      → answer ≡ Ok xs
  ok_only xs e answer h = only (Ok xs) answer e h

  pub fault_read : (f : ScheduleFault) → GivesLines (Err f) said → IsRead text (Err f)
  fault_read (fault.BadLine n) h = reading (Err (fault.BadLine n)) h
  fault_read (fault.NumberTooLarge n) h = reading (Err (fault.NumberTooLarge n)) h
  fault_read fault.TooLong h = reading (Err fault.TooLong) h
  fault_read fault.NoMemory h = tt

  pub fault_only : (f : ScheduleFault) → GivesLines (Err f) said → (answer : Answer)
      → IsReading text answer → GivesAnswer (Err f) answer
  fault_only (fault.BadLine n) h answer g = only (Err (fault.BadLine n)) answer h g
  fault_only (fault.NumberTooLarge n) h answer g = only (Err (fault.NumberTooLarge n)) answer h g
  fault_only fault.TooLong h answer g = only (Err fault.TooLong) answer h g
  fault_only fault.NoMemory h answer g = tt
