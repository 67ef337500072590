-- Marks as a book keeps them.
use Rattle.std.specs.Prelude.{◌≡◌, ℕ, zero, suc, ◌+◌, ◌<◌, ◌^◌, refl}
use Rattle.step_book.specs.declared.mark.Mark.{Mark}
use Rattle.step_book.specs.declared.mark.Mark.TheVariants.{Unsent, Silent, Flying, Released, Lost}

-- the mark of a code: from 4 on, of a release after so many steps of the receiver less 4
abbrev pub mark_by : ℕ → Mark
mark_by zero = Unsent
mark_by (suc zero) = Silent
mark_by (suc (suc zero)) = Flying
mark_by (suc (suc (suc zero))) = Lost
mark_by (suc (suc (suc (suc count)))) = Released count

-- the code of a mark
abbrev pub code_of : Mark → ℕ
code_of Unsent = 0
code_of Silent = 1
code_of Flying = 2
code_of Lost = 3
code_of (Released count) = suc (suc (suc (suc count)))

-- no two codes are of one mark
pub code_back : (code : ℕ) → code_of (mark_by code) ≡ code
code_back zero = refl
code_back (suc zero) = refl
code_back (suc (suc zero)) = refl
code_back (suc (suc (suc zero))) = refl
code_back (suc (suc (suc (suc count)))) = refl

-- the mark has a code of 32 bits
abbrev pub IsShort : Mark → Type 0
IsShort Unsent = Unit {0}
IsShort Silent = Unit {0}
IsShort Flying = Unit {0}
IsShort (Released count) = 4 + count < 2 ^ 32
IsShort Lost = Unit {0}
