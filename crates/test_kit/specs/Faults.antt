-- Why a test program has no answer, and how it says so.
use Rattle.std.specs.Prelude.{ℕ, List, codes}
use Rattle.std.specs.declared.io.ErrorKind.{ErrorKind}
use Rattle.std.specs.declared.io.ErrorKind.TheVariants as io
use Rattle.round_lang.specs.declared.fault.LangFault.{LangFault}
use Rattle.round_lang.specs.declared.fault.LangFault.TheVariants as lang
use Rattle.round_check.specs.declared.fault.CheckFault.{CheckFault}
use Rattle.round_check.specs.declared.fault.CheckFault.TheVariants as checked
use Rattle.algorithm_library.specs.declared.fault.LibraryFault.{LibraryFault}
use Rattle.algorithm_library.specs.declared.fault.LibraryFault.TheVariants as library
use Rattle.test_kit.specs.declared.fault.Fault.{Fault}
use Rattle.test_kit.specs.declared.fault.Fault.TheVariants.{NoMemory, Unreadable}

-- the exit status
abbrev pub status_of : Fault → ℕ
status_of Unreadable = 2
status_of NoMemory = 3

-- the text of the line that standard error gets
abbrev pub fault_text : Fault → List ℕ
fault_text Unreadable = codes "error: these words ask nothing"
fault_text NoMemory = codes "no memory"

-- a failed read or write, of this kind
abbrev pub io_fault : ErrorKind → Fault
io_fault io.OutOfMemory = NoMemory
io_fault _ = Unreadable

-- a text that is no program
abbrev pub lang_fault : LangFault → Fault
lang_fault lang.NoMemory = NoMemory
lang_fault _ = Unreadable

-- a program that is refused
abbrev pub check_fault : CheckFault → Fault
check_fault checked.NoMemory = NoMemory
check_fault _ = Unreadable

-- a program that the library refuses
abbrev pub library_fault : LibraryFault → Fault
library_fault library.NoMemory = NoMemory
library_fault _ = Unreadable
