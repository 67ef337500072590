-- The line that each refusal has on standard error, and the exit status.
use Rattle.std.specs.Prelude.{ℕ, ◌+◌, ◌++◌, List, Option, Some, codes, min}
use Rattle.std.specs.Fmt.{decimal}
use Rattle.adversary.specs.declared.fault.RunFault.{RunFault}
use Rattle.adversary.specs.declared.fault.RunFault.TheVariants as run
use Rattle.algorithm_library.specs.declared.fault.LibraryFault.{LibraryFault}
use Rattle.algorithm_library.specs.declared.fault.LibraryFault.TheVariants as library
use Rattle.command_runs.specs.declared.part_refusal.PartRefusal.{PartRefusal}
use Rattle.command_runs.specs.declared.part_refusal.PartRefusal.TheVariants as part
use Rattle.command_runs.specs.declared.refusal.Refusal.{Refusal}
use Rattle.command_runs.specs.declared.refusal.Refusal.TheVariants.{Words, File, Source, Check}
use Rattle.command_runs.specs.declared.refusal.Refusal.TheVariants.{Condition}
use Rattle.command_runs.specs.declared.refusal.Refusal.TheVariants.{Schedule, Library}
use Rattle.command_runs.specs.declared.refusal.Refusal.TheVariants.{NoSuchProgram, Run, Write}
use Rattle.command_runs.specs.declared.refusal.Refusal.TheVariants.{NoMemory, NodeNoMemory}
use Rattle.command_runs.specs.declared.refusal.Refusal.TheVariants.{NoVariable, Part, Trace}
use Rattle.command_runs.specs.declared.trace_fault.TraceFault.{TraceFault}
use Rattle.command_runs.specs.declared.trace_fault.TraceFault.TheVariants as trace
use Rattle.command_words.specs.Lines.{words_line}
use Rattle.exploration_texts.specs.Lines.{condition_text}
use Rattle.part_answers.specs.declared.joining.PartsFault.{PartsFault}
use Rattle.part_answers.specs.declared.joining.PartsFault.TheVariants as parts
use Rattle.round_check.specs.declared.fault.CheckFault.{CheckFault}
use Rattle.round_check.specs.declared.fault.CheckFault.TheVariants as check
use Rattle.round_lang.specs.declared.fault.LangFault.{LangFault}
use Rattle.round_lang.specs.declared.fault.LangFault.TheVariants as lang
use Rattle.schedule_text.specs.declared.fault.ScheduleFault.{ScheduleFault}
use Rattle.schedule_text.specs.declared.fault.ScheduleFault.TheVariants as schedule

-- out of memory, whatever asked for it
abbrev pub memory_line : List ℕ
memory_line = codes "no memory\n"

-- a text that is no program, with the place of what is wrong
abbrev pub source_line : LangFault → List ℕ
source_line (lang.BadToken span) = codes "refused source 1 at " ++ decimal span.first ++ codes " "
    ++ decimal span.after ++ codes "\n"
source_line (lang.Unexpected span) = codes "refused source 2 at " ++ decimal span.first ++ codes " "
    ++ decimal span.after ++ codes "\n"
source_line lang.TooDeep = codes "refused source 3\n"
source_line lang.TooLong = codes "refused source 4\n"
source_line (lang.LimitPassed span) = codes "refused source 5 at " ++ decimal span.first
    ++ codes " " ++ decimal span.after ++ codes "\n"
source_line lang.NoMemory = memory_line

-- the causes of a program that isn't typed, by their numbers
abbrev pub check_line : CheckFault → List ℕ
check_line check.UnknownName = codes "refused check 1\n"
check_line check.DoubleName = codes "refused check 2\n"
check_line check.WrongType = codes "refused check 3\n"
check_line check.FieldCount = codes "refused check 4\n"
check_line check.NotAllowedHere = codes "refused check 5\n"
check_line check.NoInput = codes "refused check 6\n"
check_line check.NoDecision = codes "refused check 7\n"
check_line check.MissingRound = codes "refused check 8\n"
check_line check.NoMemory = memory_line

-- a text that is no schedule, with the number of its line
abbrev pub schedule_line : ScheduleFault → List ℕ
schedule_line (schedule.BadLine n) = codes "refused schedule 1 at " ++ decimal n ++ codes "\n"
schedule_line (schedule.NumberTooLarge n) =
    codes "refused schedule 2 at " ++ decimal n ++ codes "\n"
schedule_line schedule.TooLong = codes "refused schedule 3\n"
schedule_line schedule.NoMemory = memory_line

-- numbers for which the library has no program
abbrev pub library_line : LibraryFault → List ℕ
library_line library.TooFew = codes "refused library 1\n"
library_line library.BadValues = codes "refused library 2\n"
library_line library.NoMemory = memory_line

-- a schedule that isn't run, with the position of its event, or threads without a journal
abbrev pub run_line : RunFault → List ℕ
run_line run.BadSetup = codes "refused run 1\n"
run_line (run.UnknownNode k) = codes "refused run 2 at " ++ decimal k ++ codes "\n"
run_line (run.UnknownMessage k) = codes "refused run 3 at " ++ decimal k ++ codes "\n"
run_line run.NoMemory = memory_line
run_line run.NoThread = codes "refused run 5\n"
run_line run.Unmatched = codes "refused run 6\n"

-- why a table isn't made
abbrev pub no_variable : List ℕ
no_variable = codes "LIST of --vars is names of the program's variables with commas between them"

-- the number of a file in the order of the words, which are counted from 1
abbrev pub file_number : ℕ → ℕ
file_number place = min (place + 1) 18446744073709551615

-- why parts make no whole
abbrev pub parts_line : PartsFault → List ℕ
parts_line parts.NoParts = codes "refused part 5\n"
parts_line (parts.Other place) =
    codes "refused part 2 at " ++ decimal (file_number place) ++ codes "\n"
parts_line (parts.Twice n) = codes "refused part 3 at " ++ decimal n ++ codes "\n"
parts_line (parts.Missing n) = codes "refused part 4 at " ++ decimal n ++ codes "\n"
parts_line parts.NoMemory = memory_line

-- or a file has no part's answers, with the number of the file and of its line
abbrev pub part_line : PartRefusal → List ℕ
part_line (part.Line place n) =
    codes "refused part 1 at " ++ decimal (file_number place) ++ codes " " ++ decimal n
    ++ codes "\n"
part_line (part.Parts fault) = parts_line fault

-- why a trace isn't written that no command would read
abbrev pub long_trace : List ℕ
long_trace = codes "the schedule of this run has more than 16777216 bytes, and no command reads it"

-- that the trace of a search isn't written
abbrev pub trace_line : TraceFault → List ℕ
trace_line trace.Unwritten = codes "refused write\n"
trace_line trace.TooLong = codes "refused trace: " ++ long_trace ++ codes "\n"
trace_line trace.NoMemory = memory_line

-- the line of a refusal, if it isn't `clap`'s own text
abbrev pub line_of : Refusal → Option (List ℕ)
line_of (Words fault) = words_line fault
line_of File = Some (codes "refused file\n")
line_of (Source fault) = Some (source_line fault)
line_of (Check fault) = Some (check_line fault)
line_of (Condition fault) =
    Some (codes "refused always " ++ condition_text fault ++ codes "\n")
line_of (Schedule fault) = Some (schedule_line fault)
line_of (Library fault) = Some (library_line fault)
line_of NoSuchProgram = Some (codes "refused library 3\n")
line_of (Run fault) = Some (run_line fault)
line_of (Part cause) = Some (part_line cause)
line_of NoVariable = Some (codes "refused table: " ++ no_variable ++ codes "\n")
line_of (Trace fault) = Some (trace_line fault)
line_of Write = Some (codes "refused write\n")
line_of NoMemory = Some memory_line
line_of NodeNoMemory = Some memory_line

-- 1 refused input, 2 a bad command line, 3 no memory
abbrev pub status_of : Refusal → ℕ
status_of (Words cause) = 2
status_of (Trace trace.NoMemory) = 3
status_of NoMemory = 3
status_of NodeNoMemory = 3
status_of _ = 1
