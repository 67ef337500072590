-- The question of a search, as a text whose digest names it.
use Rattle.std.specs.Borrow.{Bor}
use Rattle.std.specs.Prelude.{◌++◌, ℕ, Bool, List, None, Option, Some, codes, length}
use Rattle.std.specs.Prelude.{false, true}
use Rattle.std.specs.Fmt.{decimal}
use Rattle.command_words.specs.declared.exploring.Checks.{Checks}
use Rattle.command_words.specs.declared.exploring.Exploring.{Exploring}
use Rattle.command_words.specs.declared.exploring.FaultChoice.{FaultChoice}
use Rattle.command_words.specs.declared.exploring.FaultChoice.TheVariants as faults
use Rattle.round_meaning.specs.declared.setup.Setup.{Setup}

abbrev pub word_of : Bool → List ℕ
word_of true = codes "yes"
word_of false = codes "no"

abbrev pub faults_word : FaultChoice → List ℕ
faults_word faults.Nobody = codes "none"
faults_word faults.Omission = codes "omission"
faults_word faults.Crash = codes "crash"

-- C, or `-`
abbrev pub clear_text : Option ℕ → List ℕ
clear_text None = codes "-"
clear_text (Some round) = decimal round

-- EXPR behind its length
abbrev pub always_text : Option (Bor (List ℕ)) → List ℕ
always_text None = codes "-"
always_text (Some text) = decimal (length text.now) ++ codes " " ++ text.now

-- the numbers of the header
abbrev pub header_words : Setup → List ℕ
header_words s =
    codes "nodes " ++ decimal s.nodes ++ codes " faults " ++ decimal s.faults
    ++ codes " rounds " ++ decimal s.rounds

-- which runs are asked about
abbrev pub runs_words : Exploring → List ℕ
runs_words e =
    codes " fail " ++ faults_word e.faults ++ codes " clear " ++ clear_text e.clear
    ++ codes " hears " ++ decimal e.hears

-- which properties of safety are asked
abbrev pub safety_words : Checks → List ℕ
safety_words c =
    codes " agreement " ++ word_of c.agreement ++ codes " validity " ++ word_of c.validity
    ++ codes " final " ++ word_of c.finality

-- what is asked beside them
abbrev pub others_words : Exploring → List ℕ
others_words e =
    codes " termination " ++ word_of e.checks.termination ++ codes " always "
    ++ always_text e.always ++ codes "\n"

-- all that the answers of a search depend on but for the inputs: the numbers of the header, what is
-- asked of which runs, and behind that the text of the source
abbrev pub question_text : (source : List ℕ) → Setup → Exploring → List ℕ
question_text source s e =
    (((header_words s ++ runs_words e) ++ safety_words e.checks) ++ others_words e) ++ source
