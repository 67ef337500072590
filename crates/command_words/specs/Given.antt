-- What the words of a command line say, by `clap`'s own definition of a simple command's matches.
use Rattle.std.specs.Borrow.{Bor}
use Rattle.std.specs.Prelude.{◌≡◌, ◌≢◌, ◌≤◌, ◌⊎◌, ◌↔◌, ◌∷◌, ◌&&◌, ◌||◌, ℕ, Bool, IsTrue, List, None}
use Rattle.std.specs.Prelude.{Option, Some, codes, [], false, map, option_map, take, true, ⊤}
use Rattle.std.specs.List.{list_any}
use Rattle.std.specs.Str.{bytes_eq}
use Rattle.clap.specs.Words.{Row, Text, all_of, first_of, subcommand_of, fault_of, IsAmong}
use Rattle.clap.specs.Words.{kind_of}
use Rattle.clap.specs.declared.error.Error.{Error}
use Rattle.clap.specs.declared.error.kind.ErrorKind.TheVariants.{OutOfMemory}
use Rattle.run_events.specs.Limits.{max_delta}
use Rattle.command_words.specs.Changes.{FailsByChanges, GivesChanges}
use Rattle.command_words.specs.Commands.{roundc_app}
use Rattle.command_words.specs.Exploring.{FailsByExploring, GivesExploring, GivesOr, HasFlag}
use Rattle.command_words.specs.Exploring.{HasNoValue}
use Rattle.command_words.specs.Inputs.{FailsByInputs, ReadsInputTwice}
use Rattle.command_words.specs.Values.{AnswerFormatText, BlocksText, FormatText, IsNoList}
use Rattle.command_words.specs.Values.{ListText, NumberText, RangeText, SourceText, is_negative}
use Rattle.command_words.specs.declared.drawing.Drawing.{Drawing}
use Rattle.command_words.specs.declared.drawing.RoundRange.{RoundRange}
use Rattle.command_words.specs.declared.forms.AnswerFormat.{AnswerFormat}
use Rattle.command_words.specs.declared.forms.AnswerFormat.TheVariants as answer_format
use Rattle.command_words.specs.declared.forms.Blocks.TheVariants as blocks
use Rattle.command_words.specs.declared.forms.Form.{Form}
use Rattle.command_words.specs.declared.forms.Format.TheVariants as format
use Rattle.command_words.specs.declared.values.Source.{Source}
use Rattle.command_words.specs.declared.words.Words.{Words}
use Rattle.command_words.specs.declared.words.Words.TheVariants.{Check, Draw, Explore, Judge}
use Rattle.command_words.specs.declared.words.Words.TheVariants.{Lockstep, Realise, Rounds, Run}
use Rattle.command_words.specs.declared.words.Words.TheVariants.{Show, Threads, Together}
use Rattle.command_words.specs.declared.words.WordsFault.{WordsFault}
use Rattle.command_words.specs.declared.words.WordsFault.TheVariants.{Refused, Missing, NoMemory}
use Rattle.command_words.specs.declared.words.WordsFault.TheVariants as fault

-- the argument has a value, and it is the text of the source
abbrev pub GivesSource : List Row → Source → Type 0
GivesSource rows source =
    (text : Text) × (first_of (codes "source") rows ≡ Some text) × SourceText text source

-- the option of this name has a value, and it is the text of the list
abbrev pub GivesList : Text → List Row → List ℕ → Type 0
GivesList name rows list = (text : Text) × (first_of name rows ≡ Some text) × ListText text list

-- the option isn't there, and the list is empty, or it has the list as its value
abbrev pub GivesTable : Text → List Row → List ℕ → Type 0
GivesTable name rows list =
    ((first_of name rows ≡ None) × (list ≡ [])) ⊎ GivesList name rows list

-- the argument has a value, and it is the text of a number of 1 to 1,024
abbrev pub GivesDelta : List Row → ℕ → Type 0
GivesDelta rows n = (text : Text) × (first_of (codes "delta") rows ≡ Some text)
    × NumberText text n × (1 ≤ n) × (n ≤ max_delta)

-- the argument has a value, and it is the text of the number
abbrev pub GivesGst : List Row → ℕ → Type 0
GivesGst rows n = (text : Text) × (first_of (codes "gst") rows ≡ Some text) × NumberText text n

-- the argument has this value, or isn't there
abbrev pub GivesTicks : List Row → Option ℕ → Type 0
GivesTicks rows None = first_of (codes "ticks") rows ≡ None
GivesTicks rows (Some n) =
    (text : Text) × (first_of (codes "ticks") rows ≡ Some text) × NumberText text n

-- the arguments have the correct nodes, the bound and the step from which it holds
abbrev pub GivesTerms : List Row → List ℕ → ℕ → ℕ → Type 0
GivesTerms rows correct delta gst =
    GivesList (codes "correct") rows correct × GivesDelta rows delta × GivesGst rows gst

-- `--decided` stands there
abbrev pub IsDecidedAsked : List Row → Type 0
IsDecidedAsked rows = HasFlag (codes "decided") rows

-- the option has this range, or isn't there
abbrev pub GivesRange : List Row → Option RoundRange → Type 0
GivesRange rows None = first_of (codes "rounds") rows ≡ None
GivesRange rows (Some range) =
    (text : Text) × (first_of (codes "rounds") rows ≡ Some text) × RangeText text range

-- what the options of `draw` say; with no `--nodes` the list is empty
pub record GivesDrawing (rows : List Row) (d : Drawing) : Type 0 where
  pub rounds : GivesRange rows d.rounds
  pub nodes : GivesTable (codes "nodes") rows d.nodes.items
  pub grid : IsTrue d.grid ↔ HasFlag (codes "grid") rows
  pub html : IsTrue d.html ↔ HasFlag (codes "html") rows

-- the format of an answer, which is text without `--format`
abbrev pub GivesFormat : List Row → AnswerFormat → Type 0
GivesFormat rows f = GivesOr answer_format.Text (codes "format") AnswerFormatText rows f

-- what the options of a report say; without `--format` it's text, and without `--by` a table's
-- blocks are rounds
pub record GivesForm (rows : List Row) (f : Form) : Type 0 where
  pub format : GivesOr format.Text (codes "format") FormatText rows f.format
  pub blocks : GivesOr blocks.Rounds (codes "by") BlocksText rows f.blocks
  pub variables : first_of (codes "vars") rows ≡ option_map (λ text. text.now) f.variables
  pub changed : IsTrue f.changed ↔ HasFlag (codes "changed") rows
  pub decided : IsTrue f.decided ↔ IsDecidedAsked rows

-- the words of their own are the names of these files
abbrev pub GivesFiles : List Row → List (Bor Text) → Type 0
GivesFiles rows files = all_of (codes "files") rows ≡ Some (map (λ name. name.now) files)

-- the command of this name with these matches is what the words say
abbrev pub Gives : Text → List Row → Words → Type 0
Gives name rows (Check source f) =
    (name ≡ codes "check") × GivesSource rows source × GivesFormat rows f
Gives name rows (Show source) = (name ≡ codes "show") × GivesSource rows source
Gives name rows (Run source schedule form) = (name ≡ codes "run") × GivesSource rows source
    × (first_of (codes "schedule") rows ≡ Some schedule.now) × GivesForm rows form
Gives name rows (Draw source schedule drawing) = (name ≡ codes "draw")
    × GivesSource rows source × (first_of (codes "schedule") rows ≡ Some schedule.now)
    × GivesDrawing rows drawing
Gives name rows (Threads source setup trace decided) = (name ≡ codes "threads")
    × GivesSource rows source × (first_of (codes "setup") rows ≡ Some setup.now)
    × (first_of (codes "trace") rows ≡ Some trace.now)
    × (IsTrue decided ↔ IsDecidedAsked rows)
Gives name rows (Judge source schedule correct delta gst f) = (name ≡ codes "judge")
    × GivesSource rows source × (first_of (codes "schedule") rows ≡ Some schedule.now)
    × GivesTerms rows correct.items delta gst × GivesFormat rows f
Gives name rows (Lockstep source header correct delta gst delays orders ticks changes) =
    (name ≡ codes "lockstep")
    × GivesSource rows source × (first_of (codes "header") rows ≡ Some header.now)
    × GivesTerms rows correct.items delta gst × GivesTable (codes "delays") rows delays.items
    × GivesTable (codes "orders") rows orders.items × GivesTicks rows ticks
    × GivesChanges rows changes × ¬ (ReadsInputTwice rows)
Gives name rows (Realise source header omissions) = (name ≡ codes "realise")
    × GivesSource rows source × (first_of (codes "header") rows ≡ Some header.now)
    × (first_of (codes "omissions") rows ≡ Some omissions.now) × ¬ (ReadsInputTwice rows)
Gives name rows (Rounds source header omissions form) = (name ≡ codes "rounds")
    × GivesSource rows source × (first_of (codes "header") rows ≡ Some header.now)
    × (first_of (codes "omissions") rows ≡ Some omissions.now) × GivesForm rows form
    × ¬ (ReadsInputTwice rows)
Gives name rows (Explore source header exploring f) = (name ≡ codes "explore")
    × GivesSource rows source × (first_of (codes "header") rows ≡ Some header.now)
    × GivesExploring rows exploring × GivesFormat rows f
Gives name rows (Together files) = (name ≡ codes "together") × GivesFiles rows files.items

-- the words name a command, and give it its values
abbrev pub Means : List Text → Words → Type 0
Means words given = (name : Text) × (rows : List Row)
    × (subcommand_of roundc_app words ≡ Some (name, rows)) × Gives name rows given

-- the fault of SOURCE: it has no value, or one that is the text of no source
abbrev pub FailsBySource : List Row → WordsFault → Type 0
FailsBySource rows Missing = first_of (codes "source") rows ≡ None
FailsBySource rows fault.Source = (text : Text) × (first_of (codes "source") rows ≡ Some text)
    × ((source : Source) → ¬ (SourceText text source))
FailsBySource rows _ = ⊥

-- the fault of FILE, the value of this option: it has none
abbrev pub FailsByFile : Text → List Row → WordsFault → Type 0
FailsByFile name rows Missing = first_of name rows ≡ None
FailsByFile name rows _ = ⊥

-- the fault of LIST, the value of this option: it has none, or one that is the text of no list, or
-- there was no memory for the list
abbrev pub FailsByList : Text → List Row → WordsFault → Type 0
FailsByList name rows Missing = first_of name rows ≡ None
FailsByList name rows fault.List =
    (text : Text) × (first_of name rows ≡ Some text) × IsNoList text fault.List
FailsByList name rows NoMemory = ⊤
FailsByList name rows _ = ⊥

-- the fault of an option that may be left out: it has a value that is the text of no list, or there
-- was no memory for the list
abbrev pub FailsByTable : Text → List Row → WordsFault → Type 0
FailsByTable name rows fault.List =
    (text : Text) × (first_of name rows ≡ Some text) × IsNoList text fault.List
FailsByTable name rows NoMemory = ⊤
FailsByTable name rows _ = ⊥

-- the fault of T: it is the text of no number
abbrev pub FailsByTicks : List Row → WordsFault → Type 0
FailsByTicks rows fault.Ticks =
    (text : Text) × (first_of (codes "ticks") rows ≡ Some text) × ((n : ℕ) → ¬ (NumberText text n))
FailsByTicks rows _ = ⊥

-- the fault of D: it has no value, or one that is the text of no number of 1 to 1,024
abbrev pub FailsByDelta : List Row → WordsFault → Type 0
FailsByDelta rows Missing = first_of (codes "delta") rows ≡ None
FailsByDelta rows fault.Delta = (text : Text) × (first_of (codes "delta") rows ≡ Some text)
    × ((n : ℕ) → NumberText text n → 1 ≤ n → ¬ (n ≤ max_delta))
FailsByDelta rows _ = ⊥

-- the fault of G: it has no value, or one that is the text of no number
abbrev pub FailsByGst : List Row → WordsFault → Type 0
FailsByGst rows Missing = first_of (codes "gst") rows ≡ None
FailsByGst rows fault.Gst =
    (text : Text) × (first_of (codes "gst") rows ≡ Some text) × ((n : ℕ) → ¬ (NumberText text n))
FailsByGst rows _ = ⊥

-- the fault of RANGE: it has a text that is that of no range
abbrev pub FailsByRange : List Row → WordsFault → Type 0
FailsByRange rows fault.Range = HasNoValue (codes "rounds") RangeText rows
FailsByRange rows _ = ⊥

-- the fault of an option of `draw`
abbrev pub FailsByDrawing : List Row → WordsFault → Type 0
FailsByDrawing rows fault = FailsByRange rows fault ⊎ FailsByTable (codes "nodes") rows fault

-- the fault of the format of an answer
abbrev pub FailsByFormat : List Row → WordsFault → Type 0
FailsByFormat rows fault.AnswerFormat = HasNoValue (codes "format") AnswerFormatText rows
FailsByFormat rows _ = ⊥

-- the fault of an option of a report
abbrev pub FailsByForm : List Row → WordsFault → Type 0
FailsByForm rows fault.Format = HasNoValue (codes "format") FormatText rows
FailsByForm rows fault.Blocks = HasNoValue (codes "by") BlocksText rows
FailsByForm rows _ = ⊥

-- the fault of a value of `check`
abbrev pub FailsByCheck : List Row → WordsFault → Type 0
FailsByCheck rows fault = FailsBySource rows fault ⊎ FailsByFormat rows fault

-- the fault of a source or a schedule
abbrev pub FailsByRun : List Row → WordsFault → Type 0
FailsByRun rows fault = FailsBySource rows fault ⊎ FailsByFile (codes "schedule") rows fault

-- the fault of a value of `run`
abbrev pub FailsByReport : List Row → WordsFault → Type 0
FailsByReport rows fault = FailsByRun rows fault ⊎ FailsByForm rows fault

-- the fault of a value of `draw`
abbrev pub FailsByDraw : List Row → WordsFault → Type 0
FailsByDraw rows fault = FailsByRun rows fault ⊎ FailsByDrawing rows fault

-- the fault of a value of `threads`
abbrev pub FailsByThreads : List Row → WordsFault → Type 0
FailsByThreads rows fault = FailsBySource rows fault
    ⊎ (FailsByFile (codes "setup") rows fault ⊎ FailsByFile (codes "trace") rows fault)

-- the fault of LIST, D or G
abbrev pub FailsByTerms : List Row → WordsFault → Type 0
FailsByTerms rows fault =
    FailsByList (codes "correct") rows fault ⊎ (FailsByDelta rows fault ⊎ FailsByGst rows fault)

-- the fault of a value of `judge`
abbrev pub FailsByJudge : List Row → WordsFault → Type 0
FailsByJudge rows fault =
    FailsByRun rows fault ⊎ (FailsByTerms rows fault ⊎ FailsByFormat rows fault)

-- the fault of a value of `lockstep`
abbrev pub FailsByLockstep : List Row → WordsFault → Type 0
FailsByLockstep rows fault =
    FailsBySource rows fault
    ⊎ (FailsByFile (codes "header") rows fault
    ⊎ (FailsByTerms rows fault
    ⊎ (FailsByTable (codes "delays") rows fault
    ⊎ (FailsByTable (codes "orders") rows fault
    ⊎ (FailsByTicks rows fault
    ⊎ (FailsByChanges rows fault ⊎ FailsByInputs rows fault))))))

-- the fault of a value of `realise`
abbrev pub FailsByOmissions : List Row → WordsFault → Type 0
FailsByOmissions rows fault = FailsBySource rows fault
    ⊎ (FailsByFile (codes "header") rows fault
    ⊎ (FailsByFile (codes "omissions") rows fault ⊎ FailsByInputs rows fault))

-- the fault of a value of `rounds`
abbrev pub FailsByRounds : List Row → WordsFault → Type 0
FailsByRounds rows fault = FailsByOmissions rows fault ⊎ FailsByForm rows fault

-- the fault of a value of `explore`
abbrev pub FailsByExplore : List Row → WordsFault → Type 0
FailsByExplore rows fault = FailsBySource rows fault
    ⊎ (FailsByFile (codes "header") rows fault
    ⊎ (FailsByExploring rows fault ⊎ FailsByFormat rows fault))

-- the fault of a value of `together`: no file is named, or there was no memory for the names
abbrev pub FailsByFiles : List Row → WordsFault → Type 0
FailsByFiles rows Missing = all_of (codes "files") rows ≡ None
FailsByFiles rows NoMemory = ⊤
FailsByFiles rows _ = ⊥

-- the fault of a command's values; a command of another name lacks all
abbrev pub FailsByValue : Text → List Row → WordsFault → Type 0
FailsByValue name rows fault =
    (((name ≡ codes "check") × FailsByCheck rows fault)
    ⊎ ((name ≡ codes "show") × FailsBySource rows fault))
    ⊎ ((((name ≡ codes "run") × FailsByReport rows fault)
    ⊎ ((name ≡ codes "draw") × FailsByDraw rows fault))
    ⊎ (((name ≡ codes "threads") × FailsByThreads rows fault)
    ⊎ (((name ≡ codes "judge") × FailsByJudge rows fault)
    ⊎ (((name ≡ codes "lockstep") × FailsByLockstep rows fault)
    ⊎ (((name ≡ codes "realise") × FailsByOmissions rows fault)
    ⊎ (((name ≡ codes "rounds") × FailsByRounds rows fault)
    ⊎ (((name ≡ codes "explore") × FailsByExplore rows fault)
    ⊎ (((name ≡ codes "together") × FailsByFiles rows fault)
    ⊎ (((name ≢ codes "check") × (name ≢ codes "show") × (name ≢ codes "run")
    × (name ≢ codes "draw") × (name ≢ codes "threads") × (name ≢ codes "judge")
    × (name ≢ codes "lockstep") × (name ≢ codes "realise") × (name ≢ codes "rounds")
    × (name ≢ codes "explore") × (name ≢ codes "together")) × (fault ≡ Missing))))))))))

-- `clap` finds no mistake in the words, and a value of the command that they name has the fault
abbrev pub HasBadValue : List Text → WordsFault → Type 0
HasBadValue words fault = (fault_of roundc_app words ≡ []) × ((name : Text) × (rows : List Row)
    × (subcommand_of roundc_app words ≡ Some (name, rows)) × FailsByValue name rows fault)

-- the word after the option is a number below 0, which `clap` takes for an option
abbrev pub begins_negative : List Text → Bool
begins_negative [] = false
begins_negative (word ∷ rest) = is_negative word

abbrev pub has_negative : Text → List Text → Bool
has_negative option [] = false
has_negative option (word ∷ rest) =
    (bytes_eq word option && begins_negative rest) || has_negative option rest

-- a number below 0 follows an option that has a list
abbrev pub has_negative_list : List Text → Bool
has_negative_list words = has_negative (codes "--correct") words
    || (has_negative (codes "--delays") words || (has_negative (codes "--orders") words
    || has_negative (codes "--nodes") words))

-- a number below 0 is among the n words after the option
abbrev pub has_negative_among : Text → ℕ → List Text → Bool
has_negative_among option n [] = false
has_negative_among option n (word ∷ rest) =
    (bytes_eq word option && list_any is_negative (take n rest))
    || has_negative_among option n rest

-- a number below 0 is among the values of a stop or of a message's delay
abbrev pub has_negative_change : List Text → Bool
has_negative_change words = has_negative_among (codes "--stop") 2 words
    || has_negative_among (codes "--delay") 4 words

-- a value isn't of its form, or is a number below 0
abbrev pub HasBadNumber : Text → List Text → WordsFault → Type 0
HasBadNumber option words fault = HasBadValue words fault ⊎ (has_negative option words ≡ true)

-- why the words were refused: for one of the kinds of mistake that `clap` finds in them, or it
-- finds none, and a value is missing or isn't of its form; or a number below 0 follows an option
abbrev pub Explains : List Text → WordsFault → Type 0
Explains words (Refused error) = IsAmong (kind_of error) (fault_of roundc_app words)
Explains words fault.List = HasBadValue words fault.List ⊎ (has_negative_list words ≡ true)
Explains words fault.Delta = HasBadNumber (codes "--delta") words fault.Delta
Explains words fault.Gst = HasBadNumber (codes "--gst") words fault.Gst
Explains words fault.Ticks = HasBadNumber (codes "--ticks") words fault.Ticks
Explains words fault.Clear = HasBadNumber (codes "--clear") words fault.Clear
Explains words fault.Hears = HasBadNumber (codes "--hears") words fault.Hears
Explains words fault.Part = HasBadNumber (codes "--part") words fault.Part
Explains words fault.Jobs = HasBadNumber (codes "--jobs") words fault.Jobs
Explains words fault.Sample = HasBadNumber (codes "--sample") words fault.Sample
Explains words fault.Seed = HasBadNumber (codes "--seed") words fault.Seed
Explains words fault.Range = HasBadNumber (codes "--rounds") words fault.Range
Explains words fault.Change =
    HasBadValue words fault.Change ⊎ (has_negative_change words ≡ true)
Explains words NoMemory = ⊤
Explains words fault = HasBadValue words fault

-- what the code makes of an error of `clap`
abbrev pub IsMistake : List Text → Error → WordsFault → Type 0
IsMistake words error (Refused e) = (e ≡ error) × (kind_of error ≢ OutOfMemory)
IsMistake words error fault.List = has_negative_list words ≡ true
IsMistake words error fault.Delta = has_negative (codes "--delta") words ≡ true
IsMistake words error fault.Gst = has_negative (codes "--gst") words ≡ true
IsMistake words error fault.Ticks = has_negative (codes "--ticks") words ≡ true
IsMistake words error fault.Clear = has_negative (codes "--clear") words ≡ true
IsMistake words error fault.Hears = has_negative (codes "--hears") words ≡ true
IsMistake words error fault.Part = has_negative (codes "--part") words ≡ true
IsMistake words error fault.Jobs = has_negative (codes "--jobs") words ≡ true
IsMistake words error fault.Sample = has_negative (codes "--sample") words ≡ true
IsMistake words error fault.Seed = has_negative (codes "--seed") words ≡ true
IsMistake words error fault.Range = has_negative (codes "--rounds") words ≡ true
IsMistake words error fault.Change = has_negative_change words ≡ true
IsMistake words error NoMemory = kind_of error ≡ OutOfMemory
IsMistake words error _ = ⊥
