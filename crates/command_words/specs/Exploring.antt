-- The options of `explore`: what is asked, and of which runs.
use Rattle.std.specs.Prelude.{◌≡◌, ◌≤◌, ◌⊎◌, ◌||◌, ◌↔◌, ◌∷◌, [], ℕ, Bool, List, None, Option}
use Rattle.std.specs.Prelude.{IsTrue, Some, codes, false, option_map, true}
use Rattle.std.specs.List.{list_all, slice_split}
use Rattle.std.specs.Str.{bytes_eq}
use Rattle.clap.specs.Words.{Row, Text, first_of}
use Rattle.command_words.specs.Headers.{GivesInputs}
use Rattle.command_words.specs.Searching.{FailsBySearching, GivesJobs, GivesPart, GivesSample}
use Rattle.command_words.specs.Values.{NumberText, is_comma}
use Rattle.command_words.specs.declared.exploring.Checks.{Checks}
use Rattle.command_words.specs.declared.exploring.Exploring.{Exploring}
use Rattle.command_words.specs.declared.exploring.FaultChoice.{FaultChoice}
use Rattle.command_words.specs.declared.exploring.FaultChoice.TheVariants as faults
use Rattle.command_words.specs.declared.exploring.InputChoice.{InputChoice}
use Rattle.command_words.specs.declared.exploring.InputChoice.TheVariants as inputs
use Rattle.command_words.specs.declared.words.WordsFault.{WordsFault}
use Rattle.command_words.specs.declared.words.WordsFault.TheVariants as fault

abbrev pub InputsText : Text → InputChoice → Type 0
InputsText text inputs.Header = text ≡ codes "header"
InputsText text inputs.Any = text ≡ codes "any"

abbrev pub FaultsText : Text → FaultChoice → Type 0
FaultsText text faults.Nobody = text ≡ codes "none"
FaultsText text faults.Omission = text ≡ codes "omission"
FaultsText text faults.Crash = text ≡ codes "crash"

-- the name of a property
abbrev pub is_property : Text → Bool
is_property name = bytes_eq name (codes "agreement") || (bytes_eq name (codes "validity")
    || (bytes_eq name (codes "final") || bytes_eq name (codes "termination")))

-- the name is one of those between the commas
abbrev pub has_name : Text → List Text → Bool
has_name name [] = false
has_name name (other ∷ rest) = bytes_eq other name || has_name name rest

-- each text between the commas is the name of a property, and those that are named are asked
pub record ChecksText (text : Text) (c : Checks) : Type 0 where
  pub named : list_all is_property (slice_split is_comma text) ≡ true
  pub agreement : c.agreement ≡ has_name (codes "agreement") (slice_split is_comma text)
  pub validity : c.validity ≡ has_name (codes "validity") (slice_split is_comma text)
  pub finality : c.finality ≡ has_name (codes "final") (slice_split is_comma text)
  pub termination : c.termination ≡ has_name (codes "termination") (slice_split is_comma text)

abbrev pub no_checks : Checks
no_checks =
    record { agreement = false; validity = false; finality = false; termination = false }

-- those that are asked where nothing is said
abbrev pub usual_checks : Checks
usual_checks =
    record { agreement = true; validity = true; finality = true; termination = false }

-- the same with the property of a name
abbrev pub marked : Checks → Text → Checks
marked c name = record {
  agreement = c.agreement || bytes_eq name (codes "agreement");
  validity = c.validity || bytes_eq name (codes "validity");
  finality = c.finality || bytes_eq name (codes "final");
  termination = c.termination || bytes_eq name (codes "termination");
}

-- the option isn't there, and this is its default, or its text is that of the value
abbrev pub GivesOr : {X : Type 0} → X → Text → (Text → X → Type 0) → List Row → X → Type 0
GivesOr default name IsTextOf rows x =
    ((first_of name rows ≡ None) × (x ≡ default))
    ⊎ ((text : Text) × (first_of name rows ≡ Some text) × IsTextOf text x)

-- the option is there, and its text is that of no value
abbrev pub HasNoValue : {X : Type 0} → Text → (Text → X → Type 0) → List Row → Type 0
HasNoValue {X} name IsTextOf rows =
    (text : Text) × (first_of name rows ≡ Some text) × ((x : X) → ¬ (IsTextOf text x))

-- a number of 1 on
abbrev pub ClearText : Text → ℕ → Type 0
ClearText text n = NumberText text n × (1 ≤ n)

-- the option has this number of 1 on, or isn't there
abbrev pub GivesClear : List Row → Option ℕ → Type 0
GivesClear rows None = first_of (codes "clear") rows ≡ None
GivesClear rows (Some n) =
    (text : Text) × (first_of (codes "clear") rows ≡ Some text) × ClearText text n

-- the flag of this name is there
abbrev pub HasFlag : Text → List Row → Type 0
HasFlag name rows = first_of name rows ≡ Some (codes "true")

-- what the options say
pub record GivesExploring (rows : List Row) (e : Exploring) : Type 0 where
  pub inputs : GivesInputs rows e.inputs
  pub faults : GivesOr faults.Nobody (codes "faults") FaultsText rows e.faults
  pub clear : GivesClear rows e.clear
  pub hears : GivesOr 0 (codes "hears") NumberText rows e.hears
  pub part : GivesPart rows e.part
  pub jobs : GivesJobs rows e.jobs
  pub sample : GivesSample rows e.sample
  pub checks : GivesOr usual_checks (codes "check") ChecksText rows e.checks
  pub always : first_of (codes "always") rows ≡ option_map (λ text. text.now) e.always
  pub trace : first_of (codes "trace") rows ≡ option_map (λ name. name.now) e.trace
  pub brief : IsTrue e.brief ↔ HasFlag (codes "brief") rows

-- the fault of such an option: it has a text that is that of no value
abbrev pub FailsByExploring : List Row → WordsFault → Type 0
FailsByExploring rows fault.Inputs = HasNoValue (codes "inputs") InputsText rows
FailsByExploring rows fault.Faults = HasNoValue (codes "faults") FaultsText rows
FailsByExploring rows fault.Clear = HasNoValue (codes "clear") ClearText rows
FailsByExploring rows fault.Hears = HasNoValue (codes "hears") NumberText rows
FailsByExploring rows fault.Checks = HasNoValue (codes "check") ChecksText rows
FailsByExploring rows fault = FailsBySearching rows fault
