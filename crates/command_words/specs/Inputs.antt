-- Which options name standard input for two files.
use Rattle.std.specs.Prelude.{◌≡◌, List, Some, codes}
use Rattle.clap.specs.Words.{Row, first_of}
use Rattle.command_words.specs.declared.words.WordsFault.{WordsFault}
use Rattle.command_words.specs.declared.words.WordsFault.TheVariants.{InputTwice}

-- standard input is the file of the header and that of the omissions: nothing is left of it for the
-- second
abbrev pub ReadsInputTwice : List Row → Type 0
ReadsInputTwice rows = (first_of (codes "header") rows ≡ Some (codes "-"))
    × (first_of (codes "omissions") rows ≡ Some (codes "-"))

-- the fault of two options that both name standard input
abbrev pub FailsByInputs : List Row → WordsFault → Type 0
FailsByInputs rows InputTwice = ReadsInputTwice rows
FailsByInputs rows _ = ⊥
