-- Headers that are given by their numbers, and whose inputs are asked about then.
use Rattle.std.specs.Prelude.{◌≡◌, ◌++◌, ◌∷◌, ◌⊎◌, List, None, Some, codes}
use Rattle.clap.specs.Words.{Row, Text, first_of}
use Rattle.command_words.specs.Values.{NumberText, at_sign, colon}
use Rattle.command_words.specs.declared.exploring.InputChoice.{InputChoice}
use Rattle.command_words.specs.declared.exploring.InputChoice.TheVariants as inputs
use Rattle.command_words.specs.declared.headers.HeaderNumbers.{HeaderNumbers}

-- `@N:T:R`: N nodes, T faults and R rounds
abbrev pub HeaderText : Text → HeaderNumbers → Type 0
HeaderText text h = (nodes : Text) × (faults : Text) × (rounds : Text)
    × (text ≡ at_sign ∷ nodes ++ colon ∷ (faults ++ colon ∷ rounds))
    × NumberText nodes h.nodes × NumberText faults h.faults × NumberText rounds h.rounds

-- `--header` has such a text
abbrev pub HasHeaderNumbers : List Row → Type 0
HasHeaderNumbers rows = (text : Text) × (first_of (codes "header") rows ≡ Some text)
    × (h : HeaderNumbers) × HeaderText text h

-- `--inputs` says any, or nothing where the header is given by its numbers
abbrev pub AsksAll : List Row → Type 0
AsksAll rows = (first_of (codes "inputs") rows ≡ Some (codes "any"))
    ⊎ ((first_of (codes "inputs") rows ≡ None) × HasHeaderNumbers rows)

-- whose inputs are asked about: all lists, or those of the header, as is usual for one in a file
abbrev pub GivesInputs : List Row → InputChoice → Type 0
GivesInputs rows inputs.Any = AsksAll rows
GivesInputs rows inputs.Header = (first_of (codes "inputs") rows ≡ Some (codes "header"))
    ⊎ ((first_of (codes "inputs") rows ≡ None) × ¬ (HasHeaderNumbers rows))
