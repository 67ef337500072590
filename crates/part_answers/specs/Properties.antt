-- The properties that a search answers.
use Rattle.std.specs.Prelude.{ℕ, List, codes}
use Rattle.part_answers.specs.declared.property.Property.{Property}
use Rattle.part_answers.specs.declared.property.Property.TheVariants as names

-- the word for a property
abbrev pub name_text : Property → List ℕ
name_text names.Agreement = codes "agreement"
name_text names.Validity = codes "validity"
name_text names.Final = codes "final"
name_text names.Termination = codes "termination"
name_text names.Always = codes "always"

-- how many properties come before it
abbrev pub rank : Property → ℕ
rank names.Agreement = 0
rank names.Validity = 1
rank names.Final = 2
rank names.Termination = 3
rank names.Always = 4
