-- The line that each mistake in the words has on standard error.
use Rattle.std.specs.Prelude.{ℕ, ◌++◌, List, Option, Some, None, codes}
use Rattle.command_words.specs.declared.words.WordsFault.{WordsFault}
use Rattle.command_words.specs.declared.words.WordsFault.TheVariants.{Refused, Missing, Source}
use Rattle.command_words.specs.declared.words.WordsFault.TheVariants.{List as BadList, Delta, Gst}
use Rattle.command_words.specs.declared.words.WordsFault.TheVariants.{Ticks, Change, Inputs}
use Rattle.command_words.specs.declared.words.WordsFault.TheVariants.{InputTwice}
use Rattle.command_words.specs.declared.words.WordsFault.TheVariants.{AnswerFormat, Blocks, Format}
use Rattle.command_words.specs.declared.words.WordsFault.TheVariants.{Faults, Clear, Range}
use Rattle.command_words.specs.declared.words.WordsFault.TheVariants.{Hears, Checks, NoMemory}
use Rattle.command_words.specs.declared.words.WordsFault.TheVariants.{Part, Jobs, Sample, Seed}

-- a mistake in the words; the text of one that `clap` finds is its own
abbrev pub words_line : WordsFault → Option (List ℕ)
words_line (Refused error) = None
words_line Missing = Some (codes "error: a value is missing\n")
words_line Source = Some (codes "error: SOURCE is a file, or `@`, a name, `:` and digits\n")
words_line BadList =
    Some (codes "error: LIST is numbers of 0 to 4294967295 with commas between them\n")
words_line Delta = Some (codes "error: `--delta` is a number of 1 to 1024\n")
words_line Gst = Some (codes "error: `--gst` is a number of 0 to 4294967295\n")
words_line Ticks = Some (codes "error: `--ticks` is a number of 0 to 4294967295\n")
words_line Change =
    Some (codes "error: `--stop` and `--delay` have numbers of 0 to 4294967295\n")
words_line Inputs = Some (codes "error: `--inputs` is `header` or `any`\n")
words_line Faults = Some (codes "error: `--faults` is `none`, `omission` or `crash`\n")
words_line Clear = Some (codes "error: `--clear` is a number of 1 to 4294967295\n")
words_line Hears = Some (codes "error: `--hears` is a number of 0 to 4294967295\n")
words_line Checks = Some (codes "error: `--check` is `agreement`, `validity`, `final` or "
    ++ codes "`termination` with commas between them\n")
words_line Part = Some (codes "error: `--part` is I/N with 1 <= I <= N <= 65536; it goes with "
    ++ codes "`--inputs any`, and not with `--sample`\n")
words_line Jobs = Some (codes
    "error: `--jobs` is a number of 1 to 256, and doesn't go with `--sample`\n")
words_line Sample = Some (codes "error: `--sample` is a number of 1 to 4294967295\n")
words_line Seed = Some (codes
    "error: `--seed` is a number of 0 to 4294967295, and goes with `--sample`\n")
words_line Range = Some (codes
    "error: `--rounds` is A-B, two numbers of 1 to 4294967295 with A <= B\n")
words_line Format =
    Some (codes "error: `--format` is `text`, `json`, `table`, `summary` or `omissions`\n")
words_line AnswerFormat = Some (codes "error: `--format` is `text` or `json`\n")
words_line Blocks = Some (codes "error: `--by` is `round` or `node`\n")
words_line InputTwice = Some (codes
    "error: only one of `--header` and `--omissions` can be `-`, standard input\n")
words_line NoMemory = Some (codes "no memory\n")
