-- The options of `explore` that say how the runs are gone through.
use Rattle.std.specs.Prelude.{◌≡◌, ◌==◌, ◌⊎◌, ◌++◌, ◌∷◌, ◌≤◌, ℕ, Bool, List, None, Option, Some}
use Rattle.std.specs.Prelude.{codes}
use Rattle.clap.specs.Words.{Row, Text, first_of}
use Rattle.command_words.specs.Headers.{AsksAll}
use Rattle.command_words.specs.Values.{NumberText}
use Rattle.command_words.specs.declared.searching.PartChoice.{PartChoice}
use Rattle.command_words.specs.declared.searching.SampleChoice.{SampleChoice}
use Rattle.command_words.specs.declared.words.WordsFault.{WordsFault}
use Rattle.command_words.specs.declared.words.WordsFault.TheVariants as fault

-- `/`
abbrev pub slash : ℕ
slash = 47

abbrev pub is_slash : ℕ → Bool
is_slash b = b == slash

-- there are at most so many parts
abbrev pub max_parts : ℕ
max_parts = 65536

-- there are at most so many jobs
abbrev pub max_jobs : ℕ
max_jobs = 256

-- `I/N`, two numbers of 1 on, of which the first is no larger than the second
abbrev pub PartText : Text → PartChoice → Type 0
PartText text p = (number : Text) × (count : Text) × (text ≡ number ++ slash ∷ count)
    × NumberText number p.number × NumberText count p.count × (1 ≤ p.number)
    × (p.number ≤ p.count) × (p.count ≤ max_parts)

-- a number of jobs
abbrev pub JobsText : Text → ℕ → Type 0
JobsText text n = NumberText text n × (1 ≤ n) × (n ≤ max_jobs)

-- a number of runs, from 1 on
abbrev pub CountText : Text → ℕ → Type 0
CountText text n = NumberText text n × (1 ≤ n)

-- all lists of inputs are asked about, and no sample
abbrev pub GoesWithParts : List Row → Type 0
GoesWithParts rows = AsksAll rows × (first_of (codes "sample") rows ≡ None)

-- `--part` has this part, where one may be asked about, or isn't there
abbrev pub GivesPart : List Row → Option PartChoice → Type 0
GivesPart rows None = first_of (codes "part") rows ≡ None
GivesPart rows (Some p) = (text : Text) × (first_of (codes "part") rows ≡ Some text)
    × PartText text p × GoesWithParts rows

-- `--jobs` has this number, and there is no sample; or it isn't there, and the number is 1
abbrev pub GivesJobs : List Row → ℕ → Type 0
GivesJobs rows n =
    ((first_of (codes "jobs") rows ≡ None) × (n ≡ 1))
    ⊎ ((text : Text) × (first_of (codes "jobs") rows ≡ Some text) × JobsText text n
    × (first_of (codes "sample") rows ≡ None))

-- `--seed` has this number, or isn't there, and the number is 0
abbrev pub GivesSeed : List Row → ℕ → Type 0
GivesSeed rows n =
    ((first_of (codes "seed") rows ≡ None) × (n ≡ 0))
    ⊎ ((text : Text) × (first_of (codes "seed") rows ≡ Some text) × NumberText text n)

-- `--sample` has this number of runs, and the seed is as said; or neither is there
abbrev pub GivesSample : List Row → Option SampleChoice → Type 0
GivesSample rows None =
    (first_of (codes "sample") rows ≡ None) × (first_of (codes "seed") rows ≡ None)
GivesSample rows (Some s) = (text : Text) × (first_of (codes "sample") rows ≡ Some text)
    × CountText text s.count × GivesSeed rows s.seed

-- the fault of `--part`: it has a text, and names no part that may be asked about
abbrev pub FailsByPart : List Row → Type 0
FailsByPart rows = (text : Text) × (first_of (codes "part") rows ≡ Some text)
    × ((p : PartChoice) → PartText text p → ¬ (GoesWithParts rows))

-- the fault of `--jobs`: it has a text, and a sample is asked for or the text is no number of jobs
abbrev pub FailsByJobs : List Row → Type 0
FailsByJobs rows = (text : Text) × (first_of (codes "jobs") rows ≡ Some text)
    × ((n : ℕ) → JobsText text n → ¬ (first_of (codes "sample") rows ≡ None))

-- the fault of `--sample`: it has a text that is no number of runs
abbrev pub FailsBySample : List Row → Type 0
FailsBySample rows = (text : Text) × (first_of (codes "sample") rows ≡ Some text)
    × ((n : ℕ) → ¬ (CountText text n))

-- the fault of `--seed`: it has a text, and no sample is asked for or the text is no number
abbrev pub FailsBySeed : List Row → Type 0
FailsBySeed rows = (text : Text) × (first_of (codes "seed") rows ≡ Some text)
    × ((n : ℕ) → NumberText text n → first_of (codes "sample") rows ≡ None)

-- the fault of an option that says how the runs are gone through
abbrev pub FailsBySearching : List Row → WordsFault → Type 0
FailsBySearching rows fault.Part = FailsByPart rows
FailsBySearching rows fault.Jobs = FailsByJobs rows
FailsBySearching rows fault.Sample = FailsBySample rows
FailsBySearching rows fault.Seed = FailsBySeed rows
FailsBySearching rows _ = ⊥
