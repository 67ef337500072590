-- What a desk tells of the files that it wrote.
use Rattle.std.specs.Borrow.{Bor}
use Rattle.std.specs.Prelude.{◌≡◌, ◌++◌, ◌∷◌, [], ◌⊎◌, ℕ, List, None, Option, Some, codes}
use Rattle.command_runs.specs.declared.outcome.Outcome.{Outcome}
use Rattle.command_runs.specs.declared.outcome.Outcome.TheVariants.{No}
use Rattle.command_words.specs.Given.{Means}
use Rattle.command_words.specs.declared.words.Words.{Words}
use Rattle.command_words.specs.declared.words.Words.TheVariants.{Explore, Threads}

-- at most the file of this name was written
abbrev pub WroteAtMost : (old new : List (List ℕ)) → List ℕ → Type 0
WroteAtMost old new name = (new ≡ old) ⊎ (new ≡ old ++ name ∷ [])

-- the same of a file that may not be asked for
abbrev pub MayWriteTrace : Option (Bor (List ℕ)) → (old new : List (List ℕ)) → Type 0
MayWriteTrace None old new = new ≡ old
MayWriteTrace (Some name) old new = WroteAtMost old new name.now

-- what a command may write: `threads` and `explore` the file of a trace, and the others none
abbrev pub MayWrite : Words → (old new : List (List ℕ)) → Type 0
MayWrite (Threads source setup trace told) old new = WroteAtMost old new trace.now
MayWrite (Explore source header exploring f) old new = MayWriteTrace exploring.trace old new
MayWrite _ old new = new ≡ old

-- the file of a trace is written where it is asked for and a property fails
abbrev pub WritesTrace : Option (Bor (List ℕ)) → Outcome → (old new : List (List ℕ)) → Type 0
WritesTrace (Some name) No old new = new ≡ old ++ name.now ∷ []
WritesTrace _ _ old new = new ≡ old

-- what a command writes that ends so
abbrev pub Writes : Words → Outcome → (old new : List (List ℕ)) → Type 0
Writes (Threads source setup trace told) o old new = new ≡ old ++ trace.now ∷ []
Writes (Explore source header exploring f) o old new = WritesTrace exploring.trace o old new
Writes _ o old new = new ≡ old

-- no file was written, or the words mean a command that may write what was
abbrev pub WroteFor : List (List ℕ) → (old new : List (List ℕ)) → Type 0
WroteFor words old new = (new ≡ old) ⊎ ((w : Words) × Means words w × MayWrite w old new)

-- the words mean a command that writes what was written if it ends so
abbrev pub WroteAll : List (List ℕ) → Outcome → (old new : List (List ℕ)) → Type 0
WroteAll words o old new = (w : Words) × Means words w × Writes w o old new

-- a file has another name than one that is read; to read `-` is to read standard input
abbrev pub Spares : (name read : List ℕ) → Type 0
Spares name read = name ≡ read → read ≡ codes "-"
