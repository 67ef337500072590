-- That the file of a trace is none that the command reads, as far as names tell.
use Rattle.std.specs.Borrow.{Bor}
use Rattle.std.specs.Prelude.{◌≡◌, ◌⊎◌, ⊤, ℕ, IfSome, List, Option}
use Rattle.command_runs.specs.Desks.{Spares}
use Rattle.command_runs.specs.Served.{file_name}
use Rattle.command_words.specs.Given.{Means}
use Rattle.command_words.specs.declared.values.Source.{Source}
use Rattle.command_words.specs.declared.values.Source.TheVariants.{File, Library}
use Rattle.command_words.specs.declared.words.Words.{Words}
use Rattle.command_words.specs.declared.words.Words.TheVariants.{Explore, Threads}

-- a file has another name than that of a source
abbrev pub SparesSource : List ℕ → Source → Type 0
SparesSource name (File file) = Spares name (file_name file.now)
SparesSource name (Library program values) = ⊤

-- the file of a trace has another name than the two files that are read for it
pub record IsApart (name : List ℕ) (source : Source) (read : List ℕ) : Type 0 where
  pub source_file : SparesSource name source
  pub other_file : Spares name read

-- the same of a trace that may not be asked for
abbrev pub IsApartIfNamed : Option (Bor (List ℕ)) → Source → (read : List ℕ) → Type 0
IsApartIfNamed name source read = IfSome name (λ n. IsApart n.now source read)

-- no file was written, or the one that a command writes has another name than those that it reads
abbrev pub WritesApart : Words → (old new : List (List ℕ)) → Type 0
WritesApart (Threads source setup trace told) old new =
    (new ≡ old) ⊎ IsApart trace.now source setup.now
WritesApart (Explore source header exploring f) old new =
    (new ≡ old) ⊎ IsApartIfNamed exploring.trace source header.now
WritesApart _ old new = new ≡ old

-- no file was written, or the words mean a command that reads none of that name
abbrev pub WroteApart : List (List ℕ) → (old new : List (List ℕ)) → Type 0
WroteApart words old new =
    (new ≡ old) ⊎ ((w : Words) × Means words w × WritesApart w old new)
