-- What a book and its buffers are asked, part by part.
use Rattle.std.specs.Prelude.{◌≡◌, ℕ, ◌-◌, ◌<◌, ◌≤◌, All, List, [], Option, None, IsSomeAnd, length}
use Rattle.std.specs.Prelude.{slice_index_or}
use Rattle.run_events.specs.declared.name.Name.{Name}
use Rattle.run_events.specs.Limits.{max_copy}
use Rattle.step_machine.specs.Sealed.{Frame}
use Rattle.step_book.specs.declared.mark.Mark.{Mark}
use Rattle.step_book.specs.declared.mark.Mark.TheVariants.{Flying}
use Rattle.step_book.specs.Agreement.{Row, row}
use Rattle.step_book.specs.Log.{Log, mark_in, waiting_in}
use Rattle.step_book.specs.Buffers.{BufferView, flying_at, names_in}
use Rattle.step_journal.specs.Fits.{place_among}

-- the frame is of a copy of a message, and names its sender's recorded state
pub record IsRecorded (rows : List Row) (f : Frame) : Type 0 where
  pub copy : f.name.copy ≤ max_copy
  pub first : 0 < f.name.round
  pub past : f.name.round ≤ length (row rows f.name.from)
  pub own : slice_index_or (row rows f.name.from) (f.name.round - 1) [] ≡ f.state

-- the frames have these names, and the recorded states
pub record AreNamed (rows : List Row) (frames : List Frame) (ns : List Name) : Type 0 where
  pub names : names_in frames ≡ ns
  pub recorded : All (IsRecorded rows) frames

-- there is a frame of this name just if the mark says that it's in flight
pub record HoldsAt (rows : List Row) (n : Name) (m : Mark) (o : Option Frame) : Type 0 where
  pub flies : m ≡ Flying → IsSomeAnd o (λ f. (f.name ≡ n) × IsRecorded rows f)
  pub stays : (m ≡ Flying → ⊥) → o ≡ None

-- the name of what j sends to i in a round, as copy k
abbrev pub named : ℕ → ℕ → ℕ → ℕ → Name
named i k r j = record { from = j; to = i; round = r; copy = k }

-- so of copy k of each message to node i in the first rounds
abbrev pub FliesAs : (ℕ → ℕ) → Log → BufferView → ℕ → ℕ → ℕ → Type 0
FliesAs start v b i k rounds =
    (r j : ℕ) → 0 < r → r ≤ rounds → j < v.setup.nodes
    → HoldsAt v.rows (named i k r j) (mark_in start v (named i k r j))
    (flying_at b r (place_among v.setup.nodes (named i k r j)))

-- the buffer of node i is of the recorded run, and holds the frames that the record names
pub record FitsNode (start : ℕ → ℕ) (v : Log) (i : ℕ) (b : BufferView) : Type 0 where
  pub program : b.program ≡ v.program
  pub setup : b.setup ≡ v.setup
  pub waiting : AreNamed v.rows b.waiting (waiting_in start v i)
  pub flying : (k : ℕ) → k ≤ max_copy → FliesAs start v b i k v.setup.rounds
