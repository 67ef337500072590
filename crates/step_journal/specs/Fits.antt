-- The frames that a journal has are those that its book names.
use Rattle.std.specs.Prelude.{◌≡◌, ℕ, ◌+◌, ◌*◌, ◌<◌, All, List, [], Option, None, IsSomeAnd}
use Rattle.std.specs.Prelude.{length, slice_index_or}
use Rattle.round_lang.specs.Syntax.{ProgramTree}
use Rattle.round_meaning.specs.Rounds.{Algorithm, algorithm_of}
use Rattle.round_meaning.specs.declared.setup.Setup.{Setup}
use Rattle.run_events.specs.declared.name.Name.{Name}
use Rattle.step_machine.specs.Sealed.{Frame}
use Rattle.step_book.specs.declared.mark.Mark.{Mark}
use Rattle.step_book.specs.declared.mark.Mark.TheVariants.{Unsent, Silent, Flying, Released, Lost}
use Rattle.step_book.specs.Agreement.{Row}
use Rattle.step_book.specs.Log.{Log, mark_in, waiting_in}
use Rattle.step_book.specs.Names.{IsName}
use Rattle.step_book.specs.Buffers.{BufferView, IsGenuine, flying_at, names_in}

-- the buffer is of a run of this program and setup
pub record IsOfRun (p : ProgramTree) (s : Setup) (b : BufferView) : Type 0 where
  pub program : b.program ≡ p
  pub setup : b.setup ≡ s

-- no frames, of no run: what is read past the end of a list
abbrev pub no_buffer : BufferView
no_buffer = record {
  program = record { values = 0; period = 0; variables = []; decides = []; blocks = [] };
  setup = record { nodes = 0; faults = 0; inputs = []; rounds = 0 };
  flying = [];
  waiting = [];
  spare = 0;
}

-- the frames of a node
abbrev pub buffer_at : List BufferView → ℕ → BufferView
buffer_at bs i = slice_index_or bs i no_buffer

-- so many buffers of a run, without a frame
pub record AreEmpty (p : ProgramTree) (s : Setup) (count : ℕ) (bs : List BufferView) : Type 0 where
  pub sized : length bs ≡ count
  pub runs : All (IsOfRun p s) bs
  pub each : All (λ b. (b.flying ≡ []) × (b.waiting ≡ [])) bs

-- a frame is there exactly if the mark says that it's in flight
abbrev pub Flies : Algorithm → List Row → Name → Mark → Option Frame → Type 0
Flies a rows n Flying o = IsSomeAnd o (λ f. (f.name ≡ n) × IsGenuine a rows f)
Flies a rows n Unsent o = o ≡ None
Flies a rows n Silent o = o ≡ None
Flies a rows n (Released x) o = o ≡ None
Flies a rows n Lost o = o ≡ None

-- the place of a copy of a message among those of its round to its receiver
abbrev pub place_among : ℕ → Name → ℕ
place_among nodes n = n.copy * nodes + n.from

-- the buffers are of the recorded run, one for each node, and their frames are those that the
-- record names
pub record Fits (start : ℕ → ℕ) (v : Log) (bs : List BufferView) : Type 0 where
  pub sized : length bs ≡ v.setup.nodes
  pub runs : All (IsOfRun v.program v.setup) bs
  pub waiting : (i : ℕ) → i < v.setup.nodes
      → names_in (buffer_at bs i).waiting ≡ waiting_in start v i
  pub genuine : (i : ℕ) → i < v.setup.nodes
      → All (IsGenuine (algorithm_of v.program v.setup) v.rows) (buffer_at bs i).waiting
  pub flying : (n : Name) → IsName v.setup n → Flies (algorithm_of v.program v.setup) v.rows n
      (mark_in start v n) (flying_at (buffer_at bs n.to) n.round (place_among v.setup.nodes n))
