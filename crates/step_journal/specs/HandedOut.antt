-- What a receive hands out.
use Rattle.std.specs.Prelude.{◌≡◌, ℕ, All, List}
use Rattle.round_meaning.specs.Rounds.{algorithm_of}
use Rattle.step_machine.specs.Sealed.{Frame}
use Rattle.step_book.specs.Agreed.{IsSaid}
use Rattle.step_book.specs.Agreement.{IsBuffer}
use Rattle.step_book.specs.Buffers.{IsGenuine, IsMail, names_in}
use Rattle.step_book.specs.Log.{Log, history, waiting_in, world_of}

-- the frames are those that wait for node i, each once; each is for that node, and is what its
-- sender sends from its recorded state and in the run in rounds
pub record AreHandedOut (start : ℕ → ℕ) (v : Log) (i : ℕ) (frames : List Frame) : Type 0 where
  pub names : names_in frames ≡ waiting_in start v i
  pub once : IsBuffer (world_of start v) (history v) i (names_in frames)
  pub genuine : All (IsGenuine (algorithm_of v.program v.setup) v.rows) frames
  pub mail : All (IsMail (algorithm_of v.program v.setup) v.setup.nodes i) frames
  pub said : All (IsSaid start v) frames
