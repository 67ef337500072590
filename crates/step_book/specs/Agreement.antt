-- That what is recorded agrees with the run in rounds.
use Rattle.std.specs.Prelude.{◌≡◌, ℕ, ◌+◌, ◌-◌, ◌*◌, ◌<◌, ◌≤◌, List, [], length}
use Rattle.std.specs.Prelude.{slice_index_or, Bool, if◌then◌else◌}
use Rattle.std.specs.List.{count_by}
use Rattle.round_lang.specs.declared.value.Value.{Value}
use Rattle.step_book.specs.declared.mark.Mark.{Mark}
use Rattle.step_book.specs.declared.mark.Mark.TheVariants.{Unsent}
use Rattle.step_book.specs.History.{state, mark_of, buffer_of, handed_of, answers_of, is_buffered}
use Rattle.step_book.specs.Names.{IsNameOf}
use Rattle.step_book.specs.Tables.{read_at}
use Rattle.step_book.specs.Trace.{is_name, steps}
use Rattle.step_book.specs.World.{World, nodes_of}
use Rattle.run_events.specs.declared.event.Event.{Event}
use Rattle.run_events.specs.declared.name.Name.{Name}

-- a node's states after 0, 1, .. closed rounds
abbrev pub Row : Type 0
Row = List (List Value)

-- the row of a node
abbrev pub row : List Row → ℕ → Row
row rows i = slice_index_or rows i []

-- the place of a message in the table of its copy number
abbrev pub place_of : World → Name → ℕ
place_of w n = ((n.round - 1) * nodes_of w + n.from) * nodes_of w + n.to

-- counts, rows and marks are those of the history
pub record Agrees (w : World) (t : List Event) (counts : List ℕ) (rows : List Row)
    (tables : List (List Mark)) : Type 0 where
  pub counted : length counts ≡ nodes_of w
  pub count : (i : ℕ) → i < nodes_of w → slice_index_or counts i 0 ≡ steps i t
  pub rowed : length rows ≡ nodes_of w
  pub began : (i : ℕ) → i < nodes_of w → 0 < length (row rows i)
  pub bounded : (i : ℕ) → i < nodes_of w → length (row rows i) ≤ w.rounds + 1
  -- the closed rounds are past, and at most the next is due
  pub past : (i : ℕ) → i < nodes_of w → w.start (length (row rows i)) ≤ steps i t
  pub near : (i : ℕ) → i < nodes_of w → length (row rows i) ≤ w.rounds
      → steps i t ≤ w.start (length (row rows i) + 1)
  -- the recorded state of a closed round is that of the run in rounds
  pub stated : (i r : ℕ) → i < nodes_of w → r < length (row rows i)
      → slice_index_or (row rows i) r [] ≡ state w t r i
  -- the tables have the marks of what was reached; what they haven't is unsent
  pub mark : (n : Name) → IsNameOf (nodes_of w) w.rounds n
      → read_at Unsent tables n.copy (place_of w n) ≡ mark_of w t n

-- the buffers are those of the history
pub record Waits (w : World) (t : List Event) (buffers : List (List Name)) : Type 0 where
  pub sized : length buffers ≡ nodes_of w
  pub held : (i : ℕ) → i < nodes_of w → slice_index_or buffers i [] ≡ buffer_of w i t

-- what was handed out and answered is what the history says
pub record Accounts (w : World) (t : List Event) (lists : List (List (List Name)))
    (answers : List Bool) : Type 0 where
  pub sized : length lists ≡ nodes_of w
  pub handed : (i : ℕ) → i < nodes_of w → slice_index_or lists i [] ≡ handed_of w i t
  pub answered : answers ≡ answers_of w t

-- the names are those that stand in the buffer of node i, each once
abbrev pub IsBuffer : World → List Event → ℕ → List Name → Type 0
IsBuffer w t i names = (n : Name) → n.to ≡ i → 0 < n.round → n.round ≤ w.rounds
    → count_by (is_name n) names ≡ (if is_buffered w t n then 1 else 0)
