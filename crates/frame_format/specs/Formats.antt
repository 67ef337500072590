-- What the frames of a program's messages are made of.
use Rattle.std.specs.Prelude.{◌≡◌, ℕ, ◌+◌, ◌-◌, ◌*◌, ◌%◌, ◌<◌, ◌≤◌, List, [], ◌∷◌, length}
use Rattle.std.specs.Prelude.{slice_index_or}
use Rattle.run_events.specs.Limits.{max_nodes}
use Rattle.round_lang.specs.declared.kind.Kind.{Kind}
use Rattle.round_lang.specs.declared.kind.Kind.TheVariants.{Num, Flag, Set, Row}
use Rattle.round_lang.specs.Syntax.{ProgramTree}
use Rattle.round_check.specs.Shapes.{message_kinds}

-- how many nodes and values there are, how many rounds a period has, and the kinds of each block's
-- fields
pub record Format : Type 0 where
  pub nodes : ℕ
  pub values : ℕ
  pub period : ℕ
  pub blocks : List (List Kind)

-- the format of a program among n nodes
abbrev pub format_of : ProgramTree → ℕ → Format
format_of p n = record { nodes = n; values = p.values; period = p.period; blocks = message_kinds p }

-- the position of a round in the period, from 0
abbrev pub position : Format → ℕ → ℕ
position s round = (round - 1) % s.period

-- the kinds of the fields in a round's messages
abbrev pub kinds_at : Format → ℕ → List Kind
kinds_at s round = slice_index_or s.blocks (position s round) []

-- how many bytes a field takes: a number 4, a truth value 1, a set 8, a row 4 for each entry
abbrev pub width : Kind → ℕ
width Num = 4
width Flag = 1
width Set = 8
width (Row n) = 4 * n

-- how many bytes fields take
abbrev pub size : List Kind → ℕ
size [] = 0
size (kind ∷ kinds) = width kind + size kinds

-- the fields are few and small
pub record IsBlock (kinds : List Kind) : Type 0 where
  pub few : length kinds ≤ 8
  pub small : size kinds ≤ 2048

-- the fields are few and small, and take so many bytes
pub record IsMeasured (kinds : List Kind) (bytes : ℕ) : Type 0 where
  pub block : IsBlock kinds
  pub bytes_are : bytes ≡ size kinds

-- the numbers are within the language's limits
pub record IsFormat (s : Format) : Type 0 where
  pub few_nodes : s.nodes ≤ max_nodes
  pub few_values : s.values ≤ 64
  pub some_round : 0 < s.period
  pub few_rounds : s.period ≤ 8
  pub blocks : (i : ℕ) → IsBlock (slice_index_or s.blocks i [])
