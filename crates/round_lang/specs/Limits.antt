-- The language's limits.
use Rattle.std.specs.Prelude.{ℕ, ◌<◌, ◌≤◌}

-- K is at most this
abbrev pub max_values : ℕ
max_values = 64

-- the period is at most this
abbrev pub max_period : ℕ
max_period = 8

-- state variables, the input included
abbrev pub max_variables : ℕ
max_variables = 16

-- fields of a block's message
abbrev pub max_fields : ℕ
max_fields = 8

-- a program's numbers are within the limits
pub record IsSized (values period variables : ℕ) : Type 0 where
  pub some_value : 0 < values
  pub few_values : values ≤ max_values
  pub some_round : 0 < period
  pub few_rounds : period ≤ max_period
  pub few_variables : variables ≤ max_variables

-- how deep an expression nests
abbrev pub max_nesting : ℕ
max_nesting = 32

-- bytes of a name
abbrev pub max_name : ℕ
max_name = 32

abbrev pub max_number : ℕ
max_number = 4294967295

-- bytes of a text
abbrev pub max_text : ℕ
max_text = 65536
