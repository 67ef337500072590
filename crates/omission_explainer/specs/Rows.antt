-- A report's rows.
use Rattle.std.specs.Prelude.{ℕ, List, Option}
use Rattle.round_lang.specs.declared.value.Value.{Value}

-- a closed round of a node; the three sets are numbers whose bit j stands for node j
pub record ClosedRound : Type 0 where
  pub round : ℕ
  pub node : ℕ
  pub heard : ℕ
  pub silent : ℕ
  pub omitted : ℕ
  pub state : List Value
  pub decision : Option ℕ
