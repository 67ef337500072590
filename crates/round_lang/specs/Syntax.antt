-- What a program is, without the places of its parts in memory.
use Rattle.std.specs.Prelude.{ℕ, List}
use Rattle.round_lang.specs.Tree.{Tree}
use Rattle.round_lang.specs.declared.block.Field.{Field}
use Rattle.round_lang.specs.declared.block.Assignment.{Assignment}
use Rattle.round_lang.specs.declared.program.Variable.{Variable}

-- `at N:`: what is sent, when, and what is done with messages and at the end
pub record BlockTree : Type 0 where
  pub number : ℕ
  pub fields : List Field
  pub condition : Tree
  pub sent : List Tree
  pub on_message : List Assignment
  pub end : List Assignment

-- a program: the input among the variables, each name after a `decide`, and the blocks
pub record ProgramTree : Type 0 where
  pub values : ℕ
  pub period : ℕ
  pub variables : List Variable
  pub decides : List (List ℕ)
  pub blocks : List BlockTree
