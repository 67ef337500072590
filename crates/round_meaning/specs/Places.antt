-- Where `round`, `phase`, `dest` and `from` mean something.
use Rattle.std.specs.Prelude.{◌≡◌, ℕ, All, List, Some}
use Rattle.round_lang.specs.declared.program.Variable.{Variable}
use Rattle.round_lang.specs.declared.value.Value.{Value}
use Rattle.round_lang.specs.Syntax.{BlockTree, ProgramTree}
use Rattle.round_meaning.specs.Meaning.{Env}
use Rattle.round_meaning.specs.Turn.{begins, runs, sent}

-- what a block sends depends on no sender, what it does with a message on no receiver, and how it
-- ends the round on neither
pub record KeepsPlaces (b : BlockTree) : Type 0 where
  pub send : (env : Env) (j : ℕ) → sent (Some b) (record env { from = j }) ≡ sent (Some b) env
  pub on_message : (env : Env) (vs : List Value) (i : ℕ)
      → runs (record env { dest = i }) b.on_message vs ≡ runs env b.on_message vs
  pub end : (env : Env) (vs : List Value) (i j : ℕ)
      → runs (record env { dest = i; from = j }) b.end vs ≡ runs env b.end vs

-- a variable begins in the same way in each round and phase, for each receiver and sender
abbrev pub BeginsAnywhere : Variable → Type 0
BeginsAnywhere v =
    (env : Env) (x r k i j : ℕ)
    → begins (record env { round = r; phase = k; dest = i; from = j }) x v.kind
    ≡ begins env x v.kind

-- no value of a program depends on what means nothing where it is computed
pub record PlacesAreKept (p : ProgramTree) : Type 0 where
  pub starts : All BeginsAnywhere p.variables
  pub blocks : All KeepsPlaces p.blocks
