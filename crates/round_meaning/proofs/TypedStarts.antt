-- The initial states of checked programs have their types.
use Rattle.std.proofs.Common.{◌≡◌, ℕ, suc, ◌≤◌, true, List, [], ◌∷◌, map, None}
use Rattle.std.proofs.Common.{refl, sym, subst, arith}
use Rattle.std.specs.Prelude.{All}
use Rattle.std.proofs.lemmas.List.Elements.{All-head}
use Rattle.round_lang.specs.declared.program.Variable.{Variable}
use Rattle.round_lang.specs.declared.program.VariableKind.{VariableKind}
use Rattle.round_lang.specs.declared.program.VariableKind.TheVariants.{Input, State}
use Rattle.round_lang.specs.Syntax.{ProgramTree}
use Rattle.round_check.proofs.Starts.{StartsWith, starts_typed}
use Rattle.round_check.specs.Causes.{input_name, is_typed}
use Rattle.round_check.specs.Types.{kind_type}
use Rattle.round_meaning.specs.Meaning.{Env, bind, find_var}
use Rattle.round_meaning.specs.Turn.{begins, initial, node_env}
use Rattle.round_meaning.specs.Typed.{Fits, HasType, IsState, IsStateOf, Suits}
use Rattle.round_meaning.proofs.Sound.{value_typed}

no_values : (ds : List Variable) (x : List ℕ) → find_var ds [] x ≡ None
no_values [] x = refl
no_values (d ∷ ds) x = refl

module _ (p : ProgramTree) (few : p.values ≤ 64) (y : List ℕ) (n t x i : ℕ) where
  abbrev start_env : Env
  start_env = bind y (node_env p n t 0 i) x

  start_fits : Fits (record { variables = []; fields = []; bound = y ∷ [] }) start_env
  start_fits = record {
    values = few;
    bound = refl;
    fields = λ z. tt;
    variables = λ z. subst (λ o. Suits p.values None o) (sym (no_values p.variables z)) tt;
  }

  begin_typed : (k : VariableKind) → StartsWith y k
      → HasType p.values (kind_type k) (begins start_env x k)
  begin_typed Input start = tt
  begin_typed (State r e) start = value_typed e _ start_env r start_fits start

  begins_typed : (ds : List Variable) → All (λ (v : Variable). StartsWith y v.kind) ds
      → IsState p.values ds (map (λ (d : Variable). begins start_env x d.kind) ds)
  begins_typed [] start = tt
  begins_typed (d ∷ ds) start = (
    begin_typed d.kind (All-head (λ (v : Variable). StartsWith y v.kind) d ds start),
    begins_typed ds (λ k e l. start (suc k) e (omega (arith, l))),
  )

-- what a node begins with is a state of the program
pub start_typed : (p : ProgramTree) → is_typed p ≡ true → p.values ≤ 64 → (n t x i : ℕ)
    → IsStateOf p (initial p n t x i)
start_typed p typed few n t x i =
    begins_typed p few (input_name p) n t x i p.variables (starts_typed p typed)
