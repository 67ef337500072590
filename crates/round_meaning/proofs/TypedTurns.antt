-- States and messages of checked programs have their types.
use Rattle.std.proofs.Common.{◌≡◌, ℕ, zero, suc, ◌+◌, ◌≤◌, Bool, true, false, cond, List, [], ◌∷◌}
use Rattle.std.proofs.Common.{length, map, Option, Some, None, position, sym, refl, subst, arith}
use Rattle.std.specs.Prelude.{◌==◌, All, IfSome, not, nat_lt, slice_get, slice_set}
use Rattle.std.specs.List.{list_any, position_or_len}
use Rattle.std.specs.Str.{bytes_eq}
use Rattle.std.proofs.lemmas.Bool.Decides.{nat_tests}
use Rattle.std.proofs.lemmas.List.Elements.{All-head}
use Rattle.round_lang.specs.declared.block.Assignment.{Assignment}
use Rattle.round_lang.specs.declared.block.Field.{Field}
use Rattle.round_lang.specs.declared.expr.Ty.{Ty}
use Rattle.round_lang.specs.declared.program.Variable.{Variable}
use Rattle.round_lang.specs.declared.value.Value.{Value}
use Rattle.round_lang.specs.Syntax.{BlockTree, ProgramTree}
use Rattle.round_lang.specs.Tree.{Tree}
use Rattle.round_lang.specs.Values.{flag}
use Rattle.round_check.proofs.Facts.{IsClear-typed, IsWellTyped-typed, IsWellTypedBlock-wrong_block}
use Rattle.round_check.proofs.Facts.{fails-not, has_type-some, neither}
use Rattle.round_check.specs.Causes.{field_count, is_typed}
use Rattle.round_check.specs.Types.{Context, context_with, field_type, has_type, is_same_type}
use Rattle.round_check.specs.Types.{kind_type, type_of, variable_type, wrong_assignment}
use Rattle.round_check.specs.Types.{wrong_block, wrong_sent}
use Rattle.round_meaning.specs.declared.received.Received.{Received}
use Rattle.round_meaning.specs.Meaning.{Env, find_field, find_var, value}
use Rattle.round_meaning.specs.Turn.{assigned, block_at, ended, folded, node_env, put, runs, sent}
use Rattle.round_meaning.specs.Turn.{with_dest, with_message, with_vars}
use Rattle.round_meaning.specs.Rounds.{end, send}
use Rattle.round_meaning.specs.Typed.{Fits, HasType, IsInboxOf, IsMessage, IsMessageOf, IsState}
use Rattle.round_meaning.specs.Typed.{IsStateOf, Suits, fields_in}
use Rattle.round_meaning.proofs.LookUps.{variable_place}
use Rattle.round_meaning.proofs.Sound.{value_typed}

suits_if : (k : ℕ) (b : Bool) (t : Ty) (v : Value) (T : Option Ty) (V : Option Value)
    → HasType k t v → Suits k T V → Suits k (cond b (Some t) T) (cond b (Some v) V)
suits_if k true t v T V h s = h
suits_if k false t v T V h s = s

pub variables_suit : (k : ℕ) (ds : List Variable) (vs : List Value) → IsState k ds vs → (x : List ℕ)
    → Suits k (variable_type ds x) (find_var ds vs x)
variables_suit k [] [] h x = tt
variables_suit k [] (v ∷ vs) h x = absurd h
variables_suit k (d ∷ ds) [] h x = absurd h
variables_suit k (d ∷ ds) (v ∷ vs) h x =
    suits_if k (bytes_eq d.name x) (kind_type d.kind) v _ _ h.0 (variables_suit k ds vs h.1 x)

pub fields_suit : (k : ℕ) (fs : List Field) (vs : List Value) → IsMessage k fs vs → (x : List ℕ)
    → Suits k (field_type fs x) (find_field fs vs x)
fields_suit k [] [] h x = tt
fields_suit k [] (v ∷ vs) h x = absurd h
fields_suit k (f ∷ fs) [] h x = absurd h
fields_suit k (f ∷ fs) (v ∷ vs) h x =
    suits_if k (bytes_eq f.name x) f.ty v _ _ h.0 (fields_suit k fs vs h.1 x)

module _ (k : ℕ) (x : List ℕ) (t : Ty) (v : Value) (fits : HasType k t v) where
  set_step : (b : Bool) (d : Variable) (ds : List Variable) (u : Value) (us : List Value) (m : ℕ)
      → HasType k (kind_type d.kind) u → IsState k ds us
      → (variable_type ds x ≡ Some t → IsState k ds (slice_set us m v))
      → cond b (Some (kind_type d.kind)) (variable_type ds x) ≡ Some t
      → IsState k (d ∷ ds) (slice_set (u ∷ us) (cond (not b) (1 + m) 0) v)
  set_step true d ds u us m h hs ih e = let same : kind_type d.kind ≡ t = cc e in
      (subst (λ r. HasType k r v) (sym same) fits, hs)
  set_step false d ds u us m h hs ih e =
      let next : 1 + m ≡ suc m = omega arith in
      subst (λ n. IsState k (d ∷ ds) (slice_set (u ∷ us) n v)) (sym next) (h, ih e)

  -- a value of a variable's type in its place
  set_fits : (ds : List Variable) (vs : List Value) → IsState k ds vs → variable_type ds x ≡ Some t
      → IsState k ds (slice_set vs (variable_place ds x) v)
  set_fits [] [] h e = absurd cc
  set_fits [] (u ∷ us) h e = absurd h
  set_fits (d ∷ ds) [] h e = absurd h
  set_fits (d ∷ ds) (u ∷ us) h e = set_step (bytes_eq d.name x) d ds u us
      (variable_place ds x) h.0 h.1 (set_fits ds us h.1) e

  put_if : (b : Bool) (ds : List Variable) (vs : List Value) (i : ℕ) → IsState k ds vs
      → IsState k ds (slice_set vs i v) → IsState k ds (put vs (cond b (Some i) None) v)
  put_if true ds vs i h s = s
  put_if false ds vs i h s = h

  pub put_fits : (ds : List Variable) (vs : List Value) → IsState k ds vs
      → variable_type ds x ≡ Some t
      → IsState k ds (put vs (position (λ (d : Variable). bytes_eq d.name x) ds) v)
  put_fits ds vs h e =
      let p = λ (d : Variable). bytes_eq d.name x in
      put_if (nat_lt (position_or_len p ds) (length ds)) ds vs (position_or_len p ds) h
      (set_fits ds vs h e)

-- the target's type is the value's
pub target_type : (declared found : Option Ty) → not (is_same_type declared found) ≡ false
    → (t : Ty) × (declared ≡ Some t) × (found ≡ Some t)
target_type None found h = absurd cc
target_type (Some t) found h = (t, refl, has_type-some found t (fails-not (has_type found t) h))

-- assignments in an environment that fits with every state
module _ (k : ℕ) (ds : List Variable) (fs : List Field) (env : Env) (values : env.values ≡ k)
    (variables : env.variables ≡ ds)
    (fits : (vs : List Value) → IsState k ds vs
    → Fits (record { variables = ds; fields = fs; bound = [] }) (with_vars vs env)) where
  abbrev pub here : Context
  here = record { variables = ds; fields = fs; bound = [] }

  assigned_fits : (a : Assignment) (vs : List Value) → wrong_assignment here a ≡ false
      → IsState k ds vs → IsState k ds (assigned env a vs)
  assigned_fits a vs right h =
      let found = target_type (variable_type ds a.target) (type_of a.formula here) right in
      let typed : HasType env.values found.0 (value a.formula (with_vars vs env)) =
      value_typed a.formula here (with_vars vs env) found.0 (fits vs h) found.2 in
      let typed-k = subst (λ n. HasType n found.0 (value a.formula (with_vars vs env))) values
      typed in
      let done = put_fits k a.target found.0 (value a.formula (with_vars vs env)) typed-k ds vs h
      found.1 in
      subst (λ (l : List Variable). IsState k ds
      (put vs (position (λ (d : Variable). bytes_eq d.name a.target) l)
      (value a.formula (with_vars vs env)))) (sym variables) done

  pub runs_fit : (xs : List Assignment) (vs : List Value)
      → list_any (wrong_assignment here) xs ≡ false → IsState k ds vs
      → IsState k ds (runs env xs vs)
  runs_fit [] vs right h = h
  runs_fit (a ∷ xs) vs right h =
      let parts = neither (wrong_assignment here a) (list_any (wrong_assignment here) xs) right in
      runs_fit xs (assigned env a vs) parts.1 (assigned_fits a vs parts.0 h)

none_typed : (k : ℕ) (x : List ℕ) → Suits k None None
none_typed k x = tt

-- what a node of a checked program does in a round
module _ (p : ProgramTree) (n t r i : ℕ) (few : p.values ≤ 64) where
  abbrev pub base : Env
  base = node_env p n t r i

  end_fits : (vs : List Value) → IsStateOf p vs → Fits (context_with [] p) (with_vars vs base)
  end_fits vs h = record {
    values = few;
    bound = refl;
    fields = none_typed p.values;
    variables = variables_suit p.values p.variables vs h;
  }

  send_fits : (dest : ℕ) (vs : List Value) → IsStateOf p vs
      → Fits (context_with [] p) (with_dest dest (with_vars vs base))
  send_fits dest vs h = record {
    values = few;
    bound = refl;
    fields = none_typed p.values;
    variables = variables_suit p.values p.variables vs h;
  }

  message_fits : (j : ℕ) (fs : List Field) (m : List Value) → IsMessage p.values fs m
      → (vs : List Value) → IsStateOf p vs
      → Fits (context_with fs p) (with_vars vs (with_message j fs m base))
  message_fits j fs m ok vs h = record {
    values = few;
    bound = refl;
    fields = fields_suit p.values fs m ok;
    variables = variables_suit p.values p.variables vs h;
  }

  folded_fits : (b : BlockTree)
      → list_any (wrong_assignment (context_with b.fields p)) b.on_message ≡ false
      → (ms : List Received) (vs : List Value)
      → All (λ (m : Received). IsMessage p.values b.fields m.message) ms → IsStateOf p vs
      → IsStateOf p (folded b base ms vs)
  folded_fits b right [] vs ok h = h
  folded_fits b right (m ∷ ms) vs ok h =
      folded_fits b right ms _ (λ k e l. ok (suc k) e (omega (arith, l)))
      (runs_fit p.values p.variables b.fields (with_message m.from b.fields m.message base) refl
      refl (message_fits m.from b.fields m.message
      (All-head (λ (m : Received). IsMessage p.values b.fields m.message) m ms ok)) b.on_message
      vs right h)

  ended_fits : (o : Option BlockTree)
      → ((b : BlockTree) → o ≡ Some b → wrong_block (context_with [] p) b ≡ false)
      → (ms : List Received) (vs : List Value)
      → All (λ (m : Received). IsMessage p.values (fields_in o) m.message) ms → IsStateOf p vs
      → IsStateOf p (ended o base ms vs)
  ended_fits None right ms vs ok h = h
  ended_fits (Some b) right ms vs ok h =
      let typed = IsWellTypedBlock-wrong_block (context_with [] p) b (right b refl) in
      runs_fit p.values p.variables [] base refl refl end_fits b.end (folded b base ms vs) typed.end
      (folded_fits b typed.on_message ms vs ok h)

  values_fit : (c : Context) (env : Env) → env.values ≡ p.values → Fits c env
      → (fs : List Field) (es : List Tree) → length fs ≡ length es → wrong_sent c fs es ≡ false
      → IsMessage p.values fs (map (λ (e : Tree). value e env) es)
  values_fit c env same fit [] [] len right = tt
  values_fit c env same fit [] (e ∷ es) len right = absurd cc
  values_fit c env same fit (f ∷ fs) [] len right = absurd cc
  values_fit c env same fit (f ∷ fs) (e ∷ es) len right =
      let parts = neither (not (has_type (type_of e c) f.ty)) (wrong_sent c fs es) right in
      let typed = value_typed e c env f.ty fit
      (has_type-some (type_of e c) f.ty (fails-not (has_type (type_of e c) f.ty) parts.0)) in (
        subst (λ k. HasType k f.ty (value e env)) same typed,
        values_fit c env same fit fs es (cc len) parts.1,
      )

  message_if : (b : Bool) (fs : List Field) (m : List Value) → IsMessage p.values fs m
      → IfSome (cond b (Some m) None) (IsMessage p.values fs)
  message_if true fs m h = h
  message_if false fs m h = tt

  sent_fits : (o : Option BlockTree)
      → ((b : BlockTree) → o ≡ Some b → wrong_block (context_with [] p) b ≡ false)
      → ((b : BlockTree) → o ≡ Some b → length b.fields ≡ length b.sent)
      → (dest : ℕ) (vs : List Value) → IsStateOf p vs
      → IfSome (sent o (with_dest dest (with_vars vs base))) (IsMessage p.values (fields_in o))
  sent_fits None right counts dest vs h = tt
  sent_fits (Some b) right counts dest vs h =
      let env = with_dest dest (with_vars vs base) in
      let typed = IsWellTypedBlock-wrong_block (context_with [] p) b (right b refl) in
      message_if (flag (value b.condition env)) b.fields _
      (values_fit (context_with [] p) env refl (send_fits dest vs h) b.fields b.sent
      (counts b refl) typed.sent)

-- what fails for all fails for one
pub any_at : {X : Type 0} (q : X → Bool) (xs : List X) (i : ℕ) (x : X) → list_any q xs ≡ false
    → slice_get xs i ≡ Some x → q x ≡ false
any_at q [] i x none at = absurd cc
any_at q (y ∷ ys) zero x none at = let same : y ≡ x = cc at in
    subst (λ z. q z ≡ false) same (neither (q y) (list_any q ys) none).0
any_at q (y ∷ ys) (suc i) x none at = any_at q ys i x (neither (q y) (list_any q ys) none).1 at

-- numbers that don't differ by a test are the same
pub same_number : (m n : ℕ) → not (m == n) ≡ false → m ≡ n
same_number m n h = grind (arith, nat_tests)

module _ (p : ProgramTree) (typed : is_typed p ≡ true) where
  block_typed : (r : ℕ) (b : BlockTree) → block_at p r ≡ Some b
      → wrong_block (context_with [] p) b ≡ false
  block_typed r b at = any_at (wrong_block (context_with [] p)) p.blocks _ b
      (IsWellTyped-typed p typed).blocks at

  block_counts : (r : ℕ) (b : BlockTree) → block_at p r ≡ Some b → length b.fields ≡ length b.sent
  unfolding field_count
  block_counts r b at =
      same_number (length b.fields) (length b.sent)
      (any_at (λ (b : BlockTree). not (length b.fields == length b.sent)) p.blocks _ b
      (IsClear-typed p typed).counts at)

  -- what a node sends in a state of the program is a message of the round's block
  pub send_typed : p.values ≤ 64 → (n t r : ℕ) (vs : List Value) (j i : ℕ) → IsStateOf p vs
      → IfSome (send p n t r vs j i) (IsMessageOf p r)
  send_typed few n t r vs j i h = sent_fits p n t r j few (block_at p r) (block_typed r)
      (block_counts r) i vs h

  -- what a round ends with is a state of the program
  pub end_typed : p.values ≤ 64 → (n t r i : ℕ) (ms : List Received) (vs : List Value)
      → IsStateOf p vs → IsInboxOf p r ms → IsStateOf p (end p n t r i ms vs)
  end_typed few n t r i ms vs h ok =
      ended_fits p n t r i few (block_at p r) (block_typed r) ms vs ok h
