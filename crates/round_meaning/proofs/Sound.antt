-- An expression's value has its type.
use Rattle.std.proofs.Common.{◌≡◌, ℕ, ◌^◌, ◌<◌, ◌≤◌, Bool, true, false, cond, List, [], ◌∷◌, map}
use Rattle.std.proofs.Common.{Option, Some, None, is_some, sym, refl, ap, ◌∙◌, subst, arith}
use Rattle.std.specs.Prelude.{◌||◌}
use Rattle.std.specs.Str.{bytes_eq}
use Rattle.std.proofs.Math.Pow.{ones_lt}
use Rattle.std.proofs.lemmas.List.{length-replicate}
use Rattle.std.proofs.lemmas.List.FromFn.{length-map-range_with_len}
use Rattle.std.proofs.lemmas.Option.{same_Some}
use Rattle.round_lang.specs.declared.expr.Constant.{Constant}
use Rattle.round_lang.specs.declared.expr.Constant.TheVariants.{True, False, Empty, All, Zero, Me}
use Rattle.round_lang.specs.declared.expr.Constant.TheVariants.{Nodes, Faults, Round, Phase, Dest}
use Rattle.round_lang.specs.declared.expr.Constant.TheVariants.{From}
use Rattle.round_lang.specs.declared.expr.UnaryOperator.{UnaryOperator}
use Rattle.round_lang.specs.declared.expr.UnaryOperator.TheVariants.{Not, Single, Size, Least}
use Rattle.round_lang.specs.declared.expr.BinaryOperator.{BinaryOperator}
use Rattle.round_lang.specs.declared.expr.BinaryOperator.TheVariants.{Add, Sub, Div, Mod, Equal}
use Rattle.round_lang.specs.declared.expr.BinaryOperator.TheVariants.{Differs, Less, AtMost, More}
use Rattle.round_lang.specs.declared.expr.BinaryOperator.TheVariants.{AtLeast, And, Or, Union}
use Rattle.round_lang.specs.declared.expr.BinaryOperator.TheVariants.{Inter, Minus, Has, Entry}
use Rattle.round_lang.specs.declared.expr.Ty.{Ty}
use Rattle.round_lang.specs.declared.expr.Ty.TheVariants as ty
use Rattle.round_lang.specs.declared.value.Value.{Value}
use Rattle.round_lang.specs.declared.value.Value.TheVariants.{Num, Flag, Set, Row}
use Rattle.round_lang.specs.Tree.{Tree, TNumber, TFixed, TNamed, TUnary, TBinary, TIf, TSetOf}
use Rattle.round_lang.specs.Tree.{TRowOf}
use Rattle.round_lang.specs.Values.{flag, set, unary, binary}
use Rattle.round_lang.proofs.SetLaws.{set_of-lt, union-lt, inter-lt, minus-lt}
use Rattle.round_check.specs.Names.{contains_name}
use Rattle.round_check.proofs.TypeLaws.{two_alike, two_wanted, wanted}
use Rattle.round_check.specs.Types.{Context, alike, binary_type, both, constant_type, name_type}
use Rattle.round_check.specs.Types.{or_else, type_of, unary_type, under}
use Rattle.round_meaning.specs.Meaning.{Env, constant, find_bound, look_up, or_number, or_value}
use Rattle.round_meaning.specs.Meaning.{value}
use Rattle.round_meaning.specs.Typed.{Fits, HasType, Suits}

-- a value at another name of its type
pub typed_at : (k : ℕ) (r u : Ty) (v : Value) → r ≡ u → HasType k r v → HasType k u v
typed_at k r u v e h = subst (λ t. HasType k t v) e h

constant_typed : (c : Constant) (env : Env) → env.values ≤ 64
    → HasType env.values (constant_type c) (constant c env)
constant_typed True env h = tt
constant_typed False env h = tt
constant_typed Empty env h = omega (arith, ones_lt env.values)
constant_typed All env h = set_of-lt env.values (λ v. true)
constant_typed Zero env h = length-replicate env.values 0
constant_typed Me env h = tt
constant_typed Nodes env h = tt
constant_typed Faults env h = tt
constant_typed Round env h = tt
constant_typed Phase env h = tt
constant_typed Dest env h = tt
constant_typed From env h = tt

unary_typed : (k : ℕ) (op : UnaryOperator) (a : Option Ty) (v : Value) (u : Ty)
    → unary_type op a ≡ Some u → HasType k u (unary k op v)
unary_typed k Not a v u h = typed_at k ty.Bool u _
    (same_Some _ _ (wanted a ty.Bool (Some ty.Bool) u h).1) tt
unary_typed k Single a v u h = typed_at k ty.Set u _
    (same_Some _ _ (wanted a ty.Num (Some ty.Set) u h).1) (set_of-lt k _)
unary_typed k Size a v u h = typed_at k ty.Num u _
    (same_Some _ _ (wanted a ty.Set (Some ty.Num) u h).1) tt
unary_typed k Least a v u h = typed_at k ty.Num u _
    (same_Some _ _ (wanted a ty.Set (Some ty.Num) u h).1) tt

set_typed : (k : ℕ) (v : Value) → HasType k ty.Set v → set v < 2 ^ k
set_typed k (Set s) h = h
set_typed k (Num n) h = absurd h
set_typed k (Flag b) h = absurd h
set_typed k (Row r) h = absurd h

module _ (k : ℕ) (few : k ≤ 64) (a b : Option Ty) (v w : Value) (u : Ty) (hv : (t : Ty) → a ≡ Some t
    → HasType k t v) (hw : (t : Ty) → b ≡ Some t → HasType k t w) where
  number : both a ty.Num b ty.Num ty.Num ≡ Some u → (n : ℕ) → HasType k u (Num n)
  number h n = typed_at k ty.Num u _ (two_wanted a ty.Num b ty.Num ty.Num u h).2 tt

  truth : (s t : Ty) → both a s b t ty.Bool ≡ Some u → (c : Bool) → HasType k u (Flag c)
  truth s t h c = typed_at k ty.Bool u _ (two_wanted a s b t ty.Bool u h).2 tt

  equality : alike a b (Some ty.Bool) ≡ Some u → (c : Bool) → HasType k u (Flag c)
  equality h c = typed_at k ty.Bool u _ (same_Some _ _ (two_alike a b (Some ty.Bool) u h).3) tt

  binary_typed : (op : BinaryOperator) → binary_type op a b ≡ Some u → HasType k u (binary k op v w)
  binary_typed Add h = number h _
  binary_typed Sub h = number h _
  binary_typed Div h = number h _
  binary_typed Mod h = number h _
  binary_typed Equal h = equality h _
  binary_typed Differs h = equality h _
  binary_typed Less h = truth ty.Num ty.Num h _
  binary_typed AtMost h = truth ty.Num ty.Num h _
  binary_typed More h = truth ty.Num ty.Num h _
  binary_typed AtLeast h = truth ty.Num ty.Num h _
  binary_typed And h = truth ty.Bool ty.Bool h _
  binary_typed Or h = truth ty.Bool ty.Bool h _
  binary_typed Union h =
      let x = two_wanted a ty.Set b ty.Set ty.Set u h in
      typed_at k ty.Set u _ x.2
      (union-lt k (set v) (set w) few (set_typed k v (hv ty.Set x.0))
      (set_typed k w (hw ty.Set x.1)))
  binary_typed Inter h =
      let x = two_wanted a ty.Set b ty.Set ty.Set u h in
      typed_at k ty.Set u _ x.2 (inter-lt k (set v) (set w) few (set_typed k v (hv ty.Set x.0)))
  binary_typed Minus h =
      let x = two_wanted a ty.Set b ty.Set ty.Set u h in
      typed_at k ty.Set u _ x.2
      (minus-lt k (set v) (set w) few (set_typed k v (hv ty.Set x.0))
      (set_typed k w (hw ty.Set x.1)))
  binary_typed Has h = truth ty.Set ty.Num h _
  binary_typed Entry h = typed_at k ty.Num u _ (two_wanted a ty.Row b ty.Num ty.Num u h).2 tt

some_if : (b : Bool) (v : ℕ) (c : Bool) (V : Option ℕ) → c ≡ is_some V
    → (b || c) ≡ is_some (cond b (Some v) V)
some_if true v c V h = refl
some_if false v c V h = h

bound_known : (bs : List (List ℕ × ℕ)) (x : List ℕ)
    → contains_name (map (λ (b : List ℕ × ℕ). b.0) bs) x ≡ is_some (find_bound bs x)
bound_known [] x = refl
bound_known (b ∷ bs) x = some_if (bytes_eq b.0 x) b.1 _ (find_bound bs x) (bound_known bs x)

variable_typed : (k : ℕ) (T : Option Ty) (V : Option Value) (t : Ty) → Suits k T V → T ≡ Some t
    → HasType k t (or_value V (Num 0))
variable_typed k None V t s h = absurd cc
variable_typed k (Some r) None t s h = absurd s
variable_typed k (Some r) (Some v) t s h = typed_at k r t v (same_Some _ _ h) s

field_typed : (k : ℕ) (FT VT : Option Ty) (FV VV : Option Value) (t : Ty) → Suits k FT FV
    → Suits k VT VV → or_else FT VT ≡ Some t → HasType k t (or_value FV (or_value VV (Num 0)))
field_typed k None VT None VV t f s h = variable_typed k VT VV t s h
field_typed k None VT (Some v) VV t f s h = absurd f
field_typed k (Some r) VT None VV t f s h = absurd f
field_typed k (Some r) VT (Some v) VV t f s h = typed_at k r t v (same_Some _ _ h) f

name_typed : (k : ℕ) (B : Bool) (N : Option ℕ) (FT VT : Option Ty) (FV VV : Option Value) (t : Ty)
    → B ≡ is_some N → Suits k FT FV → Suits k VT VV → cond B (Some ty.Num) (or_else FT VT) ≡ Some t
    → HasType k t (or_number N (or_value FV (or_value VV (Num 0))))
name_typed k true (Some n) FT VT FV VV t e f v h = typed_at k ty.Num t _ (same_Some _ _ h) tt
name_typed k false None FT VT FV VV t e f v h = field_typed k FT VT FV VV t f v h
name_typed k true None FT VT FV VV t e f v h = absurd cc
name_typed k false (Some n) FT VT FV VV t e f v h = absurd cc

-- the value under a name
named_typed : (c : Context) (env : Env) (x : List ℕ) (t : Ty) → Fits c env → name_type c x ≡ Some t
    → HasType env.values t (look_up env x)
named_typed c env x t f h =
    name_typed env.values (contains_name c.bound x) (find_bound env.bound x) _ _ _ _ t
    (ap (λ l. contains_name l x) (sym f.bound) ∙ bound_known env.bound x) (f.fields x)
    (f.variables x) h

choose_typed : (k : ℕ) (t : Ty) (b : Bool) (v w : Value) → HasType k t v → HasType k t w
    → HasType k t (cond b v w)
choose_typed k t true v w hv hw = hv
choose_typed k t false v w hv hw = hw

pub value_typed : (e : Tree) (c : Context) (env : Env) (t : Ty) → Fits c env → type_of e c ≡ Some t
    → HasType env.values t (value e env)
value_typed (TNumber n) c env t f h = typed_at env.values ty.Num t _ (same_Some _ _ h) tt
value_typed (TFixed k) c env t f h =
    typed_at env.values (constant_type k) t _ (same_Some _ _ h) (constant_typed k env f.values)
value_typed (TNamed x) c env t f h = named_typed c env x t f h
value_typed (TUnary op a) c env t f h = unary_typed env.values op (type_of a c) (value a env) t h
value_typed (TBinary op a b) c env t f h =
    binary_typed env.values f.values (type_of a c) (type_of b c) (value a env) (value b env) t
    (λ s g. value_typed a c env s f g) (λ s g. value_typed b c env s f g) op h
value_typed (TIf e a b) c env t f h =
    let x = wanted (type_of e c) ty.Bool _ t h in
    let y = two_alike (type_of a c) (type_of b c) (type_of a c) t x.1 in
    let s : y.0 ≡ t = same_Some _ _ (sym y.1 ∙ y.3) in
    choose_typed env.values t (flag (value e env)) (value a env) (value b env)
    (typed_at _ _ _ _ s (value_typed a c env y.0 f y.1))
    (typed_at _ _ _ _ s (value_typed b c env y.0 f y.2))
value_typed (TSetOf x e) c env t f h =
    typed_at env.values ty.Set t _
    (same_Some _ _ (wanted (type_of e (under x c)) ty.Bool (Some ty.Set) t h).1)
    (set_of-lt env.values _)
value_typed (TRowOf x e) c env t f h =
    typed_at env.values ty.Row t _
    (same_Some _ _ (wanted (type_of e (under x c)) ty.Num (Some ty.Row) t h).1)
    (length-map-range_with_len _ 0 env.values)
