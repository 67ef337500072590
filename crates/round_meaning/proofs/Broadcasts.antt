-- What doesn't name `dest` has one value for every receiver.
use Rattle.std.proofs.Common.{◌≡◌, ℕ, Bool, false, List, [], ◌∷◌, map, Option, Some, None, cond}
use Rattle.std.proofs.Common.{refl, ap, ◌∙◌}
use Rattle.std.proofs.lemmas.Bool.{or_parts}
use Rattle.std.specs.Simd.Lanes.{mask_l}
use Rattle.round_lang.specs.declared.expr.Constant.{Constant}
use Rattle.round_lang.specs.declared.expr.Constant.TheVariants.{True, False, Empty, All, Zero, Me}
use Rattle.round_lang.specs.declared.expr.Constant.TheVariants.{Nodes, Faults, Round, Phase, Dest}
use Rattle.round_lang.specs.declared.expr.Constant.TheVariants.{From}
use Rattle.round_lang.specs.declared.value.Value.TheVariants.{Row}
use Rattle.round_lang.specs.Sets.{set_of}
use Rattle.round_lang.specs.Syntax.{BlockTree}
use Rattle.round_lang.specs.Tree.{Tree, TNumber, TFixed, TNamed, TUnary, TBinary, TIf, TSetOf}
use Rattle.round_lang.specs.Tree.{TRowOf}
use Rattle.round_lang.specs.Values.{num, flag, of_set, unary, binary}
use Rattle.round_meaning.specs.Broadcast.{any_names_dest, is_dest, names_dest, sends_by_dest}
use Rattle.round_meaning.specs.Meaning.{Env, bind, constant, value}
use Rattle.round_meaning.specs.Turn.{sent, with_dest}
use Rattle.round_meaning.proofs.RoundLaws.{map_same}

pub set_of_same : (k : ℕ) (p q : ℕ → Bool) → ((v : ℕ) → p v ≡ q v) → set_of k p ≡ set_of k q
unfolding set_of
set_of_same k p q h = ap mask_l (map_same p q 0 k (λ v lo hi. h v))

constant_same : (c : Constant) (env : Env) (i k : ℕ) → is_dest c ≡ false
    → constant c (with_dest i env) ≡ constant c (with_dest k env)
constant_same True env i k h = refl
constant_same False env i k h = refl
constant_same Empty env i k h = refl
constant_same All env i k h = refl
constant_same Zero env i k h = refl
constant_same Me env i k h = refl
constant_same Nodes env i k h = refl
constant_same Faults env i k h = refl
constant_same Round env i k h = refl
constant_same Phase env i k h = refl
constant_same Dest env i k h = absurd cc
constant_same From env i k h = refl

-- the value of an expression without `dest`
value_same : (e : Tree) (env : Env) (i k : ℕ) → names_dest e ≡ false
    → value e (with_dest i env) ≡ value e (with_dest k env)
value_same (TNumber n) env i k h = refl
value_same (TFixed c) env i k h = constant_same c env i k h
value_same (TNamed x) env i k h = refl
value_same (TUnary op a) env i k h = ap (unary env.values op) (value_same a env i k h)
value_same (TBinary op a b) env i k h =
    let no = or_parts (names_dest a) (names_dest b) h in
    ap (λ v. binary env.values op v (value b (with_dest i env))) (value_same a env i k no.0)
    ∙ ap (binary env.values op (value a (with_dest k env))) (value_same b env i k no.1)
value_same (TIf c a b) env i k h =
    let no = or_parts (names_dest c) _ h in
    let both = or_parts (names_dest a) (names_dest b) no.1 in
    ap (λ v. cond (flag v) (value a (with_dest i env)) (value b (with_dest i env)))
    (value_same c env i k no.0)
    ∙ ap (λ v. cond (flag (value c (with_dest k env))) v (value b (with_dest i env)))
    (value_same a env i k both.0)
    ∙ ap (λ v. cond (flag (value c (with_dest k env))) (value a (with_dest k env)) v)
    (value_same b env i k both.1)
value_same (TSetOf x e) env i k h =
    ap of_set (set_of_same env.values _ _ (λ v. ap flag (value_same e (bind x env v) i k h)))
value_same (TRowOf x e) env i k h =
    ap Row (map_same _ _ 0 env.values (λ v lo hi. ap num (value_same e (bind x env v) i k h)))

values_same : (es : List Tree) (env : Env) (i k : ℕ) → any_names_dest es ≡ false
    → map (λ (e : Tree). value e (with_dest i env)) es
    ≡ map (λ (e : Tree). value e (with_dest k env)) es
values_same [] env i k h = refl
values_same (e ∷ es) env i k h =
    let no = or_parts (names_dest e) (any_names_dest es) h in
    ap (λ v. v ∷ map (λ (f : Tree). value f (with_dest i env)) es) (value_same e env i k no.0)
    ∙ ap (λ vs. value e (with_dest k env) ∷ vs) (values_same es env i k no.1)

-- what a block without `dest` sends
pub sent_same : (b : Option BlockTree) (env : Env) (i k : ℕ) → sends_by_dest b ≡ false
    → sent b (with_dest i env) ≡ sent b (with_dest k env)
sent_same None env i k h = refl
sent_same (Some b) env i k h =
    let no = or_parts (names_dest b.condition) (any_names_dest b.sent) h in
    ap (λ v. cond (flag v) (Some (map (λ (e : Tree). value e (with_dest i env)) b.sent)) None)
    (value_same b.condition env i k no.0)
    ∙ ap (λ vs. cond (flag (value b.condition (with_dest k env))) (Some vs) None)
    (values_same b.sent env i k no.1)
