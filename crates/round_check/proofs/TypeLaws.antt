-- What the types of an expression's parts tell, and when more context keeps them.
use Rattle.std.proofs.Common.{◌≡◌, Bool, true, false, cond, Option, Some, None, sym, refl, ap, ◌∙◌}
use Rattle.round_lang.specs.declared.expr.BinaryOperator.{BinaryOperator}
use Rattle.round_lang.specs.declared.expr.BinaryOperator.TheVariants.{Add, Sub, Div, Mod, Equal}
use Rattle.round_lang.specs.declared.expr.BinaryOperator.TheVariants.{Differs, Less, AtMost, More}
use Rattle.round_lang.specs.declared.expr.BinaryOperator.TheVariants.{AtLeast, And, Or, Union}
use Rattle.round_lang.specs.declared.expr.BinaryOperator.TheVariants.{Inter, Minus, Has, Entry}
use Rattle.round_lang.specs.declared.expr.UnaryOperator.{UnaryOperator}
use Rattle.round_lang.specs.declared.expr.UnaryOperator.TheVariants.{Not, Single, Size, Least}
use Rattle.round_lang.specs.declared.expr.Ty.{Ty}
use Rattle.round_lang.specs.declared.expr.Ty.TheVariants as ty
use Rattle.round_check.specs.Types.{alike, binary_type, both, same_type, unary_type, wants}

pub same-types : (a b : Ty) → same_type a b ≡ true → a ≡ b
same-types ty.Num ty.Num h = refl
same-types ty.Bool ty.Bool h = refl
same-types ty.Set ty.Set h = refl
same-types ty.Row ty.Row h = refl
same-types ty.Num ty.Bool h = cc
same-types ty.Num ty.Set h = cc
same-types ty.Num ty.Row h = cc
same-types ty.Bool ty.Num h = cc
same-types ty.Bool ty.Set h = cc
same-types ty.Bool ty.Row h = cc
same-types ty.Set ty.Num h = cc
same-types ty.Set ty.Bool h = cc
same-types ty.Set ty.Row h = cc
same-types ty.Row ty.Num h = cc
same-types ty.Row ty.Bool h = cc
same-types ty.Row ty.Set h = cc

-- what a checked part tells
pub wanted : (a : Option Ty) (t : Ty) (r : Option Ty) (u : Ty) → wants a t r ≡ Some u
    → (a ≡ Some t) × (r ≡ Some u)
wanted None t r u h = absurd cc
wanted (Some a) t r u h = go (same_type a t) refl h
  where
    go : (b : Bool) → b ≡ same_type a t → cond b r None ≡ Some u → (Some a ≡ Some t) × (r ≡ Some u)
    go true q k = (ap Some (same-types a t (sym q)), k)
    go false q k = absurd cc

pub two_wanted : (a : Option Ty) (s : Ty) (b : Option Ty) (t r u : Ty) → both a s b t r ≡ Some u
    → (a ≡ Some s) × (b ≡ Some t) × (r ≡ u)
two_wanted a s b t r u h =
    let x = wanted a s (wants b t (Some r)) u h in
    let y = wanted b t (Some r) u x.1 in
    let z : r ≡ u = cc y.1 in
    (x.0, y.0, z)

pub two_alike : (a b r : Option Ty) (u : Ty) → alike a b r ≡ Some u → (t : Ty) × (a ≡ Some t)
    × (b ≡ Some t) × (r ≡ Some u)
two_alike None b r u h = absurd cc
two_alike (Some t) b r u h = let x = wanted b t r u h in (t, refl, x.0, x.1)

-- what was typed on the one side has that type on the other
abbrev pub Keeps : Option Ty → Option Ty → Type 0
Keeps a b = (t : Ty) → a ≡ Some t → b ≡ Some t

same_type-same : (t : Ty) → same_type t t ≡ true
same_type-same ty.Num = refl
same_type-same ty.Bool = refl
same_type-same ty.Set = refl
same_type-same ty.Row = refl

pub wants_keeps : (a b : Option Ty) (t : Ty) (r s : Option Ty) → Keeps a b → Keeps r s
    → Keeps (wants a t r) (wants b t s)
wants_keeps a b t r s part rest u h =
    let found = wanted a t r u h in
    ap (λ o. wants o t s) (part t found.0) ∙ ap (λ c. cond c s None) (same_type-same t)
    ∙ rest u found.1

pub same_keeps : (a : Option Ty) → Keeps a a
same_keeps a t h = h

pub both_keeps : (a a' b b' : Option Ty) (s t r : Ty) → Keeps a a' → Keeps b b'
    → Keeps (both a s b t r) (both a' s b' t r)
both_keeps a a' b b' s t r one other =
    wants_keeps a a' s (wants b t (Some r)) (wants b' t (Some r)) one
    (wants_keeps b b' t (Some r) (Some r) other (same_keeps (Some r)))

pub alike_keeps : (a a' b b' r r' : Option Ty) → Keeps a a' → Keeps b b' → Keeps r r'
    → Keeps (alike a b r) (alike a' b' r')
alike_keeps None a' b b' r r' one other rest u h = absurd cc
alike_keeps (Some t) a' b b' r r' one other rest u h =
    ap (λ o. alike o b' r') (one t refl) ∙ wants_keeps b b' t r r' other rest u h

pub unary_keeps : (op : UnaryOperator) (a b : Option Ty) → Keeps a b
    → Keeps (unary_type op a) (unary_type op b)
unary_keeps Not a b part = wants_keeps a b ty.Bool _ _ part (same_keeps _)
unary_keeps Single a b part = wants_keeps a b ty.Num _ _ part (same_keeps _)
unary_keeps Size a b part = wants_keeps a b ty.Set _ _ part (same_keeps _)
unary_keeps Least a b part = wants_keeps a b ty.Set _ _ part (same_keeps _)

pub binary_keeps : (op : BinaryOperator) (a a' b b' : Option Ty) → Keeps a a' → Keeps b b'
    → Keeps (binary_type op a b) (binary_type op a' b')
binary_keeps Add a a' b b' one other = both_keeps a a' b b' _ _ _ one other
binary_keeps Sub a a' b b' one other = both_keeps a a' b b' _ _ _ one other
binary_keeps Div a a' b b' one other = both_keeps a a' b b' _ _ _ one other
binary_keeps Mod a a' b b' one other = both_keeps a a' b b' _ _ _ one other
binary_keeps Equal a a' b b' one other = alike_keeps a a' b b' _ _ one other (same_keeps _)
binary_keeps Differs a a' b b' one other = alike_keeps a a' b b' _ _ one other (same_keeps _)
binary_keeps Less a a' b b' one other = both_keeps a a' b b' _ _ _ one other
binary_keeps AtMost a a' b b' one other = both_keeps a a' b b' _ _ _ one other
binary_keeps More a a' b b' one other = both_keeps a a' b b' _ _ _ one other
binary_keeps AtLeast a a' b b' one other = both_keeps a a' b b' _ _ _ one other
binary_keeps And a a' b b' one other = both_keeps a a' b b' _ _ _ one other
binary_keeps Or a a' b b' one other = both_keeps a a' b b' _ _ _ one other
binary_keeps Union a a' b b' one other = both_keeps a a' b b' _ _ _ one other
binary_keeps Inter a a' b b' one other = both_keeps a a' b b' _ _ _ one other
binary_keeps Minus a a' b b' one other = both_keeps a a' b b' _ _ _ one other
binary_keeps Has a a' b b' one other = both_keeps a a' b b' _ _ _ one other
binary_keeps Entry a a' b b' one other = both_keeps a a' b b' _ _ _ one other
