-- The steps of the readers, taken apart.
use Rattle.std.proofs.Common.{◌≡◌, ℕ, ◌≤◌, Bool, true, false, cond, ◌&&◌, leb, List, ◌∷◌, length}
use Rattle.std.proofs.Common.{Option, Some, None, refl, ap, ◌∙◌, subst, rules}
use Rattle.std.proofs.lemmas.Bool.{leb-true, and_parts}
use Rattle.std.proofs.lemmas.Option.{same_Some}
use denote.Enum.Bare.{same_true, true_same}
use Rattle.round_lang.specs.declared.expr.Ty.{Ty}
use Rattle.round_lang.specs.declared.expr.BinaryOperator.{BinaryOperator}
use Rattle.round_lang.specs.declared.expr.BinaryOperator.TheVariants as binary
use Rattle.round_lang.specs.contracts.token.Mark.{the_type}
use Rattle.round_lang.specs.declared.token.Mark.{Mark}
use Rattle.round_lang.specs.contracts.parsing.level.Level as level
use Rattle.round_lang.specs.declared.parsing.level.Level.{Level}
use Rattle.round_lang.specs.Lexemes.{Lexeme, name, number, mark, kind, infix_word, same_mark}
use Rattle.round_lang.specs.Limits.{max_name}
use Rattle.round_lang.specs.Grammar.{level_of, value_of}
use Rattle.round_lang.specs.Reading.{◌>>=◌, after, after_equal, name_at, type_at, value_within}
use Rattle.round_lang.specs.Reading.{number_at, same_level, operator_of, operator_at}

pub some_then : {A B : Type 0} (o : Option A) (f : A → Option B) (y : B) → (o >>= f) ≡ Some y
    → (a : A) × (o ≡ Some a) × (f a ≡ Some y)
some_then (Some a) f y e = (a, refl, e)
some_then None f y e = absurd cc

pub guard_some : {A : Type 0} (b : Bool) (o : Option A) (y : A) → cond b o None ≡ Some y
    → (b ≡ true) × (o ≡ Some y)
guard_some true o y e = (refl, e)
guard_some false o y e = absurd cc

pub mark_same : (a b : Mark) → same_mark a b ≡ true → a ≡ b
unfolding same_mark
mark_same a b e = same_true the_type (search rules) a b e

pub mark_itself : (a : Mark) → same_mark a a ≡ true
unfolding same_mark
mark_itself a = true_same the_type a a refl

pub level_same : (a b : Level) → same_level a b ≡ true → a ≡ b
unfolding same_level
level_same a b e = same_true level.the_type (search rules) a b e

pub level_itself : (a : Level) → same_level a a ≡ true
unfolding same_level
level_itself a = true_same level.the_type a a refl

pub after_is : (sign : Mark) (ws rest : List Lexeme) → after sign ws ≡ Some rest
    → ws ≡ mark sign ∷ rest
unfolding after
after_is sign (mark k ∷ ws) rest e =
    let g = guard_some (same_mark k sign) (Some ws) rest e in
    let k-is = mark_same k sign g.0 in
    let ws-is = same_Some ws rest g.1 in cc
after_is sign _ rest e = absurd cc

pub after_equal_is : (ws rest : List Lexeme) → after_equal ws ≡ Some rest
    → ws ≡ infix_word binary.Equal ∷ rest
unfolding after_equal
after_equal_is (infix_word binary.Equal ∷ ws) rest e = let ws-is = same_Some ws rest e in cc
after_equal_is _ rest e = absurd cc

pub name_is : (ws : List Lexeme) (x : List ℕ) (rest : List Lexeme) → name_at ws ≡ Some (x, rest)
    → (ws ≡ name x ∷ rest) × (length x ≤ max_name)
unfolding name_at
name_is (name y ∷ ws) x rest e =
    let g = guard_some (leb (length y) max_name) (Some (y, ws)) (x, rest) e in
    let p = same_Some (y, ws) (x, rest) g.1 in
    let y-is : y ≡ x = ap (λ (q : List ℕ × List Lexeme). q.0) p in
    let ws-is : ws ≡ rest = ap (λ (q : List ℕ × List Lexeme). q.1) p in
    (cc, subst (λ v. length v ≤ max_name) y-is (leb-true (length y) max_name g.0))
name_is _ x rest e = absurd cc

pub type_is : (ws : List Lexeme) (ty : Ty) (rest : List Lexeme) → type_at ws ≡ Some (ty, rest)
    → ws ≡ kind ty ∷ rest
unfolding type_at
type_is (kind k ∷ ws) ty rest e =
    let p = same_Some (k, ws) (ty, rest) e in
    let k-is : k ≡ ty = ap (λ (q : Ty × List Lexeme). q.0) p in
    let ws-is : ws ≡ rest = ap (λ (q : Ty × List Lexeme). q.1) p in cc
type_is _ ty rest e = absurd cc

-- a number that was read, by its digits
pub record Numeral (low high : ℕ) (ws : List Lexeme) (v : ℕ) (rest : List Lexeme) : Type 0 where
  pub digits : List ℕ
  pub is : ws ≡ number digits ∷ rest
  pub value : value_of digits ≡ v
  pub least : low ≤ v
  pub most : v ≤ high

value_is : (low high : ℕ) (digits : List ℕ) (v : ℕ) → value_within low high digits ≡ Some v
    → (value_of digits ≡ v) × (low ≤ v) × (v ≤ high)
unfolding value_within
value_is low high digits v e =
    let g = guard_some (leb low (value_of digits) && leb (value_of digits) high)
    (Some (value_of digits)) v e in
    let v-is = same_Some (value_of digits) v g.1 in
    let b = and_parts (leb low (value_of digits)) (leb (value_of digits) high) g.0 in (
      v-is,
      subst (λ u. low ≤ u) v-is (leb-true low (value_of digits) b.0),
      subst (λ u. u ≤ high)
          v-is (leb-true (value_of digits) high b.1),
    )

pub number_is : (low high : ℕ) (ws : List Lexeme) (v : ℕ) (rest : List Lexeme)
    → number_at low high ws ≡ Some (v, rest) → Numeral low high ws v rest
unfolding number_at
number_is low high (number digits ∷ ws) v rest e =
    let o = some_then (value_within low high digits) (λ v. Some (v, ws)) (v, rest) e in
    let p = same_Some (o.0, ws) (v, rest) o.2 in
    let v-is : o.0 ≡ v = ap (λ (q : ℕ × List Lexeme). q.0) p in
    let ws-is : ws ≡ rest = ap (λ (q : ℕ × List Lexeme). q.1) p in
    let value = value_is low high digits v (o.1 ∙ ap (λ u. Some u) v-is) in
    record {
      digits = digits;
      is = ap (λ (v : List Lexeme). number digits ∷ v) ws-is;
      value = value.0;
      least = value.1;
      most = value.2;
    }
number_is low high _ v rest e = absurd cc

operator_of_is : (level : Level) (q : BinaryOperator) (ws : List Lexeme) (found : Option Level)
    (op : BinaryOperator) (xs : List Lexeme) → level_of q ≡ found
    → operator_of level q ws found ≡ Some (op, xs) → (infix_word q ∷ ws ≡ infix_word op ∷ xs)
    × (level_of op ≡ Some level)
operator_of_is level q ws None op xs h e = absurd cc
operator_of_is level q ws (Some l) op xs h e =
    let g = guard_some (same_level l level) (Some (q, ws)) (op, xs) e in
    let l-is = level_same l level g.0 in
    let p = same_Some (q, ws) (op, xs) g.1 in
    let q-is : q ≡ op = ap (λ (v : BinaryOperator × List Lexeme). v.0) p in
    let ws-is : ws ≡ xs = ap (λ (v : BinaryOperator × List Lexeme). v.1) p in
    (cc, subst (λ v. level_of v ≡ Some level) q-is (h ∙ ap (λ v. Some v) l-is))

pub operator_is : (level : Level) (ws : List Lexeme) (op : BinaryOperator) (xs : List Lexeme)
    → operator_at level ws ≡ Some (op, xs) → (ws ≡ infix_word op ∷ xs) × (level_of op ≡ Some level)
unfolding operator_at
operator_is level (infix_word q ∷ ws) op xs e = operator_of_is level q ws (level_of q) op xs refl e
operator_is level _ op xs e = absurd cc
