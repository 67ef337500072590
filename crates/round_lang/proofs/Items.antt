-- Reading an expression, a field, an assignment or a declaration is its rule.
use Rattle.std.proofs.Common.{◌≡◌, ℕ, ◌+◌, ◌<◌, ◌≤◌, true, false, cond, ltb, List, ◌∷◌, length}
use Rattle.std.proofs.Common.{Some, None, refl, sym, ap, ◌∙◌, subst, arith, lt-ltb}
use Rattle.std.proofs.lemmas.Bool.{ltb-true}
use Rattle.std.proofs.lemmas.Option.{same_Some}
use Rattle.round_lang.specs.declared.expr.Ty.{Ty}
use Rattle.round_lang.specs.declared.expr.BinaryOperator.TheVariants as binary
use Rattle.round_lang.specs.declared.token.Mark.TheVariants as m
use Rattle.round_lang.specs.declared.block.Field.{Field}
use Rattle.round_lang.specs.declared.block.Assignment.{Assignment}
use Rattle.round_lang.specs.declared.program.VariableKind.TheVariants.{Input, State}
use Rattle.round_lang.specs.declared.parsing.level.Level.TheVariants.{Whole}
use Rattle.round_lang.specs.declared.parsing.part.Declaration.{Declaration}
use Rattle.round_lang.specs.declared.parsing.part.Declaration.TheVariants as d
use Rattle.round_lang.specs.Lexemes.{Lexeme, name, mark, kind, infix_word, same_mark}
use Rattle.round_lang.specs.Limits.{max_name, max_fields, max_variables}
use Rattle.round_lang.specs.Tree.{Tree}
use Rattle.round_lang.specs.Source.{IsExpr, IsField, IsAssign, IsDecl}
use Rattle.round_lang.specs.Source as g
use Rattle.round_lang.specs.Reading.{◌>>=◌, after, after_equal, name_at, type_at, begins_with}
use Rattle.round_lang.specs.Reading.{begins_name, formula}
use Rattle.round_lang.specs.Parts.{counted_name, field, assignment, any_assignment, any_formula}
use Rattle.round_lang.specs.Parts.{state, input, decide, begins_declaration, declaration}
use Rattle.round_lang.specs.Parts.{variable_count}
use Rattle.round_lang.proofs.Steps.{some_then, guard_some, after_is, after_equal_is}
use Rattle.round_lang.proofs.Steps.{name_is, type_is}
use Rattle.round_lang.proofs.Sound.{formula_good}
use Rattle.round_lang.proofs.Ends.{Ends, ends_at_semicolon, ends_at_state, ends_at_input}
use Rattle.round_lang.proofs.Ends.{ends_at_decide}
use Rattle.round_lang.proofs.Complete.{formula_found, name_found}
use Rattle.round_lang.proofs.Shorter.{reads_shorter}
use Rattle.round_lang.proofs.Repetition.{ItemLaws}
use Rattle.round_lang.proofs.Lists.{PartLaws}

abbrev pub Anything : List Lexeme → Type 0
Anything rest = Unit {0}

-- ---- expressions

pub expr_laws : PartLaws any_formula (λ t. 0) 0 IsExpr (Ends Whole)
expr_laws = record {
  good = λ count ws t rest e. (formula_good ws t rest e, λ le. omega (arith, le));
  found = λ count t ws rest r few f. formula_found t ws rest r f;
  shorter = λ t ws rest r. reads_shorter r;
}

-- ---- names that are counted

pub record Counted (count most : ℕ) (ws : List Lexeme) (x : List ℕ)
    (rest : List Lexeme) : Type 0 where
  pub is : ws ≡ name x ∷ rest
  pub short : length x ≤ max_name
  pub few : count < most

pub counted_is : (count most : ℕ) (ws : List Lexeme) (x : List ℕ) (rest : List Lexeme)
    → counted_name count most ws ≡ Some (x, rest) → Counted count most ws x rest
unfolding counted_name
counted_is count most ws x rest e =
    let o = some_then (name_at ws) (λ x. cond (ltb count most) (Some x) None) (x, rest) e in
    let p = guard_some (ltb count most) (Some o.0) (x, rest) o.2 in
    let same = same_Some o.0 (x, rest) p.1 in
    let named = name_is ws x rest (o.1 ∙ ap (λ (v : List ℕ × List Lexeme). Some v) same) in
    record { is = named.0; short = named.1; few = ltb-true count most p.0 }

pub counted_found : (count most : ℕ) (x : List ℕ) (rest : List Lexeme) → length x ≤ max_name
    → count < most → counted_name count most (name x ∷ rest) ≡ Some (x, rest)
unfolding counted_name
counted_found count most x rest short few =
    let named = name_found x rest short in
    let test : ltb count most ≡ true = lt-ltb count most few in
    rw (named, test) refl

-- ---- fields

field_good : (count : ℕ) (ws : List Lexeme) (f : Field) (rest : List Lexeme)
    → field count ws ≡ Some (f, rest) → IsField f ws rest × (count < max_fields)
unfolding field
field_good count ws f rest e =
    let last =
    λ (x : List ℕ) (ty : Ty × List Lexeme). Some (record { name = x; ty = ty.0 }, ty.1) in
    let x = some_then (counted_name count max_fields ws)
    (λ x. after m.Colon x.1 >>= λ xs. type_at xs >>= λ ty. last x.0 ty) (f, rest) e in
    let o = some_then (after m.Colon x.0.1) (λ xs. type_at xs >>= λ ty. last x.0.0 ty) (f, rest)
    x.2 in
    let ty = some_then (type_at o.0) (λ ty. last x.0.0 ty) (f, rest) o.2 in
    let named = counted_is count max_fields ws x.0.0 x.0.1 x.1 in
    let ws-is : ws ≡ name x.0.0 ∷ mark m.Colon ∷ kind ty.0.0 ∷ ty.0.1 =
    named.is ∙ ap (λ (v : List Lexeme). name x.0.0 ∷ v)
    (after_is m.Colon x.0.1 o.0 o.1 ∙ ap (λ (v : List Lexeme). mark m.Colon ∷ v)
    (type_is o.0 ty.0.0 ty.0.1 ty.1)) in
    let made : IsField (record { name = x.0.0; ty = ty.0.0 }) ws ty.0.1 =
    subst (λ (v : List Lexeme). IsField (record { name = x.0.0; ty = ty.0.0 }) v ty.0.1)
    (sym ws-is) (g.field named.short) in (
      subst (λ (v : Field × List Lexeme). IsField v.0 ws v.1)
          (same_Some (record { name = x.0.0; ty = ty.0.0 }, ty.0.1) (f, rest) ty.2) made,
      named.few,
    )

field_found : (count : ℕ) {f : Field} {ws rest : List Lexeme} → IsField f ws rest
    → count < max_fields → field count ws ≡ Some (f, rest)
unfolding field type_at after same_mark
field_found count (g.field {x = x} {ty = ty} {rest = rest} short) few = let named =
    counted_found count max_fields x (mark m.Colon ∷ kind ty ∷ rest) short few in rw named refl

field_shorter : {f : Field} {ws rest : List Lexeme} → IsField f ws rest → length rest < length ws
field_shorter (g.field short) = omega arith

pub field_no_close : {f : Field} {ws rest : List Lexeme} → IsField f ws rest
    → begins_with m.Close ws ≡ false
unfolding begins_with
field_no_close (g.field short) = refl

pub field_laws : PartLaws field (λ f. 1) max_fields IsField Anything
field_laws = record {
  good = λ count ws f rest e. let p =
      field_good count ws f rest e in (p.0, λ le. omega (arith, p.1));
  found = λ count f ws rest r few any. field_found count r (omega arith);
  shorter = λ f ws rest r. field_shorter r;
}

-- ---- assignments

assignment_good : (ws : List Lexeme) (a : Assignment) (rest : List Lexeme)
    → assignment ws ≡ Some (a, rest) → IsAssign a ws rest
unfolding assignment
assignment_good ws a rest e =
    let last = λ (x : List ℕ) (t : Tree × List Lexeme). after m.Semicolon t.1
    >>= λ rest. Some (record { target = x; formula = t.0 }, rest) in
    let x = some_then (name_at ws)
    (λ x. after m.Assign x.1 >>= λ xs. formula xs >>= λ t. last x.0 t) (a, rest) e in
    let o = some_then (after m.Assign x.0.1) (λ xs. formula xs >>= λ t. last x.0.0 t) (a, rest)
    x.2 in
    let t = some_then (formula o.0) (λ t. last x.0.0 t) (a, rest) o.2 in
    let c = some_then (after m.Semicolon t.0.1)
    (λ rest. Some (record { target = x.0.0; formula = t.0.0 }, rest)) (a, rest) t.2 in
    let named = name_is ws x.0.0 x.0.1 x.1 in
    let ws-is : ws ≡ name x.0.0 ∷ mark m.Assign ∷ o.0 =
    named.0 ∙ ap (λ (v : List Lexeme). name x.0.0 ∷ v) (after_is m.Assign x.0.1 o.0 o.1) in
    let r : IsExpr t.0.0 o.0 (mark m.Semicolon ∷ c.0) =
    subst (λ (v : List Lexeme). IsExpr t.0.0 o.0 v) (after_is m.Semicolon t.0.1 c.0 c.1)
    (formula_good o.0 t.0.0 t.0.1 t.1) in
    let made : IsAssign (record { target = x.0.0; formula = t.0.0 }) ws c.0 =
    subst (λ (v : List Lexeme). IsAssign (record { target = x.0.0; formula = t.0.0 }) v c.0)
    (sym ws-is) (g.assign named.1 r) in
    subst (λ (v : Assignment × List Lexeme). IsAssign v.0 ws v.1)
    (same_Some (record { target = x.0.0; formula = t.0.0 }, c.0) (a, rest) c.2) made

assignment_found : {a : Assignment} {ws rest : List Lexeme} → IsAssign a ws rest
    → assignment ws ≡ Some (a, rest)
unfolding assignment after same_mark
assignment_found (g.assign {x = x} {t = t} {ws = ws} {rest = rest} short r) =
    let named = name_found x (mark m.Assign ∷ ws) short in
    let f = formula_found t ws (mark m.Semicolon ∷ rest) r (ends_at_semicolon rest) in
    rw (named, f) refl

assignment_shorter : {a : Assignment} {ws rest : List Lexeme} → IsAssign a ws rest
    → length rest < length ws
assignment_shorter (g.assign short r) = omega (arith, reads_shorter r)

assignment_begun : {a : Assignment} {ws rest : List Lexeme} → IsAssign a ws rest
    → begins_name ws ≡ true
unfolding begins_name
assignment_begun (g.assign short r) = refl

pub assignment_laws : ItemLaws begins_name any_assignment (λ a. 0) 0 IsAssign Anything
assignment_laws = record {
  good = λ count ws a rest e. (assignment_good ws a rest e, λ le. omega (arith, le));
  found = λ count a ws rest r few any. assignment_found r;
  shorter = λ a ws rest r. assignment_shorter r;
  begun = λ a ws rest r. assignment_begun r;
  follows = λ ws e. tt;
}

-- ---- declarations

abbrev DeclGood : ℕ → Declaration → List Lexeme → List Lexeme → Type 0
DeclGood count a ws rest =
    IsDecl a ws rest × (count ≤ max_variables → variable_count a + count ≤ max_variables)

state_good : (count : ℕ) (ws : List Lexeme) (a : Declaration) (rest : List Lexeme)
    → state count ws ≡ Some (a, rest) → DeclGood count a (mark m.State ∷ ws) rest
unfolding state
state_good count ws a rest e =
    let last = λ (x : List ℕ) (ty : Ty) (t : Tree × List Lexeme). Some
    (d.Variable (record { name = x; kind = State ty t.0 }), t.1) in
    let x = some_then (counted_name count max_variables ws)
    (λ x. after m.Colon x.1 >>= λ xs. type_at xs >>= λ ty. after_equal ty.1 >>= λ ys. formula ys
    >>= λ t. last x.0 ty.0 t) (a, rest) e in
    let o = some_then (after m.Colon x.0.1)
    (λ xs. type_at xs >>= λ ty. after_equal ty.1 >>= λ ys. formula ys >>= λ t. last x.0.0 ty.0
    t) (a, rest) x.2 in
    let ty = some_then (type_at o.0)
    (λ ty. after_equal ty.1 >>= λ ys. formula ys >>= λ t. last x.0.0 ty.0 t) (a, rest) o.2 in
    let q = some_then (after_equal ty.0.1) (λ ys. formula ys >>= λ t. last x.0.0 ty.0.0 t) (a, rest)
    ty.2 in
    let t = some_then (formula q.0) (λ t. last x.0.0 ty.0.0 t) (a, rest) q.2 in
    let named = counted_is count max_variables ws x.0.0 x.0.1 x.1 in
    let made-of : Declaration = d.Variable (record { name = x.0.0; kind = State ty.0.0 t.0.0 }) in
    let ws-is : ws ≡ name x.0.0 ∷ mark m.Colon ∷ kind ty.0.0 ∷ infix_word binary.Equal ∷ q.0 =
    named.is ∙ ap (λ (v : List Lexeme). name x.0.0 ∷ v)
    (after_is m.Colon x.0.1 o.0 o.1 ∙ ap (λ (v : List Lexeme). mark m.Colon ∷ v)
    (type_is o.0 ty.0.0 ty.0.1 ty.1 ∙ ap (λ (v : List Lexeme). kind ty.0.0 ∷ v)
    (after_equal_is ty.0.1 q.0 q.1))) in
    let made : IsDecl made-of (mark m.State ∷ ws) t.0.1 =
    subst (λ (v : List Lexeme). IsDecl made-of (mark m.State ∷ v) t.0.1) (sym ws-is)
    (g.state named.short (formula_good q.0 t.0.0 t.0.1 t.1)) in
    let few : 1 + count ≤ max_variables = omega (arith, named.few) in
    subst (λ (v : Declaration × List Lexeme). DeclGood count v.0 (mark m.State ∷ ws) v.1)
    (same_Some (made-of, t.0.1) (a, rest) t.2) (made, λ le. few)

input_good : (count : ℕ) (ws : List Lexeme) (a : Declaration) (rest : List Lexeme)
    → input count ws ≡ Some (a, rest) → DeclGood count a (mark m.Input ∷ ws) rest
unfolding input
input_good count ws a rest e =
    let x = some_then (counted_name count max_variables ws)
    (λ x. Some (d.Variable (record { name = x.0; kind = Input }), x.1)) (a, rest) e in
    let named = counted_is count max_variables ws x.0.0 x.0.1 x.1 in
    let made-of : Declaration = d.Variable (record { name = x.0.0; kind = Input }) in
    let made : IsDecl made-of (mark m.Input ∷ ws) x.0.1 =
    subst (λ (v : List Lexeme). IsDecl made-of (mark m.Input ∷ v) x.0.1) (sym named.is)
    (g.input named.short) in
    let few : 1 + count ≤ max_variables = omega (arith, named.few) in
    subst (λ (v : Declaration × List Lexeme). DeclGood count v.0 (mark m.Input ∷ ws) v.1)
    (same_Some (made-of, x.0.1) (a, rest) x.2) (made, λ le. few)

decide_good : (count : ℕ) (ws : List Lexeme) (a : Declaration) (rest : List Lexeme)
    → decide ws ≡ Some (a, rest) → DeclGood count a (mark m.Decide ∷ ws) rest
unfolding decide
decide_good count ws a rest e =
    let x = some_then (name_at ws) (λ x. Some (d.Decide x.0, x.1)) (a, rest) e in
    let named = name_is ws x.0.0 x.0.1 x.1 in
    let made : IsDecl (d.Decide x.0.0) (mark m.Decide ∷ ws) x.0.1 =
    subst (λ (v : List Lexeme). IsDecl (d.Decide x.0.0) (mark m.Decide ∷ v) x.0.1) (sym named.0)
    (g.decide named.1) in
    subst (λ (v : Declaration × List Lexeme). DeclGood count v.0 (mark m.Decide ∷ ws) v.1)
    (same_Some (d.Decide x.0.0, x.0.1) (a, rest) x.2) (made, λ le. omega (arith, le))

declaration_good : (count : ℕ) (ws : List Lexeme) (a : Declaration) (rest : List Lexeme)
    → declaration count ws ≡ Some (a, rest) → DeclGood count a ws rest
unfolding declaration
declaration_good count (mark m.State ∷ ws) a rest e = state_good count ws a rest e
declaration_good count (mark m.Input ∷ ws) a rest e = input_good count ws a rest e
declaration_good count (mark m.Decide ∷ ws) a rest e = decide_good count ws a rest e
declaration_good count _ a rest e = absurd cc

declaration_found : (count : ℕ) {a : Declaration} {ws rest : List Lexeme} → IsDecl a ws rest
    → variable_count a + count ≤ max_variables → Ends Whole rest
    → declaration count ws ≡ Some (a, rest)
unfolding declaration state input decide after after_equal type_at same_mark
declaration_found count (g.state {x = x} {ty = ty} {t = t} {ws = ws} {rest = rest} short r) few
    ends =
    let named =
    counted_found count max_variables x (mark m.Colon ∷ kind ty ∷ infix_word binary.Equal ∷ ws)
    short (omega arith) in
    let f = formula_found t ws rest r ends in
    rw (named, f) refl
declaration_found count (g.input {x = x} {rest = rest} short) few ends = let named =
    counted_found count max_variables x rest short (omega arith) in rw named refl
declaration_found count (g.decide {x = x} {rest = rest} short) few ends = let named =
    name_found x rest short in rw named refl

declaration_shorter : {a : Declaration} {ws rest : List Lexeme} → IsDecl a ws rest
    → length rest < length ws
declaration_shorter (g.state short r) = omega (arith, reads_shorter r)
declaration_shorter (g.input short) = omega arith
declaration_shorter (g.decide short) = omega arith

declaration_begun : {a : Declaration} {ws rest : List Lexeme} → IsDecl a ws rest
    → begins_declaration ws ≡ true
unfolding begins_declaration
declaration_begun (g.state short r) = refl
declaration_begun (g.input short) = refl
declaration_begun (g.decide short) = refl

declaration_follows : (ws : List Lexeme) → begins_declaration ws ≡ true → Ends Whole ws
unfolding begins_declaration
declaration_follows (mark m.State ∷ ws) e = ends_at_state ws
declaration_follows (mark m.Input ∷ ws) e = ends_at_input ws
declaration_follows (mark m.Decide ∷ ws) e = ends_at_decide ws
declaration_follows _ e = absurd cc

pub declaration_laws : ItemLaws begins_declaration declaration variable_count max_variables IsDecl
    (Ends Whole)
declaration_laws = record {
  good = declaration_good;
  found = λ count a ws rest r few f. declaration_found count r few f;
  shorter = λ a ws rest r. declaration_shorter r;
  begun = λ a ws rest r. declaration_begun r;
  follows = declaration_follows;
}
