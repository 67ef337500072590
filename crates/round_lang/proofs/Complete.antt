-- What is in the grammar is found.
use Rattle.std.proofs.Common.{◌≡◌, ℕ, zero, suc, ◌+◌, ◌<◌, ◌≤◌, max, true, cond, ltb, leb, List}
use Rattle.std.proofs.Common.{◌∷◌, length, Option, Some, None, refl, ap, ◌∙◌, subst, arith, lt-ltb}
use Rattle.std.proofs.Common.{le-leb}
use Rattle.round_lang.specs.declared.expr.Constant.{Constant}
use Rattle.round_lang.specs.declared.expr.UnaryOperator.{UnaryOperator}
use Rattle.round_lang.specs.declared.expr.UnaryOperator.TheVariants as unary
use Rattle.round_lang.specs.declared.expr.BinaryOperator.{BinaryOperator}
use Rattle.round_lang.specs.declared.expr.BinaryOperator.TheVariants as binary
use Rattle.round_lang.specs.declared.token.Mark.TheVariants as m
use Rattle.round_lang.specs.declared.parsing.level.Level.{Level}
use Rattle.round_lang.specs.declared.parsing.level.Level.TheVariants.{Whole, Disjunction}
use Rattle.round_lang.specs.declared.parsing.level.Level.TheVariants.{Conjunction, Negation}
use Rattle.round_lang.specs.declared.parsing.level.Level.TheVariants.{Comparison, Sum, Product}
use Rattle.round_lang.specs.declared.parsing.level.Level.TheVariants.{Postfix, Atom}
use Rattle.round_lang.specs.Lexemes.{Lexeme, name, number, mark, fixed, call, infix_word, same_mark}
use Rattle.round_lang.specs.Limits.{max_name, max_number, max_nesting}
use Rattle.round_lang.specs.Tree.{Tree, TNumber, TFixed, TNamed, TUnary, TBinary, TIf, TSetOf}
use Rattle.round_lang.specs.Tree.{TRowOf}
use Rattle.round_lang.specs.Grammar.{Reads, tighter, left_operand, level_of, value_of}
use Rattle.round_lang.specs.Grammar as g
use Rattle.round_lang.specs.Source.{IsExpr}
use Rattle.round_lang.specs.Reading.{Reader, after, name_at, value_within, number_at, operator_of}
use Rattle.round_lang.specs.Reading.{operator_at, operand, found, chain, chained, compared, negated}
use Rattle.round_lang.specs.Reading.{closed, indexed, postfixed, called, has, brackets}
use Rattle.round_lang.specs.Reading.{comprehension, atom, choice, chosen, postfixes, products, sums}
use Rattle.round_lang.specs.Reading.{negations, conjunctions, disjunctions, parse}
use Rattle.round_lang.specs.Reading.{formula}
use Rattle.round_lang.proofs.Steps.{level_itself}
use Rattle.round_lang.proofs.Ends.{Ends, ends_at_close, ends_at_then, ends_at_else, ends_at_comma}
use Rattle.round_lang.proofs.Ends.{ends_at_square, ends_at_curly, ends_at_operator}

-- an operator of a level is found there
operator_found : (level : Level) (op : BinaryOperator) (rest : List Lexeme)
    → level_of op ≡ Some level → operator_at level (infix_word op ∷ rest) ≡ Some (op, rest)
unfolding operator_at
operator_found level op rest e =
    ap (operator_of level op rest) e ∙ ap (λ b. cond b (Some (op, rest)) None) (level_itself level)

-- where reading at a level has come after the first part: before what has to end there
abbrev before : Level → Level
before Product = Postfix
before Sum = Product
before Conjunction = Negation
before Disjunction = Conjunction
before level = level

ends_tighter : (level : Level) (rest : List Lexeme) → Ends (before level) rest
    → Ends (before (tighter level)) rest
ends_tighter Whole rest e = e.1
ends_tighter Disjunction rest e = e.1
ends_tighter Conjunction rest e = e
ends_tighter Negation rest e = e
ends_tighter Comparison rest e = e.1.1
ends_tighter Sum rest e = e.1
ends_tighter Product rest e = e
ends_tighter Postfix rest e = tt
ends_tighter Atom rest e = e

ends_below : (level : Level) (rest : List Lexeme) → Ends (before level) rest
    → Ends (tighter level) rest
ends_below Whole rest e = e
ends_below Disjunction rest e = e
ends_below Conjunction rest e = e
ends_below Negation rest e = e
ends_below Comparison rest e = e.1
ends_below Sum rest e = e
ends_below Product rest e = e
ends_below Postfix rest e = tt
ends_below Atom rest e = e

-- what ends at a level ends before its operators
ends_before : (level : Level) (rest : List Lexeme) → Ends level rest → Ends (before level) rest
ends_before Whole rest e = e
ends_before Disjunction rest e = e.1
ends_before Conjunction rest e = e.1
ends_before Negation rest e = e
ends_before Comparison rest e = e
ends_before Sum rest e = e.1
ends_before Product rest e = e.1
ends_before Postfix rest e = e
ends_before Atom rest e = e

-- how reading goes on after a tree at a level
abbrev onward : (Level → Reader) → ℕ → Level → ℕ → Tree → ℕ → Reader
onward inner room Product fuel t d rest = chain inner room fuel Product t d rest
onward inner room Sum fuel t d rest = chain inner room fuel Sum t d rest
onward inner room Conjunction fuel t d rest = chain inner room fuel Conjunction t d rest
onward inner room Disjunction fuel t d rest = chain inner room fuel Disjunction t d rest
onward inner room level fuel t d rest = Some (t, d, rest)

-- reading comes past the tree
record Comes (k : ℕ) (level : Level) (n : ℕ) (t : Tree) (ws rest : List Lexeme) : Type 0 where
  depth : ℕ
  fuel : ℕ
  low : depth ≤ n
  enough : suc k < fuel + depth
  is : parse (suc k) level ws ≡ onward (parse k) (suc k) level fuel t depth rest

-- reading finds the tree
pub record Finds (room : ℕ) (level : Level) (n : ℕ) (t : Tree)
    (ws rest : List Lexeme) : Type 0 where
  pub depth : ℕ
  pub low : depth ≤ n
  pub is : parse room level ws ≡ Some (t, depth, rest)

chain_ends : (inner : Level → Reader) (room fuel : ℕ) (level : Level) (t : Tree) (d : ℕ)
    (rest : List Lexeme) → 0 < fuel → operator_at level rest ≡ None
    → chain inner room fuel level t d rest ≡ Some (t, d, rest)
unfolding chain operand
chain_ends inner room zero level t d rest lt e = absurd (omega arith)
chain_ends inner room (suc fuel) level t d rest lt e = rw e refl

onward_ends : (inner : Level → Reader) (room fuel : ℕ) (level : Level) (t : Tree) (d : ℕ)
    (rest : List Lexeme) → 0 < fuel → Ends level rest → onward inner room level fuel t d rest
    ≡ Some (t, d, rest)
onward_ends inner room fuel Product t d rest lt e =
    chain_ends inner room fuel Product t d rest lt e.0
onward_ends inner room fuel Sum t d rest lt e = chain_ends inner room fuel Sum t d rest lt e.0
onward_ends inner room fuel Conjunction t d rest lt e =
    chain_ends inner room fuel Conjunction t d rest lt e.0
onward_ends inner room fuel Disjunction t d rest lt e =
    chain_ends inner room fuel Disjunction t d rest lt e.0
onward_ends inner room fuel Whole t d rest lt e = refl
onward_ends inner room fuel Negation t d rest lt e = refl
onward_ends inner room fuel Comparison t d rest lt e = refl
onward_ends inner room fuel Postfix t d rest lt e = refl
onward_ends inner room fuel Atom t d rest lt e = refl

comes_finds : {k : ℕ} {level : Level} {n : ℕ} {t : Tree} {ws rest : List Lexeme}
    → Comes k level n t ws rest → n ≤ suc k → Ends level rest → Finds (suc k) level n t ws rest
comes_finds {k} {level} {n} {t} {ws} {rest} c le e =
    record {
      depth = c.depth;
      low = c.low;
      is = c.is ∙ onward_ends (parse k) (suc k) c.fuel level t
          c.depth rest (let a = c.enough in let b = c.low in omega arith) e;
    }

-- ---- the first word

-- what no looser level than a comparison begins with
abbrev IsTight : Level → Type 0
IsTight Whole = ⊥
IsTight Disjunction = ⊥
IsTight Conjunction = ⊥
IsTight Negation = ⊥
IsTight _ = Unit {0}

tight_tighter : (level : Level) → IsTight level → IsTight (tighter level)
tight_tighter Whole h = absurd h
tight_tighter Disjunction h = absurd h
tight_tighter Conjunction h = absurd h
tight_tighter Negation h = absurd h
tight_tighter _ h = tt

tight_left : (level : Level) → IsTight level → IsTight (left_operand level)
tight_left Whole h = absurd h
tight_left Disjunction h = absurd h
tight_left Conjunction h = absurd h
tight_left Negation h = absurd h
tight_left _ h = tt

no_not : {level : Level} {n : ℕ} {t : Tree} {ws rest : List Lexeme} → Reads level n t ws rest
    → IsTight level → after m.Not ws ≡ None
unfolding after same_mark
no_not (g.looser {level = level} r) h = no_not r (tight_tighter level h)
no_not (g.choice r s t) h = absurd h
no_not (g.operation {level = level} e r s) h = no_not r (tight_left level h)
no_not (g.negated r) h = absurd h
no_not (g.indexed r s) h = no_not r tt
no_not (g.numeral e le) h = refl
no_not g.constant h = refl
no_not (g.variable le) h = refl
no_not (g.called r) h = refl
no_not (g.membership r s) h = refl
no_not (g.brackets r) h = refl
no_not (g.set_of le r) h = refl
no_not (g.row_of le r) h = refl

abbrev IsInner : Level → Type 0
IsInner Whole = ⊥
IsInner _ = Unit {0}

inner_tighter : (level : Level) → IsInner (tighter level)
inner_tighter Whole = tt
inner_tighter _ = tt

inner_left : (level : Level) → IsInner level → IsInner (left_operand level)
inner_left Whole h = absurd h
inner_left _ h = tt

no_if : {level : Level} {n : ℕ} {t : Tree} {ws rest : List Lexeme} → Reads level n t ws rest
    → IsInner level → after m.If ws ≡ None
unfolding after same_mark
no_if (g.looser {level = level} r) h = no_if r (inner_tighter level)
no_if (g.choice r s t) h = absurd h
no_if (g.operation {level = level} e r s) h = no_if r (inner_left level h)
no_if (g.negated r) h = refl
no_if (g.indexed r s) h = no_if r tt
no_if (g.numeral e le) h = refl
no_if g.constant h = refl
no_if (g.variable le) h = refl
no_if (g.called r) h = refl
no_if (g.membership r s) h = refl
no_if (g.brackets r) h = refl
no_if (g.set_of le r) h = refl
no_if (g.row_of le r) h = refl

-- every tree nests
nests : {level : Level} {n : ℕ} {t : Tree} {ws rest : List Lexeme} → Reads level n t ws rest → 0 < n
nests (g.looser r) = nests r
nests (g.choice r s t) = omega arith
nests (g.operation e r s) = omega arith
nests (g.negated r) = omega arith
nests (g.indexed r s) = omega arith
nests (g.numeral e le) = omega arith
nests g.constant = omega arith
nests (g.variable le) = omega arith
nests (g.called r) = omega arith
nests (g.membership r s) = omega arith
nests (g.brackets r) = omega arith
nests (g.set_of le r) = omega arith
nests (g.row_of le r) = omega arith

-- ---- from a level to the next looser one

chained_comes : (k : ℕ) (level : Level) (below : Reader) (t : Tree) (d : ℕ) (ws rest : List Lexeme)
    → below ws ≡ Some (t, d, rest) → chained (parse k) (suc k) level below ws
    ≡ chain (parse k) (suc k) (suc (suc k)) level t d rest
unfolding chained
chained_comes k level below t d ws rest e = rw e refl

module _ {k n : ℕ} {t : Tree} {ws rest : List Lexeme} where
  loosen_product : Finds (suc k) Postfix n t ws rest → Comes k Product n t ws rest
  unfolding parse products
  loosen_product f =
      record {
        depth = f.depth;
        fuel = suc (suc k);
        low = f.low;
        enough = omega arith;
        is =
            chained_comes k Product (postfixes (parse k) (suc k)) t f.depth ws rest f.is;
      }

  loosen_sum : Finds (suc k) Product n t ws rest → Comes k Sum n t ws rest
  unfolding parse sums
  loosen_sum f =
      record {
        depth = f.depth;
        fuel = suc (suc k);
        low = f.low;
        enough = omega arith;
        is =
            chained_comes k Sum (products (parse k) (suc k)) t f.depth ws rest f.is;
      }

  loosen_conjunction : Finds (suc k) Negation n t ws rest → Comes k Conjunction n t ws rest
  unfolding parse conjunctions
  loosen_conjunction f =
      record {
        depth = f.depth;
        fuel = suc (suc k);
        low = f.low;
        enough = omega arith;
        is =
            chained_comes k Conjunction (negations (parse k) (suc k)) t f.depth ws rest f.is;
      }

  loosen_disjunction : Finds (suc k) Conjunction n t ws rest → Comes k Disjunction n t ws rest
  unfolding parse disjunctions
  loosen_disjunction f =
      record {
        depth = f.depth;
        fuel = suc (suc k);
        low = f.low;
        enough = omega arith;
        is =
            chained_comes k Disjunction (conjunctions (parse k) (suc k)) t f.depth ws rest f.is;
      }

  loosen_comparison : operator_at Comparison rest ≡ None → Finds (suc k) Sum n t ws rest
      → Comes k Comparison n t ws rest
  unfolding parse compared operand
  loosen_comparison e f =
      record {
        depth = f.depth;
        fuel = suc (suc k);
        low = f.low;
        enough = omega arith;
        is =
            rw (f.is, e) refl;
      }

  loosen_negation : after m.Not ws ≡ None → Finds (suc k) Comparison n t ws rest
      → Comes k Negation n t ws rest
  unfolding parse negations negated
  loosen_negation e f =
      record {
        depth = f.depth;
        fuel = suc (suc k);
        low = f.low;
        enough = omega arith;
        is =
            rw (e, f.is) refl;
      }

  loosen_whole : after m.If ws ≡ None → Finds (suc k) Disjunction n t ws rest
      → Comes k Whole n t ws rest
  unfolding parse chosen
  loosen_whole e f =
      record {
        depth = f.depth;
        fuel = suc (suc k);
        low = f.low;
        enough = omega arith;
        is =
            rw (e, f.is) refl;
      }

  loosen_postfix : after m.OpenSquare rest ≡ None → Finds (suc k) Atom n t ws rest
      → Comes k Postfix n t ws rest
  unfolding parse postfixed
  loosen_postfix e f =
      record {
        depth = f.depth;
        fuel = suc (suc k);
        low = f.low;
        enough = omega arith;
        is =
            rw (f.is, e) refl;
      }

  loosen : (level : Level) → Reads (tighter level) n t ws rest → n ≤ suc k
      → Ends (before level) rest → Comes k (tighter level) n t ws rest → Comes k level n t ws rest
  loosen Whole r le e c = loosen_whole (no_if r tt) (comes_finds c le e)
  loosen Disjunction r le e c = loosen_disjunction (comes_finds c le e)
  loosen Conjunction r le e c = loosen_conjunction (comes_finds c le e)
  loosen Negation r le e c = loosen_negation (no_not r tt) (comes_finds c le e)
  loosen Comparison r le e c = loosen_comparison e.0 (comes_finds c le e.1)
  loosen Sum r le e c = loosen_sum (comes_finds c le e)
  loosen Product r le e c = loosen_product (comes_finds c le e)
  loosen Postfix r le e c = loosen_postfix e (comes_finds c le tt)
  loosen Atom r le e c = c

-- ---- operators

abbrev HasOperators : Level → Type 0
HasOperators Disjunction = Unit {0}
HasOperators Conjunction = Unit {0}
HasOperators Comparison = Unit {0}
HasOperators Sum = Unit {0}
HasOperators Product = Unit {0}
HasOperators _ = ⊥

abbrev HasOperatorsAt : Option Level → Type 0
HasOperatorsAt None = Unit {0}
HasOperatorsAt (Some level) = HasOperators level

operator_has : (op : BinaryOperator) → HasOperatorsAt (level_of op)
operator_has binary.Or = tt
operator_has _ = tt

has_operators : (op : BinaryOperator) (level : Level) → level_of op ≡ Some level
    → HasOperators level
has_operators op level e = subst HasOperatorsAt e (operator_has op)

ends_left : (level : Level) → HasOperators level → (rest : List Lexeme) → Ends (tighter level) rest
    → Ends (before (left_operand level)) rest
ends_left Disjunction h rest e = e
ends_left Conjunction h rest e = e
ends_left Comparison h rest e = e.1
ends_left Sum h rest e = e
ends_left Product h rest e = e
ends_left _ h rest e = absurd h

operand_step : (inner : Level → Reader) (room : ℕ) (level : Level) (next : Tree → ℕ → Reader)
    (a b : Tree) (d d2 : ℕ) (op : BinaryOperator) (xs rest : List Lexeme) → level_of op ≡ Some level
    → d < room → inner (tighter level) xs ≡ Some (b, d2, rest)
    → operand inner room level next a d (infix_word op ∷ xs)
    (operator_at level (infix_word op ∷ xs)) ≡ next (TBinary op a b) (suc (max d d2)) rest
unfolding operand
operand_step inner room level next a b d d2 op xs rest e lt right =
    let found-is = operator_found level op xs e in
    let test : ltb d room ≡ true = lt-ltb d room lt in
    rw (found-is, test, right) refl

chain_step : (inner : Level → Reader) (room f : ℕ) (level : Level) (a b : Tree) (d d2 : ℕ)
    (op : BinaryOperator) (xs rest : List Lexeme) → level_of op ≡ Some level → d < room
    → inner (tighter level) xs ≡ Some (b, d2, rest)
    → chain inner room (suc f) level a d (infix_word op ∷ xs) ≡ chain inner room f level
    (TBinary op a b) (suc (max d d2)) rest
unfolding chain
chain_step inner room f level a b d d2 op xs rest e lt right =
    operand_step inner room level (chain inner room f level) a b d d2 op xs rest e lt right

-- a chain that has come past its second operand
record Chains (k n : ℕ) (level : Level) (t : Tree) (ws rest : List Lexeme) : Type 0 where
  depth : ℕ
  fuel : ℕ
  low : depth ≤ suc n
  enough : suc k < fuel + depth
  is : parse (suc k) level ws ≡ chain (parse k) (suc k) fuel level t depth rest

module _ {k n : ℕ} {a b : Tree} {ws xs rest : List Lexeme} (op : BinaryOperator) (le : n ≤ k) where
  chains_from : (level : Level) (d fuel : ℕ) → d ≤ n → suc k < fuel + d
      → parse (suc k) level ws ≡ chain (parse k) (suc k) fuel level a d (infix_word op ∷ xs)
      → level_of op ≡ Some level → Finds k (tighter level) n b xs rest
      → Chains k n level (TBinary op a b) ws rest
  chains_from level d zero low enough is e right = absurd (omega arith)
  chains_from level d (suc f) low enough is e right = record {
    depth = suc (max d right.depth);
    fuel = f;
    low = let l = right.low in omega arith;
    enough = omega arith;
    is = is ∙ chain_step (parse k) (suc k) f level a b d right.depth op xs rest e (omega arith)
        right.is;
  }

  operated : (level : Level) → HasOperators level → level_of op ≡ Some level
      → Comes k (left_operand level) n a ws (infix_word op ∷ xs)
      → Finds k (tighter level) n b xs rest → Comes k level (suc n) (TBinary op a b) ws rest
  unfolding parse compared
  operated Disjunction has e c right = let r = chains_from Disjunction c.depth c.fuel c.low c.enough
      c.is e right in
      record { depth = r.depth; fuel = r.fuel; low = r.low; enough = r.enough; is = r.is }
  operated Conjunction has e c right = let r = chains_from Conjunction c.depth c.fuel c.low c.enough
      c.is e right in
      record { depth = r.depth; fuel = r.fuel; low = r.low; enough = r.enough; is = r.is }
  operated Sum has e c right = let r = chains_from Sum c.depth c.fuel c.low c.enough c.is e right in
      record { depth = r.depth; fuel = r.fuel; low = r.low; enough = r.enough; is = r.is }
  operated Product has e c right = let r = chains_from Product c.depth c.fuel c.low c.enough c.is e
      right in record { depth = r.depth; fuel = r.fuel; low = r.low; enough = r.enough; is = r.is }
  operated Comparison has e c right =
      let left : Finds (suc k) Sum n a ws (infix_word op ∷ xs) =
      comes_finds c (omega arith) (ends_at_operator Comparison op xs e) in
      record {
        depth = suc (max left.depth right.depth);
        fuel = suc (suc k);
        low = let l = left.low in let l2 = right.low in omega arith;
        enough = omega arith;
        is = rw left.is
            (operand_step (parse k) (suc k) Comparison (found (parse k) (suc k)) a b left.depth
            right.depth op xs rest e (let l = left.low in omega arith) right.is);
      }
  operated Whole has e c right = absurd has
  operated Negation has e c right = absurd has
  operated Postfix has e c right = absurd has
  operated Atom has e c right = absurd has

-- ---- all of the grammar

inside : {level : Level} {n : ℕ} {t : Tree} {ws rest : List Lexeme} (k : ℕ) → 0 < n → n ≤ k
    → Ends level rest → ((j : ℕ) → n ≤ suc j → Ends (before level) rest → Comes j level n t ws rest)
    → Finds k level n t ws rest
inside zero lt le e c = absurd (omega arith)
inside {level} {n} {t} {ws} {rest} (suc j) lt le e c =
    comes_finds (c j le (ends_before level rest e)) le e

-- a tree that was found and needs no more
comes_at : {k : ℕ} {level : Level} {n : ℕ} {t : Tree} {ws rest : List Lexeme} → (d : ℕ) → d ≤ n
    → parse (suc k) level ws ≡ onward (parse k) (suc k) level (suc (suc k)) t d rest
    → Comes k level n t ws rest
comes_at {k} d low is =
    record { depth = d; fuel = suc (suc k); low = low; enough = omega arith; is = is }

module _ {k n : ℕ} {a : Tree} {ws rest : List Lexeme} (le : n ≤ k) where
  choice_comes : {b c : Tree} {xs ys : List Lexeme} → Finds k Whole n a ws (mark m.Then ∷ xs)
      → Finds k Whole n b xs (mark m.Else ∷ ys) → Finds k Whole n c ys rest
      → Comes k Whole (suc n) (TIf a b c) (mark m.If ∷ ws) rest
  unfolding parse chosen choice closed after same_mark
  choice_comes p q r = comes_at (suc (max p.depth (max q.depth r.depth)))
      (let l = p.low in let l2 = q.low in let l3 = r.low in omega arith)
      (rw (p.is, q.is, r.is) refl)

  negated_comes : Finds k Negation n a ws rest
      → Comes k Negation (suc n) (TUnary unary.Not a) (mark m.Not ∷ ws) rest
  unfolding parse negations negated after same_mark
  negated_comes p = comes_at (suc p.depth) (let l = p.low in omega arith) (rw p.is refl)

  indexed_comes : {b : Tree} {xs : List Lexeme} → Finds (suc k) Atom n a ws (mark m.OpenSquare ∷ xs)
      → Finds k Whole n b xs (mark m.CloseSquare ∷ rest)
      → Comes k Postfix (suc n) (TBinary binary.Entry a b) ws rest
  unfolding parse postfixed indexed closed after same_mark
  indexed_comes p q =
      let lt : ltb p.depth (suc k) ≡ true = lt-ltb p.depth (suc k) (let l = p.low in omega arith) in
      comes_at (suc (max p.depth q.depth)) (let l = p.low in let l2 = q.low in omega arith)
      (rw (p.is, lt, q.is) refl)

  called_comes : 0 < n → (op : UnaryOperator) → Finds k Whole n a ws (mark m.Close ∷ rest)
      → Comes k Atom (suc n) (TUnary op a) (call op ∷ mark m.Open ∷ ws) rest
  unfolding parse atom called closed after same_mark
  called_comes lt op p =
      let room : ltb 1 (suc k) ≡ true = lt-ltb 1 (suc k) (omega arith) in
      comes_at (suc p.depth) (let l = p.low in omega arith) (rw (room, p.is) refl)

  membership_comes : 0 < n → {b : Tree} {xs : List Lexeme}
      → Finds k Whole n a ws (mark m.Comma ∷ xs) → Finds k Whole n b xs (mark m.Close ∷ rest)
      → Comes k Atom (suc n) (TBinary binary.Has a b) (mark m.Has ∷ mark m.Open ∷ ws) rest
  unfolding parse atom has closed after same_mark
  membership_comes lt p q =
      let room : ltb 1 (suc k) ≡ true = lt-ltb 1 (suc k) (omega arith) in
      comes_at (suc (max p.depth q.depth)) (let l = p.low in let l2 = q.low in omega arith)
      (rw (room, p.is, q.is) refl)

  brackets_comes : Finds k Whole n a ws (mark m.Close ∷ rest)
      → Comes k Atom (suc n) a (mark m.Open ∷ ws) rest
  unfolding parse atom brackets closed after same_mark
  brackets_comes p = comes_at (suc p.depth) (let l = p.low in omega arith) (rw p.is refl)

  set_of_comes : 0 < n → (x : List ℕ) → length x ≤ max_name
      → Finds k Whole n a ws (mark m.CloseCurly ∷ rest)
      → Comes k Atom (suc n) (TSetOf x a) (mark m.OpenCurly ∷ name x ∷ mark m.Colon ∷ ws) rest
  unfolding parse atom comprehension closed name_at after same_mark
  set_of_comes lt x short p =
      let room : ltb 1 (suc k) ≡ true = lt-ltb 1 (suc k) (omega arith) in
      let fits : leb (length x) max_name ≡ true = le-leb (length x) max_name short in
      comes_at (suc p.depth) (let l = p.low in omega arith) (rw (room, fits, p.is) refl)

  row_of_comes : 0 < n → (x : List ℕ) → length x ≤ max_name
      → Finds k Whole n a ws (mark m.CloseSquare ∷ rest)
      → Comes k Atom (suc n) (TRowOf x a) (mark m.OpenSquare ∷ name x ∷ mark m.Colon ∷ ws) rest
  unfolding parse atom comprehension closed name_at after same_mark
  row_of_comes lt x short p =
      let room : ltb 1 (suc k) ≡ true = lt-ltb 1 (suc k) (omega arith) in
      let fits : leb (length x) max_name ≡ true = le-leb (length x) max_name short in
      comes_at (suc p.depth) (let l = p.low in omega arith) (rw (room, fits, p.is) refl)

pub number_found : (low high : ℕ) (digits : List ℕ) (v : ℕ) (rest : List Lexeme)
    → value_of digits ≡ v → low ≤ v → v ≤ high → number_at low high (number digits ∷ rest)
    ≡ Some (v, rest)
unfolding number_at value_within
number_found low high digits v rest e least most =
    let a : leb low v ≡ true = le-leb low v least in
    let b : leb v high ≡ true = le-leb v high most in
    rw (e, a, b) refl

numeral_comes : (k n v : ℕ) (digits : List ℕ) (rest : List Lexeme) → value_of digits ≡ v
    → v ≤ max_number → Comes k Atom (suc n) (TNumber v) (number digits ∷ rest) rest
unfolding parse atom
numeral_comes k n v digits rest e le = let is =
    number_found 0 max_number digits v rest e (omega arith) le in
    comes_at 1 (omega arith) (rw is refl)

constant_comes : (k n : ℕ) (c : Constant) (rest : List Lexeme)
    → Comes k Atom (suc n) (TFixed c) (fixed c ∷ rest) rest
unfolding parse atom
constant_comes k n c rest = comes_at 1 (omega arith) refl

pub name_found : (x : List ℕ) (rest : List Lexeme) → length x ≤ max_name
    → name_at (name x ∷ rest) ≡ Some (x, rest)
unfolding name_at
name_found x rest le = let fits : leb (length x) max_name ≡ true =
    le-leb (length x) max_name le in rw fits refl

variable_comes : (k n : ℕ) (x : List ℕ) (rest : List Lexeme) → length x ≤ max_name
    → Comes k Atom (suc n) (TNamed x) (name x ∷ rest) rest
unfolding parse atom
variable_comes k n x rest le = let is =
    name_found x rest le in comes_at 1 (omega arith) (rw is refl)

complete : {level : Level} {n : ℕ} {t : Tree} {ws rest : List Lexeme} → Reads level n t ws rest
    → (k : ℕ) → n ≤ suc k → Ends (before level) rest → Comes k level n t ws rest
complete (g.looser {level = level} {rest = rest} r) k le e =
    loosen level r le e (complete r k le (ends_tighter level rest e))
complete (g.choice {xs = xs} {ys = ys} {rest = rest} p q r) k le e =
    choice_comes (omega arith)
    (inside k (nests p) (omega arith) (ends_at_then xs) (complete p))
    (inside k (nests q) (omega arith) (ends_at_else ys) (complete q))
    (inside k (nests r) (omega arith) e (complete r))
complete (g.operation {level = level} {op = op} {xs = xs} {rest = rest} h p q) k le e =
    let has = has_operators op level h in
    operated op (omega arith) level has h
    (complete p k (omega arith)
    (ends_left level has (infix_word op ∷ xs) (ends_at_operator level op xs h)))
    (inside k (nests q) (omega arith) (ends_below level rest e) (complete q))
complete (g.negated p) k le e =
    negated_comes (omega arith) (inside k (nests p) (omega arith) e (complete p))
complete (g.indexed {xs = xs} {rest = rest} p q) k le e =
    indexed_comes (omega arith) (comes_finds (complete p k (omega arith) tt) (omega arith) tt)
    (inside k (nests q) (omega arith) (ends_at_square rest) (complete q))
complete (g.numeral {n = n} {v = v} {digits = digits} {rest = rest} h small) k le e =
    numeral_comes k n v digits rest h small
complete (g.constant {n = n} {c = c} {rest = rest}) k le e = constant_comes k n c rest
complete (g.variable {n = n} {x = x} {rest = rest} short) k le e = variable_comes k n x rest short
complete (g.called {op = op} {rest = rest} p) k le e =
    called_comes (omega arith) (nests p) op
    (inside k (nests p) (omega arith) (ends_at_close rest) (complete p))
complete (g.membership {xs = xs} {rest = rest} p q) k le e =
    membership_comes (omega arith) (nests p)
    (inside k (nests p) (omega arith) (ends_at_comma xs) (complete p))
    (inside k (nests q) (omega arith) (ends_at_close rest) (complete q))
complete (g.brackets {rest = rest} p) k le e =
    brackets_comes (omega arith)
    (inside k (nests p) (omega arith) (ends_at_close rest) (complete p))
complete (g.set_of {x = x} {rest = rest} short p) k le e =
    set_of_comes (omega arith) (nests p) x short
    (inside k (nests p) (omega arith) (ends_at_curly rest) (complete p))
complete (g.row_of {x = x} {rest = rest} short p) k le e =
    row_of_comes (omega arith) (nests p) x short
    (inside k (nests p) (omega arith) (ends_at_square rest) (complete p))

-- what is in the grammar, and nests no deeper than the room, is found
pub parse_finds : {level : Level} {n : ℕ} {t : Tree} {ws rest : List Lexeme} (room : ℕ)
    → Reads level n t ws rest → n ≤ room → Ends level rest → Finds room level n t ws rest
parse_finds room r le e = inside room (nests r) le e (complete r)

-- a whole expression is found before what ends it
pub formula_found : (t : Tree) (ws rest : List Lexeme) → IsExpr t ws rest → Ends Whole rest
    → formula ws ≡ Some (t, rest)
unfolding formula
formula_found t ws rest r e = let f = parse_finds max_nesting r (omega arith) e in rw f.is refl
