-- What the readers find is in the grammar.
use Rattle.std.proofs.Common.{◌≡◌, ℕ, zero, suc, ◌≤◌, max, ltb, List, [], ◌∷◌, length, Option, Some}
use Rattle.std.proofs.Common.{None, refl, sym, ap, ◌∙◌, subst, arith}
use Rattle.std.proofs.lemmas.Bool.{ltb-true}
use Rattle.std.proofs.lemmas.Option.{same_Some}
use Rattle.round_lang.specs.declared.expr.UnaryOperator.{UnaryOperator}
use Rattle.round_lang.specs.declared.expr.UnaryOperator.TheVariants as unary
use Rattle.round_lang.specs.declared.expr.BinaryOperator.{BinaryOperator}
use Rattle.round_lang.specs.declared.expr.BinaryOperator.TheVariants as binary
use Rattle.round_lang.specs.declared.token.Mark.{Mark}
use Rattle.round_lang.specs.declared.token.Mark.TheVariants as m
use Rattle.round_lang.specs.declared.parsing.level.Level.{Level}
use Rattle.round_lang.specs.declared.parsing.level.Level.TheVariants.{Whole, Disjunction}
use Rattle.round_lang.specs.declared.parsing.level.Level.TheVariants.{Conjunction, Negation}
use Rattle.round_lang.specs.declared.parsing.level.Level.TheVariants.{Comparison, Sum, Product}
use Rattle.round_lang.specs.declared.parsing.level.Level.TheVariants.{Postfix, Atom}
use Rattle.round_lang.specs.Lexemes.{Lexeme, name, number, mark, kind, fixed, call, infix_word}
use Rattle.round_lang.specs.Limits.{max_name, max_number, max_nesting}
use Rattle.round_lang.specs.Tree.{Tree, TNumber, TFixed, TNamed, TUnary, TBinary, TIf, TSetOf}
use Rattle.round_lang.specs.Tree.{TRowOf}
use Rattle.round_lang.specs.Grammar.{Reads, tighter, left_operand}
use Rattle.round_lang.specs.Grammar as g
use Rattle.round_lang.specs.Source.{IsExpr}
use Rattle.round_lang.specs.Reading.{◌>>=◌, Found, Reader, after, name_at, number_at, operator_at}
use Rattle.round_lang.specs.Reading.{or_else, operand, found, chain, chained, compared, negated}
use Rattle.round_lang.specs.Reading.{closed, indexed, postfixed, called, has, brackets}
use Rattle.round_lang.specs.Reading.{comprehension, atom_by, atom, choice, chosen, postfixes}
use Rattle.round_lang.specs.Reading.{products, sums, comparisons, negations, conjunctions}
use Rattle.round_lang.specs.Reading.{disjunctions, level_at, parse, formula}
use Rattle.round_lang.proofs.Steps.{some_then, guard_some, after_is, name_is, number_is}
use Rattle.round_lang.proofs.Steps.{operator_is}

-- What nests at most n deep nests at most m deep.
pub deeper : {level : Level} {n : ℕ} {t : Tree} {ws rest : List Lexeme} → Reads level n t ws rest
    → (m : ℕ) → n ≤ m → Reads level m t ws rest
deeper (g.looser r) m le = g.looser (deeper r m le)
deeper (g.choice r s t) zero le = absurd (omega arith)
deeper (g.choice r s t) (suc m) le =
    g.choice (deeper r m (omega arith)) (deeper s m (omega arith)) (deeper t m (omega arith))
deeper (g.operation e r s) zero le = absurd (omega arith)
deeper (g.operation e r s) (suc m) le =
    g.operation e (deeper r m (omega arith)) (deeper s m (omega arith))
deeper (g.negated r) zero le = absurd (omega arith)
deeper (g.negated r) (suc m) le = g.negated (deeper r m (omega arith))
deeper (g.indexed r s) zero le = absurd (omega arith)
deeper (g.indexed r s) (suc m) le = g.indexed (deeper r m (omega arith)) (deeper s m (omega arith))
deeper (g.numeral e h) zero le = absurd (omega arith)
deeper (g.numeral e h) (suc m) le = g.numeral e h
deeper g.constant zero le = absurd (omega arith)
deeper g.constant (suc m) le = g.constant
deeper (g.variable h) zero le = absurd (omega arith)
deeper (g.variable h) (suc m) le = g.variable h
deeper (g.called r) zero le = absurd (omega arith)
deeper (g.called r) (suc m) le = g.called (deeper r m (omega arith))
deeper (g.membership r s) zero le = absurd (omega arith)
deeper (g.membership r s) (suc m) le =
    g.membership (deeper r m (omega arith)) (deeper s m (omega arith))
deeper (g.brackets r) zero le = absurd (omega arith)
deeper (g.brackets r) (suc m) le = g.brackets (deeper r m (omega arith))
deeper (g.set_of h r) zero le = absurd (omega arith)
deeper (g.set_of h r) (suc m) le = g.set_of h (deeper r m (omega arith))
deeper (g.row_of h r) zero le = absurd (omega arith)
deeper (g.row_of h r) (suc m) le = g.row_of h (deeper r m (omega arith))

-- what was found is in the grammar, within the room
pub record Good (level : Level) (room : ℕ) (ws : List Lexeme) (x : Found) : Type 0 where
  pub reads : Reads level x.1 x.0 ws x.2
  pub within : x.1 ≤ room

module _ (n : ℕ) (inner : Level → Reader) (h : (level : Level) (ws : List Lexeme) (x : Found)
    → inner level ws ≡ Some x → Good level n ws x) where
  operand_good : (level : Level) (next : Tree → ℕ → Reader) (from ws : List Lexeme) (a : Tree)
      (d : ℕ) → Reads level d a from ws → Reads (left_operand level) d a from ws → d ≤ suc n
      → ((a' : Tree) (d' : ℕ) (ws' : List Lexeme) (x : Found) → Reads level d' a' from ws'
      → d' ≤ suc n → next a' d' ws' ≡ Some x → Good level (suc n) from x)
      → (o : Option (BinaryOperator × List Lexeme)) → operator_at level ws ≡ o → (x : Found)
      → operand inner (suc n) level next a d ws o ≡ Some x → Good level (suc n) from x
  unfolding operand
  operand_good level next from ws a d whole left le onward None e x is =
      subst (Good level (suc n) from) (same_Some (a, d, ws) x is)
      (record { reads = whole; within = le })
  operand_good level next from ws a d whole left le onward (Some (op, xs)) e x is =
      let f = λ (b : Found). next (TBinary op a b.0) (suc (max d b.1)) b.2 in
      let p = guard_some (ltb d (suc n)) (inner (tighter level) xs >>= f) x is in
      let s = operator_is level ws op xs e in
      let b = some_then (inner (tighter level) xs) f x p.1 in
      let right = h (tighter level) xs b.0 b.1 in
      let k = max d b.0.1 in
      let left' : Reads (left_operand level) d a from (infix_word op ∷ xs) =
      subst (λ (v : List Lexeme). Reads (left_operand level) d a from v) s.0 left in
      onward (TBinary op a b.0.0) (suc k) b.0.2 x
      (g.operation s.1 (deeper left' k (omega arith)) (deeper right.reads k (omega arith)))
      (let lt = ltb-true d (suc n) p.0 in let le2 = right.within in omega arith) b.2

  -- a level whose chains group from the left
  abbrev IsChain : Level → Type 0
  IsChain level = left_operand level ≡ level

  chain_good : (k : ℕ) (level : Level) → IsChain level
      → (from : List Lexeme) (a : Tree) (d : ℕ) (ws : List Lexeme) (x : Found)
      → Reads level d a from ws → d ≤ suc n → chain inner (suc n) k level a d ws ≡ Some x
      → Good level (suc n) from x
  unfolding chain
  chain_good zero level is_chain from a d ws x r le is = absurd cc
  chain_good (suc k) level is_chain from a d ws x r le is =
      operand_good level (chain inner (suc n) k level) from ws a d r
      (subst (λ l. Reads l d a from ws) (sym is_chain) r) le
      (λ a' d' ws' y r' le' is'. chain_good k level is_chain from a' d' ws' y r' le' is')
      (operator_at level ws) refl x is

  chained_good : (level : Level) → IsChain level → (below : Reader)
      → ((ws : List Lexeme) (x : Found) → below ws ≡ Some x → Good (tighter level) (suc n) ws x)
      → (ws : List Lexeme) (x : Found) → chained inner (suc n) level below ws ≡ Some x
      → Good level (suc n) ws x
  unfolding chained
  chained_good level is_chain below hb ws x is =
      let b = some_then (below ws)
      (λ (a : Found). chain inner (suc n) (suc (suc n)) level a.0 a.1 a.2) x is in
      let first = hb ws b.0 b.1 in
      chain_good (suc (suc n)) level is_chain ws b.0.0 b.0.1 b.0.2 x (g.looser first.reads)
      first.within b.2

  compared_good : (below : Reader)
      → ((ws : List Lexeme) (x : Found) → below ws ≡ Some x → Good Sum (suc n) ws x)
      → (ws : List Lexeme) (x : Found) → compared inner (suc n) below ws ≡ Some x
      → Good Comparison (suc n) ws x
  unfolding compared
  compared_good below hb ws x is =
      let b = some_then (below ws)
      (λ (a : Found). operand inner (suc n) Comparison (found inner (suc n)) a.0 a.1 a.2
      (operator_at Comparison a.2)) x is in
      let first = hb ws b.0 b.1 in
      operand_good Comparison (found inner (suc n)) ws b.0.2 b.0.0 b.0.1 (g.looser first.reads)
      first.reads first.within
      (λ a' d' ws' y r le is'. subst (Good Comparison (suc n) ws)
      (same_Some (a', d', ws') y is') (record { reads = r; within = le }))
      (operator_at Comparison b.0.2) refl x b.2

  -- what is made of the words behind a first mark
  either_good : (level : Level) (sign : Mark) (then : Reader) (below : Reader)
      → ((ws : List Lexeme) (x : Found) → then ws ≡ Some x → Good level (suc n) (mark sign ∷ ws) x)
      → (ws : List Lexeme) → ((x : Found) → below ws ≡ Some x → Good level (suc n) ws x)
      → (o : Option (List Lexeme)) → after sign ws ≡ o → (x : Found)
      → or_else o then (below ws) ≡ Some x → Good level (suc n) ws x
  either_good level sign then below ht ws hb None e x is = hb x is
  either_good level sign then below ht ws hb (Some xs) e x is =
      subst (λ (v : List Lexeme). Good level (suc n) v x) (sym (after_is sign ws xs e)) (ht xs x is)

  negated_good : (below : Reader)
      → ((ws : List Lexeme) (x : Found) → below ws ≡ Some x → Good Comparison (suc n) ws x)
      → (ws : List Lexeme) (x : Found) → negated inner (suc n) below ws ≡ Some x
      → Good Negation (suc n) ws x
  unfolding negated
  negated_good below hb ws x is =
      let behind : Reader =
      λ xs. inner Negation xs >>= λ a. Some (TUnary unary.Not a.0, suc a.1, a.2) in
      let made : (ws : List Lexeme) (x : Found) → behind ws ≡ Some x
      → Good Negation (suc n) (mark m.Not ∷ ws) x =
      λ xs y e. let b =
      some_then (inner Negation xs) (λ (a : Found). Some (TUnary unary.Not a.0, suc a.1, a.2)) y
      e in let r = h Negation xs b.0 b.1 in
      subst (Good Negation (suc n) (mark m.Not ∷ xs))
      (same_Some (TUnary unary.Not b.0.0, suc b.0.1, b.0.2) y b.2)
      (record { reads = g.negated r.reads; within = let le = r.within in omega arith }) in
      either_good Negation m.Not behind below made ws
      (λ y e. let r = hb ws y e in record { reads = g.looser r.reads; within = r.within })
      (after m.Not ws) refl x is

  -- an expression and the mark behind it
  closed_good : (sign : Mark) (ws : List Lexeme) (x : Found) → closed inner (suc n) sign ws ≡ Some x
      → Reads Whole x.1 x.0 ws (mark sign ∷ x.2) × (x.1 ≤ n)
  unfolding closed
  closed_good sign ws x is =
      let a = some_then (inner Whole ws)
      (λ (a : Found). after sign a.2 >>= λ rest. Some (a.0, a.1, rest)) x is in
      let c = some_then (after sign a.0.2) (λ rest. Some (a.0.0, a.0.1, rest)) x a.2 in
      let i = h Whole ws a.0 a.1 in
      subst (λ (y : Found). Reads Whole y.1 y.0 ws (mark sign ∷ y.2) × (y.1 ≤ n))
      (same_Some (a.0.0, a.0.1, c.0) x c.2) (
        subst (λ (v : List Lexeme). Reads Whole a.0.1 a.0.0 ws v) (after_is sign a.0.2 c.0 c.1)
            i.reads,
        i.within,
      )

  indexed_good : (from : List Lexeme) (a : Tree) (d : ℕ) (xs : List Lexeme) (x : Found)
      → Reads Atom d a from (mark m.OpenSquare ∷ xs) → d ≤ suc n
      → indexed inner (suc n) a d xs ≡ Some x → Good Postfix (suc n) from x
  unfolding indexed
  indexed_good from a d xs x r le is =
      let made = λ (b : Found). Some (TBinary binary.Entry a b.0, suc (max d b.1), b.2) in
      let p = guard_some (ltb d (suc n)) (closed inner (suc n) m.CloseSquare xs >>= made) x is in
      let b = some_then (closed inner (suc n) m.CloseSquare xs) made x p.1 in
      let i = closed_good m.CloseSquare xs b.0 b.1 in
      let k = max d b.0.1 in
      let lt = ltb-true d (suc n) p.0 in
      let le2 = i.1 in
      subst (Good Postfix (suc n) from)
      (same_Some (TBinary binary.Entry a b.0.0, suc k, b.0.2) x b.2)
      (record {
        reads = g.indexed (deeper r k (omega arith)) (deeper i.0 k (omega arith));
        within = omega arith;
      })

  postfixed_good : (below : Reader)
      → ((ws : List Lexeme) (x : Found) → below ws ≡ Some x → Good Atom (suc n) ws x)
      → (ws : List Lexeme) (x : Found) → postfixed inner (suc n) below ws ≡ Some x
      → Good Postfix (suc n) ws x
  unfolding postfixed
  postfixed_good below hb ws x is =
      let b = some_then (below ws)
      (λ (a : Found). or_else (after m.OpenSquare a.2) (λ xs. indexed inner (suc n) a.0 a.1 xs)
      (Some (a.0, a.1, a.2))) x is in
      let first = hb ws b.0 b.1 in
      go b.0.0 b.0.1 b.0.2 first.reads first.within (after m.OpenSquare b.0.2) refl b.2
    where
      go : (a : Tree) (d : ℕ) (rest : List Lexeme) → Reads Atom d a ws rest → d ≤ suc n
          → (o : Option (List Lexeme)) → after m.OpenSquare rest ≡ o
          → or_else o (λ xs. indexed inner (suc n) a d xs) (Some (a, d, rest)) ≡ Some x
          → Good Postfix (suc n) ws x
      go a d rest r le None e is' = subst (Good Postfix (suc n) ws) (same_Some (a, d, rest) x is')
          (record { reads = g.looser r; within = le })
      go a d rest r le (Some xs) e is' =
          indexed_good ws a d xs x
          (subst (λ (v : List Lexeme). Reads Atom d a ws v) (after_is m.OpenSquare rest xs e) r) le
          is'

  called_good : (op : UnaryOperator) (ws : List Lexeme) (x : Found)
      → called inner (suc n) op ws ≡ Some x → Good Atom (suc n) (call op ∷ ws) x
  unfolding called
  called_good op ws x is =
      let made = λ (a : Found). Some (TUnary op a.0, suc a.1, a.2) in
      let p = guard_some (ltb 1 (suc n))
      (after m.Open ws >>= λ xs. closed inner (suc n) m.Close xs >>= made) x is in
      let o = some_then (after m.Open ws) (λ xs. closed inner (suc n) m.Close xs >>= made) x p.1 in
      let a = some_then (closed inner (suc n) m.Close o.0) made x o.2 in
      let i = closed_good m.Close o.0 a.0 a.1 in
      let good : Good Atom (suc n) (call op ∷ mark m.Open ∷ o.0)
      (TUnary op a.0.0, suc a.0.1, a.0.2) =
      record { reads = g.called i.0; within = let le = i.1 in omega arith } in
      subst (λ (v : List Lexeme). Good Atom (suc n) (call op ∷ v) x)
      (sym (after_is m.Open ws o.0 o.1))
      (subst (Good Atom (suc n) (call op ∷ mark m.Open ∷ o.0))
      (same_Some (TUnary op a.0.0, suc a.0.1, a.0.2) x a.2) good)

  has_good : (ws : List Lexeme) (x : Found) → has inner (suc n) ws ≡ Some x
      → Good Atom (suc n) (mark m.Has ∷ ws) x
  unfolding has
  has_good ws x is =
      let made = λ (a b : Found). Some (TBinary binary.Has a.0 b.0, suc (max a.1 b.1), b.2) in
      let p = guard_some (ltb 1 (suc n))
      (after m.Open ws >>= λ xs. closed inner (suc n) m.Comma xs >>= λ a. closed inner (suc n)
      m.Close a.2 >>= λ b. made a b) x is in
      let o = some_then (after m.Open ws)
      (λ xs. closed inner (suc n) m.Comma xs >>= λ a. closed inner (suc n) m.Close a.2
      >>= λ b. made a b) x p.1 in
      let a = some_then (closed inner (suc n) m.Comma o.0)
      (λ (a : Found). closed inner (suc n) m.Close a.2 >>= λ b. made a b) x o.2 in
      let b = some_then (closed inner (suc n) m.Close a.0.2) (λ (b : Found). made a.0 b) x a.2 in
      let i = closed_good m.Comma o.0 a.0 a.1 in
      let j = closed_good m.Close a.0.2 b.0 b.1 in
      let k = max a.0.1 b.0.1 in
      let good : Good Atom (suc n) (mark m.Has ∷ mark m.Open ∷ o.0)
      (TBinary binary.Has a.0.0 b.0.0, suc k, b.0.2) =
      record {
        reads = g.membership (deeper i.0 k (omega arith)) (deeper j.0 k (omega arith));
        within = let le = i.1 in let le2 = j.1 in omega arith;
      } in
      subst (λ (v : List Lexeme). Good Atom (suc n) (mark m.Has ∷ v) x)
      (sym (after_is m.Open ws o.0 o.1))
      (subst (Good Atom (suc n) (mark m.Has ∷ mark m.Open ∷ o.0))
      (same_Some (TBinary binary.Has a.0.0 b.0.0, suc k, b.0.2) x b.2) good)

  brackets_good : (ws : List Lexeme) (x : Found) → brackets inner (suc n) ws ≡ Some x
      → Good Atom (suc n) (mark m.Open ∷ ws) x
  unfolding brackets
  brackets_good ws x is =
      let a = some_then (closed inner (suc n) m.Close ws) (λ (a : Found). Some (a.0, suc a.1, a.2))
      x is in
      let i = closed_good m.Close ws a.0 a.1 in
      subst (Good Atom (suc n) (mark m.Open ∷ ws)) (same_Some (a.0.0, suc a.0.1, a.0.2) x a.2)
      (record { reads = g.brackets i.0; within = let le = i.1 in omega arith })

  -- a comprehension behind its first bracket
  comprehension_good : (made : List ℕ → Tree → Tree) (front sign : Mark)
      → ((k : ℕ) (x : List ℕ) (a : Tree) (ws rest : List Lexeme) → length x ≤ max_name
      → Reads Whole k a ws (mark sign ∷ rest)
      → Reads Atom (suc k) (made x a) (mark front ∷ name x ∷ mark m.Colon ∷ ws) rest)
      → (ws : List Lexeme) (x : Found) → comprehension inner (suc n) made sign ws ≡ Some x
      → Good Atom (suc n) (mark front ∷ ws) x
  unfolding comprehension
  comprehension_good made front sign rule ws x is =
      let last = λ (v : List ℕ) (a : Found). Some (made v a.0, suc a.1, a.2) in
      let p = guard_some (ltb 1 (suc n))
      (name_at ws >>= λ v. after m.Colon v.1 >>= λ xs. closed inner (suc n) sign xs
      >>= λ a. last v.0 a) x is in
      let v = some_then (name_at ws) (λ v. after m.Colon v.1 >>= λ xs. closed inner (suc n) sign xs
      >>= λ a. last v.0 a) x p.1 in
      let o = some_then (after m.Colon v.0.1)
      (λ xs. closed inner (suc n) sign xs >>= λ a. last v.0.0 a) x v.2 in
      let a = some_then (closed inner (suc n) sign o.0) (λ (a : Found). last v.0.0 a) x o.2 in
      let i = closed_good sign o.0 a.0 a.1 in
      let named = name_is ws v.0.0 v.0.1 v.1 in
      let good : Good Atom (suc n) (mark front ∷ name v.0.0 ∷ mark m.Colon ∷ o.0)
      (made v.0.0 a.0.0, suc a.0.1, a.0.2) =
      record {
        reads = rule a.0.1 v.0.0 a.0.0 o.0 a.0.2 named.1 i.0;
        within = let le = i.1 in
            omega arith;
      } in
      let ws-is : ws ≡ name v.0.0 ∷ mark m.Colon ∷ o.0 =
      named.0 ∙ ap (λ (l : List Lexeme). name v.0.0 ∷ l) (after_is m.Colon v.0.1 o.0 o.1) in
      subst (λ (l : List Lexeme). Good Atom (suc n) (mark front ∷ l) x) (sym ws-is)
      (subst (Good Atom (suc n) (mark front ∷ name v.0.0 ∷ mark m.Colon ∷ o.0))
      (same_Some (made v.0.0 a.0.0, suc a.0.1, a.0.2) x a.2) good)

  choice_good : (ws : List Lexeme) (x : Found) → choice inner (suc n) ws ≡ Some x
      → Good Whole (suc n) (mark m.If ∷ ws) x
  unfolding choice
  choice_good ws x is =
      let made = λ (a b c : Found). Some (TIf a.0 b.0 c.0, suc (max a.1 (max b.1 c.1)), c.2) in
      let a = some_then (closed inner (suc n) m.Then ws)
      (λ (a : Found). closed inner (suc n) m.Else a.2 >>= λ b. inner Whole b.2
      >>= λ c. made a b c) x is in
      let b = some_then (closed inner (suc n) m.Else a.0.2)
      (λ (b : Found). inner Whole b.2 >>= λ c. made a.0 b c) x a.2 in
      let c = some_then (inner Whole b.0.2) (λ (c : Found). made a.0 b.0 c) x b.2 in
      let i = closed_good m.Then ws a.0 a.1 in
      let j = closed_good m.Else a.0.2 b.0 b.1 in
      let l = h Whole b.0.2 c.0 c.1 in
      let k = max a.0.1 (max b.0.1 c.0.1) in
      let good : Good Whole (suc n) (mark m.If ∷ ws) (TIf a.0.0 b.0.0 c.0.0, suc k, c.0.2) =
      record {
        reads = g.choice (deeper i.0 k (omega arith)) (deeper j.0 k (omega arith))
            (deeper l.reads k (omega arith));
        within = let le = i.1 in let le2 = j.1 in let le3 =
            l.within in omega arith;
      } in
      subst (Good Whole (suc n) (mark m.If ∷ ws))
      (same_Some (TIf a.0.0 b.0.0 c.0.0, suc k, c.0.2) x c.2) good

  atom_by_good : (sign : Mark) (ws : List Lexeme) (x : Found)
      → atom_by inner (suc n) sign ws ≡ Some x → Good Atom (suc n) (mark sign ∷ ws) x
  atom_by_good m.Has ws x is = has_good ws x is
  atom_by_good m.Open ws x is = brackets_good ws x is
  atom_by_good m.OpenCurly ws x is =
      comprehension_good TSetOf m.OpenCurly m.CloseCurly (λ k x a ws rest h r. g.set_of h r) ws x is
  atom_by_good m.OpenSquare ws x is = comprehension_good TRowOf m.OpenSquare m.CloseSquare
      (λ k x a ws rest h r. g.row_of h r) ws x is
  atom_by_good _ ws x is = absurd cc

  named_good : (ws : List Lexeme) (x : Found) → (name_at ws >>= λ y. Some (TNamed y.0, 1, y.1))
      ≡ Some x → Good Atom (suc n) ws x
  named_good ws x is =
      let y = some_then (name_at ws) (λ y. Some (TNamed y.0, 1, y.1)) x is in
      let p = name_is ws y.0.0 y.0.1 y.1 in
      subst (λ (v : List Lexeme). Good Atom (suc n) v x) (sym p.0)
      (subst (Good Atom (suc n) (name y.0.0 ∷ y.0.1)) (same_Some (TNamed y.0.0, 1, y.0.1) x y.2)
      (record { reads = g.variable p.1; within = omega arith }))

  numeral_good : (ws : List Lexeme) (x : Found)
      → (number_at 0 max_number ws >>= λ v. Some (TNumber v.0, 1, v.1)) ≡ Some x
      → Good Atom (suc n) ws x
  numeral_good ws x is =
      let v = some_then (number_at 0 max_number ws) (λ v. Some (TNumber v.0, 1, v.1)) x is in
      let p = number_is 0 max_number ws v.0.0 v.0.1 v.1 in
      subst (λ (l : List Lexeme). Good Atom (suc n) l x) (sym p.is)
      (subst (Good Atom (suc n) (number p.digits ∷ v.0.1))
      (same_Some (TNumber v.0.0, 1, v.0.1) x v.2)
      (record { reads = g.numeral p.value p.most; within = omega arith }))

  atom_good : (ws : List Lexeme) (x : Found) → atom inner (suc n) ws ≡ Some x
      → Good Atom (suc n) ws x
  unfolding atom
  atom_good [] x is = absurd cc
  atom_good (name v ∷ ws) x is = named_good (name v ∷ ws) x is
  atom_good (number k ∷ ws) x is = numeral_good (number k ∷ ws) x is
  atom_good (mark s ∷ ws) x is = atom_by_good s ws x is
  atom_good (kind ty ∷ ws) x is = absurd cc
  atom_good (fixed c ∷ ws) x is =
      subst (Good Atom (suc n) (fixed c ∷ ws)) (same_Some (TFixed c, 1, ws) x is)
      (record { reads = g.constant; within = omega arith })
  atom_good (call op ∷ ws) x is = called_good op ws x is
  atom_good (infix_word op ∷ ws) x is = absurd cc

  postfixes_good : (ws : List Lexeme) (x : Found) → postfixes inner (suc n) ws ≡ Some x
      → Good Postfix (suc n) ws x
  postfixes_good = postfixed_good (atom inner (suc n)) atom_good

  products_good : (ws : List Lexeme) (x : Found) → products inner (suc n) ws ≡ Some x
      → Good Product (suc n) ws x
  unfolding products
  products_good = chained_good Product refl (postfixes inner (suc n)) postfixes_good

  sums_good : (ws : List Lexeme) (x : Found) → sums inner (suc n) ws ≡ Some x
      → Good Sum (suc n) ws x
  unfolding sums
  sums_good = chained_good Sum refl (products inner (suc n)) products_good

  comparisons_good : (ws : List Lexeme) (x : Found) → comparisons inner (suc n) ws ≡ Some x
      → Good Comparison (suc n) ws x
  comparisons_good = compared_good (sums inner (suc n)) sums_good

  negations_good : (ws : List Lexeme) (x : Found) → negations inner (suc n) ws ≡ Some x
      → Good Negation (suc n) ws x
  unfolding negations
  negations_good = negated_good (comparisons inner (suc n)) comparisons_good

  conjunctions_good : (ws : List Lexeme) (x : Found) → conjunctions inner (suc n) ws ≡ Some x
      → Good Conjunction (suc n) ws x
  unfolding conjunctions
  conjunctions_good = chained_good Conjunction refl (negations inner (suc n)) negations_good

  disjunctions_good : (ws : List Lexeme) (x : Found) → disjunctions inner (suc n) ws ≡ Some x
      → Good Disjunction (suc n) ws x
  unfolding disjunctions
  disjunctions_good = chained_good Disjunction refl (conjunctions inner (suc n)) conjunctions_good

  chosen_good : (ws : List Lexeme) (x : Found)
      → chosen inner (suc n) (disjunctions inner (suc n)) ws ≡ Some x → Good Whole (suc n) ws x
  unfolding chosen
  chosen_good ws x is = either_good Whole m.If (choice inner (suc n)) (disjunctions inner (suc n))
      choice_good ws (λ y e. let r = disjunctions_good ws y e in
      record { reads = g.looser r.reads; within = r.within }) (after m.If ws) refl x is

  level_good : (level : Level) (ws : List Lexeme) (x : Found)
      → level_at inner (suc n) level ws ≡ Some x → Good level (suc n) ws x
  level_good Atom ws x is = atom_good ws x is
  level_good Postfix ws x is = postfixes_good ws x is
  level_good Product ws x is = products_good ws x is
  level_good Sum ws x is = sums_good ws x is
  level_good Comparison ws x is = comparisons_good ws x is
  level_good Negation ws x is = negations_good ws x is
  level_good Conjunction ws x is = conjunctions_good ws x is
  level_good Disjunction ws x is = disjunctions_good ws x is
  level_good Whole ws x is = chosen_good ws x is

-- what is read is in the grammar
pub parse_good : (room : ℕ) (level : Level) (ws : List Lexeme) (x : Found)
    → parse room level ws ≡ Some x → Good level room ws x
unfolding parse
parse_good zero level ws x is = absurd cc
parse_good (suc n) level ws x is = level_good n (parse n) (parse_good n) level ws x is

pub formula_good : (ws : List Lexeme) (t : Tree) (rest : List Lexeme) → formula ws ≡ Some (t, rest)
    → IsExpr t ws rest
unfolding formula
formula_good ws t rest is =
    let a = some_then (parse max_nesting Whole ws) (λ a. Some (a.0, a.2)) (t, rest) is in
    let e = same_Some (a.0.0, a.0.2) (t, rest) a.2 in
    let good = parse_good max_nesting Whole ws a.0 a.1 in
    subst (λ (v : Tree × List Lexeme). IsExpr v.0 ws v.1) e
    (deeper good.reads max_nesting good.within)
