-- What the loop of a chain keeps, and how deep the calls go.
use Rattle.std.proofs.Common.{◌≡◌, ℕ, zero, suc, ◌+◌, ◌-◌, ◌<◌, ◌≤◌, max, true, false, ltb, lt-ltb}
use Rattle.std.proofs.Common.{le-ltb, List, Some, None, refl, ◌∙◌, arith}
use Rattle.round_lang.specs.Lexemes.{Lexeme}
use Rattle.round_lang.specs.declared.parsing.level.Level.{Level}
use Rattle.round_lang.specs.declared.parsing.level.Level.TheVariants.{Whole, Disjunction}
use Rattle.round_lang.specs.declared.parsing.level.Level.TheVariants.{Conjunction, Negation}
use Rattle.round_lang.specs.declared.parsing.level.Level.TheVariants.{Comparison, Sum, Product}
use Rattle.round_lang.specs.declared.parsing.level.Level.TheVariants.{Postfix, Atom}
use Rattle.round_lang.specs.declared.parsing.fault.Fault.{Fault}
use Rattle.round_lang.specs.declared.parsing.fault.Fault.TheVariants as fault
use Rattle.round_lang.specs.declared.expr.BinaryOperator.{BinaryOperator}
use Rattle.round_lang.specs.Outcome.{Fails, IsChainLevel}
use Rattle.round_lang.specs.Grammar.{tighter}
use Rattle.round_lang.specs.Tree.{Tree, TBinary}
use Rattle.round_lang.specs.Reading.{Reader, parse, operator_at, operand, chain, chained, products}
use Rattle.round_lang.specs.Reading.{sums, conjunctions, disjunctions, level_at}

abbrev pub rank : Level → ℕ
rank Whole = 8
rank Disjunction = 7
rank Conjunction = 6
rank Negation = 5
rank Comparison = 4
rank Sum = 3
rank Product = 2
rank Postfix = 1
rank Atom = 0

-- a chain that has come as far as the tree reads what all of it reads
pub record GoesOn (inner : ℕ) (level : Level) (ws : List Lexeme) (t : Tree) (d : ℕ)
    (rest : List Lexeme) : Type 0 where
  pub within : d ≤ suc inner
  pub fuel : ℕ
  pub enough : suc inner < fuel + d
  pub is : level_at (parse inner) (suc inner) level ws ≡ chain (parse inner) (suc inner) fuel level
      t d rest

-- ---- the loop of a chain

abbrev Levels : ℕ → Level → Reader
Levels inner level = level_at (parse inner) (suc inner) level

chain_is : (inner : ℕ) (level : Level) → IsChainLevel level → (ws : List Lexeme)
    → Levels inner level ws ≡ chained (parse inner) (suc inner) level (Levels inner (tighter level))
    ws
unfolding products sums conjunctions disjunctions
chain_is inner Disjunction h ws = refl
chain_is inner Conjunction h ws = refl
chain_is inner Sum h ws = refl
chain_is inner Product h ws = refl
chain_is inner Whole h ws = absurd h
chain_is inner Negation h ws = absurd h
chain_is inner Comparison h ws = absurd h
chain_is inner Postfix h ws = absurd h
chain_is inner Atom h ws = absurd h

module _ (inner : ℕ) (level : Level) (h : IsChainLevel level) (ws : List Lexeme) where
  none_below : Levels inner (tighter level) ws ≡ None → Levels inner level ws ≡ None
  unfolding chained
  none_below e = chain_is inner level h ws ∙ rw e refl

  pub refused_below : (e : Fault) → Fails e (Levels inner (tighter level) ws)
      → Fails e (Levels inner level ws)
  refused_below fault.NoMemory f = tt
  refused_below (fault.Unexpected s) f = none_below f
  refused_below fault.TooDeep f = none_below f
  refused_below (fault.LimitPassed s) f = none_below f

  pub goes_on_first : (t : Tree) (d : ℕ) (rest : List Lexeme)
      → Levels inner (tighter level) ws ≡ Some (t, d, rest) → d ≤ suc inner
      → GoesOn inner level ws t d rest
  unfolding chained
  goes_on_first t d rest e le =
      record {
        within = le;
        fuel = suc (suc inner);
        enough = omega arith;
        is =
            chain_is inner level h ws ∙ rw e refl;
      }

  module _ (t : Tree) (d : ℕ) (rest : List Lexeme) (g : GoesOn inner level ws t d rest) where
    ends_here : operator_at level rest ≡ None → (f : ℕ) → 0 < f
        → chain (parse inner) (suc inner) f level t d rest ≡ Some (t, d, rest)
    unfolding chain operand
    ends_here e zero lt = absurd (omega arith)
    ends_here e (suc f) lt = rw e refl

    pub goes_on_end : operator_at level rest ≡ None → Levels inner level ws ≡ Some (t, d, rest)
    goes_on_end e = g.is ∙ ends_here e g.fuel (omega (arith, g.enough, g.within))

    -- the chain's next step
    on_fuel : (f : ℕ) → 0 < f → (op : BinaryOperator) (xs : List Lexeme)
        → operator_at level rest ≡ Some (op, xs) → chain (parse inner) (suc inner) f level t d rest
        ≡ operand (parse inner) (suc inner) level (chain (parse inner) (suc inner) (f - 1) level) t
        d rest (Some (op, xs))
    unfolding chain
    on_fuel zero lt op xs e = absurd (omega arith)
    on_fuel (suc f) lt op xs e = let same : suc f - 1 ≡ f = omega arith in rw (same, e) refl

    pub goes_on_deep : (op : BinaryOperator) (xs : List Lexeme)
        → operator_at level rest ≡ Some (op, xs) → inner < d → Levels inner level ws ≡ None
    unfolding operand
    goes_on_deep op xs e lt =
        let test : ltb d (suc inner) ≡ false = le-ltb d (suc inner) lt in
        g.is ∙ on_fuel g.fuel (omega (arith, g.enough, g.within)) op xs e ∙ rw test refl

    none_right : (op : BinaryOperator) (xs : List Lexeme) → operator_at level rest ≡ Some (op, xs)
        → d ≤ inner → parse inner (tighter level) xs ≡ None → Levels inner level ws ≡ None
    unfolding operand
    none_right op xs e le right =
        let test : ltb d (suc inner) ≡ true = lt-ltb d (suc inner) (omega arith) in
        g.is ∙ on_fuel g.fuel (omega (arith, g.enough, g.within)) op xs e ∙ rw (test, right) refl

    pub refused_right : (op : BinaryOperator) (xs : List Lexeme)
        → operator_at level rest ≡ Some (op, xs) → d ≤ inner → (e : Fault)
        → Fails e (parse inner (tighter level) xs) → Fails e (Levels inner level ws)
    refused_right op xs at le fault.NoMemory f = tt
    refused_right op xs at le (fault.Unexpected s) f = none_right op xs at le f
    refused_right op xs at le fault.TooDeep f = none_right op xs at le f
    refused_right op xs at le (fault.LimitPassed s) f = none_right op xs at le f

    pub goes_on_next : (op : BinaryOperator) (xs : List Lexeme)
        → operator_at level rest ≡ Some (op, xs) → d ≤ inner
        → (b : Tree) (d2 : ℕ) (after : List Lexeme)
        → parse inner (tighter level) xs ≡ Some (b, d2, after) → d2 ≤ inner
        → GoesOn inner level ws (TBinary op t b) (suc (max d d2)) after
    unfolding operand
    goes_on_next op xs e le b d2 after right le2 =
        let test : ltb d (suc inner) ≡ true = lt-ltb d (suc inner) (omega arith) in
        record {
          within = omega arith;
          fuel = g.fuel - 1;
          enough = omega (arith, g.enough);
          is = g.is ∙ on_fuel g.fuel (omega (arith, g.enough, g.within)) op xs e
              ∙ rw (test, right) refl;
        }
