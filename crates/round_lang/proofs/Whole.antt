-- All of a text.
use Rattle.std.proofs.Common.{◌≡◌, ◌≢◌, ℕ, zero, suc, Bool, true, false, List, [], ◌∷◌, length}
use Rattle.std.proofs.Common.{take, Option, Some, None, refl, sym, ap, ◌∙◌, subst, arith}
use Rattle.std.specs.Prelude.{◌==◌}
use Rattle.std.proofs.lemmas.Bool.{eqb-true}
use Rattle.round_lang.specs.declared.token.Mark.TheVariants as m
use Rattle.round_lang.specs.declared.token.Token.{Token}
use Rattle.round_lang.specs.declared.program.Variable.{Variable}
use Rattle.round_lang.specs.CodeTokens.{lexemes}
use Rattle.round_lang.specs.Lexemes.{Lexeme}
use Rattle.round_lang.specs.Limits.{max_values, max_period}
use Rattle.round_lang.specs.Reading.{after, number_at}
use Rattle.round_lang.specs.Syntax.{BlockTree, ProgramTree}
use Rattle.round_lang.specs.Tree.{Tree}
use Rattle.round_lang.specs.Tokens.{Tokens, IsLongest, is_blank, lexeme}
use Rattle.round_lang.specs.Tokens as t
use Rattle.round_lang.specs.Source.{IsExpr, IsFormula, IsSource}
use Rattle.round_lang.specs.Source as g
use Rattle.round_lang.specs.Parts.{declared, blocks, all_read, lone_formula, program}
use Rattle.round_lang.specs.declared.fault.LangFault.TheVariants as lang
use Rattle.round_lang.specs.declared.parsing.fault.Fault.{Fault}
use Rattle.round_lang.specs.declared.parsing.fault.Fault.TheVariants as fault
use Rattle.round_lang.specs.Outcome.{Fails, fault_of_text}
use Rattle.round_lang.proofs.Longest.{empty_is_none, blank_is, hash_is}
use Rattle.round_lang.proofs.Pieces.{Splits, blank_back, hash_back, word_back, no_token}
use Rattle.round_lang.proofs.Scanned.{empty_has}
use Rattle.round_lang.proofs.Programs.{lone_formula_found, lone_formula_good, one_formula}
use Rattle.round_lang.proofs.Programs.{one_program}
use Rattle.round_lang.proofs.Programs.{program_found, program_good}

-- ---- a text has one list of tokens

-- a text that begins with a token
abbrev Rest : List ℕ → ℕ → Lexeme → List Lexeme → Type 0
Rest text n l ls = Splits text n l ls

token_splits : (text : List ℕ) (n : ℕ) (l : Lexeme) (ls : List Lexeme) → IsLongest text n l
    → Tokens text ls → Rest text n l ls
token_splits [] n l ls k r = let clash : None ≡ Some l = sym (no_front n) ∙ k.is in absurd cc
  where
    no_front : (n : ℕ) → lexeme (take n []) ≡ None
    no_front zero = empty_is_none
    no_front (suc n) = empty_is_none
token_splits (a ∷ bs) n l ls k r = at_blank (is_blank a) refl
  where
    at_hash : is_blank a ≡ false → (b : Bool) → (a == 35) ≡ b → Rest (a ∷ bs) n l ls
    at_hash blank true e = let h =
        hash_is a (eqb-true a 35 e) in absurd (no_token a h.0 h.1 h.2 h.3 (a ∷ bs) bs refl n l k.is)
    at_hash blank false e = word_back r a bs refl blank e n l k

    at_blank : (b : Bool) → is_blank a ≡ b → Rest (a ∷ bs) n l ls
    at_blank true e = let b =
        blank_is a e in absurd (no_token a b.0 b.1 b.2 b.3 (a ∷ bs) bs refl n l k.is)
    at_blank false e = at_hash e (a == 35) refl

pub one_list : {text : List ℕ} {ls : List Lexeme} → Tokens text ls → (ks : List Lexeme)
    → Tokens text ks → ls ≡ ks
one_list t.end ks r = sym (empty_has r refl)
one_list (t.blank {b = b} {text = text} h q) ks r = one_list q ks (blank_back r b text refl h)
one_list (t.comment {b = b} {text = text} h q) ks r = one_list q ks (hash_back r b text refl h)
one_list (t.token {text = text} {l = l} {ls = ls} n h q) ks r =
    let s = token_splits text n l ks h r in
    ap (λ v. l ∷ v) (one_list q s.others s.rest) ∙ sym s.is

-- ---- the parts of a program, put together

abbrev made_of : ℕ → ℕ → List Variable → List (List ℕ) → List BlockTree → ProgramTree
made_of k p vs xs bs = record { values = k; period = p; variables = vs; decides = xs; blocks = bs }

pub program_reads : (ws a : List Lexeme) (k : ℕ) (b c : List Lexeme) (p : ℕ) (d : List Lexeme)
    (vs : List Variable) (xs : List (List ℕ)) (e : List Lexeme) (bs : List BlockTree)
    (rest : List Lexeme)
    → after m.Values ws ≡ Some a → number_at 1 max_values a ≡ Some (k, b)
    → after m.Period b ≡ Some c → number_at 1 max_period c ≡ Some (p, d)
    → declared d ≡ Some (vs, xs, e) → blocks e ≡ Some (bs, rest)
    → program ws ≡ all_read (made_of k p vs xs bs) rest
unfolding program
program_reads ws a k b c p d vs xs e bs rest e1 e2 e3 e4 e5 e6 = rw (e1, e2, e3, e4, e5, e6) refl

pub all_are_read : {A : Type 0} (a : A) (rest : List Token) → length rest ≡ 0
    → all_read a (lexemes rest) ≡ Some a
all_are_read a [] e = refl
all_are_read a (t ∷ rest) e = absurd (omega arith)

pub some_are_left : {A : Type 0} (a : A) (rest : List Token) → length rest ≢ 0
    → all_read a (lexemes rest) ≡ None
some_are_left a [] e = absurd (e refl)
some_are_left a (t ∷ rest) e = refl

-- ---- a text has one program

pub source_of : (text : List ℕ) (ws : List Lexeme) (p : ProgramTree) → Tokens text ws
    → program ws ≡ Some p → IsSource text p
source_of text ws p r e = record { words = ws; tokens = r; program = program_good ws p e }

pub one_source : (text : List ℕ) (p q : ProgramTree) → IsSource text p → IsSource text q → p ≡ q
one_source text p q h k =
    let same = one_list k.tokens h.words h.tokens in
    one_program h.words p q h.program (subst (λ ws. g.IsProgram q ws) same k.program)

-- ---- why there is none

no_program : (text : List ℕ) (ws : List Lexeme) → ((ls : List Lexeme) → Tokens text ls → ls ≡ ws)
    → program ws ≡ None → (p : ProgramTree) → IsSource text p → ⊥
no_program text ws only none p h =
    let e = program_found (subst (λ v. g.IsProgram p v) (only h.words h.tokens) h.program) in
    let clash : None ≡ Some p = sym none ∙ e in absurd cc

-- a fault of the text other than its length or the memory's is that nothing can be read
none_read : {X : Type 0} (e : Fault) (read : Option X) → fault_of_text e ≢ lang.NoMemory
    → Fails e read → read ≡ None
none_read fault.NoMemory read other f = absurd (other refl)
none_read (fault.Unexpected s) read other f = f
none_read fault.TooDeep read other f = f
none_read (fault.LimitPassed s) read other f = f

pub no_source : (text : List ℕ) (ws : List Lexeme) → ((ls : List Lexeme) → Tokens text ls → ls ≡ ws)
    → (e : Fault) → fault_of_text e ≢ lang.NoMemory → Fails e (program ws) → (p : ProgramTree)
    → IsSource text p → ⊥
no_source text ws only e other f = no_program text ws only (none_read e (program ws) other f)

-- ---- a text has one expression

pub formula_of : (text : List ℕ) (ws : List Lexeme) (t : Tree) → Tokens text ws
    → lone_formula ws ≡ Some t → IsFormula text t
formula_of text ws t r e = record { words = ws; tokens = r; formula = lone_formula_good ws t e }

pub one_formula_of : (text : List ℕ) (t u : Tree) → IsFormula text t → IsFormula text u → t ≡ u
one_formula_of text t u h k =
    let same = one_list k.tokens h.words h.tokens in
    one_formula h.words t u h.formula (subst (λ ws. IsExpr u ws []) same k.formula)

no_lone_formula : (text : List ℕ) (ws : List Lexeme)
    → ((ls : List Lexeme) → Tokens text ls → ls ≡ ws) → lone_formula ws ≡ None → (t : Tree)
    → IsFormula text t → ⊥
no_lone_formula text ws only none t h =
    let e = lone_formula_found t ws (subst (λ v. IsExpr t v []) (only h.words h.tokens) h.formula)
    in
    let clash : None ≡ Some t = sym none ∙ e in absurd cc

pub no_formula : (text : List ℕ) (ws : List Lexeme)
    → ((ls : List Lexeme) → Tokens text ls → ls ≡ ws) → (e : Fault)
    → fault_of_text e ≢ lang.NoMemory → Fails e (lone_formula ws) → (t : Tree) → IsFormula text t
    → ⊥
no_formula text ws only e other f =
    no_lone_formula text ws only (none_read e (lone_formula ws) other f)
