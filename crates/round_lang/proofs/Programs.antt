-- Reading a program is the grammar, and no words are two programs.
use Rattle.std.proofs.Common.{◌≡◌, ℕ, suc, ◌≤◌, false, List, [], ◌∷◌, length, Some, refl, sym, ap}
use Rattle.std.proofs.Common.{◌∙◌, subst, arith}
use Rattle.std.proofs.lemmas.Option.{same_Some}
use Rattle.round_lang.specs.declared.token.Mark.TheVariants as m
use Rattle.round_lang.specs.declared.program.Variable.{Variable}
use Rattle.round_lang.specs.declared.parsing.level.Level.TheVariants.{Whole}
use Rattle.round_lang.specs.declared.parsing.part.Declaration.{Declaration}
use Rattle.round_lang.specs.declared.parsing.part.Declaration.TheVariants as d
use Rattle.round_lang.specs.Lexemes.{Lexeme, number, mark, same_mark}
use Rattle.round_lang.specs.Limits.{max_values, max_period, max_variables}
use Rattle.round_lang.specs.Syntax.{BlockTree, ProgramTree}
use Rattle.round_lang.specs.Tree.{Tree}
use Rattle.round_lang.specs.Source.{IsDecl, IsBlock, IsExpr, IsProgram, Many, decides_of}
use Rattle.round_lang.specs.Source.{variables_of}
use Rattle.round_lang.specs.Source as g
use Rattle.round_lang.specs.Reading.{◌>>=◌, after, number_at, begins_with, begins_name}
use Rattle.round_lang.specs.Reading.{formula}
use Rattle.round_lang.specs.Parts.{items, begins_declaration, declaration, variable_count}
use Rattle.round_lang.specs.Parts.{declarations, declared, any_block, blocks, all_read, program}
use Rattle.round_lang.specs.Parts.{lone_formula}
use Rattle.round_lang.proofs.Steps.{some_then, after_is, number_is}
use Rattle.round_lang.proofs.Ends.{Ends, ends_at_at, ends_at_end}
use Rattle.round_lang.proofs.Complete.{formula_found, number_found}
use Rattle.round_lang.proofs.Sound.{formula_good}
use Rattle.round_lang.proofs.Repetition.{many_good, many_found, weight_of}
use Rattle.round_lang.proofs.Items.{declaration_laws}
use Rattle.round_lang.proofs.Blocks.{NoName, block_laws, weight-none}

pub variables_weigh : (ds : List Declaration)
    → weight_of variable_count ds ≡ length (variables_of ds)
variables_weigh [] = refl
variables_weigh (d.Variable v ∷ ds) = omega (arith, variables_weigh ds)
variables_weigh (d.Decide x ∷ ds) = omega (arith, variables_weigh ds)

abbrev Declared : Type 0
Declared = List Variable × List (List ℕ) × List Lexeme

record DeclaredGood (ws : List Lexeme) (vs : List Variable) (xs : List (List ℕ))
    (rest : List Lexeme) : Type 0 where
  ds : List Declaration
  variables : variables_of ds ≡ vs
  decides : decides_of ds ≡ xs
  reads : Many IsDecl ds ws rest
  few : length (variables_of ds) ≤ max_variables

declared_good : (ws : List Lexeme) (vs : List Variable) (xs : List (List ℕ)) (rest : List Lexeme)
    → declared ws ≡ Some (vs, xs, rest) → DeclaredGood ws vs xs rest
unfolding declared declarations
declared_good ws vs xs rest e =
    let o = some_then (items begins_declaration declaration variable_count 0 ws)
    (λ ds. Some (variables_of ds.0, decides_of ds.0, ds.1)) (vs, xs, rest) e in
    let p = many_good begins_declaration declaration variable_count max_variables IsDecl
    (Ends Whole) declaration_laws (suc (length ws)) 0 ws o.0.0 o.0.1 o.1 in
    let few' = p.few (omega arith) in
    subst (λ (v : Declared). DeclaredGood ws v.0 v.1 v.2)
    (same_Some (variables_of o.0.0, decides_of o.0.0, o.0.1) (vs, xs, rest) o.2)
    (record {
      ds = o.0.0;
      variables = refl;
      decides = refl;
      reads = p.reads;
      few =
          omega (arith, few', variables_weigh o.0.0);
    })

declared_found : (ds : List Declaration) (ws rest : List Lexeme) → Many IsDecl ds ws rest
    → length (variables_of ds) ≤ max_variables → Ends Whole rest → begins_declaration rest ≡ false
    → declared ws ≡ Some (variables_of ds, decides_of ds, rest)
unfolding declared declarations
declared_found ds ws rest r few ends e =
    let is = many_found begins_declaration declaration variable_count max_variables IsDecl
    (Ends Whole) declaration_laws r (suc (length ws)) 0 (omega arith)
    (omega (arith, variables_weigh ds)) ends e in
    rw is refl

blocks_good : (ws : List Lexeme) (bs : List BlockTree) (rest : List Lexeme)
    → blocks ws ≡ Some (bs, rest) → Many IsBlock bs ws rest
unfolding blocks
blocks_good ws bs rest e = let p = many_good (begins_with m.At) any_block (λ b. 0) 0 IsBlock NoName
    block_laws (suc (length ws)) 0 ws bs rest e in p.reads

at_end : (begins_with m.At [] ≡ false) × NoName []
unfolding begins_with begins_name
at_end = (refl, refl)

blocks_found : (bs : List BlockTree) (ws : List Lexeme) → Many IsBlock bs ws []
    → blocks ws ≡ Some (bs, [])
unfolding blocks
blocks_found bs ws r = many_found (begins_with m.At) any_block (λ b. 0) 0 IsBlock NoName block_laws
    r (suc (length ws)) 0 (omega arith) (omega (arith, weight-none bs)) at_end.1 at_end.0

-- what blocks begin with
record AtBlocks (ws : List Lexeme) : Type 0 where
  ends : Ends Whole ws
  no_declaration : begins_declaration ws ≡ false

at_block : {b : BlockTree} {ws rest : List Lexeme} → IsBlock b ws rest → AtBlocks ws
unfolding begins_declaration
at_block (g.block {digits = digits} {ws = ws} value small fields' few condition' sent' ons' ends') =
    record { ends = ends_at_at _; no_declaration = refl }

at_no_block : AtBlocks []
unfolding begins_declaration
at_no_block = record { ends = ends_at_end; no_declaration = refl }

at_blocks : {bs : List BlockTree} {ws end : List Lexeme} → Many IsBlock bs ws end → end ≡ []
    → AtBlocks ws
at_blocks g.none e = subst AtBlocks (sym e) at_no_block
at_blocks (g.more r others) e = at_block r

all_read_is : {A : Type 0} (a b : A) (ws : List Lexeme) → all_read a ws ≡ Some b
    → (ws ≡ []) × (a ≡ b)
all_read_is a b [] e = (refl, same_Some a b e)
all_read_is a b (w ∷ ws) e = absurd cc

abbrev made_of : ℕ → ℕ → List Variable → List (List ℕ) → List BlockTree → ProgramTree
made_of k p vs xs bs = record { values = k; period = p; variables = vs; decides = xs; blocks = bs }

pub program_good : (ws : List Lexeme) (q : ProgramTree) → program ws ≡ Some q → IsProgram q ws
unfolding program
program_good ws q e =
    let last = λ (k p : ℕ) (ds : Declared) (bs : List BlockTree × List Lexeme). all_read
    (made_of k p ds.0 ds.1 bs.0) bs.1 in
    let a = some_then (after m.Values ws)
    (λ xs. number_at 1 max_values xs >>= λ k. after m.Period k.1
    >>= λ ys. number_at 1 max_period ys >>= λ p. declared p.1 >>= λ ds. blocks ds.2
    >>= λ bs. last k.0 p.0 ds bs) q e in
    let k = some_then (number_at 1 max_values a.0)
    (λ k. after m.Period k.1 >>= λ ys. number_at 1 max_period ys >>= λ p. declared p.1
    >>= λ ds. blocks ds.2 >>= λ bs. last k.0 p.0 ds bs) q a.2 in
    let b = some_then (after m.Period k.0.1)
    (λ ys. number_at 1 max_period ys >>= λ p. declared p.1 >>= λ ds. blocks ds.2
    >>= λ bs. last k.0.0 p.0 ds bs) q k.2 in
    let p = some_then (number_at 1 max_period b.0)
    (λ p. declared p.1 >>= λ ds. blocks ds.2 >>= λ bs. last k.0.0 p.0 ds bs) q b.2 in
    let ds = some_then (declared p.0.1) (λ ds. blocks ds.2 >>= λ bs. last k.0.0 p.0.0 ds bs) q
    p.2 in
    let bs = some_then (blocks ds.0.2) (λ bs. last k.0.0 p.0.0 ds.0 bs) q ds.2 in
    let done = all_read_is (made_of k.0.0 p.0.0 ds.0.0 ds.0.1 bs.0.0) q bs.0.1 bs.2 in
    let kn = number_is 1 max_values a.0 k.0.0 k.0.1 k.1 in
    let pn = number_is 1 max_period b.0 p.0.0 p.0.1 p.1 in
    let dg = declared_good p.0.1 ds.0.0 ds.0.1 ds.0.2 ds.1 in
    let bg : Many IsBlock bs.0.0 ds.0.2 [] =
    subst (λ (u : List Lexeme). Many IsBlock bs.0.0 ds.0.2 u) done.0
    (blocks_good ds.0.2 bs.0.0 bs.0.1 bs.1) in
    let ws-is : ws ≡ mark m.Values ∷ number kn.digits ∷ mark m.Period ∷ number pn.digits ∷ p.0.1 =
    after_is m.Values ws a.0 a.1 ∙ ap (λ (u : List Lexeme). mark m.Values ∷ u)
    (kn.is ∙ ap (λ (u : List Lexeme). number kn.digits ∷ u)
    (after_is m.Period k.0.1 b.0 b.1 ∙ ap (λ (u : List Lexeme). mark m.Period ∷ u) pn.is)) in
    let made : IsProgram (made_of k.0.0 p.0.0 (variables_of dg.ds) (decides_of dg.ds) bs.0.0)
    (mark m.Values ∷ number kn.digits ∷ mark m.Period ∷ number pn.digits ∷ p.0.1) =
    g.program kn.value kn.least kn.most pn.value pn.least pn.most dg.reads dg.few bg in
    let same : made_of k.0.0 p.0.0 (variables_of dg.ds) (decides_of dg.ds) bs.0.0 ≡ q =
    ap (λ (v : List Variable). made_of k.0.0 p.0.0 v (decides_of dg.ds) bs.0.0) dg.variables
    ∙ ap (λ (v : List (List ℕ)). made_of k.0.0 p.0.0 ds.0.0 v bs.0.0) dg.decides ∙ done.1 in
    subst (λ (v : ProgramTree). IsProgram v ws) same
    (subst (λ (u : List Lexeme). IsProgram
    (made_of k.0.0 p.0.0 (variables_of dg.ds) (decides_of dg.ds) bs.0.0) u) (sym ws-is) made)

pub program_found : {q : ProgramTree} {ws : List Lexeme} → IsProgram q ws → program ws ≡ Some q
unfolding program after same_mark
program_found
    (g.program {k = k} {p = p} {digits = digits} {digits2 = digits2} {ds = ds} {bs = bs} {ws = ws}
    {xs = xs} value1 least1 most1 value2 least2 most2 decls' few blocks') =
    let a = number_found 1 max_values digits k (mark m.Period ∷ number digits2 ∷ ws) value1 least1
    most1 in
    let b = number_found 1 max_period digits2 p ws value2 least2 most2 in
    let start = at_blocks blocks' refl in
    let c = declared_found ds ws xs decls' few start.ends start.no_declaration in
    let d = blocks_found bs xs blocks' in
    rw (a, b, c, d) refl

-- no words are two programs
pub one_program : (ws : List Lexeme) (q r : ProgramTree) → IsProgram q ws → IsProgram r ws → q ≡ r
one_program ws q r h k = same_Some q r (sym (program_found h) ∙ program_found k)

-- ---- expressions that stand alone

pub lone_formula_good : (ws : List Lexeme) (t : Tree) → lone_formula ws ≡ Some t → IsExpr t ws []
unfolding lone_formula
lone_formula_good ws t e =
    let a = some_then (formula ws) (λ x. all_read x.0 x.1) t e in
    let done = all_read_is a.0.0 t a.0.1 a.2 in
    subst (λ (u : Tree). IsExpr u ws []) done.1
    (subst (λ (u : List Lexeme). IsExpr a.0.0 ws u) done.0 (formula_good ws a.0.0 a.0.1 a.1))

pub lone_formula_found : (t : Tree) (ws : List Lexeme) → IsExpr t ws [] → lone_formula ws ≡ Some t
unfolding lone_formula
lone_formula_found t ws r = rw (formula_found t ws [] r ends_at_end) refl

-- no words are two expressions
pub one_formula : (ws : List Lexeme) (t u : Tree) → IsExpr t ws [] → IsExpr u ws [] → t ≡ u
one_formula ws t u h k = same_Some t u (sym (lone_formula_found t ws h) ∙ lone_formula_found u ws k)
