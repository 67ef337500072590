use Rattle.std.proofs.Common.{◌<◌, arith}
use Rattle.round_lang.specs.Tree.{Tree, TNumber, TFixed, TNamed, TUnary, TBinary, TIf, TSetOf}
use Rattle.round_lang.specs.Tree.{TRowOf, nesting, tree_of}
use Rattle.round_lang.proofs.formula.+nests_within.Goals as goal

some_nesting : (t : Tree) → 0 < nesting t
some_nesting (TNumber n) = omega arith
some_nesting (TFixed c) = omega arith
some_nesting (TNamed x) = omega arith
some_nesting (TUnary op a) = omega arith
some_nesting (TBinary op a b) = omega arith
some_nesting (TIf c a b) = omega arith
some_nesting (TSetOf x e) = omega arith
some_nesting (TRowOf x e) = omega arith

pub returns-then-depth-eq0 : goal.returns-then-depth-eq0
returns-then-depth-eq0 t c =
    let some = some_nesting (tree_of c.args.expr.now) in
    let none = c.if-depth-eq0.true in
    (λ e. absurd cc, λ fits. absurd (omega (arith, some, none, fits)))
