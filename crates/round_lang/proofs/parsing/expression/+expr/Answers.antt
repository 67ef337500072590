use Rattle.std.proofs.Common.{sym}
use Rattle.std.proofs.Math.Numerals.{add-one}
use Rattle.std.proofs.lemmas.Result.{err_from_is_err_and}
use Rattle.round_lang.proofs.Descent.{refused_below, goes_on_first, goes_on_end, goes_on_deep}
use Rattle.round_lang.proofs.Descent.{refused_right, goes_on_next}
use Rattle.round_lang.proofs.parsing.expression.+expr.Goals as goal

pub chain-returns-in_err-left-clause-gives : goal.chain-returns-in_err-left-clause-gives
chain-returns-in_err-left-clause-gives t c =
    let p = err_from_is_err_and c.from_residual.result c.from_residual.ensures.1 in
    rw (p.1, p.2)
    (refused_below c.args.inner c.args.level c.requires.chain _ _
    (rw c.tighter.ensures at c.in_err-left.ensures.gives))

pub chain-loop-operator-init : goal.chain-loop-operator-init
chain-loop-operator-init t c =
    goes_on_first c.args.inner c.args.level c.requires.chain _ _ _ _
    (rw c.tighter.ensures at c.in_ok-left.ensures.gives) c.in_ok-left.ensures.nests

pub chain-returns-then-depth-inner-clause-gives : goal.chain-returns-then-depth-inner-clause-gives
chain-returns-then-depth-inner-clause-gives t c =
    goes_on_deep c.args.inner c.args.level c.requires.chain _ _ _ _ c.loop-operator.invariant _ _
    (sym c.in-Some.ensures) c.if-depth-inner.true

pub chain-returns-in_err-right-clause-gives : goal.chain-returns-in_err-right-clause-gives
chain-returns-in_err-right-clause-gives t c =
    let p = err_from_is_err_and c.from_residual-in_err-right.result
    c.from_residual-in_err-right.ensures.1 in
    rw (p.1, p.2)
    (refused_right c.args.inner c.args.level c.requires.chain _ _ _ _ c.loop-operator.invariant
    _ _ (sym c.in-Some.ensures) c.if-depth-inner.false _
    (rw c.tighter-in-Some.ensures at c.in_err-right.ensures.gives))

pub chain-loop-operator-preserved : goal.chain-loop-operator-preserved
chain-loop-operator-preserved t c =
    let next = goes_on_next c.args.inner c.args.level c.requires.chain _ _ _ _
    c.loop-operator.invariant _ _ (sym c.in-Some.ensures) c.if-depth-inner.false _ _ _
    (rw c.tighter-in-Some.ensures at c.in_ok-right.ensures.gives) c.in_ok-right.ensures.nests in
    rw (c.in_ok-left-2.ensures, add-one, c.max-depth.ensures) next

pub chain-returns-clause-gives : goal.chain-returns-clause-gives
chain-returns-clause-gives t c =
    goes_on_end c.args.inner c.args.level c.requires.chain _ _ _ _ c.loop-operator.invariant
    (sym c.in_default.ensures)
