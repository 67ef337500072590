use Rattle.std.proofs.Common.{sym, arith, ap, length}
use Rattle.std.proofs.lemmas.Result.{err_from_is_err_and}
use Rattle.round_lang.proofs.Loops.{blocks_first, blocks_fails, blocks_shorter, blocks_next}
use Rattle.round_lang.proofs.Loops.{blocks_end}
use Rattle.round_lang.proofs.parsing.part.blocks.Goals as goal

pub loop-next-init : goal.loop-next-init
loop-next-init c = record {
  reads =
      rw (c.no_items-blocks.ensures.items, c.no_items-blocks.ensures.rest) (blocks_first _);
  fewer = omega (arith, ap length c.no_items-blocks.ensures.rest);
}

pub returns-in_err-next-clause-gives : goal.returns-in_err-next-clause-gives
returns-in_err-next-clause-gives c =
    let p = err_from_is_err_and c.from_residual.result c.from_residual.ensures.1 in
    rw (p.1, p.2)
    (blocks_fails _ _ _ c.loop-next.invariant.reads _ (sym c.in-Some.ensures.after) _
    c.in_err-next.ensures.gives)

pub loop-next-smaller : goal.loop-next-smaller
loop-next-smaller c =
    blocks_shorter _ _ _ c.loop-next.invariant.reads _ (sym c.in-Some.ensures.after) _ _
    c.in_ok-next.ensures.gives

pub loop-next-preserved : goal.loop-next-preserved
loop-next-preserved c = record {
  reads =
      rw c.in_ok-push.ensures.items
      (blocks_next _ _ _ c.loop-next.invariant.reads _ (sym c.in-Some.ensures.after) _ _
      c.in_ok-next.ensures.gives);
  fewer = omega (
    arith,
    c.loop-next.invariant.fewer,
    c.in_ok-next.ensures.fewer,
    c.in-Some.ensures.fewer,
  );
}

pub returns-clause-gives : goal.returns-clause-gives
returns-clause-gives c =
    blocks_end _ _ _ c.loop-next.invariant.reads (sym c.in_default.ensures.after)
