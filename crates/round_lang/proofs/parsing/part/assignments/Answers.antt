use Rattle.std.proofs.Common.{sym, arith, ap, length}
use Rattle.std.proofs.lemmas.Result.{err_from_is_err_and}
use Rattle.round_lang.proofs.Loops.{assigns_first, assigns_fails, assigns_shorter, assigns_next}
use Rattle.round_lang.proofs.Loops.{assigns_end}
use Rattle.round_lang.proofs.parsing.part.assignments.Goals as goal

pub loop-parser-init : goal.loop-parser-init
loop-parser-init c = record {
  reads =
      rw (c.no_items-assignments.ensures.items, c.no_items-assignments.ensures.rest)
      (assigns_first _);
  fewer = omega (arith, ap length c.no_items-assignments.ensures.rest);
}

pub returns-in_err-next-clause-gives : goal.returns-in_err-next-clause-gives
returns-in_err-next-clause-gives c =
    let p = err_from_is_err_and c.from_residual.result c.from_residual.ensures.1 in
    rw (p.1, p.2)
    (assigns_fails _ _ _ c.loop-parser.invariant.reads (sym c.loop-parser-test.ensures) _
    c.in_err-next.ensures.gives)

pub loop-parser-smaller : goal.loop-parser-smaller
loop-parser-smaller c = assigns_shorter _ _ _ c.in_ok-next.ensures.gives

pub loop-parser-preserved : goal.loop-parser-preserved
loop-parser-preserved c = record {
  reads =
      rw c.in_ok-push.ensures.items
      (assigns_next _ _ _ c.loop-parser.invariant.reads _ _ (sym c.loop-parser-test.ensures)
      c.in_ok-next.ensures.gives);
  fewer = omega (arith, c.loop-parser.invariant.fewer, c.in_ok-next.ensures.fewer);
}

pub returns-clause-gives : goal.returns-clause-gives
returns-clause-gives c =
    assigns_end _ _ _ c.loop-parser.invariant.reads (sym c.loop-parser-test.ensures)
