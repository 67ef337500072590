use Rattle.std.proofs.Common.{sym, arith, ap, length}
use Rattle.std.proofs.lemmas.Result.{err_from_is_err_and}
use Rattle.round_lang.proofs.Loops.{declares_first, declares_fails, declares_shorter, declares_next}
use Rattle.round_lang.proofs.Loops.{declares_end}
use Rattle.round_lang.proofs.parsing.part.declarations.Goals as goal

pub loop-parser-init : goal.loop-parser-init
loop-parser-init c = record {
  reads =
      rw (
        c.no_items-variables.ensures.items,
        c.no_items-variables.ensures.rest,
        c.new-decides.ensures.items,
      ) (declares_first _);
  fewer = omega (arith, ap length c.no_items-variables.ensures.rest);
}

pub returns-in_err-next-clause-gives : goal.returns-in_err-next-clause-gives
returns-in_err-next-clause-gives c =
    let p = err_from_is_err_and c.from_residual.result c.from_residual.ensures.1 in
    rw (p.1, p.2)
    (declares_fails _ _ _ _ c.loop-parser.invariant.reads _
    (omega (arith, c.len.ensures, c.loop-parser.declared.variables.ok.0))
    (sym c.loop-parser-test.ensures) _ c.in_err-next.ensures.gives)

pub loop-parser-smaller : goal.loop-parser-smaller
loop-parser-smaller c =
    declares_shorter _ _ _ _ c.loop-parser.invariant.reads _ _ _ c.in_ok-next.ensures.gives

pub loop-parser-preserved : goal.loop-parser-preserved
loop-parser-preserved c = record {
  reads =
      rw (c.in_ok-push.ensures.variables, c.in_ok-push.ensures.decides)
      (declares_next _ _ _ _ c.loop-parser.invariant.reads _
      (omega (arith, c.len.ensures, c.loop-parser.declared.variables.ok.0)) _ _
      (sym c.loop-parser-test.ensures) c.in_ok-next.ensures.gives);
  fewer = omega (arith, c.loop-parser.invariant.fewer, c.in_ok-next.ensures.fewer);
}

pub returns-clause-gives : goal.returns-clause-gives
returns-clause-gives c =
    declares_end _ _ _ _ c.loop-parser.invariant.reads (sym c.loop-parser-test.ensures)
