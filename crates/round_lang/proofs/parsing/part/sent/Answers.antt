use Rattle.std.proofs.Common.{sym, arith}
use Rattle.std.proofs.lemmas.Result.{err_from_is_err_and}
use Rattle.round_lang.proofs.Loops.{sent_none, sent_first_fails, sent_first, sent_fails, sent_next}
use Rattle.round_lang.proofs.Loops.{sent_shorter, sent_end}
use Rattle.round_lang.proofs.parsing.part.sent.Goals as goal

pub returns-then-begins_with-clause-gives : goal.returns-then-begins_with-clause-gives
returns-then-begins_with-clause-gives c =
    rw c.new-sent.ensures.items (sent_none _ (sym c.if-begins_with.ensures))

pub returns-in_err-first-clause-gives : goal.returns-in_err-first-clause-gives
returns-in_err-first-clause-gives c =
    let p = err_from_is_err_and c.from_residual.result c.from_residual.ensures.1 in
    rw (p.1, p.2) (sent_first_fails _ (sym c.if-begins_with.ensures) _ c.in_err-first.ensures.gives)

pub loop-next-init : goal.loop-next-init
loop-next-init c = record {
  reads = rw (c.in_ok-push.ensures.items, c.new-sent.ensures.items)
      (sent_first _ _ _ (sym c.if-begins_with.ensures) c.in_ok-first.ensures.gives);
  fewer = c.in_ok-first.ensures.fewer;
}

pub returns-in_err-next-clause-gives : goal.returns-in_err-next-clause-gives
returns-in_err-next-clause-gives c =
    let p = err_from_is_err_and c.from_residual-in_err-next.result
    c.from_residual-in_err-next.ensures.1 in
    rw (p.1, p.2)
    (sent_fails _ _ _ c.loop-next.invariant.reads _ (sym c.in-Some.ensures.after) _
    c.in_err-next.ensures.gives)

pub loop-next-smaller : goal.loop-next-smaller
loop-next-smaller c =
    sent_shorter _ _ _ c.loop-next.invariant.reads _ _ _ (sym c.in-Some.ensures.after)
    c.in_ok-next.ensures.gives

pub loop-next-preserved : goal.loop-next-preserved
loop-next-preserved c = record {
  reads =
      rw c.in_ok-push-2.ensures.items
      (sent_next _ _ _ c.loop-next.invariant.reads _ _ _ (sym c.in-Some.ensures.after)
      c.in_ok-next.ensures.gives);
  fewer = omega (
    arith,
    c.loop-next.invariant.fewer,
    c.in_ok-next.ensures.fewer,
    c.in-Some.ensures.fewer,
  );
}

pub returns-clause-gives : goal.returns-clause-gives
returns-clause-gives c = sent_end _ _ _ c.loop-next.invariant.reads (sym c.in_default.ensures.after)
