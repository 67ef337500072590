use Rattle.std.proofs.Common.{arith, inl, inr}
use Rattle.node_threads.proofs.Copies.{all_copies, more_copies, no_copy}
use Rattle.node_threads.proofs.flight.end_of_copies.Goals as goal

pub loop-end-preserved : goal.loop-end-preserved
loop-end-preserved c =
    let inv = c.loop-end.invariant in record {
      low = omega (arith, inv.low);
      high = omega (arith, c.loop-end-test.true);
      same = more_copies c.args.messages.now _ c.args.place c.loop-end.end inv.same
          (omega (arith, c.loop-end-test.true)) c.if-messages-end.true;
    }

pub returns-else-messages-end-clause-copies : goal.returns-else-messages-end-clause-copies
returns-else-messages-end-clause-copies c =
    let inv = c.loop-end.invariant in
    all_copies c.args.messages.now c.args.place c.loop-end.end c.requires inv.low inv.high inv.same
    (inr (no_copy c.args.messages.now _ c.loop-end.end c.if-messages-end.false
    (omega (arith, c.loop-end-test.true))))

pub returns-after-loop-end-clause-copies : goal.returns-after-loop-end-clause-copies
returns-after-loop-end-clause-copies c =
    let inv = c.loop-end.invariant in
    all_copies c.args.messages.now c.args.place c.loop-end.end c.requires inv.low inv.high inv.same
    (inl (omega (arith, inv.high, c.loop-end-test.false)))
