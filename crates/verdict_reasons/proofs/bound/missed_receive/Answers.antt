use Rattle.std.proofs.Common.{arith}
use Rattle.step_book.specs.Log.{world_of}
use Rattle.omission_reasons.proofs.Times.{is_receive_of}
use Rattle.verdict_reasons.proofs.bound.missed_receive.Goals as goal

pub returns-then-receive-open_until : goal.returns-then-receive-open_until
returns-then-receive-open_until g c =
    let r = c.in_ok-receive.receive in
    let w = world_of (g.P.Plan.start c.args.book.now.plan) c.args.book.now.log in
    let first = c.in_ok-receive.ensures in
    record {
      after = first.after;
      before = omega (arith, c.open_until.ensures, c.if-receive-open_until.true);
      receive = is_receive_of w r.round r.step first.receive;
      first = first.first;
    }
