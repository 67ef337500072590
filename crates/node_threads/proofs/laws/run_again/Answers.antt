use Rattle.std.proofs.Common.{subst}
use Rattle.step_book.specs.Agreed.{JournalAgrees}
use Rattle.step_book.specs.Log.{mark_in, waiting_in}
use Rattle.node_threads.proofs.Ending.{same_states}
use Rattle.node_threads.proofs.laws.run_again.Goals as goal

pub returns : goal.returns
returns g c =
    let v = c.args.journal.now in
    let w = c.args.again.now in
    let start = g.P.Plan.start in
    let agrees =
    subst (λ (p : g.row.P.Denot). JournalAgrees (start p) w.log (mark_in (start p) w.log)
    (waiting_in (start p) w.log)) c.requires.plan c.agrees-2.ensures in
    record {
      states = same_states (start v.plan) v.log w.log (mark_in (start v.plan) v.log)
          (mark_in (start v.plan) w.log) (waiting_in (start v.plan) v.log)
          (waiting_in (start v.plan) w.log)
          c.agrees.ensures agrees c.requires.program c.requires.setup c.requires.trace;
    }
