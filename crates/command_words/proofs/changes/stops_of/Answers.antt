use Rattle.std.proofs.Common.{◌<◌, arith, length}
use Rattle.std.proofs.lemmas.Bool.Decides.{nat_tests}
use Rattle.command_words.proofs.ChangeLemmas.{stop_more, stops_uneven}
use Rattle.command_words.proofs.changes.stops_of.Goals as goal

pub loop-stop-preserved : goal.loop-stop-preserved
loop-stop-preserved c =
    rw c.in_ok-push.ensures.items
    (stop_more c.loop-stop.stops.items c.in-Some.stop c.loop-stop.rest.now c.in-Some.more.now _
    c.in-Some.ensures.some c.loop-stop.invariant)

pub returns-else-is_empty-clause-err : goal.returns-else-is_empty-clause-err
returns-else-is_empty-clause-err c =
    let some : 0 < length c.loop-stop.rest.now = grind (arith, nat_tests) in
    stops_uneven c.loop-stop.stops.items c.loop-stop.rest.now _ c.loop-stop.invariant some
    c.in_default.ensures.none
