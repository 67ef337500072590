use Rattle.std.proofs.Common.{◌<◌, arith, length}
use Rattle.std.proofs.lemmas.Bool.Decides.{nat_tests}
use Rattle.command_words.proofs.ChangeLemmas.{delay_more, delays_uneven}
use Rattle.command_words.proofs.changes.delays_of.Goals as goal

pub loop-delay-preserved : goal.loop-delay-preserved
loop-delay-preserved c =
    rw c.in_ok-push.ensures.items
    (delay_more c.loop-delay.delays.items c.in-Some.delay c.loop-delay.rest.now c.in-Some.more.now _
    c.in-Some.ensures.some c.loop-delay.invariant)

pub returns-else-is_empty-clause-err : goal.returns-else-is_empty-clause-err
returns-else-is_empty-clause-err c =
    let some : 0 < length c.loop-delay.rest.now = grind (arith, nat_tests) in
    delays_uneven c.loop-delay.delays.items c.loop-delay.rest.now _ c.loop-delay.invariant some
    c.in_default.ensures.none
