use Rattle.part_answers.proofs.TableLemmas.{marked_twice}
use Rattle.part_answers.proofs.joining.mark.Goals as goal

pub returns-then-index-clause-err : goal.returns-then-index-clause-err
returns-then-index-clause-err c =
    let i = c.loop-part.part-index in
    let p = c.part-item.result in
    let range = rw (← c.part-item.is) at (c.requires i p c.loop-part-test.true) in
    marked_twice c.args.count c.args.parts.now i p c.loop-part.are_there.items c.index.result.now
    c.loop-part-test.true c.part-item.is range c.loop-part.invariant c.index.ensures c.if-index.true
