use Rattle.std.proofs.iter.Next.{Yields-more}
use Rattle.test_kit.proofs.WrittenNumbers.{WriteAll-more}
use Rattle.test_kit.proofs.reading.numbers.Goals as goal

pub returns-in_err-number-clause-unreadable : goal.returns-in_err-number-clause-unreadable
returns-in_err-number-clause-unreadable g c _ = (
  c.loop-word.yielded,
  c.in-Some.word,
  c.next.new.self,
  Yields-more g.I.Iterator.next_gives c.args.words c.loop-word.yielded
      c.loop-word.word-iterator c.in-Some.word c.next.new.self
      (rw (← c.into_iter-word-iterator.ensures.into_iter_gives) c.loop-word.yielded_by)
      c.in-Some.ensures.steps,
  c.in_err-number.ensures.none,
)

pub loop-word-preserved : goal.loop-word-preserved
loop-word-preserved g c =
    let goes = c.in-Some.ensures.goes.on c.loop-word.invariant.1 in (
      goes.0,
      goes.1,
      rw (c.in_ok-push.ensures.items)
          (WriteAll-more c.loop-word.yielded c.loop-word.numbers.items c.in-Some.word
          c.in_ok-number.field-0 c.loop-word.invariant.2 c.in_ok-number.ensures.ok),
    )
