use Rattle.std.proofs.Common.{◌≡◌, ◌+◌, ◌-◌, ℕ, false, true, IfErr, OnOk, ap, arith, subst, sym}
use Rattle.std.proofs.Common.{◌∙◌}
use Rattle.schedule_text.specs.Readers.{EndsAs, IsAhead, IsRefusedAhead, Reading}
use Rattle.schedule_text.proofs.Readers.{at_end, at_most, more_ahead, piece_ends, piece_refused}
use Rattle.schedule_text.proofs.Readers.{refused_long, taken_ahead}
use Rattle.schedule_text.proofs.schedule_reader.ScheduleReader.read_piece.Goals as goal

pub returns-then-self-gt-MAX_TEXT-clause-refused :
    goal.returns-then-self-gt-MAX_TEXT-clause-refused
returns-then-self-gt-MAX_TEXT-clause-refused g c held o before a =
    let r = c.self.inside in
    let new = c.add_next.new.bytes in
    let most = c.min-most.ensures in
    let long = c.if-self-gt-MAX_TEXT.true in
    let were = c.len-before.ensures in
    let are = c.len.ensures in
    let sized = c.self.invariant (ap (λ (x : Reading). x.is_ended) c.self.view_is ∙ c.requires) in
    let within = sized.1 in
    let a = subst (IsAhead held o before) (sym c.self.view_is) a in
    let few = at_most a c.min-most.result (g.S.TextSource.left c.add_next.new.self) new
    c.in_ok-add_next.ensures.added in
    let count : ℕ = r.count + (c.len.result - c.len-before.result) in
    refused_long (more_ahead a c.min-most.result (g.S.TextSource.left c.add_next.new.self) new
    c.in_ok-add_next.ensures.added count true (omega (arith, were, are)))
    (omega (arith, most, long, were, are, within, few)) c.too_long.result c.too_long.ensures

pub returns-then-added-most-clause-ended : goal.returns-then-added-most-clause-ended
returns-then-added-most-clause-ended g c =
    let r = c.self.inside in
    let left = g.S.TextSource.left c.add_next.new.self in
    let new = c.add_next.new.bytes in
    let few = c.if-added-most.true in
    let short = c.if-self-gt-MAX_TEXT.false in
    let were = c.len-before.ensures in
    let are = c.len.ensures in
    let count : ℕ = r.count + (c.len.result - c.len-before.result) in
    let old : Reading = record {
      left = g.S.TextSource.left r.source;
      intake = r.intake;
      count = r.count;
      is_ended = r.is_ended;
    } in
    let mid : Reading = record {
      left = left;
      intake = record r.intake { bytes = new };
      count = count;
      is_ended = true;
    } in
    let end : Reading = record {
      left = left;
      intake = c.finish.new.self;
      count = count;
      is_ended = true;
    } in
    subst (λ (x : Reading). OnOk c.finish.result (true ≡ true → EndsAs x end)) c.self.view_is
    (piece_ends old mid end
    (λ held o before a. more_ahead a c.min-most.result left new c.in_ok-add_next.ensures.added count
    true (omega (arith, were, are)))
    (λ held o before a. at_end a c.min-most.result left new c.in_ok-add_next.ensures.added
    (omega (arith, few, were, are)))
    (omega (arith, short)) c.finish.result c.finish.ensures)

pub returns-then-added-most-clause-refused : goal.returns-then-added-most-clause-refused
returns-then-added-most-clause-refused g c =
    let r = c.self.inside in
    let left = g.S.TextSource.left c.add_next.new.self in
    let new = c.add_next.new.bytes in
    let few = c.if-added-most.true in
    let short = c.if-self-gt-MAX_TEXT.false in
    let were = c.len-before.ensures in
    let are = c.len.ensures in
    let count : ℕ = r.count + (c.len.result - c.len-before.result) in
    let old : Reading = record {
      left = g.S.TextSource.left r.source;
      intake = r.intake;
      count = r.count;
      is_ended = r.is_ended;
    } in
    let mid : Reading = record {
      left = left;
      intake = record r.intake { bytes = new };
      count = count;
      is_ended = true;
    } in
    let end : Reading = record {
      left = left;
      intake = c.finish.new.self;
      count = count;
      is_ended = true;
    } in
    subst (λ (x : Reading). IfErr c.finish.result (IsRefusedAhead x)) c.self.view_is
    (piece_refused old mid end
    (λ held o before a. more_ahead a c.min-most.result left new c.in_ok-add_next.ensures.added count
    true (omega (arith, were, are)))
    (λ held o before a. at_end a c.min-most.result left new c.in_ok-add_next.ensures.added
    (omega (arith, few, were, are)))
    (omega (arith, short)) c.finish.result c.finish.ensures)

pub returns-clause-goes_on : goal.returns-clause-goes_on
returns-clause-goes_on g c _ held o before a =
    let r = c.self.inside in
    let left = g.S.TextSource.left c.add_next.new.self in
    let new = c.add_next.new.bytes in
    let were = c.len-before.ensures in
    let are = c.len.ensures in
    let count : ℕ = r.count + (c.len.result - c.len-before.result) in
    let a = subst (IsAhead held o before) (sym c.self.view_is) a in
    taken_ahead (more_ahead a c.min-most.result left new c.in_ok-add_next.ensures.added count true
    (omega (arith, were, are))) c.take_lines.new.self false c.in_ok-take_lines.ensures.taken
