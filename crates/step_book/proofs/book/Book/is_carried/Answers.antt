use Rattle.std.proofs.Common.{◌≡◌, true, false, ◌-◌, Some, arith, sym, ap, ◌∙◌, length}
use Rattle.step_book.specs.Log.{state_before}
use Rattle.step_book.proofs.Closing.{heard_by, none_iff, sender_by}
use Rattle.step_book.proofs.Reading.{of_view, rows_len, rows_view, rows_of_len, row_size}
use Rattle.step_book.proofs.Vectors.{state_read}
use Rattle.step_book.proofs.book.Book.is_carried.Goals as goal

pub index-row-requires : goal.index-row-requires
index-row-requires g c =
    let n = rows_len (of_view g.P.Plan.start g.P.Plan.nodes c.self.view_is c.self.invariant) in
    let m = rows_of_len c.self.inside.states.items in
    let k = ap length (rows_view c.self.view_is) in
    omega (arith, c.requires.from)

pub returns-then-not-was_released : goal.returns-then-not-was_released
returns-then-not-was_released g c =
    let heard = heard_by (of_view g.P.Plan.start g.P.Plan.nodes c.self.view_is c.self.invariant)
    c.args.node c.args.from c.round_of-round.result c.start-first.result c.start.result false
    c.requires.node c.requires.from c.requires.due c.round_of-round.ensures.value
    (c.start-first.ensures.value ∙ ap (g.P.Plan.start c.args.self.now.plan) c.earliest.ensures)
    c.start.ensures.value (sym c.was_released.ensures ∙ (cc)) in
    let none = none_iff c.args.frame.now c.is_none.result c.is_none.ensures in
    (λ e. none.0 e ∙ sym heard, λ e. none.1 (e ∙ heard))

pub index-requires : goal.index-requires
index-requires g c =
    let v = c.args.self.now in
    let h = (of_view g.P.Plan.start g.P.Plan.nodes c.self.view_is c.self.invariant) in
    let size = rows_len h in
    let long = sender_by h c.args.node c.args.from c.round_of-round.result c.start-first.result
    c.start.result c.requires.node c.requires.from c.requires.due c.round_of-round.ensures.value
    (sym c.was_released.ensures ∙ (cc)) in
    let row = row_size v.log.rows c.self.inside.states.items c.args.from c.index-row.result.now
    (rows_view c.self.view_is) (omega (arith, c.requires.from)) c.index-row.ensures in
    omega arith

pub returns : goal.returns
returns g c =
    let v = c.args.self.now in
    let h = (of_view g.P.Plan.start g.P.Plan.nodes c.self.view_is c.self.invariant) in
    let size = rows_len h in
    let long = sender_by h c.args.node c.args.from c.round_of-round.result c.start-first.result
    c.start.result c.requires.node c.requires.from c.requires.due c.round_of-round.ensures.value
    (sym c.was_released.ensures ∙ (cc)) in
    let row = row_size v.log.rows c.self.inside.states.items c.args.from c.index-row.result.now
    (rows_view c.self.view_is) (omega (arith, c.requires.from)) c.index-row.ensures in
    let read = state_read c.self.inside.states.items c.args.from v.log.rows
    (c.round_of-round.result - 1) c.index-row.result.now c.index.result.now
    (rows_view c.self.view_is) (omega (arith, c.requires.from)) c.index-row.ensures
    (omega arith) c.index.ensures in
    let own : state_before v.log c.args.from c.round_of-round.result ≡ c.deref.result.now = read
    ∙ sym c.deref.ensures in
    let heard = heard_by h c.args.node c.args.from c.round_of-round.result c.start-first.result
    c.start.result true c.requires.node c.requires.from c.requires.due
    c.round_of-round.ensures.value (c.start-first.ensures.value
    ∙ ap (g.P.Plan.start c.args.self.now.plan) c.earliest.ensures) c.start.ensures.value
    (sym c.was_released.ensures ∙ (cc)) in
    let same = heard
    ∙ ap (λ s. Some
    (record {
      name = record {
        from = c.args.from;
        to = c.args.node;
        round = c.round_of-round.result;
        copy = 0;
      };
      state = s;
    })) own in
    (λ e. c.is_tagged.ensures.0 e ∙ sym same, λ e. c.is_tagged.ensures.1 (e ∙ same))
