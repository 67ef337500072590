use Rattle.std.proofs.Common.{sym, ◌∙◌}
use Rattle.step_book.proofs.Closing.{due_in, known_in}
use Rattle.step_book.proofs.book.Book.refuses_close.Goals as goal

pub returns-then-not-is_known : goal.returns-then-not-is_known
returns-then-not-is_known g c =
    let v = c.args.self.now in
    let n = c.args.finished.now.node.now in
    let start = g.P.Plan.start v.plan in
    let due = due_in start v.log n c.node-node.result c.round_of-round.result c.is_due.result
    c.node-node.ensures.value c.is_due.ensures.0 (cc) c.round_of-round.ensures.value
    (sym c.round.ensures ∙ c.if-round.false) in
    let known = known_in start v.log n c.node-node.result c.old.result.now c.frames.result.now
    c.is_known.result due c.node-node.ensures.value c.old.ensures c.frames.ensures.value
    c.is_known.ensures in
    (due, λ e. (let on = known.1 e in cc))

pub returns : goal.returns
returns g c =
    let v = c.args.self.now in
    let n = c.args.finished.now.node.now in
    let start = g.P.Plan.start v.plan in
    let due = due_in start v.log n c.node-node.result c.round_of-round.result c.is_due.result
    c.node-node.ensures.value c.is_due.ensures.0 (cc) c.round_of-round.ensures.value
    (sym c.round.ensures ∙ c.if-round.false) in
    let known = known_in start v.log n c.node-node.result c.old.result.now c.frames.result.now
    c.is_known.result due c.node-node.ensures.value c.old.ensures c.frames.ensures.value
    c.is_known.ensures in
    (due, known.0 (cc))
