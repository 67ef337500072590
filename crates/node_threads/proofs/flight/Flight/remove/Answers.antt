use Rattle.std.proofs.Common.{◌≤◌, ◌+◌, ◌∙◌, ap, arith, drop, length, length-drop, sym}
use Rattle.std.specs.List.{remove}
use Rattle.node_threads.proofs.Dropped.{drop_next, drop_remove}
use Rattle.node_threads.proofs.flight.Flight.remove.Goals as goal

pub returns-then-place-eq0 : goal.returns-then-place-eq0
returns-then-place-eq0 c =
    c.reclaim-self-inside.ensures.left
    ∙ drop_next c.self.inside.gone c.self.inside.entries.items
    ∙ ap (λ ys. remove ys 0) c.self.view_is
    ∙ ap (remove c.args.self.now) (sym c.if-place-eq0.true)

pub returns-else-place-eq0 : goal.returns-else-place-eq0
returns-else-place-eq0 c =
    let k = c.self.inside.gone in
    let xs = c.self.inside.entries.items in
    let i = c.args.place in
    let le : k + i ≤ length xs = omega (
      arith,
      length-drop k xs,
      c.self.invariant.there,
      ap length c.self.view_is,
      c.requires,
    ) in
    c.reclaim-self-inside-else-place-eq0.ensures.left
    ∙ ap (drop k) c.remove-message.ensures.items ∙ drop_remove k i xs le
    ∙ ap (λ ys. remove ys i) c.self.view_is
