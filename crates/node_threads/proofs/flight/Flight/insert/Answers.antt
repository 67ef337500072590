use Rattle.std.proofs.Common.{◌≤◌, ◌+◌, ◌∙◌, ap, arith, drop, length, length-drop}
use Rattle.std.specs.List.{insert}
use Rattle.node_threads.proofs.Dropped.{drop_insert}
use Rattle.node_threads.proofs.flight.Flight.insert.Goals as goal

pub returns-clause-ok : goal.returns-clause-ok
returns-clause-ok c =
    let k = c.self.inside.gone in
    let xs = c.self.inside.entries.items in
    let i = c.args.place in
    let le : k + i ≤ length xs = omega (
      arith,
      length-drop k xs,
      c.self.invariant.there,
      ap length c.self.view_is,
      c.requires,
    ) in
    ap (drop k) c.in_ok-insert.ensures.items ∙ drop_insert k i c.args.message xs le
    ∙ ap (λ ys. insert ys i c.args.message) c.self.view_is
