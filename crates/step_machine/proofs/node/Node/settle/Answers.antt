use Rattle.std.proofs.Common.{◌≡◌, ◌+◌, [], length, get_or, ap, refl, ◌∙◌, arith, sym, subst}
use Rattle.std.proofs.lemmas.List.{get_or_read_under}
use Rattle.step_machine.specs.Nodes.{AreHeld}
use Rattle.step_machine.specs.NodeInside.{IsOwnState, node_seen}
use Rattle.step_machine.specs.Nodes.{algorithm_in}
use Rattle.step_machine.proofs.HeldFrames.{turned_held}
use Rattle.step_machine.proofs.node.Node.settle.Goals as goal

pub invariant_of-self : goal.invariant_of-self
invariant_of-self c =
    let s = c.self.inside in
    let was = c.self.invariant.held in
    let first : c.index_mut.result.now ≡ get_or s.held.items 0 [] =
    get_or_read_under s.held.items 0 _ _ _ c.index_mut.ensures.value
    (omega (arith, was.places.rows)) refl in
    let same : length c.clear.new.self ≡ length (get_or s.held.items 0 []) = c.clear.ensures.places
    ∙ ap length first in
    record {
      setup = c.self.invariant.setup;
      me = c.self.invariant.me;
      begun = omega arith;
      layout = c.self.invariant.layout;
      state = subst (IsOwnState s.machine s.setup) (sym c.swap.ensures.x_after)
          c.self.invariant.next;
      next = subst (IsOwnState s.machine s.setup) (sym c.swap.ensures.y_after)
          c.self.invariant.state;
      held = subst (AreHeld (algorithm_in (node_seen s)) s.setup.nodes s.me (s.round + 1))
          (sym c.rotate_left.ensures.items)
          (turned_held (algorithm_in (node_seen s)) s.setup.nodes s.me s.round
          (s.round + 1) s.held.items c.clear.new.self refl same c.clear.ensures.frames was);
      origin = λ m is. absurd cc;
      spoken = λ m is. absurd cc;
    }
