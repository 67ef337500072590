use Rattle.std.proofs.Common.{◌≡◌, ◌+◌, ◌-◌, ◌<◌, ◌≤◌, Some, [], get_or, set, ap, refl, ◌∙◌, arith}
use Rattle.std.proofs.Common.{length, sym, subst}
use Rattle.std.proofs.lemmas.List.{get_or_read_under}
use Rattle.run_events.specs.declared.name.Name.{Name}
use Rattle.step_machine.specs.Sealed.{HeldRow, IsHonest}
use Rattle.step_machine.specs.Nodes.{AreHeld, IsFrom, NodeView, ahead, algorithm_in}
use Rattle.step_machine.specs.NodeInside.{node_seen}
use Rattle.step_machine.proofs.HeldFrames.{one_row}
use Rattle.step_machine.proofs.node.Node.take.Goals as goal

pub has-requires : goal.has-requires
has-requires c =
    let nodes = ap (λ (n : NodeView). n.setup.nodes) c.self.view_is in
    let from = ap (λ (n : Name). n.from) c.name-name.ensures in
    let row = c.name-name.result.round - c.self.inside.round in
    let near : row ≤ ahead = omega (arith, c.if-ahead-ge-ROUNDS_HELD.false) in
    let there : c.index_mut-held.result.now ≡ get_or c.self.inside.held.items row [] =
    get_or_read_under c.self.inside.held.items row _ _ _ c.index_mut-held.ensures.value
    (omega (arith, c.self.invariant.held.places.rows, near)) refl in
    omega (
      arith,
      nodes,
      c.requires.from,
      from,
      ap length there,
      c.self.invariant.held.places.sized row near,
    )

pub put-requires : goal.put-requires
put-requires c =
    let nodes = ap (λ (n : NodeView). n.setup.nodes) c.self.view_is in
    let from = ap (λ (n : Name). n.from) c.name-name.ensures in
    let row = c.name-name.result.round - c.self.inside.round in
    let near : row ≤ ahead = omega (arith, c.if-ahead-ge-ROUNDS_HELD.false) in
    let there : c.index_mut-held.result.now ≡ get_or c.self.inside.held.items row [] =
    get_or_read_under c.self.inside.held.items row _ _ _ c.index_mut-held.ensures.value
    (omega (arith, c.self.invariant.held.places.rows, near)) refl in
    omega (
      arith,
      nodes,
      c.requires.from,
      from,
      ap length there,
      c.self.invariant.held.places.sized row near,
    )

pub invariant_of-self-2 : goal.invariant_of-self-2
invariant_of-self-2 c =
    let seen : node_seen c.self.inside ≡ c.args.self.now = c.self.view_is in
    let name : c.name-name.result ≡ c.args.frame.name = c.name-name.ensures in
    let from : c.name-name.result.from ≡ c.args.frame.name.from = ap (λ (n : Name). n.from) name in
    let round : c.name-name.result.round ≡ c.args.frame.name.round =
    ap (λ (n : Name). n.round) name in
    let nodes = ap (λ (n : NodeView). n.setup.nodes) seen in
    let here : c.name-name.result.from < c.self.inside.setup.nodes =
    omega (arith, nodes, c.requires.from, from) in
    let row = c.name-name.result.round - c.self.inside.round in
    let begun = c.if-name-self.false in
    let near : row ≤ ahead = omega (arith, c.if-ahead-ge-ROUNDS_HELD.false) in
    let new : IsFrom (algorithm_in (node_seen c.self.inside)) c.name-name.result.from
    c.self.inside.me (c.self.inside.round + row) c.args.frame = record {
      from = sym from;
      to = c.requires.to ∙ sym (ap (λ (n : NodeView). n.me) seen);
      round = omega (arith, round, begun);
      honest = subst (λ (n : NodeView). IsHonest (algorithm_in n) c.args.frame)
          (sym seen) c.requires.honest;
    } in
    let rows = c.self.invariant.held.places.rows in
    let there : c.index_mut-held.result.now ≡ get_or c.self.inside.held.items row [] =
    get_or_read_under c.self.inside.held.items row _ _ _ c.index_mut-held.ensures.value
    (omega (arith, rows, near)) refl in
    let put : c.put.new.self ≡ set (get_or c.self.inside.held.items row []) c.name-name.result.from
    (Some c.args.frame) =
    c.put.ensures ∙ ap (λ r. set r c.name-name.result.from (Some c.args.frame)) there in
    record {
      setup = c.self.invariant.setup;
      me = c.self.invariant.me;
      begun = c.self.invariant.begun;
      layout = c.self.invariant.layout;
      state = c.self.invariant.state;
      next = c.self.invariant.next;
      held = subst (λ (r : HeldRow). AreHeld (algorithm_in (node_seen c.self.inside))
          c.self.inside.setup.nodes c.self.inside.me c.self.inside.round
          (set c.self.inside.held.items row r)) (sym put)
          (one_row _ _ _ _ row _ _ _ near here new c.self.invariant.held);
      origin = c.self.invariant.origin;
      spoken = c.self.invariant.spoken;
    }
