use Rattle.std.proofs.Common.{ap, sym, subst, ◌≡◌, ◌∙◌}
use Rattle.std.specs.Arc.{arc_value}
use Rattle.run_events.specs.declared.name.Name.{Name}
use Rattle.step_machine.specs.Nodes.{NodeView, format_in}
use Rattle.step_machine.specs.NodeInside.{IsOrigin, node_seen}
use Rattle.step_machine.specs.Saying.{AreSpoken, origin_of}
use Rattle.step_machine.specs.Sealed.{Ready}
use Rattle.step_machine.proofs.Preparing.{ready_first, ready_in, ready_is}
use Rattle.step_machine.proofs.node.Node.prepare_first.Goals as goal

pub returns-clause-ready : goal.returns-clause-ready
returns-clause-ready c =
    let s = c.self.inside in
    let n = c.args.self.now in
    let m = c.in_ok-message.message in
    let a = c.in_ok-spoken.spoken in
    let name = c.args.name in
    let seen : node_seen c.self.inside ≡ n = c.self.view_is ∙ c.in_ok-origin.ensures.same
    ∙ c.in_ok-message.ensures.same in
    let spoken : AreSpoken n.me n.round m a =
    subst (λ (x : NodeView). AreSpoken x.me x.round m a) seen c.in_ok-spoken.ensures.spoken in
    let named : AreSpoken name.from name.round m a =
    subst (λ (x : Name). AreSpoken x.from x.round m a) (sym c.requires.named) spoken in
    let origin : IsOrigin n.state (format_in n) (origin_of a) =
    subst (IsOrigin n.state (format_in n)) (sym c.in_ok-spoken.ensures.origin)
    (subst (λ (x : NodeView). IsOrigin x.state (format_in x) (arc_value c.in_ok-origin.origin))
    c.in_ok-message.ensures.same c.in_ok-origin.ensures.origin) in
    let ready = ready_first s n name a m c.in_ok-prepared.prepared seen c.requires.named origin
    c.in_ok-message.ensures.says (c.in_ok-prepared.ensures m named) in
    let under : Name → Ready = λ x. record {
      format = format_in n;
      name = x;
      state = n.state;
      message = (ready_in n name.to).message;
    } in
    ready ∙ sym (ap under c.requires.named)

pub returns-clause-prepared : goal.returns-clause-prepared
returns-clause-prepared c =
    let s = c.self.inside in
    let n = c.args.self.now in
    let m = c.in_ok-message.message in
    let a = c.in_ok-spoken.spoken in
    let name = c.args.name in
    let seen : node_seen c.self.inside ≡ n = c.self.view_is ∙ c.in_ok-origin.ensures.same
    ∙ c.in_ok-message.ensures.same in
    let spoken : AreSpoken n.me n.round m a =
    subst (λ (x : NodeView). AreSpoken x.me x.round m a) seen c.in_ok-spoken.ensures.spoken in
    let named : AreSpoken name.from name.round m a =
    subst (λ (x : Name). AreSpoken x.from x.round m a) (sym c.requires.named) spoken in
    let origin : IsOrigin n.state (format_in n) (origin_of a) =
    subst (IsOrigin n.state (format_in n)) (sym c.in_ok-spoken.ensures.origin)
    (subst (λ (x : NodeView). IsOrigin x.state (format_in x) (arc_value c.in_ok-origin.origin))
    c.in_ok-message.ensures.same c.in_ok-origin.ensures.origin) in
    let ready = ready_first s n name a m c.in_ok-prepared.prepared seen c.requires.named origin
    c.in_ok-message.ensures.says (c.in_ok-prepared.ensures m named) in
    ready_is s n name.to c.in_ok-prepared.prepared seen c.self.invariant.state.types ready
