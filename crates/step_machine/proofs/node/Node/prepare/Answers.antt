use Rattle.std.proofs.Common.{◌≡◌, ◌<◌, ap, sym, subst, ◌∙◌}
use Rattle.std.proofs.lemmas.Result.{IfOk-weaker}
use Rattle.frame_format.specs.Formats.{Format}
use Rattle.step_machine.specs.Nodes.{NodeView}
use Rattle.step_machine.specs.Saying.{layout_in, origin_of}
use Rattle.step_machine.proofs.Preparing.{ready_is, ready_told}
use Rattle.step_machine.proofs.node.Node.prepare.Goals as goal

pub prepared-requires-clause-spoken : goal.prepared-requires-clause-spoken
prepared-requires-clause-spoken c =
    let told = c.self.invariant.spoken c.in-Some.spoken c.in-Some.is in
    (told.message, told.spoken)

pub prepared-requires-clause-to : goal.prepared-requires-clause-to
prepared-requires-clause-to c =
    let told = c.self.invariant.spoken c.in-Some.spoken c.in-Some.is in
    let nodes : (layout_in (origin_of c.in-Some.spoken)).nodes ≡ c.self.inside.setup.nodes =
    ap (λ (f : Format). f.nodes) told.origin.layout_is in
    let seen : c.self.inside.setup.nodes ≡ c.args.self.now.setup.nodes =
    ap (λ (n : NodeView). n.setup.nodes) c.self.view_is in
    subst (λ k. c.args.dest < k) (sym (nodes ∙ seen)) c.requires.dest

pub returns-in-Some-clause-ready : goal.returns-in-Some-clause-ready
returns-in-Some-clause-ready c =
    let told = c.self.invariant.spoken c.in-Some.spoken c.in-Some.is in
    IfOk-weaker c.prepared.result _ _
    (λ p is. ready_told c.self.inside c.args.self.now c.args.dest c.in-Some.spoken p
    c.self.view_is told is)
    (c.prepared.ensures told.message told.spoken)

pub returns-in-Some-clause-prepared : goal.returns-in-Some-clause-prepared
returns-in-Some-clause-prepared c =
    let told = c.self.invariant.spoken c.in-Some.spoken c.in-Some.is in
    IfOk-weaker c.prepared.result _ _
    (λ p is. ready_is c.self.inside c.args.self.now c.args.dest p c.self.view_is
    c.self.invariant.state.types
    (ready_told c.self.inside c.args.self.now c.args.dest c.in-Some.spoken p c.self.view_is told
    is))
    (c.prepared.ensures told.message told.spoken)
