use Rattle.std.proofs.Common.{refl, subst, sym, ◌∙◌}
use Rattle.std.specs.Option.{ForSome}
use Rattle.std.specs.Prelude.{IfSome, List, Option}
use Rattle.round_lang.specs.declared.value.Value.{Value}
use Rattle.round_meaning.specs.Rounds.{algorithm_of}
use Rattle.round_meaning.specs.Typed.{IsMessageOf}
use Rattle.frame_format.specs.Formats.{format_of, kinds_at}
use Rattle.frame_format.specs.Spelling.{AreOf}
use Rattle.step_machine.specs.Nodes.{NodeView, format_in}
use Rattle.step_machine.specs.Sealed.{KeepsTypes}
use Rattle.step_machine.proofs.Typing.{message_fits, sends_typed}
use Rattle.step_machine.proofs.node.Node.message_to.Goals as goal

pub returns-clause-kinds : goal.returns-clause-kinds
returns-clause-kinds c =
    let s = c.self.inside in
    let keeps : KeepsTypes s.machine = subst KeepsTypes c.program.ensures c.keeps_types.ensures in
    let typed : IfSome ((algorithm_of s.machine s.setup).send s.round s.state s.me c.args.dest)
    (IsMessageOf s.machine s.round) =
    sends_typed (algorithm_of s.machine s.setup) s.machine s.setup keeps refl s.round s.state s.me
    c.args.dest c.self.invariant.state.types in
    let fits : ForSome c.in_ok-message.message
    (AreOf s.machine.values (kinds_at (format_of s.machine s.setup.nodes) s.round)) =
    λ m is. message_fits s.machine s.setup.nodes s.round m
    (subst (λ (o : Option (List Value)). IfSome o (IsMessageOf s.machine s.round))
    (sym c.in_ok-message.ensures.message ∙ is) typed) in
    subst (λ (n : NodeView). ForSome c.in_ok-message.message
    (AreOf n.program.values (kinds_at (format_in n) n.round))) c.self.view_is fits
