use Rattle.std.proofs.Common.{◌≡◌, suc, None, ap, ◌∙◌, arith, sym, subst}
use Rattle.std.specs.Prelude.{replicate}
use Rattle.round_meaning.specs.Rounds.{algorithm_of}
use Rattle.round_meaning.specs.Setups.{IsSetup}
use Rattle.round_meaning.specs.declared.setup.Setup.{Setup}
use Rattle.round_lang.specs.Syntax.{ProgramTree}
use Rattle.frame_format.specs.Formats.{format_of}
use Rattle.step_code.specs.Turns.{IsOfState}
use Rattle.step_machine.specs.Nodes.{AreHeld, ahead}
use Rattle.step_machine.specs.NodeInside.{IsOwnState}
use Rattle.step_machine.specs.Sealed.{HasStateTypes}
use Rattle.step_machine.proofs.HeldFrames.{no_rows}
use Rattle.step_machine.proofs.Typing.{starts_typed}
use Rattle.step_machine.proofs.node.Node.new.Goals as goal

pub invariant_of-result-2 : goal.invariant_of-result-2
invariant_of-result-2 c =
    let same : c.in_ok-copy.field-0 ≡ c.args.setup.now = c.in_ok-copy.ensures in
    let program : c.machine.inside.code ≡ c.in_ok-machine.machine = c.machine.view_is
    ∙ c.in_ok-state.ensures.same in
    let kinds : IsOfState c.machine.inside.code c.in_ok-state.state =
    subst (λ (p : ProgramTree). IsOfState p c.in_ok-state.state)
    (sym program) c.in_ok-state.ensures.kinds in
    let a = algorithm_of c.in_ok-machine.machine c.args.setup.now in
    let begun : HasStateTypes a c.in_ok-state.state =
    subst (HasStateTypes a) (sym c.in_ok-state.ensures.state) (starts_typed a c.args.me) in
    let types : HasStateTypes (algorithm_of c.machine.inside.code c.in_ok-copy.field-0)
    c.in_ok-state.state =
    subst (λ (p : ProgramTree). HasStateTypes (algorithm_of p c.in_ok-copy.field-0)
    c.in_ok-state.state) (sym program)
    (subst (λ (s : Setup). HasStateTypes (algorithm_of c.in_ok-machine.machine s)
    c.in_ok-state.state) (sym same) begun) in
    let state : IsOwnState c.machine.inside.code c.in_ok-copy.field-0 c.in_ok-state.state =
    record { kinds = kinds; types = types } in
    let nodes : c.args.setup.now.nodes ≡ c.in_ok-copy.field-0.nodes =
    ap (λ (s : Setup). s.nodes) (sym same) in
    let none : c.in_ok-held.held.items ≡ replicate (suc ahead)
    (replicate c.in_ok-copy.field-0.nodes None) = c.in_ok-held.ensures
    ∙ ap (λ n. replicate (suc ahead) (replicate n None)) nodes in
    record {
      setup = subst IsSetup (sym same) c.requires.sized;
      me = omega (arith, c.requires.me, nodes);
      begun = omega arith;
      layout =
          c.in_ok-layout-2.ensures.ok ∙ c.in_ok-layout.ensures
          ∙ ap (λ (p : ProgramTree). format_of p c.args.setup.now.nodes)
          (sym (program ∙ c.in_ok-machine.ensures))
          ∙ ap (format_of c.machine.inside.code) nodes;
      held = subst (AreHeld _ _ _ _) (sym none) (no_rows _ _ _ _);
      state = state;
      next = subst (IsOwnState c.machine.inside.code c.in_ok-copy.field-0)
          (sym c.in_ok-next.ensures) state;
      origin = λ m is. absurd cc;
      spoken = λ m is. absurd cc;
    }
