use Rattle.std.proofs.Common.{◌≡◌, ◌+◌, [], get_or, refl, sym, ◌∙◌, subst, arith}
use Rattle.std.specs.Arc.{arc_value}
use Rattle.std.specs.Option.{ForSome}
use Rattle.std.proofs.lemmas.List.{get_or_read_under}
use Rattle.round_lang.specs.Syntax.{ProgramTree}
use Rattle.round_meaning.specs.Rounds.{algorithm_of}
use Rattle.round_meaning.specs.Typed.{IsInboxOf}
use Rattle.frame_format.specs.Formats.{format_of}
use Rattle.step_machine.specs.Nodes.{AreHeld, IsHeld, inbox_of}
use Rattle.step_machine.specs.NodeInside.{IsOrigin, IsOwnState, IsToldToAll}
use Rattle.step_machine.specs.Reading.{AreOfRound}
use Rattle.step_machine.specs.Sealed.{HasStateTypes, HeldRow, KeepsTypes}
use Rattle.step_machine.proofs.HeldFrames.{are_of_round, held_typed}
use Rattle.step_machine.proofs.Typing.{ends_typed}
use Rattle.step_machine.proofs.node.Node.end_round.Goals as goal

pub end-requires-clause-held : goal.end-requires-clause-held
end-requires-clause-held c =
    let s = c.self.inside in
    let was = c.self.invariant.held in
    let first : c.index.result.now ≡ get_or s.held.items 0 [] =
    get_or_read_under s.held.items 0 _ _ _ c.index.ensures
    (omega (arith, was.places.rows)) refl in
    let keeps : KeepsTypes s.machine = subst KeepsTypes c.program.ensures c.keeps_types.ensures in
    let now : s.round + 0 ≡ s.round = omega arith in
    let held = subst (λ r. IsHeld (algorithm_of s.machine s.setup) s.setup.nodes s.me r
    (get_or s.held.items 0 [])) now (was.each 0 (omega arith)) in
    subst (AreOfRound s.machine s.round) (sym (c.frames.ensures ∙ first))
    (are_of_round (algorithm_of s.machine s.setup) s.setup.nodes s.me s.round
    (get_or s.held.items 0 []) (was.places.sized 0 (omega arith)) held s.machine s.setup keeps
    refl)

pub invariant_of-self : goal.invariant_of-self
invariant_of-self c =
    let s = c.self.inside in
    let kept = c.self.invariant in
    let a = algorithm_of s.machine s.setup in
    let first : c.index.result.now ≡ get_or s.held.items 0 [] =
    get_or_read_under s.held.items 0 _ _ _ c.index.ensures
    (omega (arith, kept.held.places.rows)) refl in
    let now : s.round + 0 ≡ s.round = omega arith in
    let held = subst (λ r. IsHeld a s.setup.nodes s.me r (get_or s.held.items 0 [])) now
    (kept.held.each 0 (omega arith)) in
    let types : HasStateTypes a c.end.new.next =
    subst (HasStateTypes a) (sym c.end.ensures.state)
    (ends_typed a s.round s.me (inbox_of c.frames.result.now) s.state kept.state.types
    (λ p t keeps same. subst (λ (h : HeldRow). IsInboxOf p s.round (inbox_of h))
    (sym (c.frames.ensures ∙ first))
    (held_typed a s.setup.nodes s.me s.round (get_or s.held.items 0 [])
    (kept.held.places.sized 0 (omega arith)) held p t keeps same))) in
    let same : s.machine ≡ c.end.new.self = sym c.end.ensures.same in
    record {
      setup = kept.setup;
      me = kept.me;
      begun = kept.begun;
      layout = subst (λ (p : ProgramTree). arc_value s.layout ≡ format_of p s.setup.nodes) same
          kept.layout;
      state = subst (λ (p : ProgramTree). IsOwnState p s.setup s.state) same kept.state;
      next = subst (λ (p : ProgramTree). IsOwnState p s.setup c.end.new.next) same
          (record { kinds = c.end.ensures.kinds; types = types });
      held = subst (λ (p : ProgramTree). AreHeld (algorithm_of p s.setup) s.setup.nodes s.me s.round
          s.held.items) same kept.held;
      origin = subst (λ (p : ProgramTree). ForSome s.origin
          (λ o. IsOrigin s.state (format_of p s.setup.nodes) (arc_value o))) same kept.origin;
      spoken = subst (λ (p : ProgramTree). ForSome s.spoken
          (IsToldToAll p s.setup s.me s.round s.state)) same kept.spoken;
    }
