-- A seat and its node, step by step.
use Rattle.std.specs.Prelude.{replicate}
use Rattle.std.proofs.Common.{
  ◌≡◌,
  ℕ,
  suc,
  None,
  refl,
  ◌+◌,
  ◌<◌,
  List,
  [],
  ◌∷◌,
  ◌++◌,
  length,
  ap,
  subst,
  sym,
}
use Rattle.std.proofs.Common.{◌∙◌, arith, length-append}
use Rattle.round_lang.specs.declared.value.Value.{Value}
use Rattle.round_lang.specs.Syntax.{ProgramTree}
use Rattle.round_meaning.specs.declared.setup.Setup.{Setup}
use Rattle.round_meaning.specs.Rounds.{algorithm_of}
use Rattle.locked_buffers.specs.Runs.{Run}
use Rattle.locked_buffers.specs.Seats.{Account, round_by}
use Rattle.step_machine.proofs.HeldFrames.{no_rows}
use Rattle.step_machine.specs.Nodes.{HasPlaces, HasSettled, IsSameTurn, NodeView, ahead}
use Rattle.step_book.specs.Taking.{HasTaken}
use Rattle.step_machine.specs.Sealed.{Frame}
use Rattle.node_threads.specs.Bodies.{IsTogether}

-- after a send
pub together_sent : {P : Type 0} (r : Run P) (a b : Account) (n m : NodeView) → IsTogether r a n
    → b ≡ record a { steps = a.steps + 1 } → m ≡ n → IsTogether r b m
together_sent r a b n m h e f =
    let P : Account → Type 0 = λ x. IsTogether r x m in
    let Q : NodeView → Type 0 = λ x. IsTogether r (record a { steps = a.steps + 1 }) x in
    subst P (sym e) (subst Q (sym f) (record {
      program = h.program;
      setup = h.setup;
      me = h.me;
      within = h.within;
      round = h.round;
      places = h.places;
    }))

-- after a receive
pub together_received : {P : Type 0} (r : Run P) (a b : Account) (n m : NodeView) (fs : List Frame)
    → IsTogether r a n → b.node ≡ a.node → b.states ≡ a.states → HasTaken n m fs → IsTogether r b m
together_received r a b n m fs h e f t = record {
  program = t.same.program ∙ h.program;
  setup = t.same.setup ∙ h.setup;
  me = t.same.me ∙ h.me ∙ sym e;
  within = subst (λ i. i < r.setup.nodes) (sym e) h.within;
  round = t.same.round ∙ h.round ∙ ap length (sym f);
  places = t.places r.setup.nodes h.places;
}

-- after the end of the round
pub together_closed : {P : Type 0} (r : Run P) (a b : Account) (n m o : NodeView) (s : List Value)
    → IsTogether r a n → b ≡ record a { states = a.states ++ s ∷ [] } → IsSameTurn n m
    → HasSettled m o → IsTogether r b o
together_closed r a b n m o s h e t g =
    let P : Account → Type 0 = λ x. IsTogether r x o in
    subst P (sym e) (record {
      program = g.program ∙ t.program ∙ h.program;
      setup = g.setup ∙ t.setup ∙ h.setup;
      me = g.me ∙ t.me ∙ h.me;
      within = h.within;
      round = omega (arith, g.round, t.round, h.round, length-append a.states (s ∷ []));
      places = g.places r.setup.nodes (subst (HasPlaces r.setup.nodes) (sym t.held) h.places);
    })

-- before the first step
pub together_first : {P : Type 0} (r : Run P) (p : P) (t : ProgramTree) (s : Setup) (me : ℕ)
    (a : Account) (n : NodeView) → r ≡ record { plan = p; program = t; setup = s }
    → n ≡ record {
      program = t;
      setup = s;
      me = me;
      round = 1;
      state = (algorithm_of t s).init me;
      held = replicate (suc ahead) (replicate s.nodes None);
      next = None;
    }
    → me ≡ a.node → me < s.nodes → round_by a ≡ 1 → IsTogether r a n
together_first {P} r p t s me a n is e own l one =
    let R : Run P = record { plan = p; program = t; setup = s } in
    let A : Run P → Type 0 = λ x. IsTogether x a n in
    let B : NodeView → Type 0 = λ x. IsTogether R a x in
    subst A (sym is) (subst B (sym e) (record {
      program = refl;
      setup = refl;
      me = own;
      within = subst (λ i. i < s.nodes) own l;
      round = sym one;
      places = (no_rows (algorithm_of t s) s.nodes me 1).places;
    }))
