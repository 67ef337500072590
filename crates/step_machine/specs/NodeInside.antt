-- The fields of a node.
use Rattle.std.specs.Prelude.{◌≡◌, ℕ, ◌<◌, ◌≤◌, List, Option, Some, None, if◌then◌else◌}
use Rattle.std.specs.Arc.{arc_value}
use Rattle.std.specs.Option.{ForSome}
use Rattle.round_lang.specs.declared.value.Value.{Value}
use Rattle.round_lang.specs.Syntax.{ProgramTree}
use Rattle.round_meaning.specs.declared.setup.Setup.{Setup}
use Rattle.round_meaning.specs.Rounds.{algorithm_of}
use Rattle.round_meaning.specs.Setups.{IsSetup}
use Rattle.frame_format.specs.Formats.{Format, format_of}
use Rattle.step_code.specs.Turns.{IsOfState}
use Rattle.step_machine.specs.declared.node.Node.TheInside.{Inside}
use Rattle.step_machine.specs.declared.origin.Origin.{Origin}
use Rattle.step_machine.specs.declared.spoken.Spoken.{Spoken}
use Rattle.step_machine.specs.Saying.{AreSpoken, origin_of}
use Rattle.step_machine.specs.Sealed.{HasStateTypes}
use Rattle.step_machine.specs.Nodes.{AreHeld, NodeView, algorithm_in}

-- the node that its fields make
abbrev pub node_seen : Inside → NodeView
node_seen s = record {
  program = s.machine;
  setup = s.setup;
  me = s.me;
  round = s.round;
  state = s.state;
  held = s.held.items;
  next = if s.has_ended then Some s.next else None;
}

-- the state that messages come from, and the layout of the frames that they're written as
pub record IsOrigin (state : List Value) (s : Format) (o : Origin) : Type 0 where
  pub state_is : o.state ≡ state
  pub layout_is : arc_value o.layout ≡ s

-- a state of the program: its code reads its kinds, and it has the types of the algorithm's states
pub record IsOwnState (p : ProgramTree) (s : Setup) (vs : List Value) : Type 0 where
  pub kinds : IsOfState p vs
  pub types : HasStateTypes (algorithm_of p s) vs

-- what is spoken is what node i in a state sends to every node
pub record IsToldToAll (p : ProgramTree) (s : Setup) (i round : ℕ) (state : List Value)
    (a : Spoken) : Type 0 where
  pub message : Option (List Value)
  pub told : (dest : ℕ) → (algorithm_of p s).send round state i dest ≡ message
  pub origin : IsOrigin state (format_of p s.nodes) (origin_of a)
  pub spoken : AreSpoken i round message a

-- the node is one of its setup's, its state and the room of the next one are states of its program,
-- the frames that it holds are of its round and those after it, what it keeps as the origin of its
-- messages has a copy of its state, and what it keeps as said to all is what it sends to each
pub record IsKept (s : Inside) : Type 0 where
  pub setup : IsSetup s.setup
  pub me : s.me < s.setup.nodes
  pub begun : 1 ≤ s.round
  pub layout : arc_value s.layout ≡ format_of s.machine s.setup.nodes
  pub state : IsOwnState s.machine s.setup s.state
  pub next : IsOwnState s.machine s.setup s.next
  pub held : AreHeld (algorithm_in (node_seen s)) s.setup.nodes s.me s.round s.held.items
  pub origin : ForSome s.origin (λ o. IsOrigin s.state (format_of s.machine s.setup.nodes)
      (arc_value o))
  pub spoken : ForSome s.spoken (IsToldToAll s.machine s.setup s.me s.round s.state)
