-- A node that takes frames.
use Rattle.std.specs.Prelude.{◌≡◌, ℕ, ◌+◌, ◌≤◌, ◌&&◌, ◌==◌, if◌then◌else◌, List, [], ◌∷◌, Option}
use Rattle.std.specs.Prelude.{Some, None}
use Rattle.step_machine.specs.Sealed.{Frame, held_at}
use Rattle.step_machine.specs.Nodes.{HasPlaces, NodeView, ahead, held_of}

-- all but the frames held and the next state is as it was
pub record IsSameBut (old new : NodeView) : Type 0 where
  pub program : new.program ≡ old.program
  pub setup : new.setup ≡ old.setup
  pub me : new.me ≡ old.me
  pub round : new.round ≡ old.round
  pub state : new.state ≡ old.state

-- the first of the frames that is of this round and from this sender
abbrev pub frame_from : ℕ → ℕ → List Frame → Option Frame
frame_from r j [] = None
frame_from r j (f ∷ fs) =
    if f.name.round == r && f.name.from == j then Some f else frame_from r j fs

-- the frame that is held, else the one that comes
abbrev pub held_or : Option Frame → Option Frame → Option Frame
held_or None f = f
held_or (Some h) f = Some h

-- the node holds what it held, and of each other sender the first frame of each round that it keeps
pub record HasTaken (old new : NodeView) (frames : List Frame) : Type 0 where
  pub same : IsSameBut old new
  pub places : (n : ℕ) → HasPlaces n old.held → HasPlaces n new.held
  pub held : (k j : ℕ) → k ≤ ahead
      → held_at (held_of new k) j
      ≡ held_or (held_at (held_of old k) j) (frame_from (old.round + k) j frames)
