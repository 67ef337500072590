-- What nodes say in a round: frames in one piece of memory, and the place of each.
use Rattle.std.specs.Prelude.{◌≡◌, ℕ, ◌+◌, ◌≤◌, List, Option, Some, None, length, slice_range}
use Rattle.std.specs.Arc.{arc_value}
use Rattle.round_lang.specs.declared.value.Value.{Value}
use Rattle.frame_format.specs.Formats.{Format}
use Rattle.frame_views.specs.Writing.{AreToAll, frame_size}
use Rattle.step_machine.specs.declared.origin.Origin.{Origin}
use Rattle.step_machine.specs.declared.said.Said.{Said}
use Rattle.step_machine.specs.declared.spoken.Spoken.{Spoken}
use Rattle.step_machine.specs.declared.spoken.Spoken.TheVariants.{Frames, Silence}
use Rattle.step_machine.specs.Sealed.{Frame}
use Rattle.step_machine.specs.Framing.{IsSealed, frame_in}

-- the layout of the frames that say something of a state
abbrev pub layout_in : Origin → Format
layout_in o = arc_value o.layout

-- the bytes of the frame from a place on
abbrev pub bytes_from : Said → ℕ → List ℕ
bytes_from d first = slice_range d.frames.items first (first + d.size)

-- the message that the bytes from a place on spell, under its name, with its sender's state
abbrev pub frame_from : Said → ℕ → Frame
frame_from d first =
    frame_in (layout_in (arc_value d.origin)) (arc_value d.origin).state (bytes_from d first)

-- a whole frame of version 2 lies from a place on
pub record IsFrameFrom (d : Said) (first : ℕ) : Type 0 where
  pub within : first + d.size ≤ length d.frames.items
  pub sealed : IsSealed (layout_in (arc_value d.origin)) (bytes_from d first)

-- there is a message, and the frames are its frames to each node, in rising order of receiver
pub record IsToAll (from round : ℕ) (message : Option (List Value)) (d : Said) : Type 0 where
  pub said : List Value
  pub message_is : message ≡ Some said
  pub size_is : d.size ≡ frame_size (layout_in (arc_value d.origin)) round
  pub frames_are : AreToAll (layout_in (arc_value d.origin)) from round said 0 d.frames.items

-- where what a node says to all comes from
abbrev pub origin_of : Spoken → Origin
origin_of (Frames d) = arc_value (arc_value d).origin
origin_of (Silence o) = arc_value o

-- what a node says to all in a round is a message, or silence
abbrev pub AreSpoken : ℕ → ℕ → Option (List Value) → Spoken → Type 0
AreSpoken from round message (Frames d) = IsToAll from round message (arc_value d)
AreSpoken from round message (Silence o) = message ≡ None
