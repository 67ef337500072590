-- What is kept at a place for a message on its way.
use Rattle.std.specs.Prelude.{⊤, Option, Some, None}
use Rattle.std.specs.Arc.{arc_value}
use Rattle.step_machine.specs.Sealed.{Frame}
use Rattle.step_machine.specs.Saying.{frame_from, IsFrameFrom}
use Rattle.step_machine.specs.declared.frame_place.Kept.{Kept}
use Rattle.step_machine.specs.declared.frame_place.Kept.TheVariants as kept

-- the message that lies there, if there is one
abbrev pub kept_as : Kept → Option Frame
kept_as kept.Nothing = None
kept_as (kept.Frame first said) = Some (frame_from (arc_value said) first)

-- what lies there is a whole frame
abbrev pub IsKeeping : Kept → Type 0
IsKeeping kept.Nothing = ⊤
IsKeeping (kept.Frame first said) = IsFrameFrom (arc_value said) first
