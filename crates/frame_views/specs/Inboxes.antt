-- The frames that a node holds.
use Rattle.std.specs.Prelude.{ℕ, ◌+◌, ◌≤◌, ⊤, List, [], ◌∷◌, drop, length, Option, Some, None}
use Rattle.run_events.specs.Limits.{max_nodes}
use Rattle.frame_format.specs.declared.frame.Frame.{Frame}
use Rattle.frame_format.specs.Formats.{Format}
use Rattle.frame_format.specs.Reading.{frame_at, IsFrame}

-- each text that is held from place i on, with its sender's number and the frame that it spells
unfoldable pub inbox_from : Format → ℕ → List (Option (List ℕ)) → List (ℕ × Frame)
inbox_from s i [] = []
inbox_from s i (None ∷ held) = inbox_from s (i + 1) held
inbox_from s i ((Some bytes) ∷ held) = (i, frame_at s bytes) ∷ inbox_from s (i + 1) held

-- each text that is held spells a frame
abbrev pub AreFrames : Format → List (Option (List ℕ)) → Type 0
AreFrames s [] = ⊤
AreFrames s (None ∷ held) = AreFrames s held
AreFrames s ((Some bytes) ∷ held) = IsFrame s bytes × AreFrames s held

-- the places from the given one on are left
pub record IsInbox (s : Format) (at : ℕ) (held : List (Option (List ℕ))) : Type 0 where
  pub within : at ≤ length held
  pub few : length held ≤ max_nodes
  pub frames : AreFrames s (drop at held)
