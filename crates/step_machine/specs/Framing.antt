-- Messages as the bytes of frames.
use Rattle.std.specs.Prelude.{◌≡◌, ℕ, List}
use Rattle.round_lang.specs.declared.value.Value.{Value}
use Rattle.frame_format.specs.declared.frame.Frame.{Frame as Written}
use Rattle.frame_format.specs.declared.version.FrameVersion.TheVariants.{V2}
use Rattle.frame_format.specs.Formats.{Format}
use Rattle.frame_format.specs.Reading.{IsFrame, frame_at}
use Rattle.frame_format.specs.Spelling.{Spells}
use Rattle.run_events.specs.declared.name.Name.{Name}
use Rattle.step_machine.specs.Sealed.{Frame}

-- a message under its name, as it is written: in version 2
abbrev pub written_as : Name → List Value → Written
written_as n message = record {
  from = n.from;
  to = n.to;
  round = n.round;
  version = V2;
  copy = n.copy;
  message = message;
}

-- the message as the frame's bytes have it, which say nothing of its sender's state
abbrev pub wire : Frame → Written
wire f = written_as f.name f.message

-- the bytes spell the frame in its format
abbrev pub IsSpelling : Frame → List ℕ → Type 0
IsSpelling f bytes = Spells f.format bytes (wire f)

-- the name that a frame's header says
abbrev pub name_in : Written → Name
name_in w = record { from = w.from; to = w.to; round = w.round; copy = w.copy }

-- the message that bytes spell, under its name, with its sender's state
abbrev pub frame_in : Format → List Value → List ℕ → Frame
frame_in s state bytes = record {
  format = s;
  name = name_in (frame_at s bytes);
  state = state;
  message = (frame_at s bytes).message;
}

-- the bytes spell a frame of version 2
pub record IsSealed (s : Format) (bytes : List ℕ) : Type 0 where
  pub frame : IsFrame s bytes
  pub second : (frame_at s bytes).version ≡ V2
