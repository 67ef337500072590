-- The places of a frame, and what is written there.
use Rattle.std.specs.Prelude.{◌≡◌, ℕ, ◌+◌, ◌-◌, ◌*◌, ◌<◌, ◌≤◌, List, ◌++◌, drop, length}
use Rattle.std.specs.Prelude.{slice_index_or, slice_range, slice_set, take}
use Rattle.byteorder.specs.Endian.{big_bytes}
use Rattle.round_lang.specs.declared.kind.Kind.{Kind}
use Rattle.round_lang.specs.declared.kind.Kind.TheVariants.{Num}
use Rattle.round_lang.specs.declared.value.Value.{Value}
use Rattle.frame_format.specs.declared.frame.Frame.{Frame}
use Rattle.frame_format.specs.declared.version.FrameVersion.TheVariants.{V2}
use Rattle.frame_format.specs.Formats.{Format, IsBlock, kinds_at, size, width}
use Rattle.frame_format.specs.Spelling.{Spells}

-- the bytes of a row, with another number as the entry of v
abbrev pub with_entry : List ℕ → ℕ → ℕ → List ℕ
with_entry old v n = take (4 * v) old ++ (big_bytes 4 n ++ drop (4 * v + 4) old)

-- the place of the first field, which has its width, and the places of the others behind it
pub record IsSplit (kinds : List Kind) (bytes first : List ℕ) (others : List Kind)
    (rest : List ℕ) : Type 0 where
  pub some : 0 < length kinds
  pub width_is : length first ≡ width (slice_index_or kinds 0 Num)
  pub bytes_are : first ++ rest ≡ bytes
  pub others_are : others ≡ drop 1 kinds
  pub block : IsBlock others
  pub room : size others ≤ length rest

-- how many bytes a frame of version 2 has in a round
abbrev pub frame_size : Format → ℕ → ℕ
frame_size s round = 13 + size (kinds_at s round)

-- the bytes of the frame at a place, if frames of n bytes each lie one behind the other
abbrev pub nth_frame : ℕ → List ℕ → ℕ → List ℕ
nth_frame n bytes place = slice_range bytes (place * n) (place * n + n)

-- a frame's bytes, to another receiver
abbrev pub addressed : List ℕ → ℕ → List ℕ
addressed bytes to = slice_set bytes 3 to

-- the bytes are a frame's to each of so many nodes from the first on, one behind the other
pub record AreAddressed (nodes : ℕ) (frame : List ℕ) (first : ℕ) (bytes : List ℕ) : Type 0 where
  pub long : length bytes ≡ (nodes - first) * length frame
  pub each : (place : ℕ) → first + place < nodes
      → nth_frame (length frame) bytes place ≡ addressed frame (first + place)

-- a message's copy 0, as a frame of version 2
abbrev pub first_copy : ℕ → ℕ → ℕ → List Value → Frame
first_copy from to round message = record {
  from = from;
  to = to;
  round = round;
  version = V2;
  copy = 0;
  message = message;
}

-- the bytes are frames of the message to each node from the first on, one behind the other
pub record AreToAll (s : Format) (from round : ℕ) (message : List Value) (first : ℕ)
    (bytes : List ℕ) : Type 0 where
  pub long : length bytes ≡ (s.nodes - first) * frame_size s round
  pub each : (place : ℕ) → first + place < s.nodes
      → Spells s (nth_frame (frame_size s round) bytes place)
      (first_copy from (first + place) round message)
