-- What bytes say, read at their places.
use Rattle.std.specs.Prelude.{◌≡◌, ◌≤◌, ℕ, zero, suc, ◌+◌, List, [], ◌∷◌, length, drop, slice_index}
use Rattle.std.specs.Prelude.{None, ◌==◌}
use Rattle.run_events.specs.Limits.{max_rounds}
use Rattle.byteorder.specs.Endian.{big_number}
use Rattle.round_lang.specs.declared.kind.Kind.{Kind}
use Rattle.round_lang.specs.declared.kind.Kind.TheVariants as kind
use Rattle.round_lang.specs.declared.value.Value.{Value}
use Rattle.round_lang.specs.declared.value.Value.TheVariants.{Num, Flag, Row}
use Rattle.round_lang.specs.Values.{of_set}
use Rattle.frame_format.specs.declared.frame.Frame.{Frame}
use Rattle.frame_format.specs.Formats.{Format, kinds_at, size, width}
use Rattle.frame_format.specs.Places.{version_at, from_at, to_at, round_at, copy_at, head_at}
use Rattle.frame_format.specs.Faults.{first_fault}
use Rattle.frame_format.specs.Spelling.{Spells}

-- n numbers of four bytes each
abbrev pub numbers : ℕ → List ℕ → List ℕ
numbers zero bytes = []
numbers (suc n) bytes = big_number 4 bytes ∷ numbers n (drop 4 bytes)

-- the field at the front
abbrev pub field_at : Kind → List ℕ → Value
field_at kind.Num bytes = Num (big_number 4 bytes)
field_at kind.Flag bytes = Flag (slice_index bytes 0 == 1)
field_at kind.Set bytes = of_set (big_number 8 bytes)
field_at (kind.Row n) bytes = Row (numbers n bytes)

-- fields of these kinds, one behind the other
abbrev pub fields_at : List Kind → List ℕ → List Value
fields_at [] bytes = []
fields_at (kind ∷ kinds) bytes = field_at kind bytes ∷ fields_at kinds (drop (width kind) bytes)

-- the frame that bytes with no fault say
unfoldable pub frame_at : Format → List ℕ → Frame
frame_at s bytes = record {
  from = from_at bytes;
  to = to_at bytes;
  round = round_at bytes;
  version = version_at bytes;
  copy = copy_at bytes;
  message = fields_at (kinds_at s (round_at bytes)) (drop (head_at bytes) bytes);
}

-- what a caller relies on where no fault stands
pub record IsFrame (s : Format) (bytes : List ℕ) : Type 0 where
  pub first : 1 ≤ round_at bytes
  pub last : round_at bytes ≤ max_rounds
  pub head : 12 ≤ head_at bytes
  pub all : length bytes ≡ head_at bytes + size (kinds_at s (round_at bytes))
  pub no_fault : first_fault s bytes ≡ None
  pub spelled : Spells s bytes (frame_at s bytes)

-- bytes that spell a frame are read as that frame
abbrev pub SpelledIsRead : Format → Type 0
SpelledIsRead s =
    (bytes : List ℕ) (f : Frame) → Spells s bytes f → IsFrame s bytes × (frame_at s bytes ≡ f)

-- the bytes have no fault, and the frame is what they are read as
pub record IsReadAs (s : Format) (bytes : List ℕ) (f : Frame) : Type 0 where
  pub no_fault : first_fault s bytes ≡ None
  pub frame_is : frame_at s bytes ≡ f
