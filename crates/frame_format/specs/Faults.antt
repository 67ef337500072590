-- The faults of bytes that spell no frame, in their order.
use Rattle.std.specs.Prelude.{ℕ, ◌+◌, ◌-◌, ◌^◌, Bool, false, ◌&&◌, ◌||◌, not, List, [], ◌∷◌, length}
use Rattle.std.specs.Prelude.{drop, slice_index, Option, Some, None, nat_lt, ◌==◌, if◌then◌else◌}
use Rattle.run_events.specs.Limits.{max_copy, max_rounds}
use Rattle.byteorder.specs.Endian.{big_number}
use Rattle.round_lang.specs.declared.kind.Kind.{Kind}
use Rattle.round_lang.specs.declared.kind.Kind.TheVariants.{Num, Flag, Set, Row}
use Rattle.frame_format.specs.declared.fault.FrameFault.{FrameFault}
use Rattle.frame_format.specs.declared.fault.FrameFault.TheVariants.{Short, BadMark, BadVersion}
use Rattle.frame_format.specs.declared.fault.FrameFault.TheVariants.{BadNode, BadRound, BadPosition}
use Rattle.frame_format.specs.declared.fault.FrameFault.TheVariants.{BadCopy, BadLength, BadField}
use Rattle.frame_format.specs.Formats.{Format, kinds_at, position, size, width}
use Rattle.frame_format.specs.Places.{copy_at, from_at, head_at, round_at, to_at}

-- the field at the front is a truth value of another byte than 0 and 1, or a set with a bit from k
-- up
abbrev pub is_bad : ℕ → Kind → List ℕ → Bool
is_bad k Num bytes = false
is_bad k Flag bytes = nat_lt 1 (slice_index bytes 0)
is_bad k Set bytes = not (nat_lt (big_number 8 bytes) (2 ^ k))
is_bad k (Row n) bytes = false

-- the first bad field, where the one at the front has the number i
abbrev pub bad_field : ℕ → List Kind → List ℕ → ℕ → Option FrameFault
bad_field k [] bytes i = None
bad_field k (kind ∷ kinds) bytes i =
    if is_bad k kind bytes then Some (BadField i)
    else bad_field k kinds (drop (width kind) bytes) (i + 1)

-- the header says that there are so many fields of so many bytes, and so many bytes are behind it
abbrev pub has_length : ℕ → ℕ → List ℕ → Bool
has_length fields n bytes =
    (slice_index bytes 9 == fields)
    && ((big_number 2 (drop 10 bytes) == n) && (length bytes - head_at bytes == n))

-- the first fault of bytes whose header is right but for the length
unfoldable pub length_fault : Format → ℕ → List ℕ → Option FrameFault
length_fault s round bytes =
    if not (has_length (length (kinds_at s round)) (size (kinds_at s round)) bytes)
    then Some BadLength
    else bad_field s.values (kinds_at s round) (drop (head_at bytes) bytes) 0

-- the first fault of bytes whose beginning and nodes are right
unfoldable pub round_fault : Format → List ℕ → Option FrameFault
round_fault s bytes =
    if (round_at bytes == 0) || nat_lt max_rounds (round_at bytes) then Some BadRound
    else if not (slice_index bytes 8 == position s (round_at bytes)) then Some BadPosition
    else if nat_lt max_copy (copy_at bytes) then Some BadCopy
    else length_fault s (round_at bytes) bytes

-- the first fault: each stands where the bytes are as it says and none of those before it stands
unfoldable pub first_fault : Format → List ℕ → Option FrameFault
first_fault s bytes =
    if nat_lt (length bytes) (head_at bytes) then Some Short
    else if not (slice_index bytes 0 == 82) then Some BadMark
    else if not ((slice_index bytes 1 == 1) || (slice_index bytes 1 == 2)) then Some BadVersion
    else if not (nat_lt (from_at bytes) s.nodes && nat_lt (to_at bytes) s.nodes) then Some BadNode
    else round_fault s bytes
