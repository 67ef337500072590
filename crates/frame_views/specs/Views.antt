-- What a view of a frame holds.
use Rattle.std.specs.Prelude.{◌≡◌, ℕ, ◌+◌, ◌≤◌, List, length, drop, Option, Some, None}
use Rattle.std.specs.Borrow.{Bor}
use Rattle.round_lang.specs.declared.kind.Kind.{Kind}
use Rattle.round_lang.specs.declared.value.Value.{Value}
use Rattle.round_lang.specs.declared.value.Value.TheVariants.{Num}
use Rattle.frame_format.specs.declared.frame.Frame.{Frame}
use Rattle.frame_format.specs.Formats.{IsBlock, size}
use Rattle.frame_format.specs.Places.{copy_at, from_at, head_at, round_at, to_at, version_at}
use Rattle.frame_format.specs.Reading.{field_at, fields_at}

-- the frame whose message has fields of these kinds
abbrev pub seen_as : List ℕ → List Kind → Frame
seen_as bytes kinds = record {
  from = from_at bytes;
  to = to_at bytes;
  round = round_at bytes;
  version = version_at bytes;
  copy = copy_at bytes;
  message = fields_at kinds (drop (head_at bytes) bytes);
}

-- the bytes are a header and fields of these kinds
pub record IsSeen (bytes : List ℕ) (kinds : List Kind) (count : ℕ) : Type 0 where
  pub head : 12 ≤ head_at bytes
  pub all : length bytes ≡ head_at bytes + size kinds
  pub block : IsBlock kinds
  pub few : count ≤ 8
  pub count_is : length kinds ≡ count

-- the bytes begin with fields of these kinds
pub record HasFields (kinds : List Kind) (bytes : List ℕ) : Type 0 where
  pub block : IsBlock kinds
  pub room : size kinds ≤ length bytes

-- what is read at a place that was found, the number 0 if none was
abbrev pub spot_value : Option (Kind × Bor (List ℕ)) → Value
spot_value None = Num 0
spot_value (Some spot) = field_at spot.0 spot.1.now
