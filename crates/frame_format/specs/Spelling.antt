-- Which bytes spell which frame.
use Rattle.std.specs.Prelude.{◌≡◌, ℕ, ◌<◌, ◌≤◌, ◌^◌, ⊤, Bool, true, false, List, [], ◌∷◌, ◌++◌}
use Rattle.std.specs.Prelude.{length}
use Rattle.std.specs.List.{flat_map, All}
use Rattle.run_events.specs.Limits.{max_copy, max_rounds}
use Rattle.byteorder.specs.Endian.{big_bytes}
use Rattle.round_lang.specs.declared.kind.Kind.{Kind}
use Rattle.round_lang.specs.declared.kind.Kind.TheVariants as kind
use Rattle.round_lang.specs.declared.value.Value.{Value}
use Rattle.round_lang.specs.declared.value.Value.TheVariants.{Num, Flag, Set, Row}
use Rattle.round_lang.specs.Words.{IsSmall}
use Rattle.frame_format.specs.declared.version.FrameVersion.{FrameVersion}
use Rattle.frame_format.specs.declared.version.FrameVersion.TheVariants.{V1, V2}
use Rattle.frame_format.specs.declared.frame.Frame.{Frame}
use Rattle.frame_format.specs.Formats.{Format, kinds_at}
use Rattle.frame_format.specs.Headers.{header}

-- a value of a kind, over the values below k: a set has members below k alone, and a row so many
-- numbers
abbrev pub IsOf : ℕ → Kind → Value → Type 0
IsOf k kind.Num (Num n) = ⊤
IsOf k kind.Flag (Flag b) = ⊤
IsOf k kind.Set (Set s) = s.bits < 2 ^ k
IsOf k (kind.Row n) (Row r) = length r ≡ n
IsOf k other v = ⊥

-- a value of its kind for each field
abbrev pub AreOf : ℕ → List Kind → List Value → Type 0
AreOf k [] [] = ⊤
AreOf k [] (v ∷ vs) = ⊥
AreOf k (kind ∷ kinds) [] = ⊥
AreOf k (kind ∷ kinds) (v ∷ vs) = IsOf k kind v × AreOf k kinds vs

-- the byte of a truth value
abbrev pub flag_byte : Bool → ℕ
flag_byte true = 1
flag_byte false = 0

-- the bytes of a field; the highest byte of a number goes first, and bit v of a set stands for the
-- member v
abbrev pub field : Value → List ℕ
field (Num n) = big_bytes 4 n
field (Flag b) = flag_byte b ∷ []
field (Set s) = big_bytes 8 s.bits
field (Row r) = flat_map (big_bytes 4) r

-- the copies that frames of a version may be: 0 to 3, and in version 1 copy 0 alone
abbrev pub IsCopy : FrameVersion → ℕ → Type 0
IsCopy V1 copy = copy ≡ 0
IsCopy V2 copy = copy ≤ max_copy

-- The bytes spell the frame: its nodes, round and copy are within their limits, its message is one
-- of the round's block, with numbers of 32 bits, and the bytes are the header and then each field.
pub record Spells (s : Format) (bytes : List ℕ) (f : Frame) : Type 0 where
  pub from : f.from < s.nodes
  pub to : f.to < s.nodes
  pub round : (1 ≤ f.round) × (f.round ≤ max_rounds)
  pub copy : IsCopy f.version f.copy
  pub message : AreOf s.values (kinds_at s f.round) f.message
  pub small : All IsSmall f.message
  pub bytes_are : bytes ≡ header s f.version f.from f.to f.round f.copy ++ flat_map field f.message

-- no bytes spell two frames, and no frame, which names its version, has two spellings
pub record OneSpelling (s : Format) : Type 0 where
  pub one_frame : (bytes : List ℕ) (f g : Frame) → Spells s bytes f → Spells s bytes g → f ≡ g
  pub one_text : (a b : List ℕ) (f : Frame) → Spells s a f → Spells s b f → a ≡ b
