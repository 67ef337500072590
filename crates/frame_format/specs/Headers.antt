-- The bytes that a frame begins with.
use Rattle.std.specs.Prelude.{ℕ, List, [], ◌∷◌, ◌++◌, length}
use Rattle.byteorder.specs.Endian.{big_bytes}
use Rattle.frame_format.specs.declared.version.FrameVersion.{FrameVersion}
use Rattle.frame_format.specs.declared.version.FrameVersion.TheVariants.{V1, V2}
use Rattle.frame_format.specs.Formats.{Format, kinds_at, position, size}

-- the byte that names a version
abbrev pub version_byte : FrameVersion → ℕ
version_byte V1 = 1
version_byte V2 = 2

-- how many bytes a header takes
abbrev pub header_size : FrameVersion → ℕ
header_size V1 = 12
header_size V2 = 13

-- version 2 alone says which copy of a message a frame is
abbrev pub copy_bytes : FrameVersion → ℕ → List ℕ
copy_bytes V1 copy = []
copy_bytes V2 copy = copy ∷ []

-- how many fields there are, and how many bytes they take
abbrev pub length_bytes : Format → ℕ → List ℕ
length_bytes s round = length (kinds_at s round) ∷ big_bytes 2 (size (kinds_at s round))

-- the mark, the version, the sender and the receiver, the round and its position in the period, the
-- number of fields and their length in bytes, and the copy
abbrev pub header : Format → FrameVersion → ℕ → ℕ → ℕ → ℕ → List ℕ
header s v from to round copy =
    (82 ∷ version_byte v ∷ from ∷ to ∷ [])
    ++ (big_bytes 4 round ++ (position s round ∷ (length_bytes s round ++ copy_bytes v copy)))
