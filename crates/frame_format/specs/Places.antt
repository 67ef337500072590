-- Where the parts of a header stand.
use Rattle.std.specs.Prelude.{ℕ, List, drop, slice_index, ◌==◌, if◌then◌else◌}
use Rattle.byteorder.specs.Endian.{big_number}
use Rattle.frame_format.specs.declared.version.FrameVersion.{FrameVersion}
use Rattle.frame_format.specs.declared.version.FrameVersion.TheVariants.{V1, V2}
use Rattle.frame_format.specs.Headers.{header_size}

-- the sender that a header names
abbrev pub from_at : List ℕ → ℕ
from_at bytes = slice_index bytes 2

-- the receiver that a header names
abbrev pub to_at : List ℕ → ℕ
to_at bytes = slice_index bytes 3

-- the round that a header names
abbrev pub round_at : List ℕ → ℕ
round_at bytes = big_number 4 (drop 4 bytes)

-- any byte but 2 counts as version 1 here
abbrev pub version_at : List ℕ → FrameVersion
version_at bytes = if slice_index bytes 1 == 2 then V2 else V1

-- how many bytes the header takes
abbrev pub head_at : List ℕ → ℕ
head_at bytes = header_size (version_at bytes)

abbrev pub copy_in : FrameVersion → List ℕ → ℕ
copy_in V1 bytes = 0
copy_in V2 bytes = slice_index bytes 12

-- the copy, 0 in version 1
abbrev pub copy_at : List ℕ → ℕ
copy_at bytes = copy_in (version_at bytes) bytes
