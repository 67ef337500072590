-- Rounds that are kept while lines are read.
use Rattle.std.specs.Prelude.{◌≡◌, ℕ, ◌<◌, ◌≤◌, List, length, take, drop, get_or, bit_and}
use Rattle.std.specs.Int.{from_le_bytes, w64}
use Rattle.schedule_text.specs.Fronts.{IsNumberBefore}

-- each text whose first bytes are this word under the mask begins with this round and LF, which
-- have so many bytes
pub record KeepsRound (word mask round len : ℕ) : Type 0 where
  pub short : len ≤ 8
  pub same :
      (text : List ℕ) → 8 ≤ length text → ((i : ℕ) → get_or text i 0 < 256)
      → bit_and (from_le_bytes w64 (take 8 text)) mask ≡ word
      → IsNumberBefore text 10 round (drop len text)
