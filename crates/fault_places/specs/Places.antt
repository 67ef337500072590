-- The lines and columns of a text, as an editor counts them.
use Rattle.std.specs.Prelude.{ℕ, ◌+◌, ◌==◌, ◌&&◌, Bool, List, [], count_by, nat_le, nat_lt, not}
use Rattle.std.specs.Prelude.{slice_get, take, unwrap_or}
use Rattle.std.specs.List.{after_last}
use Rattle.std.specs.Str.Lines.{lines}

-- a newline, which ends a line
abbrev pub is_newline : ℕ → Bool
is_newline byte = byte == 10

-- in UTF-8 a character begins with each byte but 128 to 191
abbrev pub begins_character : ℕ → Bool
begins_character byte = not (nat_le 128 byte && nat_lt byte 192)

-- how many lines end before the offset
abbrev pub lines_before : (text : List ℕ) (offset : ℕ) → ℕ
lines_before text offset = count_by is_newline (take offset text)

-- what stands before the offset on its line
abbrev pub line_before : (text : List ℕ) (offset : ℕ) → List ℕ
line_before text offset = after_last is_newline (take offset text)

-- the line of an offset, counted from 1
abbrev pub line_of : (text : List ℕ) (offset : ℕ) → ℕ
line_of text offset = 1 + lines_before text offset

-- the column of an offset, counted from 1: a column is a character
abbrev pub column_of : (text : List ℕ) (offset : ℕ) → ℕ
column_of text offset = 1 + count_by begins_character (line_before text offset)

-- the line of an offset without its end; nothing behind the end of a last line that has one
abbrev pub line_text : (text : List ℕ) (offset : ℕ) → List ℕ
line_text text offset = unwrap_or (slice_get (lines text) (lines_before text offset)) []
