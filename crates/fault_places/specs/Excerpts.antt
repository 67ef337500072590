-- A line of a text, and `^` under a part of it.
use Rattle.std.specs.Prelude.{ℕ, ◌+◌, ◌-◌, ◌++◌, ◌==◌, List, [], codes, count_by, drop}
use Rattle.std.specs.Prelude.{encode_utf8_all, if◌then◌else◌, length, map, max, min, replicate}
use Rattle.std.specs.Prelude.{take}
use Rattle.std.specs.Str.{chars}
use Rattle.round_lang.specs.declared.fault.Span.{Span}
use Rattle.fault_places.specs.Places.{begins_character, line_before, line_text}

-- how many characters of a line are shown at most
abbrev pub max_shown : ℕ
max_shown = 160

-- the characters of the line on which the part begins
abbrev pub line_characters : (text : List ℕ) → Span → List ℕ
line_characters text span = chars (line_text text span.first)

-- how many characters of that line stand before the part
abbrev pub characters_before : (text : List ℕ) → Span → ℕ
characters_before text span =
    min (count_by begins_character (line_before text span.first))
    (length (line_characters text span))

-- how many characters the part has
abbrev pub characters_in : (text : List ℕ) → Span → ℕ
characters_in text span =
    count_by begins_character (drop span.first (take span.after text))

-- how many characters of a line are left out at its beginning, if so many stand before the part:
-- none of a line that is short enough; else the part is in the middle, or the line's end is shown
abbrev pub left_out : (line : List ℕ) (first : ℕ) → ℕ
left_out line first = min (first - 80) (length line - max_shown)

-- `..` stands for characters that are left out
abbrev pub cut_mark : (left_out : ℕ) → List ℕ
cut_mark count = if count == 0 then [] else codes ".."

-- what stands under that
abbrev pub cut_blank : (left_out : ℕ) → List ℕ
cut_blank count = if count == 0 then [] else codes "  "

-- what is shown of a line, in which so many characters stand before the part
unfoldable pub shown_line : (line : List ℕ) (first : ℕ) → List ℕ
shown_line line first =
    cut_mark (left_out line first)
    ++ encode_utf8_all (take max_shown (drop (left_out line first) line))
    ++ cut_mark (length line - (left_out line first + max_shown))

-- under a character that isn't marked: a tab under a tab, else a blank
abbrev pub blank_under : ℕ → ℕ
blank_under character = if character == 9 then 9 else 32

-- the shown characters before the part
abbrev pub unmarked : (line : List ℕ) (first : ℕ) → List ℕ
unmarked line first = take (first - left_out line first) (drop (left_out line first) line)

-- how many characters are marked: those of the part that are shown, and one at least
abbrev pub marked : (line : List ℕ) (first count : ℕ) → ℕ
marked line first count =
    max 1 (min count (min (length line) (left_out line first + max_shown) - first))

-- `^` under the part of a line that begins behind so many characters and has so many
unfoldable pub shown_carets : (line : List ℕ) (first count : ℕ) → List ℕ
shown_carets line first count =
    cut_blank (left_out line first)
    ++ encode_utf8_all (map blank_under (unmarked line first))
    ++ replicate (marked line first count) 94
