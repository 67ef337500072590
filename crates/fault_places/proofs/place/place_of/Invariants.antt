-- What stands before the byte ends so many lines, and so many characters begin behind the last.
use Rattle.std.proofs.Common.{◌≡◌, ◌+◌}
use Rattle.std.specs.Prelude.{count_by, take}
use Rattle.std.specs.List.{after_last}
use Rattle.fault_places.specs.Places.{is_newline, begins_character}
use Rattle.fault_places.proofs.place.place_of.Given as goal

abbrev pub invariant-loop-byte : goal.invariant-loop-byte
invariant-loop-byte l =
    (l.place.line ≡ 1 + count_by is_newline (take l.byte-index l.before))
    × (l.place.column
    ≡ 1 + count_by begins_character (after_last is_newline (take l.byte-index l.before)))
