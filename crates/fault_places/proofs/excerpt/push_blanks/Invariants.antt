-- What stands under the characters so far is written.
use Rattle.std.proofs.Common.{◌≡◌, ◌++◌}
use Rattle.std.specs.Prelude.{encode_utf8_all, map, string_bytes, take}
use Rattle.fault_places.specs.Excerpts.{blank_under}
use Rattle.fault_places.proofs.excerpt.push_blanks.Given as goal

abbrev pub invariant-loop-character : goal.invariant-loop-character
invariant-loop-character l =
    string_bytes l.out ≡ string_bytes l.initial.out
    ++ encode_utf8_all (map blank_under (take l.character-index l.characters))
