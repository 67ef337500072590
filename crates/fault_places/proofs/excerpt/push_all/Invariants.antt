-- The characters so far are written.
use Rattle.std.proofs.Common.{◌≡◌, ◌++◌}
use Rattle.std.specs.Prelude.{encode_utf8_all, string_bytes, take}
use Rattle.fault_places.proofs.excerpt.push_all.Given as goal

abbrev pub invariant-loop-character : goal.invariant-loop-character
invariant-loop-character l =
    string_bytes l.out
    ≡ string_bytes l.initial.out ++ encode_utf8_all (take l.character-index l.characters)
