-- So many are written.
use Rattle.std.proofs.Common.{◌≡◌, ◌++◌}
use Rattle.std.specs.Prelude.{replicate, string_bytes}
use Rattle.fault_places.proofs.excerpt.push_carets.Given as goal

abbrev pub invariant-loop-caret : goal.invariant-loop-caret
invariant-loop-caret l =
    string_bytes l.out ≡ string_bytes l.initial.out ++ replicate l._caret 94
