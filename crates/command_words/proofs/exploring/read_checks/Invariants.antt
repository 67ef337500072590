use Rattle.std.proofs.Common.{length}
use Rattle.std.specs.List.{slice_split}
use Rattle.command_words.specs.Values.{is_comma}
use Rattle.command_words.proofs.CheckLemmas.{AreMarkedTo}
use Rattle.command_words.proofs.exploring.read_checks.Given as goal

abbrev pub invariant-loop-name : goal.invariant-loop-name
invariant-loop-name l =
    AreMarkedTo (slice_split is_comma l.text) (length l.yielded) l.checks
