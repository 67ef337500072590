use Rattle.std.proofs.Common.{length}
use Rattle.std.specs.List.{slice_split}
use Rattle.command_words.specs.Values.{is_comma}
use Rattle.command_words.proofs.ListLemmas.{IsReadTo}
use Rattle.command_words.proofs.values.read_list.Given as goal

abbrev pub invariant-loop-part : goal.invariant-loop-part
invariant-loop-part l = IsReadTo (slice_split is_comma l.text) (length l.yielded) l.list.items
