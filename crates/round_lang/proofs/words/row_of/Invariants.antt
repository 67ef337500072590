use Rattle.std.proofs.Common.{◌≡◌, take}
use Rattle.round_lang.proofs.words.row_of.Given as goal

abbrev pub invariant-loop-word : goal.invariant-loop-word
invariant-loop-word l = l.entries.items ≡ take l.word-index l.words
