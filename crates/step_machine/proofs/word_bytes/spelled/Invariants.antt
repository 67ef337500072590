use Rattle.std.proofs.Common.{◌≡◌, take}
use Rattle.step_machine.specs.StoredStates.{words_in, IsWhole}
use Rattle.step_machine.proofs.word_bytes.spelled.Given as goal

-- the words so far are spelled, each of them whole
abbrev pub invariant-loop-word : goal.invariant-loop-word
invariant-loop-word l = record {
  whole : IsWhole l.bytes.items;
  words : words_in l.bytes.items ≡ take l.word-index l.words;
}
