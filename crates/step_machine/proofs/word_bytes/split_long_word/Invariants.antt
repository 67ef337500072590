use Rattle.std.proofs.Common.{◌≡◌, length}
use Rattle.step_machine.specs.StoredStates.{words_from, words_in}
use Rattle.step_machine.proofs.word_bytes.split_long_word.Given as goal

-- the bytes that are left go on with the word that is begun
abbrev pub invariant-loop-byte : goal.invariant-loop-byte
invariant-loop-byte l = words_from l.begun.weight l.begun.value l.left ≡ words_in l.bytes

abbrev pub decreases-loop-byte : goal.decreases-loop-byte
decreases-loop-byte l = length l.left
