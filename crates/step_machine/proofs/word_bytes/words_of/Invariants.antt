use Rattle.std.proofs.Common.{◌≡◌, ◌++◌, drop}
use Rattle.step_machine.specs.StoredStates.{words_from, words_in}
use Rattle.step_machine.proofs.word_bytes.words_of.Given as goal

-- the words so far and those that are left are all
abbrev pub invariant-loop-byte : goal.invariant-loop-byte
invariant-loop-byte l = l.words.items
    ++ words_from l.begun.weight l.begun.value (drop l.byte-index l.bytes) ≡ words_in l.bytes
