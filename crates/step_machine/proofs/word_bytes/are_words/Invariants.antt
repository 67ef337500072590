use Rattle.std.proofs.Common.{◌≡◌, ◌↔◌, drop}
use Rattle.step_machine.specs.StoredStates.{words_from, words_in}
use Rattle.step_machine.proofs.word_bytes.are_words.Given as goal

-- all words are the same if those that are left are
abbrev pub invariant-loop-byte : goal.invariant-loop-byte
invariant-loop-byte l =
    (words_from l.begun.weight l.begun.value (drop l.byte-index l.bytes) ≡ l.left)
    ↔ (words_in l.bytes ≡ l.words)
