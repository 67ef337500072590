use Rattle.std.proofs.Common.{◌≡◌, drop, length}
use Rattle.step_machine.specs.StoredStates.{words_in}
use Rattle.step_machine.proofs.word_bytes.skip_words.Given as goal

-- so many words ahead in the bytes that are left lies what is asked for
abbrev pub invariant-loop-ahead : goal.invariant-loop-ahead
invariant-loop-ahead l = drop l.ahead (words_in l.left) ≡ drop l.count (words_in l.bytes)

abbrev pub decreases-loop-ahead : goal.decreases-loop-ahead
decreases-loop-ahead l = length l.left
