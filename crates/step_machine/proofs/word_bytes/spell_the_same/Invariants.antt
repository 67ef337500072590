use Rattle.std.proofs.Common.{◌≡◌, ◌↔◌, length}
use Rattle.step_machine.specs.StoredStates.{words_in}
use Rattle.step_machine.proofs.word_bytes.spell_the_same.Given as goal

-- all words are the same if those that are left are
abbrev pub invariant-loop-word : goal.invariant-loop-word
invariant-loop-word l = (words_in l.left ≡ words_in l.right) ↔ (words_in l.one ≡ words_in l.other)

abbrev pub decreases-loop-word : goal.decreases-loop-word
decreases-loop-word l = length (words_in l.left)
