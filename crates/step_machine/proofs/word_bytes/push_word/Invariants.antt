use Rattle.step_machine.specs.StoredStates.{words_in}
use Rattle.step_machine.proofs.Leb128.{IsBegun}
use Rattle.step_machine.proofs.word_bytes.push_word.Given as goal

abbrev pub invariant-loop-left : goal.invariant-loop-left
invariant-loop-left l = IsBegun (words_in l.initial.bytes.items) l.word l.bytes.items l.left

abbrev pub decreases-loop-left : goal.decreases-loop-left
decreases-loop-left l = l.left
