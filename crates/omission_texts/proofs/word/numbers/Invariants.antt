use Rattle.omission_texts.proofs.Sizes.{Taken, values}
use Rattle.omission_texts.proofs.word.numbers.Given as goal

abbrev pub invariant-loop-word : goal.invariant-loop-word
invariant-loop-word l = Taken (values l.words) l.word-index l.numbers.items
