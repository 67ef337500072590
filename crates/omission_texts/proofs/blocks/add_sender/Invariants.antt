use Rattle.omission_texts.proofs.Adding.{AddsBelow}
use Rattle.omission_texts.proofs.blocks.add_sender.Given as goal

abbrev pub invariant-loop-round : goal.invariant-loop-round
invariant-loop-round l = AddsBelow l.receivers l.fn.rounds l.sender l.round l.initial.table l.table
