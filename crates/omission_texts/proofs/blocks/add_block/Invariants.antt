use Rattle.omission_texts.specs.Tables.{Adds}
use Rattle.omission_texts.proofs.Adding.{from_first}
use Rattle.omission_texts.proofs.blocks.add_block.Given as goal

abbrev pub invariant-loop-sender : goal.invariant-loop-sender
invariant-loop-sender l = Adds (from_first l.receivers l.rounds l.senders l.sender-index)
    l.initial.table l.table
