use Rattle.omission_texts.specs.Tables.{Adds}
use Rattle.omission_texts.proofs.Adding.{to_first}
use Rattle.omission_texts.proofs.blocks.add_round.Given as goal

abbrev pub invariant-loop-receiver : goal.invariant-loop-receiver
invariant-loop-receiver l = Adds (to_first l.receivers l.round l.sender l.receiver-index)
    l.initial.table l.table
