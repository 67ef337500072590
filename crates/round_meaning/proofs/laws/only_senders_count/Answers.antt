use Rattle.round_meaning.proofs.RoundLaws.{inbox_heard, rounds_same}
use Rattle.round_meaning.proofs.laws.only_senders_count.Goals as goal

pub returns-clause-inbox : goal.returns-clause-inbox
returns-clause-inbox c = inbox_heard

pub returns-clause-state : goal.returns-clause-state
returns-clause-state c = rounds_same
