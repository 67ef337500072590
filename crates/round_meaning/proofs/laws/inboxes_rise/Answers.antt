use Rattle.round_meaning.proofs.Inboxes.{inbox_is}
use Rattle.round_meaning.proofs.laws.inboxes_rise.Goals as goal

pub returns : goal.returns
returns c = inbox_is
