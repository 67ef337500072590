use Rattle.omission_explainer.proofs.Parts.{same_inbox}
use Rattle.omission_explainer.proofs.printed.omissions_give_inbox.Goals as goal

pub returns : goal.returns
returns c = same_inbox
