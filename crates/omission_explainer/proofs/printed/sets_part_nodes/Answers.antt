use Rattle.omission_explainer.proofs.Parts.{sets_part}
use Rattle.omission_explainer.proofs.printed.sets_part_nodes.Goals as goal

pub returns : goal.returns
returns c = sets_part
