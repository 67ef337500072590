use Rattle.round_meaning.proofs.SetMembership.{sets_are_members}
use Rattle.round_meaning.proofs.laws.sets_are_members.Goals as goal

pub returns : goal.returns
returns c = sets_are_members
