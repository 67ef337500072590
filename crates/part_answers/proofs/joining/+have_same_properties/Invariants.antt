use Rattle.std.proofs.Common.{length}
use Rattle.part_answers.proofs.joining.+have_same_properties.Given as goal

abbrev pub decreases-have_same_properties : goal.decreases-have_same_properties
decreases-have_same_properties l = length l.first.now
