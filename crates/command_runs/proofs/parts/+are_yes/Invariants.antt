use Rattle.std.proofs.Common.{length}
use Rattle.command_runs.proofs.parts.+are_yes.Given as goal

abbrev pub decreases-are_yes : goal.decreases-are_yes
decreases-are_yes l = length l.whole.now
