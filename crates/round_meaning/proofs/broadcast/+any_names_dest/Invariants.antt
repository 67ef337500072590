use Rattle.std.proofs.Common.{length}
use Rattle.round_meaning.proofs.broadcast.+any_names_dest.Given as goal

abbrev pub decreases-any_names_dest : goal.decreases-any_names_dest
decreases-any_names_dest l = length l.formulas.now
