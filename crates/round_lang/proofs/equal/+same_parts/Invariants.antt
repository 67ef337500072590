use Rattle.std.proofs.Common.{length}
use Rattle.round_lang.proofs.equal.+same_parts.Given as goal

abbrev pub decreases-same_parts : goal.decreases-same_parts
decreases-same_parts g l = length l.one.now
