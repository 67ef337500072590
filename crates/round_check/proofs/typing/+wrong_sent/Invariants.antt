use Rattle.std.proofs.Common.{length}
use Rattle.round_check.proofs.typing.+wrong_sent.Given as goal

abbrev pub decreases-wrong_sent : goal.decreases-wrong_sent
decreases-wrong_sent l = length l.fields.now
