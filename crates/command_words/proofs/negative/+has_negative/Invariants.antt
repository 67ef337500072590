use Rattle.std.proofs.Common.{length}
use Rattle.command_words.proofs.negative.+has_negative.Given as goal

abbrev pub decreases-has_negative : goal.decreases-has_negative
decreases-has_negative l = length l.words.now
