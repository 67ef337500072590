use Rattle.std.proofs.Common.{length}
use Rattle.command_words.proofs.negative.+any_negative.Given as goal

abbrev pub decreases-any_negative : goal.decreases-any_negative
decreases-any_negative l = length l.words.now
