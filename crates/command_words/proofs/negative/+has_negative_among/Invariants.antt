use Rattle.std.proofs.Common.{length}
use Rattle.command_words.proofs.negative.+has_negative_among.Given as goal

abbrev pub decreases-has_negative_among : goal.decreases-has_negative_among
decreases-has_negative_among l = length l.words.now
