use Rattle.std.proofs.Common.{length}
use Rattle.round_check.proofs.causes.+repeats_field.Given as goal

abbrev pub decreases-repeats_field : goal.decreases-repeats_field
decreases-repeats_field l = length l.fields.now
