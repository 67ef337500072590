use Rattle.std.proofs.Common.{length}
use Rattle.answer_details.proofs.writing.+write_objects.Given as goal

abbrev pub decreases-write_objects : goal.decreases-write_objects
decreases-write_objects g l = length l.told.now
