use Rattle.std.proofs.Common.{length}
use Rattle.answer_details.proofs.writing.+write_with_runs.Given as goal

abbrev pub decreases-write_with_runs : goal.decreases-write_with_runs
decreases-write_with_runs g l = length l.told.now
