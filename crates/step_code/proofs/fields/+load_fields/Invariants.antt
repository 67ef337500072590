use Rattle.std.proofs.Common.{length}
use Rattle.step_code.proofs.fields.+load_fields.Given as goal

abbrev pub decreases-load_fields : goal.decreases-load_fields
decreases-load_fields g l = length l.fields.now
