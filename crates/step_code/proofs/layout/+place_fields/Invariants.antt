use Rattle.std.proofs.Common.{length}
use Rattle.step_code.proofs.layout.+place_fields.Given as goal

abbrev pub decreases-place_fields : goal.decreases-place_fields
decreases-place_fields l = length l.fields.now
