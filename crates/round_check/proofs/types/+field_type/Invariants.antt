use Rattle.std.proofs.Common.{length}
use Rattle.round_check.proofs.types.+field_type.Given as goal

abbrev pub decreases-field_type : goal.decreases-field_type
decreases-field_type l = length l.fields.now
