use Rattle.std.proofs.Common.{length}
use Rattle.round_check.proofs.spelling.+put_formulas.Given as goal

abbrev pub decreases-put_formulas : goal.decreases-put_formulas
decreases-put_formulas l = length l.formulas.now
