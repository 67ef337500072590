use Rattle.lockstep_runs.proofs.Judged.{below_64}
use Rattle.lockstep_runs.proofs.lockstep.are_below_64.Goals as goal

pub returns : goal.returns
returns c = below_64 c.args.members c.ranges.members.fits
