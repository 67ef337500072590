use Rattle.std.proofs.Common.{◌-◌}
use Rattle.frame_views.proofs.round.+address.Given as goal

abbrev pub decreases-address : goal.decreases-address
decreases-address l = l.nodes - l.to
