use Rattle.std.proofs.Common.{arith}
use Rattle.slot_plans.proofs.Rounds.{len-fits}
use Rattle.slot_plans.proofs.plan.Plan.len.Goals as goal

pub overflow_add-result : goal.overflow_add-result
overflow_add-result g c =
    omega (
      arith,
      len-fits (g.met.Self.Plan.laws c.args.self.now) c.args.round c.requires.first
          c.requires.last,
    )
