use Rattle.std.proofs.Common.{◌≡◌, Some, rules}
use Rattle.node_threads.proofs.Ending.{ended_by, passed_by}
use Rattle.node_threads.proofs.job.ThreadEnd.into_parts.Goals as goal

pub returns-clause-ended : goal.returns-clause-ended
returns-clause-ended g c =
    let is : c.args.self.ended ≡ Some c.in_ok-ended.ended = search rules in
    let plan : c.args.self.plan ≡ c.args.plan = search rules in
    let stop : c.args.self.stop ≡ c.args.stop = search rules in
    ended_by g.P.Plan.start c.args.self.plan c.args.plan c.args.self.rounds c.args.rounds
    c.args.self.stop c.args.stop c.args.self.seat c.args.self.ended c.in_ok-ended.ended
    c.args.self.true_end is plan c.if-own_rounds-rounds.false stop

pub returns-clause-passed : goal.returns-clause-passed
returns-clause-passed g c =
    let is : c.args.self.ended ≡ Some c.in_ok-ended.ended = search rules in
    let plan : c.args.self.plan ≡ c.args.plan = search rules in
    let stop : c.args.self.stop ≡ c.args.stop = search rules in
    passed_by g.P.Plan.start c.args.self.plan c.args.plan c.args.self.rounds c.args.rounds
    c.args.self.stop c.args.stop c.args.self.ended c.in_ok-ended.ended
    c.args.self.passed is plan c.if-own_rounds-rounds.false stop
