use Rattle.std.proofs.Common.{inr}
use Rattle.command_runs.proofs.Offered.{within_limits}
use Rattle.command_runs.proofs.sources.offered.Goals as goal

pub returns-in_ok-dls1-in-dls1-clause-offered : goal.returns-in_ok-dls1-in-dls1-clause-offered
returns-in_ok-dls1-in-dls1-clause-offered c =
    let said = c.in_ok-dls1-in-dls1.ensures in
    inr (inr (
      c.in-dls1.is,
      within_limits c.args.nodes c.args.faults c.args.values (λ none. cc (said.bad.1 none)),
      said.program,
      said.majority,
    ))
