use Rattle.step_journal.proofs.BufferViews.{prepared_spells, spells_of_run}
use Rattle.locked_buffers.specs.Runs.{algorithm_by}
use Rattle.std.proofs.Common.{rules}
use Rattle.locked_buffers.proofs.commit.commit_send.Goals as goal
use Rattle.locked_buffers.proofs.commit.commit_send.Goals.{in-Some-into_sealed, in_default}

pub put-requires-clause-honest : goal.put-requires-clause-honest
put-requires-clause-honest g c =
    let run = c.args.run.now in
    let said = prepared_spells (algorithm_by run) c.args.prepared c.into_sealed.result
    c.in-Some-into_sealed.frame c.requires.work c.into_sealed.ensures
    c.in-Some-into_sealed.is in
    spells_of_run run.program run.setup c.args.buffer.now.frames c.in-Some-into_sealed.frame
    c.requires.seen.buffer.of_run said

pub returns-clause-frame : goal.returns-clause-frame
returns-clause-frame g c = elim c.match-into_sealed.branch
    [ in-Some-into_sealed w ↦ search rules | in_default w ↦ search rules ]
