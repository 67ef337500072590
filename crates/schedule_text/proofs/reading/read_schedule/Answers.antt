use Rattle.std.proofs.lemmas.Result.{err_from_is_err_and}
use Rattle.schedule_text.specs.declared.kind.Kind.TheVariants.{Schedule}
use Rattle.schedule_text.specs.Outcome.{schedule_read}
use Rattle.schedule_text.proofs.Answered.{end_only, end_read, fault_only, fault_read}
use Rattle.schedule_text.proofs.reading.read_schedule.Goals as goal

pub returns-in_err-draft-clause-read : goal.returns-in_err-draft-clause-read
returns-in_err-draft-clause-read c =
    let p = err_from_is_err_and c.from_residual.result c.from_residual.ensures.1 in
    rw (p.1, p.2) (fault_read Schedule schedule_read c.args.text.now c.in_err-draft.field-0.0
    c.in_err-draft.ensures.read)

pub returns-in_err-draft-clause-only : goal.returns-in_err-draft-clause-only
returns-in_err-draft-clause-only c =
    let p = err_from_is_err_and c.from_residual.result c.from_residual.ensures.1 in
    rw (p.1, p.2) (fault_only Schedule schedule_read c.args.text.now c.in_err-draft.field-0.0
    c.in_err-draft.ensures.read)

pub returns-clause-read : goal.returns-clause-read
returns-clause-read c =
    end_read Schedule schedule_read c.args.text.now (
      c.in_ok-draft.draft,
      c.in_ok-draft.number,
    ) c.schedule.result c.in_ok-draft.ensures.read c.schedule.ensures.ended

pub returns-clause-only : goal.returns-clause-only
returns-clause-only c =
    end_only Schedule schedule_read c.args.text.now (
      c.in_ok-draft.draft,
      c.in_ok-draft.number,
    ) c.schedule.result c.in_ok-draft.ensures.read c.schedule.ensures.ended
