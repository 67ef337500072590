use Rattle.std.proofs.lemmas.Result.{err_from_is_err_and}
use Rattle.omission_texts.proofs.Answered.{fault_only, fault_read, ok_only, ok_read}
use Rattle.omission_texts.proofs.reading.read_omissions.Goals as goal

pub returns-in_err-read_lines-clause-read : goal.returns-in_err-read_lines-clause-read
returns-in_err-read_lines-clause-read c =
    let p = err_from_is_err_and c.from_residual.result c.from_residual.ensures.1 in
    rw (p.1, p.2) (fault_read c.args.text.now c.if-text-gt-MAX_TEXT.false
    c.in_err-read_lines.field-0.0 c.in_err-read_lines.ensures.read)

pub returns-in_err-read_lines-clause-only : goal.returns-in_err-read_lines-clause-only
returns-in_err-read_lines-clause-only c =
    let p = err_from_is_err_and c.from_residual.result c.from_residual.ensures.1 in
    rw (p.1, p.2) (fault_only c.args.text.now c.if-text-gt-MAX_TEXT.false
    c.in_err-read_lines.field-0.0 c.in_err-read_lines.ensures.read)

pub returns-clause-read : goal.returns-clause-read
returns-clause-read c =
    rw c.new.ensures (ok_read c.args.text.now c.if-text-gt-MAX_TEXT.false
    c.in_ok-read_lines.field-0.items c.in_ok-read_lines.ensures.read)

pub returns-clause-only : goal.returns-clause-only
returns-clause-only c =
    rw c.new.ensures (ok_only c.args.text.now c.if-text-gt-MAX_TEXT.false
    c.in_ok-read_lines.field-0.items c.in_ok-read_lines.ensures.read)
