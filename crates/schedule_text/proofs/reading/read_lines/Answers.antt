use Rattle.std.proofs.lemmas.Result.{err_from_is_err_and}
use Rattle.schedule_text.proofs.Lines.{read_whole, refused_whole}
use Rattle.schedule_text.proofs.reading.read_lines.Goals as goal

pub returns-in_err-read-clause-read : goal.returns-in_err-read-clause-read
returns-in_err-read-clause-read c =
    let start = c.new-reader.ensures in
    let p = err_from_is_err_and c.from_residual.result c.from_residual.ensures.1 in
    rw (p.1, p.2) (refused_whole c.args.kind c.args.text.now c.new-reader.result c.read.new.self
    start.number start.start c.in_err-read.field-0.0 c.in_err-read.ensures.read)

pub returns-clause-read : goal.returns-clause-read
returns-clause-read c =
    let start = c.new-reader.ensures in
    read_whole c.args.kind c.args.text.now c.new-reader.result c.read.new.self start.number
    start.start c.in_ok-read.ensures.read
