use Rattle.std.proofs.Common.{Bool, Ok, Result, ap}
use Rattle.std.proofs.lemmas.Result.{err_from_is_err_and}
use Rattle.schedule_text.specs.declared.source.TextFault.{TextFault}
use Rattle.schedule_text.proofs.Readers.{reads_all, reads_more, reads_nothing, reads_refused}
use Rattle.schedule_text.proofs.schedule_reader.ScheduleReader.drain.Goals as goal

pub returns-in_err-advance-clause-refused : goal.returns-in_err-advance-clause-refused
returns-in_err-advance-clause-refused g c =
    let e = c.in_err-advance.field-0.0 in
    let p = err_from_is_err_and c.from_residual.result c.from_residual.ensures.1 in
    rw (p.1, p.2) (reads_refused c.args.self.now c.loop.self e c.loop.invariant
    c.in_err-advance.ensures.refused)

pub loop-init : goal.loop-init
loop-init g c = reads_nothing c.args.self.now

pub loop-preserved : goal.loop-preserved
loop-preserved g c =
    let ok : Bool → Result Bool TextFault = λ b. Ok b in
    reads_more c.args.self.now c.loop.self c.advance.new.self c.loop.invariant
    (c.in_ok-advance.ensures.read (ap ok c.if-branch.true))

pub returns-clause-read : goal.returns-clause-read
returns-clause-read g c =
    let ok : Bool → Result Bool TextFault = λ b. Ok b in
    reads_all c.args.self.now c.loop.self c.loop.invariant
    (c.in_ok-advance.ensures.ended (ap ok c.if-branch.false))
