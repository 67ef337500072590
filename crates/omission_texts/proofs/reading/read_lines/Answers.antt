use Rattle.std.proofs.Common.{◌+◌, length, arith}
use Rattle.std.specs.Str.Lines.{lines}
use Rattle.std.proofs.lemmas.List.{length_push}
use Rattle.std.proofs.lemmas.Iterator.Consumers.{YieldsList-turn, YieldsList-end}
use Rattle.std.proofs.lemmas.Iterator.Splits.{YieldsList-from_lines}
use Rattle.omission_texts.specs.Forms.{from_line}
use Rattle.omission_texts.proofs.Answered.{fault_gives}
use Rattle.omission_texts.proofs.Lines.{read_all, read_fault, read_one}
use Rattle.omission_texts.proofs.reading.read_lines.Goals as goal

pub returns-in-Err-clause-read : goal.returns-in-Err-clause-read
returns-in-Err-clause-read c =
    let ls = lines c.args.text.now in
    let t = YieldsList-turn (YieldsList-from_lines c.args.text.now (cc)) c.loop-line.yielded _
    c.loop-line.yielded_by _ _ c.in-Some.line c.in-Some.is c.next.ensures.steps in
    let n = c.loop-line.number in
    let fault = read_fault ls (length c.loop-line.yielded) c.loop-line.said.items c.in-Some.line.now
    n c.loop-line.invariant t.0 t.1 c.in-Err.fault in
    rw c.at.ensures (fault_gives c.in-Err.fault (n + 1) c.in-Some.line.now c.loop-line.said.items
    c.take_line.new.said.items (from_line 1 ls) c.in-Err.ensures fault)

pub loop-line-preserved : goal.loop-line-preserved
loop-line-preserved c =
    let ls = lines c.args.text.now in
    let t = YieldsList-turn (YieldsList-from_lines c.args.text.now (cc)) c.loop-line.yielded _
    c.loop-line.yielded_by _ _ c.in-Some.line c.in-Some.is c.next.ensures.steps in
    rw (length_push) (read_one ls (length c.loop-line.yielded) c.loop-line.said.items
    c.in-Some.line.now c.loop-line.number c.loop-line.invariant t.0 t.1
    c.take_line.new.said.items c.in_default.ensures)

pub returns-clause-read : goal.returns-clause-read
returns-clause-read c =
    let ls = lines c.args.text.now in
    let t = YieldsList-end (YieldsList-from_lines c.args.text.now (cc)) c.loop-line.yielded _
    c.loop-line.yielded_by _ _ c.in-None.is c.next.ensures.steps in
    read_all ls (length c.loop-line.yielded) c.loop-line.said.items c.loop-line.number
    c.loop-line.invariant (omega (arith, t.1))
