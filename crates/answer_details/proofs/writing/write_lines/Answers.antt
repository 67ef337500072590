use Rattle.std.proofs.Common.{◌+◌, arith, length}
use Rattle.std.specs.Str.Lines.{lines}
use Rattle.std.proofs.lemmas.List.{length_push}
use Rattle.std.proofs.lemmas.Iterator.Consumers.{YieldsList-turn, YieldsList-end}
use Rattle.std.proofs.lemmas.Iterator.Splits.{YieldsList-from_lines}
use Rattle.answer_details.specs.Texts.{marked_line}
use Rattle.exploration_texts.proofs.Writing.{all_written, none_written, one_written}
use Rattle.answer_details.proofs.writing.write_lines.Goals as goal

pub loop-line-init : goal.loop-line-init
loop-line-init g c = none_written (g.W.Write.contents c.args.out.now)

pub loop-line-preserved : goal.loop-line-preserved
loop-line-preserved g c =
    let out = g.W.Write.contents in
    let ls = lines c.args.text.now in
    let t = YieldsList-turn (YieldsList-from_lines c.args.text.now (cc)) c.loop-line.yielded _
    c.loop-line.yielded_by _ _ c.in-Some.line c.in-Some.is c.next.ensures.steps in
    rw (length_push) (one_written (marked_line c.args.mark.now) (out c.args.out.now)
    (out c.loop-line.out) (out c.write_line.new.out) ls (length c.loop-line.yielded)
    c.in-Some.line.now t.0 t.1 c.loop-line.invariant c.in_ok-write_line.ensures)

pub returns : goal.returns
returns g c =
    let out = g.W.Write.contents in
    let t = YieldsList-end (YieldsList-from_lines c.args.text.now (cc)) c.loop-line.yielded _
    c.loop-line.yielded_by _ _ c.in-None.is c.next.ensures.steps in
    all_written (marked_line c.args.mark.now) (out c.args.out.now) (out c.loop-line.out)
    (lines c.args.text.now) (length c.loop-line.yielded) (omega (arith, t.1))
    c.loop-line.invariant
