use Rattle.std.proofs.Common.{◌≡◌, ◌+◌, ◌-◌, length, take, drop, arith, length-drop}
use Rattle.std.proofs.lemmas.List.{take_all}
use Rattle.schedule_text.proofs.FirstLines.{lines_cut, lines_whole}
use Rattle.schedule_text.proofs.front.first_line.Goals as goal

pub returns-then-end-text-clause-first : goal.returns-then-end-text-clause-first
returns-then-end-text-clause-first c =
    lines_whole c.args.text.now c.line_length-end.result c.line_length-end.ensures.value
    c.if-end-text.true c.requires

pub returns-clause-first : goal.returns-clause-first
returns-clause-first c =
    let t = c.args.text.now in
    let n = c.line_length-end.result in
    let rest : take (length t - (n + 1)) (drop (n + 1) t) ≡ drop (n + 1) t =
    take_all (length t - (n + 1)) (drop (n + 1) t) (omega (arith, length-drop (n + 1) t)) in
    rw (rest, c.without_return.ensures)
    (lines_cut t n c.line_length-end.ensures.value
    (omega (arith, c.line_length-end.ensures.within)))
