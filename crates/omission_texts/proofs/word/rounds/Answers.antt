use Rattle.std.proofs.Common.{None, Some, sym, ◌∙◌, arith, ap}
use Rattle.std.proofs.lemmas.Str.Pattern.{split_once_first}
use Rattle.omission_texts.specs.Forms.{sized_rounds}
use Rattle.omission_texts.proofs.Numerals.{one_end, one_round, two_rounds}
use Rattle.omission_texts.proofs.word.rounds.Goals as goal

pub range-requires : goal.range-requires
range-requires c =
    let w = c.args.word.now in
    let p = split_once_first 45 w (Some (c.in-Some.first, c.in-Some.last)) c.in-Some.ensures.cases
    (omega arith) in
    let q = two_rounds w c.in-Some.first.now c.in-Some.last.now p.0 p.1 p.2 c.requires in
    record { first = q.0; last = q.1 }

pub range-requires-in-None : goal.range-requires-in-None
range-requires-in-None c =
    let w = c.args.word.now in
    let e = split_once_first 45 w None c.in-None.ensures.cases (omega arith) in
    let one = one_end w e ∙ c.requires in
    record { first = one; last = one }

pub returns-in-Some : goal.returns-in-Some
returns-in-Some c =
    let w = c.args.word.now in
    let p = split_once_first 45 w (Some (c.in-Some.first, c.in-Some.last)) c.in-Some.ensures.cases
    (omega arith) in
    let q = two_rounds w c.in-Some.first.now c.in-Some.last.now p.0 p.1 p.2 c.requires in
    c.range.ensures ∙ ap sized_rounds (sym q.2)

pub returns-in-None : goal.returns-in-None
returns-in-None c =
    let w = c.args.word.now in
    let e = split_once_first 45 w None c.in-None.ensures.cases (omega arith) in
    c.range-in-None.ensures ∙ ap sized_rounds (sym (one_round w e))
