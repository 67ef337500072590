use Rattle.std.proofs.Common.{None, Some, sym, ◌∙◌, arith, ap, ◌&&◌}
use Rattle.std.proofs.lemmas.Str.Pattern.{split_once_first}
use Rattle.schedule_text.specs.Numbers.{is_number}
use Rattle.omission_texts.proofs.Numerals.{one_end, two_ends}
use Rattle.omission_texts.proofs.word.are_rounds.Goals as goal

pub returns-then-is_number : goal.returns-then-is_number
returns-then-is_number c =
    let w = c.args.word.now in
    let a = c.in-Some.first.now in
    let b = c.in-Some.last.now in
    let p = split_once_first 45 w (Some (c.in-Some.first, c.in-Some.last)) c.in-Some.ensures.cases
    (omega arith) in
    let first = sym c.is_number.ensures ∙ c.if-is_number.true in
    c.is_number-then-is_number.ensures ∙ ap (λ x. x && is_number b) (sym first)
    ∙ two_ends w a b p.0 p.1 p.2

pub returns-else-is_number : goal.returns-else-is_number
returns-else-is_number c =
    let w = c.args.word.now in
    let a = c.in-Some.first.now in
    let b = c.in-Some.last.now in
    let p = split_once_first 45 w (Some (c.in-Some.first, c.in-Some.last)) c.in-Some.ensures.cases
    (omega arith) in
    let first = sym c.is_number.ensures ∙ c.if-is_number.false in
    c.if-is_number.false ∙ ap (λ x. x && is_number b) (sym first) ∙ two_ends w a b p.0 p.1 p.2

pub returns-in-None : goal.returns-in-None
returns-in-None c =
    let w = c.args.word.now in
    let e = split_once_first 45 w None c.in-None.ensures.cases (omega arith) in
    c.is_number-in-None.ensures ∙ one_end w e
