use Rattle.std.proofs.Common.{◌≡◌, ◌∙◌, arith, false, subst, sym, true}
use Rattle.std.proofs.lemmas.Fmt.{decimal_injective}
use Rattle.part_answers.specs.Answers.{IsRound}
use Rattle.part_answers.proofs.number.read_round.Goals as goal

pub returns-then-not-is_round-clause-none : goal.returns-then-not-is_round-clause-none
returns-then-not-is_round-clause-none c = λ n is same.
    let round = c.in_ok-round.round in
    let equal : round ≡ n = decimal_injective round n (omega arith) (omega (arith, is.1))
    (sym c.in_ok-round.ensures.some ∙ same) in
    let bad : true ≡ false = sym (c.is_round.ensures.1 (subst IsRound (sym equal) is))
    ∙ c.if-not-is_round.true in absurd (cc bad)
