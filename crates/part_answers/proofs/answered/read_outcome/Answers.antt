use Rattle.std.proofs.Common.{◌≡◌, ◌∙◌, ◌≢◌, false, sym, true}
use Rattle.std.specs.Prelude.{codes}
use Rattle.std.proofs.lemmas.Slice.Eq.{bytes_eq-Decides}
use Rattle.part_answers.proofs.AnswerLemmas.{no_outcome}
use Rattle.part_answers.proofs.answered.read_outcome.Goals as goal

pub returns-in_err-round-clause-none : goal.returns-in_err-round-clause-none
returns-in_err-round-clause-none c =
    let words = c.args.words.now in
    let plain : words ≢ codes "yes" = λ same.
    let bad : true ≡ false = sym ((bytes_eq-Decides words (codes "yes")).1 same)
    ∙ sym c.eq.ensures ∙ c.if-eq.false in absurd (cc bad) in
    let all : words ≢ codes "yes in all rounds" = λ same.
    let bad : true ≡ false = sym ((bytes_eq-Decides words (codes "yes in all rounds")).1 same)
    ∙ sym c.eq-2.ensures ∙ c.if-eq-2.false in absurd (cc bad) in
    rw c.from_residual.ensures (λ o is same. no_outcome words plain all c.in_err-round.ensures.none o is same)
