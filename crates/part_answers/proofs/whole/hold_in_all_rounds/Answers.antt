use Rattle.std.proofs.Common.{rules}
use Rattle.std.proofs.lemmas.Iterator.{YieldsList-from_slice, cases_from_all}
use Rattle.part_answers.specs.Wholes.{HoldsInAllRounds}
use Rattle.part_answers.specs.declared.part.PartAnswers.{PartAnswers}
use Rattle.part_answers.proofs.WholeLemmas.{true_exactly}
use Rattle.part_answers.proofs.whole.hold_in_all_rounds.Goals as goal

pub returns : goal.returns
returns c =
    let parts = c.args.parts.now in
    let holds : PartAnswers → Type 0 = HoldsInAllRounds c.args.property in
    true_exactly holds parts c.all.result
    (cases_from_all _ _ _ holds (λ p. ¬ (holds p)) c.all.ensures.ran
    (YieldsList-from_slice parts cc) (λ x q k. search rules) (λ x q k. search rules))
