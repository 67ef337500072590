use Rattle.std.proofs.Common.{◌≡◌, ◌∙◌, IfOk, arith, refl, subst}
use Rattle.round_lang.specs.Source.{IsSource}
use Rattle.round_lang.proofs.Whole.{one_source}
use Rattle.round_meaning.specs.Algorithm1.{dls1}
use Rattle.algorithm_library.specs.Texts.{dls1_rest, text_of}
use Rattle.algorithm_library.proofs.Sources.{dls1_source}
use Rattle.program_slices.proofs.Lists.{if_ok_weaker}
use Rattle.proved_programs.specs.Proved.{own_of}
use Rattle.proved_programs.specs.declared.algorithm.Algorithm.TheVariants as a
use Rattle.proved_programs.proofs.Families.{of_named, own_program_is}
use Rattle.proved_programs.proofs.recognizing.own_program.Goals as goal

pub returns-in-Ok : goal.returns-in-Ok
returns-in-Ok c =
    let text = c.deref.ensures ∙ c.in-Ok.ensures.text in
    let is = subst (λ t. IfOk c.program_in.result (IsSource t)) text c.program_in.ensures in
    of_named c.in-Algorithm1.is c.program_in.result
    (if_ok_weaker (IsSource (text_of dls1_rest 2)) (λ p. p ≡ own_of a.Algorithm1)
    c.program_in.result
    (λ p s. one_source (text_of dls1_rest 2) p (dls1 2) s
    (dls1_source 2 (omega arith) (omega arith))) is)

pub returns-in-OneThirdRule : goal.returns-in-OneThirdRule
returns-in-OneThirdRule c =
    of_named c.in-OneThirdRule.is c.program_in-in-OneThirdRule.result
    (own_program_is c.one_third_rule.ensures.text (omega arith) (omega arith) a.OneThirdRule refl
    c.program_in-in-OneThirdRule.result c.program_in-in-OneThirdRule.ensures)

pub returns-in-UniformVoting : goal.returns-in-UniformVoting
returns-in-UniformVoting c =
    of_named c.in-UniformVoting.is c.program_in-in-UniformVoting.result
    (own_program_is c.uniform_voting.ensures.text (omega arith) (omega arith) a.UniformVoting refl
    c.program_in-in-UniformVoting.result c.program_in-in-UniformVoting.ensures)

pub returns-in-LastVoting : goal.returns-in-LastVoting
returns-in-LastVoting c =
    of_named c.in-LastVoting.is c.program_in-in-LastVoting.result
    (own_program_is c.last_voting.ensures.text (omega arith) (omega arith) a.LastVoting refl
    c.program_in-in-LastVoting.result c.program_in-in-LastVoting.ensures)

pub returns-in-Flooding : goal.returns-in-Flooding
returns-in-Flooding c =
    of_named c.in-Flooding.is c.program_in-in-Flooding.result
    (own_program_is c.flooding.ensures.text (omega arith) (omega arith) a.Flooding refl
    c.program_in-in-Flooding.result c.program_in-in-Flooding.ensures)

pub returns-in-FloodMin : goal.returns-in-FloodMin
returns-in-FloodMin c =
    of_named c.in-FloodMin.is c.program_in-in-FloodMin.result
    (own_program_is c.floodmin.ensures.text (omega arith) (omega arith) a.FloodMin refl
    c.program_in-in-FloodMin.result c.program_in-in-FloodMin.ensures)

pub returns-in-TwoPhaseCommit : goal.returns-in-TwoPhaseCommit
returns-in-TwoPhaseCommit c =
    of_named c.in-TwoPhaseCommit.is c.program_in-in-TwoPhaseCommit.result
    (own_program_is c.two_phase_commit.ensures.text (omega arith) (omega arith) a.TwoPhaseCommit
    refl c.program_in-in-TwoPhaseCommit.result c.program_in-in-TwoPhaseCommit.ensures)

pub returns-in-EagerAlgorithm1 : goal.returns-in-EagerAlgorithm1
returns-in-EagerAlgorithm1 c =
    of_named c.in-EagerAlgorithm1.is c.program_in-in-EagerAlgorithm1.result
    (own_program_is c.eager_algorithm_1.ensures.text (omega arith) (omega arith) a.EagerAlgorithm1
    refl c.program_in-in-EagerAlgorithm1.result c.program_in-in-EagerAlgorithm1.ensures)

pub returns-in-RotatingCoordinator : goal.returns-in-RotatingCoordinator
returns-in-RotatingCoordinator c =
    of_named c.in-RotatingCoordinator.is c.program_in-in-RotatingCoordinator.result
    (own_program_is c.rotating_coordinator.ensures.text (omega arith) (omega arith) a.RotatingCoordinator
    refl c.program_in-in-RotatingCoordinator.result c.program_in-in-RotatingCoordinator.ensures)

pub returns-in-EarlyFlooding : goal.returns-in-EarlyFlooding
returns-in-EarlyFlooding c =
    of_named c.in-EarlyFlooding.is c.program_in-in-EarlyFlooding.result
    (own_program_is c.early_flooding.ensures.text (omega arith) (omega arith) a.EarlyFlooding
    refl c.program_in-in-EarlyFlooding.result c.program_in-in-EarlyFlooding.ensures)
