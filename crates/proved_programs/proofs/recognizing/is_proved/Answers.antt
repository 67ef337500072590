use Rattle.std.proofs.Common.{◌≤◌, subst, sym}
use Rattle.round_explorer.specs.declared.property.Property.TheVariants.{Safety}
use Rattle.round_meaning.specs.Algorithm1.{dls1}
use Rattle.round_proofs.specs.Asking.{AsksAnything, AsksCrashes, AsksMajority}
use Rattle.round_proofs.specs.Explored.{HoldsForAll}
use Rattle.round_proofs.specs.Terminating.{AsksFewFaults}
use Rattle.shelf_proofs.specs.EagerAlgorithm1.{eager_algorithm_1_tree}
use Rattle.shelf_proofs.specs.EarlyFlooding.{early_flooding_tree}
use Rattle.shelf_proofs.specs.FloodMin.{floodmin_tree}
use Rattle.shelf_proofs.specs.Flooding.{flooding_tree}
use Rattle.shelf_proofs.specs.LastVoting.{last_voting_tree}
use Rattle.shelf_proofs.specs.OneThirdRule.{one_third_rule_tree}
use Rattle.shelf_proofs.specs.RotatingCoordinator.{rotating_coordinator_tree}
use Rattle.shelf_proofs.specs.UniformVoting.{uniform_voting_tree}
use Rattle.proved_programs.specs.Proved.{IsProved}
use Rattle.proved_programs.specs.declared.algorithm.Algorithm.TheVariants as a
use Rattle.proved_programs.proofs.Families.{named, of_family}
use Rattle.proved_programs.proofs.recognizing.is_proved.Goals as goal

pub returns-in-Algorithm1 : goal.returns-in-Algorithm1
returns-in-Algorithm1 c =
    let few = subst (λ v. v ≤ 64) c.values-values.ensures.value c.values-values.ensures.few in
    named c.args.program.now c.in-Algorithm1.is
    (of_family (λ q. HoldsForAll q AsksFewFaults Safety) dls1 c.args.program.now few
    c.algorithm_1_for_all.ensures.safety) c.requires

pub returns-in-OneThirdRule : goal.returns-in-OneThirdRule
returns-in-OneThirdRule c =
    let few = subst (λ v. v ≤ 64) c.values-values.ensures.value c.values-values.ensures.few in
    named c.args.program.now c.in-OneThirdRule.is
    (of_family (λ q. HoldsForAll q AsksAnything Safety) one_third_rule_tree c.args.program.now few
    c.one_third_rule-text.ensures.safety) c.requires

pub returns-in-UniformVoting : goal.returns-in-UniformVoting
returns-in-UniformVoting c =
    let few = subst (λ v. v ≤ 64) c.values-values.ensures.value c.values-values.ensures.few in
    named c.args.program.now c.in-UniformVoting.is
    (of_family (λ q. HoldsForAll q AsksMajority Safety) uniform_voting_tree c.args.program.now few
    c.uniform_voting-text.ensures.safety) c.requires

pub returns-in-LastVoting : goal.returns-in-LastVoting
returns-in-LastVoting c =
    let few = subst (λ v. v ≤ 64) c.values-values.ensures.value c.values-values.ensures.few in
    named c.args.program.now c.in-LastVoting.is
    (of_family (λ q. HoldsForAll q AsksAnything Safety) last_voting_tree c.args.program.now few
    c.last_voting-text.ensures.safety) c.requires

pub returns-in-Flooding : goal.returns-in-Flooding
returns-in-Flooding c =
    let few = subst (λ v. v ≤ 64) c.values-values.ensures.value c.values-values.ensures.few in
    named c.args.program.now c.in-Flooding.is
    (of_family (λ q. HoldsForAll q AsksCrashes Safety) flooding_tree c.args.program.now few
    c.flooding-text.ensures.safety) c.requires

pub returns-in-FloodMin : goal.returns-in-FloodMin
returns-in-FloodMin c =
    let few = subst (λ v. v ≤ 64) c.values-values.ensures.value c.values-values.ensures.few in
    let laws = c.floodmin-text.ensures in
    named c.args.program.now c.in-FloodMin.is
    (of_family (IsProved a.FloodMin) floodmin_tree c.args.program.now few
    (λ k small. (laws.few k small, laws.validity k small, laws.finality k small))) c.requires

pub returns-in-TwoPhaseCommit : goal.returns-in-TwoPhaseCommit
returns-in-TwoPhaseCommit c =
    let laws = c.two_phase_commit-text.ensures in
    named c.args.program.now c.in-TwoPhaseCommit.is
    (λ is. subst (IsProved a.TwoPhaseCommit) (sym is)
    (laws.agreement, laws.finality, laws.commit)) c.requires

pub returns-in-EagerAlgorithm1 : goal.returns-in-EagerAlgorithm1
returns-in-EagerAlgorithm1 c =
    let few = subst (λ v. v ≤ 64) c.values-values.ensures.value c.values-values.ensures.few in
    named c.args.program.now c.in-EagerAlgorithm1.is
    (of_family (λ q. HoldsForAll q AsksFewFaults Safety) eager_algorithm_1_tree c.args.program.now few
    c.eager_algorithm_1-text.ensures.safety) c.requires

pub returns-in-RotatingCoordinator : goal.returns-in-RotatingCoordinator
returns-in-RotatingCoordinator c =
    let few = subst (λ v. v ≤ 64) c.values-values.ensures.value c.values-values.ensures.few in
    named c.args.program.now c.in-RotatingCoordinator.is
    (of_family (λ q. HoldsForAll q AsksAnything Safety) rotating_coordinator_tree c.args.program.now few
    c.rotating_coordinator-text.ensures.safety) c.requires

pub returns-in-EarlyFlooding : goal.returns-in-EarlyFlooding
returns-in-EarlyFlooding c =
    let few = subst (λ v. v ≤ 64) c.values-values.ensures.value c.values-values.ensures.few in
    named c.args.program.now c.in-EarlyFlooding.is
    (of_family (λ q. HoldsForAll q AsksCrashes Safety) early_flooding_tree c.args.program.now few
    c.early_flooding-text.ensures.safety) c.requires
