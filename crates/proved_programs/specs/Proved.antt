-- Which programs an algorithm has, and what is proved of them for every number of nodes.
use Rattle.std.specs.Prelude.{◌≡◌, ℕ}
use Rattle.round_explorer.specs.declared.property.Property.TheVariants.{Agreement, Final, Safety}
use Rattle.round_explorer.specs.declared.property.Property.TheVariants.{Validity}
use Rattle.round_lang.specs.Syntax.{ProgramTree}
use Rattle.round_meaning.specs.Algorithm1.{dls1}
use Rattle.round_proofs.specs.Asking.{AsksAnything, AsksCrashes, AsksMajority}
use Rattle.round_proofs.specs.Explored.{EachRun, HoldsForAll}
use Rattle.round_proofs.specs.FewDecisions.{DecidesFew}
use Rattle.round_proofs.specs.Terminating.{AsksFewFaults}
use Rattle.shelf_proofs.specs.Commits.{CommitsIfAll}
use Rattle.shelf_proofs.specs.EagerAlgorithm1.{eager_algorithm_1_tree}
use Rattle.shelf_proofs.specs.EarlyFlooding.{early_flooding_tree}
use Rattle.shelf_proofs.specs.FloodMin.{floodmin_tree}
use Rattle.shelf_proofs.specs.Flooding.{flooding_tree}
use Rattle.shelf_proofs.specs.LastVoting.{last_voting_tree}
use Rattle.shelf_proofs.specs.OneThirdRule.{one_third_rule_tree}
use Rattle.shelf_proofs.specs.RotatingCoordinator.{rotating_coordinator_tree}
use Rattle.shelf_proofs.specs.TwoPhaseCommit.{two_phase_commit_tree}
use Rattle.shelf_proofs.specs.UniformVoting.{uniform_voting_tree}
use Rattle.proved_programs.specs.declared.algorithm.Algorithm.{Algorithm}
use Rattle.proved_programs.specs.declared.algorithm.Algorithm.TheVariants as a

-- the algorithm's program over k values
abbrev pub family_of : Algorithm → (k : ℕ) → ProgramTree
family_of a.Algorithm1 = dls1
family_of a.EagerAlgorithm1 = eager_algorithm_1_tree
family_of a.OneThirdRule = one_third_rule_tree
family_of a.UniformVoting = uniform_voting_tree
family_of a.LastVoting = last_voting_tree
family_of a.RotatingCoordinator = rotating_coordinator_tree
family_of a.Flooding = flooding_tree
family_of a.EarlyFlooding = early_flooding_tree
family_of a.FloodMin = floodmin_tree
family_of a.TwoPhaseCommit = two_phase_commit_tree

-- how many values the program of the algorithm's text has
abbrev pub own_values : Algorithm → ℕ
own_values a.FloodMin = 3
own_values _ = 2

-- the program of the algorithm's text
abbrev pub own_of : Algorithm → ProgramTree
own_of x = family_of x (own_values x)

-- the program, over k values
abbrev pub with_values : ProgramTree → (k : ℕ) → ProgramTree
with_values p k = record p { values = k }

-- the program is the algorithm's over some number of values; two-phase commit has just 0 and 1
abbrev pub IsOf : Algorithm → ProgramTree → Type 0
IsOf a.TwoPhaseCommit p = p ≡ two_phase_commit_tree 2
IsOf x p = p ≡ family_of x p.values

-- what the algorithm keeps for all numbers of nodes, faults and rounds
abbrev pub IsProved : Algorithm → ProgramTree → Type 0
IsProved a.Algorithm1 p = HoldsForAll p AsksFewFaults Safety
IsProved a.EagerAlgorithm1 p = HoldsForAll p AsksFewFaults Safety
IsProved a.OneThirdRule p = HoldsForAll p AsksAnything Safety
IsProved a.UniformVoting p = HoldsForAll p AsksMajority Safety
IsProved a.LastVoting p = HoldsForAll p AsksAnything Safety
IsProved a.RotatingCoordinator p = HoldsForAll p AsksAnything Safety
IsProved a.Flooding p = HoldsForAll p AsksCrashes Safety
IsProved a.EarlyFlooding p = HoldsForAll p AsksCrashes Safety
IsProved a.FloodMin p =
    EachRun p AsksCrashes (DecidesFew 2) × HoldsForAll p AsksAnything Validity
    × HoldsForAll p AsksAnything Final
IsProved a.TwoPhaseCommit p =
    HoldsForAll p AsksAnything Agreement × HoldsForAll p AsksAnything Final
    × EachRun p AsksAnything CommitsIfAll
