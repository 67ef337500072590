-- What is proved of two-phase commit, for all setups.
use Rattle.std.proofs.Common.{◌≡◌, ℕ, ◌<◌, List, sym, ◌∙◌, arith}
use Rattle.std.proofs.lemmas.List.Elements.{All-from_get_or}
use Rattle.round_meaning.specs.declared.setup.Setup.{Setup}
use Rattle.round_explorer.specs.declared.property.Property.TheVariants.{Agreement, Final}
use Rattle.round_explorer.specs.declared.question.Failure.{Failure}
use Rattle.round_explorer.specs.declared.question.Question.{Question}
use Rattle.round_explorer.specs.Answers.{in_rounds, run_of, with_inputs}
use Rattle.round_explorer.specs.Questions.{Messages}
use Rattle.round_proofs.specs.Asking.{AsksAnything}
use Rattle.round_proofs.specs.Explored.{Counted, EachRun, HoldsForAll, IsRun}
use Rattle.round_proofs.proofs.Explored.{agreed_for_all, asked_run, sized_in}
use Rattle.round_proofs.proofs.Safe.{at, holds, spelt}
use Rattle.shelf_proofs.specs.Commits.{CommitsIfAll}
use Rattle.shelf_proofs.specs.TwoPhaseCommit.{two_phase_commit_tree}
use Rattle.shelf_proofs.proofs.TwoPhaseCommitSafe.{Inv, Locked, locks, two_phase_commit_agrees}
use Rattle.shelf_proofs.proofs.TwoPhaseCommitSafe.{two_phase_commit_kept}
use Rattle.shelf_proofs.proofs.TwoPhaseCommitSteps.{decided, letter, machine, shows, spells, state}

both : HoldsForAll (two_phase_commit_tree 2) AsksAnything Agreement
    × HoldsForAll (two_phase_commit_tree 2) AsksAnything Final
both =
    agreed_for_all (two_phase_commit_tree 2) AsksAnything (machine 2) state letter decided
    (λ s pattern. Inv s) (λ s pattern. Locked s) (spells 2) (shows 2)
    (λ s question pattern omits run. (
      two_phase_commit_agrees s omits s.rounds (Counted s pattern) (λ i r c. c.0) run.fit,
      two_phase_commit_kept s omits s.rounds (Counted s pattern) (λ i r c. c.0),
    ))

pub agrees : HoldsForAll (two_phase_commit_tree 2) AsksAnything Agreement
agrees = both.0

pub is_final : HoldsForAll (two_phase_commit_tree 2) AsksAnything Final
is_final = both.1

run_commits : (s : Setup) (question : Question) (inputs : List ℕ) (pattern : List Failure)
    (omits : Messages) (last : ℕ) → IsRun 2 AsksAnything (with_inputs s inputs) question pattern
    omits
    → CommitsIfAll (run_of (two_phase_commit_tree 2) s inputs pattern omits) last
run_commits s question inputs pattern omits last run i r a =
    let z = with_inputs s inputs in
    let m = machine 2 z.nodes z.faults in
    let safe = two_phase_commit_agrees z omits r (λ i r. i < z.nodes) (λ i r c. c) run.fit in
    let d = sym (spelt (two_phase_commit_tree 2) z m state letter decided
    (spells 2 z.nodes z.faults)
    (shows 2) omits r i) ∙ a.decides in
    let l = locks z r (at m z 2 omits r) i 1
    (holds m z 2 omits r (λ i r. i < z.nodes) decided (Inv z) (Locked z) safe r (omega arith))
    a.known d in
    All-from_get_or (λ x. x ≡ 1) inputs 0
    (λ j lt. l.settled.commit l.same j (omega (arith, run.fit.inputs)))

pub commits : EachRun (two_phase_commit_tree 2) AsksAnything CommitsIfAll
commits s question sized asks rounds inputs pattern omits asked =
    run_commits (in_rounds s rounds) question inputs pattern omits rounds
    (asked_run (two_phase_commit_tree 2) AsksAnything (in_rounds s rounds) question inputs pattern
    omits (sized_in s rounds sized) asks asked)
