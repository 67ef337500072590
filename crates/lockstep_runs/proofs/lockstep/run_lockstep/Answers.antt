use Rattle.std.proofs.Common.{◌≡◌, ℕ, List, [], ap, sym, subst}
use Rattle.std.specs.Prelude.{IfSome, ◌≤◌}
use Rattle.round_meaning.specs.Omissions.{is_omitted}
use Rattle.lockstep_runs.specs.Changes.{SparesCorrect, own_delay}
use Rattle.lockstep_runs.specs.declared.changes.Changes.{Changes}
use Rattle.lockstep_runs.specs.declared.changes.MessageDelay.{MessageDelay}
use Rattle.lockstep_runs.proofs.lockstep.run_lockstep.Goals as goal

spares_none : (correct delta : ℕ) (c : Changes) → c.omissions ≡ [] → c.delays.items ≡ []
    → SparesCorrect correct delta c
spares_none correct delta c none few = record {
  kept = λ i r j x y. ap (λ os. is_omitted os i r j) none;
  prompt = λ n x y. subst
      (λ (ds : List MessageDelay). IfSome (own_delay ds n) (λ delay. delay ≤ delta)) (sym few) tt;
}

pub returns-clause-bound : goal.returns-clause-bound
returns-clause-bound g c =
    let none = c.none-changes.ensures in
    c.in_ok-run.ensures.bound
    (spares_none c.args.correct.bits c.args.bounded.now.delta c.none-changes.result
    none.omissions none.delays)

pub returns-clause-hears : goal.returns-clause-hears
returns-clause-hears g c =
    let none = c.none-changes.ensures in
    c.in_ok-run.ensures.hears
    (spares_none c.args.correct.bits c.args.bounded.now.delta c.none-changes.result
    none.omissions none.delays)
