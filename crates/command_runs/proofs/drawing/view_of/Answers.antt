use Rattle.std.proofs.Common.{◌<◌, All, List, ℕ, false, subst, sym, true, ◌≡◌, ◌∙◌}
use Rattle.command_runs.proofs.Refusing.{no_nodes}
use Rattle.command_runs.proofs.drawing.view_of.Goals as goal

pub returns-in_err-listed-clause-none : goal.returns-in_err-listed-clause-none
returns-in_err-listed-clause-none c =
    let s = c.args.setup.now in
    let listed = c.as_slice.result.now in
    rw c.from_residual.ensures
    (λ values both. no_nodes values s listed c.in_err-listed.ensures.none (
      both.0,
      subst (λ (xs : List ℕ). All (λ n. n < s.nodes) xs) (sym c.as_slice.ensures.value)
          both.1.nodes,
    ))

pub returns-then-not-begins_by-clause-none : goal.returns-then-not-begins_by-clause-none
returns-then-not-begins_by-clause-none c = λ values both.
    let bad : false ≡ true =
    sym c.if-not-begins_by.true ∙ c.begins_by.ensures.1 both.1.rounds in absurd (cc bad)
