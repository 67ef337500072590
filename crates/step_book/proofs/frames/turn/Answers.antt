use Rattle.std.proofs.Common.{ap, arith, length, subst, sym, ◌∙◌}
use Rattle.step_book.specs.Pieces.{AreFull}
use Rattle.step_book.proofs.Pieces.{first_full, left_turned, none_left, none_of, rest_full}
use Rattle.step_book.proofs.frames.turn.Goals as goal

pub returns-in-Some-clause-full : goal.returns-in-Some-clause-full
returns-in-Some-clause-full c =
    rest_full 16 c.in-Some.next _
    (subst (λ full. AreFull 16 full) c.in-Some.ensures.items c.requires.full)

pub returns-in-Some-clause-same : goal.returns-in-Some-clause-same
returns-in-Some-clause-same c =
    left_turned _ _ c.in-Some.next _ _ _ c.requires.end c.in-Some.ensures.items
    c.into_iter.ensures.rest

pub returns-in-Some-clause-end : goal.returns-in-Some-clause-end
returns-in-Some-clause-end c =
    let full = first_full 16 c.in-Some.next _
    (subst (λ full. AreFull 16 full) c.in-Some.ensures.items c.requires.full) in
    λ e. absurd (let none = ap length (sym c.into_iter.ensures.rest ∙ e) in
    omega (arith, full, none))

pub returns-in-None-clause-end : goal.returns-in-None-clause-end
returns-in-None-clause-end c =
    let rest = c.next.new.self.rest in
    λ e. none_left _ rest.items _ e
    (none_of rest.items (sym rest.ok.0 ∙ c.in-None.ensures.cases.1))
    (ap (λ it. it.rest.items) c.swap.ensures.y_after ∙ c.requires.end)
