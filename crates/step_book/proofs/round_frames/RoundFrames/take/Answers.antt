use Rattle.std.proofs.Common.{[], ◌≡◌, ◌<◌, ◌∙◌, List, None, Option, ap, length, set, subst, sym}
use Rattle.std.specs.Prelude.{All, Vec}
use Rattle.step_machine.specs.Sealed.{Frame}
use Rattle.step_book.specs.Tables.{PutsAt, SameTable}
use Rattle.step_book.proofs.Tables.{puts_at_set, puts_at_then, same_gone}
use Rattle.step_book.proofs.round_frames.RoundFrames.take.Goals as goal

pub returns-then-are_none-clause-rest : goal.returns-then-are_none-clause-rest
returns-then-are_none-clause-rest c =
    let xs : List (Option Frame) = c.self.inside.frames.items in
    let ys : List (Option Frame) = set xs c.args.place None in
    let within : c.args.place < length xs =
    subst (λ (z : List (Option Frame)). c.args.place < length z)
    (sym c.self.view_is) c.requires in
    let written : c.deref.result.now ≡ ys = c.deref.ensures.value
    ∙ ap (λ o. set xs c.args.place o) c.take-frame.ensures.free in
    let none : All (λ (o : Option Frame). o ≡ None) ys =
    subst (All (λ (o : Option Frame). o ≡ None)) written
    (c.are_none.ensures.0 c.if-are_none.true) in
    let left : c.replace.new.dest.items ≡ [] =
    ap (λ (v : Vec (Option Frame) _). v.items) c.replace.ensures.after ∙ c.new.ensures.items in
    let gone = subst (λ (z : List (Option Frame)). SameTable None ys z) (sym left)
    (same_gone None ys none) in
    subst (λ (z : List (Option Frame)). PutsAt None z c.replace.new.dest.items c.args.place None)
    c.self.view_is
    (puts_at_then None xs ys c.replace.new.dest.items c.args.place None
    (puts_at_set None xs c.args.place None within) gone)
