use Rattle.std.proofs.Common.{◌≡◌, None, arith, sym, ap, ◌∙◌, refl}
use Rattle.std.specs.Prelude.{option_map}
use Rattle.std.proofs.lemmas.List.{get_or_default}
use Rattle.step_machine.specs.Sealed.{held_at}
use Rattle.step_book.specs.Work.{tag_of}
use Rattle.step_book.proofs.Reading.{nodes_are, nodes_view, one_of}
use Rattle.step_book.proofs.book.Book.are_carried.Goals as goal

pub returns-then-not-is_carried : goal.returns-then-not-is_carried
returns-then-not-is_carried g c =
    let v = c.args.self.now in
    let nodes = nodes_view c.self.view_is in
    let test = c.loop-from-test.true in
    let read : held_at c.args.frames.now c.loop-from.from ≡ c.index-frames-from.result =
    get_or_default c.args.frames.now c.loop-from.from None c.index-frames-from.result
    (omega (arith, c.requires.sized)) ∙ sym c.index-frames-from.is in (
      λ e. cc,
      λ all. (let on = c.is_carried.ensures.1 (ap (option_map tag_of) (sym read)
          ∙ all c.loop-from.from (one_of (g.P.Plan.start v.plan) v.log c.loop-from.from
          (omega arith))) in cc),
    )

pub returns : goal.returns
returns g c =
    let v = c.args.self.now in
    let nodes = nodes_view c.self.view_is in
    let world = nodes_are (g.P.Plan.start v.plan) v.log in
    let end = c.loop-from-test.false in
    (λ e j l. c.loop-from.invariant j (omega arith), λ all. refl)
