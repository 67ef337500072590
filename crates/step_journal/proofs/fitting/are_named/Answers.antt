use Rattle.std.proofs.Common.{◌≡◌, Some, ap, get_or, subst, sym, ◌∙◌}
use Rattle.std.specs.Prelude.{option_map, slice_get}
use Rattle.step_machine.specs.Sealed.{Frame}
use Rattle.step_journal.specs.Fitting.{IsRecorded}
use Rattle.step_journal.proofs.Named.{lent_none, named_done, named_next, named_past, none_lent}
use Rattle.step_journal.proofs.fitting.are_named.Goals as goal

pub loop-place-preserved : goal.loop-place-preserved
loop-place-preserved g c =
    let rows = c.args.book.now.log.rows in
    let frames = c.args.frames.now.items in
    let names = c.args.names.now in
    let place = c.loop-place.place in
    let name = c.index-names-place.result in
    let there : slice_get frames place ≡ Some c.in-Some.frame.now = sym c.at.ensures
    ∙ ap (λ o. option_map (λ x. x.now) o) c.in-Some.is in
    let said = c.is_named.ensures.0 c.if-not-is_named.false in
    let here : (c.in-Some.frame.now.name ≡ get_or names place name)
    × IsRecorded rows c.in-Some.frame.now =
    subst (λ (f : Frame). (f.name ≡ get_or names place name) × IsRecorded rows f) c.seen.ensures
    (said.0 ∙ c.name.ensures ∙ c.index-names-place.is, said.1) in
    named_next rows frames names place c.in-Some.frame.now name there c.loop-place-test.true here
    c.loop-place.invariant

pub returns : goal.returns
returns g c =
    let rows = c.args.book.now.log.rows in
    let frames = c.args.frames.now.items in
    let names = c.args.names.now in (
      λ none. named_done rows frames names c.loop-place.place c.loop-place-test.false
          (sym c.at-2.ensures
          ∙ none_lent (λ x. x.now) c.at-2.result c.is_none.result c.is_none.ensures none)
          c.loop-place.invariant,
      λ named. lent_none (λ x. x.now) c.at-2.result c.is_none.result c.is_none.ensures
          (c.at-2.ensures ∙ named_past rows frames names named),
    )
