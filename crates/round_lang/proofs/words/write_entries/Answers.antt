use Rattle.std.proofs.Common.{arith, ap, ◌∙◌, ◌+◌}
use Rattle.std.specs.Prelude.{slice_set, slice_index}
use Rattle.std.proofs.lemmas.List.Edits.{paste_more}
use Rattle.round_lang.proofs.words.write_entries.Goals as goal

pub loop-place-preserved : goal.loop-place-preserved
loop-place-preserved c =
    let place = c.loop-place.place in
    ap (λ entry. slice_set c.loop-place.words (c.args.first + place) entry) c.from.ensures
    ∙ ap (λ words. slice_set words (c.args.first + place) (slice_index c.args.entries.now place))
    c.loop-place.invariant
    ∙ paste_more c.args.words.now c.args.first c.args.entries.now place 0
    (omega (arith, c.requires, c.loop-place-test.true)) c.loop-place-test.true
