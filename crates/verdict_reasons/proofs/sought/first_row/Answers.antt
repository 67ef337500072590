use Rattle.std.proofs.Common.{◌∙◌, Some, ap, sym, arith}
use Rattle.std.proofs.lemmas.Bool.{both_ways}
use Rattle.std.proofs.lemmas.Option.{slice_get-get_or, slice_get_within}
use Rattle.verdict_reasons.specs.Seeking.{IsSought}
use Rattle.verdict_reasons.proofs.Rowed.{none_next}
use Rattle.verdict_reasons.proofs.sought.first_row.Goals as goal

pub loop-place-preserved : goal.loop-place-preserved
loop-place-preserved c =
    let rows = c.args.rows.now in
    let place = c.loop-place.place in
    let row = c.index-rows-place.result in
    let started = c.loop-place.invariant.started in
    record {
      started = omega arith;
      none = none_next rows (IsSought c.args.sought) c.args.from place row
          c.loop-place.invariant.none
          (slice_get-get_or rows place row c.loop-place-test.true
          ∙ ap Some (sym c.index-rows-place.is))
          (λ s. both_ways c.is_sought.result c.if-is_sought.false (c.is_sought.ensures.1 s));
    }

pub returns : goal.returns
returns c = λ k low at.
    let within = slice_get_within c.args.rows.now k at.row at.there in
    c.loop-place.invariant.none k low (omega (arith, c.loop-place-test.false)) at
