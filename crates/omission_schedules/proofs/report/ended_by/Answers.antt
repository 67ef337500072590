use Rattle.std.proofs.Common.{◌≡◌, ℕ, ◌+◌, ◌-◌, ◌∙◌, ap, sym, arith, length, true, false}
use Rattle.std.specs.Prelude.{filter, slice_index}
use Rattle.std.specs.List.{range_with_len}
use Rattle.omission_schedules.specs.Reports.{is_ended}
use Rattle.omission_schedules.proofs.Listing.{counted_to}
use Rattle.omission_schedules.proofs.report.ended_by.Goals as goal
use Rattle.omission_schedules.proofs.report.ended_by.Goals.{then-is_ended, else-is_ended}

pub loop-round-preserved : goal.loop-round-preserved
loop-round-preserved g c =
    let p = λ (r : ℕ). is_ended (g.P.Plan.start c.args.run.now.plan)
    (slice_index c.args.run.now.stops.now) (r, c.args.node) in
    let r = c.loop-round.round in
    let before = c.loop-round.invariant in
    let first = c.loop-round.auto.round in
    elim c.if-is_ended.branch [
      | then-is_ended w ↦ record {
        counted = counted_to p r c.loop-round.ended _ true first before.counted
            (sym w.if-is_ended.true ∙ c.is_ended.ensures) w.ended-is;
        few = omega (arith, before.few, w.ended-is);
      }
      | else-is_ended w ↦
          let same : c.if-is_ended.ended ≡ c.loop-round.ended + 0 = omega (arith, w.ended-is) in
          record {
            counted = counted_to p r c.loop-round.ended _ false first before.counted
                (sym w.if-is_ended.false ∙ c.is_ended.ensures) same;
            few = omega (arith, before.few, w.ended-is);
          }
    ]

pub returns : goal.returns
returns g c =
    let p = λ (r : ℕ). is_ended (g.P.Plan.start c.args.run.now.plan)
    (slice_index c.args.run.now.stops.now) (r, c.args.node) in
    let all : c.loop-round.round - 1 ≡ c.args.run.now.setup.now.rounds =
    omega (arith, c.loop-round-test.false, c.loop-round.auto.round-end) in
    c.loop-round.invariant.counted ∙ ap (λ k. length (filter p (range_with_len 1 k))) all
