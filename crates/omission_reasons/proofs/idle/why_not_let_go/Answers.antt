use Rattle.std.proofs.Common.{ℕ, ◌+◌, Option, subst}
use Rattle.std.specs.Prelude.{MatchOption}
use Rattle.std.proofs.lemmas.Bool.{both_ways}
use Rattle.step_book.specs.Log.{world_of}
use Rattle.omission_reasons.specs.Departures.{IsGone, LeavesAt}
use Rattle.omission_reasons.proofs.Idling.{absent_by, late_by, left_blocks, loud_spoken}
use Rattle.omission_reasons.proofs.idle.why_not_let_go.Goals as goal

pub returns-then-is_at : goal.returns-then-is_at
returns-then-is_at g c =
    let start = g.P.Plan.start c.args.book.now.plan in
    let v = c.args.book.now.log in
    let n = c.args.name in
    let w = world_of start v in
    let at : LeavesAt w v.trace n c.args.place =
    subst (λ (z : Option ℕ). MatchOption z (IsGone w v.trace n → ⊥) (LeavesAt w v.trace n))
    (c.is_at.ensures.0 c.if-is_at.true) c.leaving-left.ensures in
    record {
      leaves = at;
      message = loud_spoken start v n
          (λ e. both_ways c.is_silent.result c.if-is_silent.false (c.is_silent.ensures.1 e))
          at.made_at at.made;
    }

pub returns : goal.returns
returns g c =
    let place = c.args.place in
    absent_by (g.P.Plan.start c.args.book.now.plan) c.args.book.now.log c.args.name
    c.leaving-left.result place (place + 1) c.absence.result c.leaving-left.ensures
    (left_blocks (g.P.Plan.start c.args.book.now.plan) c.args.book.now.log c.args.name place
    c.requires.event) c.absence.ensures.none c.absence.ensures.gone c.absence.ensures.early
    (late_by c.leaving-left.result place
    (λ e. both_ways c.is_at.result c.if-is_at.false (c.is_at.ensures.1 e)))
