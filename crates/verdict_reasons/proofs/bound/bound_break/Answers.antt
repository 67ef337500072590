use Rattle.std.proofs.Common.{◌≡◌, ◌∙◌, length, refl, reverse, sym, ap, subst, arith}
use Rattle.std.specs.Prelude.{MatchOption}
use Rattle.std.proofs.lemmas.List.{take_all}
use Rattle.run_events.specs.declared.event.Event.TheVariants.{Step}
use Rattle.step_book.specs.Log.{history, world_of}
use Rattle.step_book.specs.World.{nodes_of}
use Rattle.step_book.proofs.Moments.{At}
use Rattle.step_book.proofs.Reading.{nodes_are}
use Rattle.step_book.proofs.Starts.{plan_is}
use Rattle.omission_explainer.specs.Lateness.{KeepsBound}
use Rattle.omission_explainer.specs.Verdict.{AreNodes}
use Rattle.omission_explainer.proofs.Moments.{at_moment, moment_at, moment_short, next_moment}
use Rattle.omission_explainer.proofs.Passes.{count_below, passed_none}
use Rattle.verdict_reasons.specs.Bound.{IsBreakAt}
use Rattle.verdict_reasons.specs.Correct.{AreCounts}
use Rattle.verdict_reasons.proofs.Best.{counts_there, sought_all, sought_other, sought_step}
use Rattle.verdict_reasons.proofs.Standing.{there_at}
use Rattle.verdict_reasons.proofs.bound.bound_break.Goals as goal
use Rattle.verdict_reasons.proofs.bound.bound_break.Goals.{in-Some, in-None}

pub loop-place-init : goal.loop-place-init
loop-place-init g c =
    let v = c.args.book.now.log in
    let none = passed_none (world_of (g.P.Plan.start c.args.book.now.plan) v) (history v)
    c.args.correct.bits c.args.delta c.args.gst in
    record { tallied = none.tallied; best = none.bounded.0 refl }

pub break_by-next-requires-clause-counts : goal.break_by-next-requires-clause-counts
break_by-next-requires-clause-counts g c =
    let v = c.args.book.now.log in
    let start = g.P.Plan.start c.args.book.now.plan in
    let correct = c.args.correct.bits in
    let xs = c.trace-event-items.result.now in
    let i = c.loop-place.place in
    let k = c.in-Some.node in
    let step = c.in-Some.ensures in
    let low = c.loop-place-test.true in
    let p = moment_at i xs in
    let stands : At p (Step k) (history v) =
    subst (λ z. At p (Step k) (reverse z)) c.trace-event-items.ensures.value
    (at_moment xs i _ (Step k) low (sym c.event-item.is ∙ sym c.event.ensures ∙ step.step)) in
    subst (AreCounts v.trace correct c.loop-place.counts) (moment_short xs i (omega arith))
    (counts_there start v correct c.args.delta c.args.gst k p stands c.loop-place.counts
    step.correct_node c.loop-place.invariant.tallied)

pub break_by-next-requires-clause-there : goal.break_by-next-requires-clause-there
break_by-next-requires-clause-there g c =
    let v = c.args.book.now.log in
    let xs = c.trace-event-items.result.now in
    let i = c.loop-place.place in
    let k = c.in-Some.node in
    let low = c.loop-place-test.true in
    let p = moment_at i xs in
    let stands : At p (Step k) (history v) =
    subst (λ z. At p (Step k) (reverse z)) c.trace-event-items.ensures.value
    (at_moment xs i _ (Step k) low (sym c.event-item.is ∙ sym c.event.ensures
    ∙ c.in-Some.ensures.step)) in
    there_at v.trace (Step k) i p stands (moment_short xs i (omega arith))

pub overflow_add-counts : goal.overflow_add-counts
overflow_add-counts g c =
    let xs = c.trace-event-items.result.now in
    let i = c.loop-place.place in
    let low = c.loop-place-test.true in
    let short = moment_short xs i (omega arith) in
    let below = count_below c.args.correct.bits c.in-Some.node (moment_at i xs)
    c.loop-place.counts c.in-Some.ensures.correct_node c.loop-place.invariant.tallied in
    omega (arith, short, below)

pub loop-place-preserved : goal.loop-place-preserved
loop-place-preserved g c =
    let v = c.args.book.now.log in
    let plan = c.args.book.now.plan in
    let start = g.P.Plan.start plan in
    let w = world_of start v in
    let correct = c.args.correct.bits in
    let delta = c.args.delta in
    let gst = c.args.gst in
    let xs = c.trace-event-items.result.now in
    let i = c.loop-place.place in
    let low = c.loop-place-test.true in
    let p = moment_at i xs in
    let counts = c.loop-place.counts in
    let found = c.loop-place.found in
    elim c.match-correct_step.branch [
      | in-Some u ↦
          let k = u.in-Some.node in
          let step = u.in-Some.ensures in
          let here = step.correct_node in
          let n = nodes_are start v in
          let few = c.agrees.ensures.lawful.sized.few_nodes in
          let nodes : AreNodes (nodes_of w) correct =
          λ j h. (let l = c.requires.within j h in omega arith) in
          let stands : At p (Step k) (history v) =
          subst (λ z. At p (Step k) (reverse z)) c.trace-event-items.ensures.value
          (at_moment xs i _ (Step k) low (sym c.event-item.is ∙ sym c.event.ensures ∙ step.step)) in
          let long : length p ≡ i = moment_short xs i (omega arith) in
          let next = u.break_by-next.result in
          let more = subst (λ z. MatchOption next
          (KeepsBound w (history v) correct delta gst counts k)
          (IsBreakAt start v correct delta gst z)) (sym long) u.break_by-next.ensures in
          rw (
            next_moment xs i _ (Step k) low (sym c.event-item.is ∙ sym c.event.ensures ∙ step.step),
            u.counts-is,
            u.found-is,
            u.sooner-found.ensures,
          )
          (sought_step start v correct delta gst k p stands counts here
          c.loop-place.invariant.tallied
          (plan_is start (g.P.Plan.receives plan) (g.P.Plan.nodes plan) v (g.met.P.Plan.laws plan)
          c.agrees.ensures.sized) nodes found next (omega arith) c.loop-place.invariant more)
      | in-None u ↦
          let e = c.event.result in
          let stands : At p e (history v) =
          subst (λ z. At p e (reverse z)) c.trace-event-items.ensures.value
          (at_moment xs i _ e low (sym c.event-item.is ∙ sym c.event.ensures)) in
          rw (
            next_moment xs i _ e low (sym c.event-item.is ∙ sym c.event.ensures),
            u.counts-is,
            u.found-is,
          )
          (sought_other start v correct delta gst e p stands counts found u.in-None.ensures
          c.loop-place.invariant)
    ]

pub returns : goal.returns
returns g c =
    let v = c.args.book.now.log in
    let xs = c.trace-event-items.result.now in
    sought_all (g.P.Plan.start c.args.book.now.plan) v c.args.correct.bits c.args.delta c.args.gst
    c.requires.within (moment_at c.loop-place.place xs) c.loop-place.counts c.loop-place.found
    (ap reverse (take_all c.loop-place.place xs c.loop-place-test.false
    ∙ c.trace-event-items.ensures.value)) c.loop-place.invariant
