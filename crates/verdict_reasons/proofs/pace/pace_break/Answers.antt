use Rattle.std.proofs.Common.{◌∙◌, refl, reverse, sym, ap, subst, arith}
use Rattle.std.proofs.lemmas.List.{take_all}
use Rattle.run_events.specs.declared.event.Event.TheVariants.{Step}
use Rattle.step_book.specs.Log.{history, world_of}
use Rattle.step_book.proofs.Moments.{At}
use Rattle.omission_explainer.proofs.Moments.{at_moment, moment_at, moment_short, next_moment}
use Rattle.omission_explainer.proofs.Passes.{IsPacedTo, count_below, passed_none}
use Rattle.omission_explainer.proofs.Verdicts.{lockstep_placed}
use Rattle.verdict_reasons.proofs.Paced.{break_found, paced_other, paced_step}
use Rattle.verdict_reasons.proofs.pace.pace_break.Goals as goal
use Rattle.verdict_reasons.proofs.pace.pace_break.Goals.{in-Some+in_default, in-None}

pub loop-place-init : goal.loop-place-init
loop-place-init g c =
    let p = c.args.book.now.plan in
    let v = c.args.book.now.log in
    let none = passed_none (world_of (g.P.Plan.start p) v) (history v) c.args.correct.bits 0 0 in
    record { tallied = none.tallied; paced = none.paced.0 refl }

pub returns-in-Some-node_behind : goal.returns-in-Some-node_behind
returns-in-Some-node_behind g c =
    let v = c.args.book.now.log in
    let xs = c.trace-event-items.result.now in
    let i = c.loop-place.place in
    let k = c.in-Some.node in
    let step = c.in-Some.ensures in
    let low = c.loop-place-test.true in
    let p = moment_at i xs in
    let stands : At p (Step k) (history v) =
    subst (λ z. At p (Step k) (reverse z)) c.trace-event-items.ensures.value
    (at_moment xs i _ (Step k) low (sym c.event-item.is ∙ sym c.event.ensures ∙ step.step)) in
    break_found v.trace c.args.correct.bits k i p c.loop-place.counts stands
    (moment_short xs i (omega arith)) step.correct_node c.loop-place.invariant.tallied
    c.in-Some-node_behind.behind c.loop-place.invariant.paced c.in-Some-node_behind.ensures

pub overflow_add-counts : goal.overflow_add-counts
overflow_add-counts g c =
    let xs = c.trace-event-items.result.now in
    let i = c.loop-place.place in
    let low = c.loop-place-test.true in
    let short = moment_short xs i (omega arith) in
    let below = count_below c.args.correct.bits c.in-Some.node (moment_at i xs)
    c.loop-place.counts c.in-Some.ensures.correct_node c.loop-place.invariant.tallied in
    omega (arith, short, below)

pub loop-place-preserved : goal.loop-place-preserved
loop-place-preserved g c =
    let correct = c.args.correct.bits in
    let xs = c.trace-event-items.result.now in
    let i = c.loop-place.place in
    let low = c.loop-place-test.true in
    elim c.match-correct_step.branch [
      | in-Some+in_default w ↦
          let k = w.in-Some.node in
          let step = w.in-Some.ensures in
          let few = c.agrees.ensures.lawful.sized.few_nodes in
          let node = c.requires k step.correct_node in
          rw (
            next_moment xs i _ (Step k) low (sym c.event-item.is ∙ sym c.event.ensures ∙ step.step),
            w.counts-is,
          )
          (paced_step correct k (moment_at i xs) c.loop-place.counts step.correct_node (omega arith)
          w.in_default.ensures c.loop-place.invariant)
      | in-None w ↦
          rw (
            next_moment xs i _ c.event.result low (sym c.event-item.is ∙ sym c.event.ensures),
            w.counts-is,
          )
          (paced_other correct (moment_at i xs) c.loop-place.counts c.event.result w.in-None.ensures
          c.loop-place.invariant)
    ]

pub returns : goal.returns
returns g c =
    let v = c.args.book.now.log in
    let xs = c.trace-event-items.result.now in
    (lockstep_placed v.trace c.args.correct.bits).0
    (subst (IsPacedTo c.args.correct.bits)
    (ap reverse (take_all c.loop-place.place xs c.loop-place-test.false
    ∙ c.trace-event-items.ensures.value)) c.loop-place.invariant.paced)
