use Rattle.std.proofs.Common.{◌≡◌, ◌∙◌, ◌↔◌, true, reverse, sym, ap, subst, refl, arith}
use Rattle.std.proofs.lemmas.Bool.{both_ways}
use Rattle.std.proofs.lemmas.List.{take_all}
use Rattle.std.specs.Prelude.{IfSome}
use Rattle.round_lang.specs.Sets.{is_in}
use Rattle.slot_plans.specs.Plan.{IsClearRound}
use Rattle.run_events.specs.declared.event.Event.TheVariants.{Step, Release, Drop, Copy}
use Rattle.step_book.specs.Log.{history, world_of}
use Rattle.step_book.specs.World.{IsPlan, nodes_of}
use Rattle.step_book.proofs.Moments.{At}
use Rattle.step_book.proofs.Reading.{nodes_are}
use Rattle.step_book.proofs.Starts.{plan_is}
use Rattle.omission_explainer.specs.Lateness.{KeepsBound, KeepsPace}
use Rattle.omission_explainer.specs.Verdict.{AreNodes, HearsFrom, IsDelayBound, IsLockstep}
use Rattle.omission_explainer.proofs.Clear.{clear_hears}
use Rattle.omission_explainer.proofs.Keeping.{has_member, member_of}
use Rattle.omission_explainer.proofs.Moments.{moment_at, moment_short, next_moment, at_moment}
use Rattle.omission_explainer.proofs.Passes.{IsBoundTo, IsOther, IsPacedTo, through, passed_none}
use Rattle.omission_explainer.proofs.Passes.{passed_other, passed_step, count_below, other_step}
use Rattle.omission_explainer.proofs.Passes.{and_then, and_not}
use Rattle.omission_explainer.proofs.Verdicts.{bound_placed, lockstep_placed}
use Rattle.omission_explainer.proofs.judging.judge.Goals as goal
use Rattle.omission_explainer.proofs.judging.judge.Goals.{in-Step+then-contains}
use Rattle.omission_explainer.proofs.judging.judge.Goals.{in-Step+else-contains, in-Release}
use Rattle.omission_explainer.proofs.judging.judge.Goals.{in-Drop, in-Copy, then-lockstep}
use Rattle.omission_explainer.proofs.judging.judge.Goals.{else-lockstep, then-bound, else-bound}

pub loop-event-init : goal.loop-event-init
loop-event-init g c =
    let p = c.book-book.result.now.plan in
    let v = c.book-book.result.now.log in
    passed_none (world_of (g.P.Plan.start p) v) (history v) c.args.correct.bits c.args.delta
    c.args.gst

pub overflow_add-counts : goal.overflow_add-counts
overflow_add-counts g c =
    let here = member_of c.args.correct.bits c.in-Step.node (sym c.contains.ensures
    ∙ c.if-contains.true) in
    let xs = c.trace-event-items.result.now in
    let i = c.loop-event.event-index in
    let low = c.loop-event-test.true in
    let short = moment_short xs i (omega arith) in
    let below = count_below c.args.correct.bits c.in-Step.node
    (moment_at i xs) c.loop-event.counts here c.loop-event.invariant.tallied in
    omega (arith, short, below)

pub loop-event-preserved : goal.loop-event-preserved
loop-event-preserved g c =
    let p = c.book-book.result.now.plan in
    let v = c.book-book.result.now.log in
    let start = g.P.Plan.start p in
    let w = world_of start v in
    let t = history v in
    let correct = c.args.correct.bits in
    let delta = c.args.delta in
    let gst = c.args.gst in
    let xs = c.trace-event-items.result.now in
    let i = c.loop-event.event-index in
    let at = moment_at i xs in
    let low = c.loop-event-test.true in
    let a = c.loop-event.invariant in
    let counts = c.loop-event.counts in
    elim c.match-event.branch [
      | in-Step+then-contains w' ↦
          let k = w'.in-Step.node in
          let here = member_of correct k (sym w'.contains.ensures ∙ w'.if-contains.true) in
          let n = nodes_are start v in
          let plan : IsPlan w = plan_is start (g.P.Plan.receives p) (g.P.Plan.nodes p) v
          (g.met.P.Plan.laws p) c.agrees.ensures.sized in
          let same : c.book-book.result.now.log.setup.nodes ≡ c.args.journal.now.log.setup.nodes =
          ap (λ z. z.log.setup.nodes) c.book-book.ensures in
          let within : AreNodes (nodes_of w) correct =
          λ j h. (let l = c.requires j h in omega arith) in
          let few = c.agrees.ensures.lawful.sized.few_nodes in
          let stands : At at (Step k) t =
          subst (λ z. At at (Step k) (reverse z)) c.trace-event-items.ensures.value
          (at_moment xs i _ (Step k) low (sym c.event-item.is ∙ sym c.event.ensures
          ∙ w'.in-Step.is)) in
          let paced : (w'.if-lockstep.lockstep ≡ true)
          ↔ ((c.loop-event.lockstep ≡ true) × KeepsPace correct counts k) =
          elim w'.if-lockstep.branch [
            | then-lockstep u ↦ and_then c.loop-event.lockstep w'.if-lockstep.lockstep
                u.keeps_pace-lockstep.result u.if-lockstep.true u.lockstep-is
                u.keeps_pace-lockstep.ensures
            | else-lockstep u ↦ and_not c.loop-event.lockstep w'.if-lockstep.lockstep
                u.if-lockstep.false u.lockstep-is
          ] in
          let bounded : (w'.if-bound.bound ≡ true)
          ↔ ((c.loop-event.bound ≡ true) × KeepsBound w t correct delta gst counts k) =
          elim w'.if-bound.branch [
            | then-bound u ↦ and_then c.loop-event.bound w'.if-bound.bound
                u.keeps_bound-bound.result u.if-bound.true u.bound-is u.keeps_bound-bound.ensures
            | else-bound u ↦ and_not c.loop-event.bound w'.if-bound.bound u.if-bound.false
                u.bound-is
          ] in
          let next = passed_step w t correct delta gst k at counts c.loop-event.lockstep
          c.loop-event.bound w'.if-lockstep.lockstep w'.if-bound.bound plan within
          (omega arith) here stands paced bounded a in
          rw (
            next_moment xs i _ (Step k) low (sym c.event-item.is ∙ sym c.event.ensures
                ∙ w'.in-Step.is),
            w'.counts-is,
            w'.lockstep-is,
            w'.bound-is,
          ) next
      | in-Step+else-contains w' ↦
          let k = w'.in-Step.node in
          let n = c.agrees.ensures.lawful.sized.few_nodes in
          let same : c.book-book.result.now.log.setup.nodes ≡ c.args.journal.now.log.setup.nodes =
          ap (λ z. z.log.setup.nodes) c.book-book.ensures in
          let out = λ (h : is_in correct k ≡ true). both_ways w'.contains.result
          w'.if-contains.false (w'.contains.ensures
          ∙ has_member correct k (let l = c.requires k h in omega arith) h) in
          let other : IsOther correct (Step k) = other_step correct k out in
          rw (
            next_moment xs i _ (Step k) low (sym c.event-item.is ∙ sym c.event.ensures
                ∙ w'.in-Step.is),
            w'.counts-is,
            w'.lockstep-is,
            w'.bound-is,
          )
          (passed_other w t correct delta gst at counts c.loop-event.lockstep c.loop-event.bound
          (Step k) other a)
      | in-Release w' ↦
          let e = Release w'.in-Release.field-0 in
          let other : IsOther correct e = λ j h. refl in
          rw (
            next_moment xs i _ e low (sym c.event-item.is ∙ sym c.event.ensures
                ∙ w'.in-Release.is),
            w'.counts-is,
            w'.lockstep-is,
            w'.bound-is,
          )
          (passed_other w t correct delta gst at counts c.loop-event.lockstep c.loop-event.bound e
          other a)
      | in-Drop w' ↦
          let e = Drop w'.in-Drop.field-0 in
          let other : IsOther correct e = λ j h. refl in
          rw (
            next_moment xs i _ e low (sym c.event-item.is ∙ sym c.event.ensures ∙ w'.in-Drop.is),
            w'.counts-is,
            w'.lockstep-is,
            w'.bound-is,
          )
          (passed_other w t correct delta gst at counts c.loop-event.lockstep c.loop-event.bound e
          other a)
      | in-Copy w' ↦
          let e = Copy w'.in-Copy.field-0 in
          let other : IsOther correct e = λ j h. refl in
          rw (
            next_moment xs i _ e low (sym c.event-item.is ∙ sym c.event.ensures ∙ w'.in-Copy.is),
            w'.counts-is,
            w'.lockstep-is,
            w'.bound-is,
          )
          (passed_other w t correct delta gst at counts c.loop-event.lockstep c.loop-event.bound e
          other a)
    ]

pub returns-clause-lockstep : goal.returns-clause-lockstep
returns-clause-lockstep g c =
    let v = c.book-book.result.now.log in
    let xs = c.trace-event-items.result.now in
    let whole : moment_at c.loop-event.event-index xs ≡ history v =
    ap reverse (take_all c.loop-event.event-index xs c.loop-event-test.false
    ∙ c.trace-event-items.ensures.value) in
    let paced : (c.loop-event.lockstep ≡ true) ↔ IsPacedTo c.args.correct.bits (history v) =
    subst (λ z. (c.loop-event.lockstep ≡ true) ↔ IsPacedTo c.args.correct.bits z) whole
    c.loop-event.invariant.paced in
    subst (λ z. (c.loop-event.lockstep ≡ true) ↔ IsLockstep z.log.trace c.args.correct.bits)
    c.book-book.ensures
    (through paced (lockstep_placed v.trace c.args.correct.bits))

pub returns-clause-bound : goal.returns-clause-bound
returns-clause-bound g c =
    let p = c.book-book.result.now.plan in
    let v = c.book-book.result.now.log in
    let xs = c.trace-event-items.result.now in
    let whole : moment_at c.loop-event.event-index xs ≡ history v =
    ap reverse (take_all c.loop-event.event-index xs c.loop-event-test.false
    ∙ c.trace-event-items.ensures.value) in
    let same : v.setup.nodes ≡ c.args.journal.now.log.setup.nodes =
    ap (λ z. z.log.setup.nodes) c.book-book.ensures in
    let within : AreNodes v.setup.nodes c.args.correct.bits =
    λ j h. (let l = c.requires j h in omega arith) in
    let bound : (c.loop-event.bound ≡ true)
    ↔ IsBoundTo (world_of (g.P.Plan.start p) v) (history v) c.args.correct.bits c.args.delta
    c.args.gst (history v) =
    subst (λ z. (c.loop-event.bound ≡ true)
    ↔ IsBoundTo (world_of (g.P.Plan.start p) v) (history v) c.args.correct.bits c.args.delta
    c.args.gst z) whole c.loop-event.invariant.bounded in
    subst (λ z. (c.loop-event.bound ≡ true)
    ↔ IsDelayBound (g.P.Plan.start z.plan) z.log c.args.correct.bits c.args.delta c.args.gst)
    c.book-book.ensures
    (through bound (bound_placed (g.P.Plan.start p) v c.args.correct.bits c.args.delta c.args.gst
    within))

pub returns-clause-hears : goal.returns-clause-hears
returns-clause-hears g c = λ on kept.
    let p = c.book-book.result.now.plan in
    let v = c.book-book.result.now.log in
    let xs = c.trace-event-items.result.now in
    let whole : moment_at c.loop-event.event-index xs ≡ history v =
    ap reverse (take_all c.loop-event.event-index xs c.loop-event-test.false
    ∙ c.trace-event-items.ensures.value) in
    let same : v.setup.nodes ≡ c.args.journal.now.log.setup.nodes =
    ap (λ z. z.log.setup.nodes) c.book-book.ensures in
    let within : AreNodes v.setup.nodes c.args.correct.bits =
    λ j h. (let l = c.requires j h in omega arith) in
    let paced : IsPacedTo c.args.correct.bits (history v) =
    subst (λ z. IsPacedTo c.args.correct.bits z) whole (c.loop-event.invariant.paced.0 on) in
    let bounded : IsBoundTo (world_of (g.P.Plan.start p) v)
    (history v) c.args.correct.bits c.args.delta c.args.gst (history v) =
    subst (λ z. IsBoundTo (world_of (g.P.Plan.start p) v)
    (history v) c.args.correct.bits c.args.delta c.args.gst z) whole
    (c.loop-event.invariant.bounded.0 kept) in
    let clear : IsClearRound (g.P.Plan.receives p)
    (g.P.Plan.start p) c.args.delta c.args.gst c.clear_round.result =
    subst (λ z. IsClearRound (g.P.Plan.receives z)
    (g.P.Plan.start z) c.args.delta c.args.gst c.clear_round.result) c.plan.ensures.value
    c.clear_round.ensures in
    subst (λ z. IfSome c.clear_round.result
    (HearsFrom (g.P.Plan.start z.plan) z.log c.args.correct.bits)) c.book-book.ensures
    (clear_hears (g.P.Plan.start p) (g.P.Plan.receives p)
    (g.P.Plan.nodes p) v c.args.correct.bits c.args.delta c.args.gst c.clear_round.result
    (g.met.P.Plan.laws p) c.agrees.ensures.sized c.agrees.ensures.faithful within paced bounded
    clear)
