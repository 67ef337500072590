use Rattle.std.proofs.Common.{◌≡◌, ◌∙◌, ◌+◌, ◌-◌, ◌≤◌, ◌⊎◌, Bool, true, false, ap, arith, inl, inr}
use Rattle.std.proofs.Common.{refl}
use Rattle.std.proofs.Common.{subst, sym}
use Rattle.std.proofs.lemmas.Bool.{lt-ltb}
use Rattle.std.specs.BTreeMap as tree
use Rattle.std.specs.Prelude.{IsTrue, not}
use Rattle.round_meaning.specs.declared.setup.Setup.{Setup}
use Rattle.step_book.proofs.Starts.{plan_is}
use Rattle.step_book.specs.Log.{HasBook, Recorded, opened}
use Rattle.lockstep_runs.specs.Changes.{timing_by}
use Rattle.lockstep_runs.specs.IdleTicks.{IsWholeRun, followed, idle_steps}
use Rattle.lockstep_runs.proofs.IdleTicks.{IsQuiet, whole_run}
use Rattle.lockstep_runs.proofs.Ticks.{IsTicked, ticked_first}
use Rattle.lockstep_runs.proofs.idle.run.Goals as goal
use Rattle.lockstep_runs.proofs.idle.run.Goals.{then-loop-now-test+else-not-is_empty}
use Rattle.lockstep_runs.proofs.idle.run.Goals.{then-now-over, else-now-over, else-loop-now-test}

pub loop-now-init : goal.loop-now-init
loop-now-init g c =
    let p = c.args.plan in
    let o = c.args.course.now in
    let planned = plan_is (g.P.Plan.start p) (g.P.Plan.receives p) (g.P.Plan.nodes p)
    (opened c.args.program.now c.args.setup.now) (g.met.P.Plan.laws p) c.requires.nodes in (
      ticked_first g.P.Plan.start c.args.program.now c.args.setup.now p
          (timing_by o.bounded.now o.changes.now o.correct.bits) c.in_ok-driver.driver
          c.new-flight.result c.in_ok-driver.ensures planned c.new-flight.ensures.empty,
      omega arith,
    )

both : (test : Bool) → test ≡ true → test ≡ false → ⊥
both true on off = cc
both false on off = cc

empty_by : (empty test : Bool) → test ≡ not empty → test ≡ false → IsTrue empty
empty_by true test e off = refl
empty_by false test e off = absurd (both test e off)

pub returns-clause-whole : goal.returns-clause-whole
returns-clause-whole g c =
    let start = g.P.Plan.start in
    let o = c.args.course.now in
    let p = c.args.program.now in
    let s = c.args.setup.now in
    let b = timing_by o.bounded.now o.changes.now o.correct.bits in
    let j = c.into_journal-journal.result in
    let f = c.loop-now.flight in
    let now = c.loop-now.now in
    let read : c.book-book.result.now ≡ j = c.book-book.ensures in
    let ticked : IsTicked start p s c.args.plan b now j f =
    subst (λ (z : Recorded _). IsTicked start p s c.args.plan b now z f)
    (sym c.into_journal-journal.ensures.same) c.loop-now.invariant.0 in
    let sized = subst (λ (z : Recorded _). g.P.Plan.nodes z.plan ≡ z.log.setup.nodes) read
    c.agrees.ensures.sized in
    let kept = subst (λ (z : Recorded _). HasBook (start z.plan) z.log) read c.is_book.ensures in
    let quiet : IsQuiet start p s c.args.plan b now j f =
    record { ticked = ticked; book = kept; closed = c.into_journal-journal.ensures.closed } in
    let plan = ap (λ q. start q (j.log.setup.rounds + 1)) ticked.planned in
    let rounds = ap (λ (z : Setup). start c.args.plan (z.rounds + 1)) ticked.setup in
    let end : (c.args.ticks ≤ now) ⊎ ((start j.plan (j.log.setup.rounds + 1) ≤ now)
    × (tree.btree_map_len f ≡ 0)) =
    elim c.loop-now-test.branch [
      | then-loop-now-test+else-not-is_empty w ↦ elim w.if-now-over.branch [
        | then-now-over v ↦ absurd (both _
            (v.value-is ∙ lt-ltb now c.start-over.result (omega (arith, v.if-now-over.true)))
            w.if-not-is_empty.false)
        | else-now-over v ↦ inr (
          omega (arith, plan, rounds, c.start-over.ensures, v.if-now-over.false),
          v.is_empty.ensures.0 (empty_by _ _ v.value-is w.if-not-is_empty.false),
        )
      ]
      | else-loop-now-test w ↦ inl (omega (arith, w.loop-now-test.false))
    ] in
    subst (λ n. IsWholeRun (start j.plan) (g.P.Plan.receives j.plan) o.bounded.now o.changes.now
    o.correct.bits c.args.ticks (followed j.log (idle_steps b n now (c.args.ticks - now))))
    (ap (λ (z : Setup). z.nodes) ticked.setup)
    (whole_run start g.P.Plan.receives g.P.Plan.nodes p s c.args.plan o.bounded.now o.changes.now
    o.correct.bits now c.args.ticks j f c.requires.fit.delta.0 (g.met.P.Plan.laws j.plan) sized
    c.are_below_64.ensures c.requires.fit.nodes c.loop-now.invariant.1 end quiet)
