use Rattle.std.proofs.Common.{◌≡◌, arith, subst, sym}
use Rattle.step_book.proofs.Starts.{plan_is}
use Rattle.step_book.specs.Log.{IsFaithful, Recorded, history, opened, world_of}
use Rattle.lockstep_runs.specs.Changes.{timing_by}
use Rattle.lockstep_runs.specs.Lockstep.{IsChangedRun}
use Rattle.lockstep_runs.proofs.Judged.{run_judged}
use Rattle.lockstep_runs.proofs.Ticks.{IsTicked, ticked_first, ticked_last}
use Rattle.lockstep_runs.proofs.lockstep.run.Goals as goal

pub loop-now-init : goal.loop-now-init
loop-now-init g c =
    let p = c.args.plan in
    let o = c.args.course.now in
    let planned = plan_is (g.P.Plan.start p) (g.P.Plan.receives p) (g.P.Plan.nodes p)
    (opened c.args.program.now c.args.setup.now) (g.met.P.Plan.laws p) c.requires.nodes in
    ticked_first g.P.Plan.start c.args.program.now c.args.setup.now p
    (timing_by o.bounded.now o.changes.now o.correct.bits) c.in_ok-driver.driver
    c.new-flight.result c.in_ok-driver.ensures planned c.new-flight.ensures.empty

pub returns-clause-lockstep : goal.returns-clause-lockstep
returns-clause-lockstep g c =
    let start = g.P.Plan.start in
    let o = c.args.course.now in
    let b = timing_by o.bounded.now o.changes.now o.correct.bits in
    let last : c.loop-now.now ≡ c.args.ticks =
    (let high = c.loop-now-test.false in let low = c.loop-now.auto.now-end in omega arith) in
    let all =
    subst (λ n. IsTicked start c.args.program.now c.args.setup.now c.args.plan b n
    c.loop-now.driver c.loop-now.flight) last c.loop-now.invariant in
    subst (λ (z : Recorded _). IsChangedRun (world_of (start z.plan) z.log) o.bounded.now
    o.changes.now o.correct.bits c.args.ticks (history z.log))
    (sym c.into_journal-journal.ensures.same)
    (ticked_last start c.args.program.now c.args.setup.now c.args.plan b c.args.ticks
    c.loop-now.driver c.loop-now.flight all)

pub returns-clause-paced : goal.returns-clause-paced
returns-clause-paced g c =
    let start = g.P.Plan.start in
    let o = c.args.course.now in
    let j = c.into_journal-journal.result in
    let book = c.book.ensures in
    let sized = subst (λ (z : Recorded _). g.P.Plan.nodes z.plan ≡ z.log.setup.nodes) book
    c.agrees.ensures.sized in
    let faithful = subst (λ (z : Recorded _). IsFaithful (start z.plan) z.log) book
    c.agrees.ensures.faithful in
    (run_judged start g.P.Plan.receives g.P.Plan.nodes c.args.program.now c.args.setup.now
    c.args.plan o.bounded.now o.changes.now o.correct.bits c.loop-now.now j c.loop-now.driver
    c.loop-now.flight c.requires.fit.delta.0 (g.met.P.Plan.laws j.plan)
    c.into_journal-journal.ensures.same sized faithful c.are_below_64.ensures
    c.requires.fit.nodes c.loop-now.invariant).lockstep

pub returns-clause-bound : goal.returns-clause-bound
returns-clause-bound g c =
    let start = g.P.Plan.start in
    let o = c.args.course.now in
    let j = c.into_journal-journal.result in
    let book = c.book.ensures in
    let sized = subst (λ (z : Recorded _). g.P.Plan.nodes z.plan ≡ z.log.setup.nodes) book
    c.agrees.ensures.sized in
    let faithful = subst (λ (z : Recorded _). IsFaithful (start z.plan) z.log) book
    c.agrees.ensures.faithful in
    (run_judged start g.P.Plan.receives g.P.Plan.nodes c.args.program.now c.args.setup.now
    c.args.plan o.bounded.now o.changes.now o.correct.bits c.loop-now.now j c.loop-now.driver
    c.loop-now.flight c.requires.fit.delta.0 (g.met.P.Plan.laws j.plan)
    c.into_journal-journal.ensures.same sized faithful c.are_below_64.ensures
    c.requires.fit.nodes c.loop-now.invariant).bound

pub returns-clause-hears : goal.returns-clause-hears
returns-clause-hears g c =
    let start = g.P.Plan.start in
    let o = c.args.course.now in
    let j = c.into_journal-journal.result in
    let book = c.book.ensures in
    let sized = subst (λ (z : Recorded _). g.P.Plan.nodes z.plan ≡ z.log.setup.nodes) book
    c.agrees.ensures.sized in
    let faithful = subst (λ (z : Recorded _). IsFaithful (start z.plan) z.log) book
    c.agrees.ensures.faithful in
    (run_judged start g.P.Plan.receives g.P.Plan.nodes c.args.program.now c.args.setup.now
    c.args.plan o.bounded.now o.changes.now o.correct.bits c.loop-now.now j c.loop-now.driver
    c.loop-now.flight c.requires.fit.delta.0 (g.met.P.Plan.laws j.plan)
    c.into_journal-journal.ensures.same sized faithful c.are_below_64.ensures
    c.requires.fit.nodes c.loop-now.invariant).hears
