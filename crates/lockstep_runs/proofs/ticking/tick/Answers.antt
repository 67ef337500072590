use Rattle.std.proofs.Common.{◌≡◌, ◌∙◌, ◌+◌, ◌%◌, ◌<◌, ap, arith, subst, sym}
use Rattle.std.proofs.lemmas.Nat.{mod_below}
use Rattle.round_meaning.specs.declared.setup.Setup.{Setup}
use Rattle.step_book.specs.Log.{Recorded}
use Rattle.lockstep_runs.specs.Changes.{timing_by}
use Rattle.lockstep_runs.proofs.Ticks.{IsStepping, node_is, popped_named, releasing_first}
use Rattle.lockstep_runs.proofs.Ticks.{releasing_next, stepping_count, stepping_first}
use Rattle.lockstep_runs.proofs.Ticks.{stepping_last_paced, stepping_last_taken, stepping_next}
use Rattle.lockstep_runs.proofs.Ticks.{stepping_past}
use Rattle.lockstep_runs.proofs.ticking.tick.Goals as goal
use Rattle.lockstep_runs.proofs.ticking.tick.Goals.{then-goes_on+in_ok-driver-2, else-goes_on}

pub loop-name-init : goal.loop-name-init
loop-name-init g c =
    releasing_first g.P.Plan.start
    (timing_by c.args.course.now.bounded.now c.args.course.now.changes.now
    c.args.course.now.correct.bits) c.args.now c.args.driver c.args.flight.now c.requires.paced
    c.requires.waits c.requires.steps

pub act-requires : goal.act-requires
act-requires g c =
    popped_named g.P.Plan.start
    (timing_by c.args.course.now.bounded.now c.args.course.now.changes.now
    c.args.course.now.correct.bits) c.args.now c.args.driver c.loop-name.driver
    c.loop-name.flight c.pop_due.new.flight c.in-Some.name c.loop-name.invariant
    c.in-Some.ensures.some

pub loop-name-preserved : goal.loop-name-preserved
loop-name-preserved g c =
    releasing_next g.P.Plan.start
    (timing_by c.args.course.now.bounded.now c.args.course.now.changes.now
    c.args.course.now.correct.bits) c.args.now c.args.driver c.loop-name.driver
    c.in_ok-driver.driver c.loop-name.flight c.pop_due.new.flight c.in-Some.name
    c.loop-name.invariant c.in-Some.ensures.some
    c.in_ok-driver.ensures.plan c.in_ok-driver.ensures.log

pub loop-turn-init : goal.loop-turn-init
loop-turn-init g c =
    let j = c.loop-name.driver in
    let read : c.book-book.result.now ≡ j = c.book-book.ensures ∙ c.journal.ensures in
    let some = subst (λ (z : Recorded _). 0 < z.log.setup.nodes) read
    c.setup.ensures.lawful.sized.some_node in
    stepping_first g.P.Plan.start
    (timing_by c.args.course.now.bounded.now c.args.course.now.changes.now
    c.args.course.now.correct.bits) c.args.now c.args.driver j c.loop-name.flight
    c.pop_due.new.flight some c.loop-name.invariant c.in_default.ensures.none
    c.in_default.ensures.stays

pub step-requires-clause-count : goal.step-requires-clause-count
step-requires-clause-count g c =
    let start = g.P.Plan.start in
    let b = timing_by c.args.course.now.bounded.now c.args.course.now.changes.now
    c.args.course.now.correct.bits in
    let j = c.loop-turn.driver in
    let turn = c.loop-turn.turn in
    let nodes = c.setup.result.now.nodes in
    let read : c.setup.result.now ≡ c.loop-name.driver.log.setup = c.setup.ensures.value
    ∙ ap (λ (z : Recorded _). z.log.setup) (c.book-book.ensures ∙ c.journal.ensures) in
    let setup : c.setup.result.now ≡ j.log.setup =
    read ∙ c.loop-name.invariant.same.setup ∙ sym c.loop-turn.invariant.same.setup in
    let same : nodes ≡ j.log.setup.nodes = ap (λ (z : Setup). z.nodes) setup in
    let some : 0 < nodes = subst (λ (z : Setup). 0 < z.nodes) (sym c.setup.ensures.value)
    c.setup.ensures.lawful.sized.some_node in
    let node = (c.entry.result % nodes + turn) % nodes in
    let below : node < nodes = mod_below (c.entry.result % nodes + turn) nodes some in
    stepping_count start b c.args.now c.args.driver j c.loop-turn.flight turn node
    (omega (arith, some, same)) (omega (arith, c.loop-turn-test.true, same))
    (omega (arith, below, same))
    (node_is start b c.args.now j turn c.entry.result nodes same
    (ap (λ x. x % nodes) c.entry.ensures)) c.loop-turn.invariant
    (c.goes_on.ensures.0 (let z = c.if-goes_on.true in cc))

pub loop-turn-preserved : goal.loop-turn-preserved
loop-turn-preserved g c =
    let start = g.P.Plan.start in
    let b = timing_by c.args.course.now.bounded.now c.args.course.now.changes.now
    c.args.course.now.correct.bits in
    let now = c.args.now in
    let first = c.args.driver in
    let j = c.loop-turn.driver in
    let turn = c.loop-turn.turn in
    let nodes = c.setup.result.now.nodes in
    let read : c.setup.result.now ≡ c.loop-name.driver.log.setup = c.setup.ensures.value
    ∙ ap (λ (z : Recorded _). z.log.setup) (c.book-book.ensures ∙ c.journal.ensures) in
    let setup : c.setup.result.now ≡ j.log.setup =
    read ∙ c.loop-name.invariant.same.setup ∙ sym c.loop-turn.invariant.same.setup in
    let same : nodes ≡ j.log.setup.nodes = ap (λ (z : Setup). z.nodes) setup in
    let some : 0 < nodes = subst (λ (z : Setup). 0 < z.nodes) (sym c.setup.ensures.value)
    c.setup.ensures.lawful.sized.some_node in
    let node = (c.entry.result % nodes + turn) % nodes in
    let below : node < nodes = mod_below (c.entry.result % nodes + turn) nodes some in
    let own : 0 < j.log.setup.nodes = omega (arith, some, same) in
    let before : turn < j.log.setup.nodes = omega (arith, c.loop-turn-test.true, same) in
    let inside : node < j.log.setup.nodes = omega (arith, below, same) in
    let is = node_is start b now j turn c.entry.result nodes same
    (ap (λ x. x % nodes) c.entry.ensures) in
    elim c.if-goes_on.branch [
      | then-goes_on+in_ok-driver-2 w ↦
          subst (λ f. IsStepping start b now first c.if-goes_on.driver f (turn + 1))
          (sym w.flight-is)
          (subst (λ (k : Recorded _). IsStepping start b now first k w.step.new.flight
          (turn + 1)) (sym w.driver-is)
          (stepping_next start b now first j c.loop-turn.flight turn node own before inside is
          c.loop-turn.invariant w.in_ok-driver-2.driver w.step.new.flight
          (c.goes_on.ensures.0 (let z = w.if-goes_on.true in cc))
          w.in_ok-driver-2.ensures.plan w.in_ok-driver-2.ensures.log w.in_ok-driver-2.ensures.flight
          w.in_ok-driver-2.ensures.waits))
      | else-goes_on w ↦
          subst (λ f. IsStepping start b now first c.if-goes_on.driver f (turn + 1))
          (sym w.flight-is)
          (subst (λ (k : Recorded _). IsStepping start b now first k c.loop-turn.flight
          (turn + 1)) (sym w.driver-is)
          (stepping_past start b now first j c.loop-turn.flight turn node own before inside is
          c.loop-turn.invariant
          (λ m. (let on = c.goes_on.ensures.1 m in let off = w.if-goes_on.false in cc))))
    ]

pub returns-clause-paced : goal.returns-clause-paced
returns-clause-paced g c =
    stepping_last_paced g.P.Plan.start
    (timing_by c.args.course.now.bounded.now c.args.course.now.changes.now
    c.args.course.now.correct.bits) c.args.now c.args.driver c.loop-turn.driver
    c.loop-turn.flight c.loop-turn.turn c.loop-turn.invariant

pub returns-clause-steps : goal.returns-clause-steps
returns-clause-steps g c =
    let j = c.loop-turn.driver in
    let nodes = c.setup.result.now.nodes in
    let read : c.setup.result.now ≡ c.loop-name.driver.log.setup = c.setup.ensures.value
    ∙ ap (λ (z : Recorded _). z.log.setup) (c.book-book.ensures ∙ c.journal.ensures) in
    let setup : c.setup.result.now ≡ j.log.setup =
    read ∙ c.loop-name.invariant.same.setup ∙ sym c.loop-turn.invariant.same.setup in
    let same : nodes ≡ j.log.setup.nodes = ap (λ (z : Setup). z.nodes) setup in
    let some : 0 < nodes = subst (λ (z : Setup). 0 < z.nodes) (sym c.setup.ensures.value)
    c.setup.ensures.lawful.sized.some_node in
    stepping_last_taken g.P.Plan.start
    (timing_by c.args.course.now.bounded.now c.args.course.now.changes.now
    c.args.course.now.correct.bits) c.args.now c.args.driver j c.loop-turn.flight
    c.loop-turn.turn (omega (arith, some, same))
    (let high = c.loop-turn-test.false in let low = c.loop-turn.auto.turn-end in
    omega (arith, high, low, same)) c.loop-turn.invariant
