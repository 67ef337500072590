use Rattle.std.proofs.Common.{◌≡◌, ◌<◌, ◌≤◌, ◌∙◌, ◌+◌, arith, length, refl, subst, sym, Bool, true}
use Rattle.std.proofs.Common.{false}
use Rattle.step_book.specs.Log.{IsFlying, Recorded, history, world_of}
use Rattle.step_book.specs.Serials.{sent}
use Rattle.step_book.specs.Slots.{IsMessageAt, IsNoMessageAt}
use Rattle.step_book.specs.World.{nodes_of}
use Rattle.step_book.proofs.Reading.{nodes_are}
use Rattle.run_events.specs.declared.event.Event.TheVariants.{Step}
use Rattle.lockstep_runs.specs.Changes.{own_delay, timing_by}
use Rattle.lockstep_runs.specs.Pacing.{HoldsByTicks}
use Rattle.lockstep_runs.proofs.Maps.{inserted}
use Rattle.lockstep_runs.proofs.Paces.{later, on_record, step_quiet, waits_more}
use Rattle.lockstep_runs.proofs.Ticks.{no_original, slot_here, stays_aloft, stays_down, takes_off}
use Rattle.lockstep_runs.proofs.ticking.step.Goals as goal

kept_by : (omitted : Bool) → (omitted ≡ true → ⊥) → omitted ≡ false
kept_by true h = absurd (h refl)
kept_by false h = refl

pub returns-in_default-clause-flight : goal.returns-in_default-clause-flight
returns-in_default-clause-flight g c =
    let start = g.P.Plan.start in
    let j = c.args.driver in
    let k = c.in_ok-driver.driver in
    let same = c.in_ok-driver.ensures.plan in
    let more = c.in_ok-driver.ensures.log in
    let read : c.book-book.result.now ≡ k = c.book-book.ensures ∙ c.journal-2.ensures in
    let w = world_of (start j.plan) j.log in
    let none : IsNoMessageAt (world_of (start k.plan) k.log) c.args.now =
    subst (λ (z : Recorded _). IsNoMessageAt (world_of (start z.plan) z.log) c.args.now) read
    (subst (λ x. IsNoMessageAt
    (world_of (start c.book-book.result.now.plan) c.book-book.result.now.log) x) c.from.ensures
    c.in_default.ensures) in
    let inside : c.args.node < nodes_of w =
    (let n = nodes_are (start j.plan) j.log in let l = c.requires.node in omega arith) in
    on_record start j k (Step c.args.node)
    (λ w t. HoldsByTicks w
    (timing_by c.args.course.now.bounded.now c.args.course.now.changes.now
    c.args.course.now.correct.bits) t c.args.flight.now) same more
    (step_quiet w c.requires.plan
    (timing_by c.args.course.now.bounded.now c.args.course.now.changes.now
    c.args.course.now.correct.bits) c.args.node (history j.log) c.args.flight.now inside
    (no_original start j k c.args.node c.args.now same more c.requires.count none)
    c.requires.flight)

pub returns-then-not-is_flying-clause-flight : goal.returns-then-not-is_flying-clause-flight
returns-then-not-is_flying-clause-flight g c =
    let start = g.P.Plan.start in
    let b = timing_by c.args.course.now.bounded.now c.args.course.now.changes.now
    c.args.course.now.correct.bits in
    let j = c.args.driver in
    let k = c.in_ok-driver.driver in
    let same = c.in_ok-driver.ensures.plan in
    let more = c.in_ok-driver.ensures.log in
    let read : c.book-book.result.now ≡ k = c.book-book.ensures ∙ c.journal-2.ensures in
    let some : IsMessageAt (world_of (start k.plan) k.log) c.args.node c.args.now c.in-Some.name =
    subst (λ (z : Recorded _). IsMessageAt (world_of (start z.plan) z.log) c.args.node c.args.now
    c.in-Some.name) read
    (subst (λ x. IsMessageAt
    (world_of (start c.book-book.result.now.plan) c.book-book.result.now.log) c.args.node x
    c.in-Some.name) c.from.ensures c.in-Some.ensures) in
    let slot =
    slot_here start j k c.args.node c.args.now c.in-Some.name same more c.requires.count some in
    stays_down start b j k c.args.node c.args.flight.now c.in-Some.name c.requires.plan slot same
    more
    (λ up. (let is =
    c.is_flying.ensures.1
    (subst (λ (z : Recorded _). IsFlying (start z.plan) z.log c.in-Some.name) (sym read) up) in
    let off = c.if-not-is_flying.true in cc)) c.requires.flight

pub returns-in_default-due-clause-flight : goal.returns-in_default-due-clause-flight
returns-in_default-due-clause-flight g c =
    let start = g.P.Plan.start in
    let b = timing_by c.args.course.now.bounded.now c.args.course.now.changes.now
    c.args.course.now.correct.bits in
    let j = c.args.driver in
    let k = c.in_ok-driver.driver in
    let same = c.in_ok-driver.ensures.plan in
    let more = c.in_ok-driver.ensures.log in
    let read : c.book-book.result.now ≡ k = c.book-book.ensures ∙ c.journal-2.ensures in
    let some : IsMessageAt (world_of (start k.plan) k.log) c.args.node c.args.now c.in-Some.name =
    subst (λ (z : Recorded _). IsMessageAt (world_of (start z.plan) z.log) c.args.node c.args.now
    c.in-Some.name) read
    (subst (λ x. IsMessageAt
    (world_of (start c.book-book.result.now.plan) c.book-book.result.now.log) c.args.node x
    c.in-Some.name) c.from.ensures c.in-Some.ensures) in
    let slot =
    slot_here start j k c.args.node c.args.now c.in-Some.name same more c.requires.count some in
    let up = subst (λ (z : Recorded _). IsFlying (start z.plan) z.log c.in-Some.name) read
    (c.is_flying.ensures.0 (let z = c.if-not-is_flying.false in cc)) in
    stays_aloft start b j k c.args.node c.args.flight.now c.in-Some.name c.requires.plan slot same
    more up (c.in_default-due.ensures.omitted.0 refl) c.requires.flight

pub returns-clause-flight : goal.returns-clause-flight
returns-clause-flight g c =
    let start = g.P.Plan.start in
    let b = timing_by c.args.course.now.bounded.now c.args.course.now.changes.now
    c.args.course.now.correct.bits in
    let j = c.args.driver in
    let k = c.in_ok-driver.driver in
    let same = c.in_ok-driver.ensures.plan in
    let more = c.in_ok-driver.ensures.log in
    let read : c.book-book.result.now ≡ k = c.book-book.ensures ∙ c.journal-2.ensures in
    let some : IsMessageAt (world_of (start k.plan) k.log) c.args.node c.args.now c.in-Some.name =
    subst (λ (z : Recorded _). IsMessageAt (world_of (start z.plan) z.log) c.args.node c.args.now
    c.in-Some.name) read
    (subst (λ x. IsMessageAt
    (world_of (start c.book-book.result.now.plan) c.book-book.result.now.log) c.args.node x
    c.in-Some.name) c.from.ensures c.in-Some.ensures) in
    let slot =
    slot_here start j k c.args.node c.args.now c.in-Some.name same more c.requires.count some in
    let up = subst (λ (z : Recorded _). IsFlying (start z.plan) z.log c.in-Some.name) read
    (c.is_flying.ensures.0 (let z = c.if-not-is_flying.false in cc)) in
    let names = c.messages-serial.result.now in
    let counted : length names ≡ sent (world_of (start j.plan) j.log) (history j.log) =
    subst (λ (z : Recorded _). length names ≡ sent (world_of (start z.plan) z.log) (history z.log))
    (c.book.ensures ∙ c.journal.ensures) c.messages-serial.ensures.counted in
    takes_off start b j k c.args.node c.args.now (length names) c.args.flight.now c.insert.new.self
    c.in-Some.name (c.in-Some-due.due, length names) c.requires.plan slot same more
    c.requires.count counted
    c.in-Some-due.ensures.due refl up
    (kept_by _ (λ omitted. (let is = c.in-Some-due.ensures.omitted.1 omitted in cc)))
    (inserted c.args.flight.now c.insert.new.self (c.in-Some-due.due, length names)
    c.in-Some.name c.in_ok-insert.ensures.updates) c.requires.flight

pub returns-clause-waits : goal.returns-clause-waits
returns-clause-waits g c =
    let names = c.messages-serial.result.now in
    let o = c.args.course.now in
    let own = own_delay o.changes.now.delays.items c.in-Some.name in
    let after =
    later o.bounded.now own
    (record { name = c.in-Some.name; sent_at = c.args.now; serial = length names })
    c.requires.delta.0 in
    let due = c.in-Some-due.ensures.due in
    let some : c.args.now + 1 ≤ c.in-Some-due.due = omega arith in
    waits_more c.args.flight.now c.insert.new.self c.in-Some-due.due (length names) (c.args.now + 1)
    some c.requires.waits
    (inserted c.args.flight.now c.insert.new.self (c.in-Some-due.due, length names) c.in-Some.name
    c.in_ok-insert.ensures.updates).1
