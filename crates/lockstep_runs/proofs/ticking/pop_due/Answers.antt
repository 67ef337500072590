use Rattle.std.proofs.Common.{◌≤◌, arith}
use Rattle.lockstep_runs.proofs.Maps.{none_below, pair_tick, popped, some_is}
use Rattle.lockstep_runs.proofs.ticking.pop_due.Goals as goal

pub returns-then-due-from-clause-none : goal.returns-then-due-from-clause-none
returns-then-due-from-clause-none c =
    none_below c.args.flight.now c.in_ok-due.field-0-0.now c.args.now
    (omega (arith, c.if-due-from.true, c.from.ensures, c.in_ok-due.due-is))
    c.in_ok-due.ensures.least

pub returns-clause-some : goal.returns-clause-some
returns-clause-some c =
    let first = c.in_ok-due.field-0-0.now in
    let key = c.in_ok-name.field-0-0 in
    let low : key.0 ≤ first.0 =
    pair_tick key first
    (c.in_ok-name.ensures.least first (some_is _ _ c.in_ok-due.ensures.value)) in
    popped c.args.flight.now c.pop_first.new.self key c.in_ok-name.name c.args.now
    (omega (arith, low, c.if-due-from.false, c.from.ensures, c.in_ok-due.due-is))
    c.in_ok-name.ensures.value c.in_ok-name.ensures.updates c.in_ok-name.ensures.least
    (omega (arith, c.in_ok-name.ensures.len))
