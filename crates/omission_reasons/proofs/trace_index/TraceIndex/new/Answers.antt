use Rattle.std.proofs.Common.{◌∙◌, sym}
use Rattle.omission_reasons.proofs.Indexed.{indexed_next, indexed_none}
use Rattle.omission_reasons.proofs.trace_index.TraceIndex.new.Goals as goal

pub loop-place-init : goal.loop-place-init
loop-place-init g c =
    indexed_none c.setup.result.now.nodes
    (record { steps = c.new.result; events = c.new-2.result }) c.new.ensures c.new-2.ensures

pub loop-place-preserved : goal.loop-place-preserved
loop-place-preserved g c =
    indexed_next c.setup.result.now.nodes c.loop-place.place c.trace-event-items.result.now
    c.event-item.result c.event.result c.loop-place.index c.add.new.self c.loop-place-test.true
    (sym c.event-item.is ∙ sym c.event.ensures) c.loop-place.invariant c.in_ok-add.ensures.steps
    c.in_ok-add.ensures.events
