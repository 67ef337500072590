use Rattle.std.proofs.Common.{◌<◌, Global, [], arith, length, sym, ◌∙◌}
use Rattle.std.specs.Arc.{arc_value}
use Rattle.std.specs.declared.sync.Arc.{Arc}
use Rattle.step_machine.specs.declared.stored_state.StoredState.{StoredState}
use Rattle.step_book.specs.Log.{states_of}
use Rattle.locked_buffers.proofs.Alike.{alike_more, read_through, unlike_at}
use Rattle.locked_buffers.proofs.account.are_states.Goals as goal

pub returns-then-not-equals : goal.returns-then-not-equals
returns-then-not-equals c =
    let k = c.loop-place.place in
    let within : k < length c.args.recorded.now = let test = c.loop-place-test.true in
    let sized = c.if-states-recorded.false in omega arith in
    let there = read_through (λ (state : Arc StoredState Global). arc_value state)
    c.args.recorded.now k c.index-recorded-place.result [] within c.index-recorded-place.is in
    unlike_at (λ (state : Arc StoredState Global). arc_value state) c.args.states.now
    (states_of c.args.recorded.now) k
    c.index-states-place.result [] c.equals.result c.loop-place-test.true c.index-states-place.is
    (λ same. c.equals.ensures.1 (c.deref.ensures ∙ there ∙ sym same
    ∙ sym c.deref-in-loop-place.ensures)) c.if-not-equals.true

pub loop-place-preserved : goal.loop-place-preserved
loop-place-preserved c =
    let k = c.loop-place.place in
    let within : k < length c.args.recorded.now = let test = c.loop-place-test.true in
    let sized = c.if-states-recorded.false in omega arith in
    let there = read_through (λ (state : Arc StoredState Global). arc_value state)
    c.args.recorded.now k c.index-recorded-place.result [] within c.index-recorded-place.is in
    alike_more (λ (state : Arc StoredState Global). arc_value state) c.args.states.now
    (states_of c.args.recorded.now) k
    c.index-states-place.result [] c.loop-place-test.true c.index-states-place.is
    (sym c.deref-in-loop-place.ensures ∙ sym (c.equals.ensures.0 c.if-not-equals.false)
    ∙ c.deref.ensures ∙ there) c.loop-place.invariant
