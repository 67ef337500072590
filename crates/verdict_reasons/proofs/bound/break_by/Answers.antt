use Rattle.std.proofs.Common.{◌≡◌, ◌+◌, ◌∙◌, true, max, get_or, sym, ap, subst}
use Rattle.std.proofs.Common.{arith}
use Rattle.std.specs.List.{slice_get}
use Rattle.std.proofs.lemmas.Bool.{both_ways}
use Rattle.round_lang.specs.Sets.{is_in}
use Rattle.step_book.specs.Log.{history, world_of}
use Rattle.step_book.specs.Places.{IsStepAt}
use Rattle.step_book.proofs.Reading.{nodes_are}
use Rattle.step_book.proofs.Starts.{plan_is}
use Rattle.omission_explainer.specs.Lateness.{HasReceive, KeepsBound}
use Rattle.omission_explainer.proofs.Keeping.{has_member, keeps_other, member_of, slot_small}
use Rattle.omission_reasons.proofs.Listed.{step_there}
use Rattle.omission_reasons.proofs.Times.{step_placed}
use Rattle.verdict_reasons.specs.Bound.{IsBreakAt, IsFirstWithin}
use Rattle.verdict_reasons.proofs.Overdue.{break_at, keeps, open_of, taken}
use Rattle.verdict_reasons.proofs.Rowed.{on_none}
use Rattle.verdict_reasons.proofs.bound.break_by.Goals as goal

pub returns-then-not-contains : goal.returns-then-not-contains
returns-then-not-contains g c =
    let v = c.args.book.now.log in
    let p = c.args.book.now.plan in
    let start = g.P.Plan.start p in
    let n = nodes_are start v in
    let plan = plan_is start (g.P.Plan.receives p) (g.P.Plan.nodes p) v (g.met.P.Plan.laws p)
    c.agrees.ensures.sized in
    let few = c.agrees.ensures.lawful.sized.few_nodes in
    let slot = c.in_ok-name.ensures in
    let small = slot.named.to in
    let out = λ (h : is_in c.args.terms.correct.bits c.in_ok-name.name.to ≡ true).
    both_ways c.contains.result c.if-not-contains.true (c.contains.ensures
    ∙ has_member _ _ (omega arith) h) in
    keeps_other (world_of start v) (history v) c.args.terms.correct.bits c.args.terms.delta
    c.args.terms.gst c.args.counts.now c.args.node plan c.in_ok-name.name slot out

pub overflow_add-sent_step : goal.overflow_add-sent_step
overflow_add-sent_step g c =
    let v = c.args.book.now.log in
    let p = c.args.book.now.plan in
    let start = g.P.Plan.start p in
    let n = nodes_are start v in
    let slot = c.in_ok-name.ensures in
    let small = slot.named.to in
    let sized = c.agrees.ensures.sized in
    let low = slot_small start (g.P.Plan.receives p) (g.P.Plan.nodes p) v (g.met.P.Plan.laws p)
    sized c.agrees.ensures.lawful.sized.few_rounds c.args.node _ c.in_ok-name.name slot
    (omega arith) in
    omega (arith, low, c.from-2.ensures)

pub returns-in_err-received_step : goal.returns-in_err-received_step
returns-in_err-received_step g c =
    let v = c.args.book.now.log in
    let p = c.args.book.now.plan in
    let start = g.P.Plan.start p in
    let terms = c.args.terms in
    let counts = c.args.counts.now in
    let node = c.args.node in
    let name = c.in_ok-name.name in
    let plan = plan_is start (g.P.Plan.receives p) (g.P.Plan.nodes p) v (g.met.P.Plan.laws p)
    c.agrees.ensures.sized in
    let member = member_of terms.correct.bits name.to (sym c.contains.ensures
    ∙ c.if-not-contains.false) in
    let low : c.max-low.result ≡ max (get_or counts node 0 + terms.delta)
    (get_or counts name.to 0) = c.max-low.ensures
    ∙ ap (λ x. max (get_or counts node 0 + x) (get_or counts name.to 0)) c.from-2.ensures in
    on_none c.from_residual-in_err-received_step.result
    (KeepsBound (world_of start v) (history v) terms.correct.bits terms.delta terms.gst counts node)
    (IsBreakAt start v terms.correct.bits terms.delta terms.gst c.args.place)
    c.from_residual-in_err-received_step.ensures
    (keeps start v plan terms.correct.bits terms.delta terms.gst counts node c.args.place
    c.requires.counts c.requires.there c.requires.correct_node name c.in_ok-name.ensures member
    (λ has. c.in_err-received_step.ensures
    (subst (λ x. HasReceive (world_of start v) x (open_of start v name)) (sym low) has)))

pub returns-in_err-received : goal.returns-in_err-received
returns-in_err-received g c =
    let v = c.args.book.now.log in
    let p = c.args.book.now.plan in
    let start = g.P.Plan.start p in
    let terms = c.args.terms in
    let counts = c.args.counts.now in
    let node = c.args.node in
    let name = c.in_ok-name.name in
    let x = c.in_ok-received_step.received_step in
    let plan = plan_is start (g.P.Plan.receives p) (g.P.Plan.nodes p) v (g.met.P.Plan.laws p)
    c.agrees.ensures.sized in
    let member = member_of terms.correct.bits name.to (sym c.contains.ensures
    ∙ c.if-not-contains.false) in
    let low : c.max-low.result ≡ max (get_or counts node 0 + terms.delta)
    (get_or counts name.to 0) = c.max-low.ensures
    ∙ ap (λ x. max (get_or counts node 0 + x) (get_or counts name.to 0)) c.from-2.ensures in
    absurd (step_there name.to (history v) x
    (taken start v plan terms.correct.bits terms.delta terms.gst counts node c.args.place
    c.requires.counts c.requires.there c.requires.correct_node name c.in_ok-name.ensures member x
    (subst (λ z. IsFirstWithin (world_of start v) z (open_of start v name) x) low
    c.in_ok-received_step.ensures))
    (sym (ap (λ xs. slice_get xs x) (c.requires.index.steps name.to)) ∙ sym c.step_place.ensures
    ∙ c.in_err-received.was))

pub returns : goal.returns
returns g c =
    let v = c.args.book.now.log in
    let p = c.args.book.now.plan in
    let start = g.P.Plan.start p in
    let terms = c.args.terms in
    let counts = c.args.counts.now in
    let node = c.args.node in
    let name = c.in_ok-name.name in
    let x = c.in_ok-received_step.received_step in
    let received = c.in_ok-received.received in
    let plan = plan_is start (g.P.Plan.receives p) (g.P.Plan.nodes p) v (g.met.P.Plan.laws p)
    c.agrees.ensures.sized in
    let member = member_of terms.correct.bits name.to (sym c.contains.ensures
    ∙ c.if-not-contains.false) in
    let low : c.max-low.result ≡ max (get_or counts node 0 + terms.delta)
    (get_or counts name.to 0) = c.max-low.ensures
    ∙ ap (λ x. max (get_or counts node 0 + x) (get_or counts name.to 0)) c.from-2.ensures in
    let reads : IsStepAt v.trace name.to x received = step_placed v.trace name.to x received
    (sym (ap (λ xs. slice_get xs x) (c.requires.index.steps name.to)) ∙ sym c.step_place.ensures
    ∙ c.in_ok-received.was) in
    break_at start v plan terms.correct.bits terms.delta terms.gst counts node c.args.place
    c.requires.counts c.requires.there c.requires.correct_node name c.in_ok-name.ensures member x
    (subst (λ z. IsFirstWithin (world_of start v) z (open_of start v name) x) low
    c.in_ok-received_step.ensures) received reads
    (omega (arith, c.from.ensures, c.if-sent_step-from.false))
