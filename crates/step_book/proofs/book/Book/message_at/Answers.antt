use Rattle.std.proofs.Common.{◌≡◌, ◌∙◌, ◌+◌, ap, subst, arith}
use Rattle.slot_plans.specs.Slot.{IsReceiveSlot, IsSendSlot}
use Rattle.step_book.specs.Log.{Recorded}
use Rattle.step_book.proofs.Reading.{of_view, rounds_few, rounds_view}
use Rattle.step_book.proofs.Slots.{all_rounds, message_is, none_past, none_there}
use Rattle.step_book.proofs.book.Book.message_at.Goals as goal

pub returns-then-step-start : goal.returns-then-step-start
returns-then-step-start g c =
    let v = c.args.self.now in
    let start = g.P.Plan.start v.plan in
    let h = of_view g.P.Plan.start g.P.Plan.nodes c.self.view_is c.self.invariant in
    let last : c.start.result ≡ start (v.log.setup.rounds + 1) = c.start.ensures.value
    ∙ ap (λ x. start (x + 1)) (rounds_view c.self.view_is) in
    none_past start (g.P.Plan.receives v.plan) (g.P.Plan.nodes v.plan) v.log
    (g.met.P.Plan.laws v.plan) h.sized c.args.step (omega (arith, last, c.if-step-start.true))

pub place-requires : goal.place-requires
place-requires g c =
    let v = c.args.self.now in
    let start = g.P.Plan.start v.plan in
    let h = of_view g.P.Plan.start g.P.Plan.nodes c.self.view_is c.self.invariant in
    let last : c.start.result ≡ start (v.log.setup.rounds + 1) = c.start.ensures.value
    ∙ ap (λ x. start (x + 1)) (rounds_view c.self.view_is) in
    let all = all_rounds start (g.P.Plan.receives v.plan) (g.P.Plan.nodes v.plan) v.log
    (g.met.P.Plan.laws v.plan) h.sized (rounds_few h) in
    let top = ap (λ (z : Recorded _). g.P.Plan.start z.plan 4097) c.self.view_is in
    omega (arith, last, all, top, c.if-step-start.false)

pub returns-in-Send : goal.returns-in-Send
returns-in-Send g c =
    let v = c.args.self.now in
    let start = g.P.Plan.start v.plan in
    let h = of_view g.P.Plan.start g.P.Plan.nodes c.self.view_is c.self.invariant in
    let last : c.start.result ≡ start (v.log.setup.rounds + 1) = c.start.ensures.value
    ∙ ap (λ x. start (x + 1)) (rounds_view c.self.view_is) in
    let slot = subst (λ (z : Recorded _). IsSendSlot (g.P.Plan.nodes z.plan)
    (g.P.Plan.start z.plan) c.args.step c.in-Send.round c.in-Send.to) c.self.view_is
    c.in-Send.ensures in
    message_is start (g.P.Plan.receives v.plan) (g.P.Plan.nodes v.plan) v.log
    (g.met.P.Plan.laws v.plan) h.sized c.in-Send.round c.args.node c.in-Send.to c.args.step
    c.requires slot (omega (arith, last, c.if-step-start.false))

pub returns-in-Receive : goal.returns-in-Receive
returns-in-Receive g c =
    let v = c.args.self.now in
    let start = g.P.Plan.start v.plan in
    let h = of_view g.P.Plan.start g.P.Plan.nodes c.self.view_is c.self.invariant in
    let slot = subst (λ (z : Recorded _). IsReceiveSlot (g.P.Plan.nodes z.plan)
    (g.P.Plan.start z.plan) c.args.step c.in-Receive.round c.in-Receive.last) c.self.view_is
    c.in-Receive.ensures in
    none_there start (g.P.Plan.receives v.plan) (g.P.Plan.nodes v.plan) v.log
    (g.met.P.Plan.laws v.plan) h.sized c.in-Receive.round c.args.step c.in-Receive.last slot
