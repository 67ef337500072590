use Rattle.std.proofs.Common.{◌≡◌, ◌∙◌, ◌+◌, ◌<◌, ap, subst, arith}
use Rattle.slot_plans.specs.Slot.{IsReceiveSlot, IsSendSlot}
use Rattle.step_book.proofs.Slots.{all_rounds}
use Rattle.omission_explainer.proofs.Slots.{sends_small}
use Rattle.omission_reasons.proofs.Receiving.{after_send, at_receive, none_past}
use Rattle.omission_reasons.proofs.receive.first_receive.Goals as goal

pub returns-then-low-from : goal.returns-then-low-from
returns-then-low-from g c =
    let v = c.args.book.now.log in
    let start = g.P.Plan.start in
    let p = c.args.book.now.plan in
    let last : c.start.result ≡ start p (v.setup.rounds + 1) = c.start.ensures
    ∙ ap (λ x. start x (c.setup.result.now.rounds + 1)) c.plan-plan.ensures.value
    ∙ ap (λ u. start p (u.rounds + 1)) c.setup.ensures.value in
    none_past (start p) (g.P.Plan.receives p) (g.P.Plan.nodes p) v (g.met.P.Plan.laws p)
    c.plan-plan.ensures.sized c.args.low (omega (arith, last, c.from.ensures, c.if-low-from.true))

pub place-requires : goal.place-requires
place-requires g c =
    let v = c.args.book.now.log in
    let start = g.P.Plan.start in
    let p = c.args.book.now.plan in
    let last : c.start.result ≡ start p (v.setup.rounds + 1) = c.start.ensures
    ∙ ap (λ x. start x (c.setup.result.now.rounds + 1)) c.plan-plan.ensures.value
    ∙ ap (λ u. start p (u.rounds + 1)) c.setup.ensures.value in
    let all = all_rounds (start p) (g.P.Plan.receives p) (g.P.Plan.nodes p) v
    (g.met.P.Plan.laws p) c.plan-plan.ensures.sized c.setup.ensures.lawful.sized.few_rounds in
    let top : start c.plan-plan.result 4097 ≡ start p 4097 =
    ap (λ x. start x 4097) c.plan-plan.ensures.value in
    omega (arith, last, all, top, c.from.ensures, c.if-low-from.false)

pub overflow_add-start : goal.overflow_add-start
overflow_add-start g c =
    let v = c.args.book.now.log in
    let start = g.P.Plan.start in
    let p = c.args.book.now.plan in
    let slot = subst (λ x. IsSendSlot (g.P.Plan.nodes x)
    (start x) c.args.low c.in-Send.round c.in-Send.to) c.plan-plan.ensures.value c.in-Send.ensures in
    let z = slot.of_round in
    let small = sends_small (start p) (g.P.Plan.receives p) (g.P.Plan.nodes p) v
    (g.met.P.Plan.laws p) c.plan-plan.ensures.sized c.setup.ensures.lawful.sized.few_rounds
    c.in-Send.round z.0 z.1 in
    let from : c.start-in-Send.result ≡ start p c.in-Send.round = c.start-in-Send.ensures
    ∙ ap (λ x. start x c.in-Send.round) c.plan-plan.ensures.value in
    let nodes : c.nodes.result ≡ g.P.Plan.nodes p = c.nodes.ensures
    ∙ ap (g.P.Plan.nodes) c.plan-plan.ensures.value in
    omega (arith, small, from, nodes)

pub returns-in-Send : goal.returns-in-Send
returns-in-Send g c =
    let v = c.args.book.now.log in
    let start = g.P.Plan.start in
    let p = c.args.book.now.plan in
    let last : c.start.result ≡ start p (v.setup.rounds + 1) = c.start.ensures
    ∙ ap (λ x. start x (c.setup.result.now.rounds + 1)) c.plan-plan.ensures.value
    ∙ ap (λ u. start p (u.rounds + 1)) c.setup.ensures.value in
    let within : c.args.low < start p (v.setup.rounds + 1) =
    omega (arith, last, c.from.ensures, c.if-low-from.false) in
    let slot = subst (λ x. IsSendSlot (g.P.Plan.nodes x)
    (start x) c.args.low c.in-Send.round c.in-Send.to) c.plan-plan.ensures.value c.in-Send.ensures in
    let from : c.start-in-Send.result ≡ start p c.in-Send.round = c.start-in-Send.ensures
    ∙ ap (λ x. start x c.in-Send.round) c.plan-plan.ensures.value in
    let nodes : c.nodes.result ≡ g.P.Plan.nodes p = c.nodes.ensures
    ∙ ap (g.P.Plan.nodes) c.plan-plan.ensures.value in
    after_send (start p) (g.P.Plan.receives p) (g.P.Plan.nodes p) v (g.met.P.Plan.laws p)
    c.plan-plan.ensures.sized c.in-Send.round c.in-Send.to c.args.low c.from-step.result slot within
    (omega (arith, c.from-step.ensures, from, nodes))

pub returns-in-Receive : goal.returns-in-Receive
returns-in-Receive g c =
    let v = c.args.book.now.log in
    let start = g.P.Plan.start in
    let p = c.args.book.now.plan in
    let last : c.start.result ≡ start p (v.setup.rounds + 1) = c.start.ensures
    ∙ ap (λ x. start x (c.setup.result.now.rounds + 1)) c.plan-plan.ensures.value
    ∙ ap (λ u. start p (u.rounds + 1)) c.setup.ensures.value in
    let within : c.args.low < start p (v.setup.rounds + 1) =
    omega (arith, last, c.from.ensures, c.if-low-from.false) in
    let slot = subst (λ x. IsReceiveSlot (g.P.Plan.nodes x)
    (start x) c.args.low c.in-Receive.round c.in-Receive.last) c.plan-plan.ensures.value
    c.in-Receive.ensures in
    at_receive (start p) (g.P.Plan.receives p) (g.P.Plan.nodes p) v (g.met.P.Plan.laws p)
    c.plan-plan.ensures.sized c.in-Receive.round c.args.low c.in-Receive.last slot within
