use Rattle.std.proofs.Common.{◌≡◌, ◌∙◌, ◌+◌, ◌<◌, ◌≤◌, ap, subst, arith}
use Rattle.std.proofs.lemmas.Bool.{lt-ltb, ltb-true}
use Rattle.slot_plans.specs.Slot.{IsSendSlot, IsReceiveSlot}
use Rattle.step_book.proofs.Slots.{all_rounds}
use Rattle.omission_explainer.proofs.Slots.{past_all, receive_first, sends_small, slot_first}
use Rattle.omission_explainer.proofs.judging.has_receive.Goals as goal
use Rattle.omission_explainer.proofs.judging.has_receive.Goals.{in-Send, in-Receive}

pub returns-then-high-low : goal.returns-then-high-low
returns-then-high-low g c = (
  λ h. cc,
  λ h. let a = h.after in let b = h.before in
      absurd (omega (arith, c.if-high-low.true)),
)

pub returns-then-low-from : goal.returns-then-low-from
returns-then-low-from g c =
    let v = c.args.book.now.log in
    let start = g.P.Plan.start in
    let p = c.args.book.now.plan in
    let last : c.start.result ≡ start p (v.setup.rounds + 1) = c.start.ensures
    ∙ ap (λ x. start x (c.setup.result.now.rounds + 1)) c.plan-plan.ensures.value
    ∙ ap (λ u. start p (u.rounds + 1)) c.setup.ensures.value in
    let past : start p (v.setup.rounds + 1) ≤ c.args.low =
    omega (arith, last, c.from.ensures, c.if-low-from.true) in (
      λ h. cc,
      λ h. absurd (past_all (start p) (g.P.Plan.receives p) (g.P.Plan.nodes p) v
          (g.met.P.Plan.laws p) c.plan-plan.ensures.sized c.setup.ensures.lawful.sized.few_rounds
          c.args.low c.args.high past h),
    )

pub place-requires : goal.place-requires
place-requires g c =
    let v = c.args.book.now.log in
    let start = g.P.Plan.start in
    let p = c.args.book.now.plan in
    let last : c.start.result ≡ start p (v.setup.rounds + 1) = c.start.ensures
    ∙ ap (λ x. start x (c.setup.result.now.rounds + 1)) c.plan-plan.ensures.value
    ∙ ap (λ u. start p (u.rounds + 1)) c.setup.ensures.value in
    let all = all_rounds (start p) (g.P.Plan.receives p) (g.P.Plan.nodes p) v
    (g.met.P.Plan.laws p) c.plan-plan.ensures.sized c.setup.ensures.lawful.sized.few_rounds in
    let top : start c.plan-plan.result 4097 ≡ start p 4097 =
    ap (λ x. start x 4097) c.plan-plan.ensures.value in
    omega (arith, last, all, top, c.from.ensures, c.if-low-from.false)

pub overflow_add-start : goal.overflow_add-start
overflow_add-start g c =
    let v = c.args.book.now.log in
    let start = g.P.Plan.start in
    let p = c.args.book.now.plan in
    let slot = subst (λ x. IsSendSlot (g.P.Plan.nodes x)
    (start x) c.args.low c.in-Send.round c.in-Send.to) c.plan-plan.ensures.value c.in-Send.ensures in
    let z = slot.of_round in
    let small = sends_small (start p) (g.P.Plan.receives p) (g.P.Plan.nodes p) v
    (g.met.P.Plan.laws p) c.plan-plan.ensures.sized c.setup.ensures.lawful.sized.few_rounds
    c.in-Send.round z.0 z.1 in
    let from : c.start-in-Send.result ≡ start p c.in-Send.round = c.start-in-Send.ensures
    ∙ ap (λ x. start x c.in-Send.round) c.plan-plan.ensures.value in
    let nodes : c.nodes.result ≡ g.P.Plan.nodes p = c.nodes.ensures
    ∙ ap (g.P.Plan.nodes) c.plan-plan.ensures.value in
    omega (arith, small, from, nodes)

pub returns : goal.returns
returns g c =
    let v = c.args.book.now.log in
    let start = g.P.Plan.start in
    let p = c.args.book.now.plan in
    let last : c.start.result ≡ start p (v.setup.rounds + 1) = c.start.ensures
    ∙ ap (λ x. start x (c.setup.result.now.rounds + 1)) c.plan-plan.ensures.value
    ∙ ap (λ u. start p (u.rounds + 1)) c.setup.ensures.value in
    let within : c.args.low < start p (v.setup.rounds + 1) =
    omega (arith, last, c.from.ensures, c.if-low-from.false) in
    elim c.match-place.branch [
      | in-Send w ↦
          let slot = subst (λ x. IsSendSlot (g.P.Plan.nodes x)
          (start x) c.args.low w.in-Send.round w.in-Send.to) c.plan-plan.ensures.value
          w.in-Send.ensures in
          let from : w.start-in-Send.result ≡ start p w.in-Send.round = w.start-in-Send.ensures
          ∙ ap (λ x. start x w.in-Send.round) c.plan-plan.ensures.value in
          let nodes : w.nodes.result ≡ g.P.Plan.nodes p = w.nodes.ensures
          ∙ ap (g.P.Plan.nodes) c.plan-plan.ensures.value in
          let first : c.match-place.first ≡ start p w.in-Send.round + g.P.Plan.nodes p =
          omega (arith, w.first-is, w.from-first.ensures, from, nodes) in
          let both = slot_first (start p) (g.P.Plan.receives p) (g.P.Plan.nodes p) v
          (g.met.P.Plan.laws p) c.plan-plan.ensures.sized c.setup.ensures.lawful.sized.few_rounds
          w.in-Send.round w.in-Send.to c.args.low c.args.high c.match-place.first slot within
          first in
          (λ h. both.0 (ltb-true _ _ h), λ h. lt-ltb _ _ (both.1 h))
      | in-Receive w ↦
          let slot = subst (λ x. IsReceiveSlot (g.P.Plan.nodes x)
          (start x) c.args.low w.in-Receive.round w.in-Receive.last) c.plan-plan.ensures.value
          w.in-Receive.ensures in
          let both = receive_first (start p) (g.P.Plan.receives p) (g.P.Plan.nodes p) v
          (g.met.P.Plan.laws p) c.plan-plan.ensures.sized c.setup.ensures.lawful.sized.few_rounds
          w.in-Receive.round c.args.low c.args.high w.in-Receive.last slot within in (
            λ h. both.0 (let l = ltb-true _ _ h in let is = w.first-is in omega arith),
            λ h. lt-ltb _ _ (let l = both.1 h in let is = w.first-is in omega arith),
          )
    ]
