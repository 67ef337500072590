use Rattle.std.proofs.Common.{◌≡◌, ◌≢◌, ◌+◌, ◌<◌, ◌≤◌, [], length, sym, ap, ◌∙◌, subst, arith}
use Rattle.round_meaning.specs.declared.setup.Setup.{Setup}
use Rattle.step_book.specs.Log.{Recorded, count_of, round_of}
use Rattle.adversary.specs.Driving.{GoesOn, IsSettled}
use Rattle.adversary.proofs.Settled.{due_now, on_ok, settled_close, settled_receive, settled_send}
use Rattle.adversary.proofs.driver.step.Goals as goal

pub returns-then-offset-from-clause-settled : goal.returns-then-offset-from-clause-settled
returns-then-offset-from-clause-settled g c =
    let is = c.book-book.ensures in
    let me = c.args.me in
    let j = c.args.journal.now in
    let start = g.P.Plan.start j.plan in
    let round : c.round_of-round.result ≡ round_of j.log me = c.round_of-round.ensures.value
    ∙ ap (λ (b : Recorded _). round_of b.log me) is in
    let count : c.count_of-count.result ≡ count_of j.log me = c.count_of-count.ensures
    ∙ ap (λ (b : Recorded _). count_of b.log me) is in
    let plan : c.plan-plan.result ≡ j.plan = c.plan-plan.ensures.value
    ∙ ap (λ (b : Recorded _). b.plan) is in
    let first : c.start.result ≡ start (round_of j.log me) = c.start.ensures
    ∙ ap (λ p. g.P.Plan.start p c.round_of-round.result) plan ∙ ap start round in
    let nodes : c.from-2.result ≡ j.log.setup.nodes = c.from-2.ensures
    ∙ ap (λ (s : Setup). s.nodes) c.setup-2.ensures.value
    ∙ ap (λ (b : Recorded _). b.log.setup.nodes) is in
    let sized : g.P.Plan.nodes j.plan ≡ j.log.setup.nodes =
    subst (λ (b : Recorded _). g.P.Plan.nodes b.plan ≡ b.log.setup.nodes) is
    c.plan-plan.ensures.sized in
    let within : count_of j.log me < start (round_of j.log me) + g.P.Plan.nodes j.plan =
    omega (
      arith,
      c.if-offset-from.true,
      c.saturating_sub-offset.ensures,
      c.from.ensures,
      first,
      nodes,
      sized,
      count,
    ) in
    on_ok c.send.result c.send.ensures.plan c.send.ensures.log c.send.ensures.row (λ p l r.
    subst (λ q. IsSettled (g.P.Plan.start q) c.send.new.journal.log me) (sym p)
    (settled_send start (g.P.Plan.receives j.plan) (g.P.Plan.nodes j.plan)
    (g.met.P.Plan.laws j.plan) j.log c.send.new.journal.log me
    (omega (arith, c.round_of-round.ensures.low, round)) within l (ap length r)))

pub returns-in_ok-close-clause-settled : goal.returns-in_ok-close-clause-settled
returns-in_ok-close-clause-settled g c =
    let is = c.book-book.ensures in
    let me = c.args.me in
    let j = c.args.journal.now in
    let start = g.P.Plan.start j.plan in
    let round : c.round_of-round.result ≡ round_of j.log me = c.round_of-round.ensures.value
    ∙ ap (λ (b : Recorded _). round_of b.log me) is in
    let count : c.count_of-count.result ≡ count_of j.log me = c.count_of-count.ensures
    ∙ ap (λ (b : Recorded _). count_of b.log me) is in
    let plan : c.plan-plan.result ≡ j.plan = c.plan-plan.ensures.value
    ∙ ap (λ (b : Recorded _). b.plan) is in
    let next : c.start-2.result ≡ start (round_of j.log me + 1) = c.start-2.ensures
    ∙ ap (λ p. g.P.Plan.start p (c.round_of-round.result + 1)) plan
    ∙ ap (λ r. start (r + 1)) round in
    let last : count_of j.log me + 1 ≡ start (round_of j.log me + 1) =
    omega (
      arith,
      c.if-saturating_add-from.true,
      c.saturating_add.ensures,
      c.from-3.ensures,
      c.start-2.type_inv,
      next,
      count,
    ) in
    let planned : c.close.new.journal.plan ≡ j.plan = c.in_ok-close.ensures.plan
    ∙ c.in_ok-receive.ensures.plan in
    let node : c.receive.new.node.me ≡ me = c.in_ok-receive.ensures.node.me in
    let ended = subst (λ i. GoesOn c.receive.new.journal.log c.close.new.journal.log i []) node
    c.in_ok-close.ensures.log in
    let up = subst (λ i. round_of c.close.new.journal.log i
    ≡ round_of c.receive.new.journal.log i + 1) node c.in_ok-close.ensures.round in
    subst (λ q. IsSettled (g.P.Plan.start q) c.close.new.journal.log me) (sym planned)
    (settled_close start (g.P.Plan.receives j.plan) (g.P.Plan.nodes j.plan)
    (g.met.P.Plan.laws j.plan) j.log c.receive.new.journal.log c.close.new.journal.log me last
    c.in_ok-receive.ensures.log (ap length c.in_ok-receive.ensures.row) ended up)

pub returns-else-saturating_add-from-clause-settled
    : goal.returns-else-saturating_add-from-clause-settled
returns-else-saturating_add-from-clause-settled g c =
    let is = c.book-book.ensures in
    let me = c.args.me in
    let j = c.args.journal.now in
    let start = g.P.Plan.start j.plan in
    let round : c.round_of-round.result ≡ round_of j.log me = c.round_of-round.ensures.value
    ∙ ap (λ (b : Recorded _). round_of b.log me) is in
    let count : c.count_of-count.result ≡ count_of j.log me = c.count_of-count.ensures
    ∙ ap (λ (b : Recorded _). count_of b.log me) is in
    let plan : c.plan-plan.result ≡ j.plan = c.plan-plan.ensures.value
    ∙ ap (λ (b : Recorded _). b.plan) is in
    let next : c.start-2.result ≡ start (round_of j.log me + 1) = c.start-2.ensures
    ∙ ap (λ p. g.P.Plan.start p (c.round_of-round.result + 1)) plan
    ∙ ap (λ r. start (r + 1)) round in
    let more : count_of j.log me + 1 ≢ start (round_of j.log me + 1) =
    λ e. c.if-saturating_add-from.false
    (omega (
      arith,
      e,
      c.saturating_add.ensures,
      c.from-3.ensures,
      c.start-2.type_inv,
      next,
      count,
    )) in
    let last : round_of j.log me ≤ j.log.setup.rounds =
    omega (
      arith,
      c.if-round-setup.false,
      round,
      ap (λ (s : Setup). s.rounds) c.setup.ensures.value,
      ap (λ (b : Recorded _). b.log.setup.rounds) is,
    ) in
    subst (λ q. IsSettled (g.P.Plan.start q) c.receive.new.journal.log me)
    (sym c.in_ok-receive.ensures.plan)
    (settled_receive start (g.P.Plan.receives j.plan) (g.P.Plan.nodes j.plan)
    (g.met.P.Plan.laws j.plan) j.log c.receive.new.journal.log me last c.requires.settled more
    c.in_ok-receive.ensures.log (ap length c.in_ok-receive.ensures.row))

pub close-requires-clause-due : goal.close-requires-clause-due
close-requires-clause-due g c =
    let is = c.book-book.ensures in
    let me = c.args.me in
    let j = c.args.journal.now in
    let k = c.receive.new.journal in
    let start = g.P.Plan.start j.plan in
    let round : c.round_of-round.result ≡ round_of j.log me = c.round_of-round.ensures.value
    ∙ ap (λ (b : Recorded _). round_of b.log me) is in
    let count : c.count_of-count.result ≡ count_of j.log me = c.count_of-count.ensures
    ∙ ap (λ (b : Recorded _). count_of b.log me) is in
    let plan : c.plan-plan.result ≡ j.plan = c.plan-plan.ensures.value
    ∙ ap (λ (b : Recorded _). b.plan) is in
    let next : c.start-2.result ≡ start (round_of j.log me + 1) = c.start-2.ensures
    ∙ ap (λ p. g.P.Plan.start p (c.round_of-round.result + 1)) plan
    ∙ ap (λ r. start (r + 1)) round in
    let last : count_of j.log me + 1 ≡ start (round_of j.log me + 1) =
    omega (
      arith,
      c.if-saturating_add-from.true,
      c.saturating_add.ensures,
      c.from-3.ensures,
      c.start-2.type_inv,
      next,
      count,
    ) in
    let due = due_now start j.log k.log me last c.in_ok-receive.ensures.log
    c.in_ok-receive.ensures.row in
    let own : c.receive.new.node.me ≡ me = c.in_ok-receive.ensures.node.me in
    subst (λ i. count_of k.log i ≡ g.P.Plan.start k.plan (round_of k.log i + 1)) (sym own)
    (due ∙ ap (λ p. g.P.Plan.start p (round_of k.log me + 1)) (sym c.in_ok-receive.ensures.plan))
