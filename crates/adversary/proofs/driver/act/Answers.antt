use Rattle.std.proofs.Common.{◌≡◌, ◌<◌, arith, length, refl, set, subst, sym}
use Rattle.step_book.specs.Log.{Recorded}
use Rattle.run_events.specs.declared.event.Event.TheVariants.{Release, Drop, Copy}
use Rattle.adversary.specs.Driving.{IsNodeOf}
use Rattle.adversary.proofs.Runs.{driven_rest, driven_step, known_step, plan_kept}
use Rattle.adversary.proofs.Settled.{on_each, on_four}
use Rattle.adversary.proofs.driver.act.Goals as goal

pub step-requires-clause-node : goal.step-requires-clause-node
step-requires-clause-node g c =
    let j = c.args.journal.now in
    let inside = known_step j.log.setup j.log.setup c.args.event c.in-Step.node refl
    c.requires.known c.in-Step.is in
    subst (IsNodeOf (g.P.Plan.start j.plan) j.log c.in-Step.node) (sym c.index_mut.ensures.value)
    (c.requires.driven.matching.each c.in-Step.node c.index_mut.result.now inside)

pub returns-in-Step-clause-driven : goal.returns-in-Step-clause-driven
returns-in-Step-clause-driven g c =
    let j = c.args.journal.now in
    let start = g.P.Plan.start in
    let nodes = c.args.nodes.now.items in
    let sized = subst (λ (b : Recorded _). g.P.Plan.nodes b.plan ≡ b.log.setup.nodes) c.book.ensures
    c.agrees.ensures.sized in
    let planned = plan_kept start g.P.Plan.receives g.P.Plan.nodes j g.met.P.Plan.laws sized in
    let inside = known_step j.log.setup j.log.setup c.args.event c.in-Step.node refl
    c.requires.known c.in-Step.is in
    let within : c.in-Step.node < length nodes =
    omega (arith, inside, c.requires.driven.matching.sized) in
    on_four c.step.result c.step.ensures.plan c.step.ensures.log c.step.ensures.node
    c.step.ensures.settled
    (λ plan log node settled. driven_step start j c.step.new.journal c.in-Step.node nodes
    (set nodes c.in-Step.node c.step.new.node) c.step.new.node planned c.requires.driven within
    plan log node settled refl)

pub returns-in-Release-clause-driven : goal.returns-in-Release-clause-driven
returns-in-Release-clause-driven g c =
    let j = c.args.journal.now in
    let start = g.P.Plan.start in
    let nodes = c.args.nodes.now.items in
    let sized = subst (λ (b : Recorded _). g.P.Plan.nodes b.plan ≡ b.log.setup.nodes) c.book.ensures
    c.agrees.ensures.sized in
    let planned = plan_kept start g.P.Plan.receives g.P.Plan.nodes j g.met.P.Plan.laws sized in
    on_each c.release.result c.release.ensures
    (λ h. driven_rest start j c.release.new.journal (Release c.in-Release.name) nodes planned
    (λ i. refl) c.requires.driven h)

pub returns-in-Drop-clause-driven : goal.returns-in-Drop-clause-driven
returns-in-Drop-clause-driven g c =
    let j = c.args.journal.now in
    let start = g.P.Plan.start in
    let nodes = c.args.nodes.now.items in
    let sized = subst (λ (b : Recorded _). g.P.Plan.nodes b.plan ≡ b.log.setup.nodes) c.book.ensures
    c.agrees.ensures.sized in
    let planned = plan_kept start g.P.Plan.receives g.P.Plan.nodes j g.met.P.Plan.laws sized in
    on_each c.lose.result c.lose.ensures
    (λ h. driven_rest start j c.lose.new.journal (Drop c.in-Drop.name) nodes planned
    (λ i. refl) c.requires.driven h)

pub returns-in-Copy-clause-driven : goal.returns-in-Copy-clause-driven
returns-in-Copy-clause-driven g c =
    let j = c.args.journal.now in
    let start = g.P.Plan.start in
    let nodes = c.args.nodes.now.items in
    let sized = subst (λ (b : Recorded _). g.P.Plan.nodes b.plan ≡ b.log.setup.nodes) c.book.ensures
    c.agrees.ensures.sized in
    let planned = plan_kept start g.P.Plan.receives g.P.Plan.nodes j g.met.P.Plan.laws sized in
    on_each c.copy.result c.copy.ensures
    (λ h. driven_rest start j c.copy.new.journal (Copy c.in-Copy.name) nodes planned
    (λ i. refl) c.requires.driven h)
