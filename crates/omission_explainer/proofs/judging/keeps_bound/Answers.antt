use Rattle.std.proofs.Common.{◌≡◌, ◌+◌, ◌∙◌, ◌↔◌, true, max, get_or, refl, sym, ap, subst, arith}
use Rattle.std.proofs.lemmas.Bool.{both_ways}
use Rattle.round_lang.specs.Sets.{is_in}
use Rattle.step_book.specs.Log.{history, world_of}
use Rattle.step_book.proofs.Reading.{nodes_are}
use Rattle.step_book.proofs.Starts.{plan_is}
use Rattle.omission_explainer.specs.Lateness.{HasReceive}
use Rattle.omission_explainer.proofs.Keeping.{has_member, member_of, keeps_silent, keeps_other}
use Rattle.omission_explainer.proofs.Keeping.{keeps_at, slot_small}
use Rattle.omission_explainer.proofs.judging.keeps_bound.Goals as goal

pub returns-then-not-contains : goal.returns-then-not-contains
returns-then-not-contains g c =
    let v = c.args.book.now.log in
    let p = c.args.book.now.plan in
    let start = g.P.Plan.start p in
    let n = nodes_are start v in
    let w = world_of start v in
    let plan = plan_is start (g.P.Plan.receives p) (g.P.Plan.nodes p) v
    (g.met.P.Plan.laws p) c.agrees.ensures.sized in
    let few = c.agrees.ensures.lawful.sized.few_nodes in
    let slot = c.in-Some.ensures in
    let small = slot.named.to in
    let out = λ (h : is_in c.args.terms.correct.bits c.in-Some.name.to ≡ true).
    both_ways c.contains.result c.if-not-contains.true (c.contains.ensures
    ∙ has_member _ _ (omega arith) h) in (
      λ h. keeps_other w (history v) c.args.terms.correct.bits c.args.terms.delta c.args.terms.gst
          c.args.counts.now c.args.node plan c.in-Some.name slot out,
      λ h. refl,
    )

pub overflow_add-count : goal.overflow_add-count
overflow_add-count g c =
    let v = c.args.book.now.log in
    let p = c.args.book.now.plan in
    let start = g.P.Plan.start p in
    let n = nodes_are start v in
    let slot = c.in-Some.ensures in
    let small = slot.named.to in
    let sized = c.agrees.ensures.sized in
    let low = slot_small start (g.P.Plan.receives p) (g.P.Plan.nodes p) v
    (g.met.P.Plan.laws p) sized c.agrees.ensures.lawful.sized.few_rounds c.args.node _
    c.in-Some.name slot (omega arith) in
    omega (arith, low, c.from-in-Some.ensures)

pub returns-else-not-contains : goal.returns-else-not-contains
returns-else-not-contains g c =
    let v = c.args.book.now.log in
    let p = c.args.book.now.plan in
    let start = g.P.Plan.start p in
    let n = nodes_are start v in
    let w = world_of start v in
    let plan = plan_is start (g.P.Plan.receives p) (g.P.Plan.nodes p) v
    (g.met.P.Plan.laws p) c.agrees.ensures.sized in
    let name = c.in-Some.name in
    let slot = c.in-Some.ensures in
    let here : is_in c.args.terms.correct.bits name.to ≡ true =
    member_of _ _ (sym c.contains.ensures ∙ c.if-not-contains.false) in
    let count = get_or c.args.counts.now c.args.node 0 in
    let low : c.max-low.result ≡ max (count + c.args.terms.delta)
    (get_or c.args.counts.now name.to 0) = c.max-low.ensures
    ∙ ap (λ x. max (count + x) (get_or c.args.counts.now name.to 0)) c.from-in-Some.ensures in
    let both = subst (λ x. (c.has_receive.result ≡ true)
    ↔ HasReceive w (max (count + c.args.terms.delta) (get_or c.args.counts.now name.to 0)) x)
    c.open_until.ensures
    (subst (λ x. (c.has_receive.result ≡ true) ↔ HasReceive w x c.open_until.result) low
    c.has_receive.ensures) in
    let from : name.from ≡ c.args.node = slot.from in
    keeps_at w (history v) c.args.terms.correct.bits c.args.terms.delta c.args.terms.gst
    c.args.counts.now c.args.node plan name c.has_receive.result slot here
    (omega (arith, c.from.ensures, c.if-count-from.false)) both

pub returns-in-None : goal.returns-in-None
returns-in-None g c =
    let v = c.args.book.now.log in
    let p = c.args.book.now.plan in
    let start = g.P.Plan.start p in
    let n = nodes_are start v in
    let w = world_of start v in
    let plan = plan_is start (g.P.Plan.receives p) (g.P.Plan.nodes p) v
    (g.met.P.Plan.laws p) c.agrees.ensures.sized in (
      λ h. keeps_silent w (history v) c.args.terms.correct.bits c.args.terms.delta c.args.terms.gst
          c.args.counts.now c.args.node plan c.in-None.ensures,
      λ h. refl,
    )
