use Rattle.std.proofs.Common.{◌≡◌, ◌∙◌, ◌+◌, ap, arith}
use Rattle.std.proofs.lemmas.Bool.{both_ways}
use Rattle.step_book.specs.Log.{history, world_of}
use Rattle.step_book.specs.Work.{any_within}
use Rattle.step_book.specs.World.{earliest}
use Rattle.step_book.proofs.Starts.{plan_is}
use Rattle.omission_explainer.specs.Lateness.{marks_of}
use Rattle.omission_reasons.proofs.Omitted.{omitted_from, omitted_loud}
use Rattle.omission_reasons.proofs.omission.is_omitted.Goals as goal

pub returns-then-is_silent : goal.returns-then-is_silent
returns-then-is_silent g c =
    let v = c.args.book.now.log in
    let p = c.args.book.now.plan in
    let start = g.P.Plan.start p in
    let plan = plan_is start (g.P.Plan.receives p) (g.P.Plan.nodes p) v (g.met.P.Plan.laws p)
    c.agrees.ensures.sized in
    let silent = c.is_silent.ensures.0 c.if-is_silent.true in (
      λ h. cc,
      λ h. absurd (omitted_loud start v c.args.name c.requires plan c.agrees.ensures.faithful h
          silent),
    )

pub returns : goal.returns
returns g c =
    let v = c.args.book.now.log in
    let p = c.args.book.now.plan in
    let start = g.P.Plan.start p in
    let n = c.args.name in
    let plan = plan_is start (g.P.Plan.receives p) (g.P.Plan.nodes p) v (g.met.P.Plan.laws p)
    c.agrees.ensures.sized in
    let first : c.from-first.result ≡ start (earliest n.round) = c.from-first.ensures
    ∙ c.start.ensures ∙ ap (λ x. g.P.Plan.start x c.earliest.result) c.plan.ensures.value
    ∙ ap start c.earliest.ensures in
    let end : c.from-end.result ≡ start (n.round + 1) = c.from-end.ensures ∙ c.start-2.ensures
    ∙ ap (λ x. g.P.Plan.start x (n.round + 1)) c.plan-2.ensures.value in
    let marks = marks_of (world_of start v) (history v) n in
    let within : c.was_released.result
    ≡ any_within marks (start (earliest n.round)) (start (n.round + 1)) =
    c.was_released.ensures
    ∙ ap (λ x. any_within marks x c.from-end.result) first
    ∙ ap (any_within marks (start (earliest n.round))) end in
    omitted_from start v n c.requires plan c.agrees.ensures.faithful
    (omega (arith, c.round_of.ensures.value, c.if-round_of-name.false)) c.was_released.result within
    (λ e. both_ways c.is_silent.result c.if-is_silent.false (c.is_silent.ensures.1 e))
