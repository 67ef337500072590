use Rattle.std.proofs.Common.{◌≡◌, ◌∙◌, ◌<◌, ◌+◌, ap, refl, arith}
use Rattle.round_meaning.specs.declared.nodes.NodeSet.{NodeSet}
use Rattle.omission_explainer.specs.declared.explaining.Outcome.TheVariants.{Heard, Silent, Omitted}
use Rattle.step_book.specs.Log.{history, world_of}
use Rattle.step_book.specs.Work.{any_within}
use Rattle.step_book.specs.World.{earliest}
use Rattle.omission_explainer.proofs.Outcomes.{marks_to, shows, silent_unheard, sorted_none}
use Rattle.omission_explainer.proofs.Outcomes.{sorted_heard, sorted_silent, sorted_omitted}
use Rattle.omission_explainer.proofs.Outcomes.{within_in}
use Rattle.omission_explainer.proofs.explaining.outcomes_of.Goals as goal
use Rattle.omission_explainer.proofs.explaining.outcomes_of.Goals.{in-Heard, in-Silent, in-Omitted}

not_heard : Omitted ≡ Heard → ⊥
not_heard e = cc

not_quiet : Omitted ≡ Silent → ⊥
not_quiet e = cc

pub loop-from-init : goal.loop-from-init
loop-from-init g c = λ few. sorted_none _ _ _ _ _ c.empty-heard.ensures c.empty-silent.ensures
    c.empty-omitted.ensures

pub loop-from-preserved : goal.loop-from-preserved
loop-from-preserved g c = λ few.
    let k : c.loop-from.from < 64 = omega arith in
    let before = c.loop-from.invariant (omega arith) in
    let bits = λ (s : NodeSet). s.bits in
    let p = c.args.book.now.plan in
    let v = c.args.book.now.log in
    let start = g.P.Plan.start p in
    let first : c.from-first.result ≡ start (earliest c.args.round) = c.from-first.ensures
    ∙ c.start.ensures ∙ ap (λ x. g.P.Plan.start x c.earliest.result) c.plan.ensures.value
    ∙ ap start c.earliest.ensures in
    let end : c.from-end.result ≡ start (c.args.round + 1) = c.from-end.ensures ∙ c.start-2.ensures
    ∙ ap (λ x. g.P.Plan.start x (c.args.round + 1)) c.plan-2.ensures.value in
    let marks = marks_to (world_of start v) (history v) c.args.node c.args.round c.loop-from.from in
    let within : any_within marks c.from-first.result c.from-end.result
    ≡ within_in start v c.args.node c.args.round c.loop-from.from =
    ap (λ x. any_within marks x c.from-end.result) first
    ∙ ap (any_within marks (start (earliest c.args.round))) end in
    elim c.match-outcome_of.branch [
      | in-Heard w ↦ sorted_heard _ _ _ _ _ k refl within before (w.in-Heard.ensures.heard.0 refl).0
          (w.in-Heard.ensures.heard.0 refl).1 (ap bits w.heard-is
          ∙ w.with-heard.ensures) (ap bits w.silent-is) (ap bits w.omitted-is)
      | in-Silent w ↦
          let mark = w.in-Silent.ensures.silent.0 refl in
          let none = silent_unheard start (g.P.Plan.receives p)
          (g.P.Plan.nodes p) v c.args.node c.args.round c.loop-from.from
          (g.met.P.Plan.laws p) c.agrees.ensures.sized c.agrees.ensures.faithful c.requires.node
          c.requires.first c.requires.closed mark in
          sorted_silent _ _ _ _ _ k refl within before mark (within
          ∙ none) (ap bits w.heard-is) (ap bits w.silent-is
          ∙ w.with-silent.ensures) (ap bits w.omitted-is)
      | in-Omitted w ↦
          sorted_omitted _ _ _ _ _ k refl within before
          (λ e. not_heard (w.in-Omitted.ensures.heard.1 (
            e,
            λ s. not_quiet (w.in-Omitted.ensures.silent.1 s),
          )))
          (λ s. not_quiet (w.in-Omitted.ensures.silent.1 s)) (ap bits w.heard-is)
          (ap bits w.silent-is) (ap bits w.omitted-is ∙ w.with-omitted.ensures)
    ]

pub returns-clause-heard : goal.returns-clause-heard
returns-clause-heard g c =
    let p = c.args.book.now.plan in
    (shows (g.P.Plan.start p) (g.P.Plan.receives p)
    (g.P.Plan.nodes p) c.args.book.now.log c.args.node c.args.round c.setup.result.now
    c.loop-from.from _ _ _ (g.met.P.Plan.laws p) c.agrees.ensures.sized
    c.agrees.ensures.faithful c.requires.node c.requires.first c.requires.closed c.setup.ensures.value
    c.loop-from-test.false c.loop-from.auto.from-end c.loop-from.invariant).0

pub returns-clause-silent : goal.returns-clause-silent
returns-clause-silent g c =
    let p = c.args.book.now.plan in
    (shows (g.P.Plan.start p) (g.P.Plan.receives p)
    (g.P.Plan.nodes p) c.args.book.now.log c.args.node c.args.round c.setup.result.now
    c.loop-from.from _ _ _ (g.met.P.Plan.laws p) c.agrees.ensures.sized
    c.agrees.ensures.faithful c.requires.node c.requires.first c.requires.closed c.setup.ensures.value
    c.loop-from-test.false c.loop-from.auto.from-end c.loop-from.invariant).1

pub returns-clause-omitted : goal.returns-clause-omitted
returns-clause-omitted g c =
    let p = c.args.book.now.plan in
    (shows (g.P.Plan.start p) (g.P.Plan.receives p)
    (g.P.Plan.nodes p) c.args.book.now.log c.args.node c.args.round c.setup.result.now
    c.loop-from.from _ _ _ (g.met.P.Plan.laws p) c.agrees.ensures.sized
    c.agrees.ensures.faithful c.requires.node c.requires.first c.requires.closed c.setup.ensures.value
    c.loop-from-test.false c.loop-from.auto.from-end c.loop-from.invariant).2
