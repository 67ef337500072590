use Rattle.std.proofs.Common.{◌≡◌, ◌∙◌, ◌≤◌, ap, arith, length}
use Rattle.std.proofs.lemmas.List.FromFn.{length-map-range_with_len}
use Rattle.exploration_texts.specs.Stops.{steps_of}
use Rattle.answer_details.proofs.failing_run.SearchedRuns.report_of.Goals as goal

pub rounds_report-requires : goal.rounds_report-requires
rounds_report-requires g c =
    let s = c.args.self.now.setup.now in
    let plan = c.args.self.now.plan in
    let many : length c.deref-2.result.now ≡ s.nodes =
    ap length (c.deref-2.ensures.value ∙ c.in_ok-stops.ensures)
    ∙ length-map-range_with_len (steps_of (g.P.Plan.nodes plan) (g.P.Plan.start plan)
    c.args.found.now.round c.deref.result.now) 0 s.nodes in
    omega (arith, many)
