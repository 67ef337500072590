use Rattle.std.proofs.Common.{◌≡◌, ◌∙◌, ap, refl, subst, length, arith}
use Rattle.std.specs.Prelude.{map, slice_index}
use Rattle.std.specs.List.{range_with_len}
use Rattle.std.proofs.lemmas.List.FromFn.{length-map-range_with_len}
use Rattle.std.proofs.lemmas.Result.{IfOk-weaker}
use Rattle.command_runs.proofs.Omitted.{shown}
use Rattle.omission_schedules.specs.Reports.{ShowsRounds}
use Rattle.omission_texts.specs.Stops.{steps_of}
use Rattle.round_meaning.specs.Omissions.{is_omitted}
use Rattle.command_runs.proofs.omitting.rounds_omitting.Goals as goal

pub rounds_report-requires : goal.rounds_report-requires
rounds_report-requires g c =
    let s = c.args.setup.now in
    let many : length c.deref.result.now ≡ s.nodes =
    ap length (c.deref.ensures.value ∙ c.in_ok-table.ensures.stops)
    ∙ length-map-range_with_len (steps_of (g.P.Plan.nodes c.args.plan) (g.P.Plan.start c.args.plan)
    s c.args.omissions.now) 0 s.nodes in
    omega (arith, many)

pub returns-clause-made : goal.returns-clause-made
returns-clause-made g c =
    let s = c.args.setup.now in
    let p = c.args.program.now in
    let start = g.P.Plan.start c.args.plan in
    let ls = c.args.omissions.now in
    let stops = map (steps_of (g.P.Plan.nodes c.args.plan) start s ls) (range_with_len 0 s.nodes) in
    IfOk-weaker c.rounds_report.result _ _
    (λ report h. shown (g.P.Plan.nodes c.args.plan) start s ls c.in_ok-table.table stops c.requires
    c.in_ok-table.ensures.table refl p report
    (subst (λ xs. ShowsRounds start p s (slice_index xs) (is_omitted c.in_ok-table.table) report)
    (c.deref.ensures.value ∙ c.in_ok-table.ensures.stops) h))
    c.rounds_report.ensures.shown
