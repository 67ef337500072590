use Rattle.std.proofs.Common.{◌≡◌, ◌∙◌, ◌<◌, ap, refl, subst, length, arith}
use Rattle.std.specs.Prelude.{map, slice_index, string_bytes}
use Rattle.std.specs.List.{range_with_len}
use Rattle.std.proofs.lemmas.List.FromFn.{length-map-range_with_len}
use Rattle.command_runs.proofs.Omitted.{realised}
use Rattle.command_runs.specs.InOmissions.{realised_by}
use Rattle.omission_schedules.specs.Schedules.{schedule_with_stops}
use Rattle.omission_texts.specs.Stops.{steps_of}
use Rattle.round_meaning.specs.Omissions.{is_omitted}
use Rattle.schedule_text.specs.Texts.{Says}
use Rattle.schedule_text.specs.Writing.{text_of}
use Rattle.command_runs.proofs.omitting.realised_schedule.Goals as goal

pub schedule_with_stops-requires-clause-stops : goal.schedule_with_stops-requires-clause-stops
schedule_with_stops-requires-clause-stops g c =
    let s = c.args.setup.now in
    let many : length c.deref.result.now ≡ s.nodes =
    ap length (c.deref.ensures.value ∙ c.in_ok-table.ensures.stops)
    ∙ length-map-range_with_len (steps_of (g.P.Plan.nodes c.args.plan) (g.P.Plan.start c.args.plan)
    s c.args.omissions.now) 0 s.nodes in
    omega (arith, many)

pub returns-clause-made : goal.returns-clause-made
returns-clause-made g c =
    let s = c.args.setup.now in
    let k = c.args.kind in
    let start = g.P.Plan.start c.args.plan in
    let receives = g.P.Plan.receives c.args.plan in
    let ls = c.args.omissions.now in
    let stops = c.in_ok-table.ensures.stops in
    let same : c.deref-2.result.now ≡ realised_by receives start s ls =
    c.deref-2.ensures.value ∙ c.in_ok-events.ensures
    ∙ ap (λ xs. schedule_with_stops s.nodes receives start (slice_index xs)
    (is_omitted c.in_ok-table.table) s.rounds) (c.deref.ensures.value ∙ stops)
    ∙ realised (g.P.Plan.nodes c.args.plan) start s ls c.in_ok-table.table
    (map (steps_of (g.P.Plan.nodes c.args.plan) start s ls) (range_with_len 0 s.nodes)) c.requires
    c.in_ok-table.ensures.table refl receives in
    let sized = c.in_ok-table.ensures.lawful.sized in
    let nodes = sized.some_node in
    let inputs = sized.inputs in
    let some : 0 < length s.inputs = omega (nodes, inputs, arith) in
    record {
      spelled = c.in_ok-text.ensures.spelled ∙ ap (text_of s k) same;
      read_back = λ short. subst (λ es. Says (string_bytes c.in_ok-text.text) s k es) same
          (c.in_ok-text.ensures.read_back some short);
    }
