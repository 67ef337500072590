use Rattle.std.proofs.Common.{◌≡◌, ◌∙◌, ◌<◌, ◌≤◌, ◌++◌, ◌∷◌, ap, ap₂, arith, length, map, subst}
use Rattle.std.specs.Prelude.{string_bytes}
use Rattle.std.specs.List.{range_with_len}
use Rattle.std.proofs.lemmas.List.FromFn.{length-map-range_with_len}
use Rattle.std.proofs.lemmas.Result.{IfOk-weaker}
use Rattle.command_runs.specs.InRounds.{shown_by, shown_setup}
use Rattle.command_runs.proofs.Explored.{comment_drops, plain_comment, says_behind, shown_so}
use Rattle.exploration_texts.specs.Lines.{comment_text}
use Rattle.exploration_texts.specs.Stops.{steps_of}
use Rattle.round_explorer.specs.Answers.{in_rounds, with_inputs}
use Rattle.round_meaning.specs.declared.setup.Setup.{Setup}
use Rattle.schedule_text.specs.Small.{IsSmall}
use Rattle.schedule_text.specs.Texts.{Says, max_text}
use Rattle.schedule_text.specs.Writing.{text_of}
use Rattle.command_runs.proofs.exploring.shown.Goals as goal

pub schedule_with_stops-requires-clause-stops : goal.schedule_with_stops-requires-clause-stops
schedule_with_stops-requires-clause-stops g c =
    let s = c.args.setup.now in
    let many : length c.deref-2.result.now ≡ s.nodes =
    ap length (c.deref-2.ensures.value ∙ c.in_ok-stops.ensures)
    ∙ length-map-range_with_len (steps_of (g.P.Plan.nodes c.args.plan)
    (g.P.Plan.start c.args.plan) c.args.failed.found.now.round c.deref.result.now) 0 s.nodes in
    omega (arith, many)

pub returns : goal.returns
returns g c =
    let s = c.args.setup.now in
    let k = c.args.kind in
    let name = c.args.failed.name in
    let found = c.args.failed.found.now in
    let nodes = g.P.Plan.nodes c.args.plan in
    let start = g.P.Plan.start c.args.plan in
    let receives = g.P.Plan.receives c.args.plan in
    let u = shown_setup s found in
    let stop : c.deref-2.result.now
    ≡ map (steps_of nodes start found.round found.failures.items) (range_with_len 0 s.nodes) =
    c.deref-2.ensures.value ∙ c.in_ok-stops.ensures
    ∙ ap (λ fs. map (steps_of nodes start found.round fs) (range_with_len 0 s.nodes))
    c.deref.ensures.value in
    let events : c.deref-3.result.now ≡ shown_by receives start s found =
    c.deref-3.ensures.value ∙ c.in_ok-events.ensures
    ∙ shown_so receives start s found nodes c.deref-2.result.now c.requires.nodes stop in
    let made : in_rounds (with_inputs s c.in_ok-copy.field-0) found.round ≡ u =
    ap (λ inputs. in_rounds (with_inputs s inputs) found.round) c.in_ok-copy.ensures in
    let bytes = string_bytes c.in_ok-schedule.schedule in
    let comment = comment_text name found.round in
    let past = c.requires.showable.past in
    let few_rounds = c.requires.setup.few_rounds in
    let small : IsSmall found.round = omega (arith, past, few_rounds) in
    let many : length c.in_ok-copy.field-0 ≡ s.nodes =
    ap length c.in_ok-copy.ensures ∙ c.requires.showable.inputs in
    let one = c.requires.setup.some_node in
    let some : 0 < length c.in_ok-copy.field-0 = omega (arith, many, one) in
    let says : length bytes ≤ max_text → Says bytes u k (shown_by receives start s found) = λ few.
    subst (λ es. Says bytes u k es) events
    (subst (λ (x : Setup). Says bytes x k c.deref-3.result.now) made
    (c.in_ok-schedule.ensures.read_back some few)) in
    IfOk-weaker c.commented.result _ _ (λ text h. record {
      spelled = h ∙ ap (λ t. comment ++ 10 ∷ t) (c.as_str.ensures.value
          ∙ c.in_ok-schedule.ensures.spelled ∙ ap₂ (λ x es. text_of x k es) made events);
      read_back = says_behind comment bytes (string_bytes text) u k
          (shown_by receives start s found) (plain_comment name found.round small)
          (comment_drops name found.round)
          (h ∙ ap (λ t. comment ++ 10 ∷ t) c.as_str.ensures.value) says;
    }) c.commented.ensures
