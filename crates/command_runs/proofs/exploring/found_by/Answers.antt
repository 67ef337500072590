use Rattle.std.proofs.Common.{All, ap, ap₂, subst, sym}
use Rattle.exploration_texts.proofs.Showing.{answers_shown}
use Rattle.exploration_texts.specs.Stops.{IsToldToShow}
use Rattle.command_runs.specs.InRounds.{IsFound}
use Rattle.command_runs.specs.declared.exploring.Found.{Found}
use Rattle.command_runs.proofs.Explored.{trace_made}
use Rattle.command_runs.proofs.exploring.found_by.Goals as goal
use Rattle.slot_plans.specs.Named.{kind_of, nodes_of, receives_of, start_of}

pub trace_for-requires-clause-showable : goal.trace_for-requires-clause-showable
trace_for-requires-clause-showable g c =
    let s = c.args.setup.now in
    subst (All (IsToldToShow s)) (sym c.deref.ensures.value)
    (answers_shown c.args.program.now s c.args.exploration.now.exploring c.in_ok-told.told.items
    c.requires.explorable.0.sized c.in_ok-told.ensures.told)

pub details_for-requires-clause-showable : goal.details_for-requires-clause-showable
details_for-requires-clause-showable g c =
    let s = c.args.setup.now in
    subst (All (IsToldToShow s)) (sym c.deref-2.ensures.value)
    (answers_shown c.args.program.now s c.args.exploration.now.exploring c.in_ok-told.told.items
    c.requires.explorable.0.sized c.in_ok-told.ensures.told)

pub returns-clause-made : goal.returns-clause-made
returns-clause-made g c =
    let plan = c.in-Some.plan in
    trace_made (receives_of (kind_of plan)) (start_of (kind_of plan) (nodes_of plan))
    c.args.setup.now c.args.kind c.args.exploration.now.exploring.trace c.in_ok-told.told.items _
    (rw (← c.deref.ensures.value) c.in_ok-trace.ensures)

pub returns-clause-found : goal.returns-clause-found
returns-clause-found g c =
    let p = c.args.program.now in
    let s = c.args.setup.now in
    let k = c.args.kind in
    let e = c.args.exploration.now.exploring in
    let made = c.in-Some.ensures.made in
    let plan = c.in-Some.plan in
    let found : Found = record {
      told = c.in_ok-told.told;
      trace = c.in_ok-trace.trace;
      details = c.in_ok-details.details;
    } in
    let is : IsFound (receives_of (kind_of plan)) (start_of (kind_of plan) (nodes_of plan)) p s k
    e found = record {
      answers = c.in_ok-told.ensures.told;
      trace = rw (← c.deref.ensures.value) c.in_ok-trace.ensures;
    } in
    subst (λ f. IsFound f (start_of k s.nodes) p s k e found) (ap receives_of made.1)
    (subst (λ f. IsFound (receives_of (kind_of plan)) f p s k e found) (ap₂ start_of made.1 made.0)
    is)
