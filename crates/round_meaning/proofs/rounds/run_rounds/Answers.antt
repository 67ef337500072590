use Rattle.std.proofs.Common.{◌≡◌, ◌+◌, [], length, map, ap, ◌∙◌, arith}
use Rattle.std.specs.List.{range_with_len}
use Rattle.std.proofs.lemmas.List.{get_or_read}
use Rattle.std.proofs.lemmas.List.FromFn.{length-map-range_with_len}
use Rattle.round_meaning.specs.Omissions.{is_omitted}
use Rattle.round_meaning.specs.Rounds.{algorithm, algorithm_of}
use Rattle.round_meaning.specs.States.{States, states_after}
use Rattle.round_meaning.proofs.Consensus.{table_agrees, table_decides_inputs}
use Rattle.round_meaning.proofs.Lists.{map_push}
use Rattle.round_meaning.proofs.RoundLaws.{HasRun-from_rows, IsComplete-from_rows, row-states_after}
use Rattle.round_meaning.proofs.RoundLaws.{rows_none}
use Rattle.round_meaning.proofs.rounds.run_rounds.Goals as goal

pub loop-done-init : goal.loop-done-init
loop-done-init c =
    let a = algorithm_of c.args.program.now c.args.setup.now in
    let omitted = is_omitted c.args.omissions.now in
    rows_none a omitted _ _ _ c.new-snapshots.ensures.items c.in_ok-initial_states.ensures
    c.in_ok-push.ensures.items

pub index-before-requires : goal.index-before-requires
index-before-requires c =
    let a = algorithm_of c.args.program.now c.args.setup.now in
    let omitted = is_omitted c.args.omissions.now in
    let rows = c.loop-done.snapshots in
    let many : length rows.items ≡ c.loop-done.done + 1 = ap length c.loop-done.invariant
    ∙ length-map-range_with_len (states_after a omitted) 0 (c.loop-done.done + 1) in
    omega (arith, rows.ok.0)

pub next_states-requires-clause-before : goal.next_states-requires-clause-before
next_states-requires-clause-before c =
    let a = algorithm_of c.args.program.now c.args.setup.now in
    let omitted = is_omitted c.args.omissions.now in
    let rows = c.loop-done.snapshots in
    let done = c.loop-done.done in
    let many : length rows.items ≡ done + 1 = ap length c.loop-done.invariant
    ∙ length-map-range_with_len (states_after a omitted) 0 (done + 1) in
    get_or_read rows.items done c.index-before.result.now (omega arith) c.index-before.ensures []
    ∙ row-states_after a omitted done done rows.items c.loop-done.invariant (omega arith)

pub loop-done-preserved : goal.loop-done-preserved
loop-done-preserved c =
    map_push _ _ _ _ _ c.loop-done.invariant c.in_ok-next.ensures c.in_ok-push-2.ensures.items

pub new-requires : goal.new-requires
unfolding algorithm
new-requires c =
    let a = algorithm_of c.args.program.now c.args.setup.now in
    let omitted = is_omitted c.args.omissions.now in
    let all : c.loop-done.done ≡ c.args.rounds = omega arith in
    IsComplete-from_rows a omitted c.args.rounds c.loop-done.snapshots.items (c.loop-done.invariant
    ∙ ap (λ n. map (states_after a omitted) (range_with_len 0 (n + 1))) all)

pub returns-clause-states : goal.returns-clause-states
unfolding algorithm
returns-clause-states c =
    let a = algorithm_of c.args.program.now c.args.setup.now in
    let omitted = is_omitted c.args.omissions.now in
    let all : c.loop-done.done ≡ c.new.result.rounds =
    omega (arith, ap (λ (t : States). t.rounds) c.new.ensures) in
    HasRun-from_rows c.new.result a omitted (ap (λ (t : States). t.nodes) c.new.ensures)
    (ap (λ (t : States). t.by_round) c.new.ensures ∙ c.loop-done.invariant
    ∙ ap (λ n. map (states_after a omitted) (range_with_len 0 (n + 1))) all)

pub returns-clause-agreement : goal.returns-clause-agreement
returns-clause-agreement c =
    table_agrees c.args.program.now c.args.setup.now (is_omitted c.args.omissions.now) c.new.result
    (ap (λ (t : States). t.program) c.new.ensures
    ∙ c.in_ok-copy.ensures) (ap (λ (t : States). t.nodes) c.new.ensures)
    (returns-clause-states c)

pub returns-clause-validity : goal.returns-clause-validity
returns-clause-validity c =
    table_decides_inputs c.args.program.now c.args.setup.now
    (is_omitted c.args.omissions.now) c.new.result (ap (λ (t : States). t.program) c.new.ensures
    ∙ c.in_ok-copy.ensures) (ap (λ (t : States). t.nodes) c.new.ensures)
    (returns-clause-states c)
