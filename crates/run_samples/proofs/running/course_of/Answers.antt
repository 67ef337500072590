use Rattle.std.proofs.Common.{◌≡◌, ◌+◌, ◌≤◌, ◌∙◌, ap, arith, length, subst}
use Rattle.std.specs.List.{All}
use Rattle.std.specs.Prelude.{IfSome}
use Rattle.round_meaning.specs.declared.setup.Setup.{Setup}
use Rattle.round_meaning.specs.Omissions.{is_omitted}
use Rattle.round_meaning.specs.Rounds.{algorithm, algorithm_of}
use Rattle.round_meaning.specs.States.{initial_states}
use Rattle.round_meaning.proofs.RoundLaws.{length-states_after}
use Rattle.round_explorer.specs.Searched.{AreInputs, IsTrack, Track, begun_in, search_of}
use Rattle.step_code.specs.Turns.{IsOfState}
use Rattle.round_explorer.proofs.Tracks.{track_none}
use Rattle.run_samples.specs.Samples.{Follows, HoldsBefore}
use Rattle.run_samples.proofs.RunLaws.{fails_here, holds_begun, holds_more, whole_run}
use Rattle.run_samples.proofs.running.course_of.Goals as goal

pub loop-done-init : goal.loop-done-init
loop-done-init g c =
    let p = c.args.program.now in
    let x = c.args.case.now in
    let path = c.in_ok-path.path in
    let same = c.requires.machine in
    record {
      machine = c.first_path.ensures.machine ∙ same;
      is_track = track_none (search_of p x) path (c.in_ok-path.ensures.path
          ∙ ap (λ q. begun_in (initial_states (algorithm_of q x.setup))) same);
      kinds = subst (λ q. All (IsOfState q) path.states) same c.in_ok-path.ensures.kinds;
      holds = holds_begun p x path.lost c.requires.setup.some_round;
    }

pub is_broken-requires : goal.is_broken-requires
unfolding algorithm
is_broken-requires g c =
    let w = search_of c.args.program.now c.args.case.now in
    let done = c.loop-done.done in
    let f = subst (λ o. IfSome o (Follows w done c.loop-done.path)) c.in-Some.is
    c.in_ok-next.ensures.path in
    ap length f.is_track.states
    ∙ length-states_after w.algorithm (is_omitted c.in-Some.longer.lost) (done + 1)

pub returns-then-is_broken-clause-course : goal.returns-then-is_broken-clause-course
returns-then-is_broken-clause-course g c =
    let p = c.args.program.now in
    let x = c.args.case.now in
    let done = c.loop-done.done in
    let inputs = c.inputs_of-inputs.result.bits in
    let are =
    subst (λ (s : Setup). AreInputs s inputs) c.setup.ensures c.inputs_of-inputs.ensures in
    let f = subst (λ o. IfSome o (Follows (search_of p x) done c.loop-done.path)) c.in-Some.is
    c.in_ok-next.ensures.path in
    let past : done + 1 ≤ x.setup.rounds =
    omega (arith, ap (λ (s : Setup). s.rounds) c.setup-2.ensures) in
    fails_here p x inputs done c.loop-done.path c.in-Some.longer are past
    (c.leaves_enough.ensures.0 c.if-not-leaves_enough.false) f c.if-is_broken.ensures
    c.loop-done.invariant.holds

pub loop-done-preserved : goal.loop-done-preserved
loop-done-preserved g c =
    let p = c.args.program.now in
    let x = c.args.case.now in
    let done = c.loop-done.done in
    let inputs = c.inputs_of-inputs.result.bits in
    let are =
    subst (λ (s : Setup). AreInputs s inputs) c.setup.ensures c.inputs_of-inputs.ensures in
    let f = subst (λ o. IfSome o (Follows (search_of p x) done c.loop-done.path)) c.in-Some.is
    c.in_ok-next.ensures.path in
    record {
      machine = c.next_path.ensures.machine ∙ c.loop-done.invariant.machine;
      is_track = f.is_track;
      kinds = subst (λ o. IfSome o (λ (y : Track). All (IsOfState p) y.states)) c.in-Some.is
          c.in_ok-next.ensures.kinds;
      holds = holds_more p x inputs done c.loop-done.path c.in-Some.longer are f
          c.if-is_broken.ensures c.loop-done.invariant.holds;
    }

pub returns-clause-course : goal.returns-clause-course
returns-clause-course g c =
    let p = c.args.program.now in
    let x = c.args.case.now in
    let path = c.loop-done.path in
    let all : c.loop-done.done ≡ x.setup.rounds =
    omega (arith, ap (λ (s : Setup). s.rounds) c.setup-2.ensures) in
    whole_run p x path
    (subst (λ n. IsTrack (search_of p x) n path) all c.loop-done.invariant.is_track)
    (subst (λ n. HoldsBefore p x path.lost (n + 1)) all c.loop-done.invariant.holds)
