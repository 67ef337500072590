use Rattle.std.proofs.Common.{◌≡◌, ◌+◌}
use Rattle.std.specs.List.{All}
use Rattle.round_explorer.specs.Searched.{IsTrack, search_of}
use Rattle.step_code.specs.Turns.{IsOfState}
use Rattle.run_samples.specs.Samples.{HoldsBefore}
use Rattle.run_samples.proofs.running.course_of.Given as goal

abbrev pub invariant-loop-done : goal.invariant-loop-done
invariant-loop-done g l =
    record {
      machine : l.machine ≡ l.program;
      is_track : IsTrack (search_of l.program l.case) l.done l.path;
      kinds : All (IsOfState l.program) l.path.states;
      holds : HoldsBefore l.program l.case l.path.lost (l.done + 1);
    }
