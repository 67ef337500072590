use Rattle.std.proofs.Common.{◌≡◌, ◌+◌}
use Rattle.std.specs.List.{All}
use Rattle.round_explorer.specs.Searched.{IsPart, search_of}
use Rattle.step_code.specs.Turns.{IsOfState}
use Rattle.run_samples.proofs.running.next_path.Given as goal

abbrev pub invariant-loop-me : goal.invariant-loop-me
invariant-loop-me g l =
    record {
      machine : l.machine ≡ l.program;
      part : IsPart (search_of l.program l.case) l.fn.path (l.done + 1) l.me l.part;
      kinds : All (IsOfState l.program) l.part.states;
    }
