use Rattle.std.proofs.Common.{◌≡◌, List, length, take, ℕ}
use Rattle.std.specs.List.{AllZip}
use Rattle.command_runs.proofs.Together.{Holds}
use Rattle.command_runs.proofs.parts.parts_in.Given as goal

abbrev pub invariant-loop-place : goal.invariant-loop-place
invariant-loop-place g l =
    record {
      many : length l.parts.items ≡ l.place;
      held : AllZip (Holds (g.D.Desk.files l.initial.desk)) (take l.place l.names)
          l.parts.items;
      files : (other : List ℕ)
          → g.D.Desk.files l.desk other ≡ g.D.Desk.files l.initial.desk other;
      written : g.D.Desk.written l.desk ≡ g.D.Desk.written l.initial.desk;
    }
