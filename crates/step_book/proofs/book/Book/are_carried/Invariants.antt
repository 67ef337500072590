use Rattle.std.proofs.Common.{◌≡◌, ℕ, ◌-◌, ◌<◌}
use Rattle.std.specs.Prelude.{option_map}
use Rattle.step_machine.specs.Sealed.{held_at}
use Rattle.step_book.specs.Log.{history, round_of, world_of}
use Rattle.step_book.specs.Work.{heard_from, tag_of}
use Rattle.step_book.proofs.book.Book.are_carried.Given as goal

abbrev pub invariant-loop-from : goal.invariant-loop-from
invariant-loop-from g l =
    (j : ℕ) → j < l.from
    → option_map tag_of (held_at l.frames j) ≡ heard_from
    (world_of (g.P.Plan.start l.self.plan) l.self.log) (history l.self.log) l.node
    (round_of l.self.log l.node - 1) j
