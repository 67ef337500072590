use Rattle.std.proofs.Common.{◌≡◌, true, List, ℕ, Option, Some, None, Bor}
use Rattle.std.specs.Prelude.{is_some, option_copied}
use Rattle.std.specs.Arc.{arc_value}
use Rattle.round_check.proofs.Facts.{is_some-first_input}
use Rattle.round_check.proofs.checked.Checked.input.Goals as goal

-- what refers to something isn't none
absent : (o : Option (Bor (List ℕ))) → o ≡ None → is_some (option_copied o) ≡ true → ⊥
absent None none some = cc
absent (Some x) none some = cc

pub unreachable-requires : goal.unreachable-requires
unreachable-requires c =
    let some : is_some (option_copied c.first_input.result) ≡ true =
    rw (c.first_input.ensures, c.variables.ensures.value, c.deref.ensures)
    (is_some-first_input (arc_value c.self.inside.shaped).program c.self.invariant) in
    absent c.first_input.result c.in-None.is some
