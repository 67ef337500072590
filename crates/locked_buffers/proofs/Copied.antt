-- The next copy of a message, as a post answers it.
use Rattle.std.proofs.Common.{◌≡◌, ℕ, Option, Some, None, refl}
use Rattle.std.specs.Prelude.{IfSome}
use Rattle.step_book.specs.Log.{HasNoCopy, IsLeastCopy, Recorded}
use Rattle.run_events.specs.declared.name.Name.{Name}
use Rattle.locked_buffers.specs.Runs.{IsNextCopy}

pub next_is : {P : Type 0} (start : P → ℕ → ℕ) (one : Recorded P) (n : Name) (o : Option Name)
    → IfSome o (λ m. (m ≡ record n { copy = m.copy })
    × IsLeastCopy (start one.plan) one.log n m.copy)
    → (o ≡ None → HasNoCopy (start one.plan) one.log n) → IsNextCopy start one n o
next_is start one n None some none = none refl
next_is start one n (Some m) some none = some
