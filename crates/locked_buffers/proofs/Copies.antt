-- A copy says what its original says.
use Rattle.std.proofs.Common.{◌≡◌, ℕ, Option, Some, None, sym, subst, ◌∙◌}
use Rattle.std.specs.Prelude.{IfSome, option_map}
use Rattle.round_meaning.specs.Rounds.{Algorithm}
use Rattle.step_machine.specs.Sealed.{Frame, IsHonest, copied_as}
use Rattle.step_book.specs.Buffers.{AreHonest, BufferView, flying_at, run_of}

copied_spelt : (a : Algorithm) (k : ℕ) (o : Option Frame) → IfSome o (IsHonest a)
    → IfSome (option_map (copied_as k) o) (IsHonest a)
copied_spelt a k None h = tt
copied_spelt a k (Some f) h = record { says = h.says; types = h.types }

-- what was copied of a frame of a buffer may go to that buffer
pub spelt_made : (s : BufferView) (copy round place : ℕ) (o : Option Frame) (frame : Frame)
    → AreHonest (run_of s) s.flying s.waiting
    → o ≡ option_map (copied_as copy) (flying_at s round place) → o ≡ Some frame
    → IsHonest (run_of s) frame
spelt_made s copy round place o frame all made some =
    subst (λ x. IfSome x (IsHonest (run_of s))) (sym made ∙ some)
    (copied_spelt (run_of s) copy (flying_at s round place) (all.flies round place))
