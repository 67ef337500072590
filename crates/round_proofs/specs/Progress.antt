-- What has to be shown of a program, so that its nodes decide.
use Rattle.std.specs.Prelude.{◌≡◌, ℕ, suc, ◌+◌, ◌<◌, ◌≤◌, Bool, true, false, Option, Some}
use Rattle.std.specs.Prelude.{slice_index}
use Rattle.std.specs.List.{count_by, range_with_len}
use Rattle.round_meaning.specs.declared.setup.Setup.{Setup}
use Rattle.round_proofs.specs.Machines.{Machine}
use Rattle.round_proofs.specs.Safety.{one_on}

-- the nodes that live hear each other from round `clear` to round `last`, and all nodes but t live
pub record HearsLiving (s : Setup) (living : ℕ → Bool) (omits : ℕ → ℕ → ℕ → Bool)
    (clear last : ℕ) : Type 0 where
  pub heard : (i r j : ℕ) → i < s.nodes → j < s.nodes → clear ≤ r → r ≤ last → living i ≡ true
      → living j ≡ true → omits i r j ≡ false
  pub many : s.nodes ≤ count_by living (range_with_len 0 s.nodes) + s.faults

-- Three obligations beside those of safety. The writer of the proof chooses `many` rounds in a row,
-- after `from` others. `Reached q w` says what the nodes have come to after q of them, in the
-- states w. Together: after these rounds each node that lives has decided.
pub record IsProgress {Node Message : Type 0} (m : Machine Node Message) (s : Setup) (period : ℕ)
    (omits : ℕ → ℕ → ℕ → Bool) (from many : ℕ) (living : ℕ → Bool) (decided : Node → Option ℕ)
    (Inv : ℕ → (ℕ → Node) → Type 0) (Reached : ℕ → (ℕ → Node) → Type 0) : Type 0 where
  -- it's true where these rounds begin
  pub begins : (w : ℕ → Node) → Inv from w → Reached 0 w
  -- each of the rounds brings the nodes one further
  pub gets_on : (q : ℕ) (w : ℕ → Node) → q < many → Inv (from + q) w → Reached q w
      → Reached (suc q) (one_on m s period omits (from + q) w)
  -- and after the last of them each node that lives has decided
  pub ends : (w : ℕ → Node) (i : ℕ) → Inv (from + many) w → Reached many w → i < s.nodes
      → living i ≡ true → (v : ℕ) × (decided (w i) ≡ Some v)

-- An invariant alone: it holds at the start, and each of the first `last` rounds keeps it. With
-- this, finality's obligation and the three of progress, nodes decide that needn't agree.
pub record IsInvariant {Node Message : Type 0} (m : Machine Node Message) (s : Setup) (period : ℕ)
    (omits : ℕ → ℕ → ℕ → Bool) (last : ℕ) (Inv : ℕ → (ℕ → Node) → Type 0) : Type 0 where
  pub starts : Inv 0 (λ i. m.start (slice_index s.inputs i) i)
  pub goes_on : (r : ℕ) (w : ℕ → Node) → r < last → Inv r w
      → Inv (suc r) (one_on m s period omits r w)
