-- The three sets of a closed round of a node: what came of each sender's message to it.
use Rattle.std.specs.Prelude.{◌≡◌, ℕ, Bool, ◌&&◌, not}
use Rattle.round_lang.specs.Sets.{set_of, union, inter, everything}
use Rattle.omission_explainer.specs.Rows.{ClosedRound}

-- the sender has a message, and it was carried
abbrev pub is_heard : (carried sends : ℕ → Bool) → ℕ → Bool
is_heard carried sends j = carried j && sends j

-- the sender took its slot and has no message
abbrev pub is_silent : (sends stands : ℕ → Bool) → ℕ → Bool
is_silent sends stands j = stands j && not (sends j)

-- all other senders
abbrev pub prints_omitted : (carried sends stands : ℕ → Bool) → ℕ → Bool
prints_omitted carried sends stands j =
    not (is_heard carried sends j) && not (is_silent sends stands j)

-- the heard senders below n, as a set
abbrev pub heard_set : ℕ → (carried sends : ℕ → Bool) → ℕ
heard_set n carried sends = set_of n (is_heard carried sends)

-- the silent senders below n
abbrev pub silent_set : ℕ → (sends stands : ℕ → Bool) → ℕ
silent_set n sends stands = set_of n (is_silent sends stands)

-- the omitted senders below n
abbrev pub omitted_set : ℕ → (carried sends stands : ℕ → Bool) → ℕ
omitted_set n carried sends stands = set_of n (prints_omitted carried sends stands)

-- a row's sets are those of what was carried, sent and stood
pub record IsPrinted (n : ℕ) (carried sends stands : ℕ → Bool) (row : ClosedRound) : Type 0 where
  pub heard : row.heard ≡ heard_set n carried sends
  pub silent : row.silent ≡ silent_set n sends stands
  pub omitted : row.omitted ≡ omitted_set n carried sends stands

-- three sets have no node in common, and have together all nodes below n
pub record PartsNodes (n a b c : ℕ) : Type 0 where
  pub all : union (union a b) c ≡ everything n
  pub first_two_apart : inter a b ≡ 0
  pub outer_two_apart : inter a c ≡ 0
  pub last_two_apart : inter b c ≡ 0
