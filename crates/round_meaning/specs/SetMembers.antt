-- Sets of values by their members, whatever numbers stand for them.
use Rattle.std.specs.Prelude.{◌≡◌, ℕ, ◌^◌, ◌<◌, ◌≤◌, Bool, true, false, ◌&&◌, ◌||◌, not, nat_eq}
use Rattle.std.specs.Prelude.{nat_lt}
use Rattle.std.specs.List.{count_by, range_with_len}
use Rattle.round_lang.specs.Sets.{everything, inter, is_in, least, minus, only, set_of, size, union}

-- the members of what each form and each operator gives; sets with the same members are the same
pub record SetsAreMembers : Type 0 where
  -- {v : c} has just the values below K for which c holds
  pub comprehension : (k : ℕ) (c : ℕ → Bool) (v : ℕ) → is_in (set_of k c) v ≡ (nat_lt v k && c v)
  pub empty : (v : ℕ) → is_in 0 v ≡ false
  pub all : (k v : ℕ) → is_in (everything k) v ≡ nat_lt v k
  pub single : (k e v : ℕ) → is_in (only k e) v ≡ (nat_lt v k && nat_eq v e)
  pub either : (a b v : ℕ) → v < 64 → is_in (union a b) v ≡ (is_in a v || is_in b v)
  pub both : (a b v : ℕ) → v < 64 → is_in (inter a b) v ≡ (is_in a v && is_in b v)
  pub without : (a b v : ℕ) → v < 64 → is_in (minus a b) v ≡ (is_in a v && not (is_in b v))
  pub same : (a b : ℕ) → a < 2 ^ 64 → b < 2 ^ 64
      → ((v : ℕ) → v < 64 → is_in a v ≡ is_in b v) → a ≡ b
  -- the size is how many values are members
  pub counted : (s : ℕ) → size s ≡ count_by (is_in s) (range_with_len 0 64)
  -- the least member is one, and no member is less; it's K if there is none
  pub least_member : (k s v : ℕ) → v < 64 → is_in s v ≡ true
      → (is_in s (least k s) ≡ true) × (least k s ≤ v)
  pub least_of_none : (k s : ℕ) → ((v : ℕ) → v < 64 → is_in s v ≡ false) → least k s ≡ k
