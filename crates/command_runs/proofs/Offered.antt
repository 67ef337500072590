-- What a program of the library is offered for is within its limits.
use Rattle.std.proofs.Common.{ℕ, ◌≤◌, arith, inl, inr}
use Rattle.std.proofs.lemmas.Bool.{cases_lt}
use Rattle.algorithm_library.specs.Refusals.{IsWithin}
use Rattle.run_events.specs.Limits.{max_nodes}
use Rattle.round_meaning.specs.Setups.{max_faults}
use Rattle.round_lang.specs.Limits.{max_values}

-- what isn't above is within
not_above : (a b : ℕ) → ¬ ¬ (a ≤ b) → a ≤ b
not_above a b h = elim (cases_lt b a) [
  | inl above ↦ absurd (h (λ within. omega (arith, within, above)))
  | inr within ↦ within
]

pub within_limits : (nodes faults values : ℕ) → ¬ ¬ (IsWithin nodes faults values)
    → IsWithin nodes faults values
within_limits nodes faults values h = record {
  count = record {
    some = not_above 1 values (λ none. h (λ is. none is.count.some));
    few = not_above values max_values (λ none. h (λ is. none is.count.few));
  };
  some_node = not_above 1 nodes (λ none. h (λ is. none is.some_node));
  few_nodes = not_above nodes max_nodes (λ none. h (λ is. none is.few_nodes));
  few_faults = not_above faults max_faults (λ none. h (λ is. none is.few_faults));
}
