-- What the parts of a run in rounds are, which proofs pass through.
use Rattle.std.specs.Prelude.{ℕ, Bool, List, Option, None, Some, if◌then◌else◌, slice_index}
use Rattle.omission_schedules.specs.Schedules.{with_stops}
use Rattle.omission_schedules.specs.declared.rounds.Outcome.{Outcome}
use Rattle.omission_schedules.specs.declared.rounds.Outcome.TheVariants as outcome
use Rattle.round_lang.specs.declared.value.Value.{Value}
use Rattle.round_meaning.specs.Omissions.{is_omitted}
use Rattle.round_meaning.specs.declared.omissions.Omission.{Omission}

-- the test of a table's omissions and of what isn't sent
abbrev pub omits_under : (ℕ → ℕ) → List ℕ → List Omission → ℕ → ℕ → ℕ → Bool
omits_under start stops omissions = with_stops start (slice_index stops) (is_omitted omissions)

-- what came of a message, or of none, that is omitted or not, and whose slot was taken or not
abbrev pub outcome_of : (omitted stood : Bool) → Option (List Value) → Outcome
outcome_of omitted stood None = if stood then outcome.Silent else outcome.Omitted
outcome_of omitted stood (Some m) = if omitted then outcome.Omitted else outcome.Heard m
