-- What is answered, and the lines that say it.
use Rattle.std.specs.Prelude.{◌≤◌, ◌++◌, ◌∷◌, [], ℕ, List, codes, suc, ⊤}
use Rattle.std.specs.Fmt.{decimal}
use Rattle.std.specs.List.{flat_map}
use Rattle.run_events.specs.Limits.{max_rounds}
use Rattle.part_answers.specs.Properties.{name_text, rank}
use Rattle.part_answers.specs.declared.answered.Answered.{Answered}
use Rattle.part_answers.specs.declared.answered.Outcome.{Outcome}
use Rattle.part_answers.specs.declared.answered.Outcome.TheVariants as outcome

-- a round that a program may have
abbrev pub IsRound : ℕ → Type 0
IsRound n = (1 ≤ n) × (n ≤ max_rounds)

-- a `no` is in a round
abbrev pub IsOutcome : Outcome → Type 0
IsOutcome (outcome.Fails n) = IsRound n
IsOutcome _ = ⊤

abbrev pub IsAnswered : Answered → Type 0
IsAnswered a = IsOutcome a.outcome

-- the properties from this rank on are answered in their order, each at most once
abbrev pub AreFrom : (least : ℕ) → List Answered → Type 0
AreFrom least [] = ⊤
AreFrom least (a ∷ rest) =
    (least ≤ rank a.property) × IsAnswered a × AreFrom (suc (rank a.property)) rest

-- `yes`, `yes in all rounds`, or `no` and the round
abbrev pub outcome_words : Outcome → List ℕ
outcome_words outcome.Holds = codes "yes"
outcome_words outcome.HoldsInAllRounds = codes "yes in all rounds"
outcome_words (outcome.Fails round) = codes "no in round " ++ decimal round

-- the property, a space, and its answer
abbrev pub answered_text : Answered → List ℕ
answered_text a = name_text a.property ++ 32 ∷ outcome_words a.outcome

abbrev pub answered_line : Answered → List ℕ
answered_line a = answered_text a ++ codes "\n"

-- a line for each property
abbrev pub answers_text : List Answered → List ℕ
answers_text answers = flat_map answered_line answers
