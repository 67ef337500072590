-- Decisions by the place of the decided variable.
use Rattle.std.specs.Prelude.{◌≡◌, ℕ, List, Option, None, Some}
use Rattle.round_lang.specs.Sets.{members}
use Rattle.round_lang.specs.Syntax.{ProgramTree}
use Rattle.round_lang.specs.Values.{at, set}
use Rattle.round_lang.specs.declared.value.Value.{Value}
use Rattle.round_meaning.specs.Turn.{decision, first_member}

-- the set that a state holds at a place, empty if there is no place
abbrev pub set_in : Option ℕ → List Value → ℕ
set_in None state = 0
set_in (Some place) state = set (at state place)

-- the least member of that set
abbrev pub decision_at : Option ℕ → List Value → Option ℕ
decision_at place state = first_member (members (set_in place state))

-- the decision in each state is the least member of the set at this place
abbrev pub IsDecidedAt : ProgramTree → Option ℕ → Type 0
IsDecidedAt p place = (state : List Value) → decision p state ≡ decision_at place state
