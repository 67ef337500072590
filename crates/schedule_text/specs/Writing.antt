-- The text of a schedule.
use Rattle.std.specs.Prelude.{ℕ, ◌==◌, if◌then◌else◌, List, [], ◌∷◌, ◌++◌, codes}
use Rattle.std.specs.List.{flat_map}
use Rattle.std.specs.Fmt.{decimal}
use Rattle.round_meaning.specs.declared.setup.Setup.{Setup}
use Rattle.run_events.specs.declared.plan_kind.PlanKind.{PlanKind}
use Rattle.run_events.specs.declared.plan_kind.PlanKind.TheVariants.{Known, Growing}
use Rattle.run_events.specs.declared.event.Event.{Event}
use Rattle.run_events.specs.declared.event.Event.TheVariants.{Step, Release, Drop, Copy}
use Rattle.run_events.specs.declared.name.Name.{Name}

-- a line `nodes N` or alike, by its beginning
abbrev pub number_line : List ℕ → ℕ → List ℕ
number_line start n = start ++ decimal n

-- `inputs`, and each value behind a space
abbrev pub inputs_line : List ℕ → List ℕ
inputs_line vs = codes "inputs" ++ flat_map (λ v. 32 ∷ decimal v) vs

-- the line of a plan
abbrev pub plan_line : PlanKind → List ℕ
plan_line (Known d) = number_line (codes "plan known ") d
plan_line Growing = codes "plan growing"

-- a beginning, and then a message's sender, receiver and round
abbrev pub name_line : List ℕ → Name → List ℕ
name_line start m =
    number_line (number_line (number_line start m.from ++ 32 ∷ []) m.to ++ 32 ∷ []) m.round

-- and then its copy, which is left out where it's 0
abbrev pub copy_ending : ℕ → List ℕ
copy_ending copy = if copy == 0 then [] else 32 ∷ decimal copy

-- the line of an event: `step I`, `release J I R Y`, `drop J I R Y` or `copy J I R Y`, where
-- `release` and `drop` have no Y that is 0
abbrev pub event_line : Event → List ℕ
event_line (Step i) = number_line (codes "step ") i
event_line (Release m) = name_line (codes "release ") m ++ copy_ending m.copy
event_line (Drop m) = name_line (codes "drop ") m ++ copy_ending m.copy
event_line (Copy m) = name_line (codes "copy ") m ++ 32 ∷ decimal m.copy

-- how many bytes of room such a line is given: its word has 8 at most, with the space, then there
-- are four numbers of 10 digits at most, three spaces and the line's end, and a number is written
-- only where there is room for 20 digits
abbrev pub line : ℕ
line = 64

-- a line ends with LF
abbrev pub line_text : List ℕ → List ℕ
line_text line = line ++ 10 ∷ []

-- the lines of the header
abbrev pub header_lines : Setup → PlanKind → List (List ℕ)
header_lines s p =
    number_line (codes "nodes ") s.nodes ∷ number_line (codes "faults ") s.faults
    ∷ inputs_line s.inputs ∷ number_line (codes "rounds ") s.rounds ∷ plan_line p ∷ []

-- the header, and then the events, one a line
unfoldable pub text_of : Setup → PlanKind → List Event → List ℕ
text_of s p es =
    flat_map line_text (header_lines s p) ++ flat_map (λ e. line_text (event_line e)) es
