-- The stages that the reader goes through, line by line.
use Rattle.std.specs.Prelude.{ℕ, ◌+◌, ◌==◌, nat_le, nat_lt, if◌then◌else◌, List, [], ◌∷◌, ◌++◌}
use Rattle.std.specs.Prelude.{length, map, take, drop, Option, Some, None, option_and_then, Result}
use Rattle.std.specs.Prelude.{Ok, Err, codes}
use Rattle.std.specs.List.{list_all}
use Rattle.std.specs.Str.{bytes_eq}
use Rattle.std.specs.Str.Lines.{lines}
use Rattle.run_events.specs.declared.plan_kind.PlanKind.{PlanKind}
use Rattle.run_events.specs.declared.plan_kind.PlanKind.TheVariants.{Known, Growing}
use Rattle.run_events.specs.declared.event.Event.{Event}
use Rattle.run_events.specs.declared.event.Event.TheVariants.{Step, Release, Drop, Copy}
use Rattle.run_events.specs.declared.name.Name.{Name}
use Rattle.schedule_text.specs.declared.fault.LineFault.{LineFault}
use Rattle.schedule_text.specs.declared.fault.LineFault.TheVariants as line
use Rattle.schedule_text.specs.declared.fault.ScheduleFault.{ScheduleFault}
use Rattle.schedule_text.specs.declared.fault.ScheduleFault.TheVariants as fault
use Rattle.schedule_text.specs.declared.draft.Sizes.{Sizes}
use Rattle.schedule_text.specs.declared.draft.Stage.{Stage}
use Rattle.schedule_text.specs.declared.draft.Stage.TheVariants.{Start, Nodes, Faults, Inputs}
use Rattle.schedule_text.specs.declared.draft.Stage.TheVariants.{Rounds, Whole, Paced}
use Rattle.round_meaning.specs.declared.setup.Setup.{Setup}
use Rattle.schedule_text.specs.declared.kind.Kind.{Kind}
use Rattle.schedule_text.specs.declared.kind.Kind.TheVariants.{Schedule, Threads, Header}
use Rattle.schedule_text.specs.declared.pace.Pace.{Pace}
use Rattle.schedule_text.specs.declared.pace.Pace.TheVariants.{Free, Ticks}
use Rattle.schedule_text.specs.declared.pace.Stop.{Stop}
use Rattle.schedule_text.specs.Numbers.{is_number, max_number, value_of, words_of}
use Rattle.schedule_text.specs.Readings.{AnswerOf}
use Rattle.schedule_text.specs.Texts.{max_text}

-- the numbers of a text whose words are all numbers
unfoldable pub numbers_in : List ℕ → Option (List ℕ)
numbers_in text =
    if list_all is_number (words_of text) then Some (map value_of (words_of text)) else None

-- what is made of numbers, if each is at most the largest
abbrev pub sized : {T : Type 0} → List ℕ → T → Result T LineFault
sized vs x = if list_all (λ v. nat_le v max_number) vs then Ok x else Err line.Large

-- what follows this beginning of a line
unfoldable pub after : List ℕ → List ℕ → Option (List ℕ)
after start text =
    if bytes_eq (take (length start) text) start then Some (drop (length start) text) else None

-- the numbers behind this beginning of a line
abbrev pub numbers_after : List ℕ → List ℕ → Option (List ℕ)
numbers_after start text = option_and_then numbers_in (after start text)

-- one number and no more, if it fits
abbrev pub one_of : Option (List ℕ) → Result ℕ LineFault
one_of (Some (n ∷ [])) = sized (n ∷ []) n
one_of _ = Err line.Bad

-- all the numbers, if each fits
abbrev pub all_of : Option (List ℕ) → Result (List ℕ) LineFault
all_of (Some vs) = sized vs vs
all_of None = Err line.Bad

-- what f makes of an answer, a fault staying as it is
abbrev pub mapped : {A B : Type 0} → (A → B) → Result A LineFault → Result B LineFault
mapped f (Ok x) = Ok (f x)
mapped f (Err e) = Err e

-- the number of a line `nodes N` or alike, by the line's beginning
unfoldable pub one_after : List ℕ → List ℕ → Result ℕ LineFault
one_after start text = one_of (numbers_after start text)

-- the values of a line `inputs V V ..`
unfoldable pub inputs_of : List ℕ → Result (List ℕ) LineFault
inputs_of text = all_of (numbers_after (codes "inputs ") text)

-- the plan of a line `plan growing` or `plan known D`
unfoldable pub plan_of : List ℕ → Result PlanKind LineFault
plan_of text =
    if bytes_eq text (codes "plan growing") then Ok Growing
    else mapped (λ d. Known d) (one_after (codes "plan known ") text)

-- what one number behind `step ` says
abbrev pub step_of : Option (List ℕ) → Result Event LineFault
step_of ns = mapped (λ i. Step i) (one_of ns)

-- the name of a sender, a receiver, a round and a copy, if each fits
abbrev pub sized_name : ℕ → ℕ → ℕ → ℕ → Result Name LineFault
sized_name j i r y =
    sized (j ∷ i ∷ r ∷ y ∷ []) (record { from = j; to = i; round = r; copy = y })

-- the name that three or four numbers are, where the copy is 0 if it's left out
abbrev pub name_of : Option (List ℕ) → Result Name LineFault
name_of (Some (j ∷ i ∷ r ∷ [])) = sized_name j i r 0
name_of (Some (j ∷ i ∷ r ∷ y ∷ [])) = sized_name j i r y
name_of _ = Err line.Bad

-- the name that four numbers are
abbrev pub whole_name_of : Option (List ℕ) → Result Name LineFault
whole_name_of (Some (j ∷ i ∷ r ∷ y ∷ [])) = sized_name j i r y
whole_name_of _ = Err line.Bad

-- what the numbers behind `release `, `drop ` and `copy ` say
abbrev pub release_of : Option (List ℕ) → Result Event LineFault
release_of ns = mapped (λ m. Release m) (name_of ns)

abbrev pub drop_of : Option (List ℕ) → Result Event LineFault
drop_of ns = mapped (λ m. Drop m) (name_of ns)

abbrev pub copy_of : Option (List ℕ) → Result Event LineFault
copy_of ns = mapped (λ m. Copy m) (whole_name_of ns)

-- the event of the numbers behind a beginning, where the line has it, or else another answer
abbrev pub behind :
    Option (List ℕ) → (Option (List ℕ) → Result Event LineFault) → Result Event LineFault
    → Result Event LineFault
behind (Some rest) read other = read (numbers_in rest)
behind None read other = other

-- the event of a line `step I`, `release J I R` or `drop J I R`, maybe with a Y, or `copy J I R Y`
unfoldable pub event_of : List ℕ → Result Event LineFault
event_of text =
    behind (after (codes "step ") text) step_of
    (behind (after (codes "release ") text) release_of
    (behind (after (codes "drop ") text) drop_of
    (behind (after (codes "copy ") text) copy_of (Err line.Bad))))

-- the pace of a line `pace free` or `pace ticks`
unfoldable pub pace_of : List ℕ → Result Pace LineFault
pace_of text =
    if bytes_eq text (codes "pace free") then Ok Free
    else if bytes_eq text (codes "pace ticks") then Ok Ticks
    else Err line.Bad

-- the stop of a node and its steps, if each fits
abbrev pub sized_stop : ℕ → ℕ → Result Stop LineFault
sized_stop i c = sized (i ∷ c ∷ []) (record { node = i; steps = c })

-- what two numbers behind `stop ` say
abbrev pub stop_in : Option (List ℕ) → Result Stop LineFault
stop_in (Some (i ∷ c ∷ [])) = sized_stop i c
stop_in _ = Err line.Bad

-- the stop of a line `stop I C`
unfoldable pub stop_of : List ℕ → Result Stop LineFault
stop_of text = stop_in (numbers_after (codes "stop ") text)

-- the sizes that three numbers say
abbrev pub sizes_of : (nodes faults rounds : ℕ) → Sizes
sizes_of n t r = record { nodes = n; faults = t; rounds = r }

-- the setup of these sizes and inputs
abbrev pub setup_in : Sizes → List ℕ → Setup
setup_in z vs = record { nodes = z.nodes; faults = z.faults; inputs = vs; rounds = z.rounds }

-- what is read so far: how far the header and the pace have come, and beside it the inputs, the
-- events and the stops
pub record State : Type 0 where
  pub stage : Stage
  pub inputs : List ℕ
  pub events : List Event
  pub stops : List Stop

-- each stage of the header takes the one line that comes next; behind a whole header a schedule
-- takes events, a thread setup its pace and then stops, and a header nothing
abbrev pub by_stage : Kind → Stage → State → List ℕ → Result State LineFault
by_stage kind Start s text =
    mapped (λ n. record s { stage = Nodes n }) (one_after (codes "nodes ") text)
by_stage kind (Nodes n) s text =
    mapped (λ t. record s { stage = Faults n t }) (one_after (codes "faults ") text)
by_stage kind (Faults n t) s text =
    mapped (λ vs. record s { stage = Inputs n t; inputs = vs }) (inputs_of text)
by_stage kind (Inputs n t) s text =
    mapped (λ r. record s { stage = Rounds (sizes_of n t r) }) (one_after (codes "rounds ") text)
by_stage kind (Rounds z) s text =
    mapped (λ p. record s { stage = Whole z p }) (plan_of text)
by_stage Schedule (Whole z p) s text =
    mapped (λ e. record s { events = s.events ++ e ∷ [] }) (event_of text)
by_stage Threads (Whole z p) s text =
    mapped (λ x. record s { stage = Paced z p x }) (pace_of text)
by_stage Header (Whole z p) s text = Err line.Bad
by_stage kind (Paced z p x) s text =
    mapped (λ c. record s { stops = s.stops ++ c ∷ [] }) (stop_of text)

-- empty lines and lines that begin with # change nothing
unfoldable pub line_step : Kind → State → List ℕ → Result State LineFault
line_step kind s [] = Ok s
line_step kind s (b ∷ bs) = if b == 35 then Ok s else by_stage kind s.stage s (b ∷ bs)

-- a line's fault, with the line's number
abbrev pub at_line : ℕ → LineFault → ScheduleFault
at_line k line.Bad = fault.BadLine k
at_line k line.Large = fault.NumberTooLarge k
at_line k line.NoMemory = fault.NoMemory

-- the lines behind this one count where it has no fault
abbrev pub go_on :
    {A : Type 0} → ℕ → Result State LineFault → (State → Result A ScheduleFault)
    → Result A ScheduleFault
go_on k (Ok s) next = next s
go_on k (Err e) next = Err (at_line k e)

-- at the end behind a header; a thread setup lacks its pace then
abbrev pub header_at_end :
    (kind : Kind) → ℕ → Setup → PlanKind → List Event → AnswerOf kind
header_at_end Schedule k u p es = Ok (u, p, es)
header_at_end Threads k u p es = Err (fault.BadLine k)
header_at_end Header k u p es = Ok (u, p, tt)

-- and behind a pace, which only a thread setup has
abbrev pub pace_at_end :
    (kind : Kind) → ℕ → Setup → PlanKind → Pace → List Stop → AnswerOf kind
pace_at_end Schedule k u p x ss = Err (fault.BadLine k)
pace_at_end Threads k u p x ss = Ok (u, p, (x, ss))
pace_at_end Header k u p x ss = Err (fault.BadLine k)

-- at the end the header has to be whole, and a thread setup's pace read; k is the number after the
-- last line's
abbrev pub answer_at_end : (kind : Kind) → ℕ → Stage → State → AnswerOf kind
answer_at_end kind k (Whole z p) s =
    header_at_end kind k (setup_in z s.inputs) p s.events
answer_at_end kind k (Paced z p x) s =
    pace_at_end kind k (setup_in z s.inputs) p x s.stops
answer_at_end kind k _ s = Err (fault.BadLine k)

-- the lines from number k on
unfoldable pub from_line : (kind : Kind) → ℕ → State → List (List ℕ) → AnswerOf kind
from_line kind k s [] = answer_at_end kind k s.stage s
from_line kind k s (l ∷ ls) =
    go_on k (line_step kind s l) (λ s. from_line kind (k + 1) s ls)

-- before the first line
abbrev pub start : State
start = record { stage = Start; inputs = []; events = []; stops = [] }

-- the answer for a text: TooLong where it is that, or else what its lines say
unfoldable pub answer_of : (kind : Kind) → List ℕ → AnswerOf kind
answer_of kind text =
    if nat_lt max_text (length text) then Err fault.TooLong
    else from_line kind 1 start (lines text)
