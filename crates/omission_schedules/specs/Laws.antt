-- That every omission test has a schedule, and every run one that goes round by round.
use Rattle.std.specs.Prelude.{◌≡◌, ℕ, ◌+◌, ◌<◌, ◌≤◌, ◌↔◌, Bool, false, List, min, reverse}
use Rattle.round_lang.specs.declared.value.Value.{Value}
use Rattle.run_events.specs.declared.event.Event.{Event}
use Rattle.slot_plans.specs.Plan.{PlanLaws}
use Rattle.round_meaning.specs.Rounds.{rounds}
use Rattle.step_book.specs.History.{omits_of, state}
use Rattle.step_book.specs.Places.{IsCarried}
use Rattle.step_book.specs.Trace.{steps}
use Rattle.step_book.specs.World.{World, nodes_of}
use Rattle.omission_schedules.specs.Schedules.{schedule_of, schedule_with_stops, with_stops}

-- under each plan, the schedule of an omission test omits exactly what the test says, of all
-- messages of the run
abbrev pub EachTableHasASchedule : Type 0
EachTableHasASchedule =
    (w : World) (receives : ℕ → ℕ) → PlanLaws (nodes_of w) receives w.start
    → (omits : ℕ → ℕ → ℕ → Bool) (i r j : ℕ)
    → i < nodes_of w → j < nodes_of w → 1 ≤ r → r ≤ w.rounds
    → omits_of w (reverse (schedule_of (nodes_of w) receives omits w.rounds)) i r j ≡ omits i r j

-- and by places: a message is carried by the schedule exactly if the test doesn't omit it
abbrev pub EachTableHasASchedulePlaced : Type 0
EachTableHasASchedulePlaced =
    (w : World) (receives : ℕ → ℕ) → PlanLaws (nodes_of w) receives w.start
    → (omits : ℕ → ℕ → ℕ → Bool) (i r j copy : ℕ)
    → i < nodes_of w → j < nodes_of w → 1 ≤ r → r ≤ w.rounds
    → (omits i r j ≡ false)
    ↔ IsCarried w (schedule_of (nodes_of w) receives omits w.rounds)
    (record { from = j; to = i; round = r; copy = copy })

-- and so the run in rounds of the schedule is that under the test, round by round, and each node
-- takes all its steps in it
abbrev pub EachTableHasARun : Type 0
EachTableHasARun =
    (w : World) (receives : ℕ → ℕ) → PlanLaws (nodes_of w) receives w.start
    → (omits : ℕ → ℕ → ℕ → Bool) (r i : ℕ) → r ≤ w.rounds → i < nodes_of w
    → (state w (reverse (schedule_of (nodes_of w) receives omits w.rounds)) r i
    ≡ rounds w.algorithm omits r i)
    × (steps i (reverse (schedule_of (nodes_of w) receives omits w.rounds))
    ≡ w.start (w.rounds + 1))

-- and if node i stops after `stops i` steps: in each of its whole rounds exactly those messages are
-- omitted that the test omits, or whose sender stops before its slot
abbrev pub EachTableHasAScheduleWithStops : Type 0
EachTableHasAScheduleWithStops =
    (w : World) (receives stops : ℕ → ℕ) → PlanLaws (nodes_of w) receives w.start
    → (omits : ℕ → ℕ → ℕ → Bool) (i r j : ℕ)
    → i < nodes_of w → j < nodes_of w → 1 ≤ r → r ≤ w.rounds → w.start (r + 1) ≤ stops i
    → omits_of w
    (reverse (schedule_with_stops (nodes_of w) receives w.start stops omits w.rounds)) i r j
    ≡ with_stops w.start stops omits i r j

-- and by places
abbrev pub EachTableHasAScheduleWithStopsPlaced : Type 0
EachTableHasAScheduleWithStopsPlaced =
    (w : World) (receives stops : ℕ → ℕ) → PlanLaws (nodes_of w) receives w.start
    → (omits : ℕ → ℕ → ℕ → Bool) (i r j copy : ℕ)
    → i < nodes_of w → j < nodes_of w → 1 ≤ r → r ≤ w.rounds → w.start (r + 1) ≤ stops i
    → (with_stops w.start stops omits i r j ≡ false)
    ↔ IsCarried w (schedule_with_stops (nodes_of w) receives w.start stops omits w.rounds)
    (record { from = j; to = i; round = r; copy = copy })

-- and each node has its steps up to where it stops
abbrev pub EachNodeStops : Type 0
EachNodeStops =
    (w : World) (receives stops : ℕ → ℕ) → PlanLaws (nodes_of w) receives w.start
    → (omits : ℕ → ℕ → ℕ → Bool) (i : ℕ) → i < nodes_of w
    → steps i (reverse (schedule_with_stops (nodes_of w) receives w.start stops omits w.rounds))
    ≡ min (w.start (w.rounds + 1)) (stops i)

-- so the states of whole rounds are those of the run in rounds under that test
abbrev pub EachTableHasARunWithStops : Type 0
EachTableHasARunWithStops =
    (w : World) (receives stops : ℕ → ℕ) → PlanLaws (nodes_of w) receives w.start
    → (omits : ℕ → ℕ → ℕ → Bool) (r i : ℕ) → r ≤ w.rounds → i < nodes_of w
    → w.start (r + 1) ≤ stops i
    → state w (reverse (schedule_with_stops (nodes_of w) receives w.start stops omits w.rounds)) r i
    ≡ rounds w.algorithm (with_stops w.start stops omits) r i

-- the schedule that goes round by round, which omits the same messages as a history, and in which
-- each node stops after as many steps
abbrev pub in_order : World → (receives : ℕ → ℕ) → List Event → List Event
in_order w receives t =
    schedule_with_stops (nodes_of w) receives w.start (λ j. steps j t) (omits_of w t) w.rounds

-- every history has one that goes round by round: each node has its steps up to the last round, and
-- in each whole round the same messages are omitted, and its state is the same
abbrev pub EachRunHasAnOrder : Type 0
EachRunHasAnOrder =
    (w : World) (receives : ℕ → ℕ) → PlanLaws (nodes_of w) receives w.start
    → (t : List Event) (r i : ℕ) → r ≤ w.rounds → i < nodes_of w
    → (steps i (reverse (in_order w receives t)) ≡ min (w.start (w.rounds + 1)) (steps i t))
    × (w.start (r + 1) ≤ steps i t → state w (reverse (in_order w receives t)) r i ≡ state w t r i)
    × (w.start (r + 1) ≤ steps i t → (j : ℕ) → 1 ≤ r → j < nodes_of w
    → omits_of w (reverse (in_order w receives t)) i r j ≡ omits_of w t i r j)

-- a schedule in which each node takes all its steps, and its states in rounds
pub record IsWholeRun (w : World) (states : ℕ → ℕ → List Value) (trace : List Event) : Type 0 where
  pub whole : (i : ℕ) → i < nodes_of w → steps i (reverse trace) ≡ w.start (w.rounds + 1)
  pub state : (r i : ℕ) → r ≤ w.rounds → i < nodes_of w → states r i ≡ state w (reverse trace) r i

-- states of a run in rounds under an omission test
abbrev pub IsRunUnder : World → (ℕ → ℕ → List Value) → (ℕ → ℕ → ℕ → Bool) → Type 0
IsRunUnder w states omits = (r i : ℕ) → r ≤ w.rounds → i < nodes_of w
    → states r i ≡ rounds w.algorithm omits r i

-- states are those of a schedule of whole rounds exactly if they are those of a run in rounds under
-- some omission test
abbrev pub RunsAreRunsInRounds : Type 0
RunsAreRunsInRounds =
    (w : World) (receives : ℕ → ℕ) → PlanLaws (nodes_of w) receives w.start
    → (states : ℕ → ℕ → List Value)
    → ((trace : List Event) × IsWholeRun w states trace)
    ↔ ((omits : ℕ → ℕ → ℕ → Bool) × IsRunUnder w states omits)
