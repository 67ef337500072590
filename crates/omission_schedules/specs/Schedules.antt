-- The schedules of omission tests. A test `omits i r j` says that node i misses the message of
-- round r from node j.
use Rattle.std.specs.Prelude.{ℕ, zero, suc, ◌+◌, ◌-◌, Bool, List, [], ◌∷◌, ◌++◌, ◌||◌, replicate}
use Rattle.std.specs.Prelude.{if◌then◌else◌, min, nat_le, nat_lt}
use Rattle.run_events.specs.declared.event.Event.{Event}
use Rattle.run_events.specs.declared.event.Event.TheVariants.{Step, Release}

-- the events that are made for 0, 1, .. n - 1, one after another
unfoldable pub each_below : ℕ → (ℕ → List Event) → List Event
each_below zero make = []
each_below (suc n) make = each_below n make ++ make n

-- each of n nodes takes so many steps
abbrev pub all_step : ℕ → (ℕ → ℕ) → List Event
all_step n count = each_below n (λ i. replicate (count i) (Step i))

-- the release of the message of round r from j to i, unless i misses it
abbrev pub release_of : (ℕ → ℕ → ℕ → Bool) → ℕ → ℕ → ℕ → List Event
release_of omits r i j =
    if omits i r j then [] else Release (record { from = j; to = i; round = r; copy = 0 }) ∷ []

-- the releases of a round, to each of n nodes from each
abbrev pub releases : ℕ → (ℕ → ℕ → ℕ → Bool) → ℕ → List Event
releases n omits r = each_below n (λ i. each_below n (λ j. release_of omits r i j))

-- a round: each node takes its sends, the network releases what isn't missed, and each node takes
-- its receives
abbrev pub round_events : ℕ → (sends takes : ℕ → ℕ) → (ℕ → ℕ → ℕ → Bool) → ℕ → List Event
round_events n sends takes omits r =
    all_step n sends ++ releases n omits r ++ all_step n takes

-- the first so many rounds of n nodes under a plan with so many receives in each round
abbrev pub schedule_of : ℕ → (ℕ → ℕ) → (ℕ → ℕ → ℕ → Bool) → ℕ → List Event
schedule_of n receives omits rounds = each_below rounds
    (λ r. round_events n (λ i. n) (λ i. receives (r + 1)) omits (r + 1))

-- of k steps from step number `from` on, those below number `stop`
abbrev pub until : ℕ → ℕ → ℕ → ℕ
until stop from k = min k (stop - from)

-- the same rounds, which start at these steps, if node i stops after `stops i` steps
abbrev pub schedule_with_stops :
    ℕ → (receives start stops : ℕ → ℕ) → (ℕ → ℕ → ℕ → Bool) → ℕ → List Event
schedule_with_stops n receives start stops omits rounds = each_below rounds
    (λ r. round_events n (λ i. until (stops i) (start (r + 1)) n)
    (λ i. until (stops i) (start (r + 1) + n) (receives (r + 1))) omits (r + 1))

-- node j took its slot of round r to node i before it stopped
abbrev pub has_slot : (start stops : ℕ → ℕ) → ℕ → ℕ → ℕ → Bool
has_slot start stops r i j = nat_lt (start r + i) (stops j)

-- the test that also omits what isn't sent, since node j stops after `stops j` steps
abbrev pub with_stops : (start stops : ℕ → ℕ) → (ℕ → ℕ → ℕ → Bool) → ℕ → ℕ → ℕ → Bool
with_stops start stops omits i r j = omits i r j || nat_le (stops j) (start r + i)
