-- The report of the run of a schedule shows the run in rounds under its omission test.
use Rattle.std.proofs.Common.{◌≡◌, ℕ, zero, suc, ◌+◌, ◌-◌, ◌<◌, ◌≤◌, Bool, true, false, not, ◌&&◌}
use Rattle.std.proofs.Common.{map, sym, subst, refl, ap, ◌∙◌, arith, ◌⊎◌, inl}
use Rattle.std.proofs.Common.{inr, length}
use Rattle.std.specs.Prelude.{filter, is_some, min, nat_le, nat_lt, reverse, slice_index_or}
use Rattle.std.specs.List.{range_with_len}
use Rattle.std.proofs.lemmas.Bool.{cases_lt, le-leb, le-ltb, leb-false, lt-leb, lt-ltb, ltb-true}
use Rattle.std.proofs.lemmas.Bool.{not-true, or_parts}
use Rattle.round_meaning.proofs.RoundLaws.{map_same}
use Rattle.round_meaning.specs.declared.setup.Setup.{Setup}
use Rattle.round_meaning.specs.Rounds.{Algorithm, algorithm, algorithm_of, rounds}
use Rattle.round_lang.specs.Syntax.{ProgramTree}
use Rattle.slot_plans.specs.Plan.{PlanLaws}
use Rattle.step_book.specs.Fates.{carried}
use Rattle.step_book.specs.History.{state}
use Rattle.step_book.specs.Log.{Log, count_of, history, round_of, world_of}
use Rattle.step_book.specs.Trace.{steps}
use Rattle.step_book.specs.World.{nodes_of}
use Rattle.step_book.proofs.Plans.{start_le}
use Rattle.step_book.proofs.Reading.{nodes_are}
use Rattle.omission_explainer.specs.Printed.{heard_set, is_heard, is_silent, omitted_set}
use Rattle.omission_explainer.specs.Printed.{silent_set}
use Rattle.omission_explainer.specs.Reported.{IsReported, carried_in, closed_below, closed_rounds}
use Rattle.omission_explainer.specs.Reported.{count_in, counts_in, is_closed, sends_in, stands_in}
use Rattle.omission_explainer.specs.Rows.{ClosedRound}
use Rattle.omission_explainer.specs.declared.report.Report.{Report}
use Rattle.omission_schedules.specs.Reports.{IsExplained, IsRowUnder, IsScheduleRun}
use Rattle.omission_schedules.specs.Reports.{SchedulesShowRounds}
use Rattle.omission_schedules.specs.Reports.{ShowsRounds, count_until, ended_below, ended_rounds}
use Rattle.omission_schedules.specs.Reports.{has_message, is_ended}
use Rattle.omission_schedules.specs.Schedules.{has_slot, schedule_with_stops, with_stops}
use Rattle.omission_schedules.proofs.Alike.{filter_same, filter_tests, flat_same, same_set}
use Rattle.omission_schedules.proofs.Realised.{each_stopped, each_stopped_run, each_stops, plan_of}

-- ---- tests and numbers

turned : (a b : Bool) → not a ≡ b → a ≡ not b
turned true b h = ap not h
turned false b h = ap not h

and_same : (b c s u : Bool) → b ≡ c → (c ≡ true → s ≡ u) → (b && s) ≡ (c && u)
and_same b true s u e h = rw (e, h refl) refl
and_same b false s u e h = rw e refl

-- how many numbers of a range come before k
none_before : (k a n : ℕ) → k ≤ a → length (filter (λ r. nat_lt r k) (range_with_len a n)) ≡ 0
none_before k a zero h = refl
none_before k a (suc n) h = rw (le-ltb a k h) (none_before k (a + 1) n (omega arith))

some_before : (k a n : ℕ) → a ≤ k → k ≤ a + n
    → length (filter (λ r. nat_lt r k) (range_with_len a n)) ≡ k - a
some_before k a zero low high = omega arith
some_before k a (suc n) low high =
    by (cases_lt a k) (λ l. some_before k (a + 1) n (omega arith) (omega arith))
  where
    by : (a < k) ⊎ (k ≤ a) → (a < k
        → length (filter (λ r. nat_lt r k) (range_with_len (a + 1) n)) ≡ k - (a + 1))
        → length (filter (λ r. nat_lt r k) (range_with_len a (suc n))) ≡ k - a
    by (inl l) rest = rw (lt-ltb a k l) (let e = rest l in omega arith)
    by (inr g) rest = let none = none_before k a (suc n) g in omega arith

before_from_1 : (k n : ℕ) → k ≤ 1 + n
    → length (filter (λ r. nat_lt r k) (range_with_len 1 n)) ≡ k - 1
before_from_1 zero n h = none_before 0 1 n (omega arith)
before_from_1 (suc k) n h = some_before (suc k) 1 n (omega arith) h

-- ---- one run

module _ (receives start stops : ℕ → ℕ) (omits : ℕ → ℕ → ℕ → Bool) (p : ProgramTree) (s : Setup)
    (v : Log) (laws : PlanLaws v.setup.nodes receives start)
    (run : IsScheduleRun receives start v.program v.setup stops omits v) where
  abbrev omitted : ℕ → ℕ → ℕ → Bool
  omitted = with_stops start stops omits

  abbrev own : Algorithm
  own = algorithm_of v.program v.setup

  run_laws : PlanLaws (nodes_of (world_of start v)) receives start
  unfolding algorithm
  run_laws = laws

  run_events : v.trace ≡ schedule_with_stops (nodes_of (world_of start v)) receives start stops
      omits v.setup.rounds
  unfolding algorithm
  run_events = run.trace

  run_state : (r i : ℕ) → r ≤ v.setup.rounds → i < v.setup.nodes → start (r + 1) ≤ stops i
      → state (world_of start v) (history v) r i ≡ rounds own omitted r i
  run_state r i high a over =
      let n = nodes_are start v in
      ap (λ z. state (world_of start v) (reverse z) r i) run_events
      ∙ each_stopped_run (world_of start v) receives stops run_laws omits r i high (omega arith)
      over

  run_count : (i : ℕ) → i < v.setup.nodes
      → count_of v i ≡ min (start (v.setup.rounds + 1)) (stops i)
  run_count i a =
      let n = nodes_are start v in
      ap (λ z. steps i (reverse z)) run_events
      ∙ each_stops (world_of start v) receives stops run_laws omits i (omega arith)

  run_carries : (i r j : ℕ) → i < v.setup.nodes → j < v.setup.nodes → 0 < r → r ≤ v.setup.rounds
      → start (r + 1) ≤ stops i → carried (world_of start v) (history v) i r j ≡ not (omitted i r j)
  run_carries i r j a b low high over =
      let n = nodes_are start v in
      turned _ _ (ap (λ z. not (carried (world_of start v) (reverse z) i r j)) run_events
      ∙ each_stopped (world_of start v) receives stops run_laws omits i r j (omega arith)
      (omega arith) low high over)

  up_to : (r s : ℕ) → 1 ≤ r → r ≤ s → start r ≤ start s
  up_to r s low l = start_le (world_of start v) (plan_of (world_of start v) receives run_laws) r s
      low l

  -- a slot of a round stands exactly if its sender takes it before it stops
  run_stands : (r i j : ℕ) → i < v.setup.nodes → j < v.setup.nodes → 0 < r → r ≤ v.setup.rounds
      → stands_in start v r i j ≡ has_slot start stops r i j
  run_stands r i j a b low high = by (cases_lt (start r + i) (stops j))
    where
      by : (start r + i < stops j) ⊎ (stops j ≤ start r + i)
          → stands_in start v r i j ≡ has_slot start stops r i j
      by (inl l) =
          let next = laws.next_start r low in
          let up = up_to (r + 1) (v.setup.rounds + 1) (omega arith) (omega arith) in
          let count = run_count j b in
          lt-ltb (start r + i) (count_of v j) (omega arith) ∙ sym (lt-ltb _ _ l)
      by (inr g) = let count = run_count j b in le-ltb (start r + i) (count_of v j) (omega arith)
          ∙ sym (le-ltb _ _ g)

  -- and if it does, it sends what it sends in the run in rounds
  run_sends : (r i j : ℕ) → j < v.setup.nodes → 0 < r → r ≤ v.setup.rounds
      → has_slot start stops r i j ≡ true → sends_in start v r i j ≡ has_message own omitted r i j
  run_sends r i j b low high slot =
      let l = ltb-true (start r + i) (stops j) slot in
      let e : r - 1 + 1 ≡ r = omega arith in
      let f = ap start e in
      ap (λ x. is_some (own.send r x j i)) (run_state (r - 1) j (omega arith) b (omega arith))

  -- what isn't omitted was sent
  sent : (r i j : ℕ) → not (omitted i r j) ≡ true → has_slot start stops r i j ≡ true
  sent r i j h =
      let late : nat_le (stops j) (start r + i) ≡ false =
      (or_parts (omits i r j) (nat_le (stops j) (start r + i)) (not-true _ h)).1 in
      let past = leb-false _ _ late in
      lt-ltb (start r + i) (stops j) (omega arith)

  -- a row is of the run in rounds
  run_row : (row : ClosedRound) → IsReported start v row
      → IsRowUnder v.program own start stops omitted row
  run_row row h =
      let r = row.round in
      let i = row.node in
      let due = run.agrees.closed i r h.node h.first h.closed in
      let high = due.last in
      let low = h.first in
      let count = run_count i h.node in
      let over : start (r + 1) ≤ stops i = (let c = due.over in omega arith) in
      let n = nodes_are start v in
      let hears : (j : ℕ) → j < own.nodes
      → is_heard (carried_in start v r i) (sends_in start v r i) j ≡ is_heard
      (λ j. not (omitted i r j)) (has_message own omitted r i) j =
      λ j l. and_same (carried_in start v r i j) (not (omitted i r j)) (sends_in start v r i j)
      (has_message own omitted r i j) (run_carries i r j h.node (omega arith) low high over)
      (λ t. run_sends r i j (omega arith) low high (sent r i j t)) in
      let quiet : (j : ℕ) → j < own.nodes
      → is_silent (sends_in start v r i) (stands_in start v r i) j ≡ is_silent
      (has_message own omitted r i) (has_slot start stops r i) j =
      λ j l. and_same (stands_in start v r i j) (has_slot start stops r i j)
      (not (sends_in start v r i j)) (not (has_message own omitted r i j))
      (run_stands r i j h.node (omega arith) low high)
      (λ t. ap not (run_sends r i j (omega arith) low high t)) in
      record {
        printed = record {
          heard = h.printed.heard ∙ ap
              (λ k. heard_set k (carried_in start v r i) (sends_in start v r i)) (sym n)
              ∙ same_set own.nodes _ _ hears;
          silent = h.printed.silent ∙ ap
              (λ k. silent_set k (sends_in start v r i) (stands_in start v r i)) (sym n)
              ∙ same_set own.nodes _ _ quiet;
          omitted =
              h.printed.omitted ∙ ap (λ k. omitted_set k (carried_in start v r i)
              (sends_in start v r i) (stands_in start v r i)) (sym n)
              ∙ same_set own.nodes _ _ (λ j l.
              ap (λ b. not b && not (is_silent (sends_in start v r i) (stands_in start v r i) j))
              (hears j l)
              ∙ ap (λ b. not (is_heard (λ j. not (omitted i r j)) (has_message own omitted r i) j)
              && not b) (quiet j l));
        };
        stated = h.stated ∙ run_state r i high h.node over;
        decided = h.decided;
      }

  -- the rounds are closed that their nodes end
  run_closed : (r i : ℕ) → 0 < r → r ≤ v.setup.rounds → i < v.setup.nodes
      → is_closed v (r, i) ≡ is_ended start stops (r, i)
  run_closed r i low high a =
      let up = up_to (r + 1) (v.setup.rounds + 1) (omega arith) (omega arith) in
      let count = run_count i a in
      let is = run.closed i r a low high in
      by (cases_lt (stops i) (start (r + 1))) (λ few c. (let x = is.0 c in omega arith))
      (λ many. is.1 (omega arith))
    where
      open_round : (r < round_of v i) ⊎ (round_of v i ≤ r) → (r < round_of v i → ⊥)
          → is_closed v (r, i) ≡ false
      open_round (inl l) h = absurd (h l)
      open_round (inr g) h = le-ltb _ _ g

      by : (stops i < start (r + 1)) ⊎ (start (r + 1) ≤ stops i)
          → (stops i < start (r + 1) → r < round_of v i → ⊥)
          → (start (r + 1) ≤ stops i → r < round_of v i)
          → is_closed v (r, i) ≡ is_ended start stops (r, i)
      by (inl few) f g = open_round (cases_lt r (round_of v i)) (f few) ∙ sym (lt-leb _ _ few)
      by (inr many) f g = lt-ltb _ _ (g many) ∙ sym (le-leb _ _ many)

  run_listed : closed_rounds v ≡ ended_rounds start stops v.setup.nodes v.setup.rounds
  run_listed =
      flat_same (closed_below v v.setup.nodes) (ended_below start stops v.setup.nodes) 1
      v.setup.rounds (λ r low high.
      filter_tests (is_closed v) (is_ended start stops) r 0 v.setup.nodes
      (λ i l. run_closed r i (omega arith) (omega arith) (omega arith)))

  few_closed : (i : ℕ) → i < v.setup.nodes → round_of v i ≤ 1 + v.setup.rounds
  few_closed i a = by (cases_lt (v.setup.rounds + 1) (round_of v i))
    where
      by : (v.setup.rounds + 1 < round_of v i) ⊎ (round_of v i ≤ v.setup.rounds + 1)
          → round_of v i ≤ 1 + v.setup.rounds
      by (inl more) = let due = run.agrees.closed i (v.setup.rounds + 1) a (omega arith) more
          in let last = due.last in absurd (omega arith)
      by (inr most) = omega arith

  run_ended : (i : ℕ) → i < v.setup.nodes
      → round_of v i - 1 ≡ length (filter (λ r. is_ended start stops (r, i))
      (range_with_len 1 v.setup.rounds))
  run_ended i a =
      sym (before_from_1 (round_of v i) v.setup.rounds (few_closed i a))
      ∙ ap length (filter_same (λ r. nat_lt r (round_of v i)) (λ r. is_ended start stops (r, i)) 1
      v.setup.rounds (λ r low high. run_closed r i (omega arith) (omega arith) a))

  run_counts : counts_in v ≡ map (count_until start stops v.setup.rounds)
      (range_with_len 0 v.setup.nodes)
  run_counts = map_same (count_in v) (count_until start stops v.setup.rounds) 0 v.setup.nodes
      (λ i low high.
      ap (λ k. (k, round_of v i - 1)) (run_count i (omega arith))
      ∙ ap (λ k. (min (start (v.setup.rounds + 1)) (stops i), k)) (run_ended i (omega arith)))

  run_shows : (report : Report) → IsExplained start v report
      → ShowsRounds start v.program v.setup stops omits report
  run_shows report x = record {
    values = x.values;
    names = x.names;
    types = x.types;
    listed = x.listed ∙ run_listed;
    rowed = λ k d l. run_row (slice_index_or report.rows k d) (x.reported k d l);
    counted = x.counted ∙ run_counts;
  }

pub schedules_show_rounds : SchedulesShowRounds
schedules_show_rounds receives start stops p s omits laws v report run x =
    let own = subst (λ (z : Setup). PlanLaws z.nodes receives start) (sym run.setup) laws in
    let events = subst (λ (z : Setup). v.trace ≡ schedule_with_stops z.nodes receives start stops
    omits z.rounds) (sym run.setup) run.trace in
    let again : IsScheduleRun receives start v.program v.setup stops omits v = record {
      program = refl;
      setup = refl;
      trace = events;
      agrees = run.agrees;
      closed = run.closed;
    } in
    subst (λ (z : Setup). ShowsRounds start p z stops omits report) run.setup
    (subst (λ (z : ProgramTree). ShowsRounds start z v.setup stops omits report) run.program
    (run_shows receives start stops omits p s v own again report x))
