-- The report of a run in which nodes stop is of a run in rounds in which they crash.
use Rattle.std.proofs.Common.{◌≡◌, ◌⊎◌, ◌∙◌, ℕ, suc, ◌+◌, ◌-◌, ◌<◌, ◌≤◌, ◌&&◌, ◌||◌, Bool}
use Rattle.std.proofs.Common.{true, false, not, List, sym, subst, ap, arith, inl, inr, map}
use Rattle.std.proofs.Common.{refl}
use Rattle.std.proofs.Common.{if◌then◌else◌, length}
use Rattle.std.specs.Prelude.{All, Contains, nat_lt, slice_index_or}
use Rattle.std.specs.List.{count_by, range_with_len}
use Rattle.std.proofs.lemmas.Bool.{cases_lt, le-ltb, lt-ltb, ltb-true, or_cases}
use Rattle.std.proofs.lemmas.Bool.{or_left, or_parts, or_right, true≢false}
use Rattle.std.proofs.lemmas.List.{get_or-map, length-map}
use Rattle.std.proofs.lemmas.List.Elements.{All-contains, All-map}
use Rattle.std.proofs.lemmas.List.FromFn.{get_or-map-range_with_len, length-map-range_with_len}
use Rattle.std.proofs.lemmas.List.FromFn.{length-range_with_len}
use Rattle.std.proofs.lemmas.List.Sums.{count_by-le-length}
use Rattle.command_runs.specs.Explained.{IsReportSoFar}
use Rattle.omission_explainer.specs.InRounds.{printed_omits}
use Rattle.omission_explainer.specs.Printed.{prints_omitted}
use Rattle.omission_explainer.specs.Reported.{carried_in, closed_below, count_in, is_closed}
use Rattle.omission_explainer.specs.Reported.{omitted_in, place, sends_in, stands_in}
use Rattle.omission_explainer.specs.declared.report.Report.{Report}
use Rattle.round_explorer.specs.OpenQuestions.{IsSetupOf}
use Rattle.round_explorer.specs.Properties.{Counts}
use Rattle.round_explorer.specs.Questions.{HasStopped, IsOfKind, IsPattern, IsTable, IsUnclear}
use Rattle.round_explorer.specs.Questions.{MayBeMissed, Messages, failure_of, is_faulty}
use Rattle.round_explorer.specs.Searched.{has_stopped}
use Rattle.round_explorer.specs.declared.question.AskedInputs.{AskedInputs}
use Rattle.round_explorer.specs.declared.question.Failure.{Failure}
use Rattle.round_explorer.specs.declared.question.Failure.TheVariants.{Crashes, Never, Omits}
use Rattle.round_explorer.specs.declared.question.FaultKind.TheVariants.{Crash}
use Rattle.round_explorer.specs.declared.question.Question.{Question}
use Rattle.round_explorer.proofs.AllRows.{is_stopped_by, stopped_is}
use Rattle.round_lang.specs.Sets.{is_in}
use Rattle.round_lang.specs.Syntax.{ProgramTree}
use Rattle.round_lang.proofs.SetLaws.{is_in-set_of}
use Rattle.round_meaning.specs.Rounds.{algorithm, algorithm_of, rounds}
use Rattle.round_meaning.specs.declared.setup.Setup.{Setup}
use Rattle.run_events.specs.declared.event.Event.{Event}
use Rattle.slot_plans.specs.Plan.{PlanLaws}
use Rattle.slot_plans.proofs.Rounds.{start-le, starts_apart}
use Rattle.step_book.specs.Log.{Log, count_of, history, round_of, world_of}
use Rattle.step_book.proofs.Fates.{carried_sent}
use Rattle.answer_laws.specs.Asked.{IsAskedAbout, OmitsOnly, StoppedRunsAreAsked, crashes_in}
use Rattle.answer_laws.specs.Asked.{failure_after}
use Rattle.answer_laws.proofs.Along.{rounds_along}
use Rattle.answer_laws.proofs.Members.{in_filter, in_flat, in_range}
use Rattle.answer_laws.proofs.Printed.{IsPrintedIn, printed_from, printed_is}

-- ---- failures by rounds that were ended

-- who crashed before a round may be missed in it
missed_then : (failure : Failure) (r : ℕ) → HasStopped failure r → MayBeMissed failure r
missed_then Never r h = h
missed_then Omits r h = absurd h
missed_then (Crashes c) r h = omega (arith, h)

module _ (last ended : ℕ) where
  counts_at : (r : ℕ) (b : Bool) → nat_lt ended last ≡ b → r ≤ ended
      → Counts (if b then Crashes (ended + 1) else Never) r
  counts_at r true e l = omega arith
  counts_at r false e l = tt

  -- a round that was ended counts
  pub ended_counts : (r : ℕ) → r ≤ ended → Counts (failure_after last ended) r
  ended_counts r l = counts_at r (nat_lt ended last) refl l

  stopped_at : (r : ℕ) (b : Bool) → nat_lt ended last ≡ b
      → HasStopped (if b then Crashes (ended + 1) else Never) r
      → (ended < last) × (ended + 1 < r)
  stopped_at r true e h = (ltb-true _ _ e, h)
  stopped_at r false e h = absurd h

  -- who has stopped didn't end the round before
  pub ended_before : (r : ℕ) → HasStopped (failure_after last ended) r
      → (ended < last) × (ended + 1 < r)
  ended_before r h = stopped_at r (nat_lt ended last) refl h

  kind_at : (rounds : ℕ) (b : Bool) → nat_lt ended last ≡ b → last ≤ rounds
      → IsOfKind Crash rounds (if b then Crashes (ended + 1) else Never)
  kind_at rounds true e l = let few = ltb-true _ _ e in (omega arith, omega arith)
  kind_at rounds false e l = tt

  pub ended_kind : (rounds : ℕ) → last ≤ rounds → IsOfKind Crash rounds (failure_after last ended)
  ended_kind rounds l = kind_at rounds (nat_lt ended last) refl l

-- what isn't omitted was carried or its slot taken
not_printed : (c m st : Bool) → (not (c && m) && not (st && not m)) ≡ false
    → (c ≡ true) ⊎ (st ≡ true)
not_printed true m st e = inl refl
not_printed false m true e = inr refl
not_printed false m false e = absurd (true≢false e)

or_none : (x y : Bool) → y ≡ false → x ≡ (x || y)
or_none true y e = refl
or_none false y e = sym e

algorithm_sized : (p : ProgramTree) (s : Setup) → (algorithm_of p s).nodes ≡ s.nodes
unfolding algorithm
algorithm_sized p s = refl

-- ---- one report

module _ (start receives : ℕ → ℕ) (p : ProgramTree) (like : Setup) (events : List Event)
    (report : Report) (laws : PlanLaws like.nodes receives start)
    (told : IsReportSoFar start p like events report) where
  abbrev v : Log
  v = told.run

  abbrev last : ℕ
  last = like.rounds

  nodes_is : v.setup.nodes ≡ like.nodes
  nodes_is = ap (λ (z : Setup). z.nodes) told.setup

  rounds_is : v.setup.rounds ≡ like.rounds
  rounds_is = ap (λ (z : Setup). z.rounds) told.setup

  abbrev pattern : List Failure
  pattern = crashes_in last report

  counted : length report.counts ≡ like.nodes
  counted = ap length told.counted
      ∙ length-map-range_with_len (count_in v) 0 v.setup.nodes ∙ nodes_is

  -- a node fails by how many rounds it ended
  fails_so : (j : ℕ) → j < like.nodes
      → failure_of pattern j ≡ failure_after last (round_of v j - 1)
  fails_so j known =
      get_or-map (λ (count : ℕ × ℕ). failure_after last count.1) report.counts j (0, 0) Never
      (omega (arith, known, counted))
      ∙ ap (λ (counts : List (ℕ × ℕ)). failure_after last (slice_index_or counts j (0, 0)).1)
      told.counted
      ∙ ap (λ (count : ℕ × ℕ). failure_after last count.1)
      (get_or-map-range_with_len (count_in v) 0 v.setup.nodes j j (0, 0)
      (omega (arith, known, nodes_is)) (omega arith))

  later : (r q : ℕ) → 1 ≤ r → r ≤ q → start r ≤ start q
  later r q first l = start-le like.nodes start (starts_apart laws) r q first l

  -- a node takes no step past the round that it doesn't end
  few_steps : (j : ℕ) → j < like.nodes → round_of v j - 1 < last
      → count_of v j ≤ start (round_of v j - 1 + 2)
  few_steps j known more = by (cases_lt (count_of v j) (start (round_of v j - 1 + 2)))
    where
      ours : j < v.setup.nodes
      ours = omega (arith, known, nodes_is)

      next : round_of v j - 1 + 1 + 1 ≡ round_of v j - 1 + 2
      next = omega arith

      by : (count_of v j < start (round_of v j - 1 + 2))
          ⊎ (start (round_of v j - 1 + 2) ≤ count_of v j)
          → count_of v j ≤ start (round_of v j - 1 + 2)
      by (inl l) = omega arith
      by (inr g) =
          let due = told.agrees.due j (round_of v j - 1 + 1) ours (record {
            first = omega arith;
            last = omega (arith, more, rounds_is);
            over = omega (arith, g, ap start next);
          }) in
          let here : round_of v j - 1 + 2 ≡ round_of v j + 1 = omega (arith, due) in
          let exact = told.agrees.exact j ours (record {
            first = omega (arith, due);
            last = omega (arith, more, rounds_is, due);
            over = omega (arith, g, ap start here);
          }) in
          omega (arith, exact, ap start here)

  -- who has stopped takes no slot of the round
  no_slot : (j r i : ℕ) → j < like.nodes → HasStopped (failure_of pattern j) r
      → count_of v j ≤ start r + i
  no_slot j r i known stopped =
      let h = ended_before last (round_of v j - 1) r
      (subst (λ failure. HasStopped failure r) (fails_so j known) stopped) in
      omega (
        arith,
        few_steps j known h.0,
        later (round_of v j - 1 + 2) r (omega arith) (let l = h.1 in omega arith),
      )

  -- ---- what a row omits

  abbrev omitted : ℕ → ℕ → ℕ → Bool
  omitted i r j = prints_omitted (carried_in start v r i) (sends_in start v r i)
      (stands_in start v r i) j

  in_row : (i r j : ℕ) → j < like.nodes → is_in (omitted_in start v r i) j ≡ omitted i r j
  in_row i r j known =
      is_in-set_of v.setup.nodes (omitted i r) j
      ∙ ap (λ b. b && omitted i r j) (lt-ltb j v.setup.nodes (omega (arith, known, nodes_is)))

  -- the messages of who has stopped are omitted
  stopped_omitted : (i r j : ℕ) → j < like.nodes → HasStopped (failure_of pattern j) r
      → omitted i r j ≡ true
  stopped_omitted i r j known stopped =
      by (carried_in start v r i j) refl
    where
      stands : stands_in start v r i j ≡ false
      stands = le-ltb (start r + i) (count_of v j) (no_slot j r i known stopped)

      by : (b : Bool) → carried_in start v r i j ≡ b → omitted i r j ≡ true
      by false e = rw (e, stands) refl
      by true e = absurd (omega (
        arith,
        carried_sent (world_of start v) (history v) i r j e,
        no_slot j r i known stopped,
      ))

  -- who isn't omitted took its slot
  slot_taken : (i r j : ℕ) → omitted i r j ≡ false → start r + i < count_of v j
  slot_taken i r j e = by (not_printed (carried_in start v r i j) (sends_in start v r i j)
      (stands_in start v r i j) e)
    where
      by : (carried_in start v r i j ≡ true) ⊎ (stands_in start v r i j ≡ true)
          → start r + i < count_of v j
      by (inl carried) = carried_sent (world_of start v) (history v) i r j carried
      by (inr stands) = ltb-true _ _ stands

  -- ---- the run in which nodes crash

  abbrev omits : Messages
  omits i r j = printed_omits report.rows i r j || has_stopped pattern r j

  -- a round that the node ended, or none
  abbrev Ends : ℕ → ℕ → Type 0
  Ends r i = 1 ≤ r → r < round_of v i

  -- each round that was ended has a row
  has_row : (r i : ℕ) → i < like.nodes → 1 ≤ r → r < round_of v i
      → Contains (map place report.rows) (r, i)
  has_row r i known first ended =
      let due = told.agrees.closed i r (omega (arith, known, nodes_is)) first ended in
      let pairs : List (ℕ × ℕ) = map (λ k. (r, k)) (range_with_len 0 v.setup.nodes) in
      let below = in_filter (is_closed v) pairs (r, i)
      (in_range (λ k. (r, k)) 0 v.setup.nodes i (omega arith) (omega (arith, known, nodes_is)))
      (lt-ltb _ _ ended) in
      subst (λ xs. Contains xs (r, i)) (sym told.listed)
      (in_flat (closed_below v v.setup.nodes) 1 v.setup.rounds r (r, i) (omega arith)
      (omega (arith, due.last)) below)

  printed : (i r j : ℕ) → i < like.nodes → j < like.nodes → 1 ≤ r → r < round_of v i
      → printed_omits report.rows i r j ≡ omitted i r j
  printed i r j known sender first ended =
      ap (λ set. is_in set j) (printed_is start v report.rows i r told.reported
      (has_row r i known first ended))
      ∙ in_row i r j sender

  -- a row omits who has stopped, whether that is added or not
  same_row : (i r j : ℕ) → i < like.nodes → j < like.nodes → 1 ≤ r → r < round_of v i
      → printed_omits report.rows i r j ≡ omits i r j
  same_row i r j known sender first ended = by (has_stopped pattern r j) refl
    where
      by : (b : Bool) → has_stopped pattern r j ≡ b
          → printed_omits report.rows i r j ≡ omits i r j
      by true e =
          let is = printed i r j known sender first ended
          ∙ stopped_omitted i r j sender (stopped_is (failure_of pattern j) r e) in
          is ∙ sym (or_left _ _ is)
      by false e = or_none (printed_omits report.rows i r j) (has_stopped pattern r j) e

  earlier : (q i : ℕ) → Ends (suc q) i → Ends q i
  earlier q i ends first = omega (arith, ends (omega arith))

  -- who isn't omitted ended the round before
  heard_from : (q i j : ℕ) → i < like.nodes → j < like.nodes → Ends (suc q) i
      → omits i (suc q) j ≡ false → Ends q j
  heard_from q i j known sender ends e first = by (cases_lt q (round_of v j))
    where
      few : suc q ≤ v.setup.rounds
      few = (told.agrees.closed i (suc q) (omega (arith, known, nodes_is)) (omega arith)
          (ends (omega arith))).last

      ours : j < v.setup.nodes
      ours = omega (arith, sender, nodes_is)

      slot : start (suc q) + i < count_of v j
      slot = slot_taken i (suc q) j
          (sym (printed i (suc q) j known sender (omega arith) (ends (omega arith)))
          ∙ (or_parts _ _ e).0)

      by : (q < round_of v j) ⊎ (round_of v j ≤ q) → q < round_of v j
      by (inl l) = l
      by (inr g) =
          let next : suc q ≡ q + 1 = omega arith in
          let due = told.agrees.due j q ours (record {
            first = first;
            last = omega (arith, few);
            over = omega (arith, slot, ap start next);
          }) in
          let here : round_of v j ≡ q = omega (arith, due, g) in
          let again : round_of v j + 1 ≡ suc q = omega (arith, here) in
          let exact = told.agrees.exact j ours (record {
            first = omega (arith, first, here);
            last = omega (arith, few, here);
            over = omega (arith, slot, ap start again);
          }) in
          absurd (omega (arith, slot, exact, ap start again))

  states : (r i : ℕ) → i < like.nodes → Ends r i
      → rounds (algorithm_of p like) (printed_omits report.rows) r i
      ≡ rounds (algorithm_of p like) omits r i
  states r i known ends =
      let sized = algorithm_sized p like in
      rounds_along (algorithm_of p like) (printed_omits report.rows) omits Ends
      (λ q k own e. earlier q k e)
      (λ q k j own sender e. same_row k (suc q) j (omega (arith, own, sized))
      (omega (arith, sender, sized)) (omega arith) (e (omega arith)))
      (λ q k j own sender e heard. heard_from q k j (omega (arith, own, sized))
      (omega (arith, sender, sized)) e heard) r i (omega (arith, known, sized)) ends

  module _ (s : Setup) (question : Question) (asked : AskedInputs)
      (is : IsSetupOf p.values s asked like) (crash : question.faults ≡ Crash)
      (quiet : question.hears ≡ 0) (few : count_by is_faulty pattern ≤ s.faults)
      (only : All (OmitsOnly question pattern) report.rows) where
    kinds : All (IsOfKind Crash s.rounds) pattern
    kinds = All-map (IsOfKind Crash s.rounds) (λ (count : ℕ × ℕ). failure_after last count.1)
        report.counts (λ k d l. ended_kind last (slice_index_or report.counts k d).1 s.rounds
        is.rounds)

    is_pattern : IsPattern question s pattern
    is_pattern = record {
      each_node = length-map report.counts (λ (count : ℕ × ℕ). failure_after last count.1)
          ∙ counted ∙ is.nodes;
      kinds = subst (λ kind. All (IsOfKind kind s.rounds) pattern) (sym crash) kinds;
      few = few;
    }

    missed : (i r j : ℕ) → (printed_omits report.rows i r j ≡ true)
        ⊎ (has_stopped pattern r j ≡ true)
        → IsUnclear question.clear r ⊎ MayBeMissed (failure_of pattern j) r
    missed i r j (inl is_printed) =
        let from : IsPrintedIn report.rows i r j = printed_from report.rows i r j is_printed in
        subst (λ q. IsUnclear question.clear q ⊎ MayBeMissed (failure_of pattern j) q) from.round
        (All-contains (OmitsOnly question pattern) report.rows from.row only from.among j
        from.omits)
    missed i r j (inr e) =
        inr (missed_then (failure_of pattern j) r (stopped_is (failure_of pattern j) r e))

    is_table : IsTable question s.nodes pattern s.rounds omits
    is_table i r known first past = record {
      only = λ j sender e. missed i r j (or_cases _ _ e);
      stopped = λ j sender h. or_right _ _ (is_stopped_by (failure_of pattern j) r h);
      heard = omega (
        arith,
        count_by-le-length (omits i r) (range_with_len 0 s.nodes),
        length-range_with_len 0 s.nodes,
        quiet,
      );
    }

    pub stopped_is_asked : IsAskedAbout p s question asked like pattern report.rows
    stopped_is_asked = record {
      omits = omits;
      setup = is;
      run = record { are_asked = is.inputs; is_pattern = is_pattern; is_table = is_table };
      in_rounds = λ k d l.
          let row = slice_index_or report.rows k d in
          let reported = told.reported k d l in
          let node = reported.node in
          told.in_rounds k d l
          ∙ states row.round row.node (omega (arith, node, nodes_is)) (λ first. reported.closed);
      counts = λ k d l.
          let row = slice_index_or report.rows k d in
          let reported = told.reported k d l in
          let node = reported.node in
          let closed = reported.closed in
          subst (λ failure. Counts failure row.round)
          (sym (fails_so row.node (omega (arith, node, nodes_is))))
          (ended_counts last (round_of v row.node - 1) row.round (omega (arith, closed)));
    }

pub stopped_runs_are_asked : StoppedRunsAreAsked
stopped_runs_are_asked start receives p s like question asked events report laws is told crash quiet
    few only =
    stopped_is_asked start receives p like events report laws told s question asked is crash quiet
    few only
