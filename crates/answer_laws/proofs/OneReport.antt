-- The events of a run have one report.
use Rattle.std.proofs.Common.{◌≡◌, ◌⊎◌, ℕ, zero, suc, ◌+◌, ◌-◌, ◌<◌, ◌≤◌, true, false, inl, inr}
use Rattle.std.proofs.Common.{cond, List, [], ◌∷◌, ◌++◌}
use Rattle.std.proofs.Common.{◌∙◌, map, ap, refl, sym, subst, arith, add-one}
use Rattle.std.specs.Prelude.{All, nat_lt, reverse}
use Rattle.std.specs.List.{flat_map, range_with_len}
use Rattle.std.proofs.lemmas.Bool.{cases_Bool}
use Rattle.std.proofs.lemmas.Bool.Decides.{nat_tests}
use Rattle.std.proofs.lemmas.List.Elements.{All-head, All-tail, All-weaker}
use Rattle.std.proofs.lemmas.List.FromFn.{filter_of_map_range_with_len_more}
use Rattle.adversary.specs.Driving.{ClosedAreDue}
use Rattle.round_lang.specs.Syntax.{ProgramTree}
use Rattle.round_meaning.proofs.RoundLaws.{map_same}
use Rattle.round_meaning.specs.Turn.{decision}
use Rattle.round_meaning.specs.declared.setup.Setup.{Setup}
use Rattle.step_book.specs.Agreed.{JournalAgrees}
use Rattle.step_book.specs.History.{state}
use Rattle.step_book.specs.Log.{Log, count_of, history, round_of, world_of}
use Rattle.step_book.specs.Trace.{steps}
use Rattle.step_book.specs.declared.mark.Mark.{Mark}
use Rattle.run_events.specs.declared.event.Event.{Event}
use Rattle.run_events.specs.declared.name.Name.{Name}
use Rattle.omission_explainer.specs.Reported.{IsReported, closed_below, closed_rounds, count_in}
use Rattle.omission_explainer.specs.Reported.{counts_in}
use Rattle.omission_explainer.specs.Reported.{heard_in, is_closed, omitted_in, place, silent_in}
use Rattle.omission_explainer.specs.Rows.{ClosedRound}
use Rattle.omission_explainer.specs.declared.report.Report.{Report}
use Rattle.command_runs.specs.Explained.{IsReportOf, IsReportSoFar}

-- a run by its program, setup and events alone
abbrev pub of_events : ProgramTree → Setup → List Event → Log
of_events p s t = record { program = p; setup = s; trace = t; rows = [] }

-- what the row of a round of a node shows in it
abbrev row_at : (ℕ → ℕ) → Log → ℕ × ℕ → ClosedRound
row_at start v here =
    let after = state (world_of start v) (history v) here.0 here.1 in
    record {
      round = here.0;
      node = here.1;
      heard = heard_in start v here.0 here.1;
      silent = silent_in start v here.0 here.1;
      omitted = omitted_in start v here.0 here.1;
      state = after;
      decision = decision v.program after;
    }

-- a reported row shows just that
is_row : (start : ℕ → ℕ) (v : Log) (x : ClosedRound) → IsReported start v x
    → x ≡ row_at start v (place x)
is_row start v x h =
    ap (λ k. record x { heard = k }) h.printed.heard
    ∙ ap (λ k. record x { heard = heard_in start v x.round x.node; silent = k }) h.printed.silent
    ∙ ap (λ k. record x {
      heard = heard_in start v x.round x.node;
      silent =
          silent_in start v x.round x.node;
      omitted = k;
    }) h.printed.omitted
    ∙ ap (λ k. record (row_at start v (place x)) { state = x.state; decision = k }) h.decided
    ∙ ap (λ k. record (row_at start v (place x)) { state = k; decision = decision v.program k })
    h.stated

-- rows are those of their places
are_rows : (f : ℕ × ℕ → ClosedRound) (xs : List ClosedRound) → All (λ x. x ≡ f (place x)) xs
    → xs ≡ map f (map place xs)
are_rows f [] h = refl
are_rows f (x ∷ xs) h =
    let P : ClosedRound → Type 0 = λ y. y ≡ f (place y) in
    ap (λ y. y ∷ xs) (All-head P x xs h)
    ∙ ap (λ ys. f (place x) ∷ ys) (are_rows f xs (All-tail P x xs h))

-- a round from 1 on is closed in two runs alike where they have as many closed rounds of a node
same_closed : (v w : Log) (r i : ℕ) → 0 < r → round_of w i - 1 ≡ round_of v i - 1
    → (nat_lt r (round_of w i) ≡ true) ⊎ (nat_lt r (round_of w i) ≡ false)
    → nat_lt r (round_of w i) ≡ nat_lt r (round_of v i)
same_closed v w r i first h (inl is) = let also : nat_lt r (round_of v i) ≡ true =
    grind (arith, nat_tests) in is ∙ sym also
same_closed v w r i first h (inr isnt) = let also : nat_lt r (round_of v i) ≡ false =
    grind (arith, nat_tests) in isnt ∙ sym also

-- if as many rounds of each of the first n nodes are closed, the same ones are listed
same_below : (v w : Log) (r n : ℕ) → 0 < r → ((i : ℕ) → i < n → round_of w i - 1 ≡ round_of v i - 1)
    → closed_below w n r ≡ closed_below v n r
same_below v w r zero first h = refl
same_below v w r (suc n) first h =
    let more : (z : Log) → closed_below z (n + 1) r ≡ closed_below z n r
    ++ cond (nat_lt r (round_of z n)) ((r, n) ∷ []) [] =
    λ z. filter_of_map_range_with_len_more (is_closed z) (λ i. (r, i)) 0 n n (omega arith) in
    let below = same_below v w r n first (λ i l. h i (omega arith)) in
    let last = same_closed v w r n first (h n (omega arith)) (cases_Bool _) in
    ap (λ k. closed_below w k r) (sym (add-one n)) ∙ more w
    ∙ ap (λ ps. ps ++ cond (nat_lt r (round_of w n)) ((r, n) ∷ []) []) below
    ∙ ap (λ b. closed_below v n r ++ cond b ((r, n) ∷ []) []) last
    ∙ sym (more v) ∙ ap (λ k. closed_below v k r) (add-one n)

-- functions that agree from a on give the same lists
flat_same : {X : Type 0} (f g : ℕ → List X) (a n : ℕ) → ((r : ℕ) → a ≤ r → f r ≡ g r)
    → flat_map f (range_with_len a n) ≡ flat_map g (range_with_len a n)
flat_same f g a zero h = refl
flat_same f g a (suc n) h =
    ap (λ xs. xs ++ flat_map f (range_with_len (a + 1) n)) (h a (omega arith))
    ∙ ap (λ xs. g a ++ xs) (flat_same f g (a + 1) n (λ r l. h r (omega arith)))

-- a run has no more closed rounds of a node than another one with these events
not_more : (start : ℕ → ℕ) (v w : Log) (mark : Name → Mark) (waiting : ℕ → List Name)
    → ClosedAreDue start v → JournalAgrees start w mark waiting → w.setup ≡ v.setup
    → w.trace ≡ v.trace
    → (i : ℕ) → i < v.setup.nodes → round_of w i - 1 ≤ round_of v i - 1
not_more start v w mark waiting due agrees setup trace i node = by_number (round_of w i - 1) refl
  where
    there : i < w.setup.nodes
    there = subst (λ (s : Setup). i < s.nodes) (sym setup) node

    last : w.setup.rounds ≡ v.setup.rounds
    last = ap (λ (s : Setup). s.rounds) setup

    counted : count_of w i ≡ count_of v i
    counted = ap (λ (t : List Event). steps i (reverse t)) trace

    by_number : (r : ℕ) → round_of w i - 1 ≡ r → round_of w i - 1 ≤ round_of v i - 1
    by_number zero e = omega (arith, e)
    by_number (suc q) e =
        let over = agrees.closed i (suc q) there (omega arith) (omega (arith, e)) in
        let closed = (due i (suc q) node (omega arith) (omega (arith, over.last, last))).1
        (omega (arith, over.over, counted)) in
        omega (arith, e, closed)

-- two runs of the same events
module _ (start : ℕ → ℕ) (p : ProgramTree) (s : Setup) (events : List Event) (a b : Report)
    (one : IsReportOf start p s events a) (other : IsReportOf start p s events b) where
  abbrev x : IsReportSoFar start p s events a
  x = one.so_far

  abbrev y : IsReportSoFar start p s events b
  y = other.so_far

  setups : y.run.setup ≡ x.run.setup
  setups = y.setup ∙ sym x.setup

  traces : y.run.trace ≡ x.run.trace
  traces = y.trace ∙ sym x.trace

  rounds : (i : ℕ) → i < x.run.setup.nodes → round_of y.run i - 1 ≡ round_of x.run i - 1
  rounds i node =
      let below = not_more start x.run y.run _ _ one.closed y.agrees setups traces i node in
      let there : i < y.run.setup.nodes = subst (λ (z : Setup). i < z.nodes) (sym setups) node in
      let above =
      not_more start y.run x.run _ _ other.closed x.agrees (sym setups) (sym traces) i there in
      omega (arith, below, above)

  places : closed_rounds y.run ≡ closed_rounds x.run
  places =
      ap (λ (z : Setup). flat_map (closed_below y.run z.nodes) (range_with_len 1 z.rounds)) setups
      ∙ flat_same (closed_below y.run x.run.setup.nodes) (closed_below x.run x.run.setup.nodes) 1
      x.run.setup.rounds
      (λ r l. same_below x.run y.run r x.run.setup.nodes (omega arith) rounds)

  counts : counts_in y.run ≡ counts_in x.run
  counts =
      ap (λ (z : Setup). map (count_in y.run) (range_with_len 0 z.nodes)) setups
      ∙ map_same (count_in y.run) (count_in x.run) 0 x.run.setup.nodes
      (λ i low high. ap (λ (t : List Event). (steps i (reverse t), round_of y.run i - 1)) traces
      ∙ ap (λ k. (count_of x.run i, k)) (rounds i (omega arith)))

  abbrev shown : ℕ × ℕ → ClosedRound
  shown = row_at start (of_events p s events)

  by_events : (v : Log) (here : ℕ × ℕ) → v.program ≡ p → v.setup ≡ s → v.trace ≡ events
      → row_at start v here ≡ shown here
  by_events v here program setup trace =
      ap (λ z. row_at start (of_events z v.setup v.trace) here) program
      ∙ ap (λ z. row_at start (of_events p z v.trace) here) setup
      ∙ ap (λ z. row_at start (of_events p s z) here) trace

  rows_of : (v : Log) (rows : List ClosedRound) → v.program ≡ p → v.setup ≡ s → v.trace ≡ events
      → All (IsReported start v) rows → rows ≡ map shown (map place rows)
  rows_of v rows program setup trace reported =
      are_rows shown rows
      (All-weaker (IsReported start v) (λ r. r ≡ shown (place r))
      (λ r h. is_row start v r h ∙ by_events v (place r) program setup trace) rows reported)

  rows : b.rows ≡ a.rows
  rows =
      rows_of y.run b.rows y.program y.setup y.trace y.reported
      ∙ ap (map shown) (y.listed ∙ places ∙ sym x.listed)
      ∙ sym (rows_of x.run a.rows x.program x.setup x.trace x.reported)

  pub one_report : b ≡ a
  one_report =
      ap (λ z. record b { values = z }) (y.values ∙ sym x.values)
      ∙ ap (λ z. record b { values = a.values; names = z }) (y.names ∙ sym x.names)
      ∙ ap (λ z. record b { values = a.values; names = a.names; types = z }) (y.types ∙ sym x.types)
      ∙ ap (λ z. record a { rows = z; counts = b.counts }) rows
      ∙ ap (λ z. record a { counts = z }) (y.counted ∙ counts ∙ sym x.counted)
