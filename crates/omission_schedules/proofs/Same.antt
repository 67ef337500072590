-- Omission tests that agree on the messages of a run, and stops that agree on its nodes, have the
-- same schedule and the same report.
use Rattle.std.proofs.Common.{◌≡◌, ℕ, zero, suc, ◌+◌, ◌-◌, ◌<◌, ◌≤◌, Bool, true, false, not, ◌&&◌}
use Rattle.std.proofs.Common.{◌||◌, List, [], ◌∷◌, ◌++◌, map, cond, sym, subst, refl, ap, ap₂, ◌∙◌}
use Rattle.std.proofs.Common.{arith, length}
use Rattle.std.specs.Prelude.{All, filter, is_some, min, nat_le, nat_lt, replicate, slice_index_or}
use Rattle.std.specs.List.{flat_map, range_with_len}
use Rattle.std.proofs.lemmas.List.Elements.{All-append, All-cons, All-head, All-nil, All-tail}
use Rattle.omission_explainer.specs.Printed.{is_heard, is_silent}
use Rattle.omission_explainer.specs.Reported.{place}
use Rattle.omission_explainer.specs.Rows.{ClosedRound}
use Rattle.omission_explainer.specs.declared.report.Report.{Report}
use Rattle.round_lang.specs.Syntax.{ProgramTree}
use Rattle.round_meaning.proofs.RoundLaws.{map_same, rounds_same}
use Rattle.round_meaning.specs.Rounds.{Algorithm, algorithm, algorithm_of, rounds}
use Rattle.round_meaning.specs.declared.setup.Setup.{Setup}
use Rattle.run_events.specs.declared.event.Event.{Event}
use Rattle.run_events.specs.declared.event.Event.TheVariants.{Step, Release}
use Rattle.omission_schedules.specs.Reports.{IsRowUnder, ShowsRounds, count_until, ended_below}
use Rattle.omission_schedules.specs.Reports.{ended_rounds, has_message, is_ended}
use Rattle.omission_schedules.specs.Schedules.{all_step, each_below, has_slot, release_of, releases}
use Rattle.omission_schedules.specs.Schedules.{round_events, schedule_with_stops, until, with_stops}
use Rattle.omission_schedules.proofs.Alike.{filter_same, filter_tests, flat_same, same_set}
use Rattle.omission_schedules.proofs.Each.{each_more, each_none}

-- ---- what holds of each place

all_flat : (P : ℕ × ℕ → Type 0) (f : ℕ → List (ℕ × ℕ)) (a n : ℕ)
    → ((k : ℕ) → a ≤ k → k < a + n → All P (f k)) → All P (flat_map f (range_with_len a n))
all_flat P f a zero h = All-nil P
all_flat P f a (suc n) h = All-append P (f a) (flat_map f (range_with_len (a + 1) n))
    (h a (omega arith) (omega arith))
    (all_flat P f (a + 1) n (λ k low high. h k (omega arith) (omega arith)))

all_below : (P : ℕ × ℕ → Type 0) (p : ℕ × ℕ → Bool) (r a n : ℕ) → ((i : ℕ) → i < a + n → P (r, i))
    → All P (filter p (map (λ i. (r, i)) (range_with_len a n)))
all_below P p r a zero h = All-nil P
all_below P p r a (suc n) h =
    by (p (r, a)) refl (all_below P p r (a + 1) n (λ i l. h i (omega arith))) (h a (omega arith))
  where
    by : (b : Bool) → p (r, a) ≡ b → All P (filter p (map (λ i. (r, i)) (range_with_len (a + 1) n)))
        → P (r, a)
        → All P (filter p (map (λ i. (r, i)) (range_with_len a (suc n))))
    by true e rest here = rw e (All-cons P (r, a)
        (filter p (map (λ i. (r, i)) (range_with_len (a + 1) n))) here rest)
    by false e rest here = rw e rest

unmapped : (P : ℕ × ℕ → Type 0) (rows : List ClosedRound) → All P (map place rows)
    → All (λ row. P (place row)) rows
unmapped P [] h = All-nil (λ (row : ClosedRound). P (place row))
unmapped P (row ∷ rows) h = All-cons (λ (row : ClosedRound). P (place row)) row rows
    (All-head P (place row) (map place rows) h)
    (unmapped P rows (All-tail P (place row) (map place rows) h))

-- a round of the run and a node of it
abbrev IsIn : (n most : ℕ) → ℕ × ℕ → Type 0
IsIn n most p = (1 ≤ p.0) × (p.0 ≤ most) × (p.1 < n)

rows_within : (start stops : ℕ → ℕ) (n most : ℕ) (rows : List ClosedRound)
    → map place rows ≡ ended_rounds start stops n most → All (λ row. IsIn n most (place row)) rows
rows_within start stops n most rows e =
    unmapped (IsIn n most) rows (subst (All (IsIn n most)) (sym e)
    (all_flat (IsIn n most) (ended_below start stops n) 1 most (λ r low high.
    all_below (IsIn n most) (is_ended start stops) r 0 n (λ i l. (low, omega arith, omega arith)))))

-- ---- schedules

each_same : (n : ℕ) (make also : ℕ → List Event) → ((m : ℕ) → m < n → make m ≡ also m)
    → each_below n make ≡ each_below n also
each_same zero make also h = each_none make ∙ sym (each_none also)
each_same (suc n) make also h =
    each_more n make ∙ ap (λ xs. xs ++ make n) (each_same n make also (λ m l. h m (omega arith)))
    ∙ ap (λ xs. each_below n also ++ xs) (h n (omega arith))
    ∙ sym (each_more n also)

module _ (n most : ℕ) (start stops ends : ℕ → ℕ) (o p : ℕ → ℕ → ℕ → Bool)
    (stop : (i : ℕ) → i < n → stops i ≡ ends i)
    (omit : (i r j : ℕ) → i < n → j < n → 1 ≤ r → r ≤ most → o i r j ≡ p i r j) where
  pub schedule_same : (receives : ℕ → ℕ)
      → schedule_with_stops n receives start stops o most ≡ schedule_with_stops n receives start
      ends p most
  schedule_same receives =
      each_same most (λ r. round_events n (λ i. until (stops i) (start (r + 1)) n)
      (λ i. until (stops i) (start (r + 1) + n) (receives (r + 1))) o (r + 1))
      (λ r. round_events n (λ i. until (ends i) (start (r + 1)) n)
      (λ i. until (ends i) (start (r + 1) + n) (receives (r + 1))) p (r + 1)) (λ r l.
      let steps : (from k : ℕ) → all_step n (λ i. until (stops i) from k) ≡ all_step n
      (λ i. until (ends i) from k) =
      λ from k. each_same n (λ i. replicate (until (stops i) from k) (Step i))
      (λ i. replicate (until (ends i) from k) (Step i))
      (λ i a. ap (λ s. replicate (until s from k) (Step i)) (stop i a)) in
      let lets : releases n o (r + 1) ≡ releases n p (r + 1) =
      each_same n (λ i. each_below n (λ j. release_of o (r + 1) i j))
      (λ i. each_below n (λ j. release_of p (r + 1) i j)) (λ i a.
      each_same n (λ j. release_of o (r + 1) i j) (λ j. release_of p (r + 1) i j) (λ j b.
      ap (λ (z : Bool). cond z [] (Release (record { from = j; to = i; round = r + 1; copy = 0 }) ∷
      [])) (omit i (r + 1) j a b (omega arith) (omega arith)))) in
      ap (λ xs. xs ++ releases n o (r + 1) ++ all_step n
      (λ i. until (stops i) (start (r + 1) + n) (receives (r + 1)))) (steps (start (r + 1)) n)
      ∙ ap (λ xs. all_step n (λ i. until (ends i) (start (r + 1)) n) ++ xs ++ all_step n
      (λ i. until (stops i) (start (r + 1) + n) (receives (r + 1)))) lets
      ∙ ap (λ xs. all_step n (λ i. until (ends i) (start (r + 1)) n) ++ releases n p (r + 1) ++ xs)
      (steps (start (r + 1) + n) (receives (r + 1))))

  -- ---- reports

  missed : (i r j : ℕ) → i < n → j < n → 1 ≤ r → r ≤ most
      → with_stops start stops o i r j ≡ with_stops start ends p i r j
  missed i r j a b low high = ap₂ (λ x y. x || nat_le y (start r + i)) (omit i r j a b low high)
      (stop j b)

  module _ (a : Algorithm) (sized : a.nodes ≡ n) where
    abbrev old : ℕ → ℕ → ℕ → Bool
    old = with_stops start stops o

    abbrev new : ℕ → ℕ → ℕ → Bool
    new = with_stops start ends p

    states : (r i : ℕ) → r ≤ most → i < n → rounds a old r i ≡ rounds a new r i
    states r i high l = rounds_same a old new r i
        (λ q k j below kl jl sends. missed k (suc q) j (omega arith) (omega arith) (omega arith)
        (omega arith)) (omega arith)

    row_same : (program : ProgramTree) (row : ClosedRound) → IsIn n most (place row)
        → IsRowUnder program a start stops old row → IsRowUnder program a start ends new row
    row_same program row is h =
        let r = row.round in
        let i = row.node in
        let low = is.0 in
        let high = is.1 in
        let own = is.2 in
        let says : (j : ℕ) → j < a.nodes → has_message a old r i j ≡ has_message a new r i j =
        λ j l. ap (λ x. is_some (a.send r x j i)) (states (r - 1) j (omega arith) (omega arith)) in
        let carries : (j : ℕ) → j < a.nodes → not (old i r j) ≡ not (new i r j) =
        λ j l. ap not (missed i r j own (omega arith) low high) in
        let stands : (j : ℕ) → j < a.nodes
        → has_slot start stops r i j ≡ has_slot start ends r i j =
        λ j l. ap (λ s. nat_lt (start r + i) s) (stop j (omega arith)) in
        let hears : (j : ℕ) → j < a.nodes
        → is_heard (λ k. not (old i r k)) (has_message a old r i) j ≡ is_heard
        (λ k. not (new i r k)) (has_message a new r i) j =
        λ j l. ap₂ (λ x y. x && y) (carries j l) (says j l) in
        let quiet : (j : ℕ) → j < a.nodes
        → is_silent (has_message a old r i) (has_slot start stops r i) j ≡ is_silent
        (has_message a new r i) (has_slot start ends r i) j =
        λ j l. ap₂ (λ x y. x && not y) (stands j l) (says j l) in
        record {
          printed = record {
            heard = h.printed.heard ∙ same_set a.nodes _ _ hears;
            silent = h.printed.silent ∙ same_set a.nodes _ _ quiet;
            omitted = h.printed.omitted ∙ same_set a.nodes _ _
                (λ j l. ap₂ (λ x y. not x && not y) (hears j l) (quiet j l));
          };
          stated = h.stated ∙ states r i high own;
          decided = h.decided;
        }

  ended : (r i : ℕ) → i < n → is_ended start stops (r, i) ≡ is_ended start ends (r, i)
  ended r i l = ap (nat_le (start (r + 1))) (stop i l)

  listed_same : ended_rounds start stops n most ≡ ended_rounds start ends n most
  listed_same = flat_same (ended_below start stops n) (ended_below start ends n) 1 most
      (λ r low high. filter_tests (is_ended start stops) (is_ended start ends) r 0 n
      (λ i l. ended r i (omega arith)))

  counts_same : map (count_until start stops most) (range_with_len 0 n) ≡ map
      (count_until start ends most) (range_with_len 0 n)
  counts_same = map_same (count_until start stops most) (count_until start ends most) 0 n
      (λ i low high.
      let l : i < n = omega arith in
      ap₂ (λ x y. (min (start (most + 1)) x, y)) (stop i l)
      (ap length (filter_same (λ r. is_ended start stops (r, i)) (λ r. is_ended start ends (r, i)) 1
      most (λ r first last. ended r i l))))

algorithm_sized : (p : ProgramTree) (s : Setup) → (algorithm_of p s).nodes ≡ s.nodes
unfolding algorithm
algorithm_sized p s = refl

pub shows_same : (start stops ends : ℕ → ℕ) (p : ProgramTree) (s : Setup) (o q : ℕ → ℕ → ℕ → Bool)
    (report : Report) → ((i : ℕ) → i < s.nodes → stops i ≡ ends i)
    → ((i r j : ℕ) → i < s.nodes → j < s.nodes → 1 ≤ r → r ≤ s.rounds → o i r j ≡ q i r j)
    → ShowsRounds start p s stops o report → ShowsRounds start p s ends q report
shows_same start stops ends p s o q report stop omit x =
    let within = rows_within start stops s.nodes s.rounds report.rows x.listed in
    record {
      values = x.values;
      names = x.names;
      types = x.types;
      listed = x.listed ∙ listed_same s.nodes s.rounds start stops ends o q stop omit;
      rowed = λ k d l. row_same s.nodes s.rounds start stops ends o q stop omit (algorithm_of p s)
          (algorithm_sized p s) p (slice_index_or report.rows k d) (within k d l) (x.rowed k d l);
      counted = x.counted ∙ counts_same s.nodes s.rounds start stops ends o q stop omit;
    }
