-- The run in rounds that omits what is printed of a report ends its rounds as they ended.
use Rattle.std.proofs.Common.{◌≡◌, ◌∙◌, ℕ, ◌+◌, ◌<◌, ◌≤◌, List, [], ◌∷◌, ◌++◌, ap, arith, map, refl}
use Rattle.std.proofs.Common.{true, suc, if◌then◌else◌, subst, sym}
use Rattle.std.specs.Prelude.{All, Contains, min, nat_le, slice_index_or}
use Rattle.std.specs.List.{filter_map, fold, range_with_len}
use Rattle.std.proofs.lemmas.Bool.{le-leb, lt-leb}
use Rattle.std.proofs.lemmas.List.Elements.{All-contains}
use Rattle.command_runs.specs.Explained.{IsReportSoFar}
use Rattle.command_runs.specs.InOmissions.{ShowsOmitting}
use Rattle.omission_explainer.specs.InRounds.{printed_omits}
use Rattle.omission_explainer.specs.Reported.{place}
use Rattle.omission_explainer.specs.Rows.{ClosedRound}
use Rattle.omission_explainer.specs.declared.report.Report.{Report}
use Rattle.omission_schedules.specs.Reports.{IsRowUnder, ended_below, is_ended}
use Rattle.omission_texts.specs.Stops.{crash_in, crash_round, steps_of}
use Rattle.omission_texts.specs.declared.line.OmissionLine.{OmissionLine}
use Rattle.round_lang.specs.Sets.{members}
use Rattle.round_lang.specs.Syntax.{ProgramTree}
use Rattle.round_meaning.proofs.RoundLaws.{rounds_same}
use Rattle.round_meaning.specs.Rounds.{algorithm, algorithm_of, rounds}
use Rattle.round_meaning.specs.Setups.{IsLawful}
use Rattle.round_meaning.specs.Turn.{decision}
use Rattle.round_meaning.specs.declared.setup.Setup.{Setup}
use Rattle.run_events.specs.declared.event.Event.{Event}
use Rattle.slot_plans.specs.Plan.{PlanLaws}
use Rattle.slot_plans.proofs.Rounds.{start-le, starts_apart}
use Rattle.answer_laws.specs.Read.{HasSameEnd, OmissionsAreRunAgain, lines_of}
use Rattle.answer_laws.proofs.Yes.{rows_past}
use Rattle.answer_laws.proofs.Members.{IsMadeOf, in_filter, in_flat, in_range, made_of}
use Rattle.answer_laws.proofs.OmitLines.{omit_said}
use Rattle.answer_laws.proofs.OmitTexts.{omissions_are_read}
use Rattle.answer_laws.proofs.Realising.{same_omits, stopped}

-- ---- no line has a node crash

none_in_row : (j i r : ℕ) (js : List ℕ) (ls : List OmissionLine)
    → filter_map (crash_in j) (map (omit_said i r) js ++ ls) ≡ filter_map (crash_in j) ls
none_in_row j i r [] ls = refl
none_in_row j i r (k ∷ ks) ls = none_in_row j i r ks ls

none_crash : (j : ℕ) (rows : List ClosedRound) → filter_map (crash_in j) (lines_of rows) ≡ []
none_crash j [] = refl
none_crash j (row ∷ rows) =
    none_in_row j row.node row.round (members row.omitted) (lines_of rows) ∙ none_crash j rows

-- so each node takes all its steps
all_steps : (start : ℕ → ℕ) (s : Setup) (rows : List ClosedRound) (j : ℕ)
    → steps_of s.nodes start s (lines_of rows) j ≡ start (s.rounds + 1)
all_steps start s rows j =
    let none : crash_round s (lines_of rows) j ≡ s.rounds + 1 =
    ap (fold min (s.rounds + 1)) (none_crash j rows) in
    ap (λ c. if nat_le c s.rounds then start c + s.nodes else start (s.rounds + 1)) none
    ∙ ap (λ b. if b then start (s.rounds + 1) + s.nodes else start (s.rounds + 1))
    (lt-leb (s.rounds + 1) s.rounds (omega arith))

algorithm_sized : (p : ProgramTree) (s : Setup) → (algorithm_of p s).nodes ≡ s.nodes
unfolding algorithm
algorithm_sized p s = refl

module _ (start receives : ℕ → ℕ) (p : ProgramTree) (s : Setup) (events : List Event)
    (report again : Report) (laws : PlanLaws s.nodes receives start)
    (lawful : IsLawful p.values s) (told : IsReportSoFar start p s events report)
    (shows : ShowsOmitting start p s (lines_of report.rows) again) where
  abbrev ls : List OmissionLine
  ls = lines_of report.rows

  abbrev stops : ℕ → ℕ
  stops = steps_of s.nodes start s ls

  nodes_is : told.run.setup.nodes ≡ s.nodes
  nodes_is = ap (λ (z : Setup). z.nodes) told.setup

  ended : (r i : ℕ) → 1 ≤ r → r ≤ s.rounds → is_ended start stops (r, i) ≡ true
  ended r i first past = le-leb _ _ (omega (
    arith,
    all_steps start s report.rows i,
    start-le s.nodes start (starts_apart laws) (r + 1) (s.rounds + 1) (omega arith)
        (omega arith),
  ))

  has_row : (r i : ℕ) → i < s.nodes → 1 ≤ r → r ≤ s.rounds
      → Contains (map place again.rows) (r, i)
  has_row r i known first past =
      let pairs : List (ℕ × ℕ) = map (λ k. (r, k)) (range_with_len 0 s.nodes) in
      let below = in_filter (is_ended start stops) pairs (r, i)
      (in_range (λ k. (r, k)) 0 s.nodes i (omega arith) (omega arith)) (ended r i first past) in
      subst (λ xs. Contains xs (r, i)) (sym shows.listed)
      (in_flat (ended_below start stops s.nodes) 1 s.rounds r (r, i) (omega arith) (omega arith)
      below)

  states : (r i : ℕ) → i < s.nodes → r ≤ s.rounds
      → rounds (algorithm_of p s) (stopped start s ls) r i
      ≡ rounds (algorithm_of p s) (printed_omits report.rows) r i
  states r i known past =
      let read = omissions_are_read start p s events report lawful told in
      let sized = algorithm_sized p s in
      rounds_same (algorithm_of p s) (stopped start s ls)
      (printed_omits report.rows) r i
      (λ q k j below receiver sender sends.
      same_omits receives start s ls laws read.1 k (suc q) j (omega (arith, receiver, sized))
      (omega arith) (omega arith)
      ∙ read.2 k (suc q) j) (omega (arith, known, sized))

  same_end : All (HasSameEnd again.rows) report.rows
  same_end = λ k d l.
      let row = slice_index_or report.rows k d in
      let reported = told.reported k d l in
      let node = reported.node in
      let known : row.node < s.nodes = omega (arith, node, nodes_is) in
      let past = rows_past start p s events report told k d l in
      let made : IsMadeOf place again.rows (row.round, row.node) =
      made_of place again.rows (row.round, row.node)
      (has_row row.round row.node known (let f = reported.first in omega (arith, f)) past) in
      let other = made.from in
      let round : other.round ≡ row.round = ap (λ (at : ℕ × ℕ). at.0) made.gives in
      let same : other.node ≡ row.node = ap (λ (at : ℕ × ℕ). at.1) made.gives in
      let under = All-contains (IsRowUnder p (algorithm_of p s) start stops
      (stopped start s ls))
      again.rows other shows.rowed made.among in
      let state = under.stated
      ∙ ap (λ q. rounds (algorithm_of p s) (stopped start s ls) q other.node) round
      ∙ ap (rounds (algorithm_of p s) (stopped start s ls) row.round) same
      ∙ states row.round row.node known past
      ∙ sym (told.in_rounds k d l) in
      let decided = subst (λ q. row.decision ≡ decision q row.state) told.program reported.decided
      in (
        made.among.0,
        other,
        made.among.1,
        made.among.2,
        (round, same, state, under.decided ∙ ap (decision p) state ∙ sym decided),
      )

pub omissions_are_run_again : OmissionsAreRunAgain
omissions_are_run_again start receives p s events report again laws lawful told shows =
    same_end start receives p s events report again laws lawful told shows
