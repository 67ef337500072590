-- What is made of omissions is what the definitions say.
use Rattle.std.proofs.Common.{◌≡◌, ◌∙◌, ◌<◌, ◌≤◌, ◌&&◌, ℕ, List, ap, arith, map, true}
use Rattle.std.specs.Prelude.{slice_index}
use Rattle.std.specs.List.{range_with_len}
use Rattle.std.proofs.lemmas.Bool.{and_from, le-leb, lt-ltb}
use Rattle.std.proofs.lemmas.List.FromFn.{get_or-map-range_with_len}
use Rattle.command_runs.specs.InOmissions.{ShowsOmitting, realised_by}
use Rattle.omission_explainer.specs.declared.report.Report.{Report}
use Rattle.omission_schedules.proofs.Same.{schedule_same, shows_same}
use Rattle.omission_schedules.specs.Reports.{ShowsRounds}
use Rattle.omission_schedules.specs.Schedules.{schedule_with_stops}
use Rattle.omission_texts.specs.Meaning.{IsTableOf, is_message, omits}
use Rattle.omission_texts.specs.Stops.{steps_of}
use Rattle.omission_texts.specs.declared.line.OmissionLine.{OmissionLine}
use Rattle.round_lang.specs.Syntax.{ProgramTree}
use Rattle.round_meaning.specs.Omissions.{is_omitted}
use Rattle.round_meaning.specs.declared.omissions.Omission.{Omission}
use Rattle.round_meaning.specs.declared.setup.Setup.{Setup}

-- a table of what lines omit, and the stops of the nodes, as the definitions have them
module _ (nodes : ℕ) (start : ℕ → ℕ) (s : Setup) (ls : List OmissionLine) (table : List Omission)
    (stops : List ℕ) (sized : nodes ≡ s.nodes) (is : IsTableOf s ls table)
    (stop : stops ≡ map (steps_of nodes start s ls) (range_with_len 0 s.nodes)) where
  omitted_so : (i r j : ℕ) → i < s.nodes → j < s.nodes → 1 ≤ r → r ≤ s.rounds
      → is_omitted table i r j ≡ omits ls i r j
  omitted_so i r j a b low high =
      let of : is_message s i r j ≡ true =
      and_from _ _ (lt-ltb _ _ a) (and_from _ _ (lt-ltb _ _ b)
      (and_from _ _ (le-leb _ _ low) (le-leb _ _ high))) in
      is i r j ∙ ap (λ x. x && omits ls i r j) of

  stopped_so : (i : ℕ) → i < s.nodes → slice_index stops i ≡ steps_of s.nodes start s ls i
  stopped_so i a = ap (λ xs. slice_index xs i) stop
      ∙ index_of (steps_of nodes start s ls) s.nodes i a ∙ ap (λ n. steps_of n start s ls i) sized
    where
      index_of : (f : ℕ → ℕ) (n i : ℕ) → i < n → slice_index (map f (range_with_len 0 n)) i ≡ f i
      index_of f n i l = get_or-map-range_with_len f 0 n i i 0 l (omega arith)

  pub realised : (receives : ℕ → ℕ)
      → schedule_with_stops s.nodes receives start (slice_index stops) (is_omitted table) s.rounds ≡
      realised_by receives start s ls
  realised receives = schedule_same s.nodes s.rounds start (slice_index stops)
      (steps_of s.nodes start s ls) (is_omitted table) (omits ls) stopped_so omitted_so receives

  pub shown : (p : ProgramTree) (report : Report)
      → ShowsRounds start p s (slice_index stops) (is_omitted table) report
      → ShowsOmitting start p s ls report
  shown p report h = shows_same start (slice_index stops) (steps_of s.nodes start s ls) p s
      (is_omitted table) (omits ls) report stopped_so omitted_so h
