-- One report alone shows a run in rounds.
use Rattle.std.proofs.Common.{◌≡◌, ℕ, Bool, not, List, [], ◌∷◌, map, sym, refl, ap, ◌∙◌}
use Rattle.std.specs.Prelude.{All}
use Rattle.std.proofs.lemmas.List.Elements.{All-head, All-tail, All-weaker}
use Rattle.round_lang.specs.Syntax.{ProgramTree}
use Rattle.round_meaning.specs.Rounds.{Algorithm, algorithm_of, rounds}
use Rattle.round_meaning.specs.Turn.{decision}
use Rattle.omission_explainer.specs.Printed.{heard_set, omitted_set, silent_set}
use Rattle.omission_explainer.specs.Reported.{place}
use Rattle.omission_explainer.specs.Rows.{ClosedRound}
use Rattle.omission_schedules.specs.Reports.{IsRowUnder, OneReportShowsRounds, has_message}
use Rattle.omission_schedules.specs.Schedules.{has_slot, with_stops}

module _ (p : ProgramTree) (a : Algorithm) (start stops : ℕ → ℕ) (omits : ℕ → ℕ → ℕ → Bool) where
  -- what the row of a round of a node shows
  abbrev row_at : ℕ × ℕ → ClosedRound
  row_at here = record {
    round = here.0;
    node = here.1;
    heard = heard_set a.nodes (λ j. not (omits here.1 here.0 j))
        (has_message a omits here.0 here.1);
    silent = silent_set a.nodes (has_message a omits here.0 here.1)
        (has_slot start stops here.0 here.1);
    omitted = omitted_set a.nodes (λ j. not (omits here.1 here.0 j))
        (has_message a omits here.0 here.1) (has_slot start stops here.0 here.1);
    state = rounds a omits here.0 here.1;
    decision = decision p (rounds a omits here.0 here.1);
  }

  is_row : (x : ClosedRound) → IsRowUnder p a start stops omits x → x ≡ row_at (place x)
  is_row x h =
      let y = row_at (place x) in
      ap (λ k. record x { heard = k }) h.printed.heard
      ∙ ap (λ k. record x { heard = y.heard; silent = k }) h.printed.silent
      ∙ ap (λ k. record x { heard = y.heard; silent = y.silent; omitted = k }) h.printed.omitted
      ∙ ap (λ k. record y { state = x.state; decision = k }) h.decided
      ∙ ap (λ k. record y { state = k; decision = decision p k }) h.stated

  are_rows : (xs : List ClosedRound) → All (λ x. x ≡ row_at (place x)) xs
      → xs ≡ map row_at (map place xs)
  are_rows [] h = refl
  are_rows (x ∷ xs) h =
      let P : ClosedRound → Type 0 = λ y. y ≡ row_at (place y) in
      ap (λ y. y ∷ xs) (All-head P x xs h)
      ∙ ap (λ ys. row_at (place x) ∷ ys) (are_rows xs (All-tail P x xs h))

  rows_are : (xs : List ClosedRound) → All (IsRowUnder p a start stops omits) xs
      → xs ≡ map row_at (map place xs)
  rows_are xs h = are_rows xs (All-weaker (IsRowUnder p a start stops omits)
      (λ x. x ≡ row_at (place x)) is_row xs h)

pub one_report : OneReportShowsRounds
one_report start stops p s omits a b x y =
    let omitted = with_stops start stops omits in
    let of = algorithm_of p s in
    let rows : b.rows ≡ a.rows =
    rows_are p of start stops omitted b.rows y.rowed
    ∙ ap (map (row_at p of start stops omitted)) (y.listed ∙ sym x.listed)
    ∙ sym (rows_are p of start stops omitted a.rows x.rowed) in
    ap (λ z. record b { values = z }) (y.values ∙ sym x.values)
    ∙ ap (λ z. record b { values = a.values; names = z }) (y.names ∙ sym x.names)
    ∙ ap (λ z. record b { values = a.values; names = a.names; types = z }) (y.types ∙ sym x.types)
    ∙ ap (λ z. record a { rows = z; counts = b.counts }) rows
    ∙ ap (λ z. record a { counts = z }) (y.counted ∙ sym x.counted)
