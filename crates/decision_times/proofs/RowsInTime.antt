-- The rows of a report, of a run that keeps lockstep and the bound, have decisions in time.
use Rattle.std.proofs.Common.{◌≡◌, ℕ, ◌<◌, ◌≤◌, Bool, true, false, cond, List, [], ◌∷◌, All}
use Rattle.std.proofs.Common.{refl, sym, ap, ◌∙◌, subst, inl, inr, ◌⊎◌, arith}
use Rattle.std.specs.Prelude.{◌&&◌, IsSome, ◌==◌, slice_index_or}
use Rattle.std.proofs.lemmas.Bool.{and_parts, eqb-true, false_from_ne_true}
use Rattle.std.proofs.lemmas.List.Elements.{All-head, All-tail}
use Rattle.omission_explainer.specs.InRounds.{IsOfRounds, printed_omits, printed_omitted}
use Rattle.omission_explainer.specs.Reported.{IsReported, omitted_in}
use Rattle.omission_explainer.specs.Rows.{ClosedRound}
use Rattle.omission_explainer.specs.Verdict.{HearsFrom}
use Rattle.round_lang.specs.Sets.{is_in}
use Rattle.round_meaning.specs.Rounds.{algorithm_of}
use Rattle.round_meaning.specs.Turn.{decision}
use Rattle.round_meaning.proofs.SetReading.{none_in}
use Rattle.step_book.specs.Log.{Log, round_of}
use Rattle.round_proofs.specs.Progress.{HearsLiving}
use Rattle.round_proofs.specs.Terminating.{DecideFrom}
use Rattle.decision_times.specs.InTime.{DecideByStep, DecideInTime, HaveDecidedBy, IsAllButFew}
use Rattle.decision_times.specs.InTime.{IsReportOf}
use Rattle.adversary.specs.Driving.{ClosedAreDue}
use Rattle.decision_times.proofs.ClosedRows.{row_decides}

-- what the rows print as omitted in a closed round was omitted; of other rounds they print nothing
abbrev Printed : (ℕ → ℕ) → Log → (i r omitted : ℕ) → Type 0
Printed start v i r omitted =
    (omitted ≡ 0) ⊎ ((r < round_of v i) × (omitted ≡ omitted_in start v r i))

printed : (start : ℕ → ℕ) (v : Log) (i r : ℕ) (rows : List ClosedRound)
    → All (IsReported start v) rows
    → Printed start v i r (printed_omitted rows i r)
unfolding printed_omitted
printed start v i r [] all = inl refl
printed start v i r (x ∷ rows) all =
    go ((x.node == i) && (x.round == r)) refl
    (printed start v i r rows (All-tail (IsReported start v) x rows all))
  where
    here : IsReported start v x
    here = All-head (IsReported start v) x rows all

    go : (b : Bool) → ((x.node == i) && (x.round == r)) ≡ b
        → Printed start v i r (printed_omitted rows i r)
        → Printed start v i r (cond b x.omitted (printed_omitted rows i r))
    go true e rest =
        let parts = and_parts (x.node == i) (x.round == r) e in
        let node = eqb-true x.node i parts.0 in
        let round = eqb-true x.round r parts.1 in
        inr (
          subst (λ n. r < round_of v n) node (subst (λ q. q < round_of v x.node) round here.closed),
          here.printed.omitted ∙ ap (λ q. omitted_in start v q x.node) round
              ∙ ap (omitted_in start v r) node,
        )
    go false e rest = rest

is_none : (j : ℕ) → is_in 0 j ≡ false
is_none j = false_from_ne_true (is_in 0 j) (none_in j)

-- from the clear round on correct nodes hear each other
hears : (start : ℕ → ℕ) (v : Log) (rows : List ClosedRound) (correct clear last : ℕ)
    → All (IsReported start v) rows → HearsFrom start v correct clear
    → IsAllButFew v correct → HearsLiving v.setup (is_in correct) (printed_omits rows) clear last
hears start v rows correct clear last reported from many = record {
  heard = λ i r j hi hj le past li lj. go i r j le li lj (printed start v i r rows reported);
  many = many;
}
  where
    go : (i r j : ℕ) → clear ≤ r → is_in correct i ≡ true → is_in correct j ≡ true
        → Printed start v i r (printed_omitted rows i r)
        → is_in (printed_omitted rows i r) j ≡ false
    go i r j le li lj (inl none) = ap (λ o. is_in o j) none ∙ is_none j
    go i r j le li lj (inr it) = ap (λ o. is_in o j) it.1 ∙ from r i j le it.0 li lj

pub rows_decide : (start : ℕ → ℕ) (v : Log) (rows : List ClosedRound) (correct clear round : ℕ)
    → All (IsReported start v) rows
    → All (IsOfRounds (algorithm_of v.program v.setup) (printed_omits rows)) rows
    → HearsFrom start v correct clear → IsAllButFew v correct
    → DecideFrom v.program v.setup clear round → HaveDecidedBy correct round rows
rows_decide start v rows correct clear round reported in_rounds from many all at d lt live past =
    let row = slice_index_or rows at d in
    let said = reported at d lt in
    let it = all (printed_omits rows) (is_in correct) row.round
    (hears start v rows correct clear row.round reported from many) past row.node said.node live in
    subst IsSome (sym (said.decided ∙ ap (decision v.program) (in_rounds at d lt) ∙ it.1)) refl

pub in_time : (start : ℕ → ℕ) (v : Log) (rows : List ClosedRound) (correct clear : ℕ)
    → IsReportOf start v rows → HearsFrom start v correct clear
    → DecideInTime v correct clear rows
in_time start v rows correct clear is from = record {
  reported = λ round many all.
      rows_decide start v rows correct clear round is.reported is.in_rounds from many all;
  closed = λ round i r many all hi live past some last closed.
      row_decides v correct round i r rows is.listed
      (rows_decide start v rows correct clear round is.reported is.in_rounds from many all) hi live
      past some last closed;
}

pub in_steps : (start : ℕ → ℕ) (v : Log) (rows : List ClosedRound) (correct clear : ℕ)
    → IsReportOf start v rows → HearsFrom start v correct clear → ClosedAreDue start v
    → DecideByStep start v correct clear rows
in_steps start v rows correct clear is from due round i many all hi live begun last taken =
    (in_time start v rows correct clear is from).closed round i round many all hi live (omega arith)
    begun last ((due i round hi begun last).1 taken)
