use Rattle.std.proofs.Common.{◌≡◌, ◌∙◌, false, length, None, sym, ap}
use Rattle.std.specs.Prelude.{is_some}
use Rattle.std.proofs.lemmas.Bool.{lt-ltb}
use Rattle.std.proofs.lemmas.Option.{slice_get_within}
use Rattle.omission_explainer.specs.Rows.{ClosedRound}
use Rattle.verdict_reasons.specs.Decisions.{IsFirstTakenBack, IsTakenBack}
use Rattle.verdict_reasons.specs.Seeking.{IsSought}
use Rattle.verdict_reasons.specs.declared.decisions.TakenBack.{TakenBack}
use Rattle.verdict_reasons.specs.declared.sought.Sought.TheVariants as sought
use Rattle.verdict_reasons.proofs.Rowed.{kept_none, kept_one, on_none, row_is, row_read}
use Rattle.verdict_reasons.proofs.Rowed.{taken_back_at}
use Rattle.verdict_reasons.proofs.decisions.first_taken_back.Goals as goal

pub returns-in_err-decided : goal.returns-in_err-decided
returns-in_err-decided c =
    let rows = c.args.rows.now in
    let node = c.args.node in
    on_none c.from_residual.result ((t : TakenBack) → IsTakenBack rows node t → ⊥)
    (IsFirstTakenBack rows node) c.from_residual.ensures
    (kept_none rows node c.in_err-decided.ensures)

pub returns-in_err-row : goal.returns-in_err-row
returns-in_err-row c =
    let rows = c.args.rows.now in
    let at = c.in_ok-decided.ensures.there in
    let within = slice_get_within rows c.in_ok-decided.decided at.row at.there in
    let on = lt-ltb c.in_ok-decided.decided (length rows) within in
    let off = c.in_err-row.ensures.lookup.0 in
    absurd (cc)

pub returns-in_err-decision : goal.returns-in_err-decision
returns-in_err-decision c =
    let rows = c.args.rows.now in
    let row = c.in_ok-row.row.now in
    let read = c.in_ok-row.ensures.lookup in
    let there = row_read rows c.in_ok-decided.decided row read.0 read.1 in
    let is = row_is rows (IsSought (sought.DecisionOf c.args.node)) c.in_ok-decided.decided row
    there c.in_ok-decided.ensures.there in
    let on = is.1 in
    let none : row.decision ≡ None = sym (ap (λ (r : ClosedRound). r.decision) c.row.view_is)
    ∙ c.in_err-decision.was in
    let off : is_some row.decision ≡ false = ap is_some none in
    absurd (cc)

pub returns-in_err-changed : goal.returns-in_err-changed
returns-in_err-changed c =
    let rows = c.args.rows.now in
    let node = c.args.node in
    let row = c.in_ok-row.row.now in
    let read = c.in_ok-row.ensures.lookup in
    on_none c.from_residual-in_err-changed.result ((t : TakenBack) → IsTakenBack rows node t → ⊥)
    (IsFirstTakenBack rows node) c.from_residual-in_err-changed.ensures
    (kept_one rows node c.in_ok-decided.decided c.in_ok-decision.decision c.in_ok-decided.ensures
    row (row_read rows c.in_ok-decided.decided row read.0 read.1)
    (sym (ap (λ (r : ClosedRound). r.decision) c.row.view_is) ∙ c.in_ok-decision.was)
    c.in_err-changed.ensures)

pub returns : goal.returns
returns c =
    let rows = c.args.rows.now in
    let row = c.in_ok-row.row.now in
    let read = c.in_ok-row.ensures.lookup in
    taken_back_at rows c.args.node c.in_ok-decided.decided c.in_ok-decision.decision
    c.in_ok-decided.ensures row (row_read rows c.in_ok-decided.decided row read.0 read.1)
    (sym (ap (λ (r : ClosedRound). r.decision) c.row.view_is) ∙ c.in_ok-decision.was)
    c.in_ok-changed.changed c.in_ok-changed.ensures
