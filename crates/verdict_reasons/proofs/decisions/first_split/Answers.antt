use Rattle.std.proofs.Common.{◌≡◌, ◌∙◌, false, length, None, sym, ap}
use Rattle.std.specs.Prelude.{is_some}
use Rattle.std.proofs.lemmas.Bool.{lt-ltb}
use Rattle.std.proofs.lemmas.Option.{slice_get_within}
use Rattle.omission_explainer.specs.Decided.{AreAgreed}
use Rattle.omission_explainer.specs.Rows.{ClosedRound}
use Rattle.verdict_reasons.specs.Decisions.{IsFirstSplit}
use Rattle.verdict_reasons.specs.Seeking.{IsSought}
use Rattle.verdict_reasons.specs.declared.sought.Sought.TheVariants as sought
use Rattle.verdict_reasons.proofs.Rowed.{agreed_none, agreed_one, on_none, row_is, row_read}
use Rattle.verdict_reasons.proofs.Rowed.{split_at}
use Rattle.verdict_reasons.proofs.decisions.first_split.Goals as goal

pub returns-in_err-first : goal.returns-in_err-first
returns-in_err-first c =
    let rows = c.args.rows.now in
    on_none c.from_residual.result (AreAgreed rows) (IsFirstSplit rows) c.from_residual.ensures
    (agreed_none rows c.in_err-first.ensures)

pub returns-in_err-row : goal.returns-in_err-row
returns-in_err-row c =
    let rows = c.args.rows.now in
    let at = c.in_ok-first.ensures.there in
    let within = slice_get_within rows c.in_ok-first.first at.row at.there in
    let on = lt-ltb c.in_ok-first.first (length rows) within in
    let off = c.in_err-row.ensures.lookup.0 in
    absurd (cc)

pub returns-in_err-decision : goal.returns-in_err-decision
returns-in_err-decision c =
    let rows = c.args.rows.now in
    let row = c.in_ok-row.row.now in
    let read = c.in_ok-row.ensures.lookup in
    let there = row_read rows c.in_ok-first.first row read.0 read.1 in
    let on = row_is rows (IsSought sought.Decision) c.in_ok-first.first row there
    c.in_ok-first.ensures.there in
    let none : row.decision ≡ None = sym (ap (λ (r : ClosedRound). r.decision) c.row.view_is)
    ∙ c.in_err-decision.was in
    let off : is_some row.decision ≡ false = ap is_some none in
    absurd (cc)

pub returns-in_err-other : goal.returns-in_err-other
returns-in_err-other c =
    let rows = c.args.rows.now in
    on_none c.from_residual-in_err-other.result (AreAgreed rows) (IsFirstSplit rows)
    c.from_residual-in_err-other.ensures
    (agreed_one rows c.in_ok-first.first c.in_ok-decision.decision c.in_ok-first.ensures
    c.in_err-other.ensures)

pub returns : goal.returns
returns c =
    let rows = c.args.rows.now in
    let row = c.in_ok-row.row.now in
    let read = c.in_ok-row.ensures.lookup in
    split_at rows c.in_ok-first.first c.in_ok-decision.decision c.in_ok-first.ensures
    c.in_ok-other.other row (row_read rows c.in_ok-first.first row read.0 read.1)
    (sym (ap (λ (r : ClosedRound). r.decision) c.row.view_is) ∙ c.in_ok-decision.was)
    c.in_ok-other.ensures
