use Rattle.std.proofs.Common.{All, subst, sym}
use Rattle.round_meaning.specs.Agreement.{AgreesIn, IsValidIn}
use Rattle.round_meaning.specs.Rounds.{algorithm_of}
use Rattle.step_book.specs.Log.{Recorded}
use Rattle.omission_explainer.specs.Decided.{AreAgreed, AreInputs}
use Rattle.omission_explainer.specs.InRounds.{IsOfRounds, printed_omits}
use Rattle.omission_explainer.specs.Reported.{IsReported}
use Rattle.omission_explainer.proofs.Agreeing.{rows_agree, rows_are_inputs}
use Rattle.omission_explainer.proofs.explaining.explain.Goals as goal

pub returns-clause-agreement : goal.returns-clause-agreement
returns-clause-agreement g c agrees =
    let rows = c.in_ok-rows_of.field-0.items in
    let said = c.in_ok-rows_of.ensures in
    let journal = c.args.journal.now in
    let reported = subst (λ (z : Recorded _). All (IsReported (g.P.Plan.start z.plan) z.log) rows)
    c.book-book.ensures said.reported in
    let rounds =
    subst (λ (z : Recorded _). All
    (IsOfRounds (algorithm_of z.log.program z.log.setup) (printed_omits rows)) rows)
    c.book-book.ensures said.in_rounds in
    subst (λ rs. AgreesIn journal.log.program journal.log.setup (printed_omits rs) → AreAgreed rs)
    (sym c.new.ensures)
    (rows_agree (g.P.Plan.start journal.plan) journal.log rows reported rounds) agrees

pub returns-clause-validity : goal.returns-clause-validity
returns-clause-validity g c valid =
    let rows = c.in_ok-rows_of.field-0.items in
    let said = c.in_ok-rows_of.ensures in
    let journal = c.args.journal.now in
    let reported = subst (λ (z : Recorded _). All (IsReported (g.P.Plan.start z.plan) z.log) rows)
    c.book-book.ensures said.reported in
    let rounds =
    subst (λ (z : Recorded _). All
    (IsOfRounds (algorithm_of z.log.program z.log.setup) (printed_omits rows)) rows)
    c.book-book.ensures said.in_rounds in
    subst (λ rs. IsValidIn journal.log.program journal.log.setup (printed_omits rs)
    → AreInputs journal.log.setup rs) (sym c.new.ensures)
    (rows_are_inputs (g.P.Plan.start journal.plan) journal.log rows reported rounds) valid
