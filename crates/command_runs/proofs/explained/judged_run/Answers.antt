use Rattle.std.proofs.Common.{◌<◌, All, refl, subst}
use Rattle.std.specs.Prelude.{◌↔◌, IfSome, IsTrue}
use Rattle.adversary.specs.Driving.{ClosedAreDue}
use Rattle.omission_explainer.specs.Verdict.{HearsFrom, IsDelayBound}
use Rattle.slot_plans.specs.Plan.{IsClearRound}
use Rattle.step_book.specs.Agreed.{JournalAgrees}
use Rattle.step_book.specs.Log.{mark_in, waiting_in}
use Rattle.adversary.proofs.ReadRuns.{unfit}
use Rattle.command_runs.proofs.Refusing.{fits_as, no_nodes}
use Rattle.command_runs.proofs.explained.judged_run.Goals as goal
use Rattle.round_meaning.specs.Setups.{IsLawful}
use Rattle.step_book.proofs.Closing.{err_given}

pub returns-clause-judged : goal.returns-clause-judged
returns-clause-judged g c =
    let run = c.in_ok-journal.journal.log in
    let ran = c.in_ok-journal.ensures in
    let said = c.judge-verdict.ensures in
    let v = c.judge-verdict.result in
    let terms = c.args.terms in
    let correct = c.in-Some.correct.bits in record {
      run = run;
      program = ran.program;
      setup = ran.setup;
      trace = refl;
      agrees = subst
          (λ p. JournalAgrees (g.P.Plan.start p) run (mark_in (g.P.Plan.start p) run)
          (waiting_in (g.P.Plan.start p) run)) ran.plan c.agrees.ensures;
      closed = subst (λ p. ClosedAreDue (g.P.Plan.start p) run) ran.plan ran.closed;
      correct = correct;
      listed = c.in-Some.ensures.some;
      lockstep = said.lockstep;
      bound = subst
          (λ p. IsTrue v.bound ↔ IsDelayBound (g.P.Plan.start p) run correct terms.delta terms.gst)
          ran.plan said.bound;
      clear = subst
          (λ p. IsClearRound (g.P.Plan.receives p) (g.P.Plan.start p) terms.delta terms.gst v.clear)
          ran.plan said.clear;
      hears = subst (λ p. IsTrue v.lockstep → IsTrue v.bound
          → IfSome v.clear (HearsFrom (g.P.Plan.start p) run correct)) ran.plan said.hears;
    }

pub returns-in_default-clause-cause : goal.returns-in_default-clause-cause
returns-in_default-clause-cause g c =
    let s = c.args.setup.now in
    let list = c.args.terms.correct.now in
    unfit (IsLawful c.args.program.now.values s × All (λ n. n < s.nodes) list) s c.args.reader
    c.refused_after.result
    (no_nodes c.args.program.now.values s list c.in_default.ensures.none) c.refused_after.ensures

pub returns-in_err-journal-clause-cause : goal.returns-in_err-journal-clause-cause
returns-in_err-journal-clause-cause g c =
    let s = c.args.setup.now in
    let list = c.args.terms.correct.now in
    let lawful = IsLawful c.args.program.now.values s in
    let fault = c.in_err-journal.field-0.0 in
    err_given c.from_residual.result fault _ c.from_residual.ensures.1
    (fits_as lawful (lawful × All (λ n. n < s.nodes) list) s c.args.reader fault
    (λ fits. (fits, c.in-Some.ensures.each)) (λ both. both.0) c.in_err-journal.ensures.cause)
