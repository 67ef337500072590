use Rattle.std.proofs.Common.{◌≡◌, ◌∙◌, ◌-◌, ap, arith, refl, subst, sym}
use Rattle.std.specs.Prelude.{string_bytes}
use Rattle.command_runs.proofs.Changed.{not_fit}
use Rattle.command_runs.proofs.IdleTexts.{idle_written}
use Rattle.command_runs.proofs.Refusing.{err_then}
use Rattle.command_runs.proofs.Unmade.{no_run}
use Rattle.command_runs.proofs.lockstep.lockstep_schedule.Goals as goal
use Rattle.command_runs.specs.InChanges.{terms_of}
use Rattle.command_runs.specs.InLockstep.{LockstepCause}
use Rattle.lockstep_runs.specs.Changes.{timing_by}
use Rattle.lockstep_runs.specs.IdleTicks.{IsWholeRun, followed, idle_steps}
use Rattle.lockstep_runs.specs.Lockstep.{IsChangedRun}
use Rattle.round_meaning.specs.Setups.{IsLawful}
use Rattle.schedule_text.specs.Texts.{Says}
use Rattle.schedule_text.specs.Writing.{text_of}
use Rattle.step_book.specs.Log.{Recorded, history, world_of}

pub returns-in_err-journal-clause-cause : goal.returns-in_err-journal-clause-cause
returns-in_err-journal-clause-cause g c =
    let start = g.P.Plan.start c.args.plan in
    let p = c.args.program.now in
    let s = c.args.setup.now in
    let ls = c.args.omissions.now in
    let t = terms_of c.args.pacing in
    let f = c.in_err-journal.field-0.0 in
    let ran = c.in_err-journal.ensures in
    let correct = c.in-Some.correct.bits in
    let changes = c.in_ok-changes.changes in
    let lawful : IsLawful p.values s = c.if-not-is_lawful.ensures.0 refl in
    let none = no_run _ _ start p s ls t f ran.bad_setup ran.cause
    (not_fit start p s ls t correct changes lawful c.in-Some.ensures.some
    c.in_ok-changes.ensures) in
    err_then c.from_residual-in_err-journal.result (λ r. r ≡ f) (LockstepCause start p s ls t)
    c.from_residual-in_err-journal.ensures.1
    (λ r is. subst (LockstepCause start p s ls t) (sym is) none)

pub returns-clause-made : goal.returns-clause-made
returns-clause-made g c =
    let start = g.P.Plan.start in
    let s = c.args.setup.now in
    let k = c.args.kind in
    let b = c.args.pacing.bounded.now in
    let journal = c.in_ok-journal.journal in
    let ran = c.in_ok-journal.ensures in
    let changes = c.in_ok-changes.changes in
    let correct = c.in-Some.correct.bits in
    let first = c.in_ok-journal.first in
    let after = c.ticks_of-after.result in
    let timing = timing_by b changes correct in
    let run = followed journal.log (idle_steps timing s.nodes first (after - first)) in
    let lawful : IsLawful c.args.program.now.values s = c.if-not-is_lawful.ensures.0 refl in
    let same = c.trace.ensures.value ∙ ap (λ (x : Recorded _). x.log.trace) c.book.ensures in
    let inputs = lawful.sized.inputs in
    let nodes = lawful.sized.some_node in
    let whole : IsWholeRun (start c.args.plan) (g.P.Plan.receives c.args.plan) b changes correct
    after run =
    subst (λ p. IsWholeRun (start p) (g.P.Plan.receives p) b changes correct after run) ran.plan
    ran.whole in
    record {
      events = run.trace;
      trace = record {
        run = run;
        program = ran.program;
        setup = ran.setup;
        trace = refl;
        agrees = whole.agrees;
        closed = whole.closed;
        correct = correct;
        listed = c.in-Some.ensures.some;
        changes = changes;
        changed = c.in_ok-changes.ensures;
        keys = subst
            (λ n. IsChangedRun (world_of (start c.args.plan) run) b changes correct n (history run))
            c.ticks_of-after.ensures whole.run;
        lockstep = whole.paced;
        bound = whole.bound;
      };
      written = idle_written s k journal.log.trace timing first (after - first)
          (string_bytes c.in_ok-text.text) lawful.sized
          (c.in_ok-text.ensures.spelled ∙ ap (text_of s k) same)
          (λ short. subst (λ es. Says (string_bytes c.in_ok-text.text) s k es) same
          (c.in_ok-text.ensures.read_back (omega (arith, inputs, nodes)) short));
    }
