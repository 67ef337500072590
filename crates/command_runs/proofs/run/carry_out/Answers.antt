use Rattle.std.proofs.Common.{◌≡◌, List, Option, refl, subst, sym, ℕ}
use Rattle.std.specs.Prelude.{IfOk}
use Rattle.std.proofs.lemmas.Result.{IfErr-weaker}
use Rattle.command_words.specs.declared.words.Words.{Words}
use Rattle.command_runs.proofs.Serving.{ended_as}
use Rattle.command_runs.proofs.Telling.{judge_refused, judge_served, run_refused, run_served}
use Rattle.command_runs.proofs.Together.{together_refused}
use Rattle.command_runs.proofs.Unmade.{lockstep_refused}
use Rattle.command_runs.specs.InChanges.{Terms}
use Rattle.command_words.specs.declared.changes.NodeStop.{NodeStop}
use Rattle.command_words.specs.declared.changes.OwnDelay.{OwnDelay}
use Rattle.command_runs.proofs.run.carry_out.Goals as goal
use Rattle.command_runs.specs.Refused.{IsRefusedCommand, IsRefusedTogether}
use Rattle.command_runs.specs.Served.{Ends}
use Rattle.command_runs.specs.declared.outcome.Outcome.TheVariants.{Done}

pub returns-in-Run-clause-served : goal.returns-in-Run-clause-served
returns-in-Run-clause-served g c =
    let files = g.D.Desk.files c.args.desk.now in
    let after = g.D.Desk.files c.answer.new.desk in
    let out = g.O.Write.contents in
    let old = out c.args.out.now in
    let new = out c.answer.new.out in
    let w = c.in-Run in
    subst (λ (w : Words). IfOk c.answer.result (λ o. Ends w files after o old new)) (sym w.is)
    (ended_as c.answer.result Done c.answer.ensures.done c.answer.ensures.served
    (run_served w.source files after w.schedule w.form old new))

pub returns-in-Judge-clause-served : goal.returns-in-Judge-clause-served
returns-in-Judge-clause-served g c =
    let files = g.D.Desk.files c.args.desk.now in
    let after = g.D.Desk.files c.answer-in-Judge.new.desk in
    let out = g.O.Write.contents in
    let old = out c.args.out.now in
    let new = out c.answer-in-Judge.new.out in
    let w = c.in-Judge in
    subst (λ (w : Words). IfOk c.answer-in-Judge.result (λ o. Ends w files after o old new))
    (sym w.is)
    (ended_as c.answer-in-Judge.result Done c.answer-in-Judge.ensures.done
    c.answer-in-Judge.ensures.served
    (judge_served w.source files w.schedule w.correct w.delta w.gst w.format c.deref.result
    c.deref.ensures.value after old new))

pub returns-in-Run-clause-refused : goal.returns-in-Run-clause-refused
returns-in-Run-clause-refused g c =
    let files = g.D.Desk.files c.args.desk.now in
    let w = c.in-Run in
    IfErr-weaker c.answer.result _ _
    (λ r h. subst (λ (w : Words). IsRefusedCommand w files r) (sym c.in-Run.is)
    (run_refused w.source files w.schedule w.form r h))
    c.answer.ensures.refused

pub returns-in-Judge-clause-refused : goal.returns-in-Judge-clause-refused
returns-in-Judge-clause-refused g c =
    let files = g.D.Desk.files c.args.desk.now in
    let w = c.in-Judge in
    IfErr-weaker c.answer-in-Judge.result _ _
    (λ r h. subst (λ (w : Words). IsRefusedCommand w files r) (sym c.in-Judge.is)
    (judge_refused w.source files w.schedule w.correct w.delta w.gst w.format c.deref.result
    c.deref.ensures.value r h))
    c.answer-in-Judge.ensures.refused

abbrev terms_of_words : List ℕ → (delta gst : ℕ) → (delays orders : List ℕ) → Option ℕ
    → List NodeStop → List OwnDelay → Terms
terms_of_words correct delta gst delays orders ticks stops own = record {
  correct = correct;
  bounded = record { delta = delta; gst = gst; delays = delays; orders = orders };
  ticks = ticks;
  stops = stops;
  delays = own;
}

-- the terms that are handed on are those of the words
same_terms : (correct correct' : List ℕ) (delta gst : ℕ) (delays delays' orders orders' : List ℕ)
    (ticks : Option ℕ) (stops stops' : List NodeStop) (own own' : List OwnDelay)
    → correct ≡ correct' → delays ≡ delays' → orders ≡ orders' → stops ≡ stops' → own ≡ own'
    → terms_of_words correct delta gst delays orders ticks stops own
    ≡ terms_of_words correct' delta gst delays' orders' ticks stops' own'
same_terms correct correct' delta gst delays delays' orders orders' ticks stops stops' own own'
    a b c d e = rw (a, b, c, d, e) refl

pub returns-in-Lockstep-clause-refused : goal.returns-in-Lockstep-clause-refused
returns-in-Lockstep-clause-refused g c =
    let files = g.D.Desk.files c.args.desk.now in
    let w = c.in-Lockstep in
    IfErr-weaker c.pace.result _ _
    (λ r h. subst (λ (w : Words). IsRefusedCommand w files r) (sym c.in-Lockstep.is)
    (lockstep_refused w.source files w.header w.correct w.delta w.gst w.delays w.orders w.ticks
    w.changes _
    (same_terms _ _ w.delta w.gst _ _ _ _ w.ticks _ _ _ _ c.deref-in-Lockstep.ensures.value
    c.new.ensures c.new-in-Lockstep.ensures c.deref-in-Lockstep-2.ensures.value
    c.deref-in-Lockstep-3.ensures.value) r h))
    c.pace.ensures.refused

pub returns-in-Together-clause-refused : goal.returns-in-Together-clause-refused
returns-in-Together-clause-refused g c =
    let files = g.D.Desk.files c.args.desk.now in
    let names = c.in-Together.files in
    IfErr-weaker c.put_together.result _ _
    (λ r h. subst (λ (w : Words). IsRefusedCommand w files r) (sym c.in-Together.is)
    (together_refused files names r
    (subst (λ list. IsRefusedTogether files list r) c.as_slice.ensures.value h)))
    c.put_together.ensures.refused
