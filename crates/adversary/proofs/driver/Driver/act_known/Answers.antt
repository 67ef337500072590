use Rattle.std.proofs.Common.{◌≡◌, ◌∙◌, ◌++◌, All, ap, false, inr, length, subst, sym, take, true}
use Rattle.std.proofs.lemmas.List.{take_all}
use Rattle.adversary.specs.Driving.{IsFaultOf, IsKnown, IsOneMore, IsUnknownPast}
use Rattle.adversary.proofs.ReadRuns.{known_next, run_next, unknown_next}
use Rattle.adversary.proofs.driver.Driver.act_known.Goals as goal

pub loop-stored-preserved : goal.loop-stored-preserved
loop-stored-preserved g c =
    let j = c.self.inside.journal in
    let e = c.stored-item.result in
    let known : IsKnown c.setup.result.now c.event-event.result =
    c.is_known.ensures.0 c.if-not-is_known.false in
    let setup : c.setup.result.now ≡ j.log.setup = c.setup.ensures.value
    ∙ ap (λ b. b.log.setup) c.book.ensures ∙ c.loop-stored.invariant.run.setup in
    record {
      run = run_next j.log.program j.log.setup j.plan c.loop-stored.journal c.act.new.journal
          j.log.trace c.args.events.now c.loop-stored.stored-index e
          c.loop-stored-test.true c.stored-item.is c.in_ok-act.ensures.plan
          (subst (IsOneMore c.loop-stored.journal.log c.act.new.journal.log)
          c.event-event.ensures c.in_ok-act.ensures.log)
          c.loop-stored.invariant.run;
      known = known_next j.log.setup c.args.events.now c.loop-stored.stored-index e
          c.loop-stored-test.true c.stored-item.is
          (subst (IsKnown j.log.setup) c.event-event.ensures
          (subst (λ s. IsKnown s c.event-event.result) setup known))
          c.loop-stored.invariant.known;
      driven = c.in_ok-act.ensures.driven;
    }

pub returns-clause-known : goal.returns-clause-known
returns-clause-known g c =
    subst (λ j. All (IsKnown j.log.setup) c.args.events.now) c.self.view_is
    (subst (All (IsKnown c.self.inside.journal.log.setup))
    (take_all c.loop-stored.stored-index c.args.events.now c.loop-stored-test.false)
    c.loop-stored.invariant.known)

pub returns-then-not-is_known-clause-cause : goal.returns-then-not-is_known-clause-cause
returns-then-not-is_known-clause-cause g c =
    let j = c.self.inside.journal in
    let i = c.loop-stored.stored-index in
    let e = c.stored-item.result in
    let f = c.unknown_at.result in
    let events = c.args.events.now in
    let n = length c.trace.result.now in
    let setup : c.setup.result.now ≡ j.log.setup = c.setup.ensures.value
    ∙ ap (λ b. b.log.setup) c.book.ensures ∙ c.loop-stored.invariant.run.setup in
    let strange : ¬ IsKnown j.log.setup e = λ known.
    let bad : false ≡ true = sym c.if-not-is_known.true
    ∙ c.is_known.ensures.1 (subst (λ s. IsKnown s c.event-event.result) (sym setup)
    (subst (IsKnown j.log.setup) (sym c.event-event.ensures) known)) in
    absurd (cc bad) in
    let counted : n ≡ length (j.log.trace ++ take i events) =
    ap length (c.trace.ensures.value ∙ ap (λ b. b.log.trace) c.book-then-not-is_known.ensures
    ∙ c.loop-stored.invariant.run.trace) in
    inr (subst (λ v. IsUnknownPast v.log.setup (length v.log.trace) events f) c.self.view_is
    (unknown_next j.log.setup j.log.trace events i e f n c.loop-stored-test.true c.stored-item.is
    strange c.loop-stored.invariant.known counted
    (subst (λ x. IsFaultOf x n f) c.event-event.ensures c.unknown_at.ensures)))
