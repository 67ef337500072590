use Rattle.std.proofs.Common.{◌≡◌, ℕ, Bool, refl, subst, sym}
use Rattle.round_lang.specs.Syntax.{ProgramTree}
use Rattle.round_meaning.specs.Agreement.{AgreesIn, IsValidIn}
use Rattle.round_meaning.specs.declared.setup.Setup.{Setup}
use Rattle.step_book.specs.Agreed.{JournalAgrees}
use Rattle.step_book.specs.Log.{Log, mark_in, waiting_in}
use Rattle.node_threads.specs.Ends.{omitted_by}
use Rattle.node_threads.proofs.Ending.{closed_are_due, has_agreed, has_decided_inputs}
use Rattle.node_threads.proofs.run.run_threads.Goals as goal

-- what holds of the omissions of a run holds of them with the record's own program, setup and plan
of_record : {P : Type 0} (Keeps : ProgramTree → Setup → (ℕ → ℕ → ℕ → Bool) → Type 0)
    (start : P → ℕ → ℕ) (log : Log) (p q : ProgramTree) (s z : Setup) (plan own : P)
    → p ≡ q → s ≡ z → plan ≡ own → Keeps p s (omitted_by (start plan) log)
    → Keeps q z (omitted_by (start own) log)
of_record Keeps start log p q s z plan own program setup same keeps =
    subst (λ p. Keeps p z (omitted_by (start own) log)) program
    (subst (λ s. Keeps p s (omitted_by (start own) log)) setup
    (subst (λ plan. Keeps p s (omitted_by (start plan) log)) same keeps))

pub returns-in-Ok-clause-bad_setup : goal.returns-in-Ok-clause-bad_setup
returns-in-Ok-clause-bad_setup g c = (
  λ same. absurd (cc same),
  λ none. absurd
      (none (record {
        lawful = c.if-not-is_lawful.ensures.0 refl;
        nodes = c.if-not-are_stops.ensures.0 refl;
      })),
)

pub returns-in-Ok-clause-closed : goal.returns-in-Ok-clause-closed
returns-in-Ok-clause-closed g c memory =
    let start = g.P.Plan.start in
    let log = c.in-Ok.ended.0.log in
    let plan = c.args.plan in
    let agrees =
    subst (λ (p : g.row.P.Denot). JournalAgrees (start p) log (mark_in (start p) log)
    (waiting_in (start p) log)) c.in-Ok.ensures.run.plan c.in-Ok.ensures.agrees in
    closed_are_due (start plan) log (mark_in (start plan) log)
    (waiting_in (start plan) log) c.args.stops.now c.in-Ok.ended.1.items agrees
    c.in-Ok.ensures.ends memory

pub returns-in-Ok-clause-agreement : goal.returns-in-Ok-clause-agreement
returns-in-Ok-clause-agreement g c agrees =
    let log = c.in-Ok.ended.0.log in
    let start = g.P.Plan.start c.in-Ok.ended.0.plan in
    has_agreed start log (mark_in start log) (waiting_in start log) c.in-Ok.ensures.agrees
    (of_record AgreesIn g.P.Plan.start log c.args.program.now log.program c.args.setup.now log.setup
    c.args.plan c.in-Ok.ended.0.plan (sym c.in-Ok.ensures.run.program)
    (sym c.in-Ok.ensures.run.setup) (sym c.in-Ok.ensures.run.plan) agrees)

pub returns-in-Ok-clause-validity : goal.returns-in-Ok-clause-validity
returns-in-Ok-clause-validity g c valid =
    let log = c.in-Ok.ended.0.log in
    let start = g.P.Plan.start c.in-Ok.ended.0.plan in
    has_decided_inputs start log (mark_in start log) (waiting_in start log) c.in-Ok.ensures.agrees
    (of_record IsValidIn g.P.Plan.start log c.args.program.now log.program c.args.setup.now log.setup
    c.args.plan c.in-Ok.ended.0.plan (sym c.in-Ok.ensures.run.program)
    (sym c.in-Ok.ensures.run.setup) (sym c.in-Ok.ensures.run.plan) valid)
