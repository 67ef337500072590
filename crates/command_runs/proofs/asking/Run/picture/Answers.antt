use Rattle.std.proofs.Common.{◌≡◌, List, Some, inl, inr, ℕ, subst, sym}
use Rattle.std.specs.Prelude.{string_bytes}
use Rattle.std.proofs.lemmas.Result.{IfErr-weaker}
use Rattle.schedule_text.specs.Readers.{HasReadHeader}
use Rattle.command_runs.proofs.Drawn.{draws_run, missing_in, opened_in, undrawn_offer, undrawn_run}
use Rattle.command_runs.proofs.Refusing.{err_then, no_text_of, told_after}
use Rattle.command_runs.proofs.Serving.{ok_then, program_of}
use Rattle.command_runs.proofs.Telling.{held_back, opened_is}
use Rattle.command_runs.proofs.Wholes.{whole_is}
use Rattle.command_runs.proofs.asking.Run.picture.Goals as goal
use Rattle.command_runs.specs.Refused.{IsMissing, IsNotOffered, IsUndrawn, fault_in}
use Rattle.command_runs.specs.Texts.{HoldsWhole}
use Rattle.schedule_text.specs.Texts.{max_text}
use Rattle.schedule_text.specs.declared.kind.Kind.TheVariants as kinds

pub returns-in-Ok-clause-drawn : goal.returns-in-Ok-clause-drawn
returns-in-Ok-clause-drawn g c =
    let run = c.args.self.now in
    let files = g.D.Desk.files c.args.desk.now in
    let file = files run.schedule.now in
    let o = c.in_ok-schedule.schedule in
    let text = string_bytes c.in_ok-text.text in
    let held = whole_is max_text file text
    (subst (λ file. HoldsWhole max_text file text) (c.open.ensures.files run.schedule.now)
    c.in_ok-text.ensures.held) in
    let begun = opened_in file text o.setup o.plan o.reader held
    (subst (λ (t : List ℕ). HasReadHeader t o.setup o.plan o.reader) c.as_str.ensures.value
    c.in_ok-schedule.ensures.opened) in
    let is = program_of run.source files c.in_ok-opened.opened o.setup.nodes o.setup.faults
    c.in-Ok.program c.in_ok-opened.ensures.opened c.in-Ok.ensures.program in
    ok_then c.draw_by.result _ _
    (λ plan t h. draws_run run.source files c.in-Ok.program o.setup o.plan o.reader
    c.args.drawing.now file is begun plan h) c.draw_by.ensures.plan c.draw_by.ensures.drawn

pub returns-in-Ok-clause-refused : goal.returns-in-Ok-clause-refused
returns-in-Ok-clause-refused g c =
    let run = c.args.self.now in
    let files = g.D.Desk.files c.args.desk.now in
    let file = files run.schedule.now in
    let o = c.in_ok-schedule.schedule in
    let text = string_bytes c.in_ok-text.text in
    let held = whole_is max_text file text
    (subst (λ file. HoldsWhole max_text file text) (c.open.ensures.files run.schedule.now)
    c.in_ok-text.ensures.held) in
    let begun = opened_in file text o.setup o.plan o.reader held
    (subst (λ (t : List ℕ). HasReadHeader t o.setup o.plan o.reader) c.as_str.ensures.value
    c.in_ok-schedule.ensures.opened) in
    let is = program_of run.source files c.in_ok-opened.opened o.setup.nodes o.setup.faults
    c.in-Ok.program c.in_ok-opened.ensures.opened c.in-Ok.ensures.program in
    let opened = opened_is run.source files c.in_ok-opened.opened c.in_ok-opened.ensures.opened in
    IfErr-weaker c.draw_by.result _ _
    (λ x h. undrawn_run run.source files c.in-Ok.program o.setup o.plan o.reader
    c.args.drawing.now x file opened is begun h) c.draw_by.ensures.refused

pub returns-clause-refused : goal.returns-clause-refused
returns-clause-refused g c =
    let run = c.args.self.now in
    let files = g.D.Desk.files c.args.desk.now in
    let file = files run.schedule.now in
    let o = c.in_ok-schedule.schedule in
    let n = o.setup.nodes in
    let t = o.setup.faults in
    let text = string_bytes c.in_ok-text.text in
    let held = whole_is max_text file text
    (subst (λ file. HoldsWhole max_text file text) (c.open.ensures.files run.schedule.now)
    c.in_ok-text.ensures.held) in
    let begun = opened_in file text o.setup o.plan o.reader held
    (subst (λ (t : List ℕ). HasReadHeader t o.setup o.plan o.reader) c.as_str.ensures.value
    c.in_ok-schedule.ensures.opened) in
    let opened = opened_is run.source files c.in_ok-opened.opened c.in_ok-opened.ensures.opened in
    let back = held_back run.source files c.in_ok-opened.opened n t c.in-Err.refusal
    c.in_ok-opened.ensures.opened c.in-Err.ensures.refused in
    undrawn_offer run.source files o.setup o.plan o.reader c.args.drawing.now
    c.refusal_after.result file opened begun
    (told_after (λ events x. IsNotOffered run.source n t x) o.setup o.reader c.in-Err.refusal
    c.refusal_after.result (λ events. back) c.refusal_after.ensures)

pub returns-in_err-schedule-clause-refused : goal.returns-in_err-schedule-clause-refused
returns-in_err-schedule-clause-refused g c =
    let run = c.args.self.now in
    let files = g.D.Desk.files c.args.desk.now in
    let file = files run.schedule.now in
    let text = string_bytes c.in_ok-text.text in
    let held = whole_is max_text file text
    (subst (λ file. HoldsWhole max_text file text) (c.open.ensures.files run.schedule.now)
    c.in_ok-text.ensures.held) in
    let opened = opened_is run.source files c.in_ok-opened.opened c.in_ok-opened.ensures.opened in
    let fault = c.in_err-schedule.field-0.0 in
    let missing = subst (λ (t : List ℕ). IsMissing kinds.Schedule (Some t) fault)
    c.as_str.ensures.value c.in_err-schedule.ensures.refused in
    let cause = IsUndrawn run.source files file c.args.drawing.now in
    err_then c.from_residual-in_err-schedule.result (λ r. r ≡ fault) cause
    c.from_residual-in_err-schedule.ensures.1
    (λ r is. subst cause (sym is) (inr (inl (opened, missing_in file text fault held missing))))

pub returns-in_err-text-clause-refused : goal.returns-in_err-text-clause-refused
returns-in_err-text-clause-refused g c =
    let run = c.args.self.now in
    let files = g.D.Desk.files c.args.desk.now in
    let file = files run.schedule.now in
    let opened = opened_is run.source files c.in_ok-opened.opened c.in_ok-opened.ensures.opened in
    let fault = c.in_err-text.field-0.0 in
    let missing = subst (λ file. IsMissing kinds.Schedule file fault)
    (c.open.ensures.files run.schedule.now)
    (no_text_of (fault_in kinds.Schedule) _ fault c.in_err-text.ensures.refused) in
    let cause = IsUndrawn run.source files file c.args.drawing.now in
    err_then c.from_residual-in_err-text.result (λ r. r ≡ fault) cause
    c.from_residual-in_err-text.ensures.1
    (λ r is. subst cause (sym is) (inr (inl (opened, missing))))
