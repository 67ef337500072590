use Rattle.std.proofs.Common.{[], IsUtf8, ap, arith, subst, ◌∙◌}
use Rattle.std.specs.Str.Lines.{lines}
use Rattle.schedule_text.specs.Intakes.{said, says}
use Rattle.schedule_text.specs.declared.fault.ScheduleFault.TheVariants as schedule
use Rattle.schedule_text.proofs.Intakes.{ends_at, ends_short, ends_whole, no_fault, said_all}
use Rattle.schedule_text.proofs.Intakes.{said_last}
use Rattle.schedule_text.proofs.intake.Intake.finish.Goals as goal

pub returns-in-Some : goal.returns-in-Some
returns-in-Some c =
    let i = c.args.self.now in
    let j = c.read.new.self in
    let u = subst IsUtf8 c.deref.ensures.value (c.is_utf8.ensures.0 c.if-not-is_utf8.false) in
    ends_at i.bytes.items (said i (lines i.bytes.items)) j.reader.draft c.in-Some.fault u
    (said_all i j c.len-count.result (omega (arith, c.len-count.ensures))
    c.in_ok-read.ensures.said ∙ ap (λ f. says j.reader f []) c.in-Some.is)

pub returns-in-Whole : goal.returns-in-Whole
returns-in-Whole c =
    let i = c.args.self.now in
    let j = c.read.new.self in
    let u = subst IsUtf8 c.deref.ensures.value (c.is_utf8.ensures.0 c.if-not-is_utf8.false) in
    ends_whole i.bytes.items (said i (lines i.bytes.items)) j.reader.draft j.reader.number
    c.in-Whole.field-0 c.in-Whole.field-1 u c.in-Whole.is
    (said_all i j c.len-count.result (omega (arith, c.len-count.ensures)) c.in_ok-read.ensures.said
    ∙ said_last j (no_fault j.fault c.in_default.not-Some))

pub returns-in_default-stage : goal.returns-in_default-stage
returns-in_default-stage c =
    let i = c.args.self.now in
    let j = c.read.new.self in
    let u = subst IsUtf8 c.deref.ensures.value (c.is_utf8.ensures.0 c.if-not-is_utf8.false) in
    ends_at i.bytes.items (said i (lines i.bytes.items)) j.reader.draft
    (schedule.BadLine j.reader.number) u
    (said_all i j c.len-count.result (omega (arith, c.len-count.ensures)) c.in_ok-read.ensures.said
    ∙ said_last j (no_fault j.fault c.in_default.not-Some)
    ∙ ends_short j.reader.draft j.reader.number c.in_default-stage.not-Whole)
