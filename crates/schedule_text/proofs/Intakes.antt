-- What a text's last bytes say.
use Rattle.std.proofs.Common.{◌≡◌, ℕ, ◌≤◌, List, [], ◌++◌, length, take, Option, None, Some, Ok}
use Rattle.std.proofs.Common.{Err, IsUtf8, refl, sym, ap, ◌∙◌, take_all}
use Rattle.std.proofs.lemmas.List.{append-nil}
use Rattle.std.specs.Str.Lines.{lines}
use Rattle.schedule_text.specs.Intakes.{EndsIntake, header_at, said, says}
use Rattle.schedule_text.specs.Outcome.{state_of}
use Rattle.schedule_text.specs.Readings.{Answer}
use Rattle.schedule_text.specs.Stages.{answer_at_end, from_line, setup_in}
use Rattle.schedule_text.specs.declared.draft.Draft.{Draft}
use Rattle.schedule_text.specs.declared.draft.Sizes.{Sizes}
use Rattle.schedule_text.specs.declared.draft.Stage.{Stage}
use Rattle.schedule_text.specs.declared.draft.Stage.TheVariants.{Start, Nodes, Faults, Inputs}
use Rattle.schedule_text.specs.declared.draft.Stage.TheVariants.{Rounds, Whole, Paced}
use Rattle.schedule_text.specs.declared.fault.ScheduleFault.{ScheduleFault}
use Rattle.schedule_text.specs.declared.fault.ScheduleFault.TheVariants as schedule
use Rattle.schedule_text.specs.declared.intake.Intake.{Intake}
use Rattle.schedule_text.specs.declared.kind.Kind.TheVariants.{Schedule as schedules}
use Rattle.schedule_text.specs.declared.source.TextFault.TheVariants as fault
use Rattle.run_events.specs.declared.plan_kind.PlanKind.{PlanKind}

-- all bytes are read
pub said_all : (i j : Intake) (n : ℕ) → length i.bytes.items ≤ n
    → ((behind : List (List ℕ)) → said i (lines (take n i.bytes.items) ++ behind) ≡ said j behind)
    → said i (lines i.bytes.items) ≡ said j []
said_all i j n all h =
    ap (λ b. said i (lines b)) (sym (take_all n i.bytes.items all))
    ∙ ap (λ ls. said i ls) (sym (append-nil (lines (take n i.bytes.items)))) ∙ h []

-- no line is at fault
pub said_last : (j : Intake) → j.fault ≡ None
    → said j [] ≡ answer_at_end schedules j.reader.number j.reader.draft.stage
    (state_of j.reader.draft)
unfolding from_line
said_last j none = ap (λ f. says j.reader f []) none

-- the header is whole at the end
pub ends_whole : (bytes : List ℕ) (answer : Answer) (d : Draft) (k : ℕ) (z : Sizes)
    (p : PlanKind)
    → IsUtf8 bytes → d.stage ≡ Whole z p
    → answer ≡ answer_at_end schedules k d.stage (state_of d) → EndsIntake (Ok tt) bytes answer d
ends_whole bytes answer d k z p u whole is = (
  u,
  (
    (setup_in z d.inputs.items, p),
    ap (λ g. header_at g d.inputs.items) whole,
    is ∙ ap (λ g. answer_at_end schedules k g (state_of d)) whole,
  ),
)

-- a line is at fault
pub ends_at : (bytes : List ℕ) (answer : Answer) (d : Draft) (e : ScheduleFault) → IsUtf8 bytes
    → answer ≡ Err e → EndsIntake (Err (fault.Schedule e)) bytes answer d
ends_at bytes answer d (schedule.BadLine n) u is = (u, is)
ends_at bytes answer d (schedule.NumberTooLarge n) u is = (u, is)
ends_at bytes answer d schedule.TooLong u is = (u, is)
ends_at bytes answer d schedule.NoMemory u is = tt

pub no_fault : (f : Option ScheduleFault) → ((e : ScheduleFault) → f ≡ Some e → ⊥) → f ≡ None
no_fault None h = refl
no_fault (Some e) h = absurd (h e refl)

-- the header isn't whole at the end
pub ends_short : (d : Draft) (k : ℕ) → ((z : Sizes) (p : PlanKind) → d.stage ≡ Whole z p → ⊥)
    → answer_at_end schedules k d.stage (state_of d) ≡ Err (schedule.BadLine k)
ends_short d k h = go d.stage h
  where
    go : (g : Stage) → ((z : Sizes) (p : PlanKind) → g ≡ Whole z p → ⊥)
        → answer_at_end schedules k g (state_of d) ≡ Err (schedule.BadLine k)
    go Start h = refl
    go (Nodes n) h = refl
    go (Faults n t) h = refl
    go (Inputs n t) h = refl
    go (Rounds z) h = refl
    go (Whole z p) h = absurd (h z p refl)
    go (Paced z p x) h = refl
