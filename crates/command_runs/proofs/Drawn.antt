-- From the run of a schedule to its picture, and to why there is none.
use Rattle.std.proofs.Common.{◌≡◌, inl, inr, ℕ, List, Option, None, Some, refl}
use Rattle.std.proofs.Common.{Err, Ok, Result, subst, sym}
use Rattle.std.specs.Borrow.{Bor}
use Rattle.std.specs.Prelude.{IfOk, IfSome}
use Rattle.adversary.specs.Reading.{IsNotRead, IsScheduleOf}
use Rattle.adversary.specs.declared.fault.ReadFault.{ReadFault}
use Rattle.adversary.specs.declared.fault.ReadFault.TheVariants as read
use Rattle.adversary.specs.declared.fault.RunFault.TheVariants as run
use Rattle.command_runs.proofs.Refusing.{bad_schedule, read_as}
use Rattle.command_runs.proofs.Telling.{last_nodes, last_write, not_in_turn}
use Rattle.command_runs.specs.Refused.{IsDrawable, IsMissing, IsNotDrawn, IsNotOffered}
use Rattle.command_runs.specs.Refused.{IsOpened, IsRefusedCommand}
use Rattle.command_runs.specs.Refused.{IsUndrawn, of_read}
use Rattle.command_runs.specs.Served.{DrawsRun, IsProgramOf, IsShownOf}
use Rattle.command_runs.specs.Stages.{IsDrawnAs, StopsSchedule}
use Rattle.command_runs.specs.Texts.{Files}
use Rattle.command_runs.specs.declared.refusal.Refusal.{Refusal}
use Rattle.command_runs.specs.declared.refusal.Refusal.TheVariants as refusal
use Rattle.command_words.specs.declared.drawing.Drawing.{Drawing}
use Rattle.command_words.specs.declared.values.Source.{Source}
use Rattle.command_words.specs.declared.words.Words.TheVariants as words
use Rattle.round_lang.specs.Syntax.{ProgramTree}
use Rattle.round_meaning.specs.Setups.{IsLawful}
use Rattle.round_meaning.specs.declared.setup.Setup.{Setup}
use Rattle.schedule_text.specs.Readers.{HasReadHeader, Reading}
use Rattle.schedule_text.specs.declared.fault.ScheduleFault.TheVariants as schedule
use Rattle.schedule_text.specs.declared.kind.Kind.TheVariants as kinds
use Rattle.schedule_text.specs.declared.source.TextFault.TheVariants as fault
use Rattle.slot_plans.specs.Plan.{IsNodeCount}
use Rattle.run_events.specs.declared.plan_kind.PlanKind.{PlanKind}
use Rattle.run_events.specs.declared.event.Event.{Event}
use Rattle.slot_plans.specs.Named.{IsPlan, start_of}

-- the text that was opened is the file's
pub opened_in : (file : Option (List ℕ)) (text : List ℕ) (s : Setup) (k : PlanKind) (r : Reading)
    → IfSome file (λ held. text ≡ held) → HasReadHeader text s k r
    → IfSome file (λ held. HasReadHeader held s k r)
opened_in None text s k r same is = tt
opened_in (Some held) text s k r same is = subst (λ (t : List ℕ). HasReadHeader t s k r) same is

-- and what isn't there isn't in the file
nowhere : (text : List ℕ) (r : Refusal) → IsMissing kinds.Schedule (Some text) r
    → IsMissing kinds.Schedule None r
nowhere text refusal.File h = tt
nowhere text (refusal.Schedule f) h = tt
nowhere text refusal.NoMemory h = tt
nowhere text r h = absurd h

pub missing_in : (file : Option (List ℕ)) (text : List ℕ) (r : Refusal)
    → IfSome file (λ held. text ≡ held) → IsMissing kinds.Schedule (Some text) r
    → IsMissing kinds.Schedule file r
missing_in None text r same h = nowhere text r h
missing_in (Some held) text r same h =
    subst (λ (t : List ℕ). IsMissing kinds.Schedule (Some t) r) same h

-- what a run that would be drawn refuses, under a plan within its limits
module _ (p : ProgramTree) (s : Setup) (k : PlanKind) (r : Reading) (d : Drawing) (plan : IsPlan k)
    (shown : IsShownOf s d) where
  drawable : IsLawful p.values s → IsDrawable p s k d
  drawable lawful = record { setup = lawful; plan = plan; shown = shown }

  pub undrawn_read : (f : ReadFault) → IsNotRead (IsLawful p.values s) s r f
      → StopsSchedule (λ events x. IsNotDrawn p s k events d x) s r (of_read f)
  undrawn_read (read.Text e) none = inl (e, refl, none)
  undrawn_read (read.Run run.NoMemory) none =
      inl (fault.Schedule schedule.NoMemory, refl, λ held k begun. tt)
  undrawn_read (read.Run run.BadSetup) none = inr (none.0, none.2, λ is. none.1 is.setup)
  undrawn_read (read.Run (run.UnknownNode n)) none =
      inr (none.0, none.2, (λ bad. bad (drawable none.1.0), none.1.1))
  undrawn_read (read.Run (run.UnknownMessage n)) none =
      inr (none.0, none.2, (λ bad. bad (drawable none.1.0), none.1.1))
  undrawn_read (read.Run run.NoThread) none = absurd none.1.1
  undrawn_read (read.Run run.Unmatched) none = absurd none.1.1

  -- a run that was made isn't drawn for want of memory
  pub undrawn_report : (x : Refusal) → ((events : List Event) × IsScheduleOf s r events)
      → x ≡ refusal.NoMemory → StopsSchedule (λ events y. IsNotDrawn p s k events d y) s r x
  undrawn_report x ran same =
      inr (ran.0, ran.1, subst (λ (y : Refusal). IsNotDrawn p s k ran.0 d y) (sym same) tt)

-- what holds whatever the answer is
pub drawn_always : {T E P : Type 0} (r : Result T E) → P → IfOk r (λ _. P)
drawn_always (Ok x) h = h
drawn_always (Err e) h = tt

-- if there is no plan, the setup is bad
pub no_picture : (p : ProgramTree) (s : Setup) (k : PlanKind) (d : Drawing)
    → ¬ (IsNodeCount s.nodes × IsPlan k) → ¬ (IsDrawable p s k d)
no_picture p s k d none is =
    none ((is.setup.sized.some_node, is.setup.sized.few_nodes), is.plan)

-- the run of a schedule that is read is that of its file
pub draws_run : (source : Source) (files : Files) (p : ProgramTree) (s : Setup) (k : PlanKind)
    (r : Reading) (d : Drawing) (file : Option (List ℕ))
    → IsProgramOf source files s.nodes s.faults p → IfSome file (λ held. HasReadHeader held s k r)
    → IsPlan k → IsDrawnAs (start_of k s.nodes) p s r d → DrawsRun source files file d
draws_run source files p s k r d None is begun plan said = tt
draws_run source files p s k r d (Some held) is begun plan said = (
  s,
  k,
  said.0,
  p,
  said.1,
  read_as (Some held) s k r said.0 begun said.2,
  is,
  said.3,
  plan,
  said.4,
  said.5,
)

-- under a plan that is told in another way
pub drawn_as : (start starts : ℕ → ℕ) (p : ProgramTree) (s : Setup) (r : Reading) (d : Drawing)
    → start ≡ starts → IsDrawnAs start p s r d → IsDrawnAs starts p s r d
drawn_as start starts p s r d same h =
    subst (λ (f : ℕ → ℕ). IsDrawnAs f p s r d) same h

-- why a source's run isn't drawn, from why nothing comes of its schedule: the run is refused,
pub undrawn_run : (source : Source) (files : Files) (p : ProgramTree) (s : Setup) (k : PlanKind)
    (r : Reading) (d : Drawing) (x : Refusal) (file : Option (List ℕ))
    → IsOpened source files → IsProgramOf source files s.nodes s.faults p
    → IfSome file (λ held. HasReadHeader held s k r)
    → StopsSchedule (λ events y. IsNotDrawn p s k events d y) s r x
    → IsUndrawn source files file d x
undrawn_run source files p s k r d x file opened is begun (inl bad) =
    inr (inl (opened, bad_schedule file s k r x begun bad))
undrawn_run source files p s k r d x file opened is begun (inr h) =
    inr (inr (opened, (s, k, h.0, read_as file s k r h.0 begun h.1, inr (p, is, h.2))))

-- or the library has no program for it
pub undrawn_offer : (source : Source) (files : Files) (s : Setup) (k : PlanKind)
    (r : Reading) (d : Drawing) (x : Refusal) (file : Option (List ℕ))
    → IsOpened source files → IfSome file (λ held. HasReadHeader held s k r)
    → StopsSchedule (λ events y. IsNotOffered source s.nodes s.faults y) s r x
    → IsUndrawn source files file d x
undrawn_offer source files s k r d x file opened begun (inl bad) =
    inr (inl (opened, bad_schedule file s k r x begun bad))
undrawn_offer source files s k r d x file opened begun (inr h) =
    inr (inr (opened, (s, k, h.0, read_as file s k r h.0 begun h.1, inl h.2)))

-- and the command is refused so
module _ (source : Source) (files : Files) (schedule : Bor (List ℕ)) (d : Drawing) where
  pub draw_refused : (r : Refusal) → IsUndrawn source files (files schedule.now) d r
      → IsRefusedCommand (words.Draw source schedule d) files r
  draw_refused refusal.Write h =
      absurd (not_in_turn kinds.Schedule (λ p s k events r. IsNotDrawn p s k events d r) source
      files (files schedule.now) refusal.Write last_write (λ p s k events none. none) h)
  draw_refused refusal.NodeNoMemory h =
      absurd (not_in_turn kinds.Schedule (λ p s k events r. IsNotDrawn p s k events d r) source
      files (files schedule.now) refusal.NodeNoMemory last_nodes (λ p s k events none. none) h)
  draw_refused (refusal.Words f) h = h
  draw_refused refusal.File h = h
  draw_refused (refusal.Source f) h = h
  draw_refused (refusal.Check f) h = h
  draw_refused (refusal.Condition f) h = h
  draw_refused (refusal.Schedule f) h = h
  draw_refused (refusal.Library f) h = h
  draw_refused refusal.NoSuchProgram h = h
  draw_refused (refusal.Run f) h = h
  draw_refused (refusal.Part cause) h = h
  draw_refused (refusal.Trace f) h = h
  draw_refused refusal.NoVariable h = h
  draw_refused refusal.NoMemory h = h
