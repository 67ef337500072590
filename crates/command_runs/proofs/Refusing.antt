-- From what each layer refuses to the causes of a command's refusal.
use Rattle.std.proofs.Common.{◌≡◌, ◌≢◌, ◌⊎◌, inl, inr, ℕ, ◌<◌, ◌≤◌, All, List, [], Option}
use Rattle.std.proofs.Common.{Some, None, Result, Ok, Err, length, refl, sym, ap, ◌∙◌, subst}
use Rattle.std.proofs.Common.{arith}
use Rattle.std.specs.Prelude.{◌++◌, IfErr, IfSome, IsErrAnd, true}
use Rattle.adversary.specs.Reading.{IsNotRead, IsScheduleOf}
use Rattle.adversary.specs.declared.fault.ReadFault.{ReadFault}
use Rattle.adversary.specs.declared.fault.ReadFault.TheVariants as read
use Rattle.adversary.specs.declared.fault.RunFault.TheVariants as run
use Rattle.command_runs.specs.Refused.{Fault, HasNoText, IsBadText, IsMissing, IsNoProgram}
use Rattle.command_runs.specs.Refused.{IsNoSource, no_fault}
use Rattle.command_runs.specs.Refused.{IsNotOffered, IsOpened, IsUnanswered}
use Rattle.command_runs.specs.Refused.{IsNotRun, IsRunnable, of_check, of_read, of_schedule}
use Rattle.command_runs.specs.Refused.{of_source, of_text}
use Rattle.command_runs.specs.Served.{IsCheckedSource, IsOfKind, IsOmissionText, IsProgramOf}
use Rattle.command_runs.specs.Served.{IsSchedule}
use Rattle.omission_texts.specs.Texts.{Says as SaysOmissions}
use Rattle.omission_texts.specs.declared.line.OmissionLine.{OmissionLine}
use Rattle.command_runs.specs.Stages.{IsBadSchedule, IsNoProgramOf, IsNoReadOf}
use Rattle.command_runs.specs.Stages.{IsToldAfter, IsUnread, StopsSchedule}
use Rattle.command_runs.specs.Texts.{Files, HoldsWhole}
use Rattle.command_runs.specs.Unshown.{HasNoSource}
use Rattle.command_runs.specs.declared.refusal.Refusal.{Refusal}
use Rattle.command_runs.specs.declared.refusal.Refusal.TheVariants as refusal
use Rattle.command_words.specs.declared.values.Source.{Source}
use Rattle.round_check.proofs.Facts.{typed-none}
use Rattle.round_check.specs.Causes.{fault_of, is_typed}
use Rattle.round_check.specs.declared.fault.CheckFault.{CheckFault}
use Rattle.round_check.specs.declared.fault.CheckFault.TheVariants as check
use Rattle.round_lang.specs.Limits.{max_text}
use Rattle.round_lang.specs.Source.{IsSource}
use Rattle.round_lang.specs.Syntax.{ProgramTree}
use Rattle.round_lang.specs.declared.fault.LangFault.{LangFault}
use Rattle.round_lang.specs.declared.fault.LangFault.TheVariants as lang
use Rattle.run_events.specs.Limits.{max_nodes}
use Rattle.round_meaning.specs.Setups.{IsLawful}
use Rattle.round_meaning.specs.declared.setup.Setup.{Setup}
use Rattle.schedule_text.specs.Bytes.{IsLongText, IsNoText, IsText}
use Rattle.schedule_text.specs.Outcome.{IsReadOf}
use Rattle.schedule_text.specs.Readings.{IsReadingOf, ReadOf}
use Rattle.schedule_text.specs.Texts.{SaysOf, Tail, max_text as max_schedule}
use Rattle.schedule_text.specs.Readers.{HasReadHeader, Reading, last_events}
use Rattle.schedule_text.specs.Sources.{IsNoSchedule}
use Rattle.schedule_text.specs.declared.kind.Kind.{Kind}
use Rattle.schedule_text.specs.declared.kind.Kind.TheVariants.{Schedule as schedules}
use Rattle.schedule_text.specs.declared.source.TextFault.{TextFault}
use Rattle.schedule_text.specs.declared.source.TextFault.TheVariants as fault
use Rattle.schedule_text.specs.declared.fault.ScheduleFault.{ScheduleFault}
use Rattle.schedule_text.specs.declared.fault.ScheduleFault.TheVariants as schedule
use Rattle.slot_plans.specs.Plan.{IsNodeCount}
use Rattle.run_events.specs.declared.plan_kind.PlanKind.{PlanKind}
use Rattle.run_events.specs.declared.event.Event.{Event}
use Rattle.slot_plans.specs.Named.{IsPlan}

-- what follows from the error that a `?` hands on
pub err_then : {T E : Type 0} (r : Result T E) (Q P : E → Type 0) → IsErrAnd r Q
    → ((y : E) → Q y → P y) → IfErr r P
err_then (Ok x) Q P h f = tt
err_then (Err y) Q P h f = f y h

-- the program of the text that a file has is the file's
pub file_program : (file : Option (List ℕ)) (text : List ℕ) (p : ProgramTree)
    → HoldsWhole max_text file text → IsSource text p × (is_typed p ≡ true)
    → IfSome file (λ held. IsCheckedSource held p)
file_program None text p has is = tt
file_program (Some held) text p has is = record {
  fits = has.0;
  source = subst (λ h. IsSource h p) has.1 is.0;
  typed = is.1;
}

-- and why there is none in it
source_read : (text held : List ℕ) (f : LangFault) → IsText max_text held → text ≡ held
    → IsNoProgramOf text (refusal.Source f) → IsNoSource held f
source_read text held (lang.BadToken span) fits same none =
    (fits, λ p is. none p (subst (λ h. IsSource h p) (sym same) is))
source_read text held (lang.Unexpected span) fits same none =
    (fits, λ p is. none p (subst (λ h. IsSource h p) (sym same) is))
source_read text held lang.TooDeep fits same none =
    (fits, λ p is. none p (subst (λ h. IsSource h p) (sym same) is))
source_read text held lang.TooLong fits same none =
    let long : max_text < length held = subst (λ h. max_text < length h) same none in
    let short : length held ≤ max_text = fits.short in absurd (omega (arith, long, short))
source_read text held (lang.LimitPassed span) fits same none =
    (fits, λ p is. none p (subst (λ h. IsSource h p) (sym same) is))
source_read text held lang.NoMemory fits same none = absurd none

pub no_file_program : (file : Option (List ℕ)) (text : List ℕ) (r : Refusal)
    → HoldsWhole max_text file text → IsNoProgramOf text r → IsNoProgram file r
no_file_program None text (refusal.Source f) has none = tt
no_file_program (Some held) text (refusal.Source f) has none =
    source_read text held f has.0 has.1 none
no_file_program None text (refusal.Check f) has none = tt
no_file_program (Some held) text (refusal.Check f) has none =
    (has.0, (none.0, subst (λ h. IsSource h none.0) has.1 none.1, none.2))
no_file_program file text refusal.NoMemory has none = tt
no_file_program file text r has none = absurd none

-- a file without a text has no program
pub no_source_text : (file : Option (List ℕ)) (r : Refusal) → HasNoSource file r
    → IsNoProgram file r
no_source_text file refusal.File none = none
no_source_text file (refusal.Source lang.TooLong) none = none
no_source_text file refusal.NoMemory none = tt
no_source_text file r none = absurd none

-- what `parse` refuses
pub no_source : (held : List ℕ) (f : LangFault)
    → (f ≢ lang.NoMemory → f ≢ lang.TooLong → (p : ProgramTree) → IsSource held p → ⊥)
    → (f ≡ lang.TooLong → max_text < length held)
    → IsNoProgramOf held (of_source f)
no_source held (lang.BadToken span) none long = none (λ e. cc e) (λ e. cc e)
no_source held (lang.Unexpected span) none long = none (λ e. cc e) (λ e. cc e)
no_source held lang.TooDeep none long = none (λ e. cc e) (λ e. cc e)
no_source held lang.TooLong none long = long refl
no_source held (lang.LimitPassed span) none long = none (λ e. cc e) (λ e. cc e)
no_source held lang.NoMemory none long = tt

-- what `check` refuses
check_fault : (A : Type 0) (p : ProgramTree) (f : CheckFault) (o : Option CheckFault)
    → fault_of p ≡ o → IfSome o (λ g. ◌≡◌ {A = Result A CheckFault} (Err f) (Err g))
    → (is_typed p ≡ true → f ≡ check.NoMemory) → (fault_of p ≡ Some f) ⊎ (f ≡ check.NoMemory)
check_fault A p f None e same typed = inr (typed (typed-none p e))
check_fault A p f (Some g) e same typed = let is : f ≡ g = cc same in inl (e ∙ ap Some (sym is))

untyped : (held : List ℕ) (p : ProgramTree) (f : CheckFault) → IsSource held p
    → (fault_of p ≡ Some f) ⊎ (f ≡ check.NoMemory) → IsNoProgramOf held (of_check f)
untyped held p f is (inr memory) = subst (λ g. IsNoProgramOf held (of_check g)) (sym memory) tt
untyped held p check.UnknownName is (inl f) = (p, is, f)
untyped held p check.DoubleName is (inl f) = (p, is, f)
untyped held p check.WrongType is (inl f) = (p, is, f)
untyped held p check.FieldCount is (inl f) = (p, is, f)
untyped held p check.NotAllowedHere is (inl f) = (p, is, f)
untyped held p check.NoInput is (inl f) = (p, is, f)
untyped held p check.NoDecision is (inl f) = (p, is, f)
untyped held p check.MissingRound is (inl f) = (p, is, f)
untyped held p check.NoMemory is (inl f) = tt

pub no_check : (A : Type 0) (held : List ℕ) (p : ProgramTree) (f : CheckFault) → IsSource held p
    → IfSome (fault_of p) (λ g. ◌≡◌ {A = Result A CheckFault} (Err f) (Err g))
    → (is_typed p ≡ true → f ≡ check.NoMemory) → IsNoProgramOf held (of_check f)
no_check A held p f is same typed =
    untyped held p f is (check_fault A p f (fault_of p) refl same typed)

-- what a text says as one of a kind is what its file says
pub file_text : (kind : Kind) (file : Option (List ℕ)) (text : List ℕ) (s : Setup) (k : PlanKind)
    (tail : Tail kind) → HoldsWhole max_schedule file text → SaysOf kind text s k tail
    → IfSome file (λ held. IsOfKind kind held s k tail)
file_text kind None text s k tail has says = tt
file_text kind (Some held) text s k tail has says =
    record { fits = has.0; says = subst (λ h. SaysOf kind h s k tail) has.1 says }

pub omission_text : (file : Option (List ℕ)) (text : List ℕ) (ls : List OmissionLine)
    → HoldsWhole max_schedule file text → SaysOmissions text ls
    → IfSome file (λ held. IsOmissionText held ls)
omission_text None text ls has says = tt
omission_text (Some held) text ls has says =
    record { fits = has.0; says = subst (λ h. SaysOmissions h ls) has.1 says }

-- and why it says nothing
text_read : (HasFault : Fault) (text held : List ℕ) (f : ScheduleFault)
    → IsText max_schedule held → text ≡ held → IsUnread HasFault text (refusal.Schedule f)
    → IsBadText HasFault held f
text_read HasFault text held (schedule.BadLine n) fits same none =
    (fits, subst (λ h. HasFault h (schedule.BadLine n)) same none)
text_read HasFault text held (schedule.NumberTooLarge n) fits same none =
    (fits, subst (λ h. HasFault h (schedule.NumberTooLarge n)) same none)
text_read HasFault text held schedule.TooLong fits same none =
    let long : max_schedule < length held = subst (λ h. max_schedule < length h) same none in
    let short : length held ≤ max_schedule = fits.short in absurd (omega (arith, long, short))
text_read HasFault text held schedule.NoMemory fits same none = absurd none

pub no_text : (HasFault : Fault) (file : Option (List ℕ)) (text : List ℕ) (r : Refusal)
    → HoldsWhole max_schedule file text → IsUnread HasFault text r → HasNoText HasFault file r
no_text HasFault None text (refusal.Schedule f) has none = tt
no_text HasFault (Some held) text (refusal.Schedule f) has none =
    text_read HasFault text held f has.0 has.1 none
no_text HasFault file text refusal.NoMemory has none = tt
no_text HasFault file text r has none = absurd none

-- a file without a text has none of any kind
no_bad_text : (HasFault : Fault) (held : List ℕ) (f : ScheduleFault) → IsBadText no_fault held f
    → IsBadText HasFault held f
no_bad_text HasFault held (schedule.BadLine n) none = absurd none.1
no_bad_text HasFault held (schedule.NumberTooLarge n) none = absurd none.1
no_bad_text HasFault held schedule.TooLong none = none
no_bad_text HasFault held schedule.NoMemory none = none

pub no_text_of : (HasFault : Fault) (file : Option (List ℕ)) (r : Refusal)
    → HasNoText no_fault file r → HasNoText HasFault file r
no_text_of HasFault file refusal.File none = none
no_text_of HasFault None (refusal.Schedule f) none = tt
no_text_of HasFault (Some held) (refusal.Schedule f) none = no_bad_text HasFault held f none
no_text_of HasFault file refusal.NoMemory none = tt
no_text_of HasFault file r none = absurd none

-- why a file has no schedule, from why its reading piece by piece gave none
pub no_schedule : (file left : Option (List ℕ)) (f : TextFault) → left ≡ file → IsNoSchedule left f
    → IsMissing schedules file (of_text f)
no_schedule None left fault.Failed is none = tt
no_schedule (Some held) left fault.Failed is none = absurd (is_some (sym is ∙ none))
  where
    is_some : Some held ≡ None → ⊥
    is_some e = cc
no_schedule file left fault.NotUtf8 is none = subst (λ o. IfSome o (IsNoText max_schedule)) is none
no_schedule file left (fault.Schedule schedule.TooLong) is none =
    subst (λ o. IfSome o (IsLongText max_schedule)) is none
no_schedule file left (fault.Schedule schedule.NoMemory) is none = tt
no_schedule file left (fault.Schedule (schedule.BadLine n)) is none =
    subst (λ o. IfSome o
    (λ held. IsText max_schedule held × IsReadingOf schedules held (Err (schedule.BadLine n)))) is
    none
no_schedule file left (fault.Schedule (schedule.NumberTooLarge n)) is none =
    subst (λ o. IfSome o
    (λ held. IsText max_schedule held
    × IsReadingOf schedules held (Err (schedule.NumberTooLarge n)))) is none

-- what a reader refuses, whichever kind of text it reads
pub no_read : {A : Type 0} (kind : Kind) (show : A → ReadOf kind) (held : List ℕ)
    (f : ScheduleFault) → IsReadOf kind show held (Err f)
    → (f ≡ schedule.TooLong → max_schedule < length held)
    → IsNoReadOf kind held (of_schedule f)
no_read kind show held (schedule.BadLine n) said long = said
no_read kind show held (schedule.NumberTooLarge n) said long = said
no_read kind show held schedule.TooLong said long = long refl
no_read kind show held schedule.NoMemory said long = tt

-- what a run of a schedule that is read refuses under a plan within its limits, where Fits says
-- that its other numbers are
pub no_run : (Fits : Type 0) (p : ProgramTree) (s : Setup) (k : PlanKind) (r : Reading)
    (correct : List ℕ) (f : ReadFault) → IsPlan k
    → ((IsLawful p.values s × All (λ n. n < s.nodes) correct) → Fits)
    → (Fits → IsLawful p.values s × All (λ n. n < s.nodes) correct)
    → IsNotRead Fits s r f → StopsSchedule (λ events x. IsNotRun p s k events correct x) s r
    (of_read f)
no_run Fits p s k r correct (read.Text e) plan to from none = inl (e, refl, none)
no_run Fits p s k r correct (read.Run run.NoMemory) plan to from none =
    inl (fault.Schedule schedule.NoMemory, refl, λ held k begun. tt)
no_run Fits p s k r correct (read.Run run.BadSetup) plan to from none =
    inr (none.0, none.2, λ is. none.1 (to (is.setup, is.listed)))
no_run Fits p s k r correct (read.Run (run.UnknownNode n)) plan to from none =
    let both = from none.1.0 in
    let is : IsRunnable p s k correct =
    record { setup = both.0; plan = plan; listed = both.1 } in
    inr (none.0, none.2, (λ bad. bad is, none.1.1))
no_run Fits p s k r correct (read.Run (run.UnknownMessage n)) plan to from none =
    let both = from none.1.0 in
    let is : IsRunnable p s k correct =
    record { setup = both.0; plan = plan; listed = both.1 } in
    inr (none.0, none.2, (λ bad. bad is, none.1.1))
no_run Fits p s k r correct (read.Run run.NoThread) plan to from none = absurd none.1.1
no_run Fits p s k r correct (read.Run run.Unmatched) plan to from none = absurd none.1.1

-- numbers that are within their limits in another way
pub fits_as : (A B : Type 0) (s : Setup) (r : Reading) (f : ReadFault) → (A → B) → (B → A)
    → IsNotRead A s r f → IsNotRead B s r f
fits_as A B s r (read.Text e) to from none = none
fits_as A B s r (read.Run run.NoMemory) to from none = tt
fits_as A B s r (read.Run run.BadSetup) to from none = (none.0, (λ b. none.1 (from b)), none.2)
fits_as A B s r (read.Run (run.UnknownNode k)) to from none =
    (none.0, (to none.1.0, none.1.1), none.2)
fits_as A B s r (read.Run (run.UnknownMessage k)) to from none =
    (none.0, (to none.1.0, none.1.1), none.2)
fits_as A B s r (read.Run run.NoThread) to from none = absurd none.1.1
fits_as A B s r (read.Run run.Unmatched) to from none = absurd none.1.1

-- a list has a node that the run hasn't
pub no_nodes : (values : ℕ) (s : Setup) (list : List ℕ)
    → (All (λ n. (n < s.nodes) × (n < max_nodes)) list → ⊥)
    → ¬ (IsLawful values s × All (λ n. n < s.nodes) list)
no_nodes values s list none both =
    none (λ k d l. let few = both.0.sized.few_nodes in let below = both.1 k d l in
    (below, omega (arith, few, below)))

-- what is told of a schedule whatever its events are
pub told_after : (Cause : List Event → Refusal → Type 0) (s : Setup) (r : Reading)
    (refused told : Refusal) → ((events : List Event) → Cause events refused)
    → IsToldAfter r refused told
    → StopsSchedule Cause s r told
told_after Cause s r refused told cause (inl t) =
    let events = last_events r ++ t.1.more in
    inr (
      events,
      (λ held k begun. t.1.whole held s k (last_events r) begun),
      subst (Cause events)
          (sym t.0) (cause events),
    )
told_after Cause s r refused told cause (inr t) =
    inl (t.0, t.1, λ held k begun. t.2 held s k (last_events r) begun)

-- and what a file's schedule is refused for
pub bad_schedule : (file : Option (List ℕ)) (s : Setup) (k : PlanKind) (r : Reading) (x : Refusal)
    → IfSome file (λ held. HasReadHeader held s k r) → IsBadSchedule s r x
    → IsMissing schedules file x
bad_schedule None s k r x begun bad = subst (IsMissing schedules None) (sym bad.1) (unknown bad.0)
  where
    unknown : (e : TextFault) → IsMissing schedules None (of_text e)
    unknown fault.Failed = tt
    unknown fault.NotUtf8 = tt
    unknown (fault.Schedule schedule.TooLong) = tt
    unknown (fault.Schedule schedule.NoMemory) = tt
    unknown (fault.Schedule (schedule.BadLine n)) = tt
    unknown (fault.Schedule (schedule.NumberTooLarge n)) = tt
bad_schedule (Some held) s k r x begun bad =
    subst (IsMissing schedules (Some held)) (sym bad.1)
    (no_schedule (Some held) (Some held) bad.0 refl (bad.2 held k begun))

pub read_as : (file : Option (List ℕ)) (s : Setup) (k : PlanKind) (r : Reading)
    (events : List Event) → IfSome file (λ held. HasReadHeader held s k r) → IsScheduleOf s r events
    → IfSome file (λ held. IsSchedule held s k events)
read_as None s k r events begun is = tt
read_as (Some held) s k r events begun is = let said =
    is held k begun in record { fits = said.0; says = said.1 }

-- why a source isn't run, from why nothing comes of its schedule: the run is refused,
pub unanswered_run : (source : Source) (files : Files) (p : ProgramTree) (s : Setup) (k : PlanKind)
    (r : Reading) (correct : List ℕ) (x : Refusal) (file : Option (List ℕ))
    → IsOpened source files → IsProgramOf source files s.nodes s.faults p
    → IfSome file (λ held. HasReadHeader held s k r)
    → StopsSchedule (λ events y. IsNotRun p s k events correct y) s r x
    → IsUnanswered source files file correct x
unanswered_run source files p s k r correct x file opened is begun (inl bad) =
    inr (inl (opened, bad_schedule file s k r x begun bad))
unanswered_run source files p s k r correct x file opened is begun (inr h) =
    inr (inr (opened, (s, k, h.0, read_as file s k r h.0 begun h.1, inr (p, is, h.2))))

-- or the library has no program for it
pub unanswered_offer : (source : Source) (files : Files) (s : Setup) (k : PlanKind) (r : Reading)
    (correct : List ℕ) (x : Refusal) (file : Option (List ℕ))
    → IsOpened source files → IfSome file (λ held. HasReadHeader held s k r)
    → StopsSchedule (λ events y. IsNotOffered source s.nodes s.faults y) s r x
    → IsUnanswered source files file correct x
unanswered_offer source files s k r correct x file opened begun (inl bad) =
    inr (inl (opened, bad_schedule file s k r x begun bad))
unanswered_offer source files s k r correct x file opened begun (inr h) =
    inr (inr (opened, (s, k, h.0, read_as file s k r h.0 begun h.1, inl h.2)))

-- if there is no plan, the setup is bad
pub no_plan : (p : ProgramTree) (s : Setup) (k : PlanKind) (correct : List ℕ)
    → ¬ (IsNodeCount s.nodes × IsPlan k) → ¬ (IsRunnable p s k correct)
no_plan p s k correct none is =
    none ((is.setup.sized.some_node, is.setup.sized.few_nodes), is.plan)

-- a run for its report names no correct nodes
pub report_to : (values : ℕ) (s : Setup) → (IsLawful values s × All (λ n. n < s.nodes) [])
    → IsLawful values s
report_to values s h = h.0

pub report_from : (values : ℕ) (s : Setup) → IsLawful values s
    → IsLawful values s × All (λ n. n < s.nodes) []
report_from values s h = (h, λ k d lt. absurd (omega (arith, lt)))
