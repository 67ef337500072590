-- Runs that go on as their events are read.
use Rattle.std.proofs.Common.{◌≡◌, ℕ, ◌+◌, ◌<◌, ◌⊎◌, inl, inr, All, List, [], ◌∷◌, ◌++◌, length}
use Rattle.std.proofs.Common.{ap, refl, sym, subst, ◌∙◌, append_assoc, arith, get_or, take}
use Rattle.std.proofs.lemmas.List.{get_or-take, length-append, length-take, take_more}
use Rattle.std.proofs.lemmas.List.Elements.{All-append, All-push}
use Rattle.round_lang.specs.Syntax.{ProgramTree}
use Rattle.round_meaning.specs.declared.setup.Setup.{Setup}
use Rattle.schedule_text.specs.Readers.{AdvancesTo, HasRead, HasReadHeader, IsAll, IsRefusedAs}
use Rattle.schedule_text.specs.Readers.{Reading, last_events}
use Rattle.schedule_text.specs.declared.source.TextFault.{TextFault}
use Rattle.run_events.specs.declared.plan_kind.PlanKind.{PlanKind}
use Rattle.step_book.specs.Log.{Recorded, opened}
use Rattle.run_events.specs.declared.event.Event.{Event}
use Rattle.adversary.specs.Driving.{AreMore, IsFaultOf, IsKnown, IsOneMore, IsUnknownAt}
use Rattle.adversary.specs.Driving.{IsUnknownPast}
use Rattle.adversary.specs.Reading.{IsNotRead, IsRefusedAfter, IsScheduleOf}
use Rattle.adversary.specs.declared.fault.ReadFault.{ReadFault}
use Rattle.adversary.specs.declared.fault.ReadFault.TheVariants as read
use Rattle.adversary.specs.declared.fault.RunFault.{RunFault}
use Rattle.adversary.specs.declared.fault.RunFault.TheVariants as fault
use Rattle.adversary.proofs.Runs.{IsRun}
use Rattle.adversary.proofs.Unknown.{unknown_begins, unknown_left, unknown_past}

-- the run has recorded the events that were read, but the last
pub record IsReadTo {P : Type 0} (p : ProgramTree) (s : Setup) (plan : P) (first : Reading)
    (j : Recorded P) (now : Reading) : Type 0 where
  pub program : j.log.program ≡ p
  pub setup : j.log.setup ≡ s
  pub planned : j.plan ≡ plan
  pub known : All (IsKnown s) j.log.trace
  pub read : (held : List ℕ) (k : PlanKind) → HasReadHeader held s k first
      → HasRead held s k (j.log.trace ++ last_events now) now

-- and these too
pub record IsReadOut {P : Type 0} (p : ProgramTree) (s : Setup) (plan : P) (first : Reading)
    (j : Recorded P) (now : Reading) : Type 0 where
  pub program : j.log.program ≡ p
  pub setup : j.log.setup ≡ s
  pub planned : j.plan ≡ plan
  pub known : All (IsKnown s) j.log.trace
  pub read : (held : List ℕ) (k : PlanKind) → HasReadHeader held s k first
      → HasRead held s k j.log.trace now

pub read_first : {P : Type 0} (p : ProgramTree) (s : Setup) (plan : P) (first : Reading)
    (j : Recorded P) → j ≡ record { plan = plan; log = opened p s }
    → IsReadTo p s plan first j first
read_first p s plan first j is = record {
  program = ap (λ z. z.log.program) is;
  setup = ap (λ z. z.log.setup) is;
  planned = ap (λ z. z.plan) is;
  known = subst (All (IsKnown s)) (sym (ap (λ z. z.log.trace) is))
      (λ k d l. absurd (omega (arith, l)));
  read = λ held k begun. subst (λ t. HasRead held s k (t ++ last_events first) first)
      (sym (ap (λ z. z.log.trace) is)) begun;
}

module _ {P : Type 0} (p : ProgramTree) (s : Setup) (plan : P) (first : Reading) (j : Recorded P)
    (now : Reading) where
  pub read_run : (next : Recorded P) (events : List Event) → events ≡ last_events now
      → next.plan ≡ j.plan → AreMore j.log next.log events → All (IsKnown j.log.setup) events
      → IsReadTo p s plan first j now → IsReadOut p s plan first next now
  read_run next events are same more known h = record {
    program = more.program ∙ h.program;
    setup = more.setup ∙ h.setup;
    planned = same ∙ h.planned;
    known = subst (All (IsKnown s)) (sym more.trace)
        (All-append (IsKnown s) j.log.trace events h.known
        (subst (λ t. All (IsKnown t) events) h.setup known));
    read = λ held k begun. subst (λ t. HasRead held s k t now)
        (ap (λ es. j.log.trace ++ es) (sym are) ∙ sym more.trace) (h.read held k begun);
  }

  pub read_on : (later : Reading) → AdvancesTo now later → IsReadOut p s plan first j now
      → IsReadTo p s plan first j later
  read_on later on h = record {
    program = h.program;
    setup = h.setup;
    planned = h.planned;
    known = h.known;
    read = λ held k begun. on held s k j.log.trace (h.read held k begun);
  }

  pub read_whole : IsAll now → IsReadOut p s plan first j now → IsScheduleOf s first j.log.trace
  read_whole all h held k begun = all held s k j.log.trace (h.read held k begun)

  -- the text is refused
  pub refused_text : (Fits : Type 0) (e : TextFault) → IsRefusedAs now e
      → IsReadOut p s plan first j now → IsNotRead Fits s first (read.Text e)
  refused_text Fits e none h held k begun = none held s k j.log.trace (h.read held k begun)

-- the cause of a run that stops at an event
stops : (Fits : Type 0) (s : Setup) (first : Reading) (events : List Event) (f : RunFault) → Fits
    → IsUnknownAt s events f → IsScheduleOf s first events → IsNotRead Fits s first (read.Run f)
stops Fits s first events (fault.UnknownNode k) fits at read = (events, (fits, at), read)
stops Fits s first events (fault.UnknownMessage k) fits at read = (events, (fits, at), read)
stops Fits s first events fault.BadSetup fits at read = absurd at
stops Fits s first events fault.NoMemory fits at read = tt
stops Fits s first events fault.NoThread fits at read = absurd at
stops Fits s first events fault.Unmatched fits at read = absurd at

-- a run that stops in the events that were read last
pub stopped : {P : Type 0} (p : ProgramTree) (s : Setup) (plan : P) (first : Reading)
    (j : Recorded P) (now : Reading) (Fits : Type 0) (events : List Event) (f : RunFault)
    (r : ReadFault)
    → Fits → events ≡ last_events now
    → ((f ≡ fault.NoMemory) ⊎ IsUnknownPast j.log.setup (length j.log.trace) events f)
    → IsRefusedAfter now f r → IsReadTo p s plan first j now
    → IsNotRead Fits s first r
stopped p s plan first j now Fits events f (read.Text e) fits are cause told h =
    λ held k begun. told held s k (j.log.trace ++ last_events now) (h.read held k begun)
stopped p s plan first j now Fits events f (read.Run e) fits are (inl none) told h =
    subst (λ g. IsNotRead Fits s first (read.Run g)) (sym (told.0 ∙ none)) tt
stopped p s plan first j now Fits events f (read.Run e) fits are (inr past) told h =
    let at : IsUnknownAt j.log.setup (j.log.trace ++ events) f =
    past j.log.trace refl (subst (λ t. All (IsKnown t) j.log.trace) (sym h.setup) h.known) in
    let here : IsUnknownAt s (j.log.trace ++ last_events now) f =
    subst (λ t. IsUnknownAt t (j.log.trace ++ last_events now) f) h.setup
    (subst (λ es. IsUnknownAt j.log.setup (j.log.trace ++ es) f) are at) in
    subst (λ g. IsNotRead Fits s first (read.Run g)) (sym told.0)
    (stops Fits s first ((j.log.trace ++ last_events now) ++ told.1.more) f fits
    (unknown_left s (j.log.trace ++ last_events now) told.1.more f here)
    (λ held k begun. told.1.whole held s k (j.log.trace ++ last_events now) (h.read held k begun)))

-- a setup that doesn't fit
pub unfit : (Fits : Type 0) (s : Setup) (first : Reading) (r : ReadFault) → ¬ Fits
    → IsRefusedAfter first fault.BadSetup r → IsNotRead Fits s first r
unfit Fits s first (read.Text e) none told = λ held k begun. told held s k (last_events first) begun
unfit Fits s first (read.Run e) none told =
    subst (λ g. IsNotRead Fits s first (read.Run g)) (sym told.0) (
      last_events first ++ told.1.more,
      none,
      λ held k begun. told.1.whole held s k (last_events first) begun,
    )

-- the first unknown event of a piece
pub unknown_next : (s : Setup) (trace events : List Event) (i : ℕ) (e : Event) (f : RunFault)
    (n : ℕ) → i < length events → e ≡ get_or events i e → ¬ IsKnown s e
    → All (IsKnown s) (take i events) → n ≡ length (trace ++ take i events) → IsFaultOf e n f
    → IsUnknownPast s (length trace) events f
unknown_next s trace events i e f n within is strange known counted cause =
    let at : n ≡ length trace + i = omega (
      arith,
      counted,
      within,
      length-append trace (take i events),
      length-take i events,
    ) in
    unknown_past s (length trace) events i e f within is strange
    (λ j d l. subst (IsKnown s) (get_or-take i events j d l)
    (known j d (omega (arith, l, within, length-take i events))))
    (subst (λ m. IsFaultOf e m f) at cause)

-- a cause in the first part of the events
pub begins_cause : (s : Setup) (n : ℕ) (stored whole events : List Event) (f : RunFault)
    → events ≡ stored ++ whole → ((f ≡ fault.NoMemory) ⊎ IsUnknownPast s n stored f)
    → (f ≡ fault.NoMemory) ⊎ IsUnknownPast s n events f
begins_cause s n stored whole events f all (inl none) = inl none
begins_cause s n stored whole events f all (inr past) =
    inr (subst (λ es. IsUnknownPast s n es f) (sym all) (unknown_begins s n stored whole f past))

-- one event more of a piece
take_next : (events : List Event) (i : ℕ) (e : Event) → i < length events → e ≡ get_or events i e
    → take (i + 1) events ≡ take i events ++ e ∷ []
take_next events i e l is = take_more events i e l ∙ ap (λ x. take i events ++ x ∷ []) (sym is)

pub known_next : (s : Setup) (events : List Event) (i : ℕ) (e : Event) → i < length events
    → e ≡ get_or events i e → IsKnown s e
    → All (IsKnown s) (take i events) → All (IsKnown s) (take (i + 1) events)
known_next s events i e l is known h =
    subst (All (IsKnown s)) (sym (take_next events i e l is))
    (All-push (IsKnown s) (take i events) e h known)

pub run_next : {P : Type 0} (p : ProgramTree) (s : Setup) (plan : P) (j k : Recorded P)
    (trace events : List Event) (i : ℕ) (e : Event)
    → i < length events → e ≡ get_or events i e → k.plan ≡ j.plan → IsOneMore j.log k.log e
    → IsRun p s plan j (trace ++ take i events) → IsRun p s plan k (trace ++ take (i + 1) events)
run_next p s plan j k trace events i e l is same more h = record {
  program = more.program ∙ h.program;
  setup = more.setup ∙ h.setup;
  planned = same ∙ h.planned;
  trace = more.trace ∙ ap (λ t. t ++ e ∷ []) h.trace ∙ append_assoc trace (take i events) (e ∷ [])
      ∙ ap (λ es. trace ++ es) (sym (take_next events i e l is));
}
