-- Lines say the same behind events that were read already, and behind a whole header they leave it.
use Rattle.std.proofs.Common.{◌≡◌, ℕ, ◌+◌, Bool, true, false, cond, eqb, List, [], ◌∷◌, ◌++◌, codes}
use Rattle.std.proofs.Common.{Option, None, Some, Result, Ok, Err, IfOk, refl, ap, ◌∙◌}
use Rattle.std.proofs.Common.{append_assoc}
use Rattle.round_meaning.specs.declared.setup.Setup.{Setup}
use Rattle.run_events.specs.declared.plan_kind.PlanKind.{PlanKind}
use Rattle.run_events.specs.declared.event.Event.{Event}
use Rattle.schedule_text.specs.Intakes.{header_at, header_in, says, without_events}
use Rattle.schedule_text.specs.Outcome.{state_of}
use Rattle.schedule_text.specs.Readers.{IsOf, behind}
use Rattle.schedule_text.specs.Stages.{State, answer_at_end, by_stage, event_of, from_line, go_on}
use Rattle.schedule_text.specs.Stages.{inputs_of, line_step, mapped, one_after, plan_of, sizes_of}
use Rattle.schedule_text.specs.Stages.{stop_of}
use Rattle.schedule_text.specs.declared.draft.Stage.{Stage}
use Rattle.schedule_text.specs.declared.draft.Stage.TheVariants.{Start, Nodes, Faults, Inputs}
use Rattle.schedule_text.specs.declared.draft.Stage.TheVariants.{Rounds, Whole, Paced}
use Rattle.schedule_text.specs.declared.fault.LineFault.{LineFault}
use Rattle.schedule_text.specs.declared.fault.ScheduleFault.{ScheduleFault}
use Rattle.schedule_text.specs.declared.kind.Kind.TheVariants.{Schedule as schedules}
use Rattle.schedule_text.specs.declared.line_reader.LineReader.{LineReader}

-- these events come before those of the state
abbrev onto : List Event → State → State
onto es s = record s { events = es ++ s.events }

fused : {A : Type 0} (h : State → State) (f g : A → State) → ((x : A) → f x ≡ h (g x))
    → (r : Result A LineFault) → mapped f r ≡ mapped h (mapped g r)
fused h f g same (Ok x) = let ok : State → Result State LineFault = λ s. Ok s in ap ok (same x)
fused h f g same (Err e) = refl

staged : (es : List Event) (g : Stage) (s : State) (text : List ℕ)
    → by_stage schedules g (onto es s) text ≡ mapped (onto es) (by_stage schedules g s text)
staged es Start s text = fused (onto es) (λ n. record (onto es s) { stage = Nodes n })
    (λ n. record s { stage = Nodes n }) (λ n. refl) (one_after (codes "nodes ") text)
staged es (Nodes n) s text = fused (onto es) (λ t. record (onto es s) { stage = Faults n t })
    (λ t. record s { stage = Faults n t }) (λ t. refl) (one_after (codes "faults ") text)
staged es (Faults n t) s text =
    fused (onto es) (λ vs. record (onto es s) { stage = Inputs n t; inputs = vs })
    (λ vs. record s { stage = Inputs n t; inputs = vs }) (λ vs. refl) (inputs_of text)
staged es (Inputs n t) s text =
    fused (onto es) (λ r. record (onto es s) { stage = Rounds (sizes_of n t r) })
    (λ r. record s { stage = Rounds (sizes_of n t r) }) (λ r. refl)
    (one_after (codes "rounds ") text)
staged es (Rounds z) s text =
    fused (onto es) (λ p. record (onto es s) { stage = Whole z p })
    (λ p. record s { stage = Whole z p }) (λ p. refl) (plan_of text)
staged es (Whole z p) s text =
    fused (onto es) (λ e. record (onto es s) { events = (es ++ s.events) ++ e ∷ [] })
    (λ e. record s { events = s.events ++ e ∷ [] })
    (λ e. ap (λ (all : List Event). record s { events = all }) (append_assoc es s.events (e ∷ [])))
    (event_of text)
staged es (Paced z p x) s text =
    fused (onto es) (λ c. record (onto es s) { stops = s.stops ++ c ∷ [] })
    (λ c. record s { stops = s.stops ++ c ∷ [] }) (λ c. refl) (stop_of text)

stepped : (es : List Event) (s : State) (l : List ℕ)
    → line_step schedules (onto es s) l ≡ mapped (onto es) (line_step schedules s l)
unfolding line_step
stepped es s [] = refl
stepped es s (b ∷ bs) = go (eqb b 35)
  where
    go : (t : Bool) → cond t (Ok (onto es s)) (by_stage schedules s.stage (onto es s) (b ∷ bs))
        ≡ mapped (onto es) (cond t (Ok s) (by_stage schedules s.stage s (b ∷ bs)))
    go true = refl
    go false = staged es s.stage s (b ∷ bs)

ended : (es : List Event) (g : Stage) (k : ℕ) (s : State)
    → answer_at_end schedules k g (onto es s) ≡ behind es (answer_at_end schedules k g s)
ended es Start k s = refl
ended es (Nodes n) k s = refl
ended es (Faults n t) k s = refl
ended es (Inputs n t) k s = refl
ended es (Rounds z) k s = refl
ended es (Whole z p) k s = refl
ended es (Paced z p x) k s = refl

drained : (es : List Event) (ls : List (List ℕ)) (k : ℕ) (s : State)
    → from_line schedules k (onto es s) ls ≡ behind es (from_line schedules k s ls)
unfolding from_line
drained es [] k s = ended es s.stage k s
drained es (l ∷ ls) k s =
    ap (λ (r : Result State LineFault). go_on k r (λ s. from_line schedules (k + 1) s ls))
    (stepped es s l)
    ∙ go (λ s. drained es ls (k + 1) s) (line_step schedules s l)
  where
    go : ((s : State) → from_line schedules (k + 1) (onto es s) ls
        ≡ behind es (from_line schedules (k + 1) s ls)) → (r : Result State LineFault)
        → go_on k (mapped (onto es) r) (λ s. from_line schedules (k + 1) s ls)
        ≡ behind es (go_on k r (λ s. from_line schedules (k + 1) s ls))
    go same (Ok s) = same s
    go same (Err e) = refl

-- the events that were read can be taken away
pub says_behind : (r : LineReader) (f : Option ScheduleFault) (ls : List (List ℕ))
    → says r f ls ≡ behind r.draft.events (says (without_events r) f ls)
says_behind r None ls =
    ap (λ (es : List Event). from_line schedules r.number
    (record (state_of r.draft) { events = es }) ls) (nothing r.draft.events)
    ∙ drained r.draft.events ls r.number (record (state_of r.draft) { events = [] })
  where
    nothing : (es : List Event) → es ≡ es ++ []
    nothing [] = refl
    nothing (e ∷ es) = ap (λ (es : List Event). e ∷ es) (nothing es)
says_behind r (Some e) ls = refl

-- the header of a state
abbrev HasHeader : Setup × PlanKind → State → Type 0
HasHeader h s = header_at s.stage s.inputs ≡ Some h

none_some : {h : Setup × PlanKind} → None ≡ Some h → ⊥
none_some e = cc

some_same : {g h : Setup × PlanKind} → Some g ≡ Some h → g ≡ h
some_same e = cc

kept_by : {A : Type 0} (P : State → Type 0) (f : A → State) → ((x : A) → P (f x))
    → (r : Result A LineFault) → IfOk (mapped f r) P
kept_by P f all (Ok x) = all x
kept_by P f all (Err e) = tt

kept_at : (h : Setup × PlanKind) (g : Stage) (s : State) → header_at g s.inputs ≡ Some h
    → HasHeader h s → (text : List ℕ) → IfOk (by_stage schedules g s text) (HasHeader h)
kept_at h Start s at is text = absurd (none_some at)
kept_at h (Nodes n) s at is text = absurd (none_some at)
kept_at h (Faults n t) s at is text = absurd (none_some at)
kept_at h (Inputs n t) s at is text = absurd (none_some at)
kept_at h (Rounds z) s at is text = absurd (none_some at)
kept_at h (Whole z p) s at is text =
    kept_by (HasHeader h) (λ e. record s { events = s.events ++ e ∷ [] }) (λ e. is) (event_of text)
kept_at h (Paced z p x) s at is text = absurd (none_some at)

kept_step : (h : Setup × PlanKind) (s : State) → HasHeader h s → (l : List ℕ)
    → IfOk (line_step schedules s l) (HasHeader h)
unfolding line_step
kept_step h s is [] = is
kept_step h s is (b ∷ bs) = go (eqb b 35)
  where
    go : (t : Bool) → IfOk (cond t (Ok s) (by_stage schedules s.stage s (b ∷ bs))) (HasHeader h)
    go true = is
    go false = kept_at h s.stage s is is (b ∷ bs)

kept_end : (h : Setup × PlanKind) (g : Stage) (k : ℕ) (s : State) → header_at g s.inputs ≡ Some h
    → IfOk (answer_at_end schedules k g s)
    (λ (x : Setup × PlanKind × List Event). IsOf (Some h) x.0 x.1)
kept_end h Start k s at = absurd (none_some at)
kept_end h (Nodes n) k s at = absurd (none_some at)
kept_end h (Faults n t) k s at = absurd (none_some at)
kept_end h (Inputs n t) k s at = absurd (none_some at)
kept_end h (Rounds z) k s at = absurd (none_some at)
kept_end h (Whole z p) k s at = let same = some_same at in
    (ap (λ (g : Setup × PlanKind). g.0) same, ap (λ (g : Setup × PlanKind). g.1) same)
kept_end h (Paced z p x) k s at = absurd (none_some at)

kept : (h : Setup × PlanKind) (ls : List (List ℕ)) (k : ℕ) (s : State) → HasHeader h s
    → IfOk (from_line schedules k s ls)
    (λ (x : Setup × PlanKind × List Event). IsOf (Some h) x.0 x.1)
unfolding from_line
kept h [] k s is = kept_end h s.stage k s is
kept h (l ∷ ls) k s is = go (λ s is. kept h ls (k + 1) s is) (line_step schedules s l)
    (kept_step h s is l)
  where
    go : ((s : State) → HasHeader h s
        → IfOk (from_line schedules (k + 1) s ls)
        (λ (x : Setup × PlanKind × List Event). IsOf (Some h) x.0 x.1))
        → (r : Result State LineFault) → IfOk r (HasHeader h)
        → IfOk (go_on k r (λ s. from_line schedules (k + 1) s ls))
        (λ (x : Setup × PlanKind × List Event). IsOf (Some h) x.0 x.1)
    go next (Ok s) is = next s is
    go next (Err e) is = tt

-- behind a whole header lines say what it does
pub says_header : (h : Setup × PlanKind) (r : LineReader) (f : Option ScheduleFault)
    (ls : List (List ℕ)) → header_in r.draft ≡ Some h
    → IfOk (says r f ls) (λ (x : Setup × PlanKind × List Event). IsOf (Some h) x.0 x.1)
says_header h r None ls is = kept h ls r.number (state_of r.draft) is
says_header h r (Some e) ls is = tt
