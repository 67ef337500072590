-- The ticks of a run that is recorded.
use Rattle.std.proofs.Common.{◌≡◌, ℕ, ◌+◌, ◌%◌, ◌<◌, true, false, [], ◌∷◌, Option, Some, None}
use Rattle.std.proofs.Common.{length, sym, ap, subst, refl, ◌∙◌, arith}
use Rattle.std.specs.Prelude.{IfSome}
use Rattle.round_lang.specs.Syntax.{ProgramTree}
use Rattle.round_meaning.specs.declared.setup.Setup.{Setup}
use Rattle.step_book.specs.declared.mark.Mark.TheVariants.{Flying}
use Rattle.step_book.specs.Log.{IsFlying, Recorded, count_of, history, opened, world_of}
use Rattle.step_book.specs.Names.{IsName, IsNameOf}
use Rattle.step_book.specs.History.{mark_of}
use Rattle.step_book.specs.Serials.{sent}
use Rattle.step_book.specs.Slots.{IsMessageAt, IsNoMessageAt}
use Rattle.step_book.specs.Trace.{steps}
use Rattle.step_book.specs.World.{IsPlan, World, nodes_of}
use Rattle.step_book.proofs.Kept.{mark_before}
use Rattle.step_book.proofs.Reading.{nodes_are}
use Rattle.run_events.specs.declared.event.Event.{Event}
use Rattle.run_events.specs.declared.event.Event.TheVariants.{Step, Release}
use Rattle.run_events.specs.declared.name.Name.{Name}
use Rattle.adversary.specs.Driving.{IsOneMore}
use Rattle.lockstep_runs.specs.Timing.{Timing, steps_in}
use Rattle.lockstep_runs.specs.Lockstep.{AllBefore, IsAloft, IsOriginal, IsTimedRun, Turn}
use Rattle.lockstep_runs.specs.Lockstep.{due_in, first_in, turn_in}
use Rattle.lockstep_runs.specs.Pacing.{AreSteps, Flight, HoldsByTicks, IsFlightIn, IsPaced}
use Rattle.lockstep_runs.specs.Pacing.{IsOther, IsPacedIn, IsPopped, IsSameRun}
use Rattle.lockstep_runs.specs.Pacing.{NoneBefore, tick_key, waits_at}
use Rattle.lockstep_runs.proofs.Keys.{all_before, each_none}
use Rattle.lockstep_runs.proofs.Maps.{none_empty}
use Rattle.lockstep_runs.proofs.Paces.{IsReleasingIn, off_record, on_record}
use Rattle.lockstep_runs.proofs.Paces.{paced_step, popped_aloft, releasing_begins, releasing_on}
use Rattle.lockstep_runs.proofs.Paces.{serial_spoken, step_omitted, step_silent, step_spoken}
use Rattle.lockstep_runs.proofs.Paces.{steps_release, tick_ends, timed_run}
use Rattle.lockstep_runs.proofs.Turns.{AreStepsIn, steps_begin, steps_end, steps_now, steps_passed}
use Rattle.lockstep_runs.proofs.Turns.{steps_stepped, turn_at, turn_key}

pub same_run : {P : Type 0} (first j k : Recorded P) (e : Event) → IsSameRun first j
    → k.plan ≡ j.plan → IsOneMore j.log k.log e → IsSameRun first k
same_run first j k e h same g = record {
  program = g.program ∙ h.program;
  setup = g.setup ∙ h.setup;
  planned = same ∙ h.planned;
}

-- in the releases of a tick
pub record IsReleasing {P : Type 0} (start : P → ℕ → ℕ) (b : Timing) (now : ℕ)
    (first j : Recorded P) (f : Flight) : Type 0 where
  pub same : IsSameRun first j
  pub released : IsReleasingIn (world_of (start j.plan) j.log) b now (history j.log) f
  pub taken : AreSteps (world_of (start j.plan) j.log) b (history j.log) now

-- in the steps of a tick
pub record IsStepping {P : Type 0} (start : P → ℕ → ℕ) (b : Timing) (now : ℕ) (first j : Recorded P)
    (f : Flight) (turn : ℕ) : Type 0 where
  pub same : IsSameRun first j
  pub paced : IsPacedIn (start j.plan) j.log b (now + 1) (turn_key now turn) f
  pub waits : NoneBefore f (now + 1)
  pub taken : AreStepsIn (world_of (start j.plan) j.log) b (history j.log) now turn

module _ {P : Type 0} (start : P → ℕ → ℕ) (b : Timing) (now : ℕ) where
  pub releasing_first : (j : Recorded P) (f : Flight)
      → IsPacedIn (start j.plan) j.log b now (tick_key now) f → NoneBefore f now
      → AreSteps (world_of (start j.plan) j.log) b (history j.log) now
      → IsReleasing start b now j j f
  releasing_first j f h waits taken = record {
    same = record { program = refl; setup = refl; planned = refl };
    released = releasing_begins (world_of (start j.plan) j.log) b now (history j.log) f h waits;
    taken = taken;
  }

  pub popped_named : (first j : Recorded P) (f g : Flight) (n : Name)
      → IsReleasing start b now first j f → IsPopped f g now n → IsName j.log.setup n
  popped_named first j f g n h x =
      subst (λ (z : ℕ). IsNameOf z j.log.setup.rounds n) (nodes_are (start j.plan) j.log)
      (popped_aloft (world_of (start j.plan) j.log) b now (history j.log) f g n h.released
      x).original.named

  pub releasing_next : (first j k : Recorded P) (f g : Flight) (n : Name)
      → IsReleasing start b now first j f → IsPopped f g now n → k.plan ≡ j.plan
      → IsOneMore j.log k.log (Release n) → IsReleasing start b now first k g
  releasing_next first j k f g n h x same more = record {
    same = same_run first j k (Release n) h.same same more;
    released = on_record start j k (Release n) (λ w t. IsReleasingIn w b now t g) same more
        (releasing_on (world_of (start j.plan) j.log) b now (history j.log) f g n h.released x);
    taken = on_record start j k (Release n) (λ w t. AreSteps w b t now) same more
        (λ i l. steps_release i n (history j.log) ∙ h.taken i l);
  }

  some_nodes : (j : Recorded P) → 0 < j.log.setup.nodes
      → 0 < nodes_of (world_of (start j.plan) j.log)
  some_nodes j l = let n = nodes_are (start j.plan) j.log in omega arith

  pub stepping_first : (first j : Recorded P) (f g : Flight) → 0 < j.log.setup.nodes
      → IsReleasing start b now first j f → NoneBefore g (now + 1) → g ≡ f
      → IsStepping start b now first j g 0
  stepping_first first j f g some h none e = record {
    same = h.same;
    paced = subst (λ (x : Flight). IsPacedIn (start j.plan) j.log b (now + 1) (turn_key now 0) x)
        (sym e) h.released.paced;
    waits = none;
    taken = steps_begin (world_of (start j.plan) j.log) b now (some_nodes j some) (history j.log)
        h.taken;
  }

  -- the node of a turn
  abbrev pub node_in : Recorded P → ℕ → ℕ
  node_in j turn = (first_in b (nodes_of (world_of (start j.plan) j.log)) now + turn) % nodes_of
      (world_of (start j.plan) j.log)

  pub node_is : (j : Recorded P) (turn entry nodes : ℕ) → nodes ≡ j.log.setup.nodes
      → entry % nodes ≡ first_in b nodes now → (entry % nodes + turn) % nodes ≡ node_in j turn
  node_is j turn entry nodes e h =
      ap (λ x. (x + turn) % nodes) h
      ∙ ap (λ m. (first_in b m now + turn) % m) (e ∙ sym (nodes_are (start j.plan) j.log))

  module _ (first j : Recorded P) (f : Flight) (turn node : ℕ) (some : 0 < j.log.setup.nodes)
      (before : turn < j.log.setup.nodes) (inside : node < j.log.setup.nodes)
      (is : node ≡ node_in j turn) (h : IsStepping start b now first j f turn) where
    turn_inside : turn < nodes_of (world_of (start j.plan) j.log)
    turn_inside = let n = nodes_are (start j.plan) j.log in omega arith

    node_inside : node_in j turn < nodes_of (world_of (start j.plan) j.log)
    node_inside = let n = nodes_are (start j.plan) j.log in omega arith

    goes_at : IfSome (b.stop node) (λ s. now < s) → IfSome (b.stop (node_in j turn)) (λ s. now < s)
    goes_at member = subst (λ x. IfSome (b.stop x) (λ s. now < s)) is member

    pub stepping_count : IfSome (b.stop node) (λ s. now < s) → count_of j.log node ≡ now
    stepping_count member =
        ap (λ x. steps x (history j.log)) is
        ∙ steps_now (world_of (start j.plan) j.log) b now (some_nodes j some) (history j.log) turn
        turn_inside node_inside (goes_at member) h.taken

    turn_now : turn_in b (nodes_of (world_of (start j.plan) j.log)) now node ≡ turn
    turn_now = ap (turn_in b (nodes_of (world_of (start j.plan) j.log)) now) is
        ∙ turn_at (world_of (start j.plan) j.log) b now (some_nodes j some) turn turn_inside

    pub stepping_next : (k : Recorded P) (g : Flight) → IfSome (b.stop node) (λ s. now < s)
        → k.plan ≡ j.plan → IsOneMore j.log k.log (Step node) → IsFlightIn (start k.plan) k.log b g
        → NoneBefore g (now + 1) → IsStepping start b now first k g (turn + 1)
    stepping_next k g member same more flight waits = record {
      same = same_run first j k (Step node) h.same same more;
      paced = on_record start j k (Step node)
          (λ w t. IsPaced w b (now + 1) (turn_key now (turn + 1)) t g) same more
          (paced_step (world_of (start j.plan) j.log) b (now + 1) now turn node (history j.log) f g
          member (stepping_count member) turn_now h.paced
          (off_record start j k (Step node) (λ w t. HoldsByTicks w b t g) same more flight));
      waits = waits;
      taken = on_record start j k (Step node) (λ w t. AreStepsIn w b t now (turn + 1)) same more
          (subst (λ x. AreStepsIn (world_of (start j.plan) j.log) b (Step x ∷ history j.log) now
          (turn + 1)) (sym is)
          (steps_stepped (world_of (start j.plan) j.log) b now (some_nodes j some) (history j.log)
          turn turn_inside (goes_at member) h.taken));
    }

    pub stepping_past : (IfSome (b.stop node) (λ s. now < s) → ⊥)
        → IsStepping start b now first j f (turn + 1)
    stepping_past stranger = record {
      same = h.same;
      paced = record {
        plan = h.paced.plan;
        events = h.paced.events;
        rising = h.paced.rising;
        before = all_before_turn;
        flight = h.paced.flight;
      };
      waits = h.waits;
      taken = steps_passed (world_of (start j.plan) j.log) b now (some_nodes j some) (history j.log)
          turn turn_inside
          (λ m. stranger (subst (λ x. IfSome (b.stop x) (λ s. now < s)) (sym is) m)) h.taken;
    }
      where
        all_before_turn : AllBefore (world_of (start j.plan) j.log) b (turn_key now (turn + 1))
            (history j.log)
        all_before_turn = all_before (world_of (start j.plan) j.log) b (turn_key now turn)
            (turn_key now (turn + 1)) (history j.log) (Turn refl refl (omega arith)) h.paced.before

  -- a tick is over
  pub stepping_last_paced : (first j : Recorded P) (f : Flight) (turn : ℕ)
      → IsStepping start b now first j f turn
      → IsPacedIn (start j.plan) j.log b (now + 1) (tick_key (now + 1)) f
  stepping_last_paced first j f turn h =
      tick_ends (world_of (start j.plan) j.log) b (now + 1) now turn (history j.log) f h.paced

  pub stepping_last_taken : (first j : Recorded P) (f : Flight) (turn : ℕ) → 0 < j.log.setup.nodes
      → turn ≡ j.log.setup.nodes → IsStepping start b now first j f turn
      → AreSteps (world_of (start j.plan) j.log) b (history j.log) (now + 1)
  stepping_last_taken first j f turn some last h =
      steps_end (world_of (start j.plan) j.log) b now (some_nodes j some) (history j.log)
      (subst (AreStepsIn (world_of (start j.plan) j.log) b (history j.log) now)
      (last ∙ sym (nodes_are (start j.plan) j.log)) h.taken)

-- after so many ticks
pub record IsTicked {P : Type 0} (start : P → ℕ → ℕ) (p : ProgramTree) (s : Setup) (plan : P)
    (b : Timing) (now : ℕ) (j : Recorded P) (f : Flight) : Type 0 where
  pub program : j.log.program ≡ p
  pub setup : j.log.setup ≡ s
  pub planned : j.plan ≡ plan
  pub paced : IsPacedIn (start j.plan) j.log b now (tick_key now) f
  pub waits : NoneBefore f now
  pub taken : AreSteps (world_of (start j.plan) j.log) b (history j.log) now

pub ticked_next : {P : Type 0} (start : P → ℕ → ℕ) (p : ProgramTree) (s : Setup) (plan : P)
    (b : Timing) (now : ℕ) (j k : Recorded P) (f g : Flight) → IsTicked start p s plan b now j f
    → IsSameRun j k
    → IsPacedIn (start k.plan) k.log b (now + 1) (tick_key (now + 1)) g → NoneBefore g (now + 1)
    → AreSteps (world_of (start k.plan) k.log) b (history k.log) (now + 1)
    → IsTicked start p s plan b (now + 1) k g
ticked_next start p s plan b now j k f g h same paced waits taken = record {
  program = same.program ∙ h.program;
  setup = same.setup ∙ h.setup;
  planned = same.planned ∙ h.planned;
  paced = paced;
  waits = waits;
  taken = taken;
}

no_steps : (i : ℕ) → steps i [] ≡ 0
unfolding steps
no_steps i = refl

no_flight : (w : World) (b : Timing) (f : Flight) → f.entries ≡ [] → HoldsByTicks w b [] f
no_flight w b f e = record {
  only = λ d k n is. absurd (none_waits f e d k n is);
  all = λ n a kept. absurd (grounded w n a);
}
  where
    none_waits : (f : Flight) → f.entries ≡ [] → (d k : ℕ) (n : Name) → waits_at f d k ≡ Some n → ⊥
    none_waits f e d k n is = let l = none_empty f (d + 1) (ap length e) d k n is in omega arith

    grounded : (w : World) (n : Name) → IsAloft w [] n → ⊥
    grounded w n a = let before =
        mark_before w [] n (let z = no_steps n.from in omega arith) in let flies = a.flies in cc

taken_first : (stop : Option ℕ) (i : ℕ) → steps i [] ≡ steps_in 0 stop
taken_first stop i = no_steps i ∙ none_by stop
  where
    none_by : (o : Option ℕ) → 0 ≡ steps_in 0 o
    none_by None = refl
    none_by (Some s) = omega arith

-- a run that begins
pub ticked_first : {P : Type 0} (start : P → ℕ → ℕ) (p : ProgramTree) (s : Setup) (plan : P)
    (b : Timing) (j : Recorded P) (f : Flight) → j ≡ record { plan = plan; log = opened p s }
    → IsPlan (world_of (start plan) (opened p s)) → f.entries ≡ [] → IsTicked start p s plan b 0 j f
ticked_first start p s plan b j f e planned empty =
    subst (λ (z : Recorded _). IsTicked start p s plan b 0 z f) (sym e) (record {
      program = refl;
      setup = refl;
      planned = refl;
      paced = record {
        plan = planned;
        events = each_none _;
        rising = each_none _;
        before = each_none _;
        flight = no_flight (world_of (start plan) (opened p s)) b f empty;
      };
      waits = λ d k n is. omega arith;
      taken = λ i l. taken_first (b.stop i) i;
    })

-- and one that ends
pub ticked_last : {P : Type 0} (start : P → ℕ → ℕ) (p : ProgramTree) (s : Setup) (plan : P)
    (b : Timing) (ticks : ℕ) (j : Recorded P) (f : Flight) → IsTicked start p s plan b ticks j f
    → IsTimedRun (world_of (start j.plan) j.log) b ticks (history j.log)
ticked_last start p s plan b ticks j f h =
    timed_run (world_of (start j.plan) j.log) b ticks (history j.log) f h.paced h.waits h.taken

-- ---- a step's slot

pub no_original : {P : Type 0} (start : P → ℕ → ℕ) (j k : Recorded P) (i now : ℕ) → k.plan ≡ j.plan
    → IsOneMore j.log k.log (Step i) → count_of j.log i ≡ now
    → IsNoMessageAt (world_of (start k.plan) k.log) now → (n : Name)
    → IsOriginal (world_of (start j.plan) j.log) n
    → steps i (history j.log) ≡ start j.plan n.round + n.to → ⊥
no_original start j k i now same more count none n o at =
    off_record start j k (Step i) (λ w t. IsNoMessageAt w now) same more none n o.named
    (sym count ∙ at)

-- the slot of a name
pub record IsSlotHere {P : Type 0} (start : P → ℕ → ℕ) (j : Recorded P) (i : ℕ)
    (m : Name) : Type 0 where
  pub original : IsOriginal (world_of (start j.plan) j.log) m
  pub own : m.from ≡ i
  pub at : count_of j.log i ≡ start j.plan m.round + m.to

pub slot_here : {P : Type 0} (start : P → ℕ → ℕ) (j k : Recorded P) (i now : ℕ) (m : Name)
    → k.plan ≡ j.plan → IsOneMore j.log k.log (Step i) → count_of j.log i ≡ now
    → IsMessageAt (world_of (start k.plan) k.log) i now m → IsSlotHere start j i m
slot_here start j k i now m same more count h =
    let here = off_record start j k (Step i) (λ w t. IsMessageAt w i now m) same more h in
    record {
      original = record { named = here.named; first = here.copy };
      own = here.from;
      at = count ∙ here.slot;
    }

-- what isn't in flight after its slot was silence
pub stays_down : {P : Type 0} (start : P → ℕ → ℕ) (b : Timing) (j k : Recorded P) (i : ℕ)
    (f : Flight) (m : Name) → IsPlan (world_of (start j.plan) j.log) → IsSlotHere start j i m
    → k.plan ≡ j.plan → IsOneMore j.log k.log (Step i) → (IsFlying (start k.plan) k.log m → ⊥)
    → IsFlightIn (start j.plan) j.log b f → IsFlightIn (start k.plan) k.log b f
stays_down start b j k i f m p s same more down h =
    on_record start j k (Step i) (λ w t. HoldsByTicks w b t f) same more
    (step_silent (world_of (start j.plan) j.log) p b i (history j.log) f m s.original s.own s.at
    (λ e. down (on_record start j k (Step i) (λ w t. mark_of w t m ≡ Flying) same more e)) h)

-- what is omitted takes off all the same
pub stays_aloft : {P : Type 0} (start : P → ℕ → ℕ) (b : Timing) (j k : Recorded P) (i : ℕ)
    (f : Flight) (m : Name) → IsPlan (world_of (start j.plan) j.log) → IsSlotHere start j i m
    → k.plan ≡ j.plan → IsOneMore j.log k.log (Step i) → IsFlying (start k.plan) k.log m
    → b.omits m ≡ true → IsFlightIn (start j.plan) j.log b f → IsFlightIn (start k.plan) k.log b f
stays_aloft start b j k i f m p s same more up omitted h =
    let flies = off_record start j k (Step i) (λ w t. mark_of w t m ≡ Flying) same more up in
    on_record start j k (Step i) (λ w t. HoldsByTicks w b t f) same more
    (step_omitted (world_of (start j.plan) j.log) p b i (history j.log) f m s.original s.own s.at
    flies omitted h)

-- what isn't is put into the flight
pub takes_off : {P : Type 0} (start : P → ℕ → ℕ) (b : Timing) (j k : Recorded P) (i now count : ℕ)
    (f g : Flight) (m : Name) (key : ℕ × ℕ) → IsPlan (world_of (start j.plan) j.log)
    → IsSlotHere start j i m → k.plan ≡ j.plan → IsOneMore j.log k.log (Step i)
    → count_of j.log i ≡ now → count ≡ sent (world_of (start j.plan) j.log) (history j.log)
    → key.0 ≡ b.due (record { name = m; sent_at = now; serial = count }) → key.1 ≡ count
    → IsFlying (start k.plan) k.log m → b.omits m ≡ false
    → (waits_at g key.0 key.1 ≡ Some m)
    × ((d k : ℕ) → IsOther key.0 key.1 d k → waits_at g d k ≡ waits_at f d k)
    → IsFlightIn (start j.plan) j.log b f → IsFlightIn (start k.plan) k.log b g
takes_off start b j k i now count f g m key p s same more number counted due turn up goes x h =
    let w = world_of (start j.plan) j.log in
    let t = history j.log in
    let flies = off_record start j k (Step i) (λ w t. mark_of w t m ≡ Flying) same more up in
    let place : key.1 ≡ sent w t = turn ∙ counted in
    let step : now ≡ w.start m.round + m.to = sym number ∙ s.at in
    let tick : key.0 ≡ due_in w b (Step i ∷ t) m =
    due ∙ ap (λ z. b.due (record { name = m; sent_at = z; serial = count })) step
    ∙ ap (λ z. b.due (record { name = m; sent_at = w.start m.round + m.to; serial = z }))
    (counted ∙ sym (serial_spoken w p b i t f m s.original s.own s.at)) in
    on_record start j k (Step i) (λ w t. HoldsByTicks w b t g) same more
    (step_spoken w p b i t f m s.original s.own s.at g goes flies
    (sym (ap (λ z. waits_at g z (sent w t)) tick) ∙ sym (ap (waits_at g key.0) place) ∙ x.0)
    (λ d n o. x.1 d n (λ y. o (y.0 ∙ tick, y.1 ∙ place))) h)
