-- A lockstep run as it goes on by one event.
use Rattle.std.proofs.Common.{◌≡◌, ℕ, suc, ◌+◌, ◌<◌, ◌≤◌, Bool, true, false, ltb, List}
use Rattle.std.proofs.Common.{◌∷◌, Option, Some, None, is_some, reverse, sym, ap, subst, refl}
use Rattle.std.proofs.Common.{◌∙◌, arith, ◌⊎◌, inl, inr}
use Rattle.std.specs.Prelude.{IfSome}
use Rattle.std.proofs.lemmas.Bool.{and_from, cases_Bool, cases_eq, eq-eqb, eqb-true}
use Rattle.policies.specs.declared.bounded.Bounded.{Bounded}
use Rattle.policies.specs.Policies.{delay_of}
use Rattle.round_lang.specs.declared.value.Value.{Value}
use Rattle.step_book.specs.declared.mark.Mark.TheVariants.{Flying}
use Rattle.step_book.specs.Fates.{is_slot}
use Rattle.step_book.specs.History.{mark_of, message, spoken}
use Rattle.step_book.specs.Log.{Recorded, history, world_of}
use Rattle.step_book.specs.Trace.{steps}
use Rattle.step_book.specs.Work.{sent_name}
use Rattle.step_book.specs.World.{IsPlan, World, nodes_of}
use Rattle.step_book.proofs.Keeps.{slots_same}
use Rattle.step_book.proofs.Kept.{mark_now}
use Rattle.step_book.proofs.Leaves.{happened_first}
use Rattle.step_book.proofs.Names.{name_same}
use Rattle.run_events.specs.declared.event.Event.{Event}
use Rattle.run_events.specs.declared.event.Event.TheVariants.{Step, Release, Drop, Copy}
use Rattle.run_events.specs.declared.in_flight.InFlight.{InFlight}
use Rattle.run_events.specs.declared.name.Name.{Name}
use Rattle.adversary.specs.Driving.{IsOneMore}
use Rattle.lockstep_runs.specs.Changes.{due_by}
use Rattle.lockstep_runs.specs.Timing.{Timing}
use Rattle.lockstep_runs.specs.Lockstep.{AllBefore, IsAloft, IsBefore, IsTimedRun}
use Rattle.lockstep_runs.specs.Lockstep.{IsOriginal, Key, MayHappen, Part, Tick, Turn, due_in}
use Rattle.lockstep_runs.specs.Lockstep.{key_of, turn_in}
use Rattle.lockstep_runs.specs.Pacing.{AreSteps, Flies, Flight, HoldsByTicks, IsOther, IsPaced}
use Rattle.lockstep_runs.specs.Pacing.{IsPopped, NoneBefore, due_key, tick_key, waits_at}
use Rattle.step_book.specs.Serials.{sends, sent, serial}
use Rattle.lockstep_runs.proofs.Flights.{flight_kept, flight_less, flight_more, left, release_came}
use Rattle.lockstep_runs.proofs.Flights.{release_stays, step_came, step_stays}
use Rattle.lockstep_runs.proofs.Keys.{all_before, all_before_tick, each_map, each_more}
use Rattle.step_book.proofs.Serials.{no_send, sends_at, sent_more, sent_same, serial_now, slot_on}
use Rattle.lockstep_runs.proofs.Turns.{turn_key}

-- what holds of the events of a run holds of its record
pub on_record : {P : Type 0} (start : P → ℕ → ℕ) (j k : Recorded P) (e : Event)
    (Q : World → List Event → Type 0) → k.plan ≡ j.plan → IsOneMore j.log k.log e
    → Q (world_of (start j.plan) j.log) (e ∷ history j.log)
    → Q (world_of (start k.plan) k.log) (history k.log)
on_record {P} start j k e Q same g h =
    let world : world_of (start k.plan) k.log ≡ world_of (start j.plan) j.log =
    (let a = g.program in let b = g.setup in rw (same, a, b) refl) in
    let past : history k.log ≡ e ∷ history j.log = ap reverse g.trace ∙ happened_first j.log e in
    subst (λ (w : World). Q w (history k.log)) (sym world)
    (subst (Q (world_of (start j.plan) j.log)) (sym past) h)

-- and of its record what holds of the events
pub off_record : {P : Type 0} (start : P → ℕ → ℕ) (j k : Recorded P) (e : Event)
    (Q : World → List Event → Type 0) → k.plan ≡ j.plan → IsOneMore j.log k.log e
    → Q (world_of (start k.plan) k.log) (history k.log)
    → Q (world_of (start j.plan) j.log) (e ∷ history j.log)
off_record {P} start j k e Q same g h =
    let world : world_of (start k.plan) k.log ≡ world_of (start j.plan) j.log =
    (let a = g.program in let b = g.setup in rw (same, a, b) refl) in
    let past : history k.log ≡ e ∷ history j.log = ap reverse g.trace ∙ happened_first j.log e in
    subst (Q (world_of (start j.plan) j.log)) past
    (subst (λ (w : World). Q w (history k.log)) world h)

-- a delay by the table is one tick at least
delay_some_by : (b : Bounded) (m : InFlight) (early : Bool) → ltb m.sent_at b.gst ≡ early
    → 1 ≤ b.delta → 1 ≤ delay_of b m
delay_some_by b m true e l = rw e (omega arith)
delay_some_by b m false e l = rw e (omega arith)

-- and so is one of a single message
pub later : (b : Bounded) (own : Option ℕ) (m : InFlight) → 1 ≤ b.delta
    → m.sent_at + 1 ≤ due_by b own m
later b None m l = let some = delay_some_by b m _ refl l in omega arith
later b (Some delay) m l = omega arith

waits_by : (f g : Flight) (due turn tick d k : ℕ) (n : Name) → tick ≤ due → NoneBefore f tick
    → ((d k : ℕ) → IsOther due turn d k → waits_at g d k ≡ waits_at f d k) → waits_at g d k ≡ Some n
    → (d ≡ due) ⊎ (d ≡ due → ⊥) → tick ≤ d
waits_by f g due turn tick d k n l h others is (inl same) = omega arith
waits_by f g due turn tick d k n l h others is (inr apart) =
    h d k n (sym (others d k (λ x. apart x.0)) ∙ is)

-- what takes off is due later too
pub waits_more : (f g : Flight) (due turn tick : ℕ) → tick ≤ due → NoneBefore f tick
    → ((d k : ℕ) → IsOther due turn d k → waits_at g d k ≡ waits_at f d k) → NoneBefore g tick
waits_more f g due turn tick l h others =
    λ d k n is. waits_by f g due turn tick d k n l h others is (cases_eq _ _)

module _ (w : World) (p : IsPlan w) (b : Timing) (i : ℕ) (t : List Event) where
  own_slot : (n : Name) → n.from ≡ i → steps i t ≡ w.start n.round + n.to
      → is_slot w n (Step i) t ≡ true
  own_slot n own at =
      and_from _ _ (eq-eqb i n.from (sym own)) (eq-eqb _ _ (ap (λ x. steps x t) own ∙ at))

  slot_own : (n : Name) → is_slot w n (Step i) t ≡ true
      → (i ≡ n.from) × (steps i t ≡ w.start n.round + n.to)
  slot_own n h = let on = slot_on w n (Step i) t h in let own : i ≡ n.from =
      eqb-true i n.from on.0 in (own, ap (λ x. steps x t) own ∙ on.1)

  -- a step that is no slot
  module _ (f : Flight) (inside : i < nodes_of w) (none : (n : Name) → IsOriginal w n
      → steps i t ≡ w.start n.round + n.to → ⊥) where
    quiet : sends w (Step i) t ≡ false
    quiet = no_send w t i (λ r k l m at. none (sent_name i k (suc r)) (record {
      named = record {
        from = inside;
        to = m;
        first = omega arith;
        last = omega arith;
        copy =
            omega arith;
      };
      first = refl;
    }) at)

    came_quiet : (n : Name) → IsAloft w (Step i ∷ t) n → (is_slot w n (Step i) t ≡ true)
        ⊎ (is_slot w n (Step i) t ≡ false) → IsAloft w t n
    came_quiet n a (inl h) = absurd (none n a.original (slot_own n h).1)
    came_quiet n a (inr h) = step_came w p i t n h a

    pub sent_quiet : sent w (Step i ∷ t) ≡ sent w t
    sent_quiet = sent_same w (Step i) t quiet

    pub step_quiet : HoldsByTicks w b t f → HoldsByTicks w b (Step i ∷ t) f
    step_quiet h = flight_kept w b (Step i) t f (let same = sent_quiet in omega arith)
        (step_stays w p i t) (λ n a kept. came_quiet n a (cases_Bool _)) h

  -- a slot
  module _ (f : Flight) (m : Name) (original : IsOriginal w m) (own : m.from ≡ i)
      (at : steps i t ≡ w.start m.round + m.to) where
    one_slot : (n : Name) → IsOriginal w n → is_slot w n (Step i) t ≡ true → n ≡ m
    one_slot n o h =
        let on = slot_own n h in
        let one = slots_same w p n m (steps i t) o.named original.named on.1 at in
        name_same n m (sym on.0 ∙ sym own) one.1 one.0 (o.first ∙ sym original.first)

    marked_now : mark_of w (Step i ∷ t) m ≡ spoken (message w t m)
    marked_now = mark_now w p (Step i) t m original.named.first original.named.last original.first
        (eq-eqb i m.from (sym own)) (ap (λ x. steps x t) own ∙ at)

    said_by : (x : Option (List Value)) → (spoken x ≡ Flying → ⊥) → is_some x ≡ false
    said_by None h = refl
    said_by (Some y) h = absurd (h refl)

    said_at : (x : Option (List Value)) → spoken x ≡ Flying → is_some x ≡ true
    said_at None h = absurd cc
    said_at (Some y) h = refl

    sends_now : sends w (Step i) t ≡ is_some (message w t m)
    sends_now = sends_at w p m (Step i) t original.named original.first (own_slot m own at)

    came_by : (n : Name) → IsAloft w (Step i ∷ t) n → (is_slot w n (Step i) t ≡ true)
        ⊎ (is_slot w n (Step i) t ≡ false) → (n ≡ m) ⊎ IsAloft w t n
    came_by n a (inl h) = inl (one_slot n a.original h)
    came_by n a (inr h) = inr (step_came w p i t n h a)

    came : (n : Name) → IsAloft w (Step i ∷ t) n → (n ≡ m) ⊎ IsAloft w t n
    came n a = came_by n a (cases_Bool _)

    came_silent : (mark_of w (Step i ∷ t) m ≡ Flying → ⊥) → (n : Name) → IsAloft w (Step i ∷ t) n
        → (n ≡ m) ⊎ IsAloft w t n → IsAloft w t n
    came_silent silent n a (inl same) =
        absurd (silent (subst (λ (x : Name). mark_of w (Step i ∷ t) x ≡ Flying) same a.flies))
    came_silent silent n a (inr old) = old

    pub sent_silent : (mark_of w (Step i ∷ t) m ≡ Flying → ⊥) → sent w (Step i ∷ t) ≡ sent w t
    sent_silent silent =
        sent_same w (Step i) t (sends_now ∙ said_by (message w t m) (λ e. silent (marked_now ∙ e)))

    -- with silence
    pub step_silent : (mark_of w (Step i ∷ t) m ≡ Flying → ⊥) → HoldsByTicks w b t f
        → HoldsByTicks w b (Step i ∷ t) f
    step_silent silent h =
        flight_kept w b (Step i) t f (let same = sent_silent silent in omega arith)
        (step_stays w p i t) (λ n a kept. came_silent silent n a (came n a)) h

    pub sent_spoken : mark_of w (Step i ∷ t) m ≡ Flying → sent w (Step i ∷ t) ≡ sent w t + 1
    sent_spoken flies =
        sent_more w (Step i) t (sends_now ∙ said_at (message w t m) (sym marked_now ∙ flies))

    pub serial_spoken : serial w (Step i ∷ t) m ≡ sent w t
    serial_spoken = serial_now w m (Step i) t (own_slot m own at)

    came_omitted : b.omits m ≡ true → (n : Name) → b.omits n ≡ false → (n ≡ m) ⊎ IsAloft w t n
        → IsAloft w t n
    came_omitted omitted n kept (inl same) =
        let both : true ≡ false = sym omitted ∙ sym (ap b.omits same) ∙ kept in absurd cc
    came_omitted omitted n kept (inr old) = old

    -- with a message that is omitted
    pub step_omitted : mark_of w (Step i ∷ t) m ≡ Flying → b.omits m ≡ true → HoldsByTicks w b t f
        → HoldsByTicks w b (Step i ∷ t) f
    step_omitted flies omitted h =
        flight_kept w b (Step i) t f (let more = sent_spoken flies in omega arith)
        (step_stays w p i t) (λ n a kept. came_omitted omitted n kept (came n a)) h

    -- with a message
    pub step_spoken : (g : Flight) → b.omits m ≡ false → mark_of w (Step i ∷ t) m ≡ Flying
        → waits_at g (due_in w b (Step i ∷ t) m) (sent w t) ≡ Some m
        → ((d k : ℕ) → IsOther (due_in w b (Step i ∷ t) m) (sent w t) d k
        → waits_at g d k ≡ waits_at f d k) → HoldsByTicks w b t f → HoldsByTicks w b (Step i ∷ t) g
    step_spoken g goes flies here others h =
        flight_more w b (Step i) t f g m (sent_spoken flies) (step_stays w p i t)
        (record { original = original; flies = flies }) goes serial_spoken here others h came

-- ---- the schedule so far

pub paced_step : (w : World) (b : Timing) (ticks tick turn i : ℕ) (t : List Event) (f g : Flight)
    → IfSome (b.stop i) (λ s. tick < s) → steps i t ≡ tick → turn_in b (nodes_of w) tick i ≡ turn
    → IsPaced w b ticks (turn_key tick turn) t f
    → HoldsByTicks w b (Step i ∷ t) g → IsPaced w b ticks (turn_key tick (turn + 1)) (Step i ∷ t) g
paced_step w b ticks tick turn i t f g member number at h flight =
    let key : key_of w b (Step i) t ≡ turn_key tick turn =
    ap (λ x. record { tick = x; part = 1; turn = turn_in b (nodes_of w) x i }) number
    ∙ ap (turn_key tick) at in
    let up : IsBefore (turn_key tick turn) (turn_key tick (turn + 1)) =
    Turn refl refl (omega arith) in
    record {
      plan = h.plan;
      events = each_more (MayHappen w b ticks) (Step i) t
          (subst (λ x. IfSome (b.stop i) (λ s. x < s)) (sym number) member) h.events;
      rising = each_more (λ e past. AllBefore w b (key_of w b e past) past) (Step i) t
          (subst (λ (k : Key). AllBefore w b k t) (sym key) h.before) h.rising;
      before = each_more (λ e past. IsBefore (key_of w b e past) (turn_key tick (turn + 1)))
          (Step i) t
          (subst (λ (k : Key). IsBefore k (turn_key tick (turn + 1))) (sym key) up)
          (all_before w b (turn_key tick turn) (turn_key tick (turn + 1)) t up h.before);
      flight = flight;
    }

-- what waits comes after all that happened
abbrev pub IsAhead : World → Timing → List Event → Flight → Type 0
IsAhead w b t f = (d k : ℕ) (n : Name) → waits_at f d k ≡ Some n → AllBefore w b (due_key d k) t

-- in the releases of a tick
pub record IsReleasingIn (w : World) (b : Timing) (now : ℕ) (t : List Event)
    (f : Flight) : Type 0 where
  pub paced : IsPaced w b (now + 1) (turn_key now 0) t f
  pub ahead : IsAhead w b t f
  pub waits : NoneBefore f now

may_later : (w : World) (b : Timing) (ticks : ℕ) (e : Event) (past : List Event)
    → MayHappen w b ticks e past → MayHappen w b (ticks + 1) e past
may_later w b ticks (Step i) past h = h
may_later w b ticks (Release n) past h =
    record { aloft = h.aloft; kept = h.kept; due = omega (arith, h.due) }
may_later w b ticks (Drop n) past h = h
may_later w b ticks (Copy n) past h = h

pub releasing_begins : (w : World) (b : Timing) (now : ℕ) (t : List Event) (f : Flight)
    → IsPaced w b now (tick_key now) t f → NoneBefore f now → IsReleasingIn w b now t f
releasing_begins w b now t f h waits = record {
  paced = record {
    plan = h.plan;
    events = each_map _ _ t (may_later w b now) h.events;
    rising = h.rising;
    before = all_before w b (tick_key now) (turn_key now 0) t (Part refl (omega arith)) h.before;
    flight = h.flight;
  };
  ahead = λ d k n is. all_before_tick w b (due_key d k) now t (waits d k n is) h.before;
  waits = waits;
}

pub tick_ends : (w : World) (b : Timing) (ticks now turn : ℕ) (t : List Event) (f : Flight)
    → IsPaced w b ticks (turn_key now turn) t f → IsPaced w b ticks (tick_key (now + 1)) t f
tick_ends w b ticks now turn t f h = record {
  plan = h.plan;
  events = h.events;
  rising = h.rising;
  before = all_before w b (turn_key now turn) (tick_key (now + 1)) t (Tick (omega arith)) h.before;
  flight = h.flight;
}

pub sent_release : (w : World) (n : Name) (t : List Event) → sent w (Release n ∷ t) ≡ sent w t
sent_release w n t = sent_same w (Release n) t refl

pub steps_release : (i : ℕ) (n : Name) (t : List Event) → steps i (Release n ∷ t) ≡ steps i t
unfolding steps
steps_release i n t = refl

module _ (w : World) (b : Timing) (now : ℕ) (t : List Event) (f g : Flight) (m : Name)
    (h : IsReleasingIn w b now t f) (x : IsPopped f g now m) where
  landed : Flies w b t x.due x.turn m
  landed = h.paced.flight.only x.due x.turn m x.there

  pub popped_aloft : IsAloft w t m
  popped_aloft = landed.aloft

  popped_key : key_of w b (Release m) t ≡ due_key x.due x.turn
  popped_key =
      ap (λ d. due_key d (serial w t m)) (sym landed.due) ∙ ap (due_key x.due) (sym landed.place)

  left_of : (d k : ℕ) (n : Name) → waits_at g d k ≡ Some n → waits_at f d k ≡ Some n
  left_of d k n is =
      (left w b (Release m) t f g m x.due x.turn (sent_release w m t)
      (release_stays w h.paced.plan m t) x.there x.gone x.others h.paced.flight d k n is).0

  flight_released : HoldsByTicks w b (Release m ∷ t) g
  flight_released =
      flight_less w b (Release m) t f g m x.due x.turn (sent_release w m t)
      (release_stays w h.paced.plan m t) x.there x.gone x.others h.paced.flight
      (λ n a. release_came w h.paced.plan m t n popped_aloft a)

  in_tick : x.due ≡ now
  in_tick = let low = h.waits x.due x.turn m x.there in let high = x.by_then in omega arith

  before_turns : IsBefore (due_key x.due x.turn) (turn_key now 0)
  before_turns = Part in_tick (omega arith)

  pub releasing_on : IsReleasingIn w b now (Release m ∷ t) g
  releasing_on = record {
    paced = record {
      plan = h.paced.plan;
      events = each_more (MayHappen w b (now + 1)) (Release m) t
          (record {
            aloft = popped_aloft;
            kept = landed.kept;
            due =
                (let d = landed.due in let l = x.by_then in omega arith);
          }) h.paced.events;
      rising = each_more (λ e past. AllBefore w b (key_of w b e past) past) (Release m) t
          (subst (λ (k : Key). AllBefore w b k t) (sym popped_key) (h.ahead x.due x.turn m x.there))
          h.paced.rising;
      before = each_more (λ e past. IsBefore (key_of w b e past) (turn_key now 0)) (Release m) t
          (subst (λ (k : Key). IsBefore k (turn_key now 0)) (sym popped_key) before_turns)
          h.paced.before;
      flight = flight_released;
    };
    ahead = λ d k n is. each_more (λ e past. IsBefore (key_of w b e past) (due_key d k)) (Release m)
        t
        (subst (λ (y : Key). IsBefore y (due_key d k)) (sym popped_key) (x.least d k n is))
        (h.ahead d k n (left_of d k n is));
    waits = λ d k n is. h.waits d k n (left_of d k n is);
  }

-- after the last tick
pub timed_run : (w : World) (b : Timing) (ticks : ℕ) (t : List Event) (f : Flight)
    → IsPaced w b ticks (tick_key ticks) t f → NoneBefore f ticks → AreSteps w b t ticks
    → IsTimedRun w b ticks t
timed_run w b ticks t f h waits taken = record {
  events = h.events;
  rising = h.rising;
  steps = taken;
  released = λ n a. by n a (cases_Bool _);
}
  where
    by : (n : Name) → IsAloft w t n → (b.omits n ≡ true) ⊎ (b.omits n ≡ false)
        → (b.omits n ≡ true) ⊎ (ticks ≤ due_in w b t n)
    by n a (inl omitted) = inl omitted
    by n a (inr kept) = inr (waits _ _ n (h.flight.all n a kept))
