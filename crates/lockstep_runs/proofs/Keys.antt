-- The order of keys, and what holds of each event.
use Rattle.std.proofs.Common.{ℕ, ◌<◌, ◌≤◌, List, [], ◌∷◌, ◌∙◌, arith}
use Rattle.step_book.specs.World.{World}
use Rattle.step_book.proofs.Moments.{At, Newest, Older}
use Rattle.run_events.specs.declared.event.Event.{Event}
use Rattle.lockstep_runs.specs.Lockstep.{AllBefore, Each, IsBefore, Key, Tick, Part, Turn}
use Rattle.lockstep_runs.specs.Timing.{Timing}

pub before_before : (a b c : Key) → IsBefore a b → IsBefore b c → IsBefore a c
before_before a b c (Tick l) (Tick m) = Tick (omega arith)
before_before a b c (Tick l) (Part e m) = Tick (omega arith)
before_before a b c (Tick l) (Turn e f m) = Tick (omega arith)
before_before a b c (Part e l) (Tick m) = Tick (omega arith)
before_before a b c (Part e l) (Part f m) = Part (e ∙ f) (omega arith)
before_before a b c (Part e l) (Turn f g m) = Part (e ∙ f) (omega arith)
before_before a b c (Turn e f l) (Tick m) = Tick (omega arith)
before_before a b c (Turn e f l) (Part g m) = Part (e ∙ g) (omega arith)
before_before a b c (Turn e f l) (Turn g h m) = Turn (e ∙ g) (f ∙ h) (omega arith)

-- what comes before a tick comes before all that isn't in an earlier tick
pub before_tick : (a b : Key) (tick : ℕ) → tick ≤ b.tick
    → IsBefore a (record { tick = tick; part = 0; turn = 0 }) → IsBefore a b
before_tick a b tick l (Tick m) = Tick (omega arith)
before_tick a b tick l (Part e m) = absurd (omega arith)
before_tick a b tick l (Turn e f m) = absurd (omega arith)

-- the first tick isn't the later one
pub before_ticks : (a b : Key) → IsBefore a b → a.tick ≤ b.tick
before_ticks a b (Tick l) = omega arith
before_ticks a b (Part e l) = omega arith
before_ticks a b (Turn e f l) = omega arith

-- if the first part is the later one, the first tick is the earlier one
pub before_parts : (a b : Key) → b.part < a.part → IsBefore a b → a.tick < b.tick
before_parts a b p (Tick l) = l
before_parts a b p (Part e l) = absurd (omega arith)
before_parts a b p (Turn e f l) = absurd (omega arith)

pub each_map : (F G : Event → List Event → Type 0) (t : List Event)
    → ((e : Event) (past : List Event) → F e past → G e past) → Each F t → Each G t
unfolding Each
each_map F G [] f h = tt
each_map F G (e ∷ past) f h = (f e past h.0, each_map F G past f h.1)

pub each_none : (F : Event → List Event → Type 0) → Each F []
unfolding Each
each_none F = tt

pub each_more : (F : Event → List Event → Type 0) (e : Event) (t : List Event) → F e t → Each F t
    → Each F (e ∷ t)
unfolding Each
each_more F e t h k = (h, k)

pub all_before : (w : World) (b : Timing) (k l : Key) (t : List Event) → IsBefore k l
    → AllBefore w b k t → AllBefore w b l t
all_before w b k l t h all = each_map _ _ t (λ e past m. before_before _ k l m h) all

pub all_before_tick : (w : World) (b : Timing) (k : Key) (tick : ℕ) (t : List Event) → tick ≤ k.tick
    → AllBefore w b (record { tick = tick; part = 0; turn = 0 }) t → AllBefore w b k t
all_before_tick w b k tick t h all = each_map _ _ t (λ e past m. before_tick _ k tick h m) all

-- what holds of each event holds of one
pub each_at : (F : Event → List Event → Type 0) (m : List Event) (e : Event) (t : List Event)
    → Each F t → At m e t → F e m
unfolding Each
each_at F m e [] h s = elim s [ ]
each_at F m e (d ∷ t) h Newest = h.0
each_at F m e (d ∷ t) h (Older d' t' s) = each_at F m e t h.1 s
