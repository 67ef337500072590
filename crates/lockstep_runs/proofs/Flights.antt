-- The messages in flight as a history grows by one event.
use Rattle.std.proofs.Common.{◌≡◌, ℕ, ◌+◌, ◌<◌, ◌≤◌, true, false, List, ◌∷◌, Some}
use Rattle.std.proofs.Common.{None, sym, ap, subst, refl, ◌∙◌, arith, ◌⊎◌, inl, inr}
use Rattle.std.proofs.lemmas.Bool.{cases_Bool, cases_eq}
use Rattle.step_book.specs.declared.mark.Mark.TheVariants.{Flying}
use Rattle.step_book.specs.Fates.{is_slot}
use Rattle.step_book.specs.History.{counted, let_go, mark_of}
use Rattle.step_book.specs.Trace.{steps}
use Rattle.step_book.specs.World.{IsPlan, World}
use Rattle.step_book.proofs.Keeps.{released_other}
use Rattle.step_book.proofs.Kept.{mark_before, mark_kept, mark_release}
use Rattle.step_book.proofs.Names.{name_cases}
use Rattle.run_events.specs.declared.event.Event.{Event}
use Rattle.run_events.specs.declared.event.Event.TheVariants.{Step, Release}
use Rattle.run_events.specs.declared.name.Name.{Name}
use Rattle.lockstep_runs.specs.Lockstep.{IsAloft, due_in}
use Rattle.lockstep_runs.specs.Pacing.{Flies, Flight, HoldsByTicks, IsOther, waits_at}
use Rattle.lockstep_runs.specs.Timing.{Timing}
use Rattle.step_book.specs.Serials.{sent, serial}
use Rattle.step_book.proofs.Serials.{serial_kept, slot_on}

-- a message stays in flight with its serial
pub record Stays (w : World) (e : Event) (t : List Event) (n : Name) : Type 0 where
  pub aloft : IsAloft w (e ∷ t) n
  pub serial : serial w (e ∷ t) n ≡ serial w t n

module _ (w : World) (b : Timing) where
  due_same : (t u : List Event) (n : Name) → serial w u n ≡ serial w t n
      → due_in w b u n ≡ due_in w b t n
  due_same t u n h =
      ap (λ k. b.due (record { name = n; sent_at = w.start n.round + n.to; serial = k })) h

  flies_on : (e : Event) (t : List Event) (d k : ℕ) (n : Name) → sent w t ≤ sent w (e ∷ t)
      → Stays w e t n → Flies w b t d k n → Flies w b (e ∷ t) d k n
  flies_on e t d k n up s h = record {
    aloft = s.aloft;
    kept = h.kept;
    due = h.due ∙ sym (due_same t (e ∷ t) n s.serial);
    place = h.place ∙ sym s.serial;
    sent = (let l = h.sent in omega arith);
  }

  waits_on : (e : Event) (t : List Event) (f : Flight) (n : Name) → Stays w e t n
      → waits_at f (due_in w b t n) (serial w t n) ≡ Some n
      → waits_at f (due_in w b (e ∷ t) n) (serial w (e ∷ t) n) ≡ Some n
  waits_on e t f n s h =
      subst (λ k. waits_at f
      (b.due (record { name = n; sent_at = w.start n.round + n.to; serial = k })) k ≡ Some n)
      (sym s.serial) h

  -- nothing that isn't omitted takes off, and nothing lands
  pub flight_kept : (e : Event) (t : List Event) (f : Flight) → sent w t ≤ sent w (e ∷ t)
      → ((n : Name) → IsAloft w t n → Stays w e t n)
      → ((n : Name) → IsAloft w (e ∷ t) n → b.omits n ≡ false → IsAloft w t n) → HoldsByTicks w b t f
      → HoldsByTicks w b (e ∷ t) f
  flight_kept e t f up stays came h = record {
    only = λ d k n g. (let old = h.only d k n g in flies_on e t d k n up (stays n old.aloft) old);
    all = λ n a kept.
        (let old = came n a kept in waits_on e t f n (stays n old) (h.all n old kept));
  }

  -- a message takes off
  module _ (e : Event) (t : List Event) (f g : Flight) (m : Name)
      (more : sent w (e ∷ t) ≡ sent w t + 1) (stays : (n : Name) → IsAloft w t n → Stays w e t n)
      (now : IsAloft w (e ∷ t) m) (goes : b.omits m ≡ false) (last : serial w (e ∷ t) m ≡ sent w t)
      (here : waits_at g (due_in w b (e ∷ t) m) (sent w t) ≡ Some m)
      (others : (d k : ℕ) → IsOther (due_in w b (e ∷ t) m) (sent w t) d k
      → waits_at g d k ≡ waits_at f d k) (h : HoldsByTicks w b t f) where
    only_old : (d k : ℕ) (n : Name) → waits_at f d k ≡ Some n → Flies w b (e ∷ t) d k n
    only_old d k n is = let old =
        h.only d k n is in flies_on e t d k n (omega arith) (stays n old.aloft) old

    only_by : (d k : ℕ) (n : Name) → waits_at g d k ≡ Some n → (d ≡ due_in w b (e ∷ t) m)
        ⊎ (d ≡ due_in w b (e ∷ t) m → ⊥) → (k ≡ sent w t) ⊎ (k ≡ sent w t → ⊥)
        → Flies w b (e ∷ t) d k n
    only_by d k n is (inl due) (inl turn) =
        let both : Some m ≡ Some n = sym here ∙ ap (λ x. waits_at g x (sent w t)) (sym due)
        ∙ ap (waits_at g d) (sym turn) ∙ is in
        let same : m ≡ n = cc in
        subst (λ (x : Name). Flies w b (e ∷ t) d k x) same
        (record {
          aloft = now;
          kept = goes;
          due = due;
          place = turn ∙ sym last;
          sent =
              omega arith;
        })
    only_by d k n is (inr apart) c = only_old d k n (sym (others d k (λ x. apart x.0)) ∙ is)
    only_by d k n is (inl due) (inr apart) = only_old d k n (sym (others d k (λ x. apart x.1)) ∙ is)

    all_by : (n : Name) → b.omits n ≡ false → (n ≡ m) ⊎ IsAloft w t n
        → waits_at g (due_in w b (e ∷ t) n) (serial w (e ∷ t) n) ≡ Some n
    all_by n kept (inl same) =
        subst (λ (x : Name). waits_at g (due_in w b (e ∷ t) x) (serial w (e ∷ t) x) ≡ Some x)
        (sym same)
        (ap (waits_at g (due_in w b (e ∷ t) m)) last ∙ here)
    all_by n kept (inr old) =
        let s = stays n old in
        let was = h.only (due_in w b t n) (serial w t n) n (h.all n old kept) in
        let below : serial w t n < sent w t = was.sent in
        let place = s.serial in
        others (due_in w b (e ∷ t) n) (serial w (e ∷ t) n) (λ x. (let at = x.1 in omega arith))
        ∙ waits_on e t f n s (h.all n old kept)

    pub flight_more : ((n : Name) → IsAloft w (e ∷ t) n → (n ≡ m) ⊎ IsAloft w t n)
        → HoldsByTicks w b (e ∷ t) g
    flight_more came = record {
      only = λ d k n is. only_by d k n is (cases_eq _ _) (cases_eq _ _);
      all = λ n a kept. all_by n kept (came n a);
    }

  -- a message lands
  module _ (e : Event) (t : List Event) (f g : Flight) (m : Name) (due turn : ℕ)
      (same : sent w (e ∷ t) ≡ sent w t) (stays : (n : Name) → (n ≡ m → ⊥) → IsAloft w t n
      → Stays w e t n)
      (found : waits_at f due turn ≡ Some m) (gone : waits_at g due turn ≡ None)
      (others : (d k : ℕ) → IsOther due turn d k → waits_at g d k ≡ waits_at f d k)
      (h : HoldsByTicks w b t f) where
    -- what still waits did so before, elsewhere
    pub left_by : (d k : ℕ) (n : Name) → waits_at g d k ≡ Some n → (d ≡ due) ⊎ (d ≡ due → ⊥)
        → (k ≡ turn) ⊎ (k ≡ turn → ⊥) → (waits_at f d k ≡ Some n) × IsOther due turn d k
    left_by d k n is (inl same_due) (inl same_turn) =
        let both : Some n ≡ None = sym is ∙ ap (λ x. waits_at g x k) same_due
        ∙ ap (waits_at g due) same_turn ∙ gone in absurd cc
    left_by d k n is (inr apart) c = let other : IsOther due turn d k =
        λ x. apart x.0 in (sym (others d k other) ∙ is, other)
    left_by d k n is (inl same_due) (inr apart) = let other : IsOther due turn d k =
        λ x. apart x.1 in (sym (others d k other) ∙ is, other)

    pub left : (d k : ℕ) (n : Name) → waits_at g d k ≡ Some n → (waits_at f d k ≡ Some n)
        × IsOther due turn d k
    left d k n is = left_by d k n is (cases_eq _ _) (cases_eq _ _)

    only_left : (d k : ℕ) (n : Name) → (waits_at f d k ≡ Some n) × IsOther due turn d k
        → Flies w b (e ∷ t) d k n
    only_left d k n x =
        let old = h.only d k n x.0 in
        let landed = h.only due turn m found in
        let apart : n ≡ m → ⊥ = λ one. x.1 (
          old.due ∙ ap (λ (y : Name). due_in w b t y) one ∙ sym landed.due,
          old.place ∙ ap (λ (y : Name). serial w t y) one ∙ sym landed.place,
        ) in
        flies_on e t d k n (omega arith) (stays n apart old.aloft) old

    all_left : (n : Name) → (n ≡ m → ⊥) → IsAloft w t n → b.omits n ≡ false
        → waits_at g (due_in w b (e ∷ t) n) (serial w (e ∷ t) n) ≡ Some n
    all_left n apart old kept =
        let s = stays n apart old in
        let was = waits_on e t f n s (h.all n old kept) in
        let other : IsOther due turn (due_in w b (e ∷ t) n) (serial w (e ∷ t) n) = λ x. (
        let both : Some n ≡ Some m = sym was ∙ ap (λ y. waits_at f y (serial w (e ∷ t) n)) x.0
        ∙ ap (waits_at f due) x.1 ∙ found in
        let one : n ≡ m = cc in apart one) in
        others _ _ other ∙ was

    pub flight_less : ((n : Name) → IsAloft w (e ∷ t) n → (n ≡ m → ⊥) × IsAloft w t n)
        → HoldsByTicks w b (e ∷ t) g
    flight_less came = record {
      only = λ d k n is. only_left d k n (left d k n is);
      all = λ n a kept. (let old = came n a in all_left n old.0 old.1 kept);
    }

module _ (w : World) (p : IsPlan w) where
  -- what is in flight has its slot behind it
  aloft_slot_by : (e : Event) (t : List Event) (n : Name) → IsAloft w t n → (is_slot w n e t ≡ true)
      ⊎ (is_slot w n e t ≡ false) → is_slot w n e t ≡ false
  aloft_slot_by e t n a (inl h) =
      let at = (slot_on w n e t h).1 in
      let before = mark_before w t n (omega arith) in
      let flies = a.flies in
      absurd cc
  aloft_slot_by e t n a (inr h) = h

  pub aloft_slot : (e : Event) (t : List Event) (n : Name) → IsAloft w t n → is_slot w n e t ≡ false
  aloft_slot e t n a = aloft_slot_by e t n a (cases_Bool _)

  -- a step lands nothing
  pub step_stays : (i : ℕ) (t : List Event) (n : Name) → IsAloft w t n → Stays w (Step i) t n
  step_stays i t n a =
      let off = aloft_slot (Step i) t n a in
      record {
        aloft = record {
          original = a.original;
          flies = mark_kept w p (Step i) t n a.original.named.first
              a.original.named.last (λ c. off) refl refl refl ∙ a.flies;
        };
        serial = serial_kept w n (Step i) t off;
      }

  -- and only its slot makes a message take off
  pub step_came : (i : ℕ) (t : List Event) (n : Name) → is_slot w n (Step i) t ≡ false
      → IsAloft w (Step i ∷ t) n → IsAloft w t n
  step_came i t n off a = record {
    original = a.original;
    flies = sym
        (mark_kept w p (Step i) t n a.original.named.first a.original.named.last (λ c. off) refl
        refl refl) ∙ a.flies;
  }

  -- a release lands one message
  pub release_stays : (m : Name) (t : List Event) (n : Name) → (n ≡ m → ⊥) → IsAloft w t n
      → Stays w (Release m) t n
  release_stays m t n apart a = record {
    aloft = record {
      original = a.original;
      flies = released_other w p t m n a.original.named.first
          a.original.named.last apart ∙ a.flies;
    };
    serial = serial_kept w n (Release m) t refl;
  }

  release_came_by : (m : Name) (t : List Event) (n : Name) → IsAloft w t m
      → IsAloft w (Release m ∷ t) n → (n ≡ m) ⊎ (n ≡ m → ⊥) → (n ≡ m → ⊥) × IsAloft w t n
  release_came_by m t n up a (inl same) =
      let own = mark_release w p t m up.original.named.first up.original.named.last
      ∙ ap (let_go (counted w (steps m.to t))) up.flies in
      let flies : mark_of w (Release m ∷ t) m ≡ Flying =
      subst (λ (x : Name). mark_of w (Release m ∷ t) x ≡ Flying) same a.flies in
      absurd cc
  release_came_by m t n up a (inr apart) = (
    apart,
    record {
      original = a.original;
      flies = sym (released_other w p t m n a.original.named.first a.original.named.last apart)
          ∙ a.flies;
    },
  )

  pub release_came : (m : Name) (t : List Event) (n : Name) → IsAloft w t m
      → IsAloft w (Release m ∷ t) n → (n ≡ m → ⊥) × IsAloft w t n
  release_came m t n up a = release_came_by m t n up a (name_cases n m)
