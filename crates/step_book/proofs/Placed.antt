-- What a history says of a copy, by places in the list of events.
use Rattle.std.proofs.Common.{◌≡◌, ℕ, zero, suc, ◌+◌, ◌==◌, ◌<◌, ◌≤◌, Bool, true, false, ◌&&◌, List}
use Rattle.std.proofs.Common.{[], ◌∷◌, length, Option, Some, sym, subst, refl, ap}
use Rattle.std.proofs.Common.{if◌then◌else◌, ◌∙◌, arith, ◌⊎◌, inl, inr}
use Rattle.std.specs.Prelude.{reverse}
use Rattle.std.specs.List.{count_by, slice_get}
use Rattle.std.proofs.lemmas.Bool.{cases_lt, and_from, and_parts, lt-ltb, ltb-true}
use Rattle.std.proofs.lemmas.Bool.{le-leb, leb-true, eq-eqb, eqb-true, or_cases}
use Rattle.std.proofs.lemmas.List.{length-reverse}
use Rattle.std.proofs.lemmas.Option.{same_Some, slice_get_within}
use Rattle.run_events.specs.declared.event.Event.{Event}
use Rattle.run_events.specs.declared.event.Event.TheVariants.{Step, Release, Drop, Copy}
use Rattle.run_events.specs.declared.name.Name.{Name}
use Rattle.run_events.specs.Names.{original}
use Rattle.step_book.specs.Fates.{Fate, Unmade, Moving, Waiting, Taken, Lost, after, carried, fate}
use Rattle.step_book.specs.Fates.{is_moving, is_slot, is_take, makes, taken_near}
use Rattle.step_book.specs.Places.{Copied, IsCarried, IsCarriedAs, IsCopiedAt, IsCopyAt, IsDropAt}
use Rattle.step_book.specs.Places.{IsFirstAfter, IsLeftAt, IsMadeAt, IsReceiveAt, IsReceiveOf}
use Rattle.step_book.specs.Places.{IsReleaseAt, IsSlotAt, IsStepAt, Sent, steps_before}
use Rattle.step_book.specs.Trace.{is_copy, is_drop, is_release, is_step, steps}
use Rattle.step_book.specs.World.{World, earliest, is_receive, nodes_of, receives_by}
use Rattle.step_book.specs.World.{receives_in}
use Rattle.step_book.proofs.Fates.{carried_by, copy_to, fate_first, fate_next, some_found, some_of}
use Rattle.step_book.proofs.Moments.{Newest, at_steps, at_within, place_at, read_newest}
use Rattle.step_book.proofs.Moments.{read_older, step_rises, take_older}
use Rattle.step_book.proofs.Names.{one_name, own_name}
use Rattle.step_book.proofs.Plans.{lies_within, receives_by_in}

-- ---- events

-- an event that is a step of the node is that step
pub step_event : (i : ℕ) (e : Event) → is_step i e ≡ true → e ≡ Step i
step_event i (Step k) h = ap Step (eqb-true k i h)
step_event i (Release m) h = cc
step_event i (Drop m) h = cc
step_event i (Copy m) h = cc

release_event : (n : Name) (e : Event) → is_release n e ≡ true → e ≡ Release n
release_event n (Step k) h = cc
release_event n (Release m) h = ap Release (one_name n m h)
release_event n (Drop m) h = cc
release_event n (Copy m) h = cc

drop_event : (n : Name) (e : Event) → is_drop n e ≡ true → e ≡ Drop n
drop_event n (Step k) h = cc
drop_event n (Release m) h = cc
drop_event n (Drop m) h = ap Drop (one_name n m h)
drop_event n (Copy m) h = cc

copy_event : (n : Name) (e : Event) → is_copy n e ≡ true → e ≡ Copy n
copy_event n (Step k) h = cc
copy_event n (Release m) h = cc
copy_event n (Drop m) h = cc
copy_event n (Copy m) h = ap Copy (one_name n m h)

pub is_it_step : (i : ℕ) (e : Event) → e ≡ Step i → is_step i e ≡ true
is_it_step i e h = ap (is_step i) h ∙ eq-eqb i i refl

is_it_release : (n : Name) (e : Event) → e ≡ Release n → is_release n e ≡ true
is_it_release n e h = ap (is_release n) h ∙ own_name n

is_it_drop : (n : Name) (e : Event) → e ≡ Drop n → is_drop n e ≡ true
is_it_drop n e h = ap (is_drop n) h ∙ own_name n

is_it_copy : (n : Name) (e : Event) → e ≡ Copy n → is_copy n e ≡ true
is_it_copy n e h = ap (is_copy n) h ∙ own_name n

-- ---- receives by rounds

receive_round_by : (w : World) (n x : ℕ) → suc n ≤ w.rounds
    → (receives_by w n x ≡ true) ⊎ (receives_in w (suc n) x ≡ true)
    → (receives_by w n x ≡ true → (r : ℕ) × IsReceiveOf w r x) → (r : ℕ) × IsReceiveOf w r x
receive_round_by w n x l (inl old) f = f old
receive_round_by w n x l (inr new) f =
    let both : (◌≡◌ {A = Bool} _ true) × (◌≡◌ {A = Bool} _ true) = and_parts _ _ new in (
      suc n,
      record {
        first = omega arith;
        last = l;
        after_sends = leb-true (w.start (suc n) + nodes_of w) x both.0;
        before_end = ltb-true x (w.start (suc n + 1)) both.1;
      },
    )

pub receive_round : (w : World) (n x : ℕ) → n ≤ w.rounds → receives_by w n x ≡ true
    → (r : ℕ) × IsReceiveOf w r x
receive_round w zero x l h = cc
receive_round w (suc n) x l h = receive_round_by w n x l (or_cases _ _ h)
    (λ old. receive_round w n x (omega arith) old)

pub round_receive : (w : World) (r x : ℕ) → IsReceiveOf w r x → is_receive w x ≡ true
round_receive w r x h =
    receives_by_in w w.rounds r x h.first h.last (cases_lt w.rounds (suc r))
    (and_from _ _ (le-leb _ _ h.after_sends) (lt-ltb _ _ h.before_end))

-- ---- places of a kind, as the list grows by one event

-- the places of a kind in a list of n events, and in the list with one event more
record Grows (Old New : ℕ → Type 0) (n : ℕ) (Here : Type 0) : Type 0 where
  kept : (p : ℕ) → Old p → New p
  was : (p : ℕ) → p < n → New p → Old p
  within : (p : ℕ) → Old p → p < n
  until : (p : ℕ) → New p → p ≤ n
  now : Here → New n
  is : New n → Here

module _ {Old New : ℕ → Type 0} {n : ℕ} {Here : Type 0} (g : Grows Old New n Here) where
  first_kept : (a b : ℕ) → IsFirstAfter Old a b → IsFirstAfter New a b
  first_kept a b f = record {
    later = f.later;
    there = g.kept b f.there;
    none = λ k low high new. f.none k low high
        (g.was k (let l = g.within b f.there in omega arith) new);
  }

  first_now : (a : ℕ) → a < n → ((k : ℕ) → a < k → Old k → ⊥) → Here → IsFirstAfter New a n
  first_now a l none here = record {
    later = l;
    there = g.now here;
    none = λ k low high new. none k low (g.was k high new);
  }

  none_kept : (a : ℕ) → ((k : ℕ) → a < k → Old k → ⊥) → (Here → ⊥) → (k : ℕ) → a < k → New k → ⊥
  none_kept a none off k l new = by (cases_lt k n)
    where
      by : (k < n) ⊎ (n ≤ k) → ⊥
      by (inl old) = none k l (g.was k old new)
      by (inr last) =
          let until = g.until k new in
          let same : k ≡ n = omega arith in
          off (g.is (subst New same new))

  none_past : (k : ℕ) → n < k → New k → ⊥
  none_past k l new = let until = g.until k new in omega arith

module _ (e : Event) (t : List Event) where
  abbrev old : List Event
  old = reverse t

  abbrev new : List Event
  new = reverse (e ∷ t)

  grows_event : (d : Event)
      → Grows (λ p. slice_get old p ≡ Some d) (λ p. slice_get new p ≡ Some d) (length t) (e ≡ d)
  grows_event d = record {
    kept = λ p h. read_older e t p (let l = slice_get_within old p d h in
        let n = length-reverse t in omega arith) ∙ h;
    was = λ p l h. sym (read_older e t p l) ∙ h;
    within = λ p h. (let l = slice_get_within old p d h in let n = length-reverse t in omega arith);
    until = λ p h. (let l = slice_get_within new p d h in let n = length-reverse (e ∷ t) in
        omega arith);
    now = λ h. read_newest e t ∙ ap Some h;
    is = λ h. same_Some e d (sym (read_newest e t) ∙ h);
  }

  grows_left : (n : Name)
      → Grows (IsLeftAt old n) (IsLeftAt new n) (length t) ((e ≡ Release n) ⊎ (e ≡ Drop n))
  grows_left n = record {
    kept = λ p h. kept p h;
    was = λ p l h. was p l h;
    within = λ p h. within p h;
    until = λ p h. until p h;
    now = λ h. now h;
    is = λ h. is h;
  }
    where
      kept : (p : ℕ) → IsLeftAt old n p → IsLeftAt new n p
      kept p (inl h) = inl ((grows_event (Release n)).kept p h)
      kept p (inr h) = inr ((grows_event (Drop n)).kept p h)

      was : (p : ℕ) → p < length t → IsLeftAt new n p → IsLeftAt old n p
      was p l (inl h) = inl ((grows_event (Release n)).was p l h)
      was p l (inr h) = inr ((grows_event (Drop n)).was p l h)

      within : (p : ℕ) → IsLeftAt old n p → p < length t
      within p (inl h) = (grows_event (Release n)).within p h
      within p (inr h) = (grows_event (Drop n)).within p h

      until : (p : ℕ) → IsLeftAt new n p → p ≤ length t
      until p (inl h) = (grows_event (Release n)).until p h
      until p (inr h) = (grows_event (Drop n)).until p h

      now : (e ≡ Release n) ⊎ (e ≡ Drop n) → IsLeftAt new n (length t)
      now (inl h) = inl ((grows_event (Release n)).now h)
      now (inr h) = inr ((grows_event (Drop n)).now h)

      is : IsLeftAt new n (length t) → (e ≡ Release n) ⊎ (e ≡ Drop n)
      is (inl h) = inl ((grows_event (Release n)).is h)
      is (inr h) = inr ((grows_event (Drop n)).is h)

  -- the steps before an old place stay, and those before the new one are all
  count_older : (i p : ℕ) → p ≤ length t → steps_before new i p ≡ steps_before old i p
  count_older i p l = ap (count_by (is_step i)) (take_older e t p l)

  count_newest : (i : ℕ) → steps_before new i (length t) ≡ steps i t
  count_newest i = at_steps i t e (e ∷ t) Newest

  grows_step : (i c : ℕ)
      → Grows (IsStepAt old i c) (IsStepAt new i c) (length t) ((e ≡ Step i) × (steps i t ≡ c))
  grows_step i c =
      let g = grows_event (Step i) in
      record {
        kept = λ p h. record {
          there = g.kept p h.there;
          number = count_older i p (let l = g.within p h.there in omega arith) ∙ h.number;
        };
        was = λ p l h. record {
          there = g.was p l h.there;
          number = sym (count_older i p (omega arith)) ∙ h.number;
        };
        within = λ p h. g.within p h.there;
        until = λ p h. g.until p h.there;
        now = λ h. record { there = g.now h.0; number = count_newest i ∙ h.1 };
        is = λ h. (g.is h.there, sym (count_newest i) ∙ h.number);
      }

  grows_receive : (w : World) (i : ℕ)
      → Grows (IsReceiveAt w old i) (IsReceiveAt w new i) (length t) ((e ≡ Step i)
      × (is_receive w (steps i t) ≡ true))
  grows_receive w i = record {
    kept = λ p h. record {
      round = h.round;
      step = h.step;
      there = (grows_step i h.step).kept p h.there;
      receives = h.receives;
    };
    was = λ p l h. record {
      round = h.round;
      step = h.step;
      there = (grows_step i h.step).was p l h.there;
      receives = h.receives;
    };
    within = λ p h. (grows_step i h.step).within p h.there;
    until = λ p h. (grows_step i h.step).until p h.there;
    now = λ h.
        let of = receive_round w w.rounds (steps i t) (omega arith) h.1 in
        record {
          round = of.0;
          step = steps i t;
          there = (grows_step i (steps i t)).now (h.0, refl);
          receives = of.1;
        };
    is = λ h.
        let at = (grows_step i h.step).is h.there in
        (at.0, ap (is_receive w) at.1 ∙ round_receive w h.round h.step h.receives);
  }

  copied_kept : (w : World) (n : Name) (p : ℕ) → IsCopiedAt w old n p → IsCopiedAt w new n p
  copied_kept w n p h = record {
    slot = h.slot;
    sent = (grows_step n.from (w.start n.round + n.to)).kept h.slot h.sent;
    first = first_kept (grows_event (Copy n)) h.slot p h.first;
    flies = λ k low high left. h.flies k low high
        ((grows_left (original n)).was k (let l = (grows_event (Copy n)).within p h.first.there in
        omega arith) left);
  }

  made_kept : (w : World) (n : Name) (p : ℕ) → IsMadeAt w old n p → IsMadeAt w new n p
  made_kept w n p (Sent c h) = Sent c ((grows_step n.from (w.start n.round + n.to)).kept p h)
  made_kept w n p (Copied c h) = Copied c (copied_kept w n p h)

  made_within : (w : World) (n : Name) (p : ℕ) → IsMadeAt w old n p → p < length t
  made_within w n p (Sent c h) = (grows_step n.from (w.start n.round + n.to)).within p h
  made_within w n p (Copied c h) = (grows_event (Copy n)).within p h.first.there

-- ---- what became of a copy, by places

-- it wasn't sent, or wasn't copied while copy 0 was in flight
pub record IsUnmade (w : World) (trace : List Event) (n : Name) : Type 0 where
  pub sent : n.copy ≡ 0 → (a : ℕ) → IsSlotAt w trace n a → ⊥
  pub copied : 0 < n.copy → (s p : ℕ) → IsSlotAt w trace n s → s < p → IsCopyAt trace n p
      → (k : ℕ) × (s < k) × (k < p) × IsLeftAt trace (original n) k

pub record IsMoving (w : World) (trace : List Event) (n : Name) : Type 0 where
  pub a : ℕ
  pub made : IsMadeAt w trace n a
  pub none : (b : ℕ) → a < b → IsLeftAt trace n b → ⊥

pub record IsWaiting (w : World) (trace : List Event) (n : Name) (x : ℕ) : Type 0 where
  pub a : ℕ
  pub b : ℕ
  pub made : IsMadeAt w trace n a
  pub leaves : IsFirstAfter (IsLeftAt trace n) a b
  pub release : IsReleaseAt trace n b
  pub count : steps_before trace n.to b ≡ x
  pub none : (c : ℕ) → b < c → IsReceiveAt w trace n.to c → ⊥

pub record IsTaken (w : World) (trace : List Event) (n : Name) (x c : ℕ) : Type 0 where
  pub a : ℕ
  pub b : ℕ
  pub p : ℕ
  pub made : IsMadeAt w trace n a
  pub leaves : IsFirstAfter (IsLeftAt trace n) a b
  pub release : IsReleaseAt trace n b
  pub count : steps_before trace n.to b ≡ x
  pub receive : IsFirstAfter (IsReceiveAt w trace n.to) b p
  pub number : steps_before trace n.to p ≡ c

pub record IsLost (w : World) (trace : List Event) (n : Name) : Type 0 where
  pub a : ℕ
  pub b : ℕ
  pub made : IsMadeAt w trace n a
  pub leaves : IsFirstAfter (IsLeftAt trace n) a b
  pub drop : IsDropAt trace n b

abbrev pub Placed : World → List Event → Name → Fate → Type 0
Placed w trace n Unmade = IsUnmade w trace n
Placed w trace n Moving = IsMoving w trace n
Placed w trace n (Waiting x) = IsWaiting w trace n x
Placed w trace n (Taken x c) = IsTaken w trace n x c
Placed w trace n Lost = IsLost w trace n

-- ---- one place for each slot, and for each copy

slot_one_by : (w : World) (t : List Event) (n : Name) (p q : ℕ) → IsSlotAt w (reverse t) n p
    → IsSlotAt w (reverse t) n q → p < q → ⊥
slot_one_by w t n p q a b l =
    let x = place_at (Step n.from) t p a.there in
    let y = place_at (Step n.from) t q b.there in
    let px = x.2 in
    let qy = y.2 in
    let rise = step_rises n.from x.0 y.0
    (at_within y.0 (Step n.from) x.0 (Step n.from) t y.1 x.1 (omega arith)) in
    let first : steps n.from x.0 ≡ w.start n.round + n.to =
    sym (at_steps n.from x.0 (Step n.from) t x.1) ∙ ap (steps_before (reverse t) n.from) x.2
    ∙ a.number in
    let second : steps n.from y.0 ≡ w.start n.round + n.to =
    sym (at_steps n.from y.0 (Step n.from) t y.1) ∙ ap (steps_before (reverse t) n.from) y.2
    ∙ b.number in
    omega arith

not_less : (p q : ℕ) → (p < q → ⊥) → (q < p → ⊥) → (p < q) ⊎ (q ≤ p) → (q < p) ⊎ (p ≤ q) → p ≡ q
not_less p q a b (inl l) d = absurd (a l)
not_less p q a b (inr l) (inl m) = absurd (b m)
not_less p q a b (inr l) (inr m) = omega arith

pub slot_one : (w : World) (t : List Event) (n : Name) (p q : ℕ) → IsSlotAt w (reverse t) n p
    → IsSlotAt w (reverse t) n q → p ≡ q
slot_one w t n p q a b = not_less p q (slot_one_by w t n p q a b) (slot_one_by w t n q p b a)
    (cases_lt p q) (cases_lt q p)

-- the first of a kind is one
pub first_one : (Is : ℕ → Type 0) (a b c d : ℕ) → a ≡ c → IsFirstAfter Is a b → IsFirstAfter Is c d
    → b ≡ d
first_one Is a b c d e f g =
    not_less b d (λ l. g.none b (let m = f.later in omega arith) l f.there)
    (λ l. f.none d (let m = g.later in omega arith) l g.there) (cases_lt b d) (cases_lt d b)

-- a copy is made at one place
pub made_one : (w : World) (t : List Event) (n : Name) (p q : ℕ) → IsMadeAt w (reverse t) n p
    → IsMadeAt w (reverse t) n q → p ≡ q
made_one w t n p q (Sent a h) (Sent b g) = slot_one w t n p q h g
made_one w t n p q (Sent a h) (Copied b g) = absurd (omega arith)
made_one w t n p q (Copied a h) (Sent b g) = absurd (omega arith)
made_one w t n p q (Copied a h) (Copied b g) =
    first_one (IsCopyAt (reverse t) n) h.slot p g.slot q
    (slot_one w t n h.slot g.slot h.sent g.sent) h.first g.first

-- ---- one event more

-- copy 0 is made at its slot
slot_of : (w : World) (trace : List Event) (n : Name) (a : ℕ) → IsMadeAt w trace (original n) a
    → IsSlotAt w trace n a
slot_of w trace n a (Sent c h) = h
slot_of w trace n a (Copied c h) = absurd (omega arith)

made_split_by : (w : World) (n : Name) (e : Event) (t : List Event) (first : Fate) (b : Bool)
    → (n.copy == 0) ≡ b → makes w n e t first ≡ true
    → ((n.copy ≡ 0) × (is_slot w n e t ≡ true))
    ⊎ ((0 < n.copy) × (is_copy n e ≡ true) × (is_moving first ≡ true))
made_split_by w n e t first true h k =
    inl (
      eqb-true n.copy 0 h,
      sym (ap (λ (b : Bool). if b then is_slot w n e t else is_copy n e && is_moving first) h)
          ∙ k,
    )
made_split_by w n e t first false h k =
    let both : (is_copy n e ≡ true) × (is_moving first ≡ true) =
    and_parts _ _
    (sym (ap (λ (b : Bool). if b then is_slot w n e t else is_copy n e && is_moving first) h)
    ∙ k) in
    inr (some (cases_lt 0 n.copy), both.0, both.1)
  where
    some : (0 < n.copy) ⊎ (n.copy ≤ 0) → 0 < n.copy
    some (inl l) = l
    some (inr l) = let on : (n.copy == 0) ≡ true = eq-eqb n.copy 0 (omega arith) in cc

makes_slot : (w : World) (n : Name) (e : Event) (t : List Event) (first : Fate) → n.copy ≡ 0
    → is_slot w n e t ≡ true → makes w n e t first ≡ true
makes_slot w n e t first c h = rw (eq-eqb n.copy 0 c) h

makes_copy_by : (w : World) (n : Name) (e : Event) (t : List Event) (first : Fate) (b : Bool)
    → (n.copy == 0) ≡ b → 0 < n.copy → is_copy n e ≡ true → is_moving first ≡ true
    → makes w n e t first ≡ true
makes_copy_by w n e t first true h l c m = let none = eqb-true n.copy 0 h in absurd (omega arith)
makes_copy_by w n e t first false h l c m = rw (h, c) m

module _ (w : World) (e : Event) (t : List Event) (n : Name) where
  moving_now : IsMadeAt w (reverse (e ∷ t)) n (length t) → IsMoving w (reverse (e ∷ t)) n
  moving_now made = record {
    a = length t;
    made = made;
    none = λ b l left. none_past (grows_left e t n) b l left;
  }

  sent_now : n.copy ≡ 0 → is_slot w n e t ≡ true → IsMoving w (reverse (e ∷ t)) n
  sent_now c h =
      let both : (is_step n.from e ≡ true) × ((steps n.from t == w.start n.round + n.to) ≡ true) =
      and_parts _ _ h in
      moving_now (Sent c ((grows_step e t n.from (w.start n.round + n.to)).now
      (step_event n.from e both.0, eqb-true _ _ both.1)))

  copied_now : 0 < n.copy → e ≡ Copy n → IsMoving w (reverse t) (original n)
      → IsUnmade w (reverse t) n → IsMoving w (reverse (e ∷ t)) n
  copied_now l h o f =
      let slot = slot_of w (reverse t) n o.a o.made in
      let low = made_within e t w (original n) o.a o.made in
      moving_now (Copied l (record {
        slot = o.a;
        sent = (grows_step e t n.from (w.start n.round + n.to)).kept o.a slot;
        first = first_now (grows_event e t (Copy n)) o.a low
            (λ k m copy. (let x = f.copied l o.a k slot m copy in o.none x.0 x.1 x.3)) h;
        flies = λ k m high left. o.none k m ((grows_left e t (original n)).was k high left);
      }))

  made_next : (o : Fate) → Placed w (reverse t) (original n) o → IsUnmade w (reverse t) n
      → ((n.copy ≡ 0) × (is_slot w n e t ≡ true))
      ⊎ ((0 < n.copy) × (is_copy n e ≡ true) × (is_moving o ≡ true))
      → IsMoving w (reverse (e ∷ t)) n
  made_next o po f (inl h) = sent_now h.0 h.1
  made_next Unmade po f (inr h) = cc
  made_next Moving po f (inr h) = copied_now h.0 (copy_event n e h.1) po f
  made_next (Waiting x) po f (inr h) = cc
  made_next (Taken x c) po f (inr h) = cc
  made_next Lost po f (inr h) = cc

  -- a copy of what has left flight isn't made
  left_before : (s a b : ℕ) → IsSlotAt w (reverse t) n s → IsMadeAt w (reverse t) (original n) a
      → IsFirstAfter (IsLeftAt (reverse t) (original n)) a b
      → (k : ℕ) × (s < k) × (k < length t) × IsLeftAt (reverse (e ∷ t)) (original n) k
  left_before s a b slot made leaves =
      let same = slot_one w t n s a slot (slot_of w (reverse t) n a made) in
      let later = leaves.later in (
        b,
        omega arith,
        (grows_left e t (original n)).within b leaves.there,
        (grows_left e t (original n)).kept b leaves.there,
      )

  copy_late : (o : Fate) → Placed w (reverse t) (original n) o → is_moving o ≡ false → (s : ℕ)
      → IsSlotAt w (reverse t) n s → (k : ℕ) × (s < k) × (k < length t)
      × IsLeftAt (reverse (e ∷ t)) (original n) k
  copy_late Unmade po off s slot = absurd (po.sent refl s slot)
  copy_late Moving po off s slot = cc
  copy_late (Waiting x) po off s slot = left_before s po.a po.b slot po.made po.leaves
  copy_late (Taken x c) po off s slot = left_before s po.a po.b slot po.made po.leaves
  copy_late Lost po off s slot = left_before s po.a po.b slot po.made po.leaves

  unmoving : (o : Fate) (b : Bool) → is_moving o ≡ b → makes w n e t o ≡ false → 0 < n.copy
      → is_copy n e ≡ true → b ≡ false
  unmoving o true m off l c = let on = makes_copy_by w n e t o (n.copy == 0) refl l c m in cc
  unmoving o false m off l c = refl

  unmade_next : (o : Fate) → Placed w (reverse t) (original n) o → IsUnmade w (reverse t) n
      → makes w n e t o ≡ false → IsUnmade w (reverse (e ∷ t)) n
  unmade_next o po f off = record {
    sent = λ c a slot. sent c a slot (cases_lt a (length t));
    copied = λ l s p slot low copy. copied l s p slot low copy (cases_lt p (length t));
  }
    where
      g : Grows (IsSlotAt w (reverse t) n) (IsSlotAt w (reverse (e ∷ t)) n) (length t)
          ((e ≡ Step n.from) × (steps n.from t ≡ w.start n.round + n.to))
      g = grows_step e t n.from (w.start n.round + n.to)

      sent : n.copy ≡ 0 → (a : ℕ) → IsSlotAt w (reverse (e ∷ t)) n a
          → (a < length t) ⊎ (length t ≤ a) → ⊥
      sent c a slot (inl old) = f.sent c a (g.was a old slot)
      sent c a slot (inr last) =
          let until = g.until a slot in
          let same : a ≡ length t = omega arith in
          let at = g.is (subst (IsSlotAt w (reverse (e ∷ t)) n) same slot) in
          let on = makes_slot w n e t o c
          (and_from _ _ (is_it_step n.from e at.0) (eq-eqb _ _ at.1)) in
          cc

      copied : 0 < n.copy → (s p : ℕ) → IsSlotAt w (reverse (e ∷ t)) n s → s < p
          → IsCopyAt (reverse (e ∷ t)) n p → (p < length t) ⊎ (length t ≤ p)
          → (k : ℕ) × (s < k) × (k < p) × IsLeftAt (reverse (e ∷ t)) (original n) k
      copied l s p slot low copy (inl old) =
          let x = f.copied l s p (g.was s (omega arith) slot) low
          ((grows_event e t (Copy n)).was p old copy) in
          (x.0, x.1, x.2, (grows_left e t (original n)).kept x.0 x.3)
      copied l s p slot low copy (inr last) =
          let until = (grows_event e t (Copy n)).until p copy in
          let same : p ≡ length t = omega arith in
          let is = (grows_event e t (Copy n)).is (subst (IsCopyAt (reverse (e ∷ t)) n) same copy) in
          let x = copy_late o po (unmoving o (is_moving o) refl off l (is_it_copy n e is)) s
          (g.was s (omega arith) slot) in
          (x.0, x.1, (let y = x.2 in omega arith), x.3)

  unmade_or_made : (o : Fate) (b : Bool) → makes w n e t o ≡ b → Placed w (reverse t) (original n) o
      → IsUnmade w (reverse t) n → Placed w (reverse (e ∷ t)) n (if b then Moving else Unmade)
  unmade_or_made o true h po f = made_next o po f (made_split_by w n e t o (n.copy == 0) refl h)
  unmade_or_made o false h po f = unmade_next o po f h

  moving_next : (a b : Bool) → is_release n e ≡ a → is_drop n e ≡ b → IsMoving w (reverse t) n
      → Placed w (reverse (e ∷ t)) n
      (if a then Waiting (steps n.to t) else if b then Lost else Moving)
  moving_next true b h k f =
      let is = release_event n e h in
      record {
        a = f.a;
        b = length t;
        made = made_kept e t w n f.a f.made;
        leaves = first_now (grows_left e t n) f.a (made_within e t w n f.a f.made) f.none (inl is);
        release = (grows_event e t (Release n)).now is;
        count = count_newest e t n.to;
        none = λ c l receive. none_past (grows_receive e t w n.to) c l receive;
      }
  moving_next false true h k f =
      let is = drop_event n e k in
      record {
        a = f.a;
        b = length t;
        made = made_kept e t w n f.a f.made;
        leaves = first_now (grows_left e t n) f.a (made_within e t w n f.a f.made) f.none (inr is);
        drop = (grows_event e t (Drop n)).now is;
      }
  moving_next false false h k f = record {
    a = f.a;
    made = made_kept e t w n f.a f.made;
    none = none_kept (grows_left e t n) f.a f.none (λ x. off x);
  }
    where
      off : (e ≡ Release n) ⊎ (e ≡ Drop n) → ⊥
      off (inl is) = let on = is_it_release n e is in cc
      off (inr is) = let on = is_it_drop n e is in cc

  waiting_next : (x : ℕ) (b : Bool) → is_take w n.to e t ≡ b → IsWaiting w (reverse t) n x
      → Placed w (reverse (e ∷ t)) n (if b then Taken x (steps n.to t) else Waiting x)
  waiting_next x true h f =
      let both : (is_step n.to e ≡ true) × (is_receive w (steps n.to t) ≡ true) = and_parts _ _ h in
      let low = (grows_event e t (Release n)).within f.b f.release in
      record {
        a = f.a;
        b = f.b;
        p = length t;
        made = made_kept e t w n f.a f.made;
        leaves = first_kept (grows_left e t n) f.a f.b f.leaves;
        release = (grows_event e t (Release n)).kept f.b f.release;
        count = count_older e t n.to f.b (omega arith) ∙ f.count;
        receive = first_now (grows_receive e t w n.to) f.b low f.none (
          step_event n.to e both.0,
          both.1,
        );
        number = count_newest e t n.to;
      }
  waiting_next x false h f =
      let low = (grows_event e t (Release n)).within f.b f.release in
      record {
        a = f.a;
        b = f.b;
        made = made_kept e t w n f.a f.made;
        leaves = first_kept (grows_left e t n) f.a f.b f.leaves;
        release = (grows_event e t (Release n)).kept f.b f.release;
        count = count_older e t n.to f.b (omega arith) ∙ f.count;
        none = none_kept (grows_receive e t w n.to) f.b f.none
            (λ y. (let on : is_take w n.to e t ≡ true = and_from _ _ (is_it_step n.to e y.0) y.1 in
            cc));
      }

  taken_next : (x c : ℕ) → IsTaken w (reverse t) n x c → IsTaken w (reverse (e ∷ t)) n x c
  taken_next x c f =
      let low = (grows_event e t (Release n)).within f.b f.release in
      let high = (grows_receive e t w n.to).within f.p f.receive.there in
      record {
        a = f.a;
        b = f.b;
        p = f.p;
        made = made_kept e t w n f.a f.made;
        leaves = first_kept (grows_left e t n) f.a f.b f.leaves;
        release = (grows_event e t (Release n)).kept f.b f.release;
        count = count_older e t n.to f.b (omega arith) ∙ f.count;
        receive = first_kept (grows_receive e t w n.to) f.b f.p f.receive;
        number = count_older e t n.to f.p (omega arith) ∙ f.number;
      }

  lost_next : IsLost w (reverse t) n → IsLost w (reverse (e ∷ t)) n
  lost_next f = record {
    a = f.a;
    b = f.b;
    made = made_kept e t w n f.a f.made;
    leaves = first_kept (grows_left e t n) f.a f.b f.leaves;
    drop = (grows_event e t (Drop n)).kept f.b f.drop;
  }

  placed_next : (o f : Fate) → Placed w (reverse t) (original n) o → Placed w (reverse t) n f
      → Placed w (reverse (e ∷ t)) n (after w n e t o f)
  placed_next o Unmade po pf = unmade_or_made o (makes w n e t o) refl po pf
  placed_next o Moving po pf = moving_next (is_release n e) (is_drop n e) refl refl pf
  placed_next o (Waiting x) po pf = waiting_next x (is_take w n.to e t) refl pf
  placed_next o (Taken x c) po pf = taken_next x c pf
  placed_next o Lost po pf = lost_next pf

placed_first : (w : World) (n : Name) → IsUnmade w [] n
placed_first w n = record {
  sent = λ c a slot. (let l = slice_get_within [] a (Step n.from) slot.there in omega arith);
  copied = λ l s p slot low copy. absurd (let m = slice_get_within [] s (Step n.from) slot.there in
      omega arith);
}

-- what became of a copy is so by places
pub placed : (w : World) (t : List Event) (n : Name) → Placed w (reverse t) n (fate w t n)
placed w [] n = subst (λ (f : Fate). Placed w [] n f) (sym (fate_first w n)) (placed_first w n)
placed w (e ∷ t) n =
    subst (λ (f : Fate). Placed w (reverse (e ∷ t)) n f) (sym (fate_next w e t n))
    (placed_next w e t n (fate w t (original n)) (fate w t n) (placed w t (original n))
    (placed w t n))

-- ---- and what is so by places became of it

unmade_none : (w : World) (trace : List Event) (n : Name) (a : ℕ) → IsUnmade w trace n
    → IsMadeAt w trace n a → ⊥
unmade_none w trace n a f (Sent c h) = f.sent c a h
unmade_none w trace n a f (Copied l h) = let x =
    f.copied l h.slot a h.sent h.first.later h.first.there in h.flies x.0 x.1 x.2 x.3

-- an event isn't a release and a drop
pub release_drop : (trace : List Event) (n : Name) (p q : ℕ) → p ≡ q → IsReleaseAt trace n p
    → IsDropAt trace n q → ⊥
release_drop trace n p q e h k =
    let both : ◌≡◌ {A = Option Event} (Some (Release n)) (Some (Drop n)) = sym h
    ∙ ap (slice_get trace) e ∙ k in
    let same = same_Some (Release n) (Drop n) both in
    cc

module _ (w : World) (t : List Event) (n : Name) where
  -- in flight
  moving_by : (f : Fate) → Placed w (reverse t) n f → IsMoving w (reverse t) n → f ≡ Moving
  moving_by Unmade p h = absurd (unmade_none w (reverse t) n h.a p h.made)
  moving_by Moving p h = refl
  moving_by (Waiting x) p h = let e = made_one w t n p.a h.a p.made h.made in
      let l = p.leaves.later in absurd (h.none p.b (omega arith) p.leaves.there)
  moving_by (Taken x c) p h = let e = made_one w t n p.a h.a p.made h.made in
      let l = p.leaves.later in absurd (h.none p.b (omega arith) p.leaves.there)
  moving_by Lost p h = let e = made_one w t n p.a h.a p.made h.made in let l = p.leaves.later in
      absurd (h.none p.b (omega arith) p.leaves.there)

  pub moving_found : IsMoving w (reverse t) n → fate w t n ≡ Moving
  moving_found h = moving_by (fate w t n) (placed w t n) h

  -- waiting
  waiting_by : (f : Fate) (x : ℕ) → Placed w (reverse t) n f → IsWaiting w (reverse t) n x
      → f ≡ Waiting x
  waiting_by Unmade x p h = absurd (unmade_none w (reverse t) n h.a p h.made)
  waiting_by Moving x p h = let e = made_one w t n p.a h.a p.made h.made in
      let l = h.leaves.later in absurd (p.none h.b (omega arith) h.leaves.there)
  waiting_by (Waiting y) x p h =
      let e = made_one w t n p.a h.a p.made h.made in
      let b = first_one (IsLeftAt (reverse t) n) p.a p.b h.a h.b e p.leaves h.leaves in
      ap Waiting (sym p.count ∙ ap (steps_before (reverse t) n.to) b ∙ h.count)
  waiting_by (Taken y c) x p h =
      let e = made_one w t n p.a h.a p.made h.made in
      let b = first_one (IsLeftAt (reverse t) n) p.a p.b h.a h.b e p.leaves h.leaves in
      let l = p.receive.later in
      absurd (h.none p.p (omega arith) p.receive.there)
  waiting_by Lost x p h =
      let e = made_one w t n h.a p.a h.made p.made in
      absurd (release_drop (reverse t) n h.b p.b
      (first_one (IsLeftAt (reverse t) n) h.a h.b p.a p.b e h.leaves p.leaves) h.release p.drop)

  pub waiting_found : (x : ℕ) → IsWaiting w (reverse t) n x → fate w t n ≡ Waiting x
  waiting_found x h = waiting_by (fate w t n) x (placed w t n) h

  -- taken
  taken_by : (f : Fate) (x c : ℕ) → Placed w (reverse t) n f → IsTaken w (reverse t) n x c
      → f ≡ Taken x c
  taken_by Unmade x c p h = absurd (unmade_none w (reverse t) n h.a p h.made)
  taken_by Moving x c p h = let e = made_one w t n p.a h.a p.made h.made in
      let l = h.leaves.later in absurd (p.none h.b (omega arith) h.leaves.there)
  taken_by (Waiting y) x c p h =
      let e = made_one w t n p.a h.a p.made h.made in
      let b = first_one (IsLeftAt (reverse t) n) p.a p.b h.a h.b e p.leaves h.leaves in
      let l = h.receive.later in
      absurd (p.none h.p (omega arith) h.receive.there)
  taken_by (Taken y d) x c p h =
      let e = made_one w t n p.a h.a p.made h.made in
      let b = first_one (IsLeftAt (reverse t) n) p.a p.b h.a h.b e p.leaves h.leaves in
      let r = first_one (IsReceiveAt w (reverse t) n.to) p.b p.p h.b h.p b p.receive h.receive in
      ap (λ z. Taken z d) (sym p.count ∙ ap (steps_before (reverse t) n.to) b ∙ h.count)
      ∙ ap (Taken x) (sym p.number ∙ ap (steps_before (reverse t) n.to) r ∙ h.number)
  taken_by Lost x c p h =
      let e = made_one w t n h.a p.a h.made p.made in
      absurd (release_drop (reverse t) n h.b p.b
      (first_one (IsLeftAt (reverse t) n) h.a h.b p.a p.b e h.leaves p.leaves) h.release p.drop)

  pub taken_found : (x c : ℕ) → IsTaken w (reverse t) n x c → fate w t n ≡ Taken x c
  taken_found x c h = taken_by (fate w t n) x c (placed w t n) h

  -- not made
  unmade_by : (f : Fate) → Placed w (reverse t) n f → ((a : ℕ) → IsMadeAt w (reverse t) n a → ⊥)
      → f ≡ Unmade
  unmade_by Unmade p h = refl
  unmade_by Moving p h = absurd (h p.a p.made)
  unmade_by (Waiting x) p h = absurd (h p.a p.made)
  unmade_by (Taken x c) p h = absurd (h p.a p.made)
  unmade_by Lost p h = absurd (h p.a p.made)

  pub unmade_found : ((a : ℕ) → IsMadeAt w (reverse t) n a → ⊥) → fate w t n ≡ Unmade
  unmade_found h = unmade_by (fate w t n) (placed w t n) h

  pub made_found : (a : ℕ) → IsMadeAt w (reverse t) n a → fate w t n ≡ Unmade → ⊥
  made_found a h e = unmade_none w (reverse t) n a
      (subst (λ (f : Fate). Placed w (reverse t) n f) e (placed w t n)) h

-- ---- carried

carried_as_by : (w : World) (trace : List Event) (n : Name) (f : Fate) → Placed w trace n f
    → taken_near w n.round f ≡ true → IsCarriedAs w trace n
carried_as_by w trace n Unmade p h = cc
carried_as_by w trace n Moving p h = cc
carried_as_by w trace n (Waiting x) p h = cc
carried_as_by w trace n Lost p h = cc
carried_as_by w trace n (Taken x c) p h =
    let both : (◌≡◌ {A = Bool} _ true) × (◌≡◌ {A = Bool} _ true) = and_parts _ _ h in
    let count = p.number in
    let low = leb-true (w.start (earliest n.round)) c both.0 in
    let high = ltb-true c (w.start (n.round + 1)) both.1 in
    record {
      a = p.a;
      b = p.b;
      c = p.p;
      made = p.made;
      leaves = p.leaves;
      release = p.release;
      receive = p.receive;
      from_start = omega arith;
      before_end = omega arith;
    }

-- what is carried is so by places
pub carried_place : (w : World) (t : List Event) (n : Name) → carried w t n.to n.round n.from ≡ true
    → IsCarried w (reverse t) n
carried_place w t n h =
    let k = some_found (λ k. taken_near w n.round (fate w t (copy_to n.from n.to n.round k)))
    (sym (carried_by w t n.to n.round n.from) ∙ h) in
    record {
      copy = k.0;
      few = k.1;
      carried = carried_as_by w (reverse t) (copy_to n.from n.to n.round k.0)
          (fate w t (copy_to n.from n.to n.round k.0))
          (placed w t (copy_to n.from n.to n.round k.0)) k.2;
    }

carried_as_found : (w : World) (t : List Event) (n : Name) → IsCarriedAs w (reverse t) n
    → taken_near w n.round (fate w t n) ≡ true
carried_as_found w t n h =
    let low = h.from_start in
    let high = h.before_end in
    ap (taken_near w n.round) (taken_found w t n (steps_before (reverse t) n.to h.b)
    (steps_before (reverse t) n.to h.c)
    (record {
      a = h.a;
      b = h.b;
      p = h.c;
      made = h.made;
      leaves = h.leaves;
      release = h.release;
      count = refl;
      receive = h.receive;
      number = refl;
    }))
    ∙ lies_within w n.round (steps_before (reverse t) n.to h.c) (omega arith) (omega arith)

pub carried_found : (w : World) (t : List Event) (n : Name) → IsCarried w (reverse t) n
    → carried w t n.to n.round n.from ≡ true
carried_found w t n h =
    carried_by w t n.to n.round n.from
    ∙ some_of (λ k. taken_near w n.round (fate w t (copy_to n.from n.to n.round k))) h.copy h.few
    (carried_as_found w t (copy_to n.from n.to n.round h.copy) h.carried)
