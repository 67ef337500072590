-- The list of the copies in flight, as it grows by one copy after the other.
use Rattle.std.proofs.Common.{◌≡◌, ℕ, zero, suc, ◌+◌, ◌<◌, ◌≤◌, ◌^◌, Bool, true, List, [], ◌∷◌}
use Rattle.std.proofs.Common.{◌++◌, length, get_or, Option, Some, None, is_some, sym, subst, refl}
use Rattle.std.proofs.Common.{ap, if◌then◌else◌, ◌∙◌, arith, ◌⊎◌, inl, inr}
use Rattle.std.specs.Prelude.{Contains}
use Rattle.std.specs.List.{slice_get}
use Rattle.std.proofs.lemmas.Bool.{cases_lt, cases_eq}
use Rattle.std.proofs.lemmas.List.{map-append}
use Rattle.std.proofs.lemmas.List.Elements.{All-get_or, All-push, All-weaker, Contains-append_left}
use Rattle.std.proofs.lemmas.List.Elements.{Contains-push}
use Rattle.std.proofs.lemmas.List.Quantifiers.{all_pairs_push}
use Rattle.std.proofs.lemmas.Option.{slice_get_within}
use Rattle.round_lang.specs.declared.value.Value.{Value}
use Rattle.run_events.specs.Limits.{max_copy, max_rounds}
use Rattle.slot_plans.specs.Plan.{PlanLaws}
use Rattle.run_events.specs.declared.event.Event.{Event}
use Rattle.run_events.specs.declared.in_flight.InFlight.{InFlight}
use Rattle.run_events.specs.declared.name.Name.{Name}
use Rattle.run_events.specs.Names.{original}
use Rattle.step_book.specs.declared.mark.Mark.{Mark}
use Rattle.step_book.specs.declared.mark.Mark.TheVariants as mark
use Rattle.step_book.specs.Fates.{Fate, Unmade, Moving, Waiting, Taken, Lost, is_slot}
use Rattle.step_book.specs.Flight.{ComesBefore, IsEntry, IsFlight, IsFlightBefore, Precedes}
use Rattle.step_book.specs.Flight.{names_of}
use Rattle.step_book.specs.History.{hushed, marked, message}
use Rattle.step_book.specs.Log.{Log, IsBookOf, IsFlying, history, world_of}
use Rattle.step_book.specs.Names.{IsName, IsNameOf}
use Rattle.step_book.specs.Serials.{HasSerial, IsSent, sent, serial}
use Rattle.step_book.specs.World.{World, nodes_of}
use Rattle.step_book.proofs.Fates.{made_sent}
use Rattle.step_book.proofs.Kept.{mark_is}
use Rattle.step_book.proofs.Names.{copy_named, name_same, original_named}
use Rattle.step_book.proofs.Plans.{start_le}
use Rattle.step_book.proofs.Reading.{named, nodes_are, one_of, rounds_few}

-- copies share their message's serial
pub serial_copy : (w : World) (t : List Event) (n : Name) (c : ℕ)
    → serial w t (record n { copy = c }) ≡ serial w t n
unfolding serial
serial_copy w [] n c = refl
serial_copy w (e ∷ t) n c = ap (λ z. if is_slot w n e t then sent w t else z) (serial_copy w t n c)

-- a name of the world is one of the run's
pub run_name : (start : ℕ → ℕ) (v : Log) (n : Name)
    → IsNameOf (nodes_of (world_of start v)) v.setup.rounds n → IsName v.setup n
run_name start v n a = subst (λ z. IsNameOf z v.setup.rounds n) (nodes_are start v) a

-- what flies was made, and is no silence
hushed_lies : (k : ℕ) → hushed k ≡ mark.Flying → ⊥
hushed_lies zero h = cc
hushed_lies (suc k) h = cc

flying_marked : (w : World) (k : ℕ) (m : Option (List Value)) (f : Fate)
    → marked w k m f ≡ mark.Flying → (f ≡ Unmade → ⊥) × (is_some m ≡ true)
flying_marked w k m Unmade h = cc
flying_marked w k None Moving h = absurd (hushed_lies k h)
flying_marked w k None (Waiting x) h = absurd (hushed_lies k h)
flying_marked w k None (Taken x c) h = absurd (hushed_lies k h)
flying_marked w k None Lost h = absurd (hushed_lies k h)
flying_marked w k (Some m) Moving h = (λ u. cc, refl)
flying_marked w k (Some m) (Waiting x) h = cc
flying_marked w k (Some m) (Taken x c) h = cc
flying_marked w k (Some m) Lost h = cc

module _ {start : ℕ → ℕ} {nodes : ℕ} {v : Log} {counts : List ℕ} {tables : List (List Mark)}
    {waiting : List (List Name)} {handed : List (List (List Name))} {answers : List Bool}
    {messages : List Name}
    (h : IsBookOf start nodes v counts tables waiting handed answers messages) where
  -- the message of a copy in flight was sent
  flying_sent : (n : Name) → IsFlying start v n → IsSent (world_of start v) (history v) n
  flying_sent n fly =
      let w = world_of start v in
      let t = history v in
      let both = flying_marked w n.copy (message w t n) _ (sym (mark_is w t n) ∙ fly) in
      record {
        slot = made_sent w t n both.0;
        said = both.1;
      }

  -- and stands at its serial
  pub flying_place : (n : Name) → IsName v.setup n → IsFlying start v n
      → slice_get messages (serial (world_of start v) (history v) n) ≡ Some (original n)
  flying_place n a fly =
      let w = world_of start v in
      let t = history v in
      let s = flying_sent n fly in
      (h.serials.each (serial w t n) (original n)).1 (record {
        named = original_named (nodes_of w) w.rounds n (named start v n a);
        first = refl;
        made = record {
          slot = s.slot;
          said = s.said;
        };
        place = serial_copy w t n 0;
      })

  -- a step number of a slot is small
  pub slot_small : (receives : ℕ → ℕ) (n : Name) → PlanLaws nodes receives start → IsName v.setup n
      → start n.round + n.to < 2 ^ 32
  slot_small receives n laws a =
      let few = rounds_few h in
      let last = a.last in
      let to = one_of start v n.to a.to in
      let long = h.plan.next n.round a.first in
      let up = start_le (world_of start v) h.plan (n.round + 1) (max_rounds + 1) (omega arith)
      (omega arith) in
      let small = laws.few_steps in
      omega arith

  -- ---- the list grows

  -- what comes before the next copy is that copy, or comes before it
  before_next : (k c s : ℕ) (n : Name) → ComesBefore k (c + 1) s n → (n.copy ≡ c) ⊎ (n.copy ≡ c → ⊥)
      → ComesBefore k c s n ⊎ ((s ≡ k) × (n.copy ≡ c))
  before_next k c s n (inl low) d = inl (inl low)
  before_next k c s n (inr same) (inl here) = inr (same.0, here)
  before_next k c s n (inr same) (inr apart) = (let low = same.1 in inl (inr (same.0, omega arith)))

  before_more : (k c s : ℕ) (n : Name) → ComesBefore k c s n → ComesBefore k (c + 1) s n
  before_more k c s n (inl low) = inl low
  before_more k c s n (inr same) = (let low = same.1 in inr (same.0, omega arith))

  module _ (n : Name) (k : ℕ) (flight : List InFlight)
      (s : HasSerial (world_of start v) (history v) k n) where
    -- the copy of this number with this serial
    same_copy : (m : Name) (c : ℕ) → IsName v.setup m → IsFlying start v m
        → serial (world_of start v) (history v) m ≡ k → m.copy ≡ c → record n { copy = c } ≡ m
    same_copy m c a fly e d =
        let w = world_of start v in
        let t = history v in
        let here = (h.serials.each k n).1 s in
        let there = flying_place m a fly in
        let at = ap (slice_get messages) e in
        let both : Some (original m) ≡ Some n = sym there ∙ at ∙ here in
        let one : original m ≡ n = cc in
        name_same (record n { copy = c }) m (sym (ap (λ (x : Name). x.from) one))
        (sym (ap (λ (x : Name). x.to) one)) (sym (ap (λ (x : Name). x.round) one)) (sym d)

    -- a copy that isn't in flight adds nothing
    pub flight_passed : (c : ℕ) → (IsFlying start v (record n { copy = c }) → ⊥)
        → IsFlightBefore start v k c flight → IsFlightBefore start v k (c + 1) flight
    flight_passed c off f = record {
      each = f.each;
      before = All-weaker (λ (m : InFlight). ComesBefore k c m.serial m.name)
          (λ (m : InFlight). ComesBefore k (c + 1) m.serial m.name)
          (λ m. before_more k c m.serial m.name) flight f.before;
      every = λ m a fly b. every m a fly (before_next k c _ m b (cases_eq _ _));
      rises = f.rises;
    }
      where
        every : (m : Name) → IsName v.setup m → IsFlying start v m
            → ComesBefore k c (serial (world_of start v) (history v) m) m
            ⊎ ((serial (world_of start v) (history v) m ≡ k) × (m.copy ≡ c))
            → Contains (names_of flight) m
        every m a fly (inl before) = f.every m a fly before
        every m a fly (inr here) =
            absurd (off (subst (λ (x : Name). IsFlying start v x)
            (sym (same_copy m c a fly here.0 here.1)) fly))

    -- one that is adds its entry
    pub flight_more : (c : ℕ) (x : InFlight) → c ≤ max_copy → x.name ≡ record n { copy = c }
        → x.serial ≡ k → x.sent_at ≡ start n.round + n.to → IsFlying start v (record n { copy = c })
        → IsFlightBefore start v k c flight → IsFlightBefore start v k (c + 1) (flight ++ x ∷ [])
    flight_more c x few e d at fly f = record {
      each = All-push (IsEntry start v) flight x f.each (record {
        named = subst (λ (z : Name). IsName v.setup z) (sym e) own;
        flies = subst (λ (z : Name). IsFlying start v z) (sym e) fly;
        slot = at ∙ sym (ap (λ (z : Name). start z.round + z.to) e);
        place = d ∙ sym s.place ∙ sym (serial_copy (world_of start v) (history v) n c)
            ∙ sym (ap (serial (world_of start v) (history v)) e);
      });
      before = All-push (λ (m : InFlight). ComesBefore k (c + 1) m.serial m.name) flight x
          (All-weaker (λ (m : InFlight). ComesBefore k c m.serial m.name)
          (λ (m : InFlight). ComesBefore k (c + 1) m.serial m.name)
          (λ m. before_more k c m.serial m.name) flight f.before)
          (inr (d, let copy = ap (λ (z : Name). z.copy) e in omega arith));
      every = λ m a up b. subst (λ z. Contains z m)
          (sym (map-append (λ (y : InFlight). y.name) flight (x ∷ [])))
          (every m a up (before_next k c _ m b (cases_eq _ _)));
      rises = all_pairs_push Precedes flight x f.rises
          (λ i y l. last (get_or flight i y)
          (All-get_or (λ (m : InFlight). ComesBefore k c m.serial m.name) flight i y l f.before));
    }
      where
        own : IsName v.setup (record n { copy = c })
        own = run_name start v (record n { copy = c })
            (copy_named (nodes_of (world_of start v)) v.setup.rounds c n few s.named)

        every : (m : Name) → IsName v.setup m → IsFlying start v m
            → ComesBefore k c (serial (world_of start v) (history v) m) m
            ⊎ ((serial (world_of start v) (history v) m ≡ k) × (m.copy ≡ c))
            → Contains (names_of flight ++ x.name ∷ []) m
        every m a up (inl before) = Contains-append_left (names_of flight) (x.name ∷ []) m
            (f.every m a up before)
        every m a up (inr here) = subst (λ z. Contains (names_of flight ++ x.name ∷ []) z) (e
            ∙ same_copy m c a up here.0 here.1) (Contains-push (names_of flight) x.name)

        last : (y : InFlight) → ComesBefore k c y.serial y.name → Precedes y x
        last y (inl low) = inl (omega arith)
        last y (inr same) = (let low = same.1 in let copy = ap (λ (z : Name). z.copy) e in
            let one = same.0 in inr (omega arith, omega arith))

  -- after its last copy comes the next message
  pub flight_next : (k : ℕ) (flight : List InFlight)
      → IsFlightBefore start v k (max_copy + 1) flight → IsFlightBefore start v (k + 1) 0 flight
  flight_next k flight f = record {
    each = f.each;
    before = All-weaker (λ (m : InFlight). ComesBefore k (max_copy + 1) m.serial m.name)
        (λ (m : InFlight). ComesBefore (k + 1) 0 m.serial m.name)
        (λ m. up m.serial m.name) flight f.before;
    every = λ n a fly b. f.every n a fly (down n a b);
    rises = f.rises;
  }
    where
      up : (s : ℕ) (n : Name) → ComesBefore k (max_copy + 1) s n → ComesBefore (k + 1) 0 s n
      up s n (inl low) = inl (omega arith)
      up s n (inr same) = (let one = same.0 in inl (omega arith))

      down_by : (s : ℕ) (n : Name) → n.copy ≤ max_copy → s < k + 1 → (s < k) ⊎ (k ≤ s)
          → ComesBefore k (max_copy + 1) s n
      down_by s n few l (inl low) = inl low
      down_by s n few l (inr high) = inr (omega arith, omega arith)

      down : (n : Name) → IsName v.setup n
          → ComesBefore (k + 1) 0 (serial (world_of start v) (history v) n) n
          → ComesBefore k (max_copy + 1) (serial (world_of start v) (history v) n) n
      down n a (inl low) = down_by _ n a.copy low (cases_lt _ _)
      down n a (inr same) = (let low = same.1 in absurd (omega arith))

  -- after the last message the list has each copy in flight
  pub flight_whole : (k : ℕ) (flight : List InFlight) → length messages ≤ k
      → IsFlightBefore start v k 0 flight → IsFlight start v flight
  flight_whole k flight l f = record {
    each = f.each;
    every = λ n a fly. f.every n a fly
        (inl (let within = slice_get_within messages (serial (world_of start v) (history v) n)
        (original n) (flying_place n a fly) in omega arith));
    rises = f.rises;
  }
