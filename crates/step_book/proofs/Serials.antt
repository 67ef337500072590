-- The messages that were sent, event by event.
use Rattle.std.proofs.Common.{◌≡◌, ℕ, zero, suc, ◌+◌, ◌-◌, ◌<◌, ◌≤◌, ◌==◌, true, false, List, []}
use Rattle.std.proofs.Common.{◌∷◌, ◌++◌, length, Option, Some, None, is_some, sym, subst, refl, ap}
use Rattle.std.proofs.Common.{if◌then◌else◌, ◌∙◌, arith, ◌⊎◌, inl, inr}
use Rattle.std.specs.List.{slice_get}
use Rattle.std.proofs.lemmas.Bool.{and_from, and_left, and_parts, and_right, cases_Bool, cases_eq}
use Rattle.std.proofs.lemmas.Bool.{cases_lt, eq-eqb, eqb-true, le-leb, leb-true, lt-leb, lt-ltb}
use Rattle.std.proofs.lemmas.Bool.{ltb-true, ne_eqb}
use Rattle.std.proofs.lemmas.List.{append-nil, get_or_append_left, get_or_push, length_push}
use Rattle.std.proofs.lemmas.Option.{slice_get-get_or, slice_get_within}
use Rattle.round_lang.specs.declared.value.Value.{Value}
use Rattle.run_events.specs.declared.event.Event.{Event}
use Rattle.run_events.specs.declared.event.Event.TheVariants.{Step, Release, Drop, Copy}
use Rattle.run_events.specs.declared.name.Name.{Name}
use Rattle.step_book.specs.Fates.{is_slot}
use Rattle.step_book.specs.History.{arrival, message, spoken}
use Rattle.step_book.specs.Names.{IsNameOf}
use Rattle.step_book.specs.Serials.{AreSent, HasSerial, IsSent, is_said, sends, sends_in, sent}
use Rattle.step_book.specs.Serials.{serial, slot_by}
use Rattle.step_book.specs.Trace.{is_step, steps}
use Rattle.step_book.specs.Work.{sent_name}
use Rattle.step_book.specs.World.{World, IsPlan, nodes_of}
use Rattle.step_book.proofs.Keeps.{slots_same}
use Rattle.step_book.proofs.Kept.{message_kept}
use Rattle.step_book.proofs.Names.{name_same}
use Rattle.step_book.proofs.Places.{steps_at, steps_grow, steps_other}
use Rattle.step_book.proofs.Plans.{start_le}

-- ---- places of a list that grows

get_left : {A : Type 0} (xs : List A) (x : A) (k : ℕ) (y : A) → slice_get xs k ≡ Some y
    → slice_get (xs ++ x ∷ []) k ≡ Some y
get_left xs x k y h =
    let l = slice_get_within xs k y h in
    slice_get-get_or (xs ++ x ∷ []) k x (let n = length_push xs x in omega arith)
    ∙ ap Some (get_or_append_left xs (x ∷ []) x k l) ∙ sym (slice_get-get_or xs k x l) ∙ h

get_last : {A : Type 0} (xs : List A) (x : A) → slice_get (xs ++ x ∷ []) (length xs) ≡ Some x
get_last xs x = slice_get-get_or (xs ++ x ∷ []) (length xs) x (let n = length_push xs x in
    omega arith) ∙ ap Some (get_or_push xs x x (length xs) refl)

get_cases_by : {A : Type 0} (xs : List A) (x : A) (k : ℕ) (y : A)
    → slice_get (xs ++ x ∷ []) k ≡ Some y → (k < length xs) ⊎ (length xs ≤ k)
    → (slice_get xs k ≡ Some y) ⊎ ((k ≡ length xs) × (x ≡ y))
get_cases_by xs x k y h (inl l) =
    inl (slice_get-get_or xs k y l ∙ ap Some (sym (get_or_append_left xs (x ∷ []) y k l))
    ∙ sym (slice_get-get_or (xs ++ x ∷ []) k y (let n = length_push xs x in omega arith)) ∙ h)
get_cases_by xs x k y h (inr l) =
    let within = slice_get_within (xs ++ x ∷ []) k y h in
    let n = length_push xs x in
    let e : length xs ≡ k = omega arith in
    let both : Some x ≡ Some y = sym (get_last xs x) ∙ ap (slice_get (xs ++ x ∷ [])) e ∙ h in
    inr (sym e, cc)

get_cases : {A : Type 0} (xs : List A) (x : A) (k : ℕ) (y : A) → slice_get (xs ++ x ∷ []) k ≡ Some y
    → (slice_get xs k ≡ Some y) ⊎ ((k ≡ length xs) × (x ≡ y))
get_cases xs x k y h = get_cases_by xs x k y h (cases_lt _ _)

-- ---- slots

-- the slot of a step number, by the rounds so far
slot_by_more : (w : World) → IsPlan w → (i to r x q : ℕ) → 0 < r → to < nodes_of w
    → x ≡ w.start r + to → r ≤ suc q → (q < r) ⊎ (r ≤ q)
    → (r ≤ q → slot_by w i x q ≡ Some (sent_name i to r))
    → slot_by w i x (suc q) ≡ Some (sent_name i to r)
slot_by_more w p i to r x q z l e b (inl new) ih =
    let same : suc q ≡ r = omega arith in
    let at = ap w.start same in
    let on : sends_in w (suc q) x ≡ true =
    and_from _ _ (le-leb (w.start (suc q)) x (omega arith))
    (lt-ltb x (w.start (suc q) + nodes_of w) (omega arith)) in
    let place : x - w.start (suc q) ≡ to = omega arith in
    ap (λ c. if c then Some (sent_name i (x - w.start (suc q)) (suc q)) else slot_by w i x q) on
    ∙ ap (λ y. Some (sent_name i y (suc q))) place ∙ ap (λ y. Some (sent_name i to y)) same
slot_by_more w p i to r x q z l e b (inr old) ih =
    let long = p.next r z in
    let up : w.start (r + 1) ≤ w.start (suc q) =
    start_le w p (r + 1) (suc q) (omega arith) (omega arith) in
    let off : sends_in w (suc q) x ≡ false =
    and_left _ _ (lt-leb (w.start (suc q)) x (omega arith)) in
    ap (λ c. if c then Some (sent_name i (x - w.start (suc q)) (suc q)) else slot_by w i x q) off
    ∙ ih old

slot_by_at : (w : World) → IsPlan w → (i to r x q : ℕ) → 0 < r → to < nodes_of w
    → x ≡ w.start r + to → r ≤ q → slot_by w i x q ≡ Some (sent_name i to r)
slot_by_at w p i to r x zero z l e b = absurd (omega arith)
slot_by_at w p i to r x (suc q) z l e b =
    slot_by_more w p i to r x q z l e b (cases_lt q r)
    (λ older. slot_by_at w p i to r x q z l e older)

slot_none_by : (w : World) (i x q : ℕ)
    → ((r k : ℕ) → r < suc q → k < nodes_of w → x ≡ w.start (suc r) + k → ⊥)
    → (sends_in w (suc q) x ≡ true) ⊎ (sends_in w (suc q) x ≡ false) → slot_by w i x q ≡ None
    → slot_by w i x (suc q) ≡ None
slot_none_by w i x q h (inl on) ih =
    let both : (_ ≡ true) × (_ ≡ true) = and_parts _ _ on in
    let low = leb-true (w.start (suc q)) x both.0 in
    let high = ltb-true x (w.start (suc q) + nodes_of w) both.1 in
    absurd (h q (x - w.start (suc q)) (omega arith) (omega arith) (omega arith))
slot_none_by w i x q h (inr off) ih =
    ap (λ c. if c then Some (sent_name i (x - w.start (suc q)) (suc q)) else slot_by w i x q) off
    ∙ ih

-- a step that is none of the sends of these rounds
slot_by_none : (w : World) (i x q : ℕ)
    → ((r k : ℕ) → r < q → k < nodes_of w → x ≡ w.start (suc r) + k → ⊥) → slot_by w i x q ≡ None
slot_by_none w i x zero h = refl
slot_by_none w i x (suc q) h = slot_none_by w i x q h (cases_Bool (sends_in w (suc q) x))
    (slot_by_none w i x q (λ r k l. h r k (omega arith)))

-- sends nothing
pub no_send : (w : World) (t : List Event) (i : ℕ)
    → ((r k : ℕ) → r < w.rounds → k < nodes_of w → steps i t ≡ w.start (suc r) + k → ⊥)
    → sends w (Step i) t ≡ false
no_send w t i h = ap (is_said w t) (slot_by_none w i (steps i t) w.rounds h)

pub slot_on : (w : World) (n : Name) (e : Event) (t : List Event) → is_slot w n e t ≡ true
    → (is_step n.from e ≡ true) × (steps n.from t ≡ w.start n.round + n.to)
slot_on w n e t h =
    let both : (is_step n.from e ≡ true) × ((steps n.from t == w.start n.round + n.to) ≡ true) =
    and_parts _ _ h in
    (both.0, eqb-true _ _ both.1)

slot_past : (w : World) (n : Name) (e : Event) (t : List Event)
    → w.start n.round + n.to < steps n.from t → is_slot w n e t ≡ false
slot_past w n e t l =
    and_right _ _ (ne_eqb _ _ (λ (h : steps n.from t ≡ w.start n.round + n.to). omega arith))

-- a slot sends what its sender has for the receiver
pub sends_at : (w : World) → IsPlan w → (n : Name) (e : Event) (t : List Event)
    → IsNameOf (nodes_of w) w.rounds n → n.copy ≡ 0 → is_slot w n e t ≡ true
    → sends w e t ≡ is_some (message w t n)
sends_at w p n (Step i) t a c h =
    let on = slot_on w n (Step i) t h in
    let own : i ≡ n.from = eqb-true i n.from on.0 in
    let named : sent_name n.from n.to n.round ≡ n =
    name_same (sent_name n.from n.to n.round) n refl refl refl (sym c) in
    ap (λ z. is_said w t (slot_by w z (steps z t) w.rounds)) own
    ∙ ap (is_said w t) (slot_by_at w p n.from n.to n.round
    (steps n.from t) w.rounds a.first a.to on.1 a.last)
    ∙ ap (λ (m : Name). is_some (message w t m)) named
sends_at w p n (Release m) t a c h = cc
sends_at w p n (Drop m) t a c h = cc
sends_at w p n (Copy m) t a c h = cc

-- ---- counts and serials

pub sent_more : (w : World) (e : Event) (t : List Event) → sends w e t ≡ true
    → sent w (e ∷ t) ≡ sent w t + 1
unfolding sent
sent_more w e t h = rw h

pub sent_same : (w : World) (e : Event) (t : List Event) → sends w e t ≡ false
    → sent w (e ∷ t) ≡ sent w t
unfolding sent
sent_same w e t h = rw h

pub serial_now : (w : World) (n : Name) (e : Event) (t : List Event) → is_slot w n e t ≡ true
    → serial w (e ∷ t) n ≡ sent w t
unfolding serial
serial_now w n e t h = rw h

pub serial_kept : (w : World) (n : Name) (e : Event) (t : List Event) → is_slot w n e t ≡ false
    → serial w (e ∷ t) n ≡ serial w t n
unfolding serial
serial_kept w n e t h = rw h

module _ (w : World) (p : IsPlan w) (e : Event) (t : List Event) where
  -- what was sent stays so
  sent_kept : (n : Name) → IsNameOf (nodes_of w) w.rounds n → IsSent w t n → IsSent w (e ∷ t) n
  sent_kept n a s =
      let l = s.slot in
      record {
        slot = (let up = steps_grow n.from e t in omega arith);
        said = ap is_some (message_kept w p e t n a.first a.last (omega arith)) ∙ s.said;
      }

  slot_before : (n : Name) → w.start n.round + n.to < steps n.from (e ∷ t) → is_slot w n e t ≡ false
      → (is_step n.from e ≡ true) ⊎ (is_step n.from e ≡ false)
      → (steps n.from t ≡ w.start n.round + n.to) ⊎ (steps n.from t ≡ w.start n.round + n.to → ⊥)
      → w.start n.round + n.to < steps n.from t
  slot_before n l off (inl on) (inl here) =
      let slot : is_slot w n e t ≡ true = and_from _ _ on (eq-eqb _ _ here) in
      absurd cc
  slot_before n l off (inl on) (inr apart) = let up = steps_at n.from e t on in omega arith
  slot_before n l off (inr none) c = let same = steps_other n.from e t none in omega arith

  -- and was so before, but at its slot
  sent_before : (n : Name) → IsNameOf (nodes_of w) w.rounds n → is_slot w n e t ≡ false
      → IsSent w (e ∷ t) n → IsSent w t n
  sent_before n a off s =
      let l = slot_before n s.slot off (cases_Bool _) (cases_eq _ _) in
      record {
        slot = l;
        said = sym (ap is_some (message_kept w p e t n a.first a.last (omega arith))) ∙ s.said;
      }

  has_kept : (k : ℕ) (n : Name) → HasSerial w t k n → HasSerial w (e ∷ t) k n
  has_kept k n s = record {
    named = s.named;
    first = s.first;
    made = sent_kept n s.named s.made;
    place = serial_kept w n e t (slot_past w n e t s.made.slot) ∙ s.place;
  }

  has_before : (k : ℕ) (n : Name) → is_slot w n e t ≡ false → HasSerial w (e ∷ t) k n
      → HasSerial w t k n
  has_before k n off s = record {
    named = s.named;
    first = s.first;
    made = sent_before n s.named off s.made;
    place = sym (serial_kept w n e t off) ∙ s.place;
  }

  -- if nothing is sent, no slot is of what was sent
  quiet_slot : (n : Name) → IsNameOf (nodes_of w) w.rounds n → n.copy ≡ 0 → sends w e t ≡ false
      → IsSent w (e ∷ t) n → (is_slot w n e t ≡ true) ⊎ (is_slot w n e t ≡ false)
      → is_slot w n e t ≡ false
  quiet_slot n a c none s (inl here) =
      let at = (slot_on w n e t here).1 in
      let now = sends_at w p n e t a c here in
      let same = ap is_some (message_kept w p e t n a.first a.last (omega arith)) in
      let said = s.said in
      absurd cc
  quiet_slot n a c none s (inr off) = off

  -- an event that sends nothing
  pub quiet : (names : List Name) → sends w e t ≡ false → AreSent w t names
      → AreSent w (e ∷ t) names
  quiet names none a = record {
    counted = a.counted ∙ sym (sent_same w e t none);
    each = λ k n. (
      λ g. has_kept k n ((a.each k n).0 g),
      λ s. (a.each k n).1
          (has_before k n (quiet_slot n s.named s.first none s.made (cases_Bool _)) s),
    );
  }

module _ (w : World) (p : IsPlan w) (n : Name) (t : List Event) (names : List Name)
    (b : IsNameOf (nodes_of w) w.rounds n) (c : n.copy ≡ 0)
    (at : steps n.from t ≡ w.start n.round + n.to) (a : AreSent w t names) where
  own_slot : is_slot w n (Step n.from) t ≡ true
  own_slot = and_from _ _ (eq-eqb n.from n.from refl) (eq-eqb _ _ at)

  has_now : is_some (message w t n) ≡ true → (k : ℕ) → k ≡ length names
      → HasSerial w (Step n.from ∷ t) k n
  has_now said k e = record {
    named = b;
    first = c;
    made = record {
      slot = (let up = steps_at n.from (Step n.from) t (eq-eqb n.from n.from refl) in omega arith);
      said = ap is_some (message_kept w p (Step n.from) t n b.first b.last (omega arith)) ∙ said;
    };
    place = serial_now w n (Step n.from) t own_slot ∙ sym a.counted ∙ sym e;
  }

  read_grown : is_some (message w t n) ≡ true → (k : ℕ) (m : Name)
      → (slice_get names k ≡ Some m) ⊎ ((k ≡ length names) × (n ≡ m))
      → HasSerial w (Step n.from ∷ t) k m
  read_grown said k m (inl old) = has_kept w p (Step n.from) t k m ((a.each k m).0 old)
  read_grown said k m (inr new) = subst (λ x. HasSerial w (Step n.from ∷ t) k x) new.1
      (has_now said k new.0)

  stands_grown : (k : ℕ) (m : Name) → HasSerial w (Step n.from ∷ t) k m
      → (is_slot w m (Step n.from) t ≡ true) ⊎ (is_slot w m (Step n.from) t ≡ false)
      → slice_get (names ++ n ∷ []) k ≡ Some m
  stands_grown k m s (inl here) =
      let on = slot_on w m (Step n.from) t here in
      let from : n.from ≡ m.from = eqb-true n.from m.from on.0 in
      let one = slots_same w p n m (steps n.from t) b s.named at (ap (λ x. steps x t) from
      ∙ on.1) in
      let same : n ≡ m = name_same n m from one.1 one.0 (c ∙ sym s.first) in
      let place : length names ≡ k = a.counted ∙ sym (serial_now w m (Step n.from) t here)
      ∙ s.place in
      ap (slice_get (names ++ n ∷ [])) (sym place) ∙ get_last names n ∙ ap Some same
  stands_grown k m s (inr off) =
      get_left names n k m ((a.each k m).1 (has_before w p (Step n.from) t k m off s))

  -- a message is sent
  more : is_some (message w t n) ≡ true → AreSent w (Step n.from ∷ t) (names ++ n ∷ [])
  more said = record {
    counted = length_push names n ∙ ap (λ z. z + 1) a.counted
        ∙ sym (sent_more w (Step n.from) t (sends_at w p n (Step n.from) t b c own_slot ∙ said));
    each = λ k m. (
      λ g. read_grown said k m (get_cases names n k m g),
      λ s. stands_grown k m s (cases_Bool _),
    );
  }

  spoken_by : (m : Option (List Value)) → m ≡ message w t n
      → AreSent w (Step n.from ∷ t) (names ++ arrival n (spoken m))
  spoken_by None e =
      let none : sends w (Step n.from) t ≡ false = sends_at w p n (Step n.from) t b c own_slot
      ∙ ap is_some (sym e) in
      rw append-nil (quiet w p (Step n.from) t names none a)
  spoken_by (Some m) e = more (ap is_some (sym e))

  -- a slot adds its message, or nothing if there is silence
  pub spoken_sent : AreSent w (Step n.from ∷ t) (names ++ arrival n (spoken (message w t n)))
  spoken_sent = spoken_by (message w t n) refl

sent_none : (w : World) → sent w [] ≡ 0
unfolding sent
sent_none w = refl

none_sent : (w : World) (n : Name) → IsSent w [] n → ⊥
unfolding steps
none_sent w n s = let l = s.slot in omega arith

-- at the start nothing was sent
pub sent_empty : (w : World) → AreSent w [] []
sent_empty w = record {
  counted = sym (sent_none w);
  each = λ k n. (λ g. cc, λ s. absurd (none_sent w n s.made));
}
