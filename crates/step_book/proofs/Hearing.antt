-- What was carried to a node's round so far, event by event, and what the node holds of it.
use Rattle.std.proofs.Common.{◌≡◌, ℕ, suc, ◌+◌, ◌-◌, ◌==◌, ◌<◌, ◌≤◌, Bool, true, false, cond, ◌&&◌}
use Rattle.std.proofs.Common.{◌||◌, List, [], ◌∷◌, Option, Some, None, option_map, is_some}
use Rattle.std.proofs.Common.{sym, refl, ap, subst, if◌then◌else◌, ◌∙◌, arith, ◌⊎◌, inl, inr}
use Rattle.std.specs.Prelude.{All}
use Rattle.std.specs.List.{count_by}
use Rattle.std.proofs.lemmas.Bool.{and_from, and_parts, and_right, cases_Bool, eq-eqb}
use Rattle.std.proofs.lemmas.Bool.{eqb-true}
use Rattle.std.proofs.lemmas.List.Elements.{All-head, All-tail}
use Rattle.std.proofs.lemmas.List.Sums.{sum_by-cons}
use Rattle.std.proofs.lemmas.Option.{same_Some}
use Rattle.round_lang.specs.declared.value.Value.{Value}
use Rattle.run_events.specs.declared.event.Event.{Event}
use Rattle.run_events.specs.declared.event.Event.TheVariants.{Step}
use Rattle.run_events.specs.declared.name.Name.{Name}
use Rattle.run_events.specs.Names.{original}
use Rattle.step_machine.specs.Sealed.{Frame, held_at}
use Rattle.step_machine.specs.Nodes.{NodeView, ahead, held_of}
use Rattle.step_book.specs.Agreement.{IsBuffer}
use Rattle.step_book.specs.Fates.{Fate, Unmade, Moving, Waiting, Taken, Lost, after, carried, fate}
use Rattle.step_book.specs.Fates.{is_take, is_waiting, makes, some_copy, taken_near}
use Rattle.step_book.specs.History.{is_buffered, message, state}
use Rattle.step_book.specs.Buffers.{names_in}
use Rattle.step_book.specs.Taking.{HasTaken, frame_from, held_or}
use Rattle.step_book.specs.Trace.{is_drop, is_name, is_release, is_step, steps}
use Rattle.step_book.specs.Work.{AreCarried, Tag, heard_from, sent_name, tag_by, tag_of}
use Rattle.step_book.specs.World.{IsPlan, World, earliest, is_receive, lies_near, nodes_of}
use Rattle.step_book.proofs.Fates.{
  LetIn,
  carried_by,
  carried_sent,
  copy_to,
  fate_next,
  kept_left,
  kept_made,
  let_in,
}
use Rattle.step_book.proofs.Fates.{made_sent, none_of, some_found, some_none, some_of, some_same}
use Rattle.step_book.proofs.Heard.{message_is}
use Rattle.step_book.proofs.Kept.{state_kept}
use Rattle.step_book.proofs.Names.{name_same, own_name}
use Rattle.step_book.proofs.Plans.{lies_before, lies_within, start_le, starts_early}

-- ---- an event that is no receive of the node

near_waits : (w : World) (r x c : ℕ) (b : Bool) → b ≡ false
    → taken_near w r (if b then Taken x c else Waiting x) ≡ false
near_waits w r x c b h = rw h refl

near_on : (w : World) (n : Name) (r : ℕ) (e : Event) (t : List Event) (first f : Fate)
    → is_take w n.to e t ≡ false → taken_near w r (after w n e t first f) ≡ taken_near w r f
near_on w n r e t first Unmade h = kept_made w r (makes w n e t first)
near_on w n r e t first Moving h = kept_left w r (steps n.to t) (is_release n e) (is_drop n e)
near_on w n r e t first (Waiting x) h = near_waits w r x (steps n.to t) (is_take w n.to e t) h
near_on w n r e t first (Taken x c) h = refl
near_on w n r e t first Lost h = refl

carried_on : (w : World) (i r j : ℕ) (e : Event) (t : List Event) → is_take w i e t ≡ false
    → carried w (e ∷ t) i r j ≡ carried w t i r j
carried_on w i r j e t h =
    carried_by w (e ∷ t) i r j
    ∙ some_same _ _ (λ k. ap (taken_near w r) (fate_next w e t (copy_to j i r k))
    ∙ near_on w (copy_to j i r k) r e t (fate w t (copy_to j i r 0))
    (fate w t (copy_to j i r k)) h)
    ∙ sym (carried_by w t i r j)

-- the tag of what a state sends in round q + 1, none for silence
abbrev tag_in : World → ℕ → ℕ → ℕ → List Value → Option Tag
tag_in w i q j s = tag_by (w.algorithm.send (suc q) s j i) (sent_name j i (suc q)) s

heard_is : (w : World) (t : List Event) (i q j : ℕ)
    → heard_from w t i q j
    ≡ (if carried w t i (suc q) j then tag_in w i q j (state w t q j) else None)
heard_is w t i q j =
    ap (λ m. if carried w t i (suc q) j then tag_by m (sent_name j i (suc q))
    (state w t q j) else None) (message_is w t i q j)

-- what was sent has the tag that it had
tag_kept : (w : World) → IsPlan w → (e : Event) (t : List Event) (i q j : ℕ) → suc q ≤ w.rounds
    → w.start (suc q) + i < steps j t
    → tag_in w i q j (state w (e ∷ t) q j) ≡ tag_in w i q j (state w t q j)
tag_kept w p e t i q j l n =
    let again : q + 1 ≡ suc q = omega arith in
    let at = ap w.start again in
    ap (tag_in w i q j) (state_kept w p e t q j (omega arith) (omega arith))

tag_same : (c d : Bool) (a b : Option Tag) → d ≡ c → (c ≡ true → a ≡ b)
    → ◌≡◌ {A = Option Tag} (if d then a else None) (if c then b else None)
tag_same true d a b e h = rw e (h refl)
tag_same false d a b e h = rw e refl

heard_same : (w : World) → IsPlan w → (e : Event) (t : List Event) (i q j : ℕ) → suc q ≤ w.rounds
    → carried w (e ∷ t) i (suc q) j ≡ carried w t i (suc q) j
    → heard_from w (e ∷ t) i q j ≡ heard_from w t i q j
heard_same w p e t i q j l same =
    heard_is w (e ∷ t) i q j
    ∙ tag_same (carried w t i (suc q) j) (carried w (e ∷ t) i (suc q) j) _ _ same
    (λ c. tag_kept w p e t i q j l (carried_sent w t i (suc q) j c))
    ∙ sym (heard_is w t i q j)

-- what a node holds of a round is still what was carried
pub held_on : (w : World) → IsPlan w
    → (e : Event) (t : List Event) (i q : ℕ) (held : List (Option Frame)) → suc q ≤ w.rounds
    → is_take w i e t ≡ false → AreCarried w t i q held → AreCarried w (e ∷ t) i q held
held_on w p e t i q held l quiet h = λ j k. h j k
    ∙ sym (heard_same w p e t i q j l (carried_on w i (suc q) j e t quiet))

-- ---- a round of which a node begins to hold frames

before_round : (w : World) (r s : ℕ) (f : Fate) → s ≤ w.start (earliest r) → LetIn w s f
    → taken_near w r f ≡ false
before_round w r s Unmade l h = refl
before_round w r s Moving l h = refl
before_round w r s (Waiting x) l h = refl
before_round w r s (Taken x c) l h = lies_before w r c (let late = h.1 in omega arith)
before_round w r s Lost l h = refl

heard_off : (w : World) (t : List Event) (i q j : ℕ) → carried w t i (suc q) j ≡ false
    → heard_from w t i q j ≡ None
heard_off w t i q j h =
    ap (λ c. if c then tag_by (message w t (sent_name j i (suc q))) (sent_name j i (suc q))
    (state w t q j) else None) h

-- nothing is carried to a round before the first step at which its messages are kept
pub held_begins : (w : World) (t : List Event) (i q : ℕ) (held : List (Option Frame))
    → steps i t ≤ w.start (earliest (suc q)) → ((j : ℕ) → j < nodes_of w → held_at held j ≡ None)
    → AreCarried w t i q held
held_begins w t i q held l none = λ j k.
    ap (option_map tag_of) (none j k)
    ∙ sym (heard_off w t i q j (carried_by w t i (suc q) j
    ∙ some_none _ (λ c m. before_round w (suc q) (steps i t)
    (fate w t (copy_to j i (suc q) c)) l (let_in w t (copy_to j i (suc q) c)))))

pub held_first : (w : World) (i q : ℕ) (held : List (Option Frame))
    → ((j : ℕ) → j < nodes_of w → held_at held j ≡ None) → AreCarried w [] i q held
unfolding steps
held_first w i q held none = held_begins w [] i q held (omega arith) none

-- ---- a receive of the node

-- a copy of the message waits
abbrev waits_for : World → List Event → ℕ → ℕ → ℕ → Bool
waits_for w t i r j = some_copy (λ k. is_waiting (fate w t (copy_to j i r k)))

own_step : (i : ℕ) → is_step i (Step i) ≡ true
own_step i = eq-eqb i i refl

near_taken : (w : World) (r x c : ℕ) (b : Bool) → b ≡ true → lies_near w r c ≡ true
    → taken_near w r (if b then Taken x c else Waiting x) ≡ true
near_taken w r x c b h k = rw h k

-- it's taken where it was, or waits now
near_now : (w : World) (n : Name) (r : ℕ) (t : List Event) (first f : Fate)
    → is_take w n.to (Step n.to) t ≡ true → lies_near w r (steps n.to t) ≡ true
    → taken_near w r (after w n (Step n.to) t first f) ≡ (taken_near w r f || is_waiting f)
near_now w n r t first Unmade h k = kept_made w r (makes w n (Step n.to) t first)
near_now w n r t first Moving h k = refl
near_now w n r t first (Waiting x) h k = near_taken w r x (steps n.to t) _ h k
near_now w n r t first (Taken x c) h k = or_false (lies_near w r c)
  where
    or_false : (b : Bool) → b ≡ (b || false)
    or_false true = refl
    or_false false = refl
near_now w n r t first Lost h k = refl

or_true : (a b : Bool) → b ≡ true → (a || b) ≡ true
or_true true b h = refl
or_true false b h = h

-- what a receive makes of a message to the node
data Hears (w : World) (t : List Event) (i q j : ℕ) : Type 0 where
  -- it was carried before
  Had : carried w t i (suc q) j ≡ true → carried w (Step i ∷ t) i (suc q) j ≡ true → Hears w t i q j
  -- a copy waits, and is carried now
  Comes : (k : ℕ) → k ≤ 3 → is_waiting (fate w t (copy_to j i (suc q) k)) ≡ true
      → carried w t i (suc q) j ≡ false → carried w (Step i ∷ t) i (suc q) j ≡ true
      → Hears w t i q j
  -- no copy waits
  Lacks : waits_for w t i (suc q) j ≡ false → carried w t i (suc q) j ≡ false
      → carried w (Step i ∷ t) i (suc q) j ≡ false → Hears w t i q j

module _ (w : World) (t : List Event) (i q j : ℕ) (receives : is_receive w (steps i t) ≡ true)
    (within : lies_near w (suc q) (steps i t) ≡ true) where
  takes : is_take w i (Step i) t ≡ true
  takes = and_from _ _ (own_step i) receives

  copy_now : (k : ℕ) → taken_near w (suc q) (fate w (Step i ∷ t) (copy_to j i (suc q) k))
      ≡ (taken_near w (suc q) (fate w t (copy_to j i (suc q) k))
      || is_waiting (fate w t (copy_to j i (suc q) k)))
  copy_now k =
      ap (taken_near w (suc q)) (fate_next w (Step i) t (copy_to j i (suc q) k))
      ∙ near_now w (copy_to j i (suc q) k) (suc q) t (fate w t (copy_to j i (suc q) 0))
      (fate w t (copy_to j i (suc q) k)) takes within

  carried_now : (k : ℕ) → k ≤ 3
      → (taken_near w (suc q) (fate w t (copy_to j i (suc q) k))
      || is_waiting (fate w t (copy_to j i (suc q) k))) ≡ true
      → carried w (Step i ∷ t) i (suc q) j ≡ true
  carried_now k l h = carried_by w (Step i ∷ t) i (suc q) j
      ∙ some_of (λ k. taken_near w (suc q) (fate w (Step i ∷ t) (copy_to j i (suc q) k))) k l
      (copy_now k ∙ h)

  hears_by : (carried w t i (suc q) j ≡ true) ⊎ (carried w t i (suc q) j ≡ false)
      → (waits_for w t i (suc q) j ≡ true) ⊎ (waits_for w t i (suc q) j ≡ false) → Hears w t i q j
  hears_by (inl had) c =
      let k = some_found (λ k. taken_near w (suc q) (fate w t (copy_to j i (suc q) k)))
      (sym (carried_by w t i (suc q) j) ∙ had) in
      Had had (carried_now k.0 k.1
      (ap (λ b. b || is_waiting (fate w t (copy_to j i (suc q) k.0))) k.2))
  hears_by (inr had) (inl waits) =
      let k = some_found (λ k. is_waiting (fate w t (copy_to j i (suc q) k))) waits in
      Comes k.0 k.1 k.2 had
      (carried_now k.0 k.1
      (or_true (taken_near w (suc q) (fate w t (copy_to j i (suc q) k.0))) _ k.2))
  hears_by (inr had) (inr waits) =
      Lacks waits had (carried_by w (Step i ∷ t) i (suc q) j ∙ some_none _ (λ k l. copy_now k
      ∙ ap (λ b. b || is_waiting (fate w t (copy_to j i (suc q) k)))
      (none_of (λ k. taken_near w (suc q) (fate w t (copy_to j i (suc q) k))) k l
      (sym (carried_by w t i (suc q) j) ∙ had))
      ∙ none_of (λ k. is_waiting (fate w t (copy_to j i (suc q) k))) k l waits))

  hears : Hears w t i q j
  hears = hears_by (cases_Bool _) (cases_Bool _)

-- ---- the frames that a receive hands out

-- a frame to node i of one of a message's copies that names its sender's state in the run in rounds
pub record IsTold (w : World) (t : List Event) (i : ℕ) (f : Frame) : Type 0 where
  pub to : f.name.to ≡ i
  pub copy : f.name.copy ≤ 3
  pub state : f.state ≡ state w t (f.name.round - 1) f.name.from

-- the frame is of this round and sender
abbrev is_from : ℕ → ℕ → Frame → Bool
is_from r j f = f.name.round == r && f.name.from == j

count_next : (n : Name) (f : Frame) (fs : List Frame)
    → count_by (is_name n) (names_in (f ∷ fs)) ≡ cond (is_name n f.name) 1 0 + count_by (is_name n)
    (names_in fs)
count_next n f fs = sum_by-cons (λ m. cond (is_name n m) 1 0) f.name (names_in fs)

-- the frame that is found is one of the list, of the round and the sender
found_at : (P : Frame → Type 0) (r j : ℕ) (g f : Frame) (fs : List Frame) (b : Bool)
    → is_from r j g ≡ b → P g → (if b then Some g else frame_from r j fs) ≡ Some f
    → (frame_from r j fs ≡ Some f → P f × (f.name.round ≡ r) × (f.name.from ≡ j))
    → P f × (f.name.round ≡ r) × (f.name.from ≡ j)
found_at P r j g f fs true k p e ih =
    let both : ((g.name.round == r) ≡ true) × ((g.name.from == j) ≡ true) = and_parts _ _ k in
    subst (λ (x : Frame). P x × (x.name.round ≡ r) × (x.name.from ≡ j)) (same_Some g f e) (
      p,
      eqb-true _ _ both.0,
      eqb-true _ _ both.1,
    )
found_at P r j g f fs false k p e ih = ih e

frame_found : (P : Frame → Type 0) (r j : ℕ) (f : Frame) (fs : List Frame) → All P fs
    → frame_from r j fs ≡ Some f → P f × (f.name.round ≡ r) × (f.name.from ≡ j)
frame_found P r j f [] all e = cc
frame_found P r j f (g ∷ fs) all e =
    found_at P r j g f fs (is_from r j g) refl (All-head P g fs all) e
    (frame_found P r j f fs (All-tail P g fs all))

name_from : (n : Name) (g : Frame) → is_name n g.name ≡ true → is_from n.round n.from g ≡ true
name_from n g h =
    let outer : ((g.name.from == n.from && g.name.to == n.to && g.name.round == n.round) ≡ true)
    × ((g.name.copy == n.copy) ≡ true) = and_parts _ _ h in
    let middle : ((g.name.from == n.from && g.name.to == n.to) ≡ true)
    × ((g.name.round == n.round) ≡ true) = and_parts _ _ outer.0 in
    let inner : ((g.name.from == n.from) ≡ true) × ((g.name.to == n.to) ≡ true) =
    and_parts _ _ middle.0 in
    and_from _ _ middle.1 inner.0

none_at : (n : Name) (g : Frame) (fs : List Frame) (c : ℕ) (a b : Bool) → is_name n g.name ≡ a
    → is_from n.round n.from g ≡ b → (if b then Some g else frame_from n.round n.from fs) ≡ None
    → (frame_from n.round n.from fs ≡ None → c ≡ 0) → cond a 1 0 + c ≡ 0
none_at n g fs c a true k h e ih = cc
none_at n g fs c true false k h e ih = let on = name_from n g k in cc
none_at n g fs c false false k h e ih = let none = ih e in omega arith

-- no name is counted where no frame is found
none_counted : (n : Name) (fs : List Frame) → frame_from n.round n.from fs ≡ None
    → count_by (is_name n) (names_in fs) ≡ 0
none_counted n [] e = refl
none_counted n (g ∷ fs) e =
    count_next n g fs ∙ none_at n g fs (count_by (is_name n) (names_in fs)) (is_name n g.name)
    (is_from n.round n.from g) refl refl e (none_counted n fs)

some_at : (r j : ℕ) (g f : Frame) (fs : List Frame) (c : ℕ) (b : Bool)
    → (if b then Some g else frame_from r j fs) ≡ Some f → (frame_from r j fs ≡ Some f → 0 < c)
    → (f ≡ g → ◌≡◌ {A = ℕ} (cond (is_name f.name g.name) 1 0) 1)
    → 0 < cond (is_name f.name g.name) 1 0 + c
some_at r j g f fs c true e ih own = let one = own (sym (same_Some g f e)) in omega arith
some_at r j g f fs c false e ih own = let some = ih e in omega arith

own_count : (f g : Frame) → f ≡ g → ◌≡◌ {A = ℕ} (cond (is_name f.name g.name) 1 0) 1
own_count f g e = ap (λ (x : Frame). cond (is_name f.name x.name) 1 0) (sym e)
    ∙ ap (λ b. cond b 1 0) (own_name f.name)

-- and the name of the frame that is found is
some_counted : (r j : ℕ) (f : Frame) (fs : List Frame) → frame_from r j fs ≡ Some f
    → 0 < count_by (is_name f.name) (names_in fs)
some_counted r j f [] e = cc
some_counted r j f (g ∷ fs) e =
    let next = count_next f.name g fs in
    let more = some_at r j g f fs (count_by (is_name f.name) (names_in fs)) (is_from r j g) e
    (some_counted r j f fs) (own_count f g) in
    omega arith

-- ---- what a node holds after a receive

held_none : (h : Option Frame) → option_map tag_of h ≡ None → h ≡ None
held_none None e = refl
held_none (Some f) e = cc

or_none : (h : Option Frame) → held_or h None ≡ h
or_none None = refl
or_none (Some f) = refl

-- what is held stays, whatever comes
had_tag : (h o : Option Frame) (x : Option Tag) → (x ≡ None → o ≡ None) → option_map tag_of h ≡ x
    → option_map tag_of (held_or h o) ≡ x
had_tag None o None none e = ap (option_map tag_of) (none refl)
had_tag None o (Some g) none e = cc
had_tag (Some f) o x none e = e

said_off : (a : Bool) (m : Option (List Value)) → m ≡ None → (a && is_some m) ≡ true → ⊥
said_off a m h k = let off : (a && is_some m) ≡ false = and_right a _ (ap is_some h) in cc

counted_on : (b : Bool) (n : ℕ) → n ≡ (if b then 1 else 0) → 0 < n → b ≡ true
counted_on true n e l = refl
counted_on false n e l = absurd (omega arith)

module _ (w : World) (t : List Event) (i q j : ℕ) (fs : List Frame)
    (answers : All (IsTold w t i) fs) (few : suc q ≤ w.rounds)
    (once : IsBuffer w t i (names_in fs)) where
  -- a frame that comes is one that waits, of a message
  waits_there : (f : Frame) → frame_from (suc q) j fs ≡ Some f
      → (is_waiting (fate w t (copy_to j i (suc q) f.name.copy))
      && is_some (message w t (sent_name j i (suc q)))) ≡ true
  waits_there f e =
      let is = frame_found (IsTold w t i) (suc q) j f fs answers e in
      let name : f.name ≡ copy_to j i (suc q) f.name.copy =
      name_same f.name (copy_to j i (suc q) f.name.copy) is.2 is.0.to is.1 refl in
      let round = is.1 in
      let some = some_counted (suc q) j f fs e in
      ap (λ (n : Name). is_buffered w t n) (sym name)
      ∙ counted_on _ _ (once f.name is.0.to (omega arith) (omega arith)) some

  -- if no copy waits, none comes
  none_comes : waits_for w t i (suc q) j ≡ false → (o : Option Frame) → frame_from (suc q) j fs ≡ o
      → o ≡ None
  none_comes off None e = refl
  none_comes off (Some f) e =
      let is = frame_found (IsTold w t i) (suc q) j f fs answers e in
      let both : (is_waiting (fate w t (copy_to j i (suc q) f.name.copy)) ≡ true)
      × (is_some (message w t (sent_name j i (suc q))) ≡ true) =
      and_parts _ _ (waits_there f e) in
      let none = none_of (λ k. is_waiting (fate w t (copy_to j i (suc q) k))) f.name.copy is.0.copy
      off in
      cc

  -- nor of silence
  silence_comes : message w t (sent_name j i (suc q)) ≡ None → (o : Option Frame)
      → frame_from (suc q) j fs ≡ o → o ≡ None
  silence_comes none None e = refl
  silence_comes none (Some f) e = absurd (said_off _ _ none (waits_there f e))

  -- if one waits, its frame does
  one_comes : (k : ℕ) → is_waiting (fate w t (copy_to j i (suc q) k)) ≡ true → (m : List Value)
      → message w t (sent_name j i (suc q)) ≡ Some m → (o : Option Frame)
      → frame_from (suc q) j fs ≡ o
      → option_map tag_of o ≡ tag_by (Some m) (sent_name j i (suc q)) (state w t q j)
  one_comes k on m says None e =
      let none = none_counted (copy_to j i (suc q) k) fs e in
      let there : is_buffered w t (copy_to j i (suc q) k) ≡ true =
      and_from _ _ on (ap is_some says) in
      let some : count_by (is_name (copy_to j i (suc q) k)) (names_in fs) ≡ 1 =
      once (copy_to j i (suc q) k) refl (omega arith) few
      ∙ ap (λ (b : Bool). if b then 1 else 0) there in
      absurd (omega arith)
  one_comes k on m says (Some f) e =
      let is = frame_found (IsTold w t i) (suc q) j f fs answers e in
      let name : original f.name ≡ sent_name j i (suc q) =
      name_same (original f.name) (sent_name j i (suc q)) is.2 is.0.to is.1 refl in
      let round : f.name.round - 1 ≡ q = let r = is.1 in omega arith in
      let own : f.state ≡ state w t q j = is.0.state ∙ ap (λ r. state w t r f.name.from) round
      ∙ ap (state w t q) is.2 in
      ap (λ (x : Name). Some (record { name = x; state = f.state })) name
      ∙ ap (λ (x : List Value). Some (record { name = sent_name j i (suc q); state = x })) own

  comes : (k : ℕ) → is_waiting (fate w t (copy_to j i (suc q) k)) ≡ true → (m : Option (List Value))
      → message w t (sent_name j i (suc q)) ≡ m
      → option_map tag_of (frame_from (suc q) j fs)
      ≡ tag_by m (sent_name j i (suc q)) (state w t q j)
  comes k on None says = ap (option_map tag_of) (silence_comes says (frame_from (suc q) j fs) refl)
  comes k on (Some m) says = one_comes k on m says (frame_from (suc q) j fs) refl

  silent_tag : (m : Option (List Value)) → tag_by m (sent_name j i (suc q)) (state w t q j) ≡ None
      → m ≡ None
  silent_tag None h = refl
  silent_tag (Some m) h = cc

  heard_by : IsPlan w → (h : Option Frame) → option_map tag_of h ≡ heard_from w t i q j
      → Hears w t i q j → option_map tag_of (held_or h (frame_from (suc q) j fs))
      ≡ heard_from w (Step i ∷ t) i q j
  heard_by p h e (Had before now) =
      let tag : heard_from w t i q j ≡ tag_by (message w t (sent_name j i (suc q)))
      (sent_name j i (suc q)) (state w t q j) =
      ap (λ c. if c then tag_by (message w t (sent_name j i (suc q))) (sent_name j i (suc q))
      (state w t q j) else None) before in
      had_tag h (frame_from (suc q) j fs) (heard_from w t i q j)
      (λ none. silence_comes (silent_tag _ (sym tag ∙ none)) (frame_from (suc q) j fs) refl) e
      ∙ sym (heard_same w p (Step i) t i q j few (now ∙ sym before))
  heard_by p h e (Comes k l waits before now) =
      ap (λ o. option_map tag_of (held_or o (frame_from (suc q) j fs)))
      (held_none h (e ∙ heard_off w t i q j before))
      ∙ comes k waits (message w t (sent_name j i (suc q))) refl
      ∙ ap (λ m. tag_by m (sent_name j i (suc q)) (state w t q j)) (message_is w t i q j)
      ∙ sym (tag_kept w p (Step i) t i q j few
      (made_sent w t (copy_to j i (suc q) k) (λ none. let off = ap is_waiting none in cc)))
      ∙ sym (ap (λ c. if c then tag_in w i q j (state w (Step i ∷ t) q j) else None) now)
      ∙ sym (heard_is w (Step i ∷ t) i q j)
  heard_by p h e (Lacks waits before now) =
      ap (λ o. option_map tag_of (held_or h o)) (none_comes waits (frame_from (suc q) j fs) refl)
      ∙ ap (option_map tag_of) (or_none h) ∙ e
      ∙ sym (heard_same w p (Step i) t i q j few (now ∙ sym before))

-- a step of round r is one at which the messages of the rounds after it are kept, up to `ahead`
near_step : (w : World) → IsPlan w → (r k x : ℕ) → 0 < r → k ≤ ahead → w.start r ≤ x
    → x < w.start (r + 1) → lies_near w (r + k) x ≡ true
near_step w p r k x z l low high =
    let begun = starts_early w p (r + k) r z (omega arith) in
    let past : w.start (r + 1) ≤ w.start (r + k + 1) =
    start_le w p (r + 1) (r + k + 1) (omega arith) (omega arith) in
    lies_within w (r + k) x (omega arith) (omega arith)

-- what a node holds after a receive, of its round and of each that it keeps, is what was carried
pub held_received : (w : World) → IsPlan w
    → (t : List Event) (i q k r : ℕ) (old new : NodeView) (fs : List Frame) → k ≤ ahead → 0 < r
    → suc q ≡ r + k
    → suc q ≤ w.rounds → is_receive w (steps i t) ≡ true → w.start r ≤ steps i t
    → steps i t < w.start (r + 1) → IsBuffer w t i (names_in fs) → All (IsTold w t i) fs
    → old.round ≡ r → HasTaken old new fs → AreCarried w t i q (held_of old k)
    → AreCarried w (Step i ∷ t) i q (held_of new k)
held_received w p t i q k r old new fs m z e l receives low high once answers round took h = λ j n.
    let next : old.round + k ≡ suc q = ap (λ x. x + k) round ∙ sym e in
    let within : lies_near w (suc q) (steps i t) ≡ true = ap (λ x. lies_near w x (steps i t)) e
    ∙ near_step w p r k (steps i t) z m low high in
    ap (option_map tag_of) (took.held k j m
    ∙ ap (λ x. held_or (held_at (held_of old k) j) (frame_from x j fs)) next)
    ∙ heard_by w t i q j fs answers l once p (held_at (held_of old k) j) (h j n)
    (hears w t i q j receives within)
