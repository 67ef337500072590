-- What the tables say of what was carried, and what a round ends with.
use Rattle.std.proofs.Common.{◌≡◌, ℕ, zero, suc, ◌+◌, ◌-◌, ◌<◌, ◌≤◌, Bool, true, false, not, List}
use Rattle.std.proofs.Common.{[], ◌∷◌, length, get_or, Option, Some, None, sym, refl, ap}
use Rattle.std.proofs.Common.{if◌then◌else◌, ◌∙◌, arith, ◌⊎◌, inl, inr}
use Rattle.std.specs.Prelude.{◌&&◌, min, nat_le, nat_lt, option_map}
use Rattle.std.specs.Option.{ForSome}
use Rattle.std.specs.List.{filter_map, range_with_len}
use Rattle.std.proofs.lemmas.Bool.{and_right, cases_lt, le-ltb}
use Rattle.round_lang.specs.declared.value.Value.{Value}
use Rattle.round_meaning.specs.declared.received.Received.{Received}
use Rattle.round_meaning.specs.Rounds.{rounds, inbox, received}
use Rattle.run_events.specs.declared.event.Event.{Event}
use Rattle.run_events.specs.declared.name.Name.{Name}
use Rattle.step_machine.specs.Sealed.{Frame, held_at}
use Rattle.step_machine.specs.Nodes.{inbox_of, IsFrom}
use Rattle.step_book.specs.declared.mark.Mark.{Mark}
use Rattle.step_book.specs.declared.mark.Mark.TheVariants.{Released, Unsent}
use Rattle.step_book.specs.Agreement.{Row, row, Agrees}
use Rattle.step_book.specs.Fates.{Fate, Unmade, Moving, Waiting, Taken, Lost, carried, fate}
use Rattle.step_book.specs.Fates.{some_copy}
use Rattle.step_book.specs.History.{counted, hushed, mark_of, marked, message, state}
use Rattle.step_book.specs.Trace.{steps}
use Rattle.step_book.specs.Work.{AreCarried, Tag, any_within, heard_from, is_within, sent_name}
use Rattle.step_book.specs.Work.{tag_by, tag_of}
use Rattle.step_book.specs.World.{World, nodes_of, IsPlan, earliest, lies_near}
use Rattle.step_book.proofs.Fates.{carried_is, copy_to, let_near, some_found, some_none, some_same}
use Rattle.step_book.proofs.Kept.{end_same, mark_before, mark_is}
use Rattle.step_book.proofs.Plans.{start_le}

either : {A : Type 0} (c : Bool) (x : A) → (if c then x else x) ≡ x
either true x = refl
either false x = refl

-- the tag of a message that isn't silent
abbrev pub tagged : ℕ → ℕ → ℕ → List Value → Tag
tagged j i q s = record { name = sent_name j i (suc q); state = s }

-- silence isn't released
hushed_within : (k first end : ℕ) → is_within (hushed k) first end ≡ false
hushed_within zero first end = refl
hushed_within (suc k) first end = refl

silent_within : (w : World) (k first end : ℕ) (f : Fate)
    → is_within (marked w k None f) first end ≡ false
silent_within w k first end Unmade = refl
silent_within w k first end Moving = hushed_within k first end
silent_within w k first end (Waiting x) = hushed_within k first end
silent_within w k first end (Taken x c) = hushed_within k first end
silent_within w k first end Lost = hushed_within k first end

-- a count as marks keep it lies below a step of a round where the count itself does
counted_within : (x end first past : ℕ) → past ≤ end → (end < x) ⊎ (x ≤ end)
    → (nat_le first (min x end) && nat_lt (min x end) past) ≡ (nat_le first x && nat_lt x past)
counted_within x end first past l (inr low) = let e : min x end ≡ x = omega arith in rw e refl
counted_within x end first past l (inl high) =
    and_right _ _ (le-ltb (min x end) past (omega arith))
    ∙ sym (and_right _ _ (le-ltb x past (omega arith)))

counted_near : (w : World) → IsPlan w → (r x : ℕ) → r ≤ w.rounds
    → is_within (Released (counted w x)) (w.start (earliest r)) (w.start (r + 1)) ≡ lies_near w r x
counted_near w p r x l = counted_within x (w.start (w.rounds + 1)) (w.start (earliest r))
    (w.start (r + 1)) (start_le w p (r + 1) (w.rounds + 1) (omega arith) (omega arith))
    (cases_lt _ _)

near_within : (w : World) → IsPlan w → (k r : ℕ) (m : List Value) (f : Fate) → r ≤ w.rounds
    → is_within (marked w k (Some m) f) (w.start (earliest r)) (w.start (r + 1)) ≡ let_near w r f
near_within w p k r m Unmade l = refl
near_within w p k r m Moving l = refl
near_within w p k r m (Waiting x) l = counted_near w p r x l
near_within w p k r m (Taken x c) l = counted_near w p r x l
near_within w p k r m Lost l = refl

heard_pure : (w : World) → IsPlan w
    → (j i q : ℕ) (s : List Value) (m : Option (List Value)) (f : ℕ → Fate) → suc q ≤ w.rounds
    → ◌≡◌ {A = Option Tag} (if some_copy (λ k. let_near w (suc q) (f k)) then tag_by m
    (sent_name j i (suc q)) s else None)
    (if some_copy (λ k. is_within (marked w k m (f k)) (w.start (earliest (suc q)))
    (w.start (suc q + 1))) then Some (tagged j i q s) else None)
heard_pure w p j i q s None f l =
    either (some_copy (λ k. let_near w (suc q) (f k))) None
    ∙ sym (ap (λ (b : Bool). if b then Some (tagged j i q s) else None)
    (some_none _ (λ k l. silent_within w k (w.start (earliest (suc q))) (w.start (suc q + 1))
    (f k))))
heard_pure w p j i q s (Some m) f l =
    sym (ap (λ (b : Bool). if b then Some (tagged j i q s) else None)
    (some_same _ _ (λ k. near_within w p k (suc q) m (f k) l)))

-- what is within, by the marks of all copies
within_is : (w : World) (t : List Event) (j i q first end : ℕ)
    → any_within (λ k. mark_of w t (copy_to j i (suc q) k)) first end
    ≡ some_copy (λ k. is_within
    (marked w k (message w t (sent_name j i (suc q))) (fate w t (copy_to j i (suc q) k))) first end)
within_is w t j i q first end =
    some_same _ _ (λ k. ap (λ m. is_within m first end) (mark_is w t (copy_to j i (suc q) k)))

-- once the round is past, what was carried to it is told by the marks
pub heard_is : (w : World) → IsPlan w → (t : List Event) (i q j : ℕ) → suc q ≤ w.rounds
    → w.start (suc q + 1) ≤ steps i t
    → heard_from w t i q j
    ≡ (if any_within (λ k. mark_of w t (copy_to j i (suc q) k)) (w.start (earliest (suc q)))
    (w.start (suc q + 1)) then Some (tagged j i q (state w t q j)) else None)
heard_is w p t i q j l n =
    ap (λ c. if c then tag_by (message w t (sent_name j i (suc q))) (sent_name j i (suc q))
    (state w t q j) else None) (carried_is w p i (suc q) j t (omega arith) l n)
    ∙ heard_pure w p j i q (state w t q j) (message w t (sent_name j i (suc q)))
    (λ k. fate w t (copy_to j i (suc q) k)) l
    ∙ sym (ap (λ (b : Bool). if b then Some (tagged j i q (state w t q j)) else None)
    (within_is w t j i q (w.start (earliest (suc q))) (w.start (suc q + 1))))

-- the sender of what was released has closed the rounds before
closed_by : (w : World) → IsPlan w → (n q i x : ℕ) → 0 < n → q < w.rounds → w.start (suc q) + i < x
    → (n ≤ w.rounds → x ≤ w.start (n + 1)) → (q < n) ⊎ (n ≤ q) → q < n
closed_by w p n q i x z l h f (inl d) = d
closed_by w p n q i x z l h f (inr d) =
    let up : w.start (n + 1) ≤ w.start (suc q) =
    start_le w p (n + 1) (suc q) (omega arith) (omega arith) in
    let top = f (omega arith) in
    absurd (omega arith)

marked_sent : (w : World) (t : List Event) (n : Name) → (mark_of w t n ≡ Unsent → ⊥)
    → (w.start n.round + n.to < steps n.from t) ⊎ (steps n.from t ≤ w.start n.round + n.to)
    → w.start n.round + n.to < steps n.from t
marked_sent w t n h (inl l) = l
marked_sent w t n h (inr l) = absurd (h (mark_before w t n l))

within_sent : (m : Mark) (first end : ℕ) → is_within m first end ≡ true → m ≡ Unsent → ⊥
within_sent m first end h e = let off : is_within m first end ≡ false = rw e refl in cc

-- the sender of a message that is marked has closed the rounds before
pub marked_closed : (w : World) → IsPlan w
    → (t : List Event) (counts : List ℕ) (rows : List Row) (tables : List (List Mark)) (j i q k : ℕ)
    → j < nodes_of w → q < w.rounds → (mark_of w t (copy_to j i (suc q) k) ≡ Unsent → ⊥)
    → Agrees w t counts rows tables → q < length (row rows j)
marked_closed w p t counts rows tables j i q k x l h a =
    closed_by w p (length (row rows j)) q i (steps j t) (a.began j x) l
    (marked_sent w t (copy_to j i (suc q) k) h (cases_lt _ _)) (a.near j x) (cases_lt _ _)

-- the sender of what was released in time has closed the rounds before
pub sender_closed : (w : World) → IsPlan w
    → (t : List Event) (counts : List ℕ) (rows : List Row) (tables : List (List Mark))
    (j i q first end : ℕ) → j < nodes_of w → q < w.rounds
    → any_within (λ k. mark_of w t (copy_to j i (suc q) k)) first end ≡ true
    → Agrees w t counts rows tables → q < length (row rows j)
sender_closed w p t counts rows tables j i q first end x l h a =
    let k = some_found (λ k. is_within (mark_of w t (copy_to j i (suc q) k)) first end) h in
    marked_closed w p t counts rows tables j i q k.0 x l
    (within_sent (mark_of w t (copy_to j i (suc q) k.0)) first end k.2) a

-- ---- the end of a round

-- the entry of a frame
abbrev pub entry_of : Option Frame → Option Received
entry_of o = option_map (λ (f : Frame). record { from = f.name.from; message = f.message }) o

-- a filtered list is the list filtered by its places
by_places : (xs : List (Option Frame)) (g : ℕ → Option Received) (a : ℕ)
    → ((k : ℕ) → k < length xs → entry_of (get_or xs k None) ≡ g (a + k))
    → filter_map entry_of xs ≡ filter_map g (range_with_len a (length xs))
by_places [] g a h = refl
by_places (x ∷ xs) g a h =
    let here : entry_of x ≡ g a = h 0 (omega arith) ∙ ap g (omega arith) in
    let rest = by_places xs g (a + 1) (λ k l. h (suc k) (omega arith) ∙ ap g (omega arith)) in
    rw (here, rest) refl

same_entry : (w : World) (j i q : ℕ) (s : List Value) (c : Bool) (m : Option (List Value))
    (o : Option Frame) → w.algorithm.send (suc q) s j i ≡ m
    → option_map tag_of o ≡ (if c then tag_by m (sent_name j i (suc q)) s else None)
    → ForSome o (IsFrom w.algorithm j i (suc q))
    → entry_of o ≡ (if not c then None else received j m)
same_entry w j i q s true None None e f g = refl
same_entry w j i q s true None (Some h) e f g = cc
same_entry w j i q s true (Some m) None e f g = cc
same_entry w j i q s true (Some m) (Some h) e f g =
    let k = g h refl in
    let tag : tag_of h ≡ tagged j i q s = cc in
    let state_is : h.state ≡ s = ap (λ (t : Tag). t.state) tag in
    let says = k.honest.says in
    let sends : w.algorithm.send h.name.round h.state h.name.from h.name.to
    ≡ w.algorithm.send (suc q) s j i =
    ap (λ r. w.algorithm.send r h.state h.name.from h.name.to) k.round
    ∙ ap (λ x. w.algorithm.send (suc q) x h.name.from h.name.to) state_is
    ∙ ap (λ x. w.algorithm.send (suc q) s x h.name.to) k.from
    ∙ ap (w.algorithm.send (suc q) s j) k.to in
    let message_is : h.message ≡ m = (let both : Some h.message ≡ Some m = sym says ∙ sends ∙ e in
    cc) in
    ap (λ x. Some (record { from = x; message = h.message })) k.from
    ∙ ap (λ x. Some (record { from = j; message = x })) message_is
same_entry w j i q s false m None e f g = refl
same_entry w j i q s false m (Some h) e f g = cc

-- what the sender has for the receiver in round q + 1
pub message_is : (w : World) (t : List Event) (i q j : ℕ)
    → message w t (sent_name j i (suc q)) ≡ w.algorithm.send (suc q) (state w t q j) j i
message_is w t i q j = let e : suc q - 1 ≡ q = omega arith in
    ap (λ x. w.algorithm.send (suc q) (state w t x j) j i) e

-- the end of what was carried is the state of the run in rounds
pub ends_with : (w : World) (t : List Event) (i q : ℕ) (old new : List Value)
    (held : List (Option Frame)) → old ≡ state w t q i → length held ≡ nodes_of w
    → AreCarried w t i q held → ((j : ℕ) → j < nodes_of w
    → ForSome (held_at held j) (IsFrom w.algorithm j i (suc q)))
    → new ≡ w.algorithm.end (suc q) i (inbox_of held) old → new ≡ state w t (suc q) i
unfolding rounds inbox
ends_with w t i q old new held e n f g h =
    let places =
    by_places held (λ j. if not (carried w t i (suc q) j) then None else received j
    (w.algorithm.send (suc q) (state w t q j) j i)) 0
    (λ k l. same_entry w k i q (state w t q k) (carried w t i (suc q) k)
    (w.algorithm.send (suc q) (state w t q k) k i) (held_at held k) refl (f k (omega arith)
    ∙ ap (λ m. if carried w t i (suc q) k then tag_by m (sent_name k i (suc q))
    (state w t q k) else None) (message_is w t i q k)) (g k (omega arith))
    ∙ ap (λ j. if not (carried w t i (suc q) j) then None else received j
    (w.algorithm.send (suc q) (state w t q j) j i)) (omega arith)) in
    h ∙ end_same w (suc q) i _ _ _ _ (places
    ∙ ap (λ m. filter_map (λ j. if not (carried w t i (suc q) j) then None else received j
    (w.algorithm.send (suc q) (state w t q j) j i)) (range_with_len 0 m)) n) e
