-- What a later event leaves of the run in rounds and of each message.
use Rattle.std.proofs.Common.{◌≡◌, ℕ, zero, suc, ◌+◌, ◌-◌, ◌<◌, ◌≤◌, ◌==◌, Bool, true, false, not}
use Rattle.std.proofs.Common.{List, ◌∷◌, Option, Some, None, sym, refl, ap, if◌then◌else◌}
use Rattle.std.proofs.Common.{◌∙◌, arith, add-one}
use Rattle.std.proofs.lemmas.Bool.{and_right, and_from, eq-eqb, eqb-true, ne_eqb}
use Rattle.round_lang.specs.declared.value.Value.{Value}
use Rattle.round_meaning.specs.declared.received.Received.{Received}
use Rattle.round_meaning.specs.Rounds.{rounds, inbox, received}
use Rattle.round_meaning.proofs.RoundLaws.{filter_map_same}
use Rattle.run_events.specs.declared.event.Event.{Event}
use Rattle.run_events.specs.declared.event.Event.TheVariants.{Release, Drop, Copy}
use Rattle.run_events.specs.declared.name.Name.{Name}
use Rattle.run_events.specs.Names.{original}
use Rattle.step_book.specs.declared.mark.Mark.{Mark}
use Rattle.step_book.specs.declared.mark.Mark.TheVariants as mark
use Rattle.step_book.specs.Fates.{Fate, Unmade, Moving, Waiting, Taken, Lost, after, carried, fate}
use Rattle.step_book.specs.Fates.{is_moving, is_slot, is_take, makes}
use Rattle.step_book.specs.History.{copied, counted, dropped, hushed, is_flying, is_unsent}
use Rattle.step_book.specs.History.{let_go, mark_of, marked, message, spoken, state}
use Rattle.step_book.specs.Trace.{is_copy, is_drop, is_release, is_step, steps}
use Rattle.step_book.specs.World.{World, nodes_of, IsPlan}
use Rattle.step_book.proofs.Fates.{carried_kept, carried_sent, fate_next, made_sent, unmade_before}
use Rattle.step_book.proofs.Names.{own_name}
use Rattle.step_book.proofs.Places.{steps_more}
use Rattle.step_book.proofs.Plans.{start_le}

-- an entry of an inbox is the same if it's omitted in both, or the messages are the same
heard_same : (c d : Bool) (j : ℕ) (m k : Option (List Value)) → d ≡ c → (c ≡ true → m ≡ k)
    → ◌≡◌ {A = Option Received} (if not d then None else received j m)
    (if not c then None else received j k)
heard_same true d j m k e h = rw e (ap (received j) (h refl))
heard_same false d j m k e h = rw e refl

-- a round's end of the same state with the same inbox is the same
pub end_same : (w : World) (r i : ℕ) (x y : List Received) (a b : List Value) → x ≡ y → a ≡ b
    → w.algorithm.end r i x a ≡ w.algorithm.end r i y b
end_same w r i x y a b p q = rw (p, q) refl

-- the state after a round that is past stays
pub state_kept : (w : World) → IsPlan w → (e : Event) (t : List Event) (r i : ℕ) → r ≤ w.rounds
    → w.start (r + 1) ≤ steps i t → state w (e ∷ t) r i ≡ state w t r i
unfolding rounds inbox
state_kept w p e t zero i l n = refl
state_kept w p e t (suc r) i l n =
    let up : w.start (r + 1) ≤ w.start (suc r + 1) =
    start_le w p (r + 1) (suc r + 1) (omega arith) (omega arith) in
    let me : state w (e ∷ t) r i ≡ state w t r i =
    state_kept w p e t r i (omega arith) (omega arith) in
    let same = filter_map_same
    (λ j. if not (carried w (e ∷ t) i (suc r) j) then None else received j
    (w.algorithm.send (suc r) (state w (e ∷ t) r j) j i))
    (λ j. if not (carried w t i (suc r) j) then None else received j
    (w.algorithm.send (suc r) (state w t r j) j i))
    0 (nodes_of w)
    (λ j a b. heard_same (carried w t i (suc r) j) (carried w (e ∷ t) i (suc r) j) j _ _
    (carried_kept w i (suc r) j e t n)
    (λ c.
    let past = carried_sent w t i (suc r) j c in
    let again = ap w.start (add-one r) in
    ap (λ z. w.algorithm.send (suc r) z j i)
    (state_kept w p e t r j (omega arith) (omega arith)))) in
    end_same w (suc r) i _ _ _ _ same me

-- what was sent stays
pub message_kept : (w : World) → IsPlan w → (e : Event) (t : List Event) (n : Name) → 0 < n.round
    → n.round ≤ w.rounds → w.start n.round ≤ steps n.from t → message w (e ∷ t) n ≡ message w t n
message_kept w p e t n z l k =
    let again : (n.round - 1) + 1 ≡ n.round = omega arith in
    let at = ap w.start again in
    ap (λ s. w.algorithm.send n.round s n.from n.to)
    (state_kept w p e t (n.round - 1) n.from (omega arith) (omega arith))

-- ---- the mark of a message

pub mark_is : (w : World) (t : List Event) (n : Name)
    → mark_of w t n ≡ marked w n.copy (message w t n) (fate w t n)
unfolding mark_of
mark_is w t n = refl

marked_same : (w : World) (k : ℕ) (m q : Option (List Value)) (f : Fate)
    → ((f ≡ Unmade → ⊥) → m ≡ q) → marked w k m f ≡ marked w k q f
marked_same w k m q Unmade h = refl
marked_same w k m q Moving h = ap (λ x. marked w k x Moving) (h (λ u. cc))
marked_same w k m q (Waiting x) h = ap (λ y. marked w k y (Waiting x)) (h (λ u. cc))
marked_same w k m q (Taken x c) h = ap (λ y. marked w k y (Taken x c)) (h (λ u. cc))
marked_same w k m q Lost h = ap (λ y. marked w k y Lost) (h (λ u. cc))

module _ (w : World) (p : IsPlan w) (e : Event) (t : List Event) (n : Name) (z : 0 < n.round)
    (l : n.round ≤ w.rounds) where
  -- the message of what is made is what it was
  pub made_same : (fate w (e ∷ t) n ≡ Unmade → ⊥) → message w (e ∷ t) n ≡ message w t n
  made_same h = message_kept w p e t n z l (begun (step_cases (is_step n.from e) refl))
    where
      step_cases : (b : Bool) → is_step n.from e ≡ b → (steps n.from (e ∷ t) ≤ steps n.from t + 1)
      step_cases b k = steps_more n.from e t b k

      begun : steps n.from (e ∷ t) ≤ steps n.from t + 1 → w.start n.round ≤ steps n.from t
      begun up = let made = made_sent w (e ∷ t) n h in omega arith

  pub mark_after : mark_of w (e ∷ t) n ≡ marked w n.copy (message w t n)
      (after w n e t (fate w t (original n)) (fate w t n))
  mark_after =
      mark_is w (e ∷ t) n
      ∙ marked_same w n.copy (message w (e ∷ t) n) (message w t n) (fate w (e ∷ t) n) made_same
      ∙ ap (marked w n.copy (message w t n)) (fate_next w e t n)

quiet_made : (w : World) (k : ℕ) (m : Option (List Value)) (b : Bool) → b ≡ false
    → marked w k m (if b then Moving else Unmade) ≡ mark.Unsent
quiet_made w k m b h = rw h refl

quiet_left : (w : World) (k x : ℕ) (m : Option (List Value)) (a b : Bool) → a ≡ false → b ≡ false
    → marked w k m (if a then Waiting x else if b then Lost else Moving) ≡ marked w k m Moving
quiet_left w k x m a b g h = rw (g, h) refl

quiet_taken : (w : World) (k x c : ℕ) (m : Option (List Value)) (b : Bool)
    → marked w k m (if b then Taken x c else Waiting x) ≡ marked w k m (Waiting x)
quiet_taken w k x c None true = refl
quiet_taken w k x c (Some m) true = refl
quiet_taken w k x c m false = refl

quiet_marked : (w : World) (n : Name) (e : Event) (t : List Event) (first f : Fate)
    (m : Option (List Value)) → makes w n e t first ≡ false → is_release n e ≡ false
    → is_drop n e ≡ false → marked w n.copy m (after w n e t first f) ≡ marked w n.copy m f
quiet_marked w n e t first Unmade m a b c = quiet_made w n.copy m (makes w n e t first) a
quiet_marked w n e t first Moving m a b c =
    quiet_left w n.copy (steps n.to t) m (is_release n e) (is_drop n e) b c
quiet_marked w n e t first (Waiting x) m a b c =
    quiet_taken w n.copy x (steps n.to t) m (is_take w n.to e t)
quiet_marked w n e t first (Taken x y) m a b c = refl
quiet_marked w n e t first Lost m a b c = refl

makes_off : (w : World) (n : Name) (e : Event) (t : List Event) (first : Fate) (b : Bool)
    → (n.copy == 0) ≡ b → (n.copy ≡ 0 → is_slot w n e t ≡ false) → is_copy n e ≡ false
    → makes w n e t first ≡ false
makes_off w n e t first true q h k = rw q (h (eqb-true n.copy 0 q))
makes_off w n e t first false q h k = rw (q, k) refl

-- an event that is neither its slot, nor a release, a drop or a copy of it, changes nothing
pub mark_kept : (w : World) → IsPlan w → (e : Event) (t : List Event) (n : Name) → 0 < n.round
    → n.round ≤ w.rounds → (n.copy ≡ 0 → is_slot w n e t ≡ false) → is_release n e ≡ false
    → is_drop n e ≡ false → is_copy n e ≡ false → mark_of w (e ∷ t) n ≡ mark_of w t n
mark_kept w p e t n z l a b c d =
    mark_after w p e t n z l
    ∙ quiet_marked w n e t (fate w t (original n)) (fate w t n) (message w t n)
    (makes_off w n e t (fate w t (original n)) (n.copy == 0) refl a d) b c
    ∙ sym (mark_is w t n)

-- before its slot
pub mark_before : (w : World) (t : List Event) (n : Name) → steps n.from t ≤ w.start n.round + n.to
    → mark_of w t n ≡ mark.Unsent
mark_before w t n l = mark_is w t n ∙ ap (marked w n.copy (message w t n)) (unmade_before w t n l)

marked_moving : (w : World) (m : Option (List Value)) → marked w 0 m Moving ≡ spoken m
marked_moving w None = refl
marked_moving w (Some m) = refl

slot_made : (w : World) (n : Name) (e : Event) (t : List Event) (first : Fate) → n.copy ≡ 0
    → is_slot w n e t ≡ true → after w n e t first Unmade ≡ Moving
slot_made w n e t first h k = rw (eq-eqb n.copy 0 h, k) refl

-- at its slot the state of its round sends
pub mark_now : (w : World) → IsPlan w → (e : Event) (t : List Event) (n : Name) → 0 < n.round
    → n.round ≤ w.rounds → n.copy ≡ 0 → is_step n.from e ≡ true
    → steps n.from t ≡ w.start n.round + n.to → mark_of w (e ∷ t) n ≡ spoken (message w t n)
mark_now w p e t n z l k h at =
    mark_after w p e t n z l
    ∙ ap (λ f. marked w n.copy (message w t n) (after w n e t (fate w t (original n)) f))
    (unmade_before w t n (omega arith))
    ∙ ap (marked w n.copy (message w t n))
    (slot_made w n e t (fate w t (original n)) k (and_from _ _ h (eq-eqb _ _ at)))
    ∙ ap (λ c. marked w c (message w t n) Moving) k ∙ marked_moving w (message w t n)

hushed_let_go : (x k : ℕ) → hushed k ≡ let_go x (hushed k)
hushed_let_go x zero = refl
hushed_let_go x (suc k) = refl

release_marked : (w : World) (n : Name) (t : List Event) (first f : Fate) (m : Option (List Value))
    (x : ℕ) → counted w (steps n.to t) ≡ x → is_release n (Release n) ≡ true
    → makes w n (Release n) t first ≡ false
    → marked w n.copy m (after w n (Release n) t first f) ≡ let_go x (marked w n.copy m f)
release_marked w n t first Unmade m x e h k = quiet_made w n.copy m _ k
release_marked w n t first Moving None x e h k = rw h (hushed_let_go x n.copy)
release_marked w n t first Moving (Some m) x e h k = rw h (ap mark.Released e)
release_marked w n t first (Waiting y) None x e h k = hushed_let_go x n.copy
release_marked w n t first (Waiting y) (Some m) x e h k = refl
release_marked w n t first (Taken y c) None x e h k = hushed_let_go x n.copy
release_marked w n t first (Taken y c) (Some m) x e h k = refl
release_marked w n t first Lost None x e h k = hushed_let_go x n.copy
release_marked w n t first Lost (Some m) x e h k = refl

-- at a release of it
pub mark_release : (w : World) → IsPlan w → (t : List Event) (n : Name) → 0 < n.round
    → n.round ≤ w.rounds
    → mark_of w (Release n ∷ t) n ≡ let_go (counted w (steps n.to t)) (mark_of w t n)
mark_release w p t n z l =
    mark_after w p (Release n) t n z l
    ∙ release_marked w n t (fate w t (original n)) (fate w t n) (message w t n)
    (counted w (steps n.to t)) refl (own_name n)
    (makes_off w n (Release n) t (fate w t (original n)) (n.copy == 0) refl (λ k. refl) refl)
    ∙ ap (let_go (counted w (steps n.to t))) (sym (mark_is w t n))

hushed_dropped : (k : ℕ) → hushed k ≡ dropped (hushed k)
hushed_dropped zero = refl
hushed_dropped (suc k) = refl

drop_marked : (w : World) (n : Name) (t : List Event) (first f : Fate) (m : Option (List Value))
    → is_drop n (Drop n) ≡ true → makes w n (Drop n) t first ≡ false
    → marked w n.copy m (after w n (Drop n) t first f) ≡ dropped (marked w n.copy m f)
drop_marked w n t first Unmade m h k = quiet_made w n.copy m _ k
drop_marked w n t first Moving None h k = rw h (hushed_dropped n.copy)
drop_marked w n t first Moving (Some m) h k = rw h refl
drop_marked w n t first (Waiting y) None h k = hushed_dropped n.copy
drop_marked w n t first (Waiting y) (Some m) h k = refl
drop_marked w n t first (Taken y c) None h k = hushed_dropped n.copy
drop_marked w n t first (Taken y c) (Some m) h k = refl
drop_marked w n t first Lost None h k = hushed_dropped n.copy
drop_marked w n t first Lost (Some m) h k = refl

-- at a drop of it
pub mark_drop : (w : World) → IsPlan w → (t : List Event) (n : Name) → 0 < n.round
    → n.round ≤ w.rounds → mark_of w (Drop n ∷ t) n ≡ dropped (mark_of w t n)
mark_drop w p t n z l =
    mark_after w p (Drop n) t n z l
    ∙ drop_marked w n t (fate w t (original n)) (fate w t n) (message w t n) (own_name n)
    (makes_off w n (Drop n) t (fate w t (original n)) (n.copy == 0) refl (λ k. refl) refl)
    ∙ ap dropped (sym (mark_is w t n))

copied_off : (first m : Mark) → is_unsent m ≡ false → m ≡ copied first m
copied_off first m h = rw (h, and_right (is_flying first) false refl) refl

copied_unsent : (first : Mark) → is_flying first ≡ false → mark.Unsent ≡ copied first mark.Unsent
copied_unsent first h = rw h refl

-- a copy of what isn't made
copy_made : (w : World) (k : ℕ) (m : Option (List Value)) (first : Fate)
    → marked w (suc k) m (if is_moving first then Moving else Unmade)
    ≡ copied (marked w 0 m first) mark.Unsent
copy_made w k m Unmade = refl
copy_made w k None Moving = refl
copy_made w k (Some m) Moving = refl
copy_made w k None (Waiting x) = refl
copy_made w k (Some m) (Waiting x) = refl
copy_made w k None (Taken x c) = refl
copy_made w k (Some m) (Taken x c) = refl
copy_made w k None Lost = refl
copy_made w k (Some m) Lost = refl

-- silence doesn't fly
hushed_idle : (w : World) (first : Fate) → is_flying (marked w 0 None first) ≡ false
hushed_idle w Unmade = refl
hushed_idle w Moving = refl
hushed_idle w (Waiting x) = refl
hushed_idle w (Taken x c) = refl
hushed_idle w Lost = refl

copy_marked : (w : World) (n : Name) (t : List Event) (k : ℕ) (first f : Fate)
    (m : Option (List Value)) → n.copy ≡ suc k → is_copy n (Copy n) ≡ true
    → marked w (suc k) m (after w n (Copy n) t first f)
    ≡ copied (marked w 0 m first) (marked w (suc k) m f)
copy_marked w n t k first Unmade m e h = rw (
  ne_eqb n.copy 0 (λ z. omega arith),
  h,
) (copy_made w k m first)
copy_marked w n t k first Moving None e h =
    copied_unsent (marked w 0 None first) (hushed_idle w first)
copy_marked w n t k first Moving (Some m) e h =
    copied_off (marked w 0 (Some m) first) mark.Flying refl
copy_marked w n t k first (Waiting x) None e h =
    copied_unsent (marked w 0 None first) (hushed_idle w first)
copy_marked w n t k first (Waiting x) (Some m) e h =
    copied_off (marked w 0 (Some m) first) (mark.Released (counted w x)) refl
copy_marked w n t k first (Taken x c) None e h =
    copied_unsent (marked w 0 None first) (hushed_idle w first)
copy_marked w n t k first (Taken x c) (Some m) e h =
    copied_off (marked w 0 (Some m) first) (mark.Released (counted w x)) refl
copy_marked w n t k first Lost None e h =
    copied_unsent (marked w 0 None first) (hushed_idle w first)
copy_marked w n t k first Lost (Some m) e h = copied_off (marked w 0 (Some m) first) mark.Lost refl

-- at a copy of it
pub mark_copy : (w : World) → IsPlan w → (t : List Event) (n : Name) → 0 < n.round
    → n.round ≤ w.rounds → 0 < n.copy
    → mark_of w (Copy n ∷ t) n ≡ copied (mark_of w t (original n)) (mark_of w t n)
mark_copy w p t n z l k =
    let e : n.copy ≡ suc (n.copy - 1) = omega arith in
    mark_after w p (Copy n) t n z l
    ∙ ap (λ c. marked w c (message w t n)
    (after w n (Copy n) t (fate w t (original n)) (fate w t n))) e
    ∙ copy_marked w n t (n.copy - 1) (fate w t (original n)) (fate w t n) (message w t n) e
    (own_name n)
    ∙ ap (λ c. copied (marked w 0 (message w t n) (fate w t (original n)))
    (marked w c (message w t n) (fate w t n))) (sym e)
    ∙ ap (copied (marked w 0 (message w t n) (fate w t (original n)))) (sym (mark_is w t n))
    ∙ ap (λ x. copied x (mark_of w t n)) (sym (mark_is w t (original n)))
