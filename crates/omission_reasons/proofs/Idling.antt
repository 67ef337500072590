-- Events of the network that did nothing.
use Rattle.std.proofs.Common.{◌≡◌, ℕ, ◌+◌, ◌<◌, ◌≤◌, true, List, Option, None, Some, sym, subst}
use Rattle.std.proofs.Common.{refl, ap, ◌∙◌, arith, ◌⊎◌, inl, inr}
use Rattle.std.specs.Prelude.{IfSome, MatchOption, is_some, reverse}
use Rattle.std.proofs.lemmas.Bool.{cases_lt}
use Rattle.std.proofs.lemmas.List.{reverse-reverse}
use Rattle.round_lang.specs.declared.value.Value.{Value}
use Rattle.run_events.specs.declared.event.Event.{Event}
use Rattle.run_events.specs.declared.name.Name.{Name}
use Rattle.run_events.specs.Names.{original}
use Rattle.step_book.specs.declared.mark.Mark.TheVariants as mark
use Rattle.step_book.specs.Agreed.{IsInFlight}
use Rattle.step_book.specs.Fates.{Fate, Lost, Moving, Taken, Unmade, Waiting, fate}
use Rattle.step_book.specs.History.{marked, message}
use Rattle.step_book.specs.Log.{Log, history, mark_in, world_of}
use Rattle.step_book.specs.Places.{Copied, IsCopyAt, IsLeftAt, IsMadeAt, IsSlotAt, Sent}
use Rattle.step_book.specs.World.{World}
use Rattle.step_book.proofs.Kept.{mark_is}
use Rattle.step_book.proofs.Placed.{IsUnmade, Placed, made_found, placed}
use Rattle.omission_reasons.specs.Departures.{IsGone, LeavesAt}
use Rattle.omission_reasons.specs.Idleness.{IsAbsent, IsNotCopied, IsSilentBefore}
use Rattle.omission_reasons.specs.Reasons.{IsMade}
use Rattle.omission_reasons.specs.declared.idle.Idle.{Idle}
use Rattle.omission_reasons.specs.declared.idle.Idle.TheVariants as idle
use Rattle.omission_reasons.proofs.Departing.{leaves_one, slot_of}
use Rattle.omission_reasons.proofs.Marking.{silent_is_made, unmade, unsilent}
use Rattle.omission_reasons.proofs.Times.{one_made, one_slot}

-- ---- what became of a copy, by places

-- nothing of a kind stands between a place and the first after it
first_of : {Is : ℕ → Type 0} (a b c k : ℕ) → a ≡ c → c < k
    → ((j : ℕ) → a < j → j < b → Is j → ⊥) → Is k → b ≤ k
first_of {Is} a b c k same l none is = by (cases_lt k b)
  where
    by : (k < b) ⊎ (b ≤ k) → b ≤ k
    by (inl early) = absurd (none k (omega arith) early is)
    by (inr late) = late

module _ (w : World) (trace : List Event) (n : Name) where
  abbrev fate_now : Fate
  fate_now = fate w (reverse trace) n

  placed_now : Placed w trace n fate_now
  placed_now = subst (λ z. Placed w z n fate_now) (reverse-reverse trace)
      (placed w (reverse trace) n)

  made_by : (f : Fate) → Placed w trace n f → (f ≡ Unmade → ⊥) → (a : ℕ) × IsMadeAt w trace n a
  made_by Unmade p h = absurd (h refl)
  made_by Moving p h = (p.a, p.made)
  made_by (Waiting x) p h = (p.a, p.made)
  made_by (Taken x c) p h = (p.a, p.made)
  made_by Lost p h = (p.a, p.made)

  made_now : (fate_now ≡ Unmade → ⊥) → (a : ℕ) × IsMadeAt w trace n a
  made_now h = made_by fate_now placed_now h

  pub made_fate : (a : ℕ) → IsMadeAt w trace n a → fate_now ≡ Unmade → ⊥
  made_fate a m = made_found w (reverse trace) n a
      (subst (λ z. IsMadeAt w z n a) (sym (reverse-reverse trace)) m)

  gone_by : (f : Fate) → Placed w trace n f → (a k : ℕ) → IsMadeAt w trace n a → a < k
      → IsLeftAt trace n k → (fate_now ≡ Unmade → ⊥) → fate_now ≡ f
      → (b : ℕ) × LeavesAt w trace n b × (b ≤ k)
  gone_by Unmade p a k made l left h e = absurd (h e)
  gone_by Moving p a k made l left h e =
      let same = one_made trace w n p.a a p.made made in
      absurd (p.none k (omega arith) left)
  gone_by (Waiting x) p a k made l left h e = (
    p.b,
    record { made_at = p.a; made = p.made; first = p.leaves },
    first_of p.a p.b a k (one_made trace w n p.a a p.made made) l p.leaves.none left,
  )
  gone_by (Taken x c) p a k made l left h e = (
    p.b,
    record { made_at = p.a; made = p.made; first = p.leaves },
    first_of p.a p.b a k (one_made trace w n p.a a p.made made) l p.leaves.none left,
  )
  gone_by Lost p a k made l left h e = (
    p.b,
    record { made_at = p.a; made = p.made; first = p.leaves },
    first_of p.a p.b a k (one_made trace w n p.a a p.made made) l p.leaves.none left,
  )

-- it leaves at its first release or drop
pub left_by : (w : World) (trace : List Event) (n : Name) (a k : ℕ) → IsMadeAt w trace n a → a < k
    → IsLeftAt trace n k → (b : ℕ) × LeavesAt w trace n b × (b ≤ k)
left_by w trace n a k made l left =
    gone_by w trace n (fate w (reverse trace) n) (placed_now w trace n) a k made l left
    (made_fate w trace n a made) refl

-- ---- what a book tells

hushed_first : (w : World) (f : Fate) → (f ≡ Unmade → ⊥) → marked w 0 None f ≡ mark.Silent
hushed_first w Unmade h = absurd (h refl)
hushed_first w Moving h = refl
hushed_first w (Waiting x) h = refl
hushed_first w (Taken x c) h = refl
hushed_first w Lost h = refl

unmade_or_made : (f : Fate) → (f ≡ Unmade) ⊎ (f ≡ Unmade → ⊥)
unmade_or_made Unmade = inl refl
unmade_or_made Moving = inr (λ e. cc)
unmade_or_made (Waiting x) = inr (λ e. cc)
unmade_or_made (Taken x c) = inr (λ e. cc)
unmade_or_made Lost = inr (λ e. cc)

module _ (start : ℕ → ℕ) (v : Log) (n : Name) where
  abbrev w : World
  w = world_of start v

  abbrev IsLoud : Type 0
  IsLoud = mark_in start v (original n) ≡ mark.Silent → ⊥

  spoken_by : (m : Option (List Value)) → message w (history v) n ≡ m
      → (fate w (history v) (original n) ≡ Unmade → ⊥) → IsLoud → is_some m ≡ true
  spoken_by (Some x) e made loud = refl
  spoken_by None e made loud = absurd (loud (mark_is w (history v) (original n)
      ∙ ap (λ m. marked w 0 m (fate w (history v) (original n))) e
      ∙ hushed_first w (fate w (history v) (original n)) made))

  first_made : (a : ℕ) → IsMadeAt w v.trace n a → fate w (history v) (original n) ≡ Unmade → ⊥
  first_made a made = let s = slot_of w v.trace n a made in
      made_fate w v.trace (original n) s.place (Sent refl s.slot)

  -- a copy that was made is of a message, if copy 0 isn't marked as silence
  pub loud_spoken : IsLoud → (a : ℕ) → IsMadeAt w v.trace n a
      → is_some (message w (history v) n) ≡ true
  loud_spoken loud a made = spoken_by (message w (history v) n) refl (first_made a made) loud

  unsent_by : IsLoud → mark_in start v n ≡ mark.Unsent
      → (fate w (history v) n ≡ Unmade) ⊎ (fate w (history v) n ≡ Unmade → ⊥)
      → fate w (history v) n ≡ Unmade
  unsent_by loud h (inl none) = none
  unsent_by loud h (inr made) = let m = made_now w v.trace n made in
      unmade w v.trace n (loud_spoken loud m.0 m.1) h

  unsent_unmade : IsLoud → mark_in start v n ≡ mark.Unsent → fate w (history v) n ≡ Unmade
  unsent_unmade loud h = unsent_by loud h (unmade_or_made (fate w (history v) n))

  -- ---- a copy that doesn't leave

  pub unsent_stays : IsLoud → mark_in start v n ≡ mark.Unsent → IsGone w v.trace n → ⊥
  unsent_stays loud h gone =
      made_fate w v.trace n gone.leaves.made_at gone.leaves.made (unsent_unmade loud h)

  pub silent_stays : IsLoud → mark_in start v n ≡ mark.Silent → IsGone w v.trace n → ⊥
  silent_stays loud h gone = unsilent w v.trace n
      (loud_spoken loud gone.leaves.made_at gone.leaves.made) h

  pub flying_stays : IsInFlight start v n → IsGone w v.trace n → ⊥
  flying_stays f gone =
      let same = one_made v.trace w n f.a gone.leaves.made_at f.made gone.leaves.made in
      let later = gone.leaves.first.later in
      f.none gone.place (omega arith) gone.leaves.first.there

  -- ---- silence

  pub silent_made : mark_in start v (original n) ≡ mark.Silent → IsMade start v (original n)
  silent_made h = let m = made_now w v.trace (original n)
      (silent_is_made w v.trace (original n) h) in record { place = m.0; made = m.1 }

  none_by : (m : Option (List Value)) → message w (history v) n ≡ m
      → mark_in start v (original n) ≡ mark.Silent → m ≡ None
  none_by None e h = refl
  none_by (Some x) e h = absurd (unsilent w v.trace (original n) (ap is_some e) h)

  slot_at : (s : ℕ) → IsMadeAt w v.trace (original n) s → IsSlotAt w v.trace n s
  slot_at s (Sent c h) = h
  slot_at s (Copied l h) = absurd (omega arith)

  after_slot : (s a : ℕ) → IsSlotAt w v.trace n s → IsMadeAt w v.trace n a → s ≤ a
  after_slot s a slot (Sent c h) = let same = one_slot v.trace w n s a slot h in omega arith
  after_slot s a slot (Copied l h) =
      let same = one_slot v.trace w n s h.slot slot h.sent in
      let later = h.first.later in
      omega arith

  pub silent_told : (slot place : ℕ) (told : Idle) → mark_in start v (original n) ≡ mark.Silent
      → IsMadeAt w v.trace (original n) slot → (slot < place → told ≡ idle.Silent)
      → (place ≤ slot → told ≡ idle.NotMade) → IsAbsent start v n place told
  silent_told slot place told h made silent early = by (cases_lt slot place)
    where
      by : (slot < place) ⊎ (place ≤ slot) → IsAbsent start v n place told
      by (inl before) =
          let known : IsSilentBefore start v n place = record {
            slot = slot;
            sent = slot_at slot made;
            before = before;
            silent = none_by (message w (history v) n) refl h;
          } in
          subst (IsAbsent start v n place) (sym (silent before)) known
      by (inr after) =
          let none : IsAbsent start v n place idle.NotMade =
          λ a own. (let l = after_slot slot a (slot_at slot made) own in omega arith) in
          subst (IsAbsent start v n place) (sym (early after)) none

  -- ---- a copy that isn't there

  -- each place before this one at which it's made has a release or a drop of it behind it, and
  -- before the limit
  abbrev pub IsBlocked : ℕ → ℕ → Type 0
  IsBlocked place limit = (a : ℕ) → IsMadeAt w v.trace n a → a < place
      → (k : ℕ) × (a < k) × (k < limit) × IsLeftAt v.trace n k

  not_made : (found : Option ℕ) (place limit : ℕ)
      → MatchOption found (IsGone w v.trace n → ⊥) (LeavesAt w v.trace n)
      → IsBlocked place limit → IfSome found (λ b. limit ≤ b) → (a : ℕ) → IsMadeAt w v.trace n a
      → (a < place) ⊎ (place ≤ a) → place ≤ a
  not_made found place limit h blocked late a made (inr after) = after
  not_made None place limit h blocked late a made (inl before) =
      let k = blocked a made before in
      let b = left_by w v.trace n a k.0 made k.1 k.3 in
      absurd (h (record { place = b.0; leaves = b.1 }))
  not_made (Some x) place limit h blocked late a made (inl before) =
      let k = blocked a made before in
      let b = left_by w v.trace n a k.0 made k.1 k.3 in
      let same = leaves_one w v.trace n x b.0 h b.1 in
      let low = b.2 in
      let high = k.2 in
      let far : limit ≤ x = late in
      absurd (omega arith)

  pub absent_by : (found : Option ℕ) (place limit : ℕ) (told : Idle)
      → MatchOption found (IsGone w v.trace n → ⊥) (LeavesAt w v.trace n)
      → IsBlocked place limit → (found ≡ None → told ≡ idle.NotMade)
      → IfSome found (λ b. b < place → told ≡ idle.Gone b)
      → IfSome found (λ b. place ≤ b → told ≡ idle.NotMade)
      → IfSome found (λ b. place ≤ b → limit ≤ b) → IsAbsent start v n place told
  absent_by None place limit told h blocked none gone early late =
      subst (IsAbsent start v n place) (sym (none refl))
      (λ a made. not_made None place limit h blocked tt a made (cases_lt a place))
  absent_by (Some b) place limit told h blocked none gone early late = by (cases_lt b place)
    where
      by : (b < place) ⊎ (place ≤ b) → IsAbsent start v n place told
      by (inl before) = subst (IsAbsent start v n place) (sym (gone before)) (h, before)
      by (inr after) = subst (IsAbsent start v n place) (sym (early after))
          (λ a made. not_made (Some b) place limit h blocked (late after) a made (cases_lt a place))

  -- a release or a drop stands there
  pub left_blocks : (place : ℕ) → IsLeftAt v.trace n place → IsBlocked place (place + 1)
  left_blocks place left a made before = (place, before, omega arith, left)

  -- ---- a copying

  pub not_copied : (place : ℕ) (told : Idle) → IsAbsent start v (original n) place told
      → IsNotCopied start v n place told
  not_copied place idle.NotMade h = h
  not_copied place idle.Silent h = h
  not_copied place (idle.Gone b) h = h
  not_copied place (idle.Made a) h = absurd h

  -- it's made once, by the first event that can
  pub made_told : (a place : ℕ) (told : Idle) → 0 < n.copy → IsMadeAt w v.trace n a
      → IsCopyAt v.trace n place → (a ≡ place → ⊥) → (a < place → told ≡ idle.Made a)
      → (place ≤ a → told ≡ idle.NotMade) → IsNotCopied start v n place told
  made_told a place told other (Sent c h) event apart made early = absurd (omega arith)
  made_told a place told other (Copied l h) event apart made early = by (cases_lt a place)
    where
      later : (p : ℕ) → place ≤ a → IsMadeAt w v.trace (original n) p
          → (p < place) ⊎ (place ≤ p) → place ≤ p
      later p after own (inr high) = high
      later p after own (inl low) =
          let same = one_slot v.trace w n h.slot p h.sent (slot_at p own) in
          absurd (h.first.none place (omega arith) (let x = apart in omega arith) event)

      by : (a < place) ⊎ (place ≤ a) → IsNotCopied start v n place told
      by (inl before) = subst (IsNotCopied start v n place) (sym (made before)) (Copied l h, before)
      by (inr after) = subst (IsNotCopied start v n place) (sym (early after))
          (λ p own. later p after own (cases_lt p place))

-- a copy that was never made, though copying it was tried
pub copying_blocks : (start : ℕ → ℕ) (v : Log) (n : Name) (place : ℕ) → 0 < n.copy
    → (mark_in start v (original n) ≡ mark.Silent → ⊥) → mark_in start v n ≡ mark.Unsent
    → IsCopyAt v.trace n place → IsBlocked start v (original n) place place
copying_blocks start v n place other loud h event a made before =
    let w = world_of start v in
    let p : IsUnmade w v.trace n = subst (λ (f : Fate). Placed w v.trace n f)
    (unsent_unmade start v n loud h) (placed_now w v.trace n) in
    p.copied other a place (slot_at start v n a made) before event

-- a copy whose mark isn't that of one that wasn't made
pub marked_made : (start : ℕ → ℕ) (v : Log) (n : Name) → (mark_in start v n ≡ mark.Unsent → ⊥)
    → IsMade start v n
marked_made start v n h =
    let w = world_of start v in
    let m = made_now w v.trace n (λ u. h (mark_is w (history v) n
    ∙ ap (marked w n.copy (message w (history v) n)) u)) in
    record { place = m.0; made = m.1 }

-- what doesn't leave at a place leaves after it, if it doesn't leave before
pub late_by : (found : Option ℕ) (place : ℕ) → (found ≡ Some place → ⊥)
    → IfSome found (λ b. place ≤ b → place + 1 ≤ b)
late_by None place apart = tt
late_by (Some b) place apart = λ l. by l (cases_lt place b)
  where
    by : place ≤ b → (place < b) ⊎ (b ≤ place) → place + 1 ≤ b
    by l (inl after) = omega arith
    by l (inr same) = let e : b ≡ place = omega arith in absurd (apart (ap Some e))

pub late_same : (found : Option ℕ) (place : ℕ) → IfSome found (λ b. place ≤ b → place ≤ b)
late_same None place = tt
late_same (Some b) place = λ l. l
