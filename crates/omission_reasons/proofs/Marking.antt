-- What became of a copy, by its mark.
use Rattle.std.proofs.Common.{◌≡◌, ℕ, zero, suc, true, List, Option, Some, None, refl, ap, sym}
use Rattle.std.proofs.Common.{◌∙◌, subst}
use Rattle.std.specs.Prelude.{is_some, reverse}
use Rattle.std.proofs.lemmas.List.{reverse-reverse}
use Rattle.round_lang.specs.declared.value.Value.{Value}
use Rattle.run_events.specs.declared.event.Event.{Event}
use Rattle.run_events.specs.declared.name.Name.{Name}
use Rattle.step_book.specs.declared.mark.Mark.{Mark}
use Rattle.step_book.specs.declared.mark.Mark.TheVariants as mark
use Rattle.step_book.specs.Fates.{Fate, Unmade, Moving, Waiting, Taken, Lost, fate}
use Rattle.step_book.specs.History.{counted, marked, mark_of, message}
use Rattle.step_book.specs.Places.{IsSlotAt, steps_before}
use Rattle.step_book.specs.World.{World}
use Rattle.step_book.proofs.Kept.{mark_is}
use Rattle.step_book.proofs.Placed.{IsLost, IsUnmade, Placed, placed}
use Rattle.omission_explainer.specs.Verdict.{IsLetInAt}
use Rattle.omission_explainer.proofs.Releases.{let_in_of, let_in_place}
use Rattle.omission_reasons.specs.Reasons.{IsLostAt}

-- ---- what a mark says of a fate

lost_by : (w : World) (k : ℕ) (m : Option (List Value)) (f : Fate) → marked w k m f ≡ mark.Lost
    → f ≡ Lost
lost_by w k m Unmade h = cc
lost_by w zero None Moving h = cc
lost_by w (suc k) None Moving h = cc
lost_by w zero None (Waiting x) h = cc
lost_by w (suc k) None (Waiting x) h = cc
lost_by w zero None (Taken x c) h = cc
lost_by w (suc k) None (Taken x c) h = cc
lost_by w k None Lost h = refl
lost_by w k (Some m) Moving h = cc
lost_by w k (Some m) (Waiting x) h = cc
lost_by w k (Some m) (Taken x c) h = cc
lost_by w k (Some m) Lost h = refl

-- the copy of a message was let in when its receiver had taken y steps
pub record IsLetGo (w : World) (x : ℕ) (m : Option (List Value)) (f : Fate) : Type 0 where
  pub count : ℕ
  pub let_in : let_in_of f ≡ Some count
  pub counts : counted w count ≡ x
  pub message : is_some m ≡ true

released_one : (x y : ℕ) → mark.Released x ≡ mark.Released y → x ≡ y
released_one x y h = cc

released_by : (w : World) (k x : ℕ) (m : Option (List Value)) (f : Fate)
    → marked w k m f ≡ mark.Released x → IsLetGo w x m f
released_by w k x m Unmade h = cc
released_by w zero x None Moving h = cc
released_by w (suc k) x None Moving h = cc
released_by w zero x None (Waiting y) h = cc
released_by w (suc k) x None (Waiting y) h = cc
released_by w zero x None (Taken y c) h = cc
released_by w (suc k) x None (Taken y c) h = cc
released_by w zero x None Lost h = cc
released_by w (suc k) x None Lost h = cc
released_by w k x (Some m) Moving h = cc
released_by w k x (Some m) (Waiting y) h = record {
  count = y;
  let_in = refl;
  counts = released_one (counted w y) x h;
  message = refl;
}
released_by w k x (Some m) (Taken y c) h = record {
  count = y;
  let_in = refl;
  counts = released_one (counted w y) x h;
  message = refl;
}
released_by w k x (Some m) Lost h = cc

unsent_first : (w : World) (m : Option (List Value)) (f : Fate) → marked w 0 m f ≡ mark.Unsent
    → f ≡ Unmade
unsent_first w m Unmade h = refl
unsent_first w None Moving h = cc
unsent_first w None (Waiting x) h = cc
unsent_first w None (Taken x c) h = cc
unsent_first w None Lost h = cc
unsent_first w (Some m) Moving h = cc
unsent_first w (Some m) (Waiting x) h = cc
unsent_first w (Some m) (Taken x c) h = cc
unsent_first w (Some m) Lost h = cc

unsent_spoken : (w : World) (k : ℕ) (m : Option (List Value)) (f : Fate) → is_some m ≡ true
    → marked w k m f ≡ mark.Unsent → f ≡ Unmade
unsent_spoken w k m Unmade s h = refl
unsent_spoken w k None f s h = cc
unsent_spoken w k (Some m) Moving s h = cc
unsent_spoken w k (Some m) (Waiting x) s h = cc
unsent_spoken w k (Some m) (Taken x c) s h = cc
unsent_spoken w k (Some m) Lost s h = cc

silent_spoken : (w : World) (k : ℕ) (m : Option (List Value)) (f : Fate) → is_some m ≡ true
    → marked w k m f ≡ mark.Silent → ⊥
silent_spoken w k m Unmade s h = cc
silent_spoken w k None f s h = cc
silent_spoken w k (Some m) Moving s h = cc
silent_spoken w k (Some m) (Waiting x) s h = cc
silent_spoken w k (Some m) (Taken x c) s h = cc
silent_spoken w k (Some m) Lost s h = cc

silent_made : (w : World) (k : ℕ) (m : Option (List Value)) (f : Fate)
    → marked w k m f ≡ mark.Silent → f ≡ Unmade → ⊥
silent_made w k m f h u = let e = ap (marked w k m) u in cc

-- ---- by places in the trace

module _ (w : World) (trace : List Event) (n : Name) where
  own : reverse (reverse trace) ≡ trace
  own = reverse-reverse trace

  abbrev mark_now : Mark
  mark_now = mark_of w (reverse trace) n

  abbrev fate_now : Fate
  fate_now = fate w (reverse trace) n

  placed_now : Placed w trace n fate_now
  placed_now = subst (λ z. Placed w z n fate_now) own (placed w (reverse trace) n)

  -- it was dropped
  lost_place : IsLost w trace n → (b : ℕ) × IsLostAt w trace n b
  lost_place p = (p.b, record { place = p.a; made = p.made; leaves = p.leaves; drop = p.drop })

  pub lost_at : mark_now ≡ mark.Lost → (b : ℕ) × IsLostAt w trace n b
  lost_at h =
      let f = lost_by w n.copy (message w (reverse trace) n) fate_now
      (sym (mark_is w (reverse trace) n) ∙ h) in
      lost_place (subst (λ (z : Fate). Placed w trace n z) f placed_now)

  -- it was released
  pub record IsReleased (x : ℕ) : Type 0 where
    pub place : ℕ
    pub let_in : IsLetInAt w trace n place
    pub counts : counted w (steps_before trace n.to place) ≡ x
    pub message : is_some (message w (reverse trace) n) ≡ true

  pub released_at : (x : ℕ) → mark_now ≡ mark.Released x → IsReleased x
  released_at x h =
      let g = released_by w n.copy x (message w (reverse trace) n) fate_now
      (sym (mark_is w (reverse trace) n) ∙ h) in
      let p = let_in_place w (reverse trace) n g.count g.let_in in
      let at = subst (λ z. IsLetInAt w z n p.0) own p.1 in
      let count : steps_before trace n.to p.0 ≡ g.count =
      subst (λ z. steps_before z n.to p.0 ≡ g.count) own p.2 in
      record {
        place = p.0;
        let_in = at;
        counts = ap (counted w) count ∙ g.counts;
        message = g.message;
      }

  -- it was never sent
  pub not_sent : n.copy ≡ 0 → mark_now ≡ mark.Unsent → (a : ℕ) → IsSlotAt w trace n a → ⊥
  not_sent c h =
      let f = unsent_first w (message w (reverse trace) n) fate_now
      (sym (ap (λ k. marked w k (message w (reverse trace) n) fate_now) c)
      ∙ sym (mark_is w (reverse trace) n) ∙ h) in
      let p : IsUnmade w trace n = subst (λ (z : Fate). Placed w trace n z) f placed_now in
      p.sent c

  pub unmade : is_some (message w (reverse trace) n) ≡ true → mark_now ≡ mark.Unsent
      → fate_now ≡ Unmade
  unmade s h = unsent_spoken w n.copy (message w (reverse trace) n) fate_now s
      (sym (mark_is w (reverse trace) n) ∙ h)

  pub unsilent : is_some (message w (reverse trace) n) ≡ true → mark_now ≡ mark.Silent → ⊥
  unsilent s h = silent_spoken w n.copy (message w (reverse trace) n) fate_now s
      (sym (mark_is w (reverse trace) n) ∙ h)

  pub silent_is_made : mark_now ≡ mark.Silent → fate_now ≡ Unmade → ⊥
  silent_is_made h = silent_made w n.copy (message w (reverse trace) n) fate_now
      (sym (mark_is w (reverse trace) n) ∙ h)
