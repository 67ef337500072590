-- What a record says of its messages is what stands in its list of events.
use Rattle.std.proofs.Common.{◌≡◌, ℕ, zero, suc, ◌+◌, ◌-◌, ◌<◌, ◌≤◌, Bool, true, false, List}
use Rattle.std.proofs.Common.{Option, Some, None, sym, subst, refl, ap, ◌∙◌, arith, ◌⊎◌, inl, inr}
use Rattle.std.proofs.Common.{is_some, if◌then◌else◌}
use Rattle.std.specs.Prelude.{◌↔◌, reverse, IsSome}
use Rattle.std.specs.List.{count_by}
use Rattle.std.proofs.lemmas.Bool.{and_from, and_parts, cases_lt}
use Rattle.std.proofs.lemmas.List.{reverse-reverse}
use Rattle.round_lang.specs.declared.value.Value.{Value}
use Rattle.run_events.specs.declared.name.Name.{Name}
use Rattle.step_book.specs.declared.mark.Mark.{Mark}
use Rattle.step_book.specs.declared.mark.Mark.TheVariants as mark
use Rattle.step_book.specs.Agreed.{IsDueRound, IsInBuffer, IsInFlight, IsSpoken, JournalAgrees}
use Rattle.step_book.specs.Agreed.{message_sent}
use Rattle.step_book.specs.Fates.{Fate, Unmade, Moving, Waiting, Taken, Lost, fate, is_waiting}
use Rattle.step_book.specs.History.{hushed, is_buffered, marked}
use Rattle.step_book.specs.Log.{IsBookOf, Log, history, mark_in, round_of, waiting_in, world_of}
use Rattle.step_book.specs.Names.{IsName}
use Rattle.step_book.specs.Places.{IsCarried, IsMadeAt, IsSlotAt, Sent, steps_before}
use Rattle.step_book.specs.Trace.{is_name}
use Rattle.step_book.specs.World.{IsPlan, World}
use Rattle.step_book.proofs.Buffers.{buffer_counts}
use Rattle.step_book.proofs.Kept.{mark_is}
use Rattle.step_book.proofs.Placed.{IsMoving, IsWaiting, Placed, carried_found, carried_place}
use Rattle.step_book.proofs.Placed.{made_found, moving_found, placed, unmade_found, waiting_found}
use Rattle.step_book.proofs.Plans.{start_le}
use Rattle.step_book.proofs.Reading.{faithful}

-- ---- the mark of one copy

spoken_by : (w : World) (m : Option (List Value)) (f : Fate) → (f ≡ Unmade → ⊥)
    → IsSpoken m (marked w 0 m f)
spoken_by w m Unmade h = absurd (h refl)
spoken_by w None Moving h = refl
spoken_by w None (Waiting x) h = refl
spoken_by w None (Taken x c) h = refl
spoken_by w None Lost h = refl
spoken_by w (Some m) Moving h = tt
spoken_by w (Some m) (Waiting x) h = tt
spoken_by w (Some m) (Taken x c) h = tt
spoken_by w (Some m) Lost h = tt

silent_by : (w : World) (k : ℕ) (m : Option (List Value)) (f : Fate) → m ≡ None
    → marked w (suc k) m f ≡ mark.Unsent
silent_by w k m Unmade h = refl
silent_by w k None Moving h = refl
silent_by w k None (Waiting x) h = refl
silent_by w k None (Taken x c) h = refl
silent_by w k None Lost h = refl
silent_by w k (Some m) Moving h = cc
silent_by w k (Some m) (Waiting x) h = cc
silent_by w k (Some m) (Taken x c) h = cc
silent_by w k (Some m) Lost h = cc

hushed_still : (k : ℕ) → hushed k ≡ mark.Flying → ⊥
hushed_still zero h = cc
hushed_still (suc k) h = cc

flying_by : (w : World) (k : ℕ) (m : Option (List Value)) (f : Fate) → marked w k m f ≡ mark.Flying
    → (f ≡ Moving) × IsSome m
flying_by w k m Unmade h = cc
flying_by w k None Moving h = absurd (hushed_still k h)
flying_by w k None (Waiting x) h = absurd (hushed_still k h)
flying_by w k None (Taken x c) h = absurd (hushed_still k h)
flying_by w k None Lost h = absurd (hushed_still k h)
flying_by w k (Some m) Moving h = (refl, refl)
flying_by w k (Some m) (Waiting x) h = cc
flying_by w k (Some m) (Taken x c) h = cc
flying_by w k (Some m) Lost h = cc

flies_by : (w : World) (k : ℕ) (m : Option (List Value)) → IsSome m
    → marked w k m Moving ≡ mark.Flying
flies_by w k None h = cc
flies_by w k (Some m) h = refl

waiting_by : (f : Fate) → is_waiting f ≡ true → (x : ℕ) × (f ≡ Waiting x)
waiting_by Unmade h = cc
waiting_by Moving h = cc
waiting_by (Waiting x) h = (x, refl)
waiting_by (Taken x c) h = cc
waiting_by Lost h = cc

as_one : (b : Bool) (n : ℕ) → n ≡ (if b then 1 else 0) → n ≡ 1 → b ≡ true
as_one true n h e = refl
as_one false n h e = absurd (omega arith)

at_most_one : (b : Bool) (n : ℕ) → n ≡ (if b then 1 else 0) → n ≤ 1
at_most_one true n h = omega arith
at_most_one false n h = omega arith

-- ---- by places, over the reversed history

module _ (start : ℕ → ℕ) (v : Log) where
  own_list : reverse (history v) ≡ v.trace
  own_list = reverse-reverse v.trace

  abbrev fate_in : Name → Fate
  fate_in n = fate (world_of start v) (history v) n

  mark_as : (n : Name)
      → mark_in start v n ≡ marked (world_of start v) n.copy (message_sent start v n) (fate_in n)
  mark_as n = mark_is (world_of start v) (history v) n

  to_made : (n : Name) (p : ℕ) → IsMadeAt (world_of start v) v.trace n p
      → IsMadeAt (world_of start v) (reverse (history v)) n p
  to_made n p m = subst (λ z. IsMadeAt (world_of start v) z n p) (sym own_list) m

  agreed_spoken : (n : Name) (p : ℕ) → IsName v.setup n → n.copy ≡ 0
      → IsSlotAt (world_of start v) v.trace n p
      → IsSpoken (message_sent start v n) (mark_in start v n)
  agreed_spoken n p l c s =
      let made = made_found (world_of start v) (history v) n p (to_made n p (Sent c s)) in
      subst (λ z. IsSpoken (message_sent start v n) z)
      (sym (mark_as n
      ∙ ap (λ k. marked (world_of start v) k (message_sent start v n) (fate_in n)) c))
      (spoken_by (world_of start v) (message_sent start v n) (fate_in n) made)

  agreed_unsent : (n : Name) → IsName v.setup n
      → ((p : ℕ) → IsMadeAt (world_of start v) v.trace n p → ⊥) → mark_in start v n ≡ mark.Unsent
  agreed_unsent n l none =
      mark_as n
      ∙ ap (marked (world_of start v) n.copy (message_sent start v n))
      (unmade_found (world_of start v) (history v) n
      (λ a m. none a (subst (λ z. IsMadeAt (world_of start v) z n a) own_list m)))

  agreed_uncopied : (n : Name) → IsName v.setup n → 0 < n.copy → message_sent start v n ≡ None
      → mark_in start v n ≡ mark.Unsent
  agreed_uncopied n l other none =
      let e : n.copy ≡ suc (n.copy - 1) = omega arith in
      mark_as n ∙ ap (λ k. marked (world_of start v) k (message_sent start v n) (fate_in n)) e
      ∙ silent_by (world_of start v) (n.copy - 1) (message_sent start v n) (fate_in n) none

  pub flies_to : (n : Name) → mark_in start v n ≡ mark.Flying → IsInFlight start v n
  flies_to n e =
      let w = world_of start v in
      let x = flying_by w n.copy (message_sent start v n) (fate_in n) (sym (mark_as n) ∙ e) in
      let p : IsMoving w v.trace n = subst (λ z. IsMoving w z n) own_list
      (subst (λ (f : Fate). Placed w (reverse (history v)) n f) x.0 (placed w (history v) n)) in
      record { a = p.a; made = p.made; message = x.1; none = p.none }

  pub flies_from : (n : Name) → IsInFlight start v n → mark_in start v n ≡ mark.Flying
  flies_from n f =
      let w = world_of start v in
      let p : IsMoving w v.trace n = record { a = f.a; made = f.made; none = f.none } in
      mark_as n
      ∙ ap (marked w n.copy (message_sent start v n))
      (moving_found w (history v) n (subst (λ z. IsMoving w z n) (sym own_list) p))
      ∙ flies_by w n.copy (message_sent start v n) f.message

  pub buffered_to : (n : Name) → is_buffered (world_of start v) (history v) n ≡ true
      → IsInBuffer start v n
  buffered_to n e =
      let w = world_of start v in
      let both : (is_waiting (fate_in n) ≡ true) × (is_some (message_sent start v n) ≡ true) =
      and_parts _ _ e in
      let x = waiting_by (fate_in n) both.0 in
      let p : IsWaiting w v.trace n x.0 =
      subst (λ z. IsWaiting w z n x.0) own_list
      (subst (λ (f : Fate). Placed w (reverse (history v)) n f) x.1 (placed w (history v) n)) in
      record {
        a = p.a;
        b = p.b;
        made = p.made;
        message = both.1;
        leaves = p.leaves;
        release = p.release;
        none = p.none;
      }

  pub buffered_from : (n : Name) → IsInBuffer start v n
      → is_buffered (world_of start v) (history v) n ≡ true
  buffered_from n f =
      let w = world_of start v in
      let p : IsWaiting w v.trace n (steps_before v.trace n.to f.b) =
      record {
        a = f.a;
        b = f.b;
        made = f.made;
        leaves = f.leaves;
        release = f.release;
        count = refl;
        none = f.none;
      } in
      and_from _ _
      (ap is_waiting (waiting_found w (history v) n (steps_before v.trace n.to f.b)
      (subst (λ z. IsWaiting w z n (steps_before v.trace n.to f.b)) (sym own_list) p)))
      f.message

  counted : IsPlan (world_of start v) → (n : Name) → IsName v.setup n
      → count_by (is_name n) (waiting_in start v n.to)
      ≡ (if is_buffered (world_of start v) (history v) n then 1 else 0)
  counted plan n l = buffer_counts (world_of start v) plan (history v) n l.first l.last

  pub waits_as : IsPlan (world_of start v) → (n : Name) → IsName v.setup n
      → (count_by (is_name n) (waiting_in start v n.to) ≡ 1) ↔ IsInBuffer start v n
  waits_as plan n l = (
    λ e. buffered_to n (as_one _ _ (counted plan n l) e),
    λ f. counted plan n l ∙ ap (λ (b : Bool). if b then 1 else 0) (buffered_from n f),
  )

  pub waits_once : IsPlan (world_of start v) → (n : Name) → IsName v.setup n
      → count_by (is_name n) (waiting_in start v n.to) ≤ 1
  waits_once plan n l = at_most_one _ _ (counted plan n l)

module _ {start : ℕ → ℕ} {nodes : ℕ} {v : Log} {counts : List ℕ} {tables : List (List Mark)}
    {waiting : List (List Name)} {handed : List (List (List Name))} {answers : List Bool}
    {messages : List Name}
    (h : IsBookOf start nodes v counts tables waiting handed answers messages) where
  -- what the journal answers is what the run in rounds says
  pub agreed : JournalAgrees start v (mark_in start v) (waiting_in start v)
  agreed =
      let all = faithful h in
      let own = reverse-reverse v.trace in
      record {
        omissions = λ n l. (
          λ e. subst (λ z. IsCarried (world_of start v) z n) own
              (carried_place (world_of start v) (history v) n e),
          λ f. carried_found (world_of start v) (history v) n
              (subst (λ z. IsCarried (world_of start v) z n) (sym own) f),
        );
        spoken = agreed_spoken start v;
        unsent = agreed_unsent start v;
        uncopied = agreed_uncopied start v;
        stated = all.stated;
        closed = λ i r l low high. closed_due i r l low high;
        due = λ i r l d. due_near i r l d;
        exact = λ i l d. (let near = all.near i l d.last in let over = d.over in omega arith);
        flies = λ n l. (flies_to start v n, flies_from start v n);
        waits = waits_as start v h.plan;
        once = waits_once start v h.plan;
      }
    where
      closed_due : (i r : ℕ) → i < v.setup.nodes → 1 ≤ r → r < round_of v i → IsDueRound start v i r
      closed_due i r l low high =
          let all = faithful h in
          let bound = all.bounded i l in
          let past = all.past i l in
          let up = start_le (world_of start v) h.plan (r + 1) (round_of v i) (omega arith)
          (omega arith) in
          record { first = low; last = omega arith; over = omega arith }

      due_near : (i r : ℕ) → i < v.setup.nodes → IsDueRound start v i r → r ≤ round_of v i
      due_near i r l d = by (cases_lt (round_of v i) r)
        where
          by : (round_of v i < r) ⊎ (r ≤ round_of v i) → r ≤ round_of v i
          by (inr near) = near
          by (inl far) =
              let last = d.last in
              let over = d.over in
              let first = d.first in
              let near = (faithful h).near i l (omega arith) in
              let up = start_le (world_of start v) h.plan (round_of v i + 1) r (omega arith)
              (omega arith) in
              let long = h.plan.next r (omega arith) in
              absurd (omega arith)
