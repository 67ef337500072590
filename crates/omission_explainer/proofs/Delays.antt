-- The delay bound by places, and by the receiver's own step counts.
use Rattle.std.proofs.Common.{◌≡◌, ℕ, ◌+◌, ◌<◌, ◌≤◌, true, false, max, List, length, Option, Some}
use Rattle.std.proofs.Common.{None, sym, subst, refl, ap, ◌∙◌, leb, arith, ◌⊎◌, inl, inr}
use Rattle.std.specs.Prelude.{is_some, option_map, reverse}
use Rattle.std.specs.Option.{unwrap_or}
use Rattle.std.proofs.lemmas.Bool.{cases_lt, cases_order, lt-leb}
use Rattle.round_lang.specs.declared.value.Value.{Value}
use Rattle.run_events.specs.declared.event.Event.{Event}
use Rattle.run_events.specs.declared.event.Event.TheVariants.{Step, Release}
use Rattle.run_events.specs.declared.name.Name.{Name}
use Rattle.run_events.specs.Names.{original}
use Rattle.step_book.specs.Fates.{Unmade, fate}
use Rattle.step_book.specs.History.{counted, message}
use Rattle.step_book.specs.Places.{IsSlotAt, Sent, steps_before}
use Rattle.step_book.specs.Trace.{steps}
use Rattle.step_book.specs.World.{World, IsPlan, is_receive, nodes_of}
use Rattle.step_book.proofs.Moments.{At, at_place, at_same, at_steps, at_within, place_at}
use Rattle.step_book.proofs.Moments.{step_rises}
use Rattle.step_book.proofs.Placed.{made_found}
use Rattle.step_book.proofs.Plans.{is_receive_at, receive_early}
use Rattle.omission_explainer.specs.Lateness.{HasReceive, copy_open_until, least_copy, marks_of}
use Rattle.omission_explainer.specs.Lateness.{open_until}
use Rattle.omission_explainer.specs.Verdict.{IsLetInAt, IsLetInBetween}
use Rattle.omission_explainer.proofs.Releases.{copy_open_is, least_below, least_found, let_in_after}
use Rattle.omission_explainer.proofs.Releases.{let_in_few, let_in_found, let_in_of, let_in_place}
use Rattle.omission_explainer.proofs.Releases.{open_silent, open_spoken}
use Rattle.omission_explainer.proofs.Moments.{StepAt, step_at, steps_up_to}

-- the moment at which a copy is let in
pub record LetInMoment (t : List Event) (m : Name) (b : ℕ) : Type 0 where
  pub moment : List Event
  pub there : At moment (Release m) t
  pub place : length moment ≡ b
  pub count : steps_before (reverse t) m.to b ≡ steps m.to moment

pub let_in_moment : (w : World) (t : List Event) (m : Name) (b : ℕ) → IsLetInAt w (reverse t) m b
    → LetInMoment t m b
let_in_moment w t m b h =
    let found = place_at (Release m) t b h.release in
    record {
      moment = found.0;
      there = found.1;
      place = found.2;
      count = ap (steps_before (reverse t) m.to) (sym found.2)
          ∙ at_steps m.to found.0 (Release m) t found.1;
    }

-- ---- a message that was sent at the moment p

module _ (w : World) (t p : List Event) (n : Name) (plan : IsPlan w) (few : n.to < nodes_of w)
    (first : 0 < n.round) (last : n.round ≤ w.rounds)
    (slot : steps n.from p ≡ w.start n.round + n.to) (stands : At p (Step n.from) t) where
  slot_here : IsSlotAt w (reverse t) n (length p)
  slot_here = record {
    there = at_place p (Step n.from) t stands;
    number = at_steps n.from p (Step n.from) t stands ∙ slot;
  }

  -- copy 0 is made there
  pub was_made : fate w t (original n) ≡ Unmade → ⊥
  was_made = made_found w t (original n) (length p) (Sent refl slot_here)

  -- a receive of its receiver isn't that send
  no_receive : is_receive w (steps n.from p) ≡ true → ⊥
  no_receive h =
      let long = plan.next n.round first in
      let at : is_receive w (steps n.from p) ≡ leb (w.start n.round + nodes_of w) (steps n.from p) =
      is_receive_at w plan n.round (steps n.from p) first last (omega arith) (omega arith) in
      let off : leb (w.start n.round + nodes_of w) (steps n.from p) ≡ false =
      lt-leb _ _ (omega arith) in
      cc

  -- a receive that doesn't come before the send comes after it
  after_send : (c : List Event) → At c (Step n.to) t → is_receive w (steps n.to c) ≡ true
      → steps n.to p ≤ steps n.to c → length p < length c
  after_send c s h l = by (cases_order (length p) (length c))
    where
      by : (length p ≡ length c) ⊎ ((length p < length c) ⊎ (length c < length p))
          → length p < length c
      by (inl same) =
          let one = at_same c (Step n.to) p (Step n.from) t s stands same in
          let own : Step n.from ≡ Step n.to = one.1 in
          let node : n.from ≡ n.to = cc in
          let here : steps n.from p ≡ steps n.to c = ap (λ k. steps k p) node
          ∙ ap (steps n.to) one.0 in
          absurd (no_receive (ap (is_receive w) here ∙ h))
      by (inr (inl before)) = before
      by (inr (inr after)) =
          let less = step_rises n.to c p
          (at_within p (Step n.from) c (Step n.to) t stands s after) in
          absurd (omega arith)

  -- a release stands before a receive exactly where its receiver's count doesn't pass it
  before_receive : (b c : List Event) (m : Name) → At b (Release m) t → At c (Step n.to) t
      → steps n.to b ≤ steps n.to c → length b < length c
  before_receive b c m r s l = by (cases_order (length b) (length c))
    where
      by : (length b ≡ length c) ⊎ ((length b < length c) ⊎ (length c < length b))
          → length b < length c
      by (inl same) = let one = at_same c (Step n.to) b (Release m) t s r same in
          let clash : Release m ≡ Step n.to = one.1 in absurd cc
      by (inr (inl before)) = before
      by (inr (inr after)) =
          let less = step_rises n.to c b (at_within b (Release m) c (Step n.to) t r s after) in
          absurd (omega arith)

  -- a copy whose receiver had taken no more steps when it was let in came between
  pub came_between : (c : List Event) (k x : ℕ) → k ≤ 3 → At c (Step n.to) t
      → let_in_of (fate w t (record n { copy = k })) ≡ Some x → x ≤ steps n.to c
      → IsLetInBetween w (reverse t) n (length p) (length c)
  came_between c k x l s e low =
      let found = let_in_place w t (record n { copy = k }) x e in
      let at = let_in_moment w t (record n { copy = k }) found.0 found.1 in
      let count : steps_before (reverse t) n.to found.0 ≡ steps n.to at.moment = at.count in
      let number : steps_before (reverse t) n.to found.0 ≡ x = found.2 in
      let place = at.place in
      let before = before_receive at.moment c (record n { copy = k }) at.there s (omega arith) in
      record {
        copy = k;
        few = l;
        place = found.0;
        let_in = found.1;
        after = let_in_after w t n k (length p) found.0 slot_here found.1;
        before = omega arith;
      }

  -- no receive finds it too late, so a copy is let in before each
  pub in_time : (delta : ℕ) (c : List Event) → is_some (message w t n) ≡ true → At c (Step n.to) t
      → is_receive w (steps n.to c) ≡ true → steps n.from p + delta ≤ steps n.to c
      → length p < length c
      → ¬ HasReceive w (max (steps n.from p + delta) (steps n.to p))
      (open_until (steps n.to t) (marks_of w t n))
      → IsLetInBetween w (reverse t) n (length p) (length c)
  in_time delta c spoken s h late after none = by_message (message w t n) spoken refl
    where
      from : steps n.to p ≤ steps n.to c
      from = steps_up_to n.to (Step n.from) p c
          (at_within c (Step n.to) p (Step n.from) t s stands after)

      until : (steps n.to c < open_until (steps n.to t) (marks_of w t n))
          ⊎ (open_until (steps n.to t) (marks_of w t n) ≤ steps n.to c)
          → open_until (steps n.to t) (marks_of w t n) ≤ steps n.to c
      until (inr in_reach) = in_reach
      until (inl too_late) =
          absurd (none (record {
            step = steps n.to c;
            after = omega (arith, from);
            before = too_late;
            receive = h;
          }))

      by_copy : (k : ℕ) (o : Option ℕ) → k ≤ 3 → let_in_of (fate w t (record n { copy = k })) ≡ o
          → (m : List Value) → message w t n ≡ Some m
          → copy_open_until (steps n.to t) (marks_of w t n k) ≤ steps n.to c
          → IsLetInBetween w (reverse t) n (length p) (length c)
      by_copy k None l e m says low =
          let open_is : copy_open_until (steps n.to t) (marks_of w t n k) ≡ steps n.to t =
          copy_open_is w t n (steps n.to t) k m says
          ∙ ap (λ o. unwrap_or (option_map (counted w) o) (steps n.to t)) e in
          let rise = step_rises n.to c t s in
          absurd (omega arith)
      by_copy k (Some x) l e m says low =
          let open_is : copy_open_until (steps n.to t) (marks_of w t n k) ≡ counted w x =
          copy_open_is w t n (steps n.to t) k m says
          ∙ ap (λ o. unwrap_or (option_map (counted w) o) (steps n.to t)) e in
          let early = receive_early w plan (steps n.to c) h in
          came_between c k x l s e (omega arith)

      by_message : (m : Option (List Value)) → is_some m ≡ true → message w t n ≡ m
          → IsLetInBetween w (reverse t) n (length p) (length c)
      by_message None k e = cc
      by_message (Some m) k e =
          let whole = open_spoken w t n (steps n.to t) m e was_made in
          let low = subst (λ x. x ≤ steps n.to c) whole (until (cases_lt _ _)) in
          let found = least_found (λ k. copy_open_until (steps n.to t) (marks_of w t n k))
          (steps n.to c) low in
          by_copy found.0 (let_in_of (fate w t (record n { copy = found.0 }))) found.1 refl m e
          found.2

  -- a copy that is let in before a receive leaves it nothing to lack
  reached : (c : List Event) (m : List Value) → message w t n ≡ Some m → At c (Step n.to) t
      → IsLetInBetween w (reverse t) n (length p) (length c)
      → open_until (steps n.to t) (marks_of w t n) ≤ steps n.to c
  reached c m says s r =
      let at = let_in_moment w t (record n { copy = r.copy }) r.place r.let_in in
      let place = at.place in
      let before = r.before in
      let inside = at_within c (Step n.to) at.moment
      (Release (record n { copy = r.copy })) t s at.there (omega arith) in
      let up = steps_up_to n.to (Release (record n { copy = r.copy })) at.moment c inside in
      let count : steps_before (reverse t) n.to r.place ≡ steps n.to at.moment = at.count in
      let found = let_in_found w t (record n { copy = r.copy }) r.place r.let_in in
      let open_is : copy_open_until (steps n.to t) (marks_of w t n r.copy)
      ≡ counted w (steps_before (reverse t) n.to r.place) =
      copy_open_is w t n (steps n.to t) r.copy m says
      ∙ ap (λ o. unwrap_or (option_map (counted w) o) (steps n.to t)) found in
      let least : least_copy (λ k. copy_open_until (steps n.to t) (marks_of w t n k))
      ≤ copy_open_until (steps n.to t) (marks_of w t n r.copy) =
      least_below (λ k. copy_open_until (steps n.to t) (marks_of w t n k)) r.copy r.few in
      subst (λ x. x ≤ steps n.to c) (sym (open_spoken w t n (steps n.to t) m says was_made))
      (omega arith)

  -- each step at which it's lacked was taken
  most_by : (o : Option ℕ) → let_in_of (fate w t (original n)) ≡ o
      → unwrap_or (option_map (counted w) o) (steps n.to t) ≤ steps n.to t
  most_by None e = omega arith
  most_by (Some x) e = let few = let_in_few w t (original n) x e in omega arith

  open_most : (m : List Value) → message w t n ≡ Some m
      → open_until (steps n.to t) (marks_of w t n) ≤ steps n.to t
  open_most m e =
      let least : least_copy (λ k. copy_open_until (steps n.to t) (marks_of w t n k))
      ≤ copy_open_until (steps n.to t) (marks_of w t n 0) =
      least_below (λ k. copy_open_until (steps n.to t) (marks_of w t n k)) 0 (omega arith) in
      let most : copy_open_until (steps n.to t) (marks_of w t n 0) ≤ steps n.to t =
      subst (λ x. x ≤ steps n.to t) (sym (copy_open_is w t n (steps n.to t) 0 m e))
      (most_by (let_in_of (fate w t (original n))) refl) in
      subst (λ x. x ≤ steps n.to t) (sym (open_spoken w t n (steps n.to t) m e was_made))
      (omega arith)

  -- if a copy is let in before each receive, none finds it too late
  pub not_late : (delta : ℕ)
      → ((c : List Event) → is_some (message w t n) ≡ true → At c (Step n.to) t
      → is_receive w (steps n.to c) ≡ true → steps n.from p + delta ≤ steps n.to c
      → length p < length c → IsLetInBetween w (reverse t) n (length p) (length c))
      → ¬ HasReceive w (max (steps n.from p + delta) (steps n.to p))
      (open_until (steps n.to t) (marks_of w t n))
  not_late delta kept h = by_message (message w t n) refl
    where
      let_before : (a : StepAt n.to h.step t) → is_some (message w t n) ≡ true
          → IsLetInBetween w (reverse t) n (length p) (length a.moment)
      let_before a spoken =
          let number = a.number in
          let low = h.after in
          let receive : is_receive w (steps n.to a.moment) ≡ true = ap (is_receive w) a.number
          ∙ h.receive in
          kept a.moment spoken a.stands receive (omega arith)
          (after_send a.moment a.stands receive (omega arith))

      by_message : (m : Option (List Value)) → message w t n ≡ m → ⊥
      by_message None e =
          let none = open_silent w t n (steps n.to t) e in
          let before = h.before in
          omega arith
      by_message (Some m) e =
          let before = h.before in
          let top = open_most m e in
          let a = step_at n.to h.step t (omega arith) in
          let number = a.number in
          let low = reached a.moment m e a.stands (let_before a (ap is_some e)) in
          omega arith
