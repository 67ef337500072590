-- The first receive at which the message of a step breaks the bound on the delay.
use Rattle.std.proofs.Common.{◌≡◌, ℕ, ◌+◌, ◌<◌, ◌≤◌, true, false, max, List, length, get_or}
use Rattle.std.proofs.Common.{Some, sym, refl, ap, ◌∙◌, subst, arith, leb, ◌⊎◌, inl, inr}
use Rattle.std.specs.Prelude.{is_some, reverse}
use Rattle.std.specs.List.{slice_get}
use Rattle.std.proofs.lemmas.Bool.{cases_Bool, cases_lt, cases_order, lt-leb}
use Rattle.std.proofs.lemmas.List.{reverse-reverse}
use Rattle.std.proofs.lemmas.Option.{same_Some}
use Rattle.round_lang.specs.Sets.{is_in}
use Rattle.run_events.specs.declared.event.Event.{Event}
use Rattle.run_events.specs.declared.event.Event.TheVariants.{Step}
use Rattle.run_events.specs.declared.name.Name.{Name}
use Rattle.step_book.specs.History.{message}
use Rattle.step_book.specs.Log.{Log, history, world_of}
use Rattle.step_book.specs.Names.{IsNameOf}
use Rattle.step_book.specs.Places.{IsStepAt, steps_before}
use Rattle.step_book.specs.Slots.{IsMessageAt}
use Rattle.step_book.specs.Trace.{steps}
use Rattle.step_book.specs.World.{World, IsPlan, is_receive, nodes_of}
use Rattle.step_book.proofs.Moments.{At, at_within, step_rises}
use Rattle.step_book.proofs.Plans.{is_receive_at}
use Rattle.step_book.proofs.Reading.{named, nodes_are}
use Rattle.step_book.proofs.Slots.{one_message}
use Rattle.omission_explainer.specs.Lateness.{HasReceive, KeepsBound, marks_of, open_until}
use Rattle.omission_explainer.specs.Verdict.{IsLetInBetween}
use Rattle.omission_explainer.proofs.Delays.{in_time, not_late}
use Rattle.omission_explainer.proofs.Moments.{steps_up_to}
use Rattle.omission_reasons.proofs.Times.{steps_lt}
use Rattle.verdict_reasons.specs.Bound.{IsBoundBreak, IsBreakAt, IsFirstWithin}
use Rattle.verdict_reasons.specs.Correct.{AreCounts}
use Rattle.verdict_reasons.specs.declared.bound.BoundBreak.{BoundBreak}
use Rattle.verdict_reasons.proofs.Standing.{Standing, standing, within}

-- up to which step number its receiver lacks a message
abbrev pub open_of : (ℕ → ℕ) → Log → Name → ℕ
open_of start v n =
    open_until (steps n.to (history v)) (marks_of (world_of start v) (history v) n)

-- a message that is let in between two places of the history's list is let in between them
let_in_own : (start : ℕ → ℕ) (v : Log) (n : Name) (a c : ℕ)
    → IsLetInBetween (world_of start v) v.trace n a c
    → IsLetInBetween (world_of start v) (reverse (history v)) n a c
let_in_own start v n a c h =
    subst (λ z. IsLetInBetween (world_of start v) z n a c) (sym (reverse-reverse v.trace)) h

pub let_in_there : (start : ℕ → ℕ) (v : Log) (n : Name) (a c : ℕ)
    → IsLetInBetween (world_of start v) (reverse (history v)) n a c
    → IsLetInBetween (world_of start v) v.trace n a c
let_in_there start v n a c h =
    subst (λ z. IsLetInBetween (world_of start v) z n a c) (reverse-reverse v.trace) h

-- what is let in by a place is let in by a later one
let_in_later : (w : World) (t : List Event) (n : Name) (a b c : ℕ) → b ≤ c
    → IsLetInBetween w t n a b → IsLetInBetween w t n a c
let_in_later w t n a b c l h =
    let before = h.before in
    record {
      copy = h.copy;
      few = h.few;
      place = h.place;
      let_in = h.let_in;
      after = h.after;
      before = omega arith;
    }

-- ---- a break by what is sent at a place

module _ (start : ℕ → ℕ) (v : Log) (correct delta gst : ℕ) (counts : List ℕ) (node place : ℕ)
    (tallied : AreCounts v.trace correct counts place)
    (there : slice_get v.trace place ≡ Some (Step node)) (here : is_in correct node ≡ true)
    (b : BoundBreak) (h : IsBoundBreak start v correct delta gst b) (same : b.sent ≡ place) where
  sender_of : b.name.from ≡ node
  sender_of =
      let s = h.sends in
      let one : Step b.name.from ≡ Step node =
      same_Some (Step b.name.from) (Step node) (sym s.there.there ∙ ap (slice_get v.trace) same
      ∙ there) in
      cc

  sent_step_of : b.sent_step ≡ get_or counts node 0
  sent_step_of = sym h.sends.there.number ∙ ap (steps_before v.trace b.name.from) same
      ∙ ap (λ i. steps_before v.trace i place) sender_of ∙ sym (tallied.counted node here)

  slot_of : IsMessageAt (world_of start v) node (get_or counts node 0) b.name
  slot_of =
      let s = h.sends in
      record {
        named = named start v b.name s.name;
        copy = s.copy;
        from = sender_of;
        slot = sym sent_step_of ∙ s.slot;
      }

-- ---- the message of a step

module _ (start : ℕ → ℕ) (v : Log) (plan : IsPlan (world_of start v))
    (correct delta gst : ℕ) (counts : List ℕ) (node place : ℕ)
    (tallied : AreCounts v.trace correct counts place)
    (there : slice_get v.trace place ≡ Some (Step node)) (here : is_in correct node ≡ true)
    (n : Name) (own : IsMessageAt (world_of start v) node (get_or counts node 0) n)
    (member : is_in correct n.to ≡ true) where
  abbrev w : World
  w = world_of start v

  abbrev t : List Event
  t = history v

  abbrev sending : Standing v.trace node place
  sending = standing v.trace node place there

  abbrev p : List Event
  p = sending.moment

  stands : At p (Step n.from) t
  stands = subst (λ i. At p (Step i) t) (sym own.from) sending.stands

  sender : steps n.from p ≡ get_or counts node 0
  sender = ap (λ i. steps i p) own.from ∙ sym (sending.count node) ∙ sym (tallied.counted node here)

  receiver : steps n.to p ≡ get_or counts n.to 0
  receiver = sym (sending.count n.to) ∙ sym (tallied.counted n.to member)

  slot : steps n.from p ≡ w.start n.round + n.to
  slot = sender ∙ own.slot

  -- from which step number on a receive is due, by the counts
  abbrev pub due_from : ℕ
  due_from = max (get_or counts node 0 + delta) (get_or counts n.to 0)

  same_due : due_from ≡ max (steps n.from p + delta) (steps n.to p)
  same_due = ap (λ x. max (x + delta) (get_or counts n.to 0)) (sym sender)
      ∙ ap (max (steps n.from p + delta)) (sym receiver)

  -- if it's let in before each receive that is due, none breaks the bound
  none_late : ((c : List Event) → is_some (message w t n) ≡ true → At c (Step n.to) t
      → is_receive w (steps n.to c) ≡ true → steps n.from p + delta ≤ steps n.to c
      → length p < length c → IsLetInBetween w (reverse t) n (length p) (length c))
      → HasReceive w due_from (open_of start v n) → ⊥
  none_late kept has =
      not_late w t p n plan own.named.to own.named.first own.named.last slot stands delta kept
      (subst (λ x. HasReceive w x (open_of start v n)) same_due has)

  -- and where none does, it's let in before each
  let_in : (HasReceive w due_from (open_of start v n) → ⊥) → (c : List Event)
      → is_some (message w t n) ≡ true → At c (Step n.to) t
      → is_receive w (steps n.to c) ≡ true → steps n.from p + delta ≤ steps n.to c
      → length p < length c → IsLetInBetween w (reverse t) n (length p) (length c)
  let_in none c spoken s r due later =
      in_time w t p n plan own.named.to own.named.first own.named.last slot stands delta c spoken s
      r due later
      (λ has. none (subst (λ x. HasReceive w x (open_of start v n)) (sym same_due) has))

  -- the step keeps the bound, if its message does
  pub keeps : (HasReceive w due_from (open_of start v n) → ⊥)
      → KeepsBound w t correct delta gst counts node
  keeps none m other also late has =
      none (subst (λ (x : Name). HasReceive w (max (get_or counts node 0 + delta)
      (get_or counts x.to 0)) (open_of start v x))
      (sym (one_message w plan node (get_or counts node 0) n m own other)) has)

  module _ (x : ℕ) (missed : IsFirstWithin w due_from (open_of start v n) x) where
    has_missed : HasReceive w due_from (open_of start v n)
    has_missed = record {
      step = x;
      after = missed.after;
      before = missed.before;
      receive = missed.receive;
    }

    -- a receive that is due doesn't come before the one that misses the message
    due_after : (c : List Event) → At c (Step n.to) t → is_receive w (steps n.to c) ≡ true
        → steps n.from p + delta ≤ steps n.to c → length p < length c → x ≤ steps n.to c
    due_after c s r due later = by (cases_lt (steps n.to c) x)
      where
        from : due_from ≤ steps n.to c
        from =
            let l = sending.long in
            let up = steps_up_to n.to (Step node) p c
            (within v.trace node place sending (Step n.to) c s (omega arith)) in
            let same = same_due in
            omega arith

        by : (steps n.to c < x) ⊎ (x ≤ steps n.to c) → x ≤ steps n.to c
        by (inl early) = let off = missed.first (steps n.to c) from early in cc
        by (inr late) = late

    -- that receive was taken
    pub taken : x < steps n.to t
    taken = by (cases_lt x (steps n.to t))
      where
        by : (x < steps n.to t) ⊎ (steps n.to t ≤ x) → x < steps n.to t
        by (inl past) = past
        by (inr never) = absurd (none_late (λ c spoken s r due later.
            absurd (let low = due_after c s r due later in let up = step_rises n.to c t s in
            omega arith)) has_missed)

    spoken : is_some (message w t n) ≡ true
    spoken = by (cases_Bool (is_some (message w t n)))
      where
        by : (is_some (message w t n) ≡ true) ⊎ (is_some (message w t n) ≡ false)
            → is_some (message w t n) ≡ true
        by (inl on) = on
        by (inr off) = absurd (none_late (λ c on s r due later. absurd (cc)) has_missed)

    -- a slot isn't a receive
    no_slot : x ≡ w.start n.round + n.to → ⊥
    no_slot same =
        let first = own.named.first in
        let small = own.named.to in
        let long = plan.next n.round first in
        let is : is_receive w x ≡ leb (w.start n.round + nodes_of w) x =
        is_receive_at w plan n.round x first own.named.last (omega arith) (omega arith) in
        let off : leb (w.start n.round + nodes_of w) x ≡ false = lt-leb _ _ (omega arith) in
        let on = missed.receive in
        cc

    module _ (received : ℕ) (reads : IsStepAt v.trace n.to x received) where
      reach : Standing v.trace n.to received
      reach = standing v.trace n.to received reads.there

      number : steps n.to reach.moment ≡ x
      number = sym (reach.count n.to) ∙ reads.number

      low : get_or counts n.to 0 ≤ x
      low = let after = missed.after in omega arith

      later : place < received
      later = by (cases_order place received)
        where
          by : (place ≡ received) ⊎ ((place < received) ⊎ (received < place)) → place < received
          by (inl same) =
              let one : Step node ≡ Step n.to =
              same_Some (Step node) (Step n.to) (sym there ∙ ap (slice_get v.trace) same
              ∙ reads.there) in
              let to : node ≡ n.to = cc in
              let count : x ≡ get_or counts node 0 = sym reads.number
              ∙ ap (steps_before v.trace n.to) (sym same)
              ∙ ap (λ i. steps_before v.trace i place) (sym to)
              ∙ sym (tallied.counted node here) in
              absurd (no_slot (count ∙ own.slot))
          by (inr (inl before)) = before
          by (inr (inr after)) =
              let up = steps_lt v.trace n.to received place (Step node) reads.there there after in
              let was = tallied.counted n.to member in
              let is = reads.number in
              absurd (omega (arith, low))

      -- each receive that is due stands at this place or later
      after_this : (c : List Event) → At c (Step n.to) t → x ≤ steps n.to c → received ≤ length c
      after_this c s l = by (cases_lt (length c) received)
        where
          by : (length c < received) ⊎ (received ≤ length c) → received ≤ length c
          by (inl early) =
              let long = reach.long in
              let up = step_rises n.to c reach.moment (earlier early) in
              let is = number in
              absurd (omega arith)
            where
              earlier : length c < received → At c (Step n.to) reach.moment
              earlier m =
                  let long = reach.long in
                  at_within reach.moment (Step n.to) c (Step n.to) t reach.stands s (omega arith)
          by (inr late) = late

      lacks : IsLetInBetween w v.trace n place received → ⊥
      lacks h = none_late (λ c on s r due behind.
          subst (λ z. IsLetInBetween w (reverse t) n z (length c)) (sym sending.long)
          (let_in_later w (reverse t) n place received (length c)
          (after_this c s (due_after c s r due behind))
          (let_in_own start v n place received h))) has_missed

      abbrev pub found_break : BoundBreak
      found_break = record {
        name = n;
        sent = place;
        sent_step = get_or counts node 0;
        received = received;
        received_step = x;
      }

      breaks : gst ≤ get_or counts node 0 → IsBoundBreak start v correct delta gst found_break
      breaks stable = record {
        from = ap (is_in correct) own.from ∙ here;
        to = member;
        sends = record {
          name = subst (λ z. IsNameOf z v.setup.rounds n) (nodes_are start v) own.named;
          copy = own.copy;
          slot = own.slot;
          there = record {
            there = there ∙ ap (λ i. Some (Step i)) (sym own.from);
            number = ap (λ i. steps_before v.trace i place) own.from
                ∙ sym (tallied.counted node here);
          };
          message = spoken;
        };
        stable = stable;
        there = reads;
        receives = missed.receive;
        due = let after = missed.after in omega arith;
        later = later;
        lacks = lacks;
      }

      -- a break by what is sent here is by this message
      same_name : (b : BoundBreak) → IsBoundBreak start v correct delta gst b → b.sent ≡ place
          → n ≡ b.name
      same_name b h same = one_message w plan node (get_or counts node 0) n b.name own
          (slot_of start v correct delta gst counts node place tallied there here b h same)

      first : (b : BoundBreak) → IsBoundBreak start v correct delta gst b → b.sent ≡ place
          → received ≤ b.received
      first b h same = by (cases_lt b.received received)
        where
          by : (b.received < received) ⊎ (received ≤ b.received) → received ≤ b.received
          by (inr late) = late
          by (inl early) =
              let name = same_name b h same in
              let reached : IsStepAt v.trace n.to b.received_step b.received =
              subst (λ (m : Name). IsStepAt v.trace m.to b.received_step b.received) (sym name)
              h.there in
              let c = standing v.trace n.to b.received reached.there in
              let is : steps n.to c.moment ≡ b.received_step =
              sym (c.count n.to) ∙ reached.number in
              let sent : b.sent_step ≡ get_or counts node 0 =
              sent_step_of start v correct delta gst counts node place tallied there here b h
              same in
              let due = h.due in
              let behind = h.later in
              let long = sending.long in
              let far = c.long in
              let own_step = sender in
              let up = due_after c.moment c.stands (ap (is_receive w) is ∙ h.receives)
              (omega arith) (omega arith) in
              let less = steps_lt v.trace n.to b.received received (Step n.to) reached.there
              reads.there early in
              let end = reads.number in
              let start_of = reached.number in
              absurd (omega arith)

      pub break_at : gst ≤ get_or counts node 0
          → IsBreakAt start v correct delta gst place found_break
      break_at stable = record { breaks = breaks stable; sent_there = refl; first = first }

-- a step that keeps the bound sends nothing by which it's broken
module _ (start : ℕ → ℕ) (v : Log) (plan : IsPlan (world_of start v))
    (correct delta gst : ℕ) (counts : List ℕ) (node place : ℕ)
    (tallied : AreCounts v.trace correct counts place)
    (there : slice_get v.trace place ≡ Some (Step node)) (here : is_in correct node ≡ true)
    (kept : KeepsBound (world_of start v) (history v) correct delta gst counts node) where
  pub no_break_at : (b : BoundBreak) → IsBoundBreak start v correct delta gst b → b.sent ≡ place → ⊥
  no_break_at b h same =
      let n = b.name in
      let own = slot_of start v correct delta gst counts node place tallied there here b h same in
      let step = sent_step_of start v correct delta gst counts node place tallied there here b h
      same in
      let stable = h.stable in
      let reads = h.there in
      let c = standing v.trace n.to b.received reads.there in
      let a = standing v.trace node place there in
      let is : steps n.to c.moment ≡ b.received_step = sym (c.count n.to) ∙ reads.number in
      let from : steps n.from a.moment ≡ get_or counts node 0 =
      sender start v plan correct delta gst counts node place tallied there here n own h.to in
      let due = h.due in
      let later = h.later in
      let near = a.long in
      let far = c.long in
      let between = let_in start v plan correct delta gst counts node place tallied there here n own
      h.to (kept n own h.to (omega arith)) c.moment h.sends.message c.stands
      (ap (is_receive (world_of start v)) is ∙ h.receives) (omega arith) (omega arith) in
      h.lacks (subst (λ z. IsLetInBetween (world_of start v) v.trace n z b.received)
      (a.long ∙ sym same)
      (subst (λ z. IsLetInBetween (world_of start v) v.trace n (length a.moment) z) c.long
      (let_in_there start v n (length a.moment) (length c.moment) between)))
