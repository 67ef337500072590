-- The reasons of copies, by their marks and by places.
use Rattle.std.proofs.Common.{◌≡◌, ℕ, ◌+◌, ◌<◌, ◌≤◌, List, Option, None, Some}
use Rattle.std.proofs.Common.{sym, subst, refl, ap, ◌∙◌, arith, ◌⊎◌, inl, inr}
use Rattle.std.specs.Prelude.{IfSome, IsSome, MatchOption, reverse}
use Rattle.std.proofs.Common.{◌↔◌}
use Rattle.std.specs.List.{slice_get}
use Rattle.std.proofs.lemmas.Bool.{both_ways, cases_lt}
use Rattle.std.proofs.lemmas.List.{reverse-reverse}
use Rattle.std.proofs.lemmas.Option.{same_Some}
use Rattle.run_events.specs.declared.event.Event.{Event}
use Rattle.run_events.specs.declared.event.Event.TheVariants.{Step, Release}
use Rattle.run_events.specs.declared.name.Name.{Name}
use Rattle.step_book.specs.declared.mark.Mark.TheVariants as mark
use Rattle.step_book.specs.Agreed.{IsInFlight}
use Rattle.step_book.specs.Fates.{Unmade, fate}
use Rattle.step_book.specs.History.{counted}
use Rattle.step_book.specs.Log.{Log, history, mark_in, world_of}
use Rattle.step_book.specs.Names.{IsName}
use Rattle.step_book.specs.Places.{IsCarriedAs, IsMadeAt, IsReceiveAt, IsReceiveOf}
use Rattle.step_book.specs.Places.{IsStepAt, steps_before}
use Rattle.step_book.specs.Trace.{is_step, steps}
use Rattle.step_book.specs.World.{IsPlan, World, earliest, is_receive}
use Rattle.step_book.proofs.Placed.{made_found}
use Rattle.step_book.proofs.Plans.{receive_early, start_le}
use Rattle.omission_explainer.specs.Verdict.{IsLetInAt}
use Rattle.omission_reasons.specs.Departures.{IsFirstReceive, IsGone, LeavesAt, NoReceiveFrom}
use Rattle.omission_reasons.specs.Listing.{places_where}
use Rattle.omission_reasons.specs.Reasons.{HasReason, IsLeftWaiting, IsLostAt, IsMade, IsOmitted}
use Rattle.omission_reasons.specs.Reasons.{IsReason, IsReceivedAt}
use Rattle.omission_reasons.specs.declared.reason.Reason.{Reason}
use Rattle.omission_reasons.specs.declared.reason.Reason.TheVariants as told
use Rattle.omission_reasons.specs.declared.receive.Receive.{Receive}
use Rattle.omission_reasons.proofs.Departing.{leaves_one}
use Rattle.omission_reasons.proofs.Listed.{step_there}
use Rattle.omission_reasons.proofs.Marking.{lost_at, not_sent, released_at, unmade}
use Rattle.omission_reasons.proofs.Marking.{silent_is_made, unsilent}
use Rattle.omission_reasons.proofs.Omitted.{made_spoken, omitted_uncarried}
use Rattle.omission_reasons.proofs.Times.{is_receive_of, step_placed, steps_all, steps_le, steps_lt}

-- ---- a copy that was let in

module _ (w : World) (trace : List Event) (n : Name) where
  let_in_leaves : (b : ℕ) → IsLetInAt w trace n b → LeavesAt w trace n b
  let_in_leaves b h = record { made_at = h.place; made = h.made; first = h.leaves }

  lost_leaves : (b : ℕ) → IsLostAt w trace n b → LeavesAt w trace n b
  lost_leaves b h = record { made_at = h.place; made = h.made; first = h.leaves }

  -- a receive after the release has the number of the release or a later one
  module _ (b : ℕ) (let_in : IsLetInAt w trace n b) where
    number_after : (c : ℕ) (r : IsReceiveAt w trace n.to c) → b < c
        → steps_before trace n.to b ≤ r.step
    number_after c r l =
        let up = steps_le trace n.to b c (Release n) (Step n.to) let_in.release r.there.there l in
        let is = r.there.number in
        omega arith

    after_by : (p : ℕ) → slice_get trace p ≡ Some (Step n.to)
        → steps_before trace n.to b ≤ steps_before trace n.to p → (b < p) ⊎ (p ≤ b)
        → (p < b) ⊎ (b ≤ p) → b < p
    after_by p there l (inl late) d = late
    after_by p there l (inr early) (inl before) =
        let up = steps_lt trace n.to p b (Release n) there let_in.release before in
        absurd (omega arith)
    after_by p there l (inr early) (inr other) =
        let same : b ≡ p = omega arith in
        let both : ◌≡◌ {A = Event} (Release n) (Step n.to) =
        same_Some _ _ (sym let_in.release ∙ ap (slice_get trace) same ∙ there) in
        absurd cc

    -- a step of the receiver with such a number comes after it
    step_after : (p : ℕ) → slice_get trace p ≡ Some (Step n.to)
        → steps_before trace n.to b ≤ steps_before trace n.to p → b < p
    step_after p there l = after_by p there l (cases_lt b p) (cases_lt p b)

    module _ (x : ℕ) (counts : counted w (steps_before trace n.to b) ≡ x) where
      low : x ≤ steps_before trace n.to b
      low = omega arith

      -- no receive is left
      pub waits_past : NoReceiveFrom w x → IsLeftWaiting w trace n b
      waits_past none = record { let_in = let_in; none = λ c l r. by c l r }
        where
          by : (c : ℕ) → b < c → IsReceiveAt w trace n.to c → ⊥
          by c l r =
              let up = number_after c r l in
              let least = low in
              both_ways (is_receive w r.step) (none r.step (omega arith))
              (is_receive_of w r.round r.step r.receives)

      -- the next wasn't taken
      pub waits_still : (r : Receive) → IsFirstReceive w x r → steps n.to (reverse trace) ≤ r.step
          → IsLeftWaiting w trace n b
      waits_still r f out = record { let_in = let_in; none = λ c l own. by c l own (cases_lt _ _) }
        where
          by : (c : ℕ) → b < c → (own : IsReceiveAt w trace n.to c)
              → (own.step < r.step) ⊎ (r.step ≤ own.step) → ⊥
          by c l own (inl early) =
              let up = number_after c own l in
              let least = low in
              both_ways (is_receive w own.step) (f.first own.step (omega arith) early)
              (is_receive_of w own.round own.step own.receives)
          by c l own (inr late) =
              let taken = steps_all trace n.to c own.there.there in
              let is = own.there.number in
              absurd (omega arith)

      module _ (plan : IsPlan w) (r : Receive) (f : IsFirstReceive w x r) (p : ℕ)
          (at : IsStepAt trace n.to r.step p) where
        exact : steps_before trace n.to b ≡ x
        exact =
            let early = receive_early w plan r.step (is_receive_of w r.round r.step f.receive) in
            let after = f.after in
            omega arith

        -- it was received there
        pub received_there : IsReceivedAt w trace n b p r.round
        received_there =
            let is = at.number in
            let after = f.after in
            let same = exact in
            record {
              let_in = let_in;
              receive = record {
                later = step_after p at.there (omega arith);
                there = record {
                  round = r.round;
                  step = r.step;
                  there = at;
                  receives = f.receive;
                };
                none = λ k l h own. before k l h own;
              };
              round = subst (IsReceiveOf w r.round) (sym at.number) f.receive;
            }
          where
            before : (k : ℕ) → b < k → k < p → IsReceiveAt w trace n.to k → ⊥
            before k l h own =
                let up = number_after k own l in
                let down = steps_lt trace n.to k p (Step n.to) own.there.there at.there h in
                let is = own.there.number in
                let last = at.number in
                let same = exact in
                both_ways (is_receive w own.step) (f.first own.step (omega arith) (omega arith))
                (is_receive_of w own.round own.step own.receives)

        in_time : earliest n.round ≤ r.round → r.round ≤ n.round → IsCarriedAs w trace n
        in_time early late =
            let is = at.number in
            let from = f.receive.after_sends in
            let upto = f.receive.before_end in
            let first = start_le w plan (earliest n.round) r.round (omega arith) early in
            let last = start_le w plan (r.round + 1) (n.round + 1) (omega arith) (omega arith) in
            record {
              a = let_in.place;
              b = b;
              c = p;
              made = let_in.made;
              leaves = let_in.leaves;
              release = let_in.release;
              receive = received_there.receive;
              from_start = omega arith;
              before_end = omega arith;
            }

        -- and too early, if it was neither in time nor late
        pub too_early : (IsCarriedAs w trace n → ⊥) → r.round ≤ n.round
            → r.round < earliest n.round
        too_early off late = by (cases_lt _ _)
          where
            by : (r.round < earliest n.round) ⊎ (earliest n.round ≤ r.round)
                → r.round < earliest n.round
            by (inl early) = early
            by (inr near) = absurd (off (in_time near late))

-- ---- by the mark

-- the copy left by a release at b, when its receiver's steps counted as x
pub record IsLetGoAt (w : World) (trace : List Event) (n : Name) (x b : ℕ) : Type 0 where
  pub let_in : IsLetInAt w trace n b
  pub counts : counted w (steps_before trace n.to b) ≡ x

module _ (start : ℕ → ℕ) (v : Log) (n : Name) where
  pub lost_gone : mark_in start v n ≡ mark.Lost → IsGone (world_of start v) v.trace n
  lost_gone h = let x = lost_at (world_of start v) v.trace n h in
      record { place = x.0; leaves = lost_leaves (world_of start v) v.trace n x.0 x.1 }

  pub lost_reason : (b : ℕ) → mark_in start v n ≡ mark.Lost
      → LeavesAt (world_of start v) v.trace n b → IsLostAt (world_of start v) v.trace n b
  lost_reason b h leaves =
      let w = world_of start v in
      let x = lost_at w v.trace n h in
      subst (λ z. IsLostAt w v.trace n z)
      (leaves_one w v.trace n x.0 b (lost_leaves w v.trace n x.0 x.1) leaves) x.1

  pub released_gone : (x : ℕ) → mark_in start v n ≡ mark.Released x
      → IsGone (world_of start v) v.trace n
  released_gone x h =
      let r = released_at (world_of start v) v.trace n x h in
      record {
        place = r.place;
        leaves = let_in_leaves (world_of start v) v.trace n r.place r.let_in;
      }

  pub released_here : (x b : ℕ) → mark_in start v n ≡ mark.Released x
      → LeavesAt (world_of start v) v.trace n b → IsLetGoAt (world_of start v) v.trace n x b
  released_here x b h leaves =
      let w = world_of start v in
      let r = released_at w v.trace n x h in
      let first : IsLetGoAt w v.trace n x r.place =
      record { let_in = r.let_in; counts = r.counts } in
      subst (λ z. IsLetGoAt w v.trace n x z)
      (leaves_one w v.trace n r.place b (let_in_leaves w v.trace n r.place r.let_in) leaves) first

  -- its receiver has no receive left
  pub waiting_past : (x b : ℕ) → mark_in start v n ≡ mark.Released x
      → LeavesAt (world_of start v) v.trace n b → NoReceiveFrom (world_of start v) x
      → IsLeftWaiting (world_of start v) v.trace n b
  waiting_past x b h leaves none =
      let at = released_here x b h leaves in
      waits_past (world_of start v) v.trace n b at.let_in x at.counts none

  -- or didn't take the next
  pub waiting_still : (x b : ℕ) (r : Receive) → mark_in start v n ≡ mark.Released x
      → LeavesAt (world_of start v) v.trace n b → IsFirstReceive (world_of start v) x r
      → slice_get (places_where (is_step n.to) (history v)) r.step ≡ None
      → IsLeftWaiting (world_of start v) v.trace n b
  waiting_still x b r h leaves f none =
      let at = released_here x b h leaves in
      waits_still (world_of start v) v.trace n b at.let_in x at.counts r f (past (cases_lt _ _))
    where
      past : (r.step < steps n.to (history v)) ⊎ (steps n.to (history v) ≤ r.step)
          → steps n.to (history v) ≤ r.step
      past (inl low) = absurd (step_there n.to (history v) r.step low none)
      past (inr high) = high

  -- it was received in another round
  module _ (name : IsName v.setup n) (plan : IsPlan (world_of start v))
      (omitted : IsOmitted start v n) (x b p : ℕ) (r : Receive)
      (released : mark_in start v n ≡ mark.Released x)
      (leaves : LeavesAt (world_of start v) v.trace n b)
      (first : IsFirstReceive (world_of start v) x r)
      (there : slice_get (places_where (is_step n.to) (history v)) r.step ≡ Some p) where
    abbrev w : World
    w = world_of start v

    at : IsStepAt v.trace n.to r.step p
    at = step_placed v.trace n.to r.step p there

    here : IsLetGoAt w v.trace n x b
    here = released_here x b released leaves

    received : IsReceivedAt w v.trace n b p r.round
    received = received_there w v.trace n b here.let_in x here.counts plan r first p at

    early : r.round ≤ n.round → r.round < earliest n.round
    early late =
        let said = released_at w v.trace n x released in
        too_early w v.trace n b here.let_in x here.counts plan r first p at
        (omitted_uncarried start v n name omitted said.message) late

    pub reason_by : (reason : Reason) → (n.round < r.round → reason ≡ told.Late b p r.round)
        → (r.round ≤ n.round → reason ≡ told.Early b p r.round) → IsReason start v n reason
    reason_by reason is_late is_early = by (cases_lt n.round r.round)
      where
        by : (n.round < r.round) ⊎ (r.round ≤ n.round) → IsReason start v n reason
        by (inl late) = subst (IsReason start v n) (sym (is_late late)) (late, received)
        by (inr late) = subst (IsReason start v n) (sym (is_early late)) (early late, received)

-- ---- which copies have a reason

module _ (start : ℕ → ℕ) (v : Log) (n : Name) (name : IsName v.setup n)
    (omitted : IsOmitted start v n) where
  made_fate : IsMade start v n → fate (world_of start v) (history v) n ≡ Unmade → ⊥
  made_fate m = made_found (world_of start v) (history v) n m.place
      (subst (λ z. IsMadeAt (world_of start v) z n m.place) (sym (reverse-reverse v.trace)) m.made)

  -- one that wasn't made, if it's copy 0
  pub unsent_told : mark_in start v n ≡ mark.Unsent → (n.copy ≡ 0) ↔ HasReason start v n
  unsent_told h = (λ c. record { omitted = omitted; copy = inl c }, λ r. by r.copy)
    where
      by : (n.copy ≡ 0) ⊎ IsMade start v n → n.copy ≡ 0
      by (inl c) = c
      by (inr m) =
          let made = made_fate m in
          absurd (made (unmade (world_of start v) v.trace n
          (made_spoken start v n name omitted made) h))

  -- silence has none, for it isn't omitted
  pub silent_told : mark_in start v n ≡ mark.Silent → ⊥
  silent_told h =
      let made = silent_is_made (world_of start v) v.trace n h in
      unsilent (world_of start v) v.trace n (made_spoken start v n name omitted made) h

  -- one that left
  pub gone_told : IsGone (world_of start v) v.trace n → HasReason start v n
  gone_told gone = record {
    omitted = omitted;
    copy = inr (record { place = gone.leaves.made_at; made = gone.leaves.made });
  }

  -- one in flight
  pub flying_told : IsInFlight start v n → HasReason start v n
  flying_told f = record { omitted = omitted; copy = inr (record { place = f.a; made = f.made }) }

-- ---- as an answer tells them

pub some_matched : {A : Type 0} (P : A → Type 0) (found : Option A) → MatchOption found ⊥ P
    → IsSome found
some_matched P None h = absurd h
some_matched P (Some x) h = refl

pub unsent_reason : (start : ℕ → ℕ) (v : Log) (n : Name) (found : Option Reason)
    → mark_in start v n ≡ mark.Unsent → (IsSome found) ↔ (n.copy ≡ 0)
    → IfSome found (λ reason. reason ≡ told.NotSent) → IfSome found (IsReason start v n)
unsent_reason start v n None h some is = tt
unsent_reason start v n (Some reason) h some is =
    subst (IsReason start v n) (sym is) (not_sent (world_of start v) v.trace n (some.0 refl) h)
