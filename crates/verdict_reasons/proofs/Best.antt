-- The first break of the bound that a pass over a trace has found.
use Rattle.std.proofs.Common.{◌≡◌, ℕ, ◌+◌, ◌<◌, ◌≤◌, Bool, true, false, List, ◌∷◌, length, get_or}
use Rattle.std.proofs.Common.{set}
use Rattle.std.proofs.Common.{Option, None, Some, sym, refl, ap, ◌∙◌, subst, arith, ◌⊎◌, inl, inr}
use Rattle.std.proofs.Common.{cond, ltb}
use Rattle.std.specs.Prelude.{MatchOption}
use Rattle.std.specs.List.{slice_get}
use Rattle.std.proofs.lemmas.Bool.{cases_lt, eq-eqb, ltb-false, ltb-true}
use Rattle.std.proofs.lemmas.List.{length-reverse}
use Rattle.std.proofs.lemmas.Option.{same_Some, slice_get_within}
use Rattle.round_lang.specs.Sets.{is_in}
use Rattle.run_events.specs.declared.event.Event.{Event}
use Rattle.run_events.specs.declared.event.Event.TheVariants.{Step}
use Rattle.step_book.specs.Log.{Log, history, world_of}
use Rattle.step_book.specs.Trace.{is_step, steps}
use Rattle.step_book.specs.World.{IsPlan, is_receive, nodes_of}
use Rattle.step_book.proofs.Moments.{At}
use Rattle.omission_explainer.specs.Lateness.{KeepsBound}
use Rattle.omission_explainer.specs.Verdict.{AreNodes, IsDelayBound, IsLetInBetween}
use Rattle.omission_explainer.proofs.Passes.{IsBoundTo, IsOther, SpokenAt, Tallied, bound_other}
use Rattle.omission_explainer.proofs.Passes.{bound_step, tally_other, tally_step}
use Rattle.omission_explainer.proofs.Verdicts.{bound_placed}
use Rattle.verdict_reasons.specs.Bound.{IsBoundBreak, IsBreakAt, IsFirstBoundBreak, sooner}
use Rattle.verdict_reasons.specs.Correct.{AreCounts}
use Rattle.verdict_reasons.specs.declared.bound.BoundBreak.{BoundBreak}
use Rattle.verdict_reasons.proofs.Overdue.{let_in_there, no_break_at}
use Rattle.verdict_reasons.proofs.Standing.{same_moment, standing, there_at, within}

module _ (start : ℕ → ℕ) (v : Log) (correct delta gst : ℕ) where
  -- of what is sent before place k, this breaks the bound first
  pub record IsBest (k : ℕ) (b : BoundBreak) : Type 0 where
    pub breaks : IsBoundBreak start v correct delta gst b
    pub before : b.sent < k
    pub first : (other : BoundBreak) → IsBoundBreak start v correct delta gst other
        → other.sent < k → b.received ≤ other.received
    pub oldest : (other : BoundBreak) → IsBoundBreak start v correct delta gst other
        → other.sent < k → other.received ≡ b.received → b.sent ≤ other.sent

  -- what a pass has found up to a moment
  pub record Sought (p : List Event) (counts : List ℕ) (found : Option BoundBreak) : Type 0 where
    pub tallied : Tallied correct p counts
    pub best : MatchOption found
        (IsBoundTo (world_of start v) (history v) correct delta gst p) (IsBest (length p))

  -- ---- one event more

  -- what is sent at place k breaks nothing
  widen : (k m : ℕ) (b : BoundBreak) → m ≡ k + 1 → IsBest k b
      → ((other : BoundBreak) → IsBoundBreak start v correct delta gst other → other.sent ≡ k → ⊥)
      → IsBest m b
  widen k m b more best none =
      let early = best.before in
      record {
        breaks = best.breaks;
        before = omega arith;
        first = λ other h l. first_by other h l (cases_lt other.sent k);
        oldest = λ other h l same. oldest_by other h l same (cases_lt other.sent k);
      }
    where
      first_by : (other : BoundBreak) → IsBoundBreak start v correct delta gst other
          → other.sent < m → (other.sent < k) ⊎ (k ≤ other.sent) → b.received ≤ other.received
      first_by other h l (inl old) = best.first other h old
      first_by other h l (inr new) = absurd (none other h (omega arith))

      oldest_by : (other : BoundBreak) → IsBoundBreak start v correct delta gst other
          → other.sent < m → other.received ≡ b.received → (other.sent < k) ⊎ (k ≤ other.sent)
          → b.sent ≤ other.sent
      oldest_by other h l same (inl old) = best.oldest other h old same
      oldest_by other h l same (inr new) = absurd (none other h (omega arith))

  -- what is sent at place k breaks the bound no earlier
  stays : (k m : ℕ) (b c : BoundBreak) → m ≡ k + 1 → IsBest k b
      → IsBreakAt start v correct delta gst k c → b.received ≤ c.received → IsBest m b
  stays k m b c more best at late =
      let early = best.before in
      record {
        breaks = best.breaks;
        before = omega arith;
        first = λ other h l. first_by other h l (cases_lt other.sent k);
        oldest = λ other h l same. oldest_by other h l same (cases_lt other.sent k);
      }
    where
      first_by : (other : BoundBreak) → IsBoundBreak start v correct delta gst other
          → other.sent < m → (other.sent < k) ⊎ (k ≤ other.sent) → b.received ≤ other.received
      first_by other h l (inl old) = best.first other h old
      first_by other h l (inr new) = let low = at.first other h (omega arith) in omega arith

      oldest_by : (other : BoundBreak) → IsBoundBreak start v correct delta gst other
          → other.sent < m → other.received ≡ b.received → (other.sent < k) ⊎ (k ≤ other.sent)
          → b.sent ≤ other.sent
      oldest_by other h l same (inl old) = best.oldest other h old same
      oldest_by other h l same (inr new) = let early = best.before in omega arith

  -- what is sent at place k breaks it first
  leads : (k m : ℕ) (c : BoundBreak) → m ≡ k + 1 → IsBreakAt start v correct delta gst k c
      → ((other : BoundBreak) → IsBoundBreak start v correct delta gst other → other.sent < k
      → c.received < other.received) → IsBest m c
  leads k m c more at late =
      let there = at.sent_there in
      record {
        breaks = at.breaks;
        before = omega arith;
        first = λ other h l. first_by other h l (cases_lt other.sent k);
        oldest = λ other h l same. oldest_by other h l same (cases_lt other.sent k);
      }
    where
      first_by : (other : BoundBreak) → IsBoundBreak start v correct delta gst other
          → other.sent < m → (other.sent < k) ⊎ (k ≤ other.sent) → c.received ≤ other.received
      first_by other h l (inl old) = let less = late other h old in omega arith
      first_by other h l (inr new) = at.first other h (omega arith)

      oldest_by : (other : BoundBreak) → IsBoundBreak start v correct delta gst other
          → other.sent < m → other.received ≡ c.received → (other.sent < k) ⊎ (k ≤ other.sent)
          → c.sent ≤ other.sent
      oldest_by other h l same (inl old) = let less = late other h old in absurd (omega arith)
      oldest_by other h l same (inr new) = let there = at.sent_there in omega arith

  module _ (e : Event) (p : List Event) (stands : At p e (history v)) where
    -- if the bound is kept up to a moment, nothing that was sent before breaks it
    no_break : IsBoundTo (world_of start v) (history v) correct delta gst p
        → (b : BoundBreak) → IsBoundBreak start v correct delta gst b → b.sent < length p → ⊥
    no_break kept b h l =
        let n = b.name in
        let s = h.sends in
        let sent = s.there in
        let reads = h.there in
        let a = standing v.trace n.from b.sent sent.there in
        let c = standing v.trace n.to b.received reads.there in
        let is : steps n.to c.moment ≡ b.received_step = sym (c.count n.to) ∙ reads.number in
        let from : steps n.from a.moment ≡ b.sent_step = sym (a.count n.from) ∙ sent.number in
        let spoken : SpokenAt (world_of start v) (history v) n a.moment = record {
          first = s.name.first;
          last = s.name.last;
          copy = s.copy;
          slot = from ∙ s.slot;
          spoken = s.message;
        } in
        let stable = h.stable in
        let due = h.due in
        let later = h.later in
        let near = a.long in
        let far = c.long in
        let between = kept n a.moment c.moment h.from h.to
        (within v.trace n.from b.sent a e p stands l) spoken (omega arith) c.stands
        (ap (is_receive (world_of start v)) is ∙ h.receives) (omega arith) (omega arith) in
        h.lacks (subst (λ z. IsLetInBetween (world_of start v) v.trace n z b.received) a.long
        (subst (λ z. IsLetInBetween (world_of start v) v.trace n (length a.moment) z) c.long
        (let_in_there start v n (length a.moment) (length c.moment) between)))

    -- no correct node sends anything by another event
    none_here : IsOther correct e → (b : BoundBreak) → IsBoundBreak start v correct delta gst b
        → b.sent ≡ length p → ⊥
    none_here other b h same =
        let n = b.name in
        let sent = h.sends.there in
        let one : e ≡ Step n.from =
        same_Some e (Step n.from) (sym (there_at v.trace e (length p) p stands refl)
        ∙ ap (slice_get v.trace) (sym same) ∙ sent.there) in
        let on : is_step n.from e ≡ true = ap (is_step n.from) one ∙ eq-eqb n.from n.from refl in
        let off = other n.from h.from in
        cc

    pub sought_other : (counts : List ℕ) (found : Option BoundBreak) → IsOther correct e
        → Sought p counts found → Sought (e ∷ p) counts found
    sought_other counts found other a = record {
      tallied = tally_other correct p counts e other a.tallied;
      best = by found a.best;
    }
      where
        by : (o : Option BoundBreak)
            → MatchOption o (IsBoundTo (world_of start v) (history v) correct delta gst p)
            (IsBest (length p))
            → MatchOption o (IsBoundTo (world_of start v) (history v) correct delta gst (e ∷ p))
            (IsBest (length (e ∷ p)))
        by None kept =
            (bound_other (world_of start v) (history v) correct delta gst p e other).0 kept
        by (Some b) best = widen (length p) (length (e ∷ p)) b (omega arith) best (none_here other)

  module _ (k : ℕ) (p : List Event) (stands : At p (Step k) (history v)) (counts : List ℕ)
      (here : is_in correct k ≡ true) (tallied : Tallied correct p counts) where
    there : slice_get v.trace (length p) ≡ Some (Step k)
    there = there_at v.trace (Step k) (length p) p stands refl

    -- the counts are those before the step's place
    pub counts_there : AreCounts v.trace correct counts (length p)
    counts_there =
        let s = standing v.trace k (length p) there in
        record {
          sized = tallied.sized;
          counted = λ j h. tallied.counted j h
              ∙ sym (s.count j ∙ ap (steps j) (same_moment v.trace k (length p) s (Step k) p stands
              refl));
        }

    module _ (plan : IsPlan (world_of start v))
        (nodes : AreNodes (nodes_of (world_of start v)) correct) where
      abbrev Found : Option BoundBreak → Type 0
      Found o = MatchOption o (IsBoundTo (world_of start v) (history v) correct delta gst p)
          (IsBest (length p))

      abbrev Next : Option BoundBreak → Type 0
      Next o = MatchOption o
          (KeepsBound (world_of start v) (history v) correct delta gst counts k)
          (IsBreakAt start v correct delta gst (length p))

      abbrev Then : Option BoundBreak → Type 0
      Then o = MatchOption o (IsBoundTo (world_of start v) (history v) correct delta gst
          (Step k ∷ p)) (IsBest (length (Step k ∷ p)))

      best_step : (found next : Option BoundBreak) → Found found → Next next
          → Then (sooner found next)
      best_step None None kept keeps =
          (bound_step (world_of start v) (history v) correct delta gst k p counts plan nodes here
          stands tallied).0 (kept, keeps)
      best_step None (Some c) kept at =
          leads (length p) (length (Step k ∷ p)) c (omega arith) at
          (λ other h l. absurd (no_break (Step k) p stands kept other h l))
      best_step (Some b) None best keeps =
          widen (length p) (length (Step k ∷ p)) b (omega arith) best
          (no_break_at start v plan correct delta gst counts k (length p) counts_there there here
          keeps)
      best_step (Some b) (Some c) best at = pick (ltb c.received b.received) refl
        where
          pick : (x : Bool) → ltb c.received b.received ≡ x
              → Then (cond x (Some c) (Some b))
          pick true h =
              let less = ltb-true c.received b.received h in
              leads (length p) (length (Step k ∷ p)) c (omega arith) at
              (λ other g l. let low = best.first other g l in omega arith)
          pick false h =
              let more = ltb-false c.received b.received h in
              stays (length p) (length (Step k ∷ p)) b c (omega arith) best at (omega arith)

      pub sought_step : (found next : Option BoundBreak) → nodes_of (world_of start v) ≤ 16
          → Sought p counts found → Next next
          → Sought (Step k ∷ p) (set counts k (get_or counts k 0 + 1)) (sooner found next)
      sought_step found next few a more =
          let small = nodes k here in
          record {
            tallied = tally_step correct k p counts here (omega arith) tallied;
            best = best_step found next a.best more;
          }

  -- ---- the whole trace

  pub sought_all : (nodes : AreNodes v.setup.nodes correct) (p : List Event) (counts : List ℕ)
      (found : Option BoundBreak) → p ≡ history v → Sought p counts found
      → MatchOption found (IsDelayBound start v correct delta gst)
      (IsFirstBoundBreak start v correct delta gst)
  sought_all nodes p counts found whole a =
      by found (subst (λ z. MatchOption found
      (IsBoundTo (world_of start v) (history v) correct delta gst z) (IsBest (length z))) whole
      a.best)
    where
      long : length (history v) ≡ length v.trace
      long = length-reverse v.trace

      by : (o : Option BoundBreak)
          → MatchOption o (IsBoundTo (world_of start v) (history v) correct delta gst (history v))
          (IsBest (length (history v)))
          → MatchOption o (IsDelayBound start v correct delta gst)
          (IsFirstBoundBreak start v correct delta gst)
      by None kept = (bound_placed start v correct delta gst nodes).0 kept
      by (Some b) best = record {
        breaks = best.breaks;
        first = λ other h. best.first other h (inside other h);
        oldest = λ other h same. best.oldest other h (inside other h) same;
      }
        where
          inside : (other : BoundBreak) → IsBoundBreak start v correct delta gst other
              → other.sent < length (history v)
          inside other h =
              let inner = slice_get_within v.trace other.sent (Step other.name.from)
              h.sends.there.there in
              let same = long in
              omega arith
