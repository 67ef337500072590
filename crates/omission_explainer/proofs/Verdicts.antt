-- Lockstep and the delay bound by moments are those by places in the trace.
use Rattle.std.proofs.Common.{◌≡◌, ℕ, ◌↔◌, List, length, Some, sym, subst, ap, ◌∙◌, arith}
use Rattle.std.specs.Prelude.{reverse}
use Rattle.std.specs.List.{slice_get}
use Rattle.std.proofs.lemmas.List.{reverse-reverse}
use Rattle.run_events.specs.declared.event.Event.{Event}
use Rattle.run_events.specs.declared.event.Event.TheVariants.{Step}
use Rattle.step_book.specs.Log.{Log, history, world_of}
use Rattle.step_book.specs.Places.{steps_before}
use Rattle.step_book.specs.Trace.{steps}
use Rattle.step_book.specs.World.{is_receive}
use Rattle.step_book.proofs.Moments.{At, at_place, at_steps, place_at}
use Rattle.omission_explainer.specs.Verdict.{AreNodes, IsDelayBound, IsLetInBetween, IsLockstep}
use Rattle.omission_explainer.specs.Verdict.{IsSentAt}
use Rattle.omission_explainer.proofs.Passes.{IsBoundTo, IsPacedTo, SpokenAt}

-- the moment of a place
pub record MomentOf (xs : List Event) (e : Event) (p : ℕ) : Type 0 where
  pub moment : List Event
  pub there : At moment e (reverse xs)
  pub place : length moment ≡ p

module _ (xs : List Event) where
  moment_of : (e : Event) (p : ℕ) → slice_get xs p ≡ Some e → MomentOf xs e p
  moment_of e p h =
      let found = place_at e (reverse xs) p (ap (λ z. slice_get z p) (reverse-reverse xs) ∙ h) in
      record { moment = found.0; there = found.1; place = found.2 }

  place_of : (e : Event) (m : List Event) → At m e (reverse xs) → slice_get xs (length m) ≡ Some e
  place_of e m h = ap (λ z. slice_get z (length m)) (sym (reverse-reverse xs))
      ∙ at_place m e (reverse xs) h

  steps_of : (i : ℕ) (e : Event) (m : List Event) → At m e (reverse xs)
      → steps_before xs i (length m) ≡ steps i m
  steps_of i e m h = ap (λ z. steps_before z i (length m)) (sym (reverse-reverse xs))
      ∙ at_steps i m e (reverse xs) h

  steps_there : (i p : ℕ) (e : Event) (a : MomentOf xs e p) → steps i a.moment ≡ steps_before xs i p
  steps_there i p e a = sym (steps_of i e a.moment a.there) ∙ ap (steps_before xs i) a.place

  pub lockstep_placed : (correct : ℕ) → IsPacedTo correct (reverse xs) ↔ IsLockstep xs correct
  lockstep_placed correct = (
    λ h i j c p x y s. (
        let a = moment_of (Step i) p s.there in
        let own = steps_there i p (Step i) a in
        let other = steps_there j p (Step i) a in
        let number = s.number in
        let l = h i j a.moment x y a.there in
        omega arith),
    λ h i j m x y s. (
        let l = h i j (steps i m) (length m) x y
        (record { there = place_of (Step i) m s; number = steps_of i (Step i) m s }) in
        let other = steps_of j (Step i) m s in
        omega arith),
  )

module _ (start : ℕ → ℕ) (v : Log) (correct delta gst : ℕ)
    (within : AreNodes v.setup.nodes correct) where
  own_list : reverse (history v) ≡ v.trace
  own_list = reverse-reverse v.trace

  placed : IsBoundTo (world_of start v) (history v) correct delta gst (history v)
      → IsDelayBound start v correct delta gst
  placed h n s a received c x y sent late there receive due later =
      let w = world_of start v in
      let from = moment_of v.trace (Step n.from) a sent.there.there in
      let to = moment_of v.trace (Step n.to) c there.there in
      let sends : steps n.from from.moment ≡ s = steps_there v.trace n.from a (Step n.from) from
      ∙ sent.there.number in
      let takes : steps n.to to.moment ≡ received = steps_there v.trace n.to c (Step n.to) to
      ∙ there.number in
      let spoken : SpokenAt w (history v) n from.moment = record {
        first = sent.name.first;
        last = sent.name.last;
        copy = sent.copy;
        slot = sends ∙ sent.slot;
        spoken = sent.message;
      } in
      let one = from.place in
      let two = to.place in
      let r = h n from.moment to.moment x y from.there spoken (omega arith) to.there
      (ap (is_receive w) takes ∙ receive) (omega arith) (omega arith) in
      subst (λ z. IsLetInBetween w z n a c) own_list
      (subst (λ z. IsLetInBetween w (reverse (history v)) n z c) from.place
      (subst (λ z. IsLetInBetween w (reverse (history v)) n (length from.moment) z) to.place r))

  unplaced : IsDelayBound start v correct delta gst
      → IsBoundTo (world_of start v) (history v) correct delta gst (history v)
  unplaced h n a c x y from spoken late to receive due later =
      let w = world_of start v in
      let sent : IsSentAt start v n (steps n.from a) (length a) = record {
        name =
            let copy = spoken.copy in
            record {
              from = within n.from x;
              to = within n.to y;
              first = spoken.first;
              last = spoken.last;
              copy = omega arith;
            };
        copy = spoken.copy;
        slot = spoken.slot;
        there = record {
          there = place_of v.trace (Step n.from) a from;
          number = steps_of v.trace n.from (Step n.from) a from;
        };
        message = spoken.spoken;
      } in
      let r = h n (steps n.from a) (length a) (steps n.to c) (length c) x y sent late
      (record {
        there = place_of v.trace (Step n.to) c to;
        number = steps_of v.trace n.to (Step n.to) c to;
      }) receive due later in
      subst (λ z. IsLetInBetween w z n (length a) (length c)) (sym own_list) r

  pub bound_placed : IsBoundTo (world_of start v) (history v) correct delta gst (history v)
      ↔ IsDelayBound start v correct delta gst
  bound_placed = (placed, unplaced)
