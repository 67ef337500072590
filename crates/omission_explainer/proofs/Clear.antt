-- Where correct nodes step in lockstep and the bound on the delay holds, no closed round from the
-- clear round on omits a message between them.
use Rattle.std.proofs.Common.{◌≡◌, ℕ, zero, suc, ◌+◌, ◌-◌, ◌<◌, ◌≤◌, Bool, true, false, not, ◌&&◌}
use Rattle.std.proofs.Common.{List, [], ◌∷◌, length, Option, None, Some, sym, subst, refl, ap, ◌∙◌}
use Rattle.std.proofs.Common.{arith}
use Rattle.std.specs.Prelude.{IfSome, is_some, nat_lt, reverse}
use Rattle.std.proofs.lemmas.Bool.{and_right, lt-ltb}
use Rattle.round_lang.specs.Sets.{is_in}
use Rattle.round_lang.specs.declared.value.Value.{Value}
use Rattle.slot_plans.specs.Plan.{IsClearRound, PlanLaws}
use Rattle.run_events.specs.declared.event.Event.{Event}
use Rattle.run_events.specs.declared.event.Event.TheVariants.{Step, Release}
use Rattle.step_book.specs.Fates.{carried, fate}
use Rattle.step_book.specs.History.{message}
use Rattle.step_book.specs.Log.{Log, IsFaithful, history, round_of, world_of}
use Rattle.step_book.specs.Trace.{steps}
use Rattle.step_book.specs.Work.{sent_name}
use Rattle.step_book.specs.World.{World, IsPlan, is_receive, lies_near, nodes_of}
use Rattle.step_book.proofs.Fates.{carried_is, copy_to, let_near, some_of}
use Rattle.step_book.proofs.Moments.{At, Newest, Older, at_longer, at_within, step_rises}
use Rattle.step_book.proofs.Plans.{last_is_receive, lies_within, start_le, starts_early}
use Rattle.step_book.proofs.Reading.{nodes_are}
use Rattle.step_book.proofs.Starts.{plan_is}
use Rattle.omission_explainer.specs.Printed.{prints_omitted}
use Rattle.omission_explainer.specs.Reported.{carried_in, sends_in, stands_in}
use Rattle.omission_explainer.specs.Verdict.{AreNodes, HearsFrom, IsLetInBetween}
use Rattle.omission_explainer.proofs.Delays.{let_in_moment}
use Rattle.omission_explainer.proofs.Releases.{let_in_found, let_in_of, near_by}
use Rattle.omission_explainer.proofs.Moments.{StepAt, step_at, steps_up_to}
use Rattle.round_lang.proofs.SetLaws.{is_in-set_of}
use Rattle.omission_explainer.proofs.Passes.{IsBoundTo, IsPacedTo}

-- an event of a moment is an event of its history
at_through : (a : List Event) (e : Event) (c : List Event) (f : Event) (t : List Event) → At a e c
    → At c f t → At a e t
at_through a e c f [] h k = elim k [ ]
at_through a e c f (x ∷ t) h Newest = Older x t h
at_through a e c f (x ∷ t) h (Older x' t' k) = Older x t (at_through a e c f t h k)

-- a message that was carried is heard, and a slot without one is silent
heard_or_silent : (c st : Bool) (m : Option (List Value)) → st ≡ true
    → (is_some m ≡ true → c ≡ true) → (not (c && is_some m) && not (st && not (is_some m))) ≡ false
heard_or_silent c st None e h = ap (λ b. not (c && false) && not (b && true)) e
    ∙ and_right (not (c && false)) false refl
heard_or_silent c st (Some m) e h = ap (λ b. not (b && true) && not (st && false)) (h refl)

module _ (w : World) (t : List Event) (correct delta gst : ℕ) (plan : IsPlan w)
    (within : AreNodes (nodes_of w) correct) (paced : IsPacedTo correct t)
    (bound : IsBoundTo w t correct delta gst t) (i j r : ℕ) (here : is_in correct i ≡ true)
    (there : is_in correct j ≡ true) (first : 0 < r) (last : r ≤ w.rounds)
    (stable : gst ≤ w.start r) (lasts : w.start r + nodes_of w + delta ≤ w.start (r + 1))
    (past : w.start (r + 1) ≤ steps i t) where
  -- the last step of i's round
  last_step : StepAt i (w.start (r + 1) - 1) t
  last_step = let long = plan.next r first in step_at i (w.start (r + 1) - 1) t (omega arith)

  -- the sender came past its slot before it
  slot_before : StepAt j (w.start r + i) last_step.moment
  slot_before =
      let long = plan.next r first in
      let few = within i here in
      let n = last_step.number in
      let pace = paced i j last_step.moment here there last_step.stands in
      step_at j (w.start r + i) last_step.moment (omega (arith, long, few, n, pace))

  slot_stands : At slot_before.moment (Step j) t
  slot_stands = at_through slot_before.moment (Step j) last_step.moment
      (Step i) t slot_before.stands last_step.stands

  slot_taken : nat_lt (w.start r + i) (steps j t) ≡ true
  slot_taken = let n = slot_before.number in
      let rise = step_rises j slot_before.moment t slot_stands in lt-ltb _ _ (omega arith)

  let_in_before : is_some (message w t (sent_name j i r)) ≡ true
      → IsLetInBetween w (reverse t) (sent_name j i r) (length slot_before.moment)
      (length last_step.moment)
  let_in_before spoken =
      let long = plan.next r first in
      let few = within i here in
      let n = last_step.number in
      let m = slot_before.number in
      let receive = last_is_receive w plan r (w.start (r + 1) - 1) first last
      (omega (arith, long)) in
      bound (sent_name j i r) slot_before.moment last_step.moment there here slot_stands
      (record { first = first; last = last; copy = refl; slot = m; spoken = spoken })
      (omega (arith, m)) last_step.stands
      (subst (λ x. is_receive w x ≡ true) (sym n) receive) (omega (arith, m, n, long, few, lasts))
      (at_longer slot_before.moment (Step j) last_step.moment slot_before.stands)

  -- a copy was let in while i was in its round
  is_carried : is_some (message w t (sent_name j i r)) ≡ true → carried w t i r j ≡ true
  is_carried spoken =
      let between = let_in_before spoken in
      let at = let_in_moment w t (copy_to j i r between.copy) between.place between.let_in in
      let place = at.place in
      let after = between.after in
      let before = between.before in
      let low = steps_up_to i (Step j) slot_before.moment at.moment
      (at_within at.moment (Release (copy_to j i r between.copy)) slot_before.moment
      (Step j) t at.there slot_stands (omega arith)) in
      let high = steps_up_to i (Release (copy_to j i r between.copy)) at.moment last_step.moment
      (at_within last_step.moment (Step i) at.moment
      (Release (copy_to j i r between.copy)) t last_step.stands at.there (omega arith)) in
      let pace = paced j i slot_before.moment there here slot_stands in
      let m = slot_before.number in
      let n = last_step.number in
      let long = plan.next r first in
      let early = starts_early w plan r r first (omega arith) in
      let near : lies_near w r (steps i at.moment) ≡ true =
      lies_within w r (steps i at.moment) (omega (arith, low, pace, m, early))
      (omega (arith, high, n, long)) in
      let found : let_in_of (fate w t (copy_to j i r between.copy)) ≡ Some (steps i at.moment) =
      let_in_found w t (copy_to j i r between.copy) between.place between.let_in
      ∙ ap Some at.count in
      carried_is w plan i r j t first last past
      ∙ some_of (λ k. let_near w r (fate w t (copy_to j i r k))) between.copy between.few
      (near_by w r (steps i at.moment) (fate w t (copy_to j i r between.copy)) found ∙ near)

  pub not_omitted : prints_omitted (carried w t i r) (λ k. is_some (message w t (sent_name k i r)))
      (λ k. nat_lt (w.start r + i) (steps k t)) j ≡ false
  not_omitted = heard_or_silent (carried w t i r j) (nat_lt (w.start r + i) (steps j t))
      (message w t (sent_name j i r)) slot_taken is_carried

-- receives never fall
receives_rise_to : (receives : ℕ → ℕ) (d r : ℕ) → 1 ≤ r
    → ((k : ℕ) → 1 ≤ k → receives k ≤ receives (k + 1)) → receives r ≤ receives (r + d)
receives_rise_to receives zero r first rise = let e : r + 0 ≡ r = omega arith in
    omega (arith, ap receives e)
receives_rise_to receives (suc d) r first rise =
    let e : r + suc d ≡ (r + d) + 1 = omega arith in
    let step = rise (r + d) (omega arith) in
    omega (arith, ap receives e, step, receives_rise_to receives d r first rise)

-- from a round on that starts at gst or later, and whose rounds last for the delay
pub hears_from : (start receives : ℕ → ℕ) (nodes : ℕ) (v : Log) (correct delta gst r0 : ℕ)
    → PlanLaws nodes receives start → nodes ≡ v.setup.nodes → IsFaithful start v
    → AreNodes v.setup.nodes correct → IsPacedTo correct (history v)
    → IsBoundTo (world_of start v) (history v) correct delta gst (history v) → 1 ≤ r0
    → gst ≤ start r0 → delta ≤ receives r0 → HearsFrom start v correct r0
hears_from start receives nodes v correct delta gst r0 laws sized faithful within paced bound first
    stable lasts r i j from closed here there =
    let w = world_of start v in
    let plan = plan_is start receives nodes v laws sized in
    let n = nodes_are start v in
    let node = within i here in
    let most = faithful.bounded i node in
    let past = faithful.past i node in
    let rises = receives_rise_to receives (r - r0) r0 first laws.receives_rise in
    let again : r0 + (r - r0) ≡ r = omega arith in
    let next = laws.next_start r (omega arith) in
    let up = start_le w plan r0 r (omega arith) from in
    let over = start_le w plan (r + 1) (round_of v i) (omega arith) (omega arith) in
    let same = ap receives again in
    let nodes_in : AreNodes (nodes_of w) correct = λ k h. (let l = within k h in omega arith) in
    let out = not_omitted w (history v) correct delta gst plan nodes_in paced bound i j r here there
    (omega arith) (omega (arith, most, closed)) (omega (arith, stable, up))
    (omega (arith, next, rises, same, lasts, n, sized)) (omega (arith, past, over)) in
    is_in-set_of v.setup.nodes
    (prints_omitted (carried_in start v r i) (sends_in start v r i) (stands_in start v r i)) j
    ∙ and_right (nat_lt j v.setup.nodes) _ out

-- from the clear round on, if there is one
pub clear_hears : (start receives : ℕ → ℕ) (nodes : ℕ) (v : Log) (correct delta gst : ℕ)
    (clear : Option ℕ) → PlanLaws nodes receives start → nodes ≡ v.setup.nodes → IsFaithful start v
    → AreNodes v.setup.nodes correct → IsPacedTo correct (history v)
    → IsBoundTo (world_of start v) (history v) correct delta gst (history v)
    → IsClearRound receives start delta gst clear → IfSome clear (HearsFrom start v correct)
clear_hears start receives nodes v correct delta gst None laws sized faithful within paced bound
    is = tt
clear_hears start receives nodes v correct delta gst
    (Some r) laws sized faithful within paced bound is =
    let round = is.0 in
    hears_from start receives nodes v correct delta gst r laws sized faithful within paced bound
    round.0 is.1.stable is.1.lasts
