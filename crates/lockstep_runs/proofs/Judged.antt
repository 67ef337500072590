-- A lockstep run keeps what a run is judged for.
use Rattle.std.proofs.Common.{◌≡◌, ℕ, ◌+◌, ◌^◌, ◌<◌, ◌≤◌, true, false, List, length, Option}
use Rattle.std.proofs.Common.{Some, None, sym, ap, subst, refl, ◌∙◌, arith, ◌⊎◌, inl, inr}
use Rattle.std.proofs.Common.{if◌then◌else◌}
use Rattle.std.specs.Prelude.{IfSome, is_some, nat_eq, reverse}
use Rattle.std.proofs.lemmas.Bool.{cases_lt, cases_order, le-ltb}
use Rattle.std.proofs.lemmas.Nat.Bits.{bit_at_above}
use Rattle.policies.specs.declared.bounded.Bounded.{Bounded}
use Rattle.round_lang.specs.Sets.{is_in}
use Rattle.round_lang.specs.Syntax.{ProgramTree}
use Rattle.round_lang.specs.declared.value.Value.{Value}
use Rattle.round_meaning.specs.Nodes.{has_node}
use Rattle.round_meaning.specs.declared.setup.Setup.{Setup}
use Rattle.slot_plans.specs.Plan.{PlanLaws}
use Rattle.step_book.specs.declared.mark.Mark.TheVariants.{Flying}
use Rattle.step_book.specs.Fates.{Fate, Unmade, Moving, Waiting, Taken, Lost, fate}
use Rattle.step_book.specs.History.{mark_of, marked, message}
use Rattle.step_book.specs.Log.{IsFaithful, Recorded, history, world_of}
use Rattle.step_book.specs.Trace.{steps}
use Rattle.step_book.specs.World.{IsPlan, World, nodes_of}
use Rattle.step_book.proofs.Kept.{mark_is}
use Rattle.step_book.proofs.Moments.{At, at_same, at_within, place_at, step_rises}
use Rattle.step_book.proofs.Placed.{IsLost, Placed, placed}
use Rattle.step_book.proofs.Reading.{nodes_are}
use Rattle.step_book.proofs.Starts.{plan_is}
use Rattle.run_events.specs.declared.event.Event.{Event}
use Rattle.run_events.specs.declared.event.Event.TheVariants.{Step, Release, Drop}
use Rattle.run_events.specs.declared.in_flight.InFlight.{InFlight}
use Rattle.run_events.specs.declared.name.Name.{Name}
use Rattle.run_events.specs.Names.{original}
use Rattle.omission_explainer.specs.Verdict.{AreNodes, IsDelayBound, IsLetInBetween, IsLockstep}
use Rattle.omission_explainer.proofs.Clear.{clear_hears}
use Rattle.omission_explainer.proofs.Delays.{came_between, let_in_moment, was_made}
use Rattle.omission_explainer.proofs.Keeping.{has_member}
use Rattle.omission_explainer.proofs.Moments.{StepAt, step_at, steps_up_to}
use Rattle.omission_explainer.proofs.Passes.{IsBoundTo, IsPacedTo, SpokenAt}
use Rattle.omission_explainer.proofs.Releases.{let_in_of, let_in_place}
use Rattle.omission_explainer.proofs.Verdicts.{bound_placed, lockstep_placed}
use Rattle.schedule_text.specs.declared.pace.Stop.{Stop}
use Rattle.lockstep_runs.specs.Changes.{SparesCorrect, due_by, own_delay, stop_of, stop_or}
use Rattle.lockstep_runs.specs.Changes.{timing_by}
use Rattle.lockstep_runs.specs.Timing.{Timing, steps_in}
use Rattle.lockstep_runs.specs.declared.changes.Changes.{Changes}
use Rattle.lockstep_runs.specs.Lockstep.{AllBefore, HearsFromClear, IsBefore, IsChangedRun}
use Rattle.lockstep_runs.specs.Lockstep.{IsTimedRun}
use Rattle.lockstep_runs.specs.Lockstep.{MayHappen, due_in, in_flight, key_of}
use Rattle.lockstep_runs.specs.Pacing.{Flight}
use Rattle.lockstep_runs.proofs.Keys.{before_parts, before_ticks, each_at}
use Rattle.lockstep_runs.proofs.Ticks.{IsTicked, ticked_last}

-- what is sent within the bound by correct nodes isn't omitted, and is due within it
pub record IsPrompt (b : Timing) (correct delta gst : ℕ) : Type 0 where
  pub kept : (n : Name) → has_node correct n.from ≡ true → has_node correct n.to ≡ true
      → b.omits n ≡ false
  pub due : (m : InFlight) → has_node correct m.name.from ≡ true → has_node correct m.name.to ≡ true
      → gst ≤ m.sent_at → b.due m ≤ m.sent_at + delta

module _ (w : World) (b : Timing) (correct ticks : ℕ) (t : List Event)
    (run : IsTimedRun w b ticks t) (unstopped : (i : ℕ) → has_node correct i ≡ true
    → b.stop i ≡ None) (members : (i : ℕ) → is_in correct i ≡ true → has_node correct i ≡ true)
    (inside : AreNodes (nodes_of w) correct) where
  taken : (i : ℕ) → is_in correct i ≡ true → steps i t ≡ ticks
  taken i h = run.steps i (inside i h) ∙ ap (steps_in ticks) (unstopped i (members i h))

  -- a later event has the greater key
  key_rises : (m : List Event) (e : Event) (u : List Event) (d : Event) → At m e u → At u d t
      → IsBefore (key_of w b e m) (key_of w b d u)
  key_rises m e u d s r =
      each_at (λ f past. IsBefore (key_of w b f past) (key_of w b d u)) m e u
      (each_at (λ f past. AllBefore w b (key_of w b f past) past) u d t run.rising r) s

  -- ---- lockstep

  -- if a node has taken fewer steps than another, the next one stands nowhere
  behind : (i j : ℕ) (m : List Event) → At m (Step i) t → steps j m < steps i m
      → (a : StepAt j (steps j m) t) → (length m ≡ length a.moment)
      ⊎ ((length m < length a.moment) ⊎ (length a.moment < length m)) → ⊥
  behind i j m s l a (inl same) =
      let one = at_same a.moment (Step j) m (Step i) t a.stands s same in
      let step : Step i ≡ Step j = one.1 in
      let node : i ≡ j = cc in
      let count : steps i m ≡ steps j m = ap (λ k. steps k m) node in
      omega arith
  behind i j m s l a (inr (inl before)) =
      let number = a.number in
      let up : steps i m ≤ steps j a.moment =
      before_ticks _ _
      (key_rises m (Step i) a.moment (Step j)
      (at_within a.moment (Step j) m (Step i) t a.stands s before) a.stands) in
      omega arith
  behind i j m s l a (inr (inr past)) =
      let number = a.number in
      let rise =
      step_rises j a.moment m (at_within m (Step i) a.moment (Step j) t s a.stands past) in
      omega arith

  pub run_paced : IsPacedTo correct t
  run_paced i j m x y s = by (cases_lt (steps j m) (steps i m))
    where
      by : (steps j m < steps i m) ⊎ (steps i m ≤ steps j m) → steps i m ≤ steps j m
      by (inl l) =
          let all = taken i x in
          let own = taken j y in
          let rise = step_rises i m t s in
          let a = step_at j (steps j m) t (omega arith) in
          absurd (behind i j m s l a (cases_order _ _))
      by (inr l) = l

  -- ---- the bound on the delay

  -- nothing is lost
  not_lost : (n : Name) → fate w t n ≡ Lost → ⊥
  not_lost n e =
      let p : IsLost w (reverse t) n =
      subst (λ (f : Fate). Placed w (reverse t) n f) e (placed w t n) in
      let found = place_at (Drop n) t p.b p.drop in
      each_at (MayHappen w b ticks) found.0 (Drop n) t run.events found.1

  -- a message that was sent at the moment a, and a receive at the moment c that comes after its
  -- delay
  module _ (delta gst : ℕ) (prompt : IsPrompt b correct delta gst) (n : Name) (a c : List Event)
      (plan : IsPlan w) (x : is_in correct n.from ≡ true) (y : is_in correct n.to ≡ true)
      (from : At a (Step n.from) t) (spoken : SpokenAt w t n a) (late : gst ≤ steps n.from a)
      (to : At c (Step n.to) t) (due : steps n.from a + delta ≤ steps n.to c) where
    due_then : (past : List Event) → due_in w b past (original n) ≤ steps n.to c
    due_then past =
        let slot = spoken.slot in
        let soon : due_in w b past (original n) ≤ (w.start n.round + n.to) + delta =
        prompt.due (in_flight w past (original n)) (members n.from x) (members n.to y)
        (omega arith) in
        omega arith

    not_omitted : {A : Type 0} → (b.omits (original n) ≡ true) ⊎ A → A
    not_omitted (inl h) =
        let kept = prompt.kept (original n) (members n.from x) (members n.to y) in
        let both : true ≡ false = sym h ∙ kept in absurd cc
    not_omitted (inr h) = h

    landed : (m : Option (List Value)) → is_some m ≡ true → message w t n ≡ m
        → fate w t (original n) ≡ Moving → ⊥
    landed None s e f = cc
    landed (Some m) s e f =
        let flies : mark_of w t (original n) ≡ Flying = mark_is w t (original n)
        ∙ ap (λ z. marked w 0 z (fate w t (original n))) e ∙ ap (marked w 0 (Some m)) f in
        let above : ticks ≤ due_in w b t (original n) =
        not_omitted (run.released (original n) (record {
          original = record {
            named = record {
              from = inside n.from x;
              to = inside n.to y;
              first =
                  spoken.first;
              last = spoken.last;
              copy = omega arith;
            };
            first = refl;
          };
          flies = flies;
        })) in
        let by = due_then t in
        let rise = step_rises n.to c t to in
        let all = taken n.to y in
        omega arith

    -- its release comes before the receive
    in_time : (r : List Event) → At r (Release (original n)) t → (length r ≡ length c)
        ⊎ ((length r < length c) ⊎ (length c < length r)) → steps n.to r ≤ steps n.to c
    in_time r s (inl same) = let one = at_same c (Step n.to) r (Release (original n)) t to s same in
        let clash : Release (original n) ≡ Step n.to = one.1 in absurd cc
    in_time r s (inr (inl before)) = steps_up_to n.to (Release (original n)) r c
        (at_within c (Step n.to) r (Release (original n)) t to s before)
    in_time r s (inr (inr past)) =
        let up : steps n.to c < due_in w b r (original n) =
        before_parts _ _ (omega arith)
        (key_rises c (Step n.to) r (Release (original n))
        (at_within r (Release (original n)) c (Step n.to) t s to past) s) in
        let by = due_then r in
        absurd (omega arith)

    came : (k : ℕ) → let_in_of (fate w t (original n)) ≡ Some k
        → IsLetInBetween w (reverse t) n (length a) (length c)
    came k e =
        let found = let_in_place w t (original n) k e in
        let at = let_in_moment w t (original n) found.0 found.1 in
        let number = found.2 in
        let count = at.count in
        let low = in_time at.moment at.there (cases_order _ _) in
        came_between w t a n plan (inside n.to y) spoken.first spoken.last spoken.slot from c 0 k
        (omega arith) to e (omega arith)

    by_fate : (f : Fate) → fate w t (original n) ≡ f
        → IsLetInBetween w (reverse t) n (length a) (length c)
    by_fate Unmade e =
        absurd (was_made w t a n plan (inside n.to y) spoken.first spoken.last spoken.slot from e)
    by_fate Moving e = absurd (landed (message w t n) spoken.spoken refl e)
    by_fate (Waiting k) e = came k (ap let_in_of e)
    by_fate (Taken k d) e = came k (ap let_in_of e)
    by_fate Lost e = absurd (not_lost (original n) e)

  pub run_bound : (delta gst : ℕ) → IsPrompt b correct delta gst → IsPlan w
      → IsBoundTo w t correct delta gst t
  run_bound delta gst prompt plan n a c x y from spoken late to receive due later =
      by_fate delta gst prompt n a c plan x y from spoken late to due (fate w t (original n)) refl

-- ---- a set of nodes in 64 bits

below_by : (members i : ℕ) → members < 2 ^ 64 → is_in members i ≡ true → (i < 64) ⊎ (64 ≤ i)
    → i < 64
unfolding is_in
below_by members i few h (inl low) = low
below_by members i few h (inr high) =
    let off : nat_eq 0 1 ≡ true =
    ap (λ x. nat_eq x 1) (sym (bit_at_above members 64 i few high)) ∙ h in
    cc

pub below_64 : (members : ℕ) → members < 2 ^ 64 → AreNodes 64 members
below_64 members few i h = below_by members i few h (cases_lt i 64)

-- ---- what changes do to the messages between correct nodes

prompt_by : (b : Bounded) (own : Option ℕ) (m : InFlight) → 1 ≤ b.delta
    → IfSome own (λ delay. delay ≤ b.delta) → b.gst ≤ m.sent_at
    → due_by b own m ≤ m.sent_at + b.delta
prompt_by b None m some h l = let late = le-ltb m.sent_at b.gst l in rw late (omega arith)
prompt_by b (Some delay) m some h l = omega arith

spared : (b : Bounded) (c : Changes) (correct : ℕ) → 1 ≤ b.delta → SparesCorrect correct b.delta c
    → IsPrompt (timing_by b c correct) correct b.delta b.gst
spared b c correct some h = record {
  kept = λ n x y. h.kept n.to n.round n.from y x;
  due = λ m x y l. prompt_by b (own_delay c.delays.items m.name) m some (h.prompt m.name x y) l;
}

unstopped_by : (stops : List Stop) (correct i : ℕ) → has_node correct i ≡ true
    → stop_of stops correct i ≡ None
unstopped_by stops correct i h = ap (λ z. if z then None else Some (stop_or 0 stops i)) h

-- ---- the journal of a lockstep run

-- what `judge` says of it
pub record IsJudged {P : Type 0} (start receives : P → ℕ → ℕ) (b : Bounded) (c : Changes)
    (correct : ℕ) (j : Recorded P) : Type 0 where
  pub lockstep : IsLockstep j.log.trace correct
  pub bound : SparesCorrect correct b.delta c
      → IsDelayBound (start j.plan) j.log correct b.delta b.gst
  pub hears : SparesCorrect correct b.delta c
      → HearsFromClear (receives j.plan) (start j.plan) j.log correct b.delta b.gst

-- it holds where the nodes and the steps are those of the plan
pub judged : {P : Type 0} (start receives : P → ℕ → ℕ) (nodes : P → ℕ) (b : Bounded) (c : Changes)
    (correct ticks : ℕ) (j : Recorded P) → 1 ≤ b.delta
    → PlanLaws (nodes j.plan) (receives j.plan) (start j.plan) → nodes j.plan ≡ j.log.setup.nodes
    → IsFaithful (start j.plan) j.log → AreNodes 64 correct
    → ((i : ℕ) → has_node correct i ≡ true → i < j.log.setup.nodes)
    → IsChangedRun (world_of (start j.plan) j.log) b c correct ticks (history j.log)
    → IsJudged start receives b c correct j
judged start receives nodes b c correct ticks j some laws sized faithful few within run = record {
  lockstep = (lockstep_placed j.log.trace correct).0 paced;
  bound = λ h. (bound_placed (start j.plan) j.log correct b.delta b.gst are_nodes).0 (bound h);
  hears = λ h clear is. clear_hears (start j.plan) (receives j.plan) (nodes j.plan) j.log correct
      b.delta b.gst clear laws sized faithful are_nodes paced (bound h) is;
}
  where
    members : (i : ℕ) → is_in correct i ≡ true → has_node correct i ≡ true
    members = λ i h. has_member correct i (few i h) h

    are_nodes : AreNodes j.log.setup.nodes correct
    are_nodes = λ i h. within i (members i h)

    in_world : AreNodes (nodes_of (world_of (start j.plan) j.log)) correct
    in_world =
        λ i h. (let same = nodes_are (start j.plan) j.log in let low = are_nodes i h in omega arith)

    paced : IsPacedTo correct (history j.log)
    paced = run_paced (world_of (start j.plan) j.log) (timing_by b c correct) correct ticks
        (history j.log) run (unstopped_by c.stops.items correct) members in_world

    bound : SparesCorrect correct b.delta c
        → IsBoundTo (world_of (start j.plan) j.log) (history j.log) correct b.delta b.gst
        (history j.log)
    bound h = run_bound (world_of (start j.plan) j.log) (timing_by b c correct) correct ticks
        (history j.log) run (unstopped_by c.stops.items correct) members in_world b.delta b.gst
        (spared b c correct some h)
        (plan_is (start j.plan) (receives j.plan) (nodes j.plan) j.log laws sized)

-- a run whose ticks are over
pub run_judged : {P : Type 0} (start receives : P → ℕ → ℕ) (nodes : P → ℕ) (p : ProgramTree)
    (s : Setup) (plan : P) (b : Bounded) (c : Changes) (correct now : ℕ) (j k : Recorded P)
    (f : Flight) → 1 ≤ b.delta → PlanLaws (nodes j.plan) (receives j.plan) (start j.plan) → j ≡ k
    → nodes j.plan ≡ j.log.setup.nodes → IsFaithful (start j.plan) j.log → AreNodes 64 correct
    → ((i : ℕ) → has_node correct i ≡ true → i < s.nodes)
    → IsTicked start p s plan (timing_by b c correct) now k f
    → IsJudged start receives b c correct j
run_judged start receives nodes p s plan b c correct now j k f some laws same sized faithful few
    within ticked =
    let all = subst (λ (z : Recorded _). IsTicked start p s plan (timing_by b c correct) now z f)
    (sym same) ticked in
    let setup = ap (λ (z : Setup). z.nodes) all.setup in
    judged start receives nodes b c correct now j some laws sized faithful few
    (λ i h. (let l = within i h in omega arith))
    (ticked_last start p s plan (timing_by b c correct) now j f all)
