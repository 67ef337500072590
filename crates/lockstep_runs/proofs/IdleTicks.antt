-- Idle steps behind a run in lockstep.
use Rattle.std.proofs.Common.{◌≡◌, ℕ, zero, suc, ◌+◌, ◌-◌, ◌%◌, ◌<◌, ◌≤◌, Bool, true, false, []}
use Rattle.std.proofs.Common.{◌∷◌, ◌++◌, List, Option, Some, None, sym, ap, subst, refl, ◌∙◌, arith}
use Rattle.std.proofs.Common.{◌⊎◌, inl, inr, get_or, set, if◌then◌else◌}
use Rattle.std.specs.BTreeMap as tree
use Rattle.std.specs.Prelude.{IfSome}
use Rattle.std.proofs.lemmas.Bool.{cases_eq, lt-ltb, ltb-true, ne_eqb}
use Rattle.std.proofs.lemmas.List.{append_assoc, append-nil}
use Rattle.std.proofs.lemmas.Nat.{mod_below}
use Rattle.policies.specs.declared.bounded.Bounded.{Bounded}
use Rattle.round_lang.specs.Syntax.{ProgramTree}
use Rattle.round_meaning.specs.Nodes.{has_node}
use Rattle.round_meaning.specs.declared.setup.Setup.{Setup}
use Rattle.slot_plans.specs.Plan.{PlanLaws}
use Rattle.step_book.specs.Log.{HasBook, Log, Recorded, count_of, happened, history, round_of}
use Rattle.step_book.specs.Log.{world_of}
use Rattle.step_book.specs.Trace.{steps}
use Rattle.step_book.specs.World.{IsPlan, World}
use Rattle.step_book.proofs.Agreed.{agreed}
use Rattle.step_book.proofs.Events.{idle}
use Rattle.step_book.proofs.Keeps.{idle_no_slot}
use Rattle.step_book.proofs.Leaves.{happened_first}
use Rattle.step_book.proofs.Places.{steps_grow, steps_other}
use Rattle.step_book.proofs.Reading.{faithful, has_book, nodes_are}
use Rattle.run_events.specs.declared.event.Event.{Event}
use Rattle.run_events.specs.declared.event.Event.TheVariants.{Step}
use Rattle.run_events.specs.declared.name.Name.{Name}
use Rattle.adversary.specs.Driving.{ClosedAreDue, IsOneMore}
use Rattle.omission_explainer.specs.Verdict.{AreNodes}
use Rattle.lockstep_runs.specs.Changes.{timing_by}
use Rattle.lockstep_runs.specs.IdleTicks.{IsWholeRun, followed, goes_on, idle_steps, node_in_turn}
use Rattle.lockstep_runs.specs.IdleTicks.{turn_step, turn_steps}
use Rattle.lockstep_runs.specs.Lockstep.{IsOriginal, first_in}
use Rattle.lockstep_runs.specs.Pacing.{Flight, HoldsByTicks}
use Rattle.lockstep_runs.specs.Timing.{Timing}
use Rattle.lockstep_runs.specs.declared.changes.Changes.{Changes}
use Rattle.lockstep_runs.proofs.Judged.{judged}
use Rattle.lockstep_runs.proofs.Maps.{none_empty}
use Rattle.lockstep_runs.proofs.Paces.{on_record, step_quiet}
use Rattle.lockstep_runs.proofs.Ticks.{IsStepping, IsTicked, node_in, releasing_first}
use Rattle.lockstep_runs.proofs.Ticks.{stepping_count, stepping_first, stepping_last_paced}
use Rattle.lockstep_runs.proofs.Ticks.{stepping_last_taken}
use Rattle.lockstep_runs.proofs.Ticks.{stepping_next, stepping_past, ticked_last}

-- ---- one idle step

-- past the last round no step is a slot
no_slot : (w : World) (i : ℕ) (t : List Event) (n : Name) → IsPlan w
    → w.start (w.rounds + 1) ≤ steps i t → IsOriginal w n → steps i t ≡ w.start n.round + n.to → ⊥
no_slot w i t n p late o at =
    let first = o.named.first in
    let last = o.named.last in
    let q : n.round ≡ suc (n.round - 1) = omega arith in
    idle_no_slot w p (n.round - 1) n.to (steps i t) (omega arith) o.named.to late
    (at ∙ ap (λ r. w.start r + n.to) q)

module _ (start : ℕ → ℕ) (v : Log) (i : ℕ) (h : HasBook start v) (node : i < v.setup.nodes) where
  -- all rounds of the node are closed
  late : (tick : ℕ) → ClosedAreDue start v → count_of v i ≡ tick → start (v.setup.rounds + 1) ≤ tick
      → v.setup.rounds < round_of v i
  late tick closed count over =
      (closed i v.setup.rounds node h.book.lawful.sized.some_round (omega arith)).1
      (omega (arith, count, over))

  idle_book : v.setup.rounds < round_of v i → HasBook start (happened v (Step i))
  idle_book past = has_book (idle h.book i (v.trace ++ Step i ∷ [])
      (set h.counts i (get_or h.counts i 0 + 1)) node past refl refl)

  idle_closed : v.setup.rounds < round_of v i → ClosedAreDue start v
      → ClosedAreDue start (happened v (Step i))
  idle_closed past closed k r known first last = (
    (λ done. (
        let old = (closed k r known first last).0 done in
        let up = steps_grow k (Step i) (history v) in
        let now = ap (steps k) (happened_first v (Step i)) in
        omega arith)),
    back (cases_eq k i),
  )
    where
      back : (k ≡ i) ⊎ (k ≡ i → ⊥) → start (r + 1) ≤ count_of (happened v (Step i)) k
          → r < round_of v k
      back (inl same) due = let at = ap (round_of v) same in omega (arith, past, last, at)
      back (inr apart) due =
          let other = steps_other k (Step i) (history v) (ne_eqb i k (λ e. apart (sym e))) in
          let now = ap (steps k) (happened_first v (Step i)) in
          (closed k r known first last).1 (omega arith)

-- ---- one turn

-- the run with these events behind its own, by its plan
abbrev after : {P : Type 0} → Recorded P → List Event → Recorded P
after j events = record { plan = j.plan; log = followed j.log events }

nothing_after : {P : Type 0} (j : Recorded P) → after j [] ≡ j
nothing_after j = ap (λ t. record { plan = j.plan; log = record j.log { trace = t } })
    (append-nil j.log.trace)

twice_after : {P : Type 0} (j : Recorded P) (a b : List Event)
    → after (after j a) b ≡ after j (a ++ b)
twice_after j a b = ap (λ t. record { plan = j.plan; log = record j.log { trace = t } })
    (append_assoc j.log.trace a b)

going : (stop : Option ℕ) (tick : ℕ) → goes_on stop tick ≡ true → IfSome stop (λ s. tick < s)
going None tick e = tt
going (Some s) tick e = ltb-true tick s e

stopped : (stop : Option ℕ) (tick : ℕ) → goes_on stop tick ≡ false → IfSome stop (λ s. tick < s)
    → ⊥
stopped None tick e h = cc
stopped (Some s) tick e h = let on = lt-ltb tick s h in cc

-- a tick of idle steps so far, with nothing in flight
record IsIdling {P : Type 0} (start : P → ℕ → ℕ) (b : Timing) (tick : ℕ) (first j : Recorded P)
    (f : Flight) (turn : ℕ) : Type 0 where
  stepping : IsStepping start b tick first j f turn
  book : HasBook (start j.plan) j.log
  closed : ClosedAreDue (start j.plan) j.log

module _ {P : Type 0} (start : P → ℕ → ℕ) (b : Timing) (tick : ℕ) (first j : Recorded P)
    (f : Flight) (turn : ℕ) (some : 0 < j.log.setup.nodes) (before : turn < j.log.setup.nodes)
    (over : start j.plan (j.log.setup.rounds + 1) ≤ tick)
    (h : IsIdling start b tick first j f turn) where
  abbrev node : ℕ
  node = node_in_turn b j.log.setup.nodes tick turn

  inside : node < j.log.setup.nodes
  inside = mod_below (first_in b j.log.setup.nodes tick + turn) j.log.setup.nodes some

  node_is : node ≡ node_in start b tick j turn
  node_is = ap (λ m. (first_in b m tick + turn) % m) (sym (nodes_are (start j.plan) j.log))

  taken : goes_on (b.stop node) tick ≡ true
      → IsIdling start b tick first (after j (Step node ∷ [])) f (turn + 1)
  taken e =
      let goes = going (b.stop node) tick e in
      let count : count_of j.log node ≡ tick =
      stepping_count start b tick first j f turn node some before inside node_is h.stepping goes in
      let past = late (start j.plan) j.log node h.book inside tick h.closed count over in
      let more : IsOneMore j.log (happened j.log (Step node)) (Step node) =
      record { program = refl; setup = refl; trace = refl } in
      let w = world_of (start j.plan) j.log in
      let n = nodes_are (start j.plan) j.log in
      let flight = on_record start j (after j (Step node ∷ [])) (Step node)
      (λ w t. HoldsByTicks w b t f) refl more
      (step_quiet w h.stepping.paced.plan b node (history j.log) f (omega (arith, inside, n))
      (λ m o at. no_slot w node (history j.log) m h.stepping.paced.plan (omega (arith, over, count))
      o at) h.stepping.paced.flight) in
      record {
        stepping = stepping_next start b tick first j f turn node some before inside node_is
            h.stepping (after j (Step node ∷ [])) f goes refl more flight h.stepping.waits;
        book = idle_book (start j.plan) j.log node h.book inside past;
        closed = idle_closed (start j.plan) j.log node h.book inside past h.closed;
      }

  passed : goes_on (b.stop node) tick ≡ false → IsIdling start b tick first j f (turn + 1)
  passed e = record {
    stepping = stepping_past start b tick first j f turn node some before inside node_is h.stepping
        (stopped (b.stop node) tick e);
    book = h.book;
    closed = h.closed;
  }

  idle_turn : IsIdling start b tick first (after j (turn_step b j.log.setup.nodes tick turn)) f
      (turn + 1)
  idle_turn = by (goes_on (b.stop node) tick) refl
    where
      by : (go : Bool) → goes_on (b.stop node) tick ≡ go
          → IsIdling start b tick first (after j (if go then Step node ∷ [] else [])) f (turn + 1)
      by true e = taken e
      by false e = subst (λ (k : Recorded P). IsIdling start b tick first k f (turn + 1))
          (sym (nothing_after j)) (passed e)

-- ---- the turns of a tick

idle_turns : {P : Type 0} (start : P → ℕ → ℕ) (b : Timing) (tick : ℕ) (first j : Recorded P)
    (f : Flight) (turns : ℕ) → 0 < j.log.setup.nodes → turns ≤ j.log.setup.nodes
    → start j.plan (j.log.setup.rounds + 1) ≤ tick → IsIdling start b tick first j f 0
    → IsIdling start b tick first (after j (turn_steps b j.log.setup.nodes tick turns)) f turns
unfolding turn_steps
idle_turns {P} start b tick first j f zero some l over h =
    subst (λ (k : Recorded P). IsIdling start b tick first k f 0) (sym (nothing_after j)) h
idle_turns {P} start b tick first j f (suc turn) some l over h =
    let nodes = j.log.setup.nodes in
    let old = turn_steps b nodes tick turn in
    let new = turn_step b nodes tick turn in
    let before = idle_turns start b tick first j f turn some (omega arith) over h in
    let next : turn + 1 ≡ suc turn = omega arith in
    subst (IsIdling start b tick first (after j (old ++ new)) f) next
    (subst (λ (k : Recorded P). IsIdling start b tick first k f (turn + 1)) (twice_after j old new)
    (idle_turn start b tick first (after j old) f turn some (omega arith) over before))

-- ---- the ticks

-- after so many ticks, with nothing in flight
pub record IsQuiet {P : Type 0} (start : P → ℕ → ℕ) (p : ProgramTree) (s : Setup) (plan : P)
    (b : Timing) (now : ℕ) (j : Recorded P) (f : Flight) : Type 0 where
  pub ticked : IsTicked start p s plan b now j f
  pub book : HasBook (start j.plan) j.log
  pub closed : ClosedAreDue (start j.plan) j.log

idle_tick : {P : Type 0} (start : P → ℕ → ℕ) (p : ProgramTree) (s : Setup) (plan : P) (b : Timing)
    (now : ℕ) (j : Recorded P) (f : Flight) → tree.btree_map_len f ≡ 0 → 0 < j.log.setup.nodes
    → start j.plan (j.log.setup.rounds + 1) ≤ now → IsQuiet start p s plan b now j f
    → IsQuiet start p s plan b (now + 1)
    (after j (turn_steps b j.log.setup.nodes now j.log.setup.nodes)) f
idle_tick start p s plan b now j f none some over h =
    let nodes = j.log.setup.nodes in
    let waits = none_empty f (now + 1) none in
    let begun = stepping_first start b now j j f f some
    (releasing_first start b now j f h.ticked.paced h.ticked.waits h.ticked.taken) waits refl in
    let k = after j (turn_steps b nodes now nodes) in
    let all = idle_turns start b now j j f nodes some (omega arith) over
    (record { stepping = begun; book = h.book; closed = h.closed }) in
    record {
      ticked = record {
        program = h.ticked.program;
        setup = h.ticked.setup;
        planned = h.ticked.planned;
        paced = stepping_last_paced start b now j k f nodes all.stepping;
        waits = waits;
        taken = stepping_last_taken start b now j k f nodes some refl all.stepping;
      };
      book = all.book;
      closed = all.closed;
    }

-- so many ticks more
idle_ticks : {P : Type 0} (start : P → ℕ → ℕ) (p : ProgramTree) (s : Setup) (plan : P) (b : Timing)
    (now count : ℕ) (j : Recorded P) (f : Flight) → tree.btree_map_len f ≡ 0
    → 0 < j.log.setup.nodes → start j.plan (j.log.setup.rounds + 1) ≤ now
    → IsQuiet start p s plan b now j f
    → IsQuiet start p s plan b (now + count)
    (after j (idle_steps b j.log.setup.nodes now count)) f
unfolding idle_steps
idle_ticks {P} start p s plan b now zero j f none some over h =
    subst (λ n. IsQuiet start p s plan b n (after j []) f) (omega arith)
    (subst (λ (k : Recorded P). IsQuiet start p s plan b now k f) (sym (nothing_after j)) h)
idle_ticks {P} start p s plan b now (suc count) j f none some over h =
    let nodes = j.log.setup.nodes in
    let old = idle_steps b nodes now count in
    let new = turn_steps b nodes (now + count) nodes in
    let before = idle_ticks start p s plan b now count j f none some over h in
    let next : now + count + 1 ≡ now + suc count = omega arith in
    subst (λ n. IsQuiet start p s plan b n (after j (old ++ new)) f) next
    (subst (λ (k : Recorded P). IsQuiet start p s plan b (now + count + 1) k f)
    (twice_after j old new)
    (idle_tick start p s plan b (now + count) (after j old) f none some (omega (arith, over))
    before))

-- ---- the whole run

module _ {P : Type 0} (start receives : P → ℕ → ℕ) (nodes : P → ℕ) (p : ProgramTree) (s : Setup)
    (plan : P) (b : Bounded) (c : Changes) (correct : ℕ) where
  whole_of : (ticks : ℕ) (j : Recorded P) (f : Flight) → 1 ≤ b.delta
      → PlanLaws (nodes j.plan) (receives j.plan) (start j.plan)
      → nodes j.plan ≡ j.log.setup.nodes → AreNodes 64 correct
      → ((i : ℕ) → has_node correct i ≡ true → i < s.nodes)
      → IsQuiet start p s plan (timing_by b c correct) ticks j f
      → IsWholeRun (start j.plan) (receives j.plan) b c correct ticks j.log
  whole_of ticks j f some laws sized few within h =
      let run = ticked_last start p s plan (timing_by b c correct) ticks j f h.ticked in
      let setup = ap (λ (z : Setup). z.nodes) h.ticked.setup in
      let told = judged start receives nodes b c correct ticks j some laws sized
      (faithful h.book.book) few (λ i m. (let l = within i m in omega arith)) run in
      record {
        agrees = agreed h.book.book;
        closed = h.closed;
        run = run;
        paced = told.lockstep;
        bound = told.bound;
        hears = told.hears;
      }

  -- what is kept of it, when its ticks are over or nothing happens any more
  pub whole_run : (now ticks : ℕ) (j : Recorded P) (f : Flight) → 1 ≤ b.delta
      → PlanLaws (nodes j.plan) (receives j.plan) (start j.plan)
      → nodes j.plan ≡ j.log.setup.nodes → AreNodes 64 correct
      → ((i : ℕ) → has_node correct i ≡ true → i < s.nodes) → now ≤ ticks
      → (ticks ≤ now) ⊎ ((start j.plan (j.log.setup.rounds + 1) ≤ now)
      × (tree.btree_map_len f ≡ 0))
      → IsQuiet start p s plan (timing_by b c correct) now j f
      → IsWholeRun (start j.plan) (receives j.plan) b c correct ticks
      (followed j.log (idle_steps (timing_by b c correct) j.log.setup.nodes now (ticks - now)))
  unfolding idle_steps
  whole_run now ticks j f some laws sized few within l (inl all) h =
      let none : ticks - now ≡ zero = omega arith in
      let same : now ≡ ticks = omega arith in
      subst (λ n. IsWholeRun (start j.plan) (receives j.plan) b c correct ticks
      (followed j.log (idle_steps (timing_by b c correct) j.log.setup.nodes now n))) (sym none)
      (subst (λ (k : Recorded P). IsWholeRun (start j.plan) (receives j.plan) b c correct ticks
      k.log) (sym (nothing_after j))
      (whole_of ticks j f some laws sized few within
      (subst (λ n. IsQuiet start p s plan (timing_by b c correct) n j f) same h)))
  whole_run now ticks j f some laws sized few within l (inr quiet) h =
      let end : now + (ticks - now) ≡ ticks = omega arith in
      let idle = idle_steps (timing_by b c correct) j.log.setup.nodes now (ticks - now) in
      whole_of ticks (after j idle) f some laws sized few within
      (subst (λ n. IsQuiet start p s plan (timing_by b c correct) n (after j idle) f) end
      (idle_ticks start p s plan (timing_by b c correct) now (ticks - now) j f quiet.1
      h.book.book.lawful.sized.some_node quiet.0 h))
