-- The text of idle ticks, line by line.
use Rattle.std.proofs.Common.{◌≡◌, ◌∙◌, ◌+◌, ◌-◌, ◌≤◌, ◌++◌, ◌∷◌, [], ℕ, zero, suc, List, Option}
use Rattle.std.proofs.Common.{Some, None, Bool, true, false, ◌<◌, ap, arith, length, map, refl}
use Rattle.std.proofs.Common.{if◌then◌else◌, subst, sym}
use Rattle.std.specs.Io.KnownBytes.{Appends}
use Rattle.std.specs.List.{AllByRecursion, AllZip, flat_map}
use Rattle.std.proofs.KnownBytes.{Appends-nil, Appends-trans}
use Rattle.std.proofs.lemmas.List.{append-nil, append_assoc, length-append}
use Rattle.std.proofs.lemmas.List.Concat.{flat_map-append}
use Rattle.std.proofs.lemmas.List.Elements.{recursion_from_All}
use Rattle.std.proofs.lemmas.Nat.{mod_below}
use Rattle.command_runs.specs.IdleTexts.{events_text}
use Rattle.command_runs.specs.InLockstep.{IsWritten}
use Rattle.lockstep_runs.specs.IdleTicks.{goes_on, idle_steps, node_in_turn, step_list, turn_step}
use Rattle.lockstep_runs.specs.IdleTicks.{turn_steps}
use Rattle.lockstep_runs.specs.Lockstep.{first_in}
use Rattle.lockstep_runs.specs.Timing.{Timing}
use Rattle.round_meaning.specs.Setups.{IsSetup}
use Rattle.round_meaning.specs.declared.setup.Setup.{Setup}
use Rattle.schedule_text.specs.Lines as line
use Rattle.schedule_text.specs.Lines.{HasSmallNumbers, Line, Tells, numbers_of}
use Rattle.schedule_text.specs.Small.{IsSmall, IsSmallEvent, IsSmallPlan, IsSmallSetup}
use Rattle.schedule_text.specs.Texts.{Says, lines_for, max_text}
use Rattle.schedule_text.specs.Writing.{event_line, header_lines, line_text, text_of}
use Rattle.schedule_text.specs.declared.kind.Kind.TheVariants.{Schedule}
use Rattle.schedule_text.proofs.Written.{read_back}
use Rattle.run_events.specs.declared.plan_kind.PlanKind.{PlanKind}
use Rattle.run_events.specs.declared.plan_kind.PlanKind.TheVariants.{Growing, Known}
use Rattle.run_events.specs.declared.event.Event.{Event}
use Rattle.run_events.specs.declared.event.Event.TheVariants.{Copy, Drop, Release, Step}

text_more : (a b : List Event) → events_text (a ++ b) ≡ events_text a ++ events_text b
text_more a b = flat_map-append (λ e. line_text (event_line e)) a b

both_told : (x y z : Option (List ℕ)) (a b all : List Event) → all ≡ a ++ b
    → Appends x y (events_text a) → Appends y z (events_text b) → Appends x z (events_text all)
both_told x y z a b all e h k =
    subst (Appends x z) (sym (ap events_text e ∙ text_more a b))
    (Appends-trans x y z (events_text a) (events_text b) h k)

-- ---- the turns of a tick

no_turns : (timing : Timing) (nodes tick : ℕ) → turn_steps timing nodes tick 0 ≡ []
unfolding turn_steps
no_turns timing nodes tick = refl

more_turns : (timing : Timing) (nodes tick turn : ℕ)
    → turn_steps timing nodes tick (turn + 1)
    ≡ turn_steps timing nodes tick turn ++ turn_step timing nodes tick turn
unfolding turn_steps
more_turns timing nodes tick turn =
    let e : turn + 1 ≡ suc turn = omega arith in ap (turn_steps timing nodes tick) e

pub first_turn : (timing : Timing) (nodes tick : ℕ) (x : Option (List ℕ))
    → Appends x x (events_text (turn_steps timing nodes tick 0))
first_turn timing nodes tick x =
    subst (λ es. Appends x x (events_text es)) (sym (no_turns timing nodes tick)) (Appends-nil x)

pub next_turn : (timing : Timing) (nodes tick turn : ℕ) (o : Option ℕ) (x y z : Option (List ℕ))
    → step_list o ≡ turn_step timing nodes tick turn
    → Appends x y (events_text (turn_steps timing nodes tick turn))
    → Appends y z (events_text (step_list o))
    → Appends x z (events_text (turn_steps timing nodes tick (turn + 1)))
next_turn timing nodes tick turn o x y z e h k =
    both_told x y z (turn_steps timing nodes tick turn) (step_list o)
    (turn_steps timing nodes tick (turn + 1))
    (more_turns timing nodes tick turn ∙ ap (λ es. turn_steps timing nodes tick turn ++ es) (sym e))
    h k

pub one_step : (i : ℕ) (x y : Option (List ℕ)) → Appends x y (line_text (event_line (Step i)))
    → Appends x y (events_text (step_list (Some i)))
one_step i x y h = subst (Appends x y) (sym (append-nil (line_text (event_line (Step i))))) h

pub no_step : (x : Option (List ℕ)) → Appends x x (events_text (step_list None))
no_step x = Appends-nil x

-- ---- the ticks

no_ticks : (timing : Timing) (nodes first : ℕ) → idle_steps timing nodes first 0 ≡ []
unfolding idle_steps
no_ticks timing nodes first = refl

more_ticks : (timing : Timing) (nodes first count : ℕ)
    → idle_steps timing nodes first (count + 1)
    ≡ idle_steps timing nodes first count ++ turn_steps timing nodes (first + count) nodes
unfolding idle_steps
more_ticks timing nodes first count =
    let e : count + 1 ≡ suc count = omega arith in ap (idle_steps timing nodes first) e

pub first_tick : (timing : Timing) (nodes first tick : ℕ) (x : Option (List ℕ)) → tick ≡ first
    → Appends x x (events_text (idle_steps timing nodes first (tick - first)))
first_tick timing nodes first tick x e =
    let none : tick - first ≡ 0 = omega arith in
    subst (λ n. Appends x x (events_text (idle_steps timing nodes first n))) (sym none)
    (subst (λ es. Appends x x (events_text es)) (sym (no_ticks timing nodes first))
    (Appends-nil x))

pub next_tick : (timing : Timing) (nodes first tick : ℕ) (x y z : Option (List ℕ)) → first ≤ tick
    → Appends x y (events_text (idle_steps timing nodes first (tick - first)))
    → Appends y z (events_text (turn_steps timing nodes tick nodes))
    → Appends x z (events_text (idle_steps timing nodes first (tick + 1 - first)))
next_tick timing nodes first tick x y z l h k =
    let here : first + (tick - first) ≡ tick = omega arith in
    let more : tick - first + 1 ≡ tick + 1 - first = omega arith in
    both_told x y z (idle_steps timing nodes first (tick - first))
    (turn_steps timing nodes tick nodes) (idle_steps timing nodes first (tick + 1 - first))
    (sym (ap (idle_steps timing nodes first) more)
    ∙ more_ticks timing nodes first (tick - first)
    ∙ ap (λ n. idle_steps timing nodes first (tick - first) ++ turn_steps timing nodes n nodes)
    here)
    h k

-- ---- the text of a run with idle ticks behind it

-- each of these numbers is small
numbers_small : (said : Line) → HasSmallNumbers said → AllByRecursion IsSmall (numbers_of said)
numbers_small said h = recursion_from_All IsSmall (numbers_of said) h

event_small : (e : Event) → HasSmallNumbers (line.event e) → IsSmallEvent e
event_small (Step i) h = (numbers_small (line.event (Step i)) h).0
event_small (Release m) h = let n = numbers_small (line.event (Release m)) h in
    (n.0, n.1.0, n.1.1.0, n.1.1.1.0)
event_small (Drop m) h = let n = numbers_small (line.event (Drop m)) h in
    (n.0, n.1.0, n.1.1.0, n.1.1.1.0)
event_small (Copy m) h = let n = numbers_small (line.event (Copy m)) h in
    (n.0, n.1.0, n.1.1.0, n.1.1.1.0)

events_small : (ls : List (List ℕ)) (es : List Event) → AllZip Tells ls (map line.event es)
    → AllByRecursion IsSmallEvent es
events_small ls [] h = tt
events_small [] (e ∷ es) h = absurd h
events_small (l ∷ ls) (e ∷ es) h = (event_small e h.0.small, events_small ls es h.1)

plan_small : (k : PlanKind) → HasSmallNumbers (line.plan k) → IsSmallPlan k
plan_small (Known d) h = (numbers_small (line.plan (Known d)) h).0
plan_small Growing h = tt

-- the numbers of what a text says are small
record AreSmall (s : Setup) (k : PlanKind) (es : List Event) : Type 0 where
  setup : IsSmallSetup s
  plan : IsSmallPlan k
  events : AllByRecursion IsSmallEvent es

said_small : (ls : List (List ℕ)) (s : Setup) (k : PlanKind) (es : List Event)
    → AllZip Tells ls (lines_for Schedule s k es) → AreSmall s k es
said_small (a ∷ b ∷ c ∷ d ∷ e ∷ ls) s k es h = record {
  setup = record {
    nodes = (numbers_small (line.nodes s.nodes) h.0.small).0;
    faults = (numbers_small (line.faults s.faults) h.1.0.small).0;
    inputs = h.1.1.0.small;
    rounds = (numbers_small (line.rounds s.rounds) h.1.1.1.0.small).0;
  };
  plan = plan_small k h.1.1.1.1.0.small;
  events = events_small ls es h.1.1.1.1.1;
}
said_small [] s k es h = absurd h
said_small (a ∷ []) s k es h = absurd h.1
said_small (a ∷ b ∷ []) s k es h = absurd h.1.1
said_small (a ∷ b ∷ c ∷ []) s k es h = absurd h.1.1.1
said_small (a ∷ b ∷ c ∷ d ∷ []) s k es h = absurd h.1.1.1.1

small_more : (a b : List Event) → AllByRecursion IsSmallEvent a → AllByRecursion IsSmallEvent b
    → AllByRecursion IsSmallEvent (a ++ b)
small_more [] b h k = k
small_more (e ∷ es) b h k = (h.0, small_more es b h.1 k)

turn_small : (timing : Timing) (nodes tick turn : ℕ) → 0 < nodes → nodes ≤ 16
    → AllByRecursion IsSmallEvent (turn_step timing nodes tick turn)
turn_small timing nodes tick turn some few = by (goes_on (timing.stop i) tick)
  where
    i : ℕ
    i = node_in_turn timing nodes tick turn

    by : (go : Bool) → AllByRecursion IsSmallEvent (if go then Step i ∷ [] else [])
    by true = (
      let below = mod_below (first_in timing nodes tick + turn) nodes some in
          omega (arith, below, few),
      tt,
    )
    by false = tt

turns_small : (timing : Timing) (nodes tick turns : ℕ) → 0 < nodes → nodes ≤ 16
    → AllByRecursion IsSmallEvent (turn_steps timing nodes tick turns)
unfolding turn_steps
turns_small timing nodes tick zero some few = tt
turns_small timing nodes tick (suc turn) some few =
    small_more (turn_steps timing nodes tick turn) (turn_step timing nodes tick turn)
    (turns_small timing nodes tick turn some few) (turn_small timing nodes tick turn some few)

idle_small : (timing : Timing) (nodes first count : ℕ) → 0 < nodes → nodes ≤ 16
    → AllByRecursion IsSmallEvent (idle_steps timing nodes first count)
unfolding idle_steps
idle_small timing nodes first zero some few = tt
idle_small timing nodes first (suc count) some few =
    small_more (idle_steps timing nodes first count)
    (turn_steps timing nodes (first + count) nodes)
    (idle_small timing nodes first count some few)
    (turns_small timing nodes (first + count) nodes some few)

text_behind : (s : Setup) (k : PlanKind) (a b : List Event)
    → text_of s k (a ++ b) ≡ text_of s k a ++ events_text b
unfolding text_of
text_behind s k a b =
    ap (λ x. flat_map line_text (header_lines s k) ++ x) (text_more a b)
    ∙ sym (append_assoc (flat_map line_text (header_lines s k)) (events_text a) (events_text b))

-- what is written and read back is read back with idle steps behind it
pub idle_written : (s : Setup) (k : PlanKind) (es : List Event) (timing : Timing)
    (first count : ℕ) (text : List ℕ) → IsSetup s → text ≡ text_of s k es
    → (length text ≤ max_text → Says text s k es)
    → IsWritten s k (es ++ idle_steps timing s.nodes first count)
    (text ++ events_text (idle_steps timing s.nodes first count))
idle_written s k es timing first count text sized spelled says = record {
  spelled = whole;
  read_back = λ short. subst (λ t. Says t s k (es ++ idle)) (sym whole) (back short);
}
  where
    idle : List Event
    idle = idle_steps timing s.nodes first count

    whole : text ++ events_text idle ≡ text_of s k (es ++ idle)
    whole = ap (λ t. t ++ events_text idle) spelled ∙ sym (text_behind s k es idle)

    back : length (text ++ events_text idle) ≤ max_text
        → Says (text_of s k (es ++ idle)) s k (es ++ idle)
    back short =
        let sum = length-append text (events_text idle) in
        let small = said_small _ s k es (says (omega (arith, short, sum))).each in
        read_back s k (es ++ idle)
        (let inputs = sized.inputs in let some = sized.some_node in omega arith) small.setup
        small.plan
        (small_more es idle small.events
        (idle_small timing s.nodes first count sized.some_node sized.few_nodes))
        (let same = ap length whole in omega (arith, short, same))
