-- What the network knows, message by message, and its turns, question by question.
use Rattle.std.proofs.Common.{
  ◌≡◌,
  ◌∙◌,
  ℕ,
  suc,
  ◌+◌,
  ◌-◌,
  ◌^◌,
  ◌≤◌,
  ◌++◌,
  [],
  Bool,
  List,
  Option,
  None,
  Some,
  ap,
  arith,
  drop,
  length,
  min,
  refl,
  subst,
  sym,
}
use Rattle.std.proofs.lemmas.List.{append-nil, drop_all}
use Rattle.adversary.specs.Asking.{Chooses}
use Rattle.locked_buffers.specs.Runs.{AddsSentInRun, Run}
use Rattle.policies.specs.declared.policy.Choice.{Choice}
use Rattle.schedule_text.specs.declared.pace.Pace.{Pace}
use Rattle.run_events.specs.declared.event.Event.{Event}
use Rattle.run_events.specs.declared.name.Name.{Name}
use Rattle.node_threads.specs.Flights.{known_with, sent_after}
use Rattle.node_threads.specs.Turns.{
  GoesOnByTurns,
  GoesOnInTurn,
  HasLearnt,
  IsAskedFor,
  IsAskedOnce,
  IsDone,
  IsTurn,
  Known,
  RunsByTurns,
  tick_in,
  time_of,
}

-- once all names are gone through, all that was sent is known
pub learnt_all : {P : Type 0} (starts : P → ℕ → ℕ) (r : Run P) (start : ℕ → ℕ) (old new : Known)
    (events place : ℕ) (before sent items : List Name)
    → AddsSentInRun starts r old.count before sent events → before ≡ [] → items ≡ sent
    → length items ≤ place
    → new.flight ++ sent_after start new.count (drop place items)
    ≡ old.flight ++ sent_after start old.count items
    → known_with new.count (drop place items) ≡ known_with old.count items
    → new.told ≡ old.told → HasLearnt starts start old new events
learnt_all starts r start old new events place before sent items adds none same all flight count
    told =
    let past : drop place items ≡ [] = drop_all place items all in
    let after = adds.2 in
    let are : items ≡ drop old.count after.messages = same ∙ after.adds
    ∙ ap (λ ns. ns ++ drop old.count after.messages) none in
    record {
      one = adds.0;
      messages = after.messages;
      are = after.are;
      counted = after.counted;
      flight = sym (append-nil new.flight)
          ∙ sym (ap (λ ns. new.flight ++ sent_after start new.count ns) past) ∙ flight
          ∙ ap (λ ns. old.flight ++ sent_after start old.count ns) are;
      count = sym (ap (known_with new.count) past) ∙ count ∙ ap (known_with old.count) are;
      told = told;
    }

-- a turn that goes on
pub record IsInTurn {Q P : Type 0} (chooses : Chooses Q) (starts : P → ℕ → ℕ) (start : ℕ → ℕ)
    (tick : Option ℕ) (q : Q) (old : Known) (p : Q) (now : Known) : Type 0 where
  pub times : ℕ
  pub goes_on : GoesOnInTurn chooses starts start tick q old times p now

module _ {Q P : Type 0} (chooses : Chooses Q) (starts : P → ℕ → ℕ) (start : ℕ → ℕ)
    (tick : Option ℕ) (q : Q) (old : Known) where
  pub turn_first : IsInTurn chooses starts start tick q old q old
  unfolding GoesOnInTurn
  turn_first = record { times = 0; goes_on = (refl, refl) }

  pub turn_next : (events : ℕ) (p r : Q) (w learnt u : Known) (c : Choice) (e : Event)
      → IsInTurn chooses starts start tick q old p w → HasLearnt starts start w learnt events
      → IsAskedOnce chooses starts (time_of tick events) learnt.flight p r (Some c) (Some e)
      → (answer : Bool) × IsDone c e answer learnt u
      → IsInTurn chooses starts start tick q old r u
  unfolding GoesOnInTurn
  turn_next events p r w learnt u c e h learns asked done = record {
    times = suc h.times;
    goes_on = (p, w, learnt, events, c, e, done.0, h.goes_on, learns, asked, done.1);
  }

  pub turn_ends : (events : ℕ) (p r : Q) (w learnt : Known)
      → IsInTurn chooses starts start tick q old p w → HasLearnt starts start w learnt events
      → IsAskedFor chooses starts (time_of tick events) learnt.flight p r None
      → IsTurn chooses starts start tick q old r learnt
  turn_ends events p r w learnt h learns asked = record {
    times = h.times;
    last = p;
    reached = w;
    goes_on = h.goes_on;
    events = events;
    learns = learns;
    answer = asked.0;
    ends = asked.1;
  }

-- so many turns were taken, and this is the tick of the next
pub record HasTaken {Q P : Type 0} (chooses : Chooses Q) (starts : P → ℕ → ℕ) (start : ℕ → ℕ)
    (pace : Pace) (q : Q) (old : Known) (tick : ℕ) (r : Q) (new : Known) : Type 0 where
  pub turns : ℕ
  pub counted : tick ≡ min turns (2 ^ 32 - 1)
  pub goes_on : GoesOnByTurns chooses starts start pace q old turns r new

module _ {Q P : Type 0} (chooses : Chooses Q) (starts : P → ℕ → ℕ) (start : ℕ → ℕ) (pace : Pace)
    (q : Q) (old : Known) where
  pub taken_first : HasTaken chooses starts start pace q old 0 q old
  unfolding GoesOnByTurns
  taken_first = record { turns = 0; counted = refl; goes_on = (refl, refl) }

  pub taken_next : (tick next : ℕ) (p r : Q) (w u : Known)
      → HasTaken chooses starts start pace q old tick p w
      → IsTurn chooses starts start (tick_in pace tick) p w r u → next ≡ min (tick + 1) (2 ^ 32 - 1)
      → HasTaken chooses starts start pace q old next r u
  unfolding GoesOnByTurns
  taken_next tick next p r w u h turn more = record {
    turns = suc h.turns;
    counted = omega (arith, h.counted, more);
    goes_on = (
      p,
      w,
      h.goes_on,
      subst (λ n. IsTurn chooses starts start (tick_in pace n) p w r u) h.counted turn,
    );
  }

  pub taken_all : (tick : ℕ) (r : Q) (new : Known)
      → HasTaken chooses starts start pace q old tick r new
      → RunsByTurns chooses starts start pace q old r new
  taken_all tick r new h = record { turns = h.turns; goes_on = h.goes_on }
