-- Schedules whose runs compute from the definitions: which messages are carried, the states after
-- the rounds, and the releases' answers.
use Rattle.std.proofs.Common.{◌≡◌, ℕ, ◌-◌, ◌*◌, true, false, List, [], ◌∷◌, ◌++◌, refl, map}
use Rattle.std.specs.Prelude.{codes, replicate, slice_index, reverse}
use Rattle.round_lang.specs.declared.expr.BinaryOperator.TheVariants.{Equal, Union}
use Rattle.round_lang.specs.declared.expr.Constant.TheVariants.{Empty, From}
use Rattle.round_lang.specs.declared.expr.Ty.TheVariants.{Set as SetTy}
use Rattle.round_lang.specs.declared.expr.UnaryOperator.TheVariants.{Single}
use Rattle.round_lang.specs.declared.program.VariableKind.TheVariants.{Input, State}
use Rattle.round_lang.specs.declared.value.Value.TheVariants.{Num}
use Rattle.round_lang.specs.Sets.{is_in, set_of}
use Rattle.round_lang.specs.Syntax.{ProgramTree}
use Rattle.round_lang.specs.Tree.{TBinary, TFixed, TNamed, TNumber, TUnary}
use Rattle.round_lang.specs.Values.{of_set}
use Rattle.round_meaning.specs.Rounds.{algorithm, inbox, rounds}
use Rattle.round_meaning.proofs.Rows.{gather}
use Rattle.slot_plans.specs.Known.{known_start}
use Rattle.run_events.specs.declared.event.Event.{Event}
use Rattle.run_events.specs.declared.event.Event.TheVariants.{Step, Release, Drop, Copy}
use Rattle.run_events.specs.declared.name.Name.{Name}
use Rattle.step_book.specs.declared.mark.Mark.TheVariants.{Silent}
use Rattle.step_book.specs.History.{mark_of, state, answers_of}
use Rattle.step_book.specs.Fates.{carried, fate}
use Rattle.step_book.specs.Trace.{steps}
use Rattle.step_book.specs.World.{World}

-- a run of `gather` under the known plan with one receive a round
abbrev world : List ℕ → ℕ → ℕ → World
world inputs nodes last = record {
  algorithm = algorithm gather nodes 0 (slice_index inputs);
  rounds = last;
  start = known_start nodes 1;
}

abbrev name : ℕ → ℕ → ℕ → ℕ → Name
name j i r k = record { from = j; to = i; round = r; copy = k }

abbrev release : ℕ → ℕ → ℕ → Event
release j i r = Release (name j i r 0)

-- a node hears its own frame
abbrev heard_own : List Event
heard_own = reverse (Step 0 ∷ release 0 0 1 ∷ Step 0 ∷ [])

heard_own_carried : carried (world (0 ∷ []) 1 1) heard_own 0 1 0 ≡ true
unfolding carried fate steps algorithm
heard_own_carried = refl

heard_own_state : state (world (0 ∷ []) 1 1) heard_own 1 0 ≡ Num 0 ∷ of_set 1 ∷ []
unfolding carried fate steps algorithm inbox rounds set_of is_in
heard_own_state = refl

-- a node misses its own frame
abbrev missed_own : List Event
missed_own = reverse (Step 0 ∷ Step 0 ∷ [])

missed_own_carried : carried (world (0 ∷ []) 1 1) missed_own 0 1 0 ≡ false
unfolding carried fate steps algorithm
missed_own_carried = refl

missed_own_state : state (world (0 ∷ []) 1 1) missed_own 1 0 ≡ Num 0 ∷ of_set 1 ∷ []
unfolding carried fate steps algorithm inbox rounds set_of is_in
missed_own_state = refl

-- one of two nodes ends its round before the other has sent
abbrev one_misses : List Event
one_misses = reverse (Step 0 ∷ Step 0 ∷ release 0 0 1 ∷ Step 0 ∷ Step 1 ∷ Step 1 ∷ release 0 1 1
    ∷ release 1 1 1 ∷ Step 1 ∷ [])

one_misses_carried : map (λ j. carried (world (0 ∷ 1 ∷ []) 2 1) one_misses 0 1 j) (0 ∷ 1 ∷ [])
    ≡ true ∷ false ∷ []
unfolding carried fate steps algorithm
one_misses_carried = refl

other_hears_carried : map (λ j. carried (world (0 ∷ 1 ∷ []) 2 1) one_misses 1 1 j) (0 ∷ 1 ∷ [])
    ≡ true ∷ true ∷ []
unfolding carried fate steps algorithm
other_hears_carried = refl

one_misses_state : state (world (0 ∷ 1 ∷ []) 2 1) one_misses 1 0 ≡ Num 0 ∷ of_set 1 ∷ []
unfolding carried fate steps algorithm inbox rounds set_of is_in
one_misses_state = refl

other_hears_state : state (world (0 ∷ 1 ∷ []) 2 1) one_misses 1 1 ≡ Num 1 ∷ of_set 3 ∷ []
unfolding carried fate steps algorithm inbox rounds set_of is_in
other_hears_state = refl

-- a release before its send moves nothing, the one after it does
abbrev before_send : List Event
before_send = reverse (release 0 0 1 ∷ Step 0 ∷ release 0 0 1 ∷ Step 0 ∷ [])

before_send_carried : carried (world (0 ∷ []) 1 1) before_send 0 1 0 ≡ true
unfolding carried fate steps algorithm
before_send_carried = refl

before_send_answers : answers_of (world (0 ∷ []) 1 1) before_send ≡ false ∷ true ∷ []
unfolding answers_of mark_of carried fate steps algorithm inbox rounds set_of is_in
before_send_answers = refl

-- a message of round 2 is taken in round 1, and kept for its round
abbrev early : List Event
early = reverse (Step 1 ∷ Step 1 ∷ Step 1 ∷ Step 1 ∷ release 1 0 2 ∷ Step 0 ∷ Step 0 ∷ Step 0
    ∷ Step 0 ∷ Step 0 ∷ Step 0 ∷ [])

early_carried : map (λ r. carried (world (0 ∷ 1 ∷ []) 2 2) early 0 r 1) (1 ∷ 2 ∷ []) ≡ false ∷ true
    ∷ []
unfolding carried fate steps algorithm
early_carried = refl

early_state : state (world (0 ∷ 1 ∷ []) 2 2) early 2 0 ≡ Num 0 ∷ of_set 3 ∷ []
unfolding carried fate steps algorithm inbox rounds set_of is_in
early_state = refl

-- a message is kept for three rounds, and not for four
abbrev far_early : ℕ → ℕ → List Event
far_early r last = reverse (replicate (3 * r - 2) (Step 1)
    ++ release 1 0 r ∷ replicate (3 * last) (Step 0))

kept_for_three : map (λ r. carried (world (0 ∷ 1 ∷ []) 2 4) (far_early 4 4) 0 r 1) (3 ∷ 4 ∷ [])
    ≡ false ∷ true ∷ []
unfolding carried fate steps algorithm
kept_for_three = refl

kept_for_three_state : state (world (0 ∷ 1 ∷ []) 2 4) (far_early 4 4) 4 0 ≡ Num 0 ∷ of_set 3 ∷ []
unfolding carried fate steps algorithm inbox rounds set_of is_in
kept_for_three_state = refl

too_early_for_four : map (λ r. carried (world (0 ∷ 1 ∷ []) 2 5) (far_early 5 5) 0 r 1) (4 ∷ 5 ∷ [])
    ≡ false ∷ false ∷ []
unfolding carried fate steps algorithm
too_early_for_four = refl

-- only the node with the input 1 sends, and each node notes the nodes heard from
abbrev speaks_of_one : ProgramTree
speaks_of_one = record {
  values = 2;
  period = 1;
  variables = record { name = codes "x"; kind = Input } ∷ record {
    name = codes "s";
    kind = State SetTy (TFixed Empty);
  } ∷ [];
  decides = codes "s" ∷ [];
  blocks = record {
    number = 1;
    fields = [];
    condition = TBinary Equal (TNamed (codes "x")) (TNumber 1);
    sent = [];
    on_message = record {
      target = codes "s";
      formula = TBinary Union (TNamed (codes "s")) (TUnary Single (TFixed From));
    } ∷ [];
    end = [];
  } ∷ [];
}

abbrev silent_world : World
silent_world = record {
  algorithm = algorithm speaks_of_one 2 0 (slice_index (0 ∷ 1 ∷ []));
  rounds = 1;
  start = known_start 2 1;
}

abbrev silent : List Event
silent = reverse (Step 0 ∷ Step 0 ∷ Step 1 ∷ Step 1 ∷ release 0 1 1 ∷ release 1 0 1 ∷ release 1 1 1
    ∷ Step 0 ∷ Step 1 ∷ [])

silent_mark : mark_of silent_world silent (name 0 1 1 0) ≡ Silent
unfolding mark_of carried fate steps algorithm inbox rounds set_of is_in
silent_mark = refl

silent_answers : answers_of silent_world silent ≡ false ∷ true ∷ true ∷ []
unfolding answers_of mark_of carried fate steps algorithm inbox rounds set_of is_in
silent_answers = refl

silent_state : state silent_world silent 1 0 ≡ Num 0 ∷ of_set 2 ∷ []
unfolding carried fate steps algorithm inbox rounds set_of is_in
silent_state = refl

-- ---- a network that loses and copies messages; a node sends to itself, and hears itself or not

abbrev lossy : List Event → List Event
lossy events = reverse (Step 0 ∷ events ++ Step 0 ∷ [])

-- a message is dropped, and no release moves it
abbrev dropped : List Event
dropped = lossy (Drop (name 0 0 1 0) ∷ release 0 0 1 ∷ [])

dropped_carried : carried (world (0 ∷ []) 1 1) dropped 0 1 0 ≡ false
unfolding carried fate steps algorithm
dropped_carried = refl

dropped_answers : answers_of (world (0 ∷ []) 1 1) dropped ≡ true ∷ false ∷ []
unfolding answers_of mark_of carried fate steps algorithm inbox rounds set_of is_in
dropped_answers = refl

-- it's copied before it's dropped, and its copy is released
abbrev copied : List Event
copied = lossy (Copy (name 0 0 1 1) ∷ Drop (name 0 0 1 0) ∷ Release (name 0 0 1 1) ∷ [])

copied_carried : carried (world (0 ∷ []) 1 1) copied 0 1 0 ≡ true
unfolding carried fate steps algorithm
copied_carried = refl

copied_answers : answers_of (world (0 ∷ []) 1 1) copied ≡ true ∷ true ∷ true ∷ []
unfolding answers_of mark_of carried fate steps algorithm inbox rounds set_of is_in
copied_answers = refl

-- nothing is copied of a message that was dropped
abbrev too_late : List Event
too_late = lossy (Drop (name 0 0 1 0) ∷ Copy (name 0 0 1 1) ∷ Release (name 0 0 1 1) ∷ [])

too_late_carried : carried (world (0 ∷ []) 1 1) too_late 0 1 0 ≡ false
unfolding carried fate steps algorithm
too_late_carried = refl

too_late_answers : answers_of (world (0 ∷ []) 1 1) too_late ≡ true ∷ false ∷ false ∷ []
unfolding answers_of mark_of carried fate steps algorithm inbox rounds set_of is_in
too_late_answers = refl

-- a message and its copy are both released, and count once
abbrev both_come : List Event
both_come = lossy (Copy (name 0 0 1 1) ∷ release 0 0 1 ∷ Release (name 0 0 1 1) ∷ [])

both_come_carried : carried (world (0 ∷ []) 1 1) both_come 0 1 0 ≡ true
unfolding carried fate steps algorithm
both_come_carried = refl

both_come_answers : answers_of (world (0 ∷ []) 1 1) both_come ≡ true ∷ true ∷ true ∷ []
unfolding answers_of mark_of carried fate steps algorithm inbox rounds set_of is_in
both_come_answers = refl

both_come_state : state (world (0 ∷ []) 1 1) both_come 1 0 ≡ Num 0 ∷ of_set 1 ∷ []
unfolding carried fate steps algorithm inbox rounds set_of is_in
both_come_state = refl
