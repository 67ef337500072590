-- The obligations are enough for what exploring asks, for all setups.
use Rattle.std.proofs.Common.{◌≡◌, ℕ, suc, Bool, List, Option, arith}
use Rattle.round_lang.specs.declared.value.Value.{Value}
use Rattle.round_lang.specs.Syntax.{ProgramTree}
use Rattle.round_meaning.specs.declared.setup.Setup.{Setup}
use Rattle.round_meaning.specs.Turn.{decision}
use Rattle.round_explorer.specs.declared.question.Failure.{Failure}
use Rattle.round_explorer.specs.declared.question.Question.{Question}
use Rattle.round_explorer.specs.Answers.{IsAsked, run_of, with_inputs, in_rounds}
use Rattle.round_explorer.specs.Properties.{Agrees, Counts, HoldsUpTo, IsFinal, IsValid}
use Rattle.round_explorer.specs.declared.property.Property.TheVariants.{Agreement, Final, Safety}
use Rattle.round_explorer.specs.declared.question.AskedInputs.TheVariants as asked
use Rattle.round_explorer.specs.declared.question.Failure.TheVariants.{Never, Omits, Crashes}
use Rattle.round_explorer.specs.Questions.{Messages, failure_of}
use Rattle.round_proofs.specs.Explored.{Counted, HoldsForAll, IsRun, IsSized}
use Rattle.round_proofs.specs.Machines.{Machine, Round, Spells}
use Rattle.round_proofs.specs.Safety.{IsAgreed, IsKept, IsSafe}
use Rattle.round_proofs.proofs.Safe.{agrees, is_final, is_valid}

pub run_agrees : {Node Message : Type 0} (p : ProgramTree) (s : Setup) (m : Machine Node Message)
    (state : Node → List Value) (letter : Round → Message → List Value) (decided : Node → Option ℕ)
    (Inv : ℕ → (ℕ → Node) → Type 0) (Locked : ℕ → (ℕ → Node) → ℕ → Type 0)
    (inputs : List ℕ) (pattern : List Failure) (omits : ℕ → ℕ → ℕ → Bool) (k : ℕ)
    → Spells p s.nodes s.faults m state letter → ((a : Node) → decision p (state a) ≡ decided a)
    → IsAgreed m (with_inputs s inputs) p.period omits k (Counted s pattern) decided Inv Locked
    → Agrees (run_of p s inputs pattern omits) k
run_agrees p s m state letter decided Inv Locked inputs pattern omits k is shows safe i j r q v u a
    b =
    agrees p (with_inputs s inputs) m state letter decided Inv Locked omits k (Counted s pattern) is
    shows safe i j r q v u a.past b.past (a.known, a.counts) (b.known, b.counts) a.decides b.decides

pub run_is_valid : {Node Message : Type 0} (p : ProgramTree) (s : Setup) (m : Machine Node Message)
    (state : Node → List Value) (letter : Round → Message → List Value) (decided : Node → Option ℕ)
    (Inv : ℕ → (ℕ → Node) → Type 0) (Locked : ℕ → (ℕ → Node) → ℕ → Type 0)
    (inputs : List ℕ) (pattern : List Failure) (omits : ℕ → ℕ → ℕ → Bool) (k : ℕ)
    → Spells p s.nodes s.faults m state letter → ((a : Node) → decision p (state a) ≡ decided a)
    → IsSafe m (with_inputs s inputs) p.period omits k (Counted s pattern) decided Inv Locked
    → IsValid (run_of p s inputs pattern omits) k
run_is_valid p s m state letter decided Inv Locked inputs pattern omits k is shows safe i r v a =
    is_valid p (with_inputs s inputs) m state letter decided Inv Locked omits k (Counted s pattern)
    is shows safe i r v a.past (a.known, a.counts) a.decides

-- if a round counts for a node, the round before it does
pub down : (s : Setup) (pattern : List Failure) (i r : ℕ) → Counted s pattern i (suc r)
    → Counted s pattern i r
down s pattern i r c = (c.0, by (failure_of pattern i) c.1)
  where
    by : (f : Failure) → Counts f (suc r) → Counts f r
    by Never h = h
    by Omits h = h
    by (Crashes n) h = omega (arith, h)

pub run_is_final : {Node Message : Type 0} (p : ProgramTree) (s : Setup) (m : Machine Node Message)
    (state : Node → List Value) (letter : Round → Message → List Value) (decided : Node → Option ℕ)
    (Inv : ℕ → (ℕ → Node) → Type 0) (Locked : ℕ → (ℕ → Node) → ℕ → Type 0)
    (inputs : List ℕ) (pattern : List Failure) (omits : ℕ → ℕ → ℕ → Bool) (k : ℕ)
    → Spells p s.nodes s.faults m state letter → ((a : Node) → decision p (state a) ≡ decided a)
    → IsAgreed m (with_inputs s inputs) p.period omits k (Counted s pattern) decided Inv Locked
    → IsKept m (with_inputs s inputs) p.period omits k (Counted s pattern) decided Inv
    → IsFinal (run_of p s inputs pattern omits) k
run_is_final p s m state letter decided Inv Locked inputs pattern omits k is shows safe keep i q r v
    a le past c =
    is_final p (with_inputs s inputs) m state letter decided Inv Locked omits k (Counted s pattern)
    is shows safe keep (down s pattern) i q r v le past (a.known, c) a.decides

-- agreement, validity and finality together
pub run_is_safe : {Node Message : Type 0} (p : ProgramTree) (s : Setup) (m : Machine Node Message)
    (state : Node → List Value) (letter : Round → Message → List Value) (decided : Node → Option ℕ)
    (Inv : ℕ → (ℕ → Node) → Type 0) (Locked : ℕ → (ℕ → Node) → ℕ → Type 0)
    (inputs : List ℕ) (pattern : List Failure) (omits : ℕ → ℕ → ℕ → Bool) (k : ℕ)
    → Spells p s.nodes s.faults m state letter → ((a : Node) → decision p (state a) ≡ decided a)
    → IsSafe m (with_inputs s inputs) p.period omits k (Counted s pattern) decided Inv Locked
    → IsKept m (with_inputs s inputs) p.period omits k (Counted s pattern) decided Inv
    → HoldsUpTo Safety (run_of p s inputs pattern omits) k
run_is_safe p s m state letter decided Inv Locked inputs pattern omits k is shows safe keep = (
  run_agrees p s m state letter decided Inv Locked inputs pattern omits k is shows safe.agreed,
  run_is_valid p s m state letter decided Inv Locked inputs pattern omits k is shows safe,
  run_is_final p s m state letter decided Inv Locked inputs pattern omits k is shows safe.agreed
      keep,
)

-- a run that exploring asks about is one in the sense of this crate
pub asked_run : (p : ProgramTree) (Asks : ℕ → ℕ → Question → Type 0) (s : Setup)
    (question : Question) (inputs : List ℕ) (pattern : List Failure) (omits : Messages)
    → IsSized s → Asks s.nodes s.faults question
    → IsAsked p s question asked.Any inputs pattern omits
    → IsRun p.values Asks (with_inputs s inputs) question pattern omits
asked_run p Asks s question inputs pattern omits sized asks is = record {
  fit = record {
    some_node = sized.some_node;
    few_nodes = sized.few_nodes;
    inputs = is.are_asked.0;
    below = is.are_asked.1;
  };
  few_faults = sized.few_faults;
  asks = asks;
  fails = record {
    each_node = is.is_pattern.each_node;
    kinds = is.is_pattern.kinds;
    few = is.is_pattern.few;
  };
  table = is.is_table;
}

-- nodes and faults are within the limits, whatever the number of rounds is
pub sized_in : (s : Setup) (rounds : ℕ) → IsSized s → IsSized (in_rounds s rounds)
sized_in s rounds h = record {
  some_node = h.some_node;
  few_nodes = h.few_nodes;
  few_faults = h.few_faults;
}

-- a program agrees and is final for all setups if its machine is in each run that is asked about
pub agreed_for_all : {Node Message : Type 0} (p : ProgramTree) (Asks : ℕ → ℕ → Question → Type 0)
    (machine : (n t : ℕ) → Machine Node Message) (state : Node → List Value)
    (letter : Round → Message → List Value) (decided : Node → Option ℕ)
    (Inv : Setup → List Failure → ℕ → (ℕ → Node) → Type 0)
    (Locked : Setup → List Failure → ℕ → (ℕ → Node) → ℕ → Type 0)
    → ((n t : ℕ) → Spells p n t (machine n t) state letter)
    → ((a : Node) → decision p (state a) ≡ decided a)
    → ((s : Setup) (question : Question) (pattern : List Failure) (omits : Messages)
    → IsRun p.values Asks s question pattern omits
    → IsAgreed (machine s.nodes s.faults) s p.period omits s.rounds (Counted s pattern) decided
    (Inv s pattern) (Locked s pattern)
    × IsKept (machine s.nodes s.faults) s p.period omits s.rounds (Counted s pattern) decided
    (Inv s pattern)) → HoldsForAll p Asks Agreement × HoldsForAll p Asks Final
agreed_for_all p Asks machine state letter decided Inv Locked is shows safe = (
  λ s question sized asks rounds inputs pattern omits asked.
      let z = with_inputs (in_rounds s rounds) inputs in
      let both = safe z question pattern omits
      (asked_run p Asks (in_rounds s rounds) question inputs pattern omits (sized_in s rounds sized)
      asks asked) in
      run_agrees p (in_rounds s rounds) (machine s.nodes s.faults) state letter decided
      (Inv z pattern) (Locked z pattern) inputs pattern omits rounds (is s.nodes s.faults) shows
      both.0,
  λ s question sized asks rounds inputs pattern omits asked.
      let z = with_inputs (in_rounds s rounds) inputs in
      let both = safe z question pattern omits
      (asked_run p Asks (in_rounds s rounds) question inputs pattern omits (sized_in s rounds sized)
      asks asked) in
      run_is_final p (in_rounds s rounds) (machine s.nodes s.faults) state letter decided
      (Inv z pattern) (Locked z pattern) inputs pattern omits rounds (is s.nodes s.faults) shows
      both.0 both.1,
)

-- a program is safe for all setups if its machine is in each run that is asked about
pub holds_for_all : {Node Message : Type 0} (p : ProgramTree) (Asks : ℕ → ℕ → Question → Type 0)
    (machine : (n t : ℕ) → Machine Node Message) (state : Node → List Value)
    (letter : Round → Message → List Value) (decided : Node → Option ℕ)
    (Inv : Setup → List Failure → ℕ → (ℕ → Node) → Type 0)
    (Locked : Setup → List Failure → ℕ → (ℕ → Node) → ℕ → Type 0)
    → ((n t : ℕ) → Spells p n t (machine n t) state letter)
    → ((a : Node) → decision p (state a) ≡ decided a)
    → ((s : Setup) (question : Question) (pattern : List Failure) (omits : Messages)
    → IsRun p.values Asks s question pattern omits
    → IsSafe (machine s.nodes s.faults) s p.period omits s.rounds (Counted s pattern) decided
    (Inv s pattern) (Locked s pattern)
    × IsKept (machine s.nodes s.faults) s p.period omits s.rounds (Counted s pattern) decided
    (Inv s pattern)) → HoldsForAll p Asks Safety
holds_for_all p Asks machine state letter decided Inv Locked is shows safe s question sized asks
    rounds inputs pattern omits asked =
    let z = with_inputs (in_rounds s rounds) inputs in
    let both = safe z question pattern omits
    (asked_run p Asks (in_rounds s rounds) question inputs pattern omits (sized_in s rounds sized)
    asks asked) in
    run_is_safe p (in_rounds s rounds) (machine s.nodes s.faults) state letter decided
    (Inv z pattern) (Locked z pattern) inputs pattern omits rounds (is s.nodes s.faults) shows
    both.0 both.1
