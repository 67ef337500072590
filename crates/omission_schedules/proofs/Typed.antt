-- The states of a run in rounds are states of its program.
use Rattle.std.proofs.Common.{◌≡◌, ℕ, zero, suc, ◌+◌, Bool, true, false, List, Option, Some, None}
use Rattle.std.proofs.Common.{cond, refl, map}
use Rattle.std.specs.Prelude.{All, IfSome}
use Rattle.std.specs.List.{filter_map, range_with_len}
use Rattle.std.proofs.lemmas.List.Elements.{All-cons, All-nil}
use Rattle.round_check.specs.Shapes.{state_kinds}
use Rattle.round_lang.specs.Syntax.{ProgramTree}
use Rattle.round_lang.specs.Words.{kind_of}
use Rattle.round_lang.specs.declared.value.Value.{Value}
use Rattle.round_meaning.specs.Rounds.{algorithm, algorithm_of, heard, inbox, received, rounds}
use Rattle.round_meaning.specs.Typed.{IsMessageOf, IsStateOf}
use Rattle.round_meaning.specs.declared.received.Received.{Received}
use Rattle.round_meaning.specs.declared.setup.Setup.{Setup}
use Rattle.step_machine.proofs.Typing.{state_of_program}
use Rattle.step_machine.specs.Sealed.{KeepsTypes}

-- what holds of each that is given holds of all
all_given : {X : Type 0} (P : X → Type 0) (f : ℕ → Option X) (a n : ℕ)
    → ((j : ℕ) → IfSome (f j) P) → All P (filter_map f (range_with_len a n))
all_given {X} P f a zero h = All-nil P
all_given {X} P f a (suc n) h = by (f a) (h a) refl (all_given P f (a + 1) n h)
  where
    by : (o : Option X) → IfSome o P → f a ≡ o
        → All P (filter_map f (range_with_len (a + 1) n))
        → All P (filter_map f (range_with_len a (suc n)))
    by None is e rest = rw e rest
    by (Some x) is e rest = rw e (All-cons P x (filter_map f (range_with_len (a + 1) n)) is rest)

given_typed : (p : ProgramTree) (r j : ℕ) (omitted : Bool) (m : Option (List Value))
    → IfSome m (IsMessageOf p r)
    → IfSome (cond omitted None (received j m)) (λ (x : Received). IsMessageOf p r x.message)
given_typed p r j true m h = tt
given_typed p r j false None h = tt
given_typed p r j false (Some m) h = h

-- each node's state after each round
pub rounds_typed : (p : ProgramTree) (s : Setup) → KeepsTypes p → (omits : ℕ → ℕ → ℕ → Bool)
    → (r i : ℕ) → IsStateOf p (rounds (algorithm_of p s) omits r i)
unfolding algorithm rounds inbox
rounds_typed p s keeps omits zero i = keeps.starts s.nodes s.faults _ i
rounds_typed p s keeps omits (suc q) i =
    let a = algorithm_of p s in
    let states = rounds a omits q in
    keeps.ends s.nodes s.faults (suc q) i _ (states i) (rounds_typed p s keeps omits q i)
    (all_given (λ (x : Received). IsMessageOf p (suc q) x.message)
    (heard a (omits i (suc q)) states (suc q) i) 0 s.nodes
    (λ j. given_typed p (suc q) j (omits i (suc q) j) (a.send (suc q) (states j) j i)
    (keeps.sends s.nodes s.faults (suc q) (states j) j i (rounds_typed p s keeps omits q j))))

-- so their kinds are the program's
pub rounds_kinds : (p : ProgramTree) (s : Setup) → KeepsTypes p → (omits : ℕ → ℕ → ℕ → Bool)
    → (r i : ℕ) → map kind_of (rounds (algorithm_of p s) omits r i) ≡ state_kinds p
rounds_kinds p s keeps omits r i = state_of_program p _ (rounds_typed p s keeps omits r i)
