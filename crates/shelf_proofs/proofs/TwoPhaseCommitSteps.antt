-- TwoPhaseCommit as steps of nodes. No reader has to believe this file: `spells` ties it to the
-- program.
use Rattle.std.proofs.Common.{◌≡◌, ℕ, zero, suc, ◌+◌, ◌<◌, Bool, List, []}
use Rattle.std.proofs.Common.{◌∷◌, refl, sym, ap, ◌∙◌, Option, Some, None, arith}
use Rattle.std.specs.Prelude.{min, ◌&&◌, ◌==◌, slice_get}
use Rattle.std.specs.Prelude.{if◌then◌else◌}
use Rattle.round_lang.specs.declared.value.Value.{Value}
use Rattle.round_lang.specs.declared.value.Value.TheVariants.{Num}
use Rattle.round_lang.specs.Sets.{members, only}
use Rattle.round_lang.specs.Values.{num, of_set, set}
use Rattle.round_meaning.specs.Turn.{decision, first_member, message_taken, round_finished, sent}
use Rattle.round_meaning.specs.Turn.{with_dest, with_vars}
use Rattle.round_proofs.specs.Machines.{Machine, Round, Spells, env_in}
use Rattle.shelf_proofs.specs.TwoPhaseCommit.{two_phase_commit_tree}
use Rattle.round_proofs.proofs.Choices.{choose_set}

abbrev pub top : ℕ
top = 4294967295

-- a node's variables
pub record Node : Type 0 where
  pub x : ℕ
  pub count : ℕ
  pub verdict : ℕ
  pub done : ℕ

abbrev pub state : Node → List Value
state a = Num a.x ∷ Num a.count ∷ of_set a.verdict ∷ of_set a.done ∷ []

-- the fields of the messages, by round of the phase
pub record Letter : Type 0 where
  pub v1 : ℕ
  pub v2 : ℕ

-- the state of node i with input x
abbrev pub start : (k n t x i : ℕ) → Node
start k n t x i = record {
  x = x;
  count = 0;
  verdict = 0;
  done = 0;
}

-- round 1 of a phase: whether j sends to i, and what
abbrev pub sends1 : (k n t : ℕ) → Round → Node → (j i : ℕ) → Bool
sends1 k n t r a j i = ((r.phase == 1) && (i == 0))

abbrev pub message1 : (k n t : ℕ) → Round → Node → (j i : ℕ) → Letter
message1 k n t r a j i = record {
  v1 = a.x;
  v2 = 0;
}

-- node i after a message of node j
abbrev pub take1 : (k n t : ℕ) → Round → (i j : ℕ) → Letter → Node → Node
take1 k n t r i j l a = record {
  x = a.x;
  count = (min (a.count + l.v1) top);
  verdict = a.verdict;
  done = a.done;
}

-- node i at the end of the round
abbrev pub finish1 : (k n t : ℕ) → Round → (i : ℕ) → Node → Node
finish1 k n t r i a = record {
  x = a.x;
  count = 0;
  verdict = (set ((if ((i == 0) && (r.phase == 1))
      then of_set (only k (num (if (a.count == n) then Num 1 else Num 0))) else of_set a.verdict)));
  done = (if (i == 0)
      then (set ((if ((i == 0) && (r.phase == 1))
      then of_set (only k (num (if (a.count == n) then Num 1 else Num 0))) else of_set a.verdict)))
      else (if (a.x == 0) then (only k 0) else a.done));
}

-- round 2 of a phase: whether j sends to i, and what
abbrev pub sends2 : (k n t : ℕ) → Round → Node → (j i : ℕ) → Bool
sends2 k n t r a j i = (j == 0)

abbrev pub message2 : (k n t : ℕ) → Round → Node → (j i : ℕ) → Letter
message2 k n t r a j i = record {
  v1 = 0;
  v2 = a.verdict;
}

-- node i after a message of node j
abbrev pub take2 : (k n t : ℕ) → Round → (i j : ℕ) → Letter → Node → Node
take2 k n t r i j l a = record {
  x = a.x;
  count = a.count;
  verdict = a.verdict;
  done = l.v2;
}

-- node i at the end of the round
abbrev pub finish2 : (k n t : ℕ) → Round → (i : ℕ) → Node → Node
finish2 k n t r i a = record {
  x = a.x;
  count = a.count;
  verdict = a.verdict;
  done = a.done;
}

abbrev pub sends_at : ℕ → (k n t : ℕ) → Round → Node → (j i : ℕ) → Bool
sends_at zero k n t r a j i = sends1 k n t r a j i
sends_at (suc q) k n t r a j i = sends2 k n t r a j i

abbrev pub message_at : ℕ → (k n t : ℕ) → Round → Node → (j i : ℕ) → Letter
message_at zero k n t r a j i = message1 k n t r a j i
message_at (suc q) k n t r a j i = message2 k n t r a j i

abbrev pub take_at : ℕ → (k n t : ℕ) → Round → (i j : ℕ) → Letter → Node → Node
take_at zero k n t r i j l a = take1 k n t r i j l a
take_at (suc q) k n t r i j l a = take2 k n t r i j l a

abbrev pub finish_at : ℕ → (k n t : ℕ) → Round → (i : ℕ) → Node → Node
finish_at zero k n t r i a = finish1 k n t r i a
finish_at (suc q) k n t r i a = finish2 k n t r i a

abbrev pub letter_at : ℕ → Letter → List Value
letter_at zero l = Num l.v1 ∷ []
letter_at (suc q) l = of_set l.v2 ∷ []

abbrev pub letter : Round → Letter → List Value
letter r l = letter_at r.position l

abbrev pub machine : (k n t : ℕ) → Machine Node Letter
machine k n t = record {
  start = λ x i. start k n t x i;
  sends = λ r a j i. sends_at r.position k n t r a j i;
  message = λ r a j i. message_at r.position k n t r a j i;
  take = λ r i j l a. take_at r.position k n t r i j l a;
  finish = λ r i a. finish_at r.position k n t r i a;
}

sent_is : (k n t q number phase : ℕ) (a : Node) (j i : ℕ) → q < 2
    → sent (slice_get (two_phase_commit_tree k).blocks q)
    (with_dest i (with_vars (state a) (env_in (two_phase_commit_tree k) n t
    (record { position = q; number = number; phase = phase }) j)))
    ≡ (if sends_at q k n t (record { position = q; number = number; phase = phase }) a j i
    then Some (letter_at q
    (message_at q k n t (record { position = q; number = number; phase = phase }) a j i))
    else None)
sent_is k n t zero number phase a j i h = refl
sent_is k n t (suc zero) number phase a j i h = refl
sent_is k n t (suc (suc q)) number phase a j i h = absurd (omega arith)

took : (k n t q number phase i j : ℕ) (l : Letter) (a : Node) → q < 2
    → message_taken (slice_get (two_phase_commit_tree k).blocks q)
    (env_in (two_phase_commit_tree k) n t (record { position = q; number = number; phase = phase })
    i)
    (record { from = j; message = letter_at q l }) (state a)
    ≡ state (take_at q k n t (record { position = q; number = number; phase = phase }) i j l a)
took k n t zero number phase i j l a h = refl
took k n t (suc zero) number phase i j l a h = refl
took k n t (suc (suc q)) number phase i j l a h = absurd (omega arith)

finished : (k n t q number phase i : ℕ) (a : Node) → q < 2
    → round_finished (slice_get (two_phase_commit_tree k).blocks q)
    (env_in (two_phase_commit_tree k) n t (record { position = q; number = number; phase = phase })
    i) (state a)
    ≡ state (finish_at q k n t (record { position = q; number = number; phase = phase }) i a)
finished k n t zero number phase i a h = let r : Round =
    (record { position = zero; number = number; phase = phase })
    in ap (λ (z : Value). Num a.x ∷ Num 0 ∷ z
    ∷ (if (i == 0) then (if ((i == 0) && (r.phase == 1))
    then of_set (only k (num (if (a.count == n) then Num 1 else Num 0))) else of_set a.verdict)
    else (if (a.x == 0) then of_set (only k 0) else of_set a.done)) ∷ [])
    ((choose_set ((i == 0) && (r.phase == 1))
    (only k (num (if (a.count == n) then Num 1 else Num 0))) a.verdict
    (of_set (only k (num (if (a.count == n) then Num 1 else Num 0)))) (of_set a.verdict) refl refl)
    ∙ sym (ap (λ (z : Value). of_set (set z)) (choose_set ((i == 0) && (r.phase == 1))
    (only k (num (if (a.count == n) then Num 1 else Num 0))) a.verdict
    (of_set (only k (num (if (a.count == n) then Num 1 else Num 0)))) (of_set a.verdict) refl
    refl)))
    ∙ ap (λ (z : Value). Num a.x ∷ Num 0
    ∷ of_set (set ((if ((i == 0) && (r.phase == 1))
    then of_set (only k (num (if (a.count == n) then Num 1 else Num 0)))
    else of_set a.verdict))) ∷ z ∷ [])
    (choose_set (i == 0)
    (set ((if ((i == 0) && (r.phase == 1))
    then of_set (only k (num (if (a.count == n) then Num 1 else Num 0)))
    else of_set a.verdict))) (if (a.x == 0) then (only k 0) else a.done)
    ((if ((i == 0) && (r.phase == 1))
    then of_set (only k (num (if (a.count == n) then Num 1 else Num 0))) else of_set a.verdict))
    ((if (a.x == 0) then of_set (only k 0) else of_set a.done))
    ((choose_set ((i == 0) && (r.phase == 1))
    (only k (num (if (a.count == n) then Num 1 else Num 0))) a.verdict
    (of_set (only k (num (if (a.count == n) then Num 1 else Num 0)))) (of_set a.verdict) refl
    refl) ∙ sym (ap (λ (z : Value). of_set (set z)) (choose_set ((i == 0) && (r.phase == 1))
    (only k (num (if (a.count == n) then Num 1 else Num 0))) a.verdict
    (of_set (only k (num (if (a.count == n) then Num 1 else Num 0)))) (of_set a.verdict) refl
    refl))) (choose_set (a.x == 0) (only k 0) a.done (of_set (only k 0)) (of_set a.done) refl
    refl))
finished k n t (suc zero) number phase i a h = refl
finished k n t (suc (suc q)) number phase i a h = absurd (omega arith)

-- the steps are those of the program
pub spells : (k n t : ℕ) → Spells (two_phase_commit_tree k) n t (machine k n t) state letter
spells k n t = record {
  period = omega arith;
  start = λ x i. refl;
  send = λ r a j i h. sent_is k n t r.position r.number r.phase a j i h;
  take = λ r i j l a h. took k n t r.position r.number r.phase i j l a h;
  finish = λ r i a h. finished k n t r.position r.number r.phase i a h;
}

abbrev pub decided : Node → Option ℕ
decided a = first_member (members a.done)

pub shows : (k : ℕ) (a : Node) → decision (two_phase_commit_tree k) (state a) ≡ decided a
shows k a = refl
