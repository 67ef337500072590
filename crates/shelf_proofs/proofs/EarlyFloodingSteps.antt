-- Early-deciding flooding as steps of nodes. No reader has to believe this file: `spells` ties it
-- to the program.
use Rattle.std.proofs.Common.{◌≡◌, ℕ, zero, suc, ◌+◌, ◌<◌, Bool, true, false, List, [], ◌∷◌, refl}
use Rattle.std.proofs.Common.{ap, Option, Some, None, arith}
use Rattle.std.specs.Prelude.{min, ◌||◌, nat_le, ◌==◌, slice_get, if◌then◌else◌}
use Rattle.round_lang.specs.declared.value.Value.{Value}
use Rattle.round_lang.specs.declared.value.Value.TheVariants.{Num, Flag}
use Rattle.round_lang.specs.Sets.{members, only, union}
use Rattle.round_lang.specs.Values.{of_set}
use Rattle.round_meaning.specs.Turn.{decision, first_member, message_taken, round_finished, sent}
use Rattle.round_meaning.specs.Turn.{with_dest, with_vars}
use Rattle.round_proofs.specs.Machines.{Machine, Round, Spells, env_in}
use Rattle.shelf_proofs.specs.EarlyFlooding.{early_flooding_tree}
use Rattle.round_proofs.proofs.Choices.{choose_set}

abbrev pub top : ℕ
top = 4294967295

-- a node's variables
pub record Node : Type 0 where
  pub x : ℕ
  pub seen : ℕ
  pub heard : ℕ
  pub before : ℕ
  pub calm : Bool
  pub done : ℕ

abbrev pub state : Node → List Value
state a = Num a.x ∷ of_set a.seen ∷ Num a.heard ∷ Num a.before ∷ Flag a.calm ∷ of_set a.done ∷ []

-- the fields of the messages, by round of the phase
pub record Letter : Type 0 where
  pub s : ℕ

-- the state of node i with input x
abbrev pub start : (k n t x i : ℕ) → Node
start k n t x i = record {
  x = x;
  seen = (only k x);
  heard = 0;
  before = n;
  calm = false;
  done = 0;
}

-- round 1 of a phase: whether j sends to i, and what
abbrev pub sends1 : (k n t : ℕ) → Round → Node → (j i : ℕ) → Bool
sends1 k n t r a j i = true

abbrev pub message1 : (k n t : ℕ) → Round → Node → (j i : ℕ) → Letter
message1 k n t r a j i = record {
  s = a.seen;
}

-- node i after a message of node j
abbrev pub take1 : (k n t : ℕ) → Round → (i j : ℕ) → Letter → Node → Node
take1 k n t r i j l a = record {
  x = a.x;
  seen = (union a.seen l.s);
  heard = (min (a.heard + 1) top);
  before = a.before;
  calm = a.calm;
  done = a.done;
}

-- node i at the end of the round
abbrev pub finish1 : (k n t : ℕ) → Round → (i : ℕ) → Node → Node
finish1 k n t r i a = record {
  x = a.x;
  seen = a.seen;
  heard = 0;
  before = a.heard;
  calm = (a.calm || (a.heard == a.before));
  done = (if (a.calm || (nat_le (min (t + 1) top) r.number)) then a.seen else a.done);
}

abbrev pub sends_at : ℕ → (k n t : ℕ) → Round → Node → (j i : ℕ) → Bool
sends_at q k n t r a j i = sends1 k n t r a j i

abbrev pub message_at : ℕ → (k n t : ℕ) → Round → Node → (j i : ℕ) → Letter
message_at q k n t r a j i = message1 k n t r a j i

abbrev pub take_at : ℕ → (k n t : ℕ) → Round → (i j : ℕ) → Letter → Node → Node
take_at q k n t r i j l a = take1 k n t r i j l a

abbrev pub finish_at : ℕ → (k n t : ℕ) → Round → (i : ℕ) → Node → Node
finish_at q k n t r i a = finish1 k n t r i a

abbrev pub letter_at : ℕ → Letter → List Value
letter_at q l = of_set l.s ∷ []

abbrev pub letter : Round → Letter → List Value
letter r l = letter_at r.position l

abbrev pub machine : (k n t : ℕ) → Machine Node Letter
machine k n t = record {
  start = λ x i. start k n t x i;
  sends = λ r a j i. sends_at r.position k n t r a j i;
  message = λ r a j i. message_at r.position k n t r a j i;
  take = λ r i j l a. take_at r.position k n t r i j l a;
  finish = λ r i a. finish_at r.position k n t r i a;
}

sent_is : (k n t q number phase : ℕ) (a : Node) (j i : ℕ) → q < 1
    → sent (slice_get (early_flooding_tree k).blocks q)
    (with_dest i (with_vars (state a) (env_in (early_flooding_tree k) n t
    (record { position = q; number = number; phase = phase }) j)))
    ≡ (if sends_at q k n t (record { position = q; number = number; phase = phase }) a j i
    then Some (letter_at q
    (message_at q k n t (record
    { position = q; number = number; phase = phase }) a j i)) else None)
sent_is k n t zero number phase a j i h = refl
sent_is k n t (suc q) number phase a j i h = absurd (omega arith)

took : (k n t q number phase i j : ℕ) (l : Letter) (a : Node) → q < 1
    → message_taken (slice_get (early_flooding_tree k).blocks q)
    (env_in (early_flooding_tree k) n t
    (record { position = q; number = number; phase = phase }) i)
    (record { from = j; message = letter_at q l }) (state a)
    ≡ state (take_at q k n t (record { position = q; number = number; phase = phase }) i j l a)
took k n t zero number phase i j l a h = refl
took k n t (suc q) number phase i j l a h = absurd (omega arith)

finished : (k n t q number phase i : ℕ) (a : Node) → q < 1
    → round_finished (slice_get (early_flooding_tree k).blocks q)
    (env_in (early_flooding_tree k) n t
    (record { position = q; number = number; phase = phase }) i) (state a)
    ≡ state (finish_at q k n t (record { position = q; number = number; phase = phase }) i a)
finished k n t zero number phase i a h = let r : Round = (record
    { position = zero; number = number; phase = phase }) in ap
    (λ (z : Value). Num a.x ∷ of_set a.seen ∷ Num 0 ∷ Num a.heard ∷ Flag
    (a.calm || (a.heard == a.before)) ∷ z ∷ [])
    (choose_set (a.calm || (nat_le (min (t + 1) top) r.number)) a.seen a.done
    (of_set a.seen) (of_set a.done) refl refl)
finished k n t (suc q) number phase i a h = absurd (omega arith)

-- the steps are those of the program
pub spells : (k n t : ℕ) → Spells (early_flooding_tree k) n t (machine k n t) state letter
spells k n t = record {
  period = omega arith;
  start = λ x i. refl;
  send = λ r a j i h. sent_is k n t r.position r.number r.phase a j i h;
  take = λ r i j l a h. took k n t r.position r.number r.phase i j l a h;
  finish = λ r i a h. finished k n t r.position r.number r.phase i a h;
}

abbrev pub decided : Node → Option ℕ
decided a = first_member (members a.done)

pub shows : (k : ℕ) (a : Node) → decision (early_flooding_tree k) (state a) ≡ decided a
shows k a = refl
