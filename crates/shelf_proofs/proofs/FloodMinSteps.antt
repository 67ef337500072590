-- FloodMin as steps of nodes. No reader has to believe this file: `spells` ties it to the program.
use Rattle.std.proofs.Common.{◌≡◌, ℕ, zero, suc, ◌+◌, ◌<◌, Bool, true, List, []}
use Rattle.std.proofs.Common.{◌∷◌, refl, ap, Option, Some, None, arith}
use Rattle.std.specs.Prelude.{min, nat_lt, ◌==◌, slice_get}
use Rattle.std.specs.Prelude.{if◌then◌else◌}
use Rattle.round_lang.specs.declared.value.Value.{Value}
use Rattle.round_lang.specs.declared.value.Value.TheVariants.{Num}
use Rattle.round_lang.specs.Sets.{least, members, only}
use Rattle.round_lang.specs.Sets.{union}
use Rattle.round_lang.specs.Values.{div_or_0, of_set}
use Rattle.round_meaning.specs.Turn.{decision, first_member, message_taken, round_finished, sent}
use Rattle.round_meaning.specs.Turn.{with_dest, with_vars}
use Rattle.round_proofs.specs.Machines.{Machine, Round, Spells, env_in}
use Rattle.shelf_proofs.specs.FloodMin.{floodmin_tree}
use Rattle.round_proofs.proofs.Choices.{choose_set}

abbrev pub top : ℕ
top = 4294967295

-- a node's variables
pub record Node : Type 0 where
  pub x : ℕ
  pub lowest : ℕ
  pub chosen : ℕ
  pub told : ℕ

abbrev pub state : Node → List Value
state a = Num a.x ∷ of_set a.lowest ∷ of_set a.chosen ∷ of_set a.told ∷ []

-- the fields of the messages, by round of the phase
pub record Letter : Type 0 where
  pub v : ℕ
  pub c : ℕ

-- the state of node i with input x
abbrev pub start : (k n t x i : ℕ) → Node
start k n t x i = record {
  x = x;
  lowest = (only k x);
  chosen = 0;
  told = 0;
}

-- round 1 of a phase: whether j sends to i, and what
abbrev pub sends1 : (k n t : ℕ) → Round → Node → (j i : ℕ) → Bool
sends1 k n t r a j i = true

abbrev pub message1 : (k n t : ℕ) → Round → Node → (j i : ℕ) → Letter
message1 k n t r a j i = record {
  v = a.lowest;
  c = a.chosen;
}

-- node i after a message of node j
abbrev pub take1 : (k n t : ℕ) → Round → (i j : ℕ) → Letter → Node → Node
take1 k n t r i j l a = record {
  x = a.x;
  lowest = (if (nat_lt (least k l.v) (least k a.lowest)) then l.v else a.lowest);
  chosen = a.chosen;
  told = (union a.told l.c);
}

-- node i at the end of the round
abbrev pub finish1 : (k n t : ℕ) → Round → (i : ℕ) → Node → Node
finish1 k n t r i a = record {
  x = a.x;
  lowest = a.lowest;
  chosen = (if (r.number == (min ((div_or_0 t 2) + 1) top)) then a.lowest else a.chosen);
  told = a.told;
}

abbrev pub sends_at : ℕ → (k n t : ℕ) → Round → Node → (j i : ℕ) → Bool
sends_at q k n t r a j i = sends1 k n t r a j i

abbrev pub message_at : ℕ → (k n t : ℕ) → Round → Node → (j i : ℕ) → Letter
message_at q k n t r a j i = message1 k n t r a j i

abbrev pub take_at : ℕ → (k n t : ℕ) → Round → (i j : ℕ) → Letter → Node → Node
take_at q k n t r i j l a = take1 k n t r i j l a

abbrev pub finish_at : ℕ → (k n t : ℕ) → Round → (i : ℕ) → Node → Node
finish_at q k n t r i a = finish1 k n t r i a

abbrev pub letter_at : ℕ → Letter → List Value
letter_at q l = of_set l.v ∷ of_set l.c ∷ []

abbrev pub letter : Round → Letter → List Value
letter r l = letter_at r.position l

abbrev pub machine : (k n t : ℕ) → Machine Node Letter
machine k n t = record {
  start = λ x i. start k n t x i;
  sends = λ r a j i. sends_at r.position k n t r a j i;
  message = λ r a j i. message_at r.position k n t r a j i;
  take = λ r i j l a. take_at r.position k n t r i j l a;
  finish = λ r i a. finish_at r.position k n t r i a;
}

sent_is : (k n t q number phase : ℕ) (a : Node) (j i : ℕ) → q < 1
    → sent (slice_get (floodmin_tree k).blocks q)
    (with_dest i (with_vars (state a) (env_in (floodmin_tree k) n t
    (record { position = q; number = number; phase = phase }) j)))
    ≡ (if sends_at q k n t (record { position = q; number = number; phase = phase }) a j i
    then Some (letter_at q
    (message_at q k n t (record { position = q; number = number; phase = phase }) a j i))
    else None)
sent_is k n t zero number phase a j i h = refl
sent_is k n t (suc q) number phase a j i h = absurd (omega arith)

took : (k n t q number phase i j : ℕ) (l : Letter) (a : Node) → q < 1
    → message_taken (slice_get (floodmin_tree k).blocks q)
    (env_in (floodmin_tree k) n t (record { position = q; number = number; phase = phase }) i)
    (record { from = j; message = letter_at q l }) (state a)
    ≡ state (take_at q k n t (record { position = q; number = number; phase = phase }) i j l a)
took k n t zero number phase i j l a h = let r : Round =
    (record { position = zero; number = number; phase = phase })
    in ap (λ (z : Value). Num a.x ∷ z ∷ of_set a.chosen ∷ of_set (union a.told l.c) ∷ [])
    (choose_set (nat_lt (least k l.v) (least k a.lowest)) l.v a.lowest (of_set l.v)
    (of_set a.lowest) refl refl)
took k n t (suc q) number phase i j l a h = absurd (omega arith)

finished : (k n t q number phase i : ℕ) (a : Node) → q < 1
    → round_finished (slice_get (floodmin_tree k).blocks q)
    (env_in (floodmin_tree k) n t (record { position = q; number = number; phase = phase }) i)
    (state a)
    ≡ state (finish_at q k n t (record { position = q; number = number; phase = phase }) i a)
finished k n t zero number phase i a h = let r : Round =
    (record { position = zero; number = number; phase = phase })
    in ap (λ (z : Value). Num a.x ∷ of_set a.lowest ∷ z ∷ of_set a.told ∷ [])
    (choose_set (r.number == (min ((div_or_0 t 2) + 1) top)) a.lowest a.chosen (of_set a.lowest)
    (of_set a.chosen) refl refl)
finished k n t (suc q) number phase i a h = absurd (omega arith)

-- the steps are those of the program
pub spells : (k n t : ℕ) → Spells (floodmin_tree k) n t (machine k n t) state letter
spells k n t = record {
  period = omega arith;
  start = λ x i. refl;
  send = λ r a j i h. sent_is k n t r.position r.number r.phase a j i h;
  take = λ r i j l a h. took k n t r.position r.number r.phase i j l a h;
  finish = λ r i a h. finished k n t r.position r.number r.phase i a h;
}

abbrev pub decided : Node → Option ℕ
decided a = first_member (members a.chosen)

pub shows : (k : ℕ) (a : Node) → decision (floodmin_tree k) (state a) ≡ decided a
shows k a = refl
