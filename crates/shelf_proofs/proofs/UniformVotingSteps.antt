-- UniformVoting as steps of nodes. No reader has to believe this file: `spells` ties it to the
-- program.
use Rattle.std.proofs.Common.{◌≡◌, ℕ, zero, suc, ◌<◌, Bool, true, List, []}
use Rattle.std.proofs.Common.{◌∷◌, refl, ap, ◌∙◌, Option, Some, None, arith}
use Rattle.std.specs.Prelude.{◌&&◌, nat_lt, ◌==◌, slice_get}
use Rattle.std.specs.Prelude.{if◌then◌else◌}
use Rattle.round_lang.specs.declared.value.Value.{Value}
use Rattle.round_lang.specs.declared.value.Value.TheVariants.{Num}
use Rattle.round_lang.specs.Sets.{least, members, only}
use Rattle.round_lang.specs.Sets.{size, union}
use Rattle.round_lang.specs.Values.{of_set}
use Rattle.round_meaning.specs.Turn.{decision, first_member, message_taken, round_finished, sent}
use Rattle.round_meaning.specs.Turn.{with_dest, with_vars}
use Rattle.round_proofs.specs.Machines.{Machine, Round, Spells, env_in}
use Rattle.shelf_proofs.specs.UniformVoting.{uniform_voting_tree}
use Rattle.round_proofs.proofs.Choices.{choose_num, choose_set}

abbrev pub top : ℕ
top = 4294967295

-- a node's variables
pub record Node : Type 0 where
  pub x : ℕ
  pub vote : ℕ
  pub votes : ℕ
  pub open_ : ℕ
  pub done : ℕ

abbrev pub state : Node → List Value
state a = Num a.x ∷ of_set a.vote ∷ of_set a.votes ∷ of_set a.open_ ∷ of_set a.done ∷ []

-- the fields of the messages, by round of the phase
pub record Letter : Type 0 where
  pub v1 : ℕ
  pub v2 : ℕ
  pub w2 : ℕ

-- the state of node i with input x
abbrev pub start : (k n t x i : ℕ) → Node
start k n t x i = record {
  x = x;
  vote = 0;
  votes = 0;
  open_ = 0;
  done = 0;
}

-- round 1 of a phase: whether j sends to i, and what
abbrev pub sends1 : (k n t : ℕ) → Round → Node → (j i : ℕ) → Bool
sends1 k n t r a j i = true

abbrev pub message1 : (k n t : ℕ) → Round → Node → (j i : ℕ) → Letter
message1 k n t r a j i = record {
  v1 = a.x;
  v2 = 0;
  w2 = 0;
}

-- node i after a message of node j
abbrev pub take1 : (k n t : ℕ) → Round → (i j : ℕ) → Letter → Node → Node
take1 k n t r i j l a = record {
  x = a.x;
  vote = a.vote;
  votes = a.votes;
  open_ = (union a.open_ (only k l.v1));
  done = a.done;
}

-- node i at the end of the round
abbrev pub finish1 : (k n t : ℕ) → Round → (i : ℕ) → Node → Node
finish1 k n t r i a = record {
  x = (if (nat_lt 0 (size a.open_)) then (least k a.open_) else a.x);
  vote = (if ((size a.open_) == 1) then a.open_ else 0);
  votes = a.votes;
  open_ = 0;
  done = a.done;
}

-- round 2 of a phase: whether j sends to i, and what
abbrev pub sends2 : (k n t : ℕ) → Round → Node → (j i : ℕ) → Bool
sends2 k n t r a j i = true

abbrev pub message2 : (k n t : ℕ) → Round → Node → (j i : ℕ) → Letter
message2 k n t r a j i = record {
  v1 = 0;
  v2 = a.x;
  w2 = a.vote;
}

-- node i after a message of node j
abbrev pub take2 : (k n t : ℕ) → Round → (i j : ℕ) → Letter → Node → Node
take2 k n t r i j l a = record {
  x = a.x;
  vote = a.vote;
  votes = (union a.votes l.w2);
  open_ = (if ((size l.w2) == 0) then (union a.open_ (only k l.v2)) else a.open_);
  done = a.done;
}

-- node i at the end of the round
abbrev pub finish2 : (k n t : ℕ) → Round → (i : ℕ) → Node → Node
finish2 k n t r i a = record {
  x = (if (nat_lt 0 (size a.votes)) then (least k a.votes)
      else (if (nat_lt 0 (size a.open_)) then (least k a.open_) else a.x));
  vote = 0;
  votes = 0;
  open_ = 0;
  done = (if (((size a.votes) == 1) && ((size a.open_) == 0)) then a.votes else a.done);
}

abbrev pub sends_at : ℕ → (k n t : ℕ) → Round → Node → (j i : ℕ) → Bool
sends_at zero k n t r a j i = sends1 k n t r a j i
sends_at (suc q) k n t r a j i = sends2 k n t r a j i

abbrev pub message_at : ℕ → (k n t : ℕ) → Round → Node → (j i : ℕ) → Letter
message_at zero k n t r a j i = message1 k n t r a j i
message_at (suc q) k n t r a j i = message2 k n t r a j i

abbrev pub take_at : ℕ → (k n t : ℕ) → Round → (i j : ℕ) → Letter → Node → Node
take_at zero k n t r i j l a = take1 k n t r i j l a
take_at (suc q) k n t r i j l a = take2 k n t r i j l a

abbrev pub finish_at : ℕ → (k n t : ℕ) → Round → (i : ℕ) → Node → Node
finish_at zero k n t r i a = finish1 k n t r i a
finish_at (suc q) k n t r i a = finish2 k n t r i a

abbrev pub letter_at : ℕ → Letter → List Value
letter_at zero l = Num l.v1 ∷ []
letter_at (suc q) l = Num l.v2 ∷ of_set l.w2 ∷ []

abbrev pub letter : Round → Letter → List Value
letter r l = letter_at r.position l

abbrev pub machine : (k n t : ℕ) → Machine Node Letter
machine k n t = record {
  start = λ x i. start k n t x i;
  sends = λ r a j i. sends_at r.position k n t r a j i;
  message = λ r a j i. message_at r.position k n t r a j i;
  take = λ r i j l a. take_at r.position k n t r i j l a;
  finish = λ r i a. finish_at r.position k n t r i a;
}

sent_is : (k n t q number phase : ℕ) (a : Node) (j i : ℕ) → q < 2
    → sent (slice_get (uniform_voting_tree k).blocks q)
    (with_dest i (with_vars (state a) (env_in (uniform_voting_tree k) n t
    (record { position = q; number = number; phase = phase }) j)))
    ≡ (if sends_at q k n t (record { position = q; number = number; phase = phase }) a j i
    then Some (letter_at q
    (message_at q k n t (record { position = q; number = number; phase = phase }) a j i))
    else None)
sent_is k n t zero number phase a j i h = refl
sent_is k n t (suc zero) number phase a j i h = refl
sent_is k n t (suc (suc q)) number phase a j i h = absurd (omega arith)

took : (k n t q number phase i j : ℕ) (l : Letter) (a : Node) → q < 2
    → message_taken (slice_get (uniform_voting_tree k).blocks q)
    (env_in (uniform_voting_tree k) n t (record { position = q; number = number; phase = phase }) i)
    (record { from = j; message = letter_at q l }) (state a)
    ≡ state (take_at q k n t (record { position = q; number = number; phase = phase }) i j l a)
took k n t zero number phase i j l a h = refl
took k n t (suc zero) number phase i j l a h = let r : Round =
    (record { position = (suc zero); number = number; phase = phase })
    in ap (λ (z : Value). Num a.x ∷ of_set a.vote ∷ of_set (union a.votes l.w2) ∷ z ∷ of_set a.done
    ∷ []) (choose_set ((size l.w2) == 0) (union a.open_ (only k l.v2)) a.open_
    (of_set (union a.open_ (only k l.v2))) (of_set a.open_) refl refl)
took k n t (suc (suc q)) number phase i j l a h = absurd (omega arith)

finished : (k n t q number phase i : ℕ) (a : Node) → q < 2
    → round_finished (slice_get (uniform_voting_tree k).blocks q)
    (env_in (uniform_voting_tree k) n t (record { position = q; number = number; phase = phase }) i)
    (state a)
    ≡ state (finish_at q k n t (record { position = q; number = number; phase = phase }) i a)
finished k n t zero number phase i a h = let r : Round =
    (record { position = zero; number = number; phase = phase })
    in ap (λ (z : Value). z ∷ (if ((size a.open_) == 1) then of_set a.open_ else of_set 0)
    ∷ of_set a.votes ∷ of_set 0 ∷ of_set a.done ∷ [])
    (choose_num (nat_lt 0 (size a.open_)) (least k a.open_) a.x (Num (least k a.open_)) (Num a.x)
    refl refl)
    ∙ ap (λ (z : Value). Num (if (nat_lt 0 (size a.open_)) then (least k a.open_) else a.x) ∷ z
    ∷ of_set a.votes ∷ of_set 0 ∷ of_set a.done ∷ []) (choose_set ((size a.open_) == 1) a.open_
    0 (of_set a.open_) (of_set 0) refl refl)
finished k n t (suc zero) number phase i a h = let r : Round =
    (record { position = (suc zero); number = number; phase = phase })
    in ap (λ (z : Value). z ∷ of_set 0 ∷ of_set 0 ∷ of_set 0
    ∷ (if (((size a.votes) == 1) && ((size a.open_) == 0)) then of_set a.votes else of_set a.done)
    ∷ []) (choose_num (nat_lt 0 (size a.votes)) (least k a.votes) (if (nat_lt 0 (size a.open_))
    then (least k a.open_) else a.x) (Num (least k a.votes))
    ((if (nat_lt 0 (size a.open_)) then Num (least k a.open_) else Num a.x)) refl
    (choose_num (nat_lt 0 (size a.open_)) (least k a.open_) a.x (Num (least k a.open_)) (Num a.x)
    refl refl))
    ∙ ap (λ (z : Value). Num (if (nat_lt 0 (size a.votes)) then (least k a.votes)
    else (if (nat_lt 0 (size a.open_)) then (least k a.open_) else a.x)) ∷ of_set 0 ∷ of_set 0
    ∷ of_set 0 ∷ z ∷ []) (choose_set (((size a.votes) == 1) && ((size a.open_) == 0)) a.votes
    a.done (of_set a.votes) (of_set a.done) refl refl)
finished k n t (suc (suc q)) number phase i a h = absurd (omega arith)

-- the steps are those of the program
pub spells : (k n t : ℕ) → Spells (uniform_voting_tree k) n t (machine k n t) state letter
spells k n t = record {
  period = omega arith;
  start = λ x i. refl;
  send = λ r a j i h. sent_is k n t r.position r.number r.phase a j i h;
  take = λ r i j l a h. took k n t r.position r.number r.phase i j l a h;
  finish = λ r i a h. finished k n t r.position r.number r.phase i a h;
}

abbrev pub decided : Node → Option ℕ
decided a = first_member (members a.done)

pub shows : (k : ℕ) (a : Node) → decision (uniform_voting_tree k) (state a) ≡ decided a
shows k a = refl
