-- LastVoting as steps of nodes. No reader has to believe this file: `spells` ties it to the
-- program.
use Rattle.std.proofs.Common.{◌≡◌, ℕ, zero, suc, ◌+◌, ◌-◌, ◌<◌, Bool, false, List, []}
use Rattle.std.proofs.Common.{◌∷◌, refl, ap, ◌∙◌, Option, Some, None, arith}
use Rattle.std.specs.Prelude.{min, ◌&&◌, ◌||◌, nat_lt, ◌==◌, slice_get}
use Rattle.std.specs.Prelude.{if◌then◌else◌}
use Rattle.round_lang.specs.declared.value.Value.{Value}
use Rattle.round_lang.specs.declared.value.Value.TheVariants.{Num, Flag}
use Rattle.round_lang.specs.Sets.{least, members, only}
use Rattle.round_lang.specs.Sets.{size}
use Rattle.round_lang.specs.Values.{div_or_0, mod_or_0, of_set}
use Rattle.round_meaning.specs.Turn.{decision, first_member, message_taken, round_finished, sent}
use Rattle.round_meaning.specs.Turn.{with_dest, with_vars}
use Rattle.round_proofs.specs.Machines.{Machine, Round, Spells, env_in}
use Rattle.shelf_proofs.specs.LastVoting.{last_voting_tree}
use Rattle.round_proofs.proofs.Choices.{choose_num, choose_set}

abbrev pub top : ℕ
top = 4294967295

-- a node's variables
pub record Node : Type 0 where
  pub x : ℕ
  pub stamp : ℕ
  pub count : ℕ
  pub newest : ℕ
  pub vote : ℕ
  pub ready : Bool
  pub done : ℕ

abbrev pub state : Node → List Value
state a = Num a.x ∷ Num a.stamp ∷ Num a.count ∷ Num a.newest ∷ of_set a.vote ∷ Flag a.ready
    ∷ of_set a.done ∷ []

-- the fields of the messages, by round of the phase
pub record Letter : Type 0 where
  pub v1 : ℕ
  pub s1 : ℕ
  pub v2 : ℕ
  pub v4 : ℕ

-- the state of node i with input x
abbrev pub start : (k n t x i : ℕ) → Node
start k n t x i = record {
  x = x;
  stamp = 0;
  count = 0;
  newest = 0;
  vote = 0;
  ready = false;
  done = 0;
}

-- round 1 of a phase: whether j sends to i, and what
abbrev pub sends1 : (k n t : ℕ) → Round → Node → (j i : ℕ) → Bool
sends1 k n t r a j i = (i == (mod_or_0 (r.phase - 1) n))

abbrev pub message1 : (k n t : ℕ) → Round → Node → (j i : ℕ) → Letter
message1 k n t r a j i = record {
  v1 = a.x;
  s1 = a.stamp;
  v2 = 0;
  v4 = 0;
}

-- node i after a message of node j
abbrev pub take1 : (k n t : ℕ) → Round → (i j : ℕ) → Letter → Node → Node
take1 k n t r i j l a = record {
  x = a.x;
  stamp = a.stamp;
  count = (min (a.count + 1) top);
  newest = (if (nat_lt a.newest l.s1) then l.s1 else a.newest);
  vote = (if ((a.count == 0) || (nat_lt a.newest l.s1)) then (only k l.v1) else a.vote);
  ready = a.ready;
  done = a.done;
}

-- node i at the end of the round
abbrev pub finish1 : (k n t : ℕ) → Round → (i : ℕ) → Node → Node
finish1 k n t r i a = record {
  x = a.x;
  stamp = a.stamp;
  count = 0;
  newest = 0;
  vote = (if (nat_lt (div_or_0 n 2) a.count) then a.vote else 0);
  ready = a.ready;
  done = a.done;
}

-- round 2 of a phase: whether j sends to i, and what
abbrev pub sends2 : (k n t : ℕ) → Round → Node → (j i : ℕ) → Bool
sends2 k n t r a j i = (nat_lt 0 (size a.vote))

abbrev pub message2 : (k n t : ℕ) → Round → Node → (j i : ℕ) → Letter
message2 k n t r a j i = record {
  v1 = 0;
  s1 = 0;
  v2 = (least k a.vote);
  v4 = 0;
}

-- node i after a message of node j
abbrev pub take2 : (k n t : ℕ) → Round → (i j : ℕ) → Letter → Node → Node
take2 k n t r i j l a = record {
  x = l.v2;
  stamp = r.phase;
  count = a.count;
  newest = a.newest;
  vote = a.vote;
  ready = a.ready;
  done = a.done;
}

-- node i at the end of the round
abbrev pub finish2 : (k n t : ℕ) → Round → (i : ℕ) → Node → Node
finish2 k n t r i a = record {
  x = a.x;
  stamp = a.stamp;
  count = a.count;
  newest = a.newest;
  vote = a.vote;
  ready = a.ready;
  done = a.done;
}

-- round 3 of a phase: whether j sends to i, and what
abbrev pub sends3 : (k n t : ℕ) → Round → Node → (j i : ℕ) → Bool
sends3 k n t r a j i = ((a.stamp == r.phase) && (i == (mod_or_0 (r.phase - 1) n)))

abbrev pub message3 : (k n t : ℕ) → Round → Node → (j i : ℕ) → Letter
message3 k n t r a j i = record {
  v1 = 0;
  s1 = 0;
  v2 = 0;
  v4 = 0;
}

-- node i after a message of node j
abbrev pub take3 : (k n t : ℕ) → Round → (i j : ℕ) → Letter → Node → Node
take3 k n t r i j l a = record {
  x = a.x;
  stamp = a.stamp;
  count = (min (a.count + 1) top);
  newest = a.newest;
  vote = a.vote;
  ready = a.ready;
  done = a.done;
}

-- node i at the end of the round
abbrev pub finish3 : (k n t : ℕ) → Round → (i : ℕ) → Node → Node
finish3 k n t r i a = record {
  x = a.x;
  stamp = a.stamp;
  count = 0;
  newest = a.newest;
  vote = a.vote;
  ready = (nat_lt (div_or_0 n 2) a.count);
  done = a.done;
}

-- round 4 of a phase: whether j sends to i, and what
abbrev pub sends4 : (k n t : ℕ) → Round → Node → (j i : ℕ) → Bool
sends4 k n t r a j i = a.ready

abbrev pub message4 : (k n t : ℕ) → Round → Node → (j i : ℕ) → Letter
message4 k n t r a j i = record {
  v1 = 0;
  s1 = 0;
  v2 = 0;
  v4 = (least k a.vote);
}

-- node i after a message of node j
abbrev pub take4 : (k n t : ℕ) → Round → (i j : ℕ) → Letter → Node → Node
take4 k n t r i j l a = record {
  x = a.x;
  stamp = a.stamp;
  count = a.count;
  newest = a.newest;
  vote = a.vote;
  ready = a.ready;
  done = (only k l.v4);
}

-- node i at the end of the round
abbrev pub finish4 : (k n t : ℕ) → Round → (i : ℕ) → Node → Node
finish4 k n t r i a = record {
  x = a.x;
  stamp = a.stamp;
  count = a.count;
  newest = a.newest;
  vote = 0;
  ready = false;
  done = a.done;
}

abbrev pub sends_at : ℕ → (k n t : ℕ) → Round → Node → (j i : ℕ) → Bool
sends_at zero k n t r a j i = sends1 k n t r a j i
sends_at (suc zero) k n t r a j i = sends2 k n t r a j i
sends_at (suc (suc zero)) k n t r a j i = sends3 k n t r a j i
sends_at (suc (suc (suc q))) k n t r a j i = sends4 k n t r a j i

abbrev pub message_at : ℕ → (k n t : ℕ) → Round → Node → (j i : ℕ) → Letter
message_at zero k n t r a j i = message1 k n t r a j i
message_at (suc zero) k n t r a j i = message2 k n t r a j i
message_at (suc (suc zero)) k n t r a j i = message3 k n t r a j i
message_at (suc (suc (suc q))) k n t r a j i = message4 k n t r a j i

abbrev pub take_at : ℕ → (k n t : ℕ) → Round → (i j : ℕ) → Letter → Node → Node
take_at zero k n t r i j l a = take1 k n t r i j l a
take_at (suc zero) k n t r i j l a = take2 k n t r i j l a
take_at (suc (suc zero)) k n t r i j l a = take3 k n t r i j l a
take_at (suc (suc (suc q))) k n t r i j l a = take4 k n t r i j l a

abbrev pub finish_at : ℕ → (k n t : ℕ) → Round → (i : ℕ) → Node → Node
finish_at zero k n t r i a = finish1 k n t r i a
finish_at (suc zero) k n t r i a = finish2 k n t r i a
finish_at (suc (suc zero)) k n t r i a = finish3 k n t r i a
finish_at (suc (suc (suc q))) k n t r i a = finish4 k n t r i a

abbrev pub letter_at : ℕ → Letter → List Value
letter_at zero l = Num l.v1 ∷ Num l.s1 ∷ []
letter_at (suc zero) l = Num l.v2 ∷ []
letter_at (suc (suc zero)) l = []
letter_at (suc (suc (suc q))) l = Num l.v4 ∷ []

abbrev pub letter : Round → Letter → List Value
letter r l = letter_at r.position l

abbrev pub machine : (k n t : ℕ) → Machine Node Letter
machine k n t = record {
  start = λ x i. start k n t x i;
  sends = λ r a j i. sends_at r.position k n t r a j i;
  message = λ r a j i. message_at r.position k n t r a j i;
  take = λ r i j l a. take_at r.position k n t r i j l a;
  finish = λ r i a. finish_at r.position k n t r i a;
}

sent_is : (k n t q number phase : ℕ) (a : Node) (j i : ℕ) → q < 4
    → sent (slice_get (last_voting_tree k).blocks q)
    (with_dest i (with_vars (state a) (env_in (last_voting_tree k) n t
    (record { position = q; number = number; phase = phase }) j)))
    ≡ (if sends_at q k n t (record { position = q; number = number; phase = phase }) a j i
    then Some (letter_at q
    (message_at q k n t (record { position = q; number = number; phase = phase }) a j i))
    else None)
sent_is k n t zero number phase a j i h = refl
sent_is k n t (suc zero) number phase a j i h = refl
sent_is k n t (suc (suc zero)) number phase a j i h = refl
sent_is k n t (suc (suc (suc zero))) number phase a j i h = refl
sent_is k n t (suc (suc (suc (suc q)))) number phase a j i h = absurd (omega arith)

took : (k n t q number phase i j : ℕ) (l : Letter) (a : Node) → q < 4
    → message_taken (slice_get (last_voting_tree k).blocks q)
    (env_in (last_voting_tree k) n t (record { position = q; number = number; phase = phase }) i)
    (record { from = j; message = letter_at q l }) (state a)
    ≡ state (take_at q k n t (record { position = q; number = number; phase = phase }) i j l a)
took k n t zero number phase i j l a h = let r : Round =
    (record { position = zero; number = number; phase = phase })
    in ap (λ (z : Value). Num a.x ∷ Num a.stamp ∷ Num (min (a.count + 1) top) ∷ z
    ∷ (if ((a.count == 0) || (nat_lt a.newest l.s1)) then of_set (only k l.v1) else of_set a.vote)
    ∷ Flag a.ready ∷ of_set a.done ∷ []) (choose_num (nat_lt a.newest l.s1) l.s1 a.newest (Num l.s1)
    (Num a.newest) refl refl)
    ∙ ap (λ (z : Value). Num a.x ∷ Num a.stamp ∷ Num (min (a.count + 1) top)
    ∷ Num (if (nat_lt a.newest l.s1) then l.s1 else a.newest) ∷ z ∷ Flag a.ready ∷ of_set a.done
    ∷ []) (choose_set ((a.count == 0) || (nat_lt a.newest l.s1)) (only k l.v1) a.vote
    (of_set (only k l.v1)) (of_set a.vote) refl refl)
took k n t (suc zero) number phase i j l a h = refl
took k n t (suc (suc zero)) number phase i j l a h = refl
took k n t (suc (suc (suc zero))) number phase i j l a h = refl
took k n t (suc (suc (suc (suc q)))) number phase i j l a h = absurd (omega arith)

finished : (k n t q number phase i : ℕ) (a : Node) → q < 4
    → round_finished (slice_get (last_voting_tree k).blocks q)
    (env_in (last_voting_tree k) n t (record { position = q; number = number; phase = phase }) i)
    (state a)
    ≡ state (finish_at q k n t (record { position = q; number = number; phase = phase }) i a)
finished k n t zero number phase i a h = let r : Round =
    (record { position = zero; number = number; phase = phase })
    in ap (λ (z : Value). Num a.x ∷ Num a.stamp ∷ Num 0 ∷ Num 0 ∷ z ∷ Flag a.ready ∷ of_set a.done
    ∷ []) (choose_set (nat_lt (div_or_0 n 2) a.count) a.vote 0 (of_set a.vote) (of_set 0) refl refl)
finished k n t (suc zero) number phase i a h = refl
finished k n t (suc (suc zero)) number phase i a h = refl
finished k n t (suc (suc (suc zero))) number phase i a h = refl
finished k n t (suc (suc (suc (suc q)))) number phase i a h = absurd (omega arith)

-- the steps are those of the program
pub spells : (k n t : ℕ) → Spells (last_voting_tree k) n t (machine k n t) state letter
spells k n t = record {
  period = omega arith;
  start = λ x i. refl;
  send = λ r a j i h. sent_is k n t r.position r.number r.phase a j i h;
  take = λ r i j l a h. took k n t r.position r.number r.phase i j l a h;
  finish = λ r i a h. finished k n t r.position r.number r.phase i a h;
}

abbrev pub decided : Node → Option ℕ
decided a = first_member (members a.done)

pub shows : (k : ℕ) (a : Node) → decision (last_voting_tree k) (state a) ≡ decided a
shows k a = refl
