-- The rotating coordinator as steps of nodes. Its nodes are those of LastVoting, with the pick as
-- the vote and without `ready`, and its first two rounds are LastVoting's. No reader has to believe
-- this file: `spells` ties it to the program.
use Rattle.std.proofs.Common.{◌≡◌, ℕ, zero, suc, ◌+◌, ◌-◌, ◌<◌, Bool, false, cond, List, []}
use Rattle.std.proofs.Common.{◌∷◌, refl, ap, ◌∙◌, min, Some, None, arith}
use Rattle.std.specs.Prelude.{◌&&◌, ◌||◌, not, nat_lt, slice_get, ◌==◌, if◌then◌else◌}
use Rattle.std.specs.List.{range_with_len}
use mathlib.Core.Path.{fun_ext}
use Rattle.round_lang.specs.declared.value.Value.{Value}
use Rattle.round_lang.specs.declared.value.Value.TheVariants.{Flag, Num}
use Rattle.round_lang.specs.Sets.{only, size}
use Rattle.round_lang.specs.Values.{div_or_0, mod_or_0, of_set}
use Rattle.round_meaning.specs.declared.setup.Setup.{Setup}
use Rattle.round_meaning.specs.Turn.{decision, message_taken, round_finished, sent}
use Rattle.round_meaning.specs.Turn.{with_dest, with_vars}
use Rattle.round_proofs.specs.Machines.{Machine, Round, Spells, env_in, hear, next_world}
use Rattle.round_proofs.proofs.Choices.{choose_num, choose_set}
use Rattle.shelf_proofs.specs.RotatingCoordinator.{rotating_coordinator_tree}
use Rattle.shelf_proofs.proofs.LastVotingInvariant.{World}
use Rattle.shelf_proofs.proofs.LastVotingSteps as voting
use Rattle.shelf_proofs.proofs.LastVotingSteps.{Node, decided, finish1, finish2, message1, message2}
use Rattle.shelf_proofs.proofs.LastVotingSteps.{sends1, sends2, start, take1, take2, top}
use Rattle.shelf_proofs.proofs.LastVotingVotes.{after1, after2, c1, c2}

abbrev pub state : Node → List Value
state a = Num a.x ∷ Num a.stamp ∷ Num a.count ∷ Num a.newest ∷ of_set a.vote ∷ of_set a.done ∷ []

-- the fields of the messages: those of LastVoting in the first two rounds
pub record Letter : Type 0 where
  pub vote : voting.Letter
  pub ack : Bool
  pub done : ℕ

abbrev pub no_vote : voting.Letter
no_vote = record { v1 = 0; s1 = 0; v2 = 0; v4 = 0 }

-- round 3 of a phase: whether j sends to i, and what
abbrev pub sends3 : (n : ℕ) → Round → (i : ℕ) → Bool
sends3 n r i = i == mod_or_0 (r.phase - 1) n

abbrev pub message3 : Round → Node → Letter
message3 r a = record { vote = no_vote; ack = a.stamp == r.phase; done = 0 }

abbrev pub take3 : Letter → Node → Node
take3 l a = record {
  x = a.x;
  stamp = a.stamp;
  count = (if l.ack then min (a.count + 1) top else a.count);
  newest = a.newest;
  vote = a.vote;
  ready = a.ready;
  done = a.done;
}

abbrev pub finish3 : (n : ℕ) → Node → Node
finish3 n a = record {
  x = a.x;
  stamp = a.stamp;
  count = 0;
  newest = a.newest;
  vote = 0;
  ready = a.ready;
  done = (if nat_lt (div_or_0 n 2) a.count then a.vote else a.done);
}

-- round 4 of a phase
abbrev pub sends4 : Node → Bool
sends4 a = nat_lt 0 (size a.done)

abbrev pub message4 : Node → Letter
message4 a = record { vote = no_vote; ack = false; done = a.done }

abbrev pub take4 : Letter → Node → Node
take4 l a = record {
  x = a.x;
  stamp = a.stamp;
  count = a.count;
  newest = a.newest;
  vote = a.vote;
  ready = a.ready;
  done = l.done;
}

abbrev pub sends_at : ℕ → (k n t : ℕ) → Round → Node → (j i : ℕ) → Bool
sends_at zero k n t r a j i = sends1 k n t r a j i
sends_at (suc zero) k n t r a j i = sends2 k n t r a j i
sends_at (suc (suc zero)) k n t r a j i = sends3 n r i
sends_at (suc (suc (suc q))) k n t r a j i = sends4 a

abbrev pub message_at : ℕ → (k n t : ℕ) → Round → Node → (j i : ℕ) → Letter
message_at zero k n t r a j i =
    record { vote = message1 k n t r a j i; ack = false; done = 0 }
message_at (suc zero) k n t r a j i =
    record { vote = message2 k n t r a j i; ack = false; done = 0 }
message_at (suc (suc zero)) k n t r a j i = message3 r a
message_at (suc (suc (suc q))) k n t r a j i = message4 a

abbrev pub take_at : ℕ → (k n t : ℕ) → Round → (i j : ℕ) → Letter → Node → Node
take_at zero k n t r i j l a = take1 k n t r i j l.vote a
take_at (suc zero) k n t r i j l a = take2 k n t r i j l.vote a
take_at (suc (suc zero)) k n t r i j l a = take3 l a
take_at (suc (suc (suc q))) k n t r i j l a = take4 l a

abbrev pub finish_at : ℕ → (k n t : ℕ) → Round → (i : ℕ) → Node → Node
finish_at zero k n t r i a = finish1 k n t r i a
finish_at (suc zero) k n t r i a = finish2 k n t r i a
finish_at (suc (suc zero)) k n t r i a = finish3 n a
finish_at (suc (suc (suc q))) k n t r i a = a

abbrev pub letter_at : ℕ → Letter → List Value
letter_at zero l = Num l.vote.v1 ∷ Num l.vote.s1 ∷ []
letter_at (suc zero) l = Num l.vote.v2 ∷ []
letter_at (suc (suc zero)) l = Flag l.ack ∷ []
letter_at (suc (suc (suc q))) l = of_set l.done ∷ []

abbrev pub letter : Round → Letter → List Value
letter r l = letter_at r.position l

abbrev pub machine : (k n t : ℕ) → Machine Node Letter
machine k n t = record {
  start = λ x i. start k n t x i;
  sends = λ r a j i. sends_at r.position k n t r a j i;
  message = λ r a j i. message_at r.position k n t r a j i;
  take = λ r i j l a. take_at r.position k n t r i j l a;
  finish = λ r i a. finish_at r.position k n t r i a;
}

sent_is : (k n t q number phase : ℕ) (a : Node) (j i : ℕ) → q < 4
    → sent (slice_get (rotating_coordinator_tree k).blocks q)
    (with_dest i (with_vars (state a) (env_in (rotating_coordinator_tree k) n t
    (record { position = q; number = number; phase = phase }) j)))
    ≡ (if sends_at q k n t (record { position = q; number = number; phase = phase }) a j i
    then Some (letter_at q
    (message_at q k n t (record { position = q; number = number; phase = phase }) a j i))
    else None)
sent_is k n t zero number phase a j i h = refl
sent_is k n t (suc zero) number phase a j i h = refl
sent_is k n t (suc (suc zero)) number phase a j i h = refl
sent_is k n t (suc (suc (suc zero))) number phase a j i h = refl
sent_is k n t (suc (suc (suc (suc q)))) number phase a j i h = absurd (omega arith)

took : (k n t q number phase i j : ℕ) (l : Letter) (a : Node) → q < 4
    → message_taken (slice_get (rotating_coordinator_tree k).blocks q)
    (env_in (rotating_coordinator_tree k) n t
    (record { position = q; number = number; phase = phase }) i)
    (record { from = j; message = letter_at q l }) (state a)
    ≡ state (take_at q k n t (record { position = q; number = number; phase = phase }) i j l a)
took k n t zero number phase i j l a h =
    ap (λ (z : Value). Num a.x ∷ Num a.stamp ∷ Num (min (a.count + 1) top) ∷ z
    ∷ (if ((a.count == 0) || nat_lt a.newest l.vote.s1) then of_set (only k l.vote.v1)
    else of_set a.vote) ∷ of_set a.done ∷ []) (choose_num (nat_lt a.newest l.vote.s1) l.vote.s1
    a.newest (Num l.vote.s1) (Num a.newest) refl refl)
    ∙ ap (λ (z : Value). Num a.x ∷ Num a.stamp ∷ Num (min (a.count + 1) top)
    ∷ Num (if nat_lt a.newest l.vote.s1 then l.vote.s1 else a.newest) ∷ z ∷ of_set a.done ∷ [])
    (choose_set ((a.count == 0) || nat_lt a.newest l.vote.s1) (only k l.vote.v1) a.vote
    (of_set (only k l.vote.v1)) (of_set a.vote) refl refl)
took k n t (suc zero) number phase i j l a h = refl
took k n t (suc (suc zero)) number phase i j l a h =
    ap (λ (z : Value). Num a.x ∷ Num a.stamp ∷ z ∷ Num a.newest ∷ of_set a.vote ∷ of_set a.done
    ∷ []) (choose_num l.ack (min (a.count + 1) top) a.count (Num (min (a.count + 1) top))
    (Num a.count) refl refl)
took k n t (suc (suc (suc zero))) number phase i j l a h = refl
took k n t (suc (suc (suc (suc q)))) number phase i j l a h = absurd (omega arith)

finished : (k n t q number phase i : ℕ) (a : Node) → q < 4
    → round_finished (slice_get (rotating_coordinator_tree k).blocks q)
    (env_in (rotating_coordinator_tree k) n t
    (record { position = q; number = number; phase = phase }) i) (state a)
    ≡ state (finish_at q k n t (record { position = q; number = number; phase = phase }) i a)
finished k n t zero number phase i a h =
    ap (λ (z : Value). Num a.x ∷ Num a.stamp ∷ Num 0 ∷ Num 0 ∷ z ∷ of_set a.done ∷ [])
    (choose_set (nat_lt (div_or_0 n 2) a.count) a.vote 0 (of_set a.vote) (of_set 0) refl refl)
finished k n t (suc zero) number phase i a h = refl
finished k n t (suc (suc zero)) number phase i a h =
    ap (λ (z : Value). Num a.x ∷ Num a.stamp ∷ Num 0 ∷ Num a.newest ∷ of_set 0 ∷ z ∷ [])
    (choose_set (nat_lt (div_or_0 n 2) a.count) a.vote a.done (of_set a.vote) (of_set a.done)
    refl refl)
finished k n t (suc (suc (suc zero))) number phase i a h = refl
finished k n t (suc (suc (suc (suc q)))) number phase i a h = absurd (omega arith)

-- the steps are those of the program
pub spells : (k n t : ℕ) → Spells (rotating_coordinator_tree k) n t (machine k n t) state letter
spells k n t = record {
  period = omega arith;
  start = λ x i. refl;
  send = λ r a j i h. sent_is k n t r.position r.number r.phase a j i h;
  take = λ r i j l a h. took k n t r.position r.number r.phase i j l a h;
  finish = λ r i a h. finished k n t r.position r.number r.phase i a h;
}

pub shows : (k : ℕ) (a : Node) → decision (rotating_coordinator_tree k) (state a) ≡ decided a
shows k a = refl

-- whom i hears in the last two rounds of a phase, and what it makes of that
abbrev pub c3 : Setup → Round → (ℕ → ℕ → Bool) → ℕ → ℕ → Bool
c3 s r o i j = not (o i j) && sends3 s.nodes r i

abbrev pub ear3 : Setup → Round → (ℕ → ℕ → Bool) → World → ℕ → Node
ear3 s r o w i =
    hear (λ j. take3) (c3 s r o i) (λ j. message3 r (w j)) (range_with_len 0 s.nodes) (w i)

abbrev pub after3 : Setup → Round → (ℕ → ℕ → Bool) → World → World
after3 s r o w i = finish3 s.nodes (ear3 s r o w i)

abbrev pub c4 : (ℕ → ℕ → Bool) → World → ℕ → ℕ → Bool
c4 o w i j = not (o i j) && sends4 (w j)

abbrev pub after4 : Setup → (ℕ → ℕ → Bool) → World → World
after4 s o w i =
    hear (λ j. take4) (c4 o w i) (λ j. message4 (w j)) (range_with_len 0 s.nodes) (w i)

-- a round by its position in the phase
abbrev pub next : (k : ℕ) → Setup → ℕ → Round → (ℕ → ℕ → Bool) → World → World
next k s zero r o w = after1 k s r o w
next k s (suc zero) r o w = after2 k s r o w
next k s (suc (suc zero)) r o w = after3 s r o w
next k s (suc (suc (suc p))) r o w = after4 s o w

-- what is heard in LastVoting's letters
same_hear : (take : ℕ → voting.Letter → Node → Node) (c : ℕ → Bool) (m : ℕ → voting.Letter)
    (js : List ℕ) (a : Node)
    → hear (λ j (l : Letter) a. take j l.vote a) c
    (λ j. record { vote = m j; ack = false; done = 0 }) js a ≡ hear take c m js a
same_hear take c m [] a = refl
same_hear take c m (j ∷ js) a = same_hear take c m js (cond (c j) (take j (m j) a) a)

-- the machine's rounds are these
pub next_is : (k : ℕ) (s : Setup) (p number f : ℕ) (o : ℕ → ℕ → Bool) (w : World)
    → next_world (machine k s.nodes s.faults) s.nodes
    (record { position = p; number = number; phase = f }) o w
    ≡ next k s p (record { position = p; number = number; phase = f }) o w
next_is k s zero number f o w =
    let r : Round = record { position = 0; number = number; phase = f } in
    fun_ext (λ i. ap (finish1 k s.nodes s.faults r i)
    (same_hear (take1 k s.nodes s.faults r i) (c1 k s r o w i)
    (λ j. message1 k s.nodes s.faults r (w j) j i) (range_with_len 0 s.nodes) (w i)))
next_is k s (suc zero) number f o w =
    let r : Round = record { position = 1; number = number; phase = f } in
    fun_ext (λ i. ap (finish2 k s.nodes s.faults r i)
    (same_hear (take2 k s.nodes s.faults r i) (c2 k s r o w i)
    (λ j. message2 k s.nodes s.faults r (w j) j i) (range_with_len 0 s.nodes) (w i)))
next_is k s (suc (suc zero)) number f o w = refl
next_is k s (suc (suc (suc p))) number f o w = refl
