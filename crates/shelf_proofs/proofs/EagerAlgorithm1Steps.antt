-- Algorithm 1 whose nodes send in every fourth round, as steps of nodes. The first three rounds are
-- those of Algorithm 1. No reader has to believe this file: `spells` ties it to the program.
use Rattle.std.proofs.Common.{◌≡◌, ℕ, zero, suc, ◌<◌, Bool, true, List}
use Rattle.std.proofs.Common.{refl, ap, Some, None, arith}
use Rattle.std.specs.Prelude.{◌&&◌, not, nat_lt, slice_get, ◌==◌, if◌then◌else◌}
use Rattle.std.specs.List.{range_with_len}
use mathlib.Core.Path.{fun_ext}
use Rattle.round_lang.specs.declared.value.Value.{Value}
use Rattle.round_lang.specs.Sets.{size}
use Rattle.round_lang.specs.Values.{flag, set}
use Rattle.round_meaning.specs.Turn.{decision, message_taken, round_finished, sent}
use Rattle.round_meaning.specs.Turn.{with_dest, with_vars}
use Rattle.round_meaning.proofs.PhaseProgram.{one, two, values_of}
use Rattle.round_meaning.proofs.PhaseSteps.{Message, Node, Setting, World, finish1, finish3}
use Rattle.round_meaning.proofs.PhaseSteps.{hears1, hears2, hears3, message1, message2, message3}
use Rattle.round_meaning.proofs.PhaseSteps.{message4, node_decision, owner, round1, round2, round3}
use Rattle.round_meaning.proofs.PhaseSteps.{start, take1, take2, take3, take4}
use Rattle.round_proofs.specs.Machines.{Machine, Round, Spells, env_in, next_world}
use Rattle.shelf_proofs.specs.EagerAlgorithm1.{eager_algorithm_1_tree}
use Rattle.shelf_proofs.proofs.Algorithm1Kept.{release, same_hear}

abbrev pub sends_at : ℕ → Setting → (k : ℕ) → Node → (i : ℕ) → Bool
sends_at zero s k a i = i == owner s k
sends_at (suc zero) s k a i = nat_lt 0 (size (set a.prop))
sends_at (suc (suc zero)) s k a i = flag a.got && (i == owner s k)
sends_at (suc (suc (suc q))) s k a i = true

abbrev pub message_at : ℕ → Setting → Node → Message
message_at zero s a = message1 s a
message_at (suc zero) s a = message2 a
message_at (suc (suc zero)) s a = message3 a
message_at (suc (suc (suc q))) s a = message4 a

abbrev pub take_at : ℕ → Setting → (k : ℕ) → Message → Node → Node
take_at zero s k l a = take1 s a l
take_at (suc zero) s k l a = take2 s k a l
take_at (suc (suc zero)) s k l a = take3 a l
take_at (suc (suc (suc q))) s k l a = take4 s a l

abbrev pub finish_at : ℕ → Setting → (k i : ℕ) → Node → Node
finish_at zero s k i a = finish1 s k i a
finish_at (suc zero) s k i a = a
finish_at (suc (suc zero)) s k i a = finish3 s a
finish_at (suc (suc (suc q))) s k i a = a

abbrev pub letter_at : ℕ → Message → List Value
letter_at zero l = two l
letter_at (suc zero) l = two l
letter_at (suc (suc zero)) l = one l
letter_at (suc (suc (suc q))) l = two l

abbrev pub letter : Round → Message → List Value
letter r l = letter_at r.position l

abbrev pub machine_of : Setting → Machine Node Message
machine_of s = record {
  start = λ x i. start s x;
  sends = λ r a j i. sends_at r.position s r.phase a i;
  message = λ r a j i. message_at r.position s a;
  take = λ r i j l a. take_at r.position s r.phase l a;
  finish = λ r i a. finish_at r.position s r.phase i a;
}

abbrev pub machine : (k n t : ℕ) → Machine Node Message
machine k n t = machine_of (record { values = k; nodes = n; faults = t })

sent_is : (k n t q number phase : ℕ) (a : Node) (j i : ℕ) → q < 4
    → sent (slice_get (eager_algorithm_1_tree k).blocks q)
    (with_dest i (with_vars (values_of a) (env_in (eager_algorithm_1_tree k) n t
    (record { position = q; number = number; phase = phase }) j)))
    ≡ (if sends_at q (record { values = k; nodes = n; faults = t }) phase a i
    then Some (letter_at q (message_at q (record { values = k; nodes = n; faults = t }) a))
    else None)
sent_is k n t zero number phase a j i h = refl
sent_is k n t (suc zero) number phase a j i h = refl
sent_is k n t (suc (suc zero)) number phase a j i h = refl
sent_is k n t (suc (suc (suc zero))) number phase a j i h = refl
sent_is k n t (suc (suc (suc (suc q)))) number phase a j i h = absurd (omega arith)

took : (k n t q number phase i j : ℕ) (l : Message) (a : Node) → q < 4
    → message_taken (slice_get (eager_algorithm_1_tree k).blocks q)
    (env_in (eager_algorithm_1_tree k) n t
    (record { position = q; number = number; phase = phase }) i)
    (record { from = j; message = letter_at q l }) (values_of a)
    ≡ values_of (take_at q (record { values = k; nodes = n; faults = t }) phase l a)
took k n t zero number phase i j l a h = refl
took k n t (suc zero) number phase i j l a h = refl
took k n t (suc (suc zero)) number phase i j l a h = refl
took k n t (suc (suc (suc zero))) number phase i j l a h = refl
took k n t (suc (suc (suc (suc q)))) number phase i j l a h = absurd (omega arith)

finished : (k n t q number phase i : ℕ) (a : Node) → q < 4
    → round_finished (slice_get (eager_algorithm_1_tree k).blocks q)
    (env_in (eager_algorithm_1_tree k) n t
    (record { position = q; number = number; phase = phase }) i) (values_of a)
    ≡ values_of (finish_at q (record { values = k; nodes = n; faults = t }) phase i a)
finished k n t zero number phase i a h = refl
finished k n t (suc zero) number phase i a h = refl
finished k n t (suc (suc zero)) number phase i a h = refl
finished k n t (suc (suc (suc zero))) number phase i a h = refl
finished k n t (suc (suc (suc (suc q)))) number phase i a h = absurd (omega arith)

-- the steps are those of the program
pub spells : (k n t : ℕ) → Spells (eager_algorithm_1_tree k) n t (machine k n t) values_of letter
spells k n t = record {
  period = omega arith;
  start = λ x i. refl;
  send = λ r a j i h. sent_is k n t r.position r.number r.phase a j i h;
  take = λ r i j l a h. took k n t r.position r.number r.phase i j l a h;
  finish = λ r i a h. finished k n t r.position r.number r.phase i a h;
}

pub shows : (k : ℕ) (a : Node)
    → decision (eager_algorithm_1_tree k) (values_of a) ≡ node_decision a
shows k a = refl

-- all send in the fourth round
abbrev pub unless : (ℕ → Bool) → ℕ → Bool
unless o j = not (o j) && true

-- a round by its position in the phase
abbrev pub next : Setting → ℕ → ℕ → (ℕ → ℕ → Bool) → World → World
next s zero k o w = λ i. round1 s (o i) k w i
next s (suc zero) k o w = λ i. round2 s (o i) k w i
next s (suc (suc zero)) k o w = λ i. round3 s (o i) k w i
next s (suc (suc (suc p))) k o w = λ i. release s (unless (o i)) w i

-- the machine's rounds are these
pub next_is : (s : Setting) (p number k : ℕ) (o : ℕ → ℕ → Bool) (w : World)
    → next_world (machine_of s) s.nodes (record { position = p; number = number; phase = k }) o w
    ≡ next s p k o w
next_is s zero number k o w =
    fun_ext (λ i. ap (finish1 s k i) (same_hear (take1 s) (hears1 s (o i) k i)
    (λ j. message1 s (w j)) (range_with_len 0 s.nodes) (w i)))
next_is s (suc zero) number k o w =
    fun_ext (λ i. same_hear (take2 s k) (hears2 (o i) w) (λ j. message2 (w j))
    (range_with_len 0 s.nodes) (w i))
next_is s (suc (suc zero)) number k o w =
    fun_ext (λ i. ap (finish3 s) (same_hear take3 (hears3 s (o i) w k i) (λ j. message3 (w j))
    (range_with_len 0 s.nodes) (w i)))
next_is s (suc (suc (suc p))) number k o w =
    fun_ext (λ i. same_hear (take4 s) (unless (o i)) (λ j. message4 (w j))
    (range_with_len 0 s.nodes) (w i))
