-- A round program as steps of nodes, over types that its writer chooses.
use Rattle.std.specs.Prelude.{◌≡◌, ℕ, zero, suc, ◌/◌, ◌%◌, ◌+◌, ◌<◌, Bool, ◌&&◌, not, List, [], ◌∷◌}
use Rattle.std.specs.Prelude.{Some, None, if◌then◌else◌, slice_get}
use Rattle.std.specs.List.{range_with_len}
use Rattle.round_lang.specs.declared.value.Value.{Value}
use Rattle.round_lang.specs.Syntax.{ProgramTree}
use Rattle.round_meaning.specs.Meaning.{Env}
use Rattle.round_meaning.specs.Turn.{initial, message_taken, node_env, round_finished, sent}
use Rattle.round_meaning.specs.Turn.{with_dest, with_vars}

-- a round: its position in the phase, from 0, its number, and its phase, both from 1
pub record Round : Type 0 where
  pub position : ℕ
  pub number : ℕ
  pub phase : ℕ

-- the round after `before` others, of a program with this period
abbrev pub round_of : ℕ → ℕ → Round
round_of period before = record {
  position = before % period;
  number = suc before;
  phase = before / period + 1;
}

-- how a node begins, what it sends, what it does with one message, and how it ends a round
pub record Machine (Node Message : Type 0) : Type 0 where
  -- node i with input x
  pub start : (x i : ℕ) → Node
  -- whether node j sends to node i in a round, and what
  pub sends : Round → Node → (j i : ℕ) → Bool
  pub message : Round → Node → (j i : ℕ) → Message
  -- node i after a message of node j
  pub take : Round → (i j : ℕ) → Message → Node → Node
  -- node i at the end of a round
  pub finish : Round → (i : ℕ) → Node → Node

-- a node after the messages of the senders for which the test is true, in their order
abbrev pub hear : {Node Message : Type 0} → (ℕ → Message → Node → Node) → (ℕ → Bool)
    → (ℕ → Message) → List ℕ → Node → Node
hear take c m [] a = a
hear take c m (j ∷ js) a = hear take c m js (if c j then take j (m j) a else a)

-- whether node i hears node j; `omits j`: j's message doesn't come
abbrev pub hears : {Node Message : Type 0} → Machine Node Message → Round → (ℕ → Bool)
    → (ℕ → Node) → (i j : ℕ) → Bool
hears m r omits w i j = not (omits j) && m.sends r (w j) j i

-- the states of n nodes one round later; `omits i j`: i doesn't get j's message
abbrev pub next_world : {Node Message : Type 0} → Machine Node Message → (n : ℕ) → Round
    → (omits : ℕ → ℕ → Bool) → (ℕ → Node) → ℕ → Node
next_world m n r omits w i =
    m.finish r i
    (hear (m.take r i) (hears m r (omits i) w i) (λ j. m.message r (w j) j i) (range_with_len 0 n)
    (w i))

-- the states of all nodes after some rounds; `omits i r j`: i doesn't get j's message of round r
abbrev pub world_after : {Node Message : Type 0} → Machine Node Message → (n period : ℕ)
    → (inputs : ℕ → ℕ) → (omits : ℕ → ℕ → ℕ → Bool) → ℕ → ℕ → Node
world_after m n period inputs omits zero = λ i. m.start (inputs i) i
world_after m n period inputs omits (suc r) =
    next_world m n (round_of period r) (λ i. omits i (suc r))
    (world_after m n period inputs omits r)

-- the names and constants with which node i computes in a round of the program
abbrev pub env_in : ProgramTree → (n t : ℕ) → Round → (i : ℕ) → Env
env_in p n t r i = record (node_env p n t r.number i) { phase = r.phase }

-- the machine's steps are the program's: `state` gives the values of a node's variables, and
-- `letter` those of a message's fields
pub record Spells {Node Message : Type 0} (p : ProgramTree) (n t : ℕ) (m : Machine Node Message)
    (state : Node → List Value) (letter : Round → Message → List Value) : Type 0 where
  pub period : 0 < p.period
  pub start : (x i : ℕ) → initial p n t x i ≡ state (m.start x i)
  pub send : (r : Round) (a : Node) (j i : ℕ) → r.position < p.period
      → sent (slice_get p.blocks r.position) (with_dest i (with_vars (state a) (env_in p n t r j)))
      ≡ (if m.sends r a j i then Some (letter r (m.message r a j i)) else None)
  pub take : (r : Round) (i j : ℕ) (l : Message) (a : Node) → r.position < p.period
      → message_taken (slice_get p.blocks r.position) (env_in p n t r i)
      (record { from = j; message = letter r l }) (state a) ≡ state (m.take r i j l a)
  pub finish : (r : Round) (i : ℕ) (a : Node) → r.position < p.period
      → round_finished (slice_get p.blocks r.position) (env_in p n t r i) (state a)
      ≡ state (m.finish r i a)
