-- The program's rounds are the machine's.
use Rattle.std.proofs.Common.{◌≡◌, ℕ, zero, suc, ◌+◌, ◌-◌, ◌/◌, ◌%◌, ◌<◌, Bool, true, false, cond}
use Rattle.std.proofs.Common.{List, [], ◌∷◌, refl, ap, ◌∙◌, Option, Some, None, arith}
use Rattle.std.specs.Prelude.{◌&&◌, not, slice_get}
use Rattle.std.specs.List.{range_with_len, filter_map, cons_option}
use Rattle.std.proofs.Math.Nat.{mod-lt}
use mathlib.Core.Path.{fun_ext}
use Rattle.round_lang.specs.declared.value.Value.{Value}
use Rattle.round_lang.specs.Syntax.{BlockTree, ProgramTree}
use Rattle.round_meaning.specs.Meaning.{Env}
use Rattle.round_meaning.specs.Rounds.{Algorithm, algorithm, inbox, received, rounds}
use Rattle.round_meaning.specs.Turn.{ended, folded, message_taken, round_finished, sent}
use Rattle.round_meaning.specs.Turn.{with_dest, with_vars}
use Rattle.round_meaning.specs.declared.received.Received.{Received}
use Rattle.round_proofs.specs.Machines.{Machine, Round, Spells, env_in, hear, hears, next_world}
use Rattle.round_proofs.specs.Machines.{round_of, world_after}

-- the inbox is taken message by message
taken : Option BlockTree → Env → List Received → List Value → List Value
taken b env [] vs = vs
taken b env (l ∷ ls) vs = taken b env ls (message_taken b env l vs)

taken_none : (env : Env) (ls : List Received) (vs : List Value) → vs ≡ taken None env ls vs
unfolding taken
taken_none env [] vs = refl
taken_none env (l ∷ ls) vs = taken_none env ls vs

taken_some : (b : BlockTree) (env : Env) (ls : List Received) (vs : List Value)
    → folded b env ls vs ≡ taken (Some b) env ls vs
unfolding taken
taken_some b env [] vs = refl
taken_some b env (l ∷ ls) vs = taken_some b env ls (message_taken (Some b) env l vs)

ended_is : (b : Option BlockTree) (env : Env) (ls : List Received) (vs : List Value)
    → ended b env ls vs ≡ round_finished b env (taken b env ls vs)
ended_is None env ls vs = taken_none env ls vs
ended_is (Some b) env ls vs = ap (round_finished (Some b) env) (taken_some b env ls vs)

-- what i hears of j: nothing if it is omitted or silent
heard : (j : ℕ) (o t : Bool) (l : List Value) (d : Option (List Value)) → d ≡ cond t (Some l) None
    → cond o None (received j d) ≡ cond (not o && t) (Some (record { from = j; message = l })) None
heard j true t l d e = refl
heard j false true l d e = ap (received j) e
heard j false false l d e = ap (received j) e

-- the messages of the inbox, one after the other
taken_is : {Node Message : Type 0} (b : Option BlockTree) (env : Env) (state : Node → List Value)
    (letter : Message → List Value) (take : ℕ → Message → Node → Node) (c : ℕ → Bool)
    (m : ℕ → Message) (h : ℕ → Option Received)
    → ((j : ℕ) → h j ≡ cond (c j) (Some (record { from = j; message = letter (m j) })) None)
    → ((j : ℕ) (l : Message) (a : Node)
    → message_taken b env (record { from = j; message = letter l }) (state a)
    ≡ state (take j l a))
    → (js : List ℕ) (a : Node) → taken b env (filter_map h js) (state a)
    ≡ state (hear take c m js a)
unfolding taken
taken_is b env state letter take c m h hs each [] a = refl
taken_is {Node = Node} b env state letter take c m h hs each (j ∷ js) a =
    ap (λ x. taken b env (cons_option x (filter_map h js)) (state a)) (hs j)
    ∙ go (c j) (taken_is b env state letter take c m h hs each js)
  where
    go : (x : Bool) → ((a : Node) → taken b env (filter_map h js) (state a)
        ≡ state (hear take c m js a))
        → taken b env
        (cons_option (cond x (Some (record { from = j; message = letter (m j) })) None)
        (filter_map h js)) (state a) ≡ state (hear take c m js (cond x (take j (m j) a) a))
    go true ih = ap (taken b env (filter_map h js)) (each j (m j) a) ∙ ih (take j (m j) a)
    go false ih = ih a

-- what i gets in a round, by the round's position
abbrev got : {Node : Type 0} → ProgramTree → (n t : ℕ) → (Node → List Value) → Round → (ℕ → Bool)
    → (ℕ → Node) → ℕ → List Received
got p n t state r o w i =
    filter_map (λ j. cond (o j) None (received j (sent (slice_get p.blocks r.position)
    (with_dest i (with_vars (state (w j)) (env_in p n t r j)))))) (range_with_len 0 n)

one_round : {Node Message : Type 0} (p : ProgramTree) (n t : ℕ) (m : Machine Node Message)
    (state : Node → List Value) (letter : Round → Message → List Value)
    → Spells p n t m state letter
    → (r : Round) (o : ℕ → ℕ → Bool) (w : ℕ → Node) (i : ℕ) → r.position < p.period
    → ended (slice_get p.blocks r.position) (env_in p n t r i) (got p n t state r (o i) w i)
    (state (w i)) ≡ state (next_world m n r o w i)
one_round p n t m state letter is r o w i within =
    ended_is (slice_get p.blocks r.position) (env_in p n t r i) (got p n t state r (o i) w i)
    (state (w i)) ∙ ap (round_finished (slice_get p.blocks r.position) (env_in p n t r i))
    (taken_is (slice_get p.blocks r.position) (env_in p n t r i) state (letter r) (m.take r i)
    (hears m r (o i) w i) (λ j. m.message r (w j) j i) _
    (λ j. heard j (o i j) (m.sends r (w j) j i) (letter r (m.message r (w j) j i)) _
    (is.send r (w j) j i within))
    (λ j l a. is.take r i j l a within) (range_with_len 0 n) (w i))
    ∙ is.finish r i _ within

-- the program's rounds are the machine's
pub rounds_run : {Node Message : Type 0} (p : ProgramTree) (n t : ℕ) (m : Machine Node Message)
    (state : Node → List Value) (letter : Round → Message → List Value)
    → Spells p n t m state letter
    → (inputs : ℕ → ℕ) (omits : ℕ → ℕ → ℕ → Bool) (r : ℕ)
    → rounds (algorithm p n t inputs) omits r
    ≡ (λ i. state (world_after m n p.period inputs omits r i))
unfolding rounds algorithm inbox
rounds_run p n t m state letter is inputs omits zero = fun_ext (λ i. is.start (inputs i) i)
rounds_run {Node = Node} p n t m state letter is inputs omits (suc r) =
    fun_ext (λ i. ap (λ (before : ℕ → List Value). a.end (suc r) i
    (inbox a (omits i (suc r)) before (suc r) i) (before i))
    (rounds_run p n t m state letter is inputs omits r)
    ∙ at i)
  where
    a : Algorithm
    a = algorithm p n t inputs

    w : ℕ → Node
    w = world_after m n p.period inputs omits r

    e : suc r - 1 ≡ r
    e = omega arith

    at : (i : ℕ)
        → a.end (suc r) i (inbox a (omits i (suc r)) (λ i. state (w i)) (suc r) i) (state (w i))
        ≡ state (world_after m n p.period inputs omits (suc r) i)
    at i =
        ap (λ x. ended (slice_get p.blocks (x % p.period))
        (env_in p n t (record { position = x % p.period; number = suc r; phase = x / p.period + 1 })
        i) (got p n t state
        (record { position = x % p.period; number = suc r; phase = x / p.period + 1 })
        (omits i (suc r)) w i) (state (w i))) e
        ∙ one_round p n t m state letter is (round_of p.period r) (λ i. omits i (suc r)) w i
        (mod-lt r is.period)
