-- Algorithm 1 does what the steps of PhaseSteps do.
use Rattle.std.proofs.Common.{◌≡◌, ℕ, zero, suc, ◌+◌, ◌-◌, ◌/◌, ◌%◌, ◌<◌, Bool, true, false, cond}
use Rattle.std.proofs.Common.{List, [], ◌∷◌, refl, ap, ◌∙◌, Option, Some, None, arith}
use Rattle.std.specs.Prelude.{◌&&◌, not, nat_lt, slice_index, slice_get, ◌==◌}
use Rattle.std.specs.List.{range_with_len, filter_map, cons_option}
use mathlib.Core.Path.{fun_ext}
use Rattle.round_lang.specs.declared.value.Value.{Value}
use Rattle.round_lang.specs.Sets.{set_of, size}
use Rattle.round_lang.specs.Syntax.{BlockTree}
use Rattle.round_lang.specs.Values.{flag, set, row}
use Rattle.round_meaning.specs.Algorithm1.{dls1, listing, locking, acknowledging, releasing}
use Rattle.round_meaning.specs.Meaning.{Env}
use Rattle.round_meaning.specs.Rounds.{algorithm, inbox, received, rounds}
use Rattle.round_meaning.specs.Turn.{decision, ended, folded, node_env, runs, sent}
use Rattle.round_meaning.specs.Turn.{with_dest, with_message, with_vars}
use Rattle.round_meaning.specs.declared.received.Received.{Received}
use Rattle.round_meaning.proofs.PhaseSteps.{Setting, Node, Message, World, hear, owner}
use Rattle.round_meaning.proofs.PhaseSteps.{message1, take1, message2, take2, message3}
use Rattle.round_meaning.proofs.PhaseSteps.{take3, message4, take4, hears1, hears2, hears3}
use Rattle.round_meaning.proofs.PhaseSteps.{hears4, next, run, node_decision}

abbrev pub values_of : Node → List Value
values_of n = n.x ∷ n.proper ∷ n.locks ∷ n.lists ∷ n.prop ∷ n.got ∷ n.acks ∷ n.done ∷ []

abbrev pub two : Message → List Value
two m = m.body ∷ m.proper ∷ []

abbrev pub one : Message → List Value
one m = m.proper ∷ []

-- what node i computes with in round r, of phase k
abbrev env_in : Setting → ℕ → ℕ → ℕ → Env
env_in s r k i = record (node_env (dls1 s.values) s.nodes s.faults r i) { phase = k }

-- what a message does, by computing
takes1 : (s : Setting) (r k i j : ℕ) (n : Node) (m : Message)
    → runs (with_message j listing.fields (two m) (env_in s r k i)) listing.on_message (values_of n)
    ≡ values_of (take1 s n m)
takes1 s r k i j n m = refl

sends1 : (s : Setting) (r k i j : ℕ) (n : Node)
    → sent (Some listing) (with_dest i (with_vars (values_of n) (env_in s r k j)))
    ≡ cond (i == owner s k) (Some (two (message1 s n))) None
sends1 s r k i j n = refl

takes2 : (s : Setting) (r k i j : ℕ) (n : Node) (m : Message)
    → runs (with_message j locking.fields (two m) (env_in s r k i)) locking.on_message (values_of n)
    ≡ values_of (take2 s k n m)
takes2 s r k i j n m = refl

sends2 : (s : Setting) (r k i j : ℕ) (n : Node)
    → sent (Some locking) (with_dest i (with_vars (values_of n) (env_in s r k j)))
    ≡ cond (nat_lt 0 (size (set n.prop))) (Some (two (message2 n))) None
sends2 s r k i j n = refl

takes3 : (s : Setting) (r k i j : ℕ) (n : Node) (m : Message)
    → runs (with_message j acknowledging.fields (one m) (env_in s r k i)) acknowledging.on_message
    (values_of n) ≡ values_of (take3 n m)
takes3 s r k i j n m = refl

sends3 : (s : Setting) (r k i j : ℕ) (n : Node)
    → sent (Some acknowledging) (with_dest i (with_vars (values_of n) (env_in s r k j)))
    ≡ cond (flag n.got && (i == owner s k)) (Some (one (message3 n))) None
sends3 s r k i j n = refl

takes4 : (s : Setting) (r k i j : ℕ) (n : Node) (m : Message)
    → runs (with_message j releasing.fields (two m) (env_in s r k i)) releasing.on_message
    (values_of n) ≡ values_of (take4 s n m)
takes4 s r k i j n m = refl

sends4 : (s : Setting) (r k i j : ℕ) (n : Node)
    → sent (Some releasing) (with_dest i (with_vars (values_of n) (env_in s r k j)))
    ≡ cond (nat_lt 0 (size (set_of s.values (λ v. nat_lt 0 (slice_index (row n.locks) v)))))
    (Some (two (message4 n))) None
sends4 s r k i j n = refl

-- what i hears of j: nothing if it is omitted or silent
heard : (j : ℕ) (o t : Bool) (m : List Value) (d : Option (List Value)) → d ≡ cond t (Some m) None
    → cond o None (received j d) ≡ cond (not o && t) (Some (record { from = j; message = m })) None
heard j true t m d e = refl
heard j false true m d e = ap (received j) e
heard j false false m d e = ap (received j) e

-- the inbox of the messages, folded
folded_is : (b : BlockTree) (env : Env) (take : Node → Message → Node) (c : ℕ → Bool) (m : ℕ
    → Message) (spell : Message → List Value) (h : ℕ → Option Received)
    → ((j : ℕ) → h j ≡ cond (c j) (Some (record { from = j; message = spell (m j) })) None)
    → ((j : ℕ) (n : Node) (m : Message)
    → runs (with_message j b.fields (spell m) env) b.on_message (values_of n)
    ≡ values_of (take n m))
    → (js : List ℕ) (n : Node)
    → folded b env (filter_map h js) (values_of n) ≡ values_of (hear take c m js n)
folded_is b env take c m spell h hs each [] n = refl
folded_is b env take c m spell h hs each (j ∷ js) n =
    ap (λ x. folded b env (cons_option x (filter_map h js)) (values_of n)) (hs j)
    ∙ go (c j) (folded_is b env take c m spell h hs each js)
  where
    go : (x : Bool)
        → ((n : Node) → folded b env (filter_map h js) (values_of n)
        ≡ values_of (hear take c m js n))
        → folded b env
        (cons_option (cond x (Some (record { from = j; message = spell (m j) })) None)
        (filter_map h js)) (values_of n) ≡ values_of
        (hear take c m js (cond x (take n (m j)) n))
    go true ih = ap (folded b env (filter_map h js)) (each j n (m j)) ∙ ih (take n (m j))
    go false ih = ih n

-- a round by its position in the phase
abbrev heard_at : Setting → ℕ → ℕ → ℕ → (ℕ → Bool) → World → ℕ → List Received
heard_at s p r k o w i =
    filter_map (λ j. cond (o j) None
    (received j (sent (slice_get (dls1 s.values).blocks p)
    (with_dest i (with_vars (values_of (w j)) (env_in s r k j)))))) (range_with_len 0 s.nodes)

one_round : (s : Setting) (p r k : ℕ) (o : ℕ → ℕ → Bool) (w : World) (i : ℕ) → p < 4
    → ended (slice_get (dls1 s.values).blocks p) (env_in s r k i) (heard_at s p r k (o i) w i)
    (values_of (w i)) ≡ values_of (next s p k o w i)
one_round s zero r k o w i l =
    ap (runs (env_in s r k i) listing.end)
    (folded_is listing (env_in s r k i) (take1 s) (hears1 s (o i) k i) (λ j. message1 s (w j)) two _
    (λ j. heard j (o i j) (i == owner s k) (two (message1 s (w j))) _ (sends1 s r k i j (w j)))
    (λ j n m. takes1 s r k i j n m) (range_with_len 0 s.nodes) (w i))
one_round s (suc zero) r k o w i l =
    folded_is locking (env_in s r k i) (take2 s k) (hears2 (o i) w) (λ j. message2 (w j)) two _
    (λ j. heard j (o i j) _ (two (message2 (w j))) _ (sends2 s r k i j (w j)))
    (λ j n m. takes2 s r k i j n m) (range_with_len 0 s.nodes) (w i)
one_round s (suc (suc zero)) r k o w i l =
    ap (runs (env_in s r k i) acknowledging.end)
    (folded_is acknowledging (env_in s r k i) take3 (hears3 s (o i) w k i)
    (λ j. message3 (w j)) one _
    (λ j. heard j (o i j) _ (one (message3 (w j))) _ (sends3 s r k i j (w j)))
    (λ j n m. takes3 s r k i j n m) (range_with_len 0 s.nodes) (w i))
one_round s (suc (suc (suc zero))) r k o w i l =
    folded_is releasing (env_in s r k i) (take4 s) (hears4 s (o i) w) (λ j. message4 (w j)) two _
    (λ j. heard j (o i j) _ (two (message4 (w j))) _ (sends4 s r k i j (w j)))
    (λ j n m. takes4 s r k i j n m) (range_with_len 0 s.nodes) (w i)
one_round s (suc (suc (suc (suc p)))) r k o w i l = absurd (omega arith)

-- the program's rounds are the run of the steps
pub rounds_run : (s : Setting) (inputs : ℕ → ℕ) (omits : ℕ → ℕ → ℕ → Bool) (r : ℕ)
    → rounds (algorithm (dls1 s.values) s.nodes s.faults inputs) omits r
    ≡ (λ i. values_of (run s inputs omits r i))
unfolding rounds algorithm inbox
rounds_run s inputs omits zero = fun_ext (λ i. refl)
rounds_run s inputs omits (suc r) =
    fun_ext (λ i. ap (λ (before : ℕ → List Value). a.end (suc r) i
    (inbox a (omits i (suc r)) before (suc r) i) (before i)) (rounds_run s inputs omits r)
    ∙ at i)
  where
    a : Rattle.round_meaning.specs.Rounds.Algorithm
    a = algorithm (dls1 s.values) s.nodes s.faults inputs

    e : suc r - 1 ≡ r
    e = omega arith

    at : (i : ℕ)
        → a.end (suc r) i (inbox a (omits i (suc r)) (λ i. values_of (run s inputs omits r i))
        (suc r) i) (values_of (run s inputs omits r i))
        ≡ values_of (run s inputs omits (suc r) i)
    at i =
        ap (λ x. ended (slice_get (dls1 s.values).blocks (x % 4)) (env_in s (suc r) (x / 4 + 1) i)
        (heard_at s (x % 4) (suc r) (x / 4 + 1) (omits i (suc r)) (run s inputs omits r) i)
        (values_of (run s inputs omits r i))) e
        ∙ one_round s (r % 4) (suc r) (r / 4 + 1) (λ i. omits i (suc r)) (run s inputs omits r) i
        (omega arith)

pub decides_run : (s : Setting) (inputs : ℕ → ℕ) (omits : ℕ → ℕ → ℕ → Bool) (r i : ℕ)
    → decision (dls1 s.values)
    (rounds (algorithm (dls1 s.values) s.nodes s.faults inputs) omits r i)
    ≡ node_decision (run s inputs omits r i)
decides_run s inputs omits r i = ap (λ (f : ℕ → List Value). decision (dls1 s.values) (f i))
    (rounds_run s inputs omits r)
