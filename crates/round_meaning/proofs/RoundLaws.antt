-- Runs of an algorithm in rounds.
use Rattle.std.proofs.Common.{◌≡◌, ℕ, zero, suc, ◌+◌, ◌<◌, ◌≤◌, Bool, true, false, cond, List, []}
use Rattle.std.proofs.Common.{◌∷◌, ◌++◌, length, get_or, map, Option, None, Some, refl, sym, ap}
use Rattle.std.proofs.Common.{◌∙◌, arith}
use Rattle.std.specs.Prelude.{IsSome}
use Rattle.std.specs.List.{range_with_len, filter_map, cons_option}
use Rattle.std.proofs.lemmas.List.FromFn.{get_or-map-range_with_len, length-map-range_with_len}
use Rattle.round_lang.specs.declared.value.Value.{Value}
use Rattle.round_meaning.specs.Laws.{AgreeOnSenders}
use Rattle.round_meaning.specs.Rounds.{Algorithm, heard, inbox, received, rounds}
use Rattle.round_meaning.specs.States.{HasRun, IsComplete, States, initial_states, next_state}
use Rattle.round_meaning.specs.States.{state_in, states_after}

-- functions that agree on a range give the same lists
pub map_same : {X : Type 0} (f g : ℕ → X) (a n : ℕ) → ((j : ℕ) → a ≤ j → j < a + n → f j ≡ g j)
    → map f (range_with_len a n) ≡ map g (range_with_len a n)
map_same f g a zero h = refl
map_same f g a (suc n) h =
    ap (λ x. x ∷ map f (range_with_len (a + 1) n)) (h a (omega arith) (omega arith))
    ∙ ap (λ xs. g a ∷ xs) (map_same f g (a + 1) n (λ j lo hi. h j (omega arith) (omega arith)))

pub filter_map_same : {X : Type 0} (f g : ℕ → Option X) (a n : ℕ)
    → ((j : ℕ) → a ≤ j → j < a + n → f j ≡ g j)
    → filter_map f (range_with_len a n) ≡ filter_map g (range_with_len a n)
filter_map_same f g a zero h = refl
filter_map_same f g a (suc n) h =
    ap (λ x. cons_option x (filter_map f (range_with_len (a + 1) n)))
    (h a (omega arith) (omega arith))
    ∙ ap (cons_option (g a)) (filter_map_same f g (a + 1) n
    (λ j lo hi. h j (omega arith) (omega arith)))

-- an inbox depends on the nodes' states alone
pub inbox_same : (a : Algorithm) (omitted : ℕ → Bool) (f g : ℕ → List Value) (r i : ℕ)
    → ((j : ℕ) → j < a.nodes → f j ≡ g j) → inbox a omitted f r i ≡ inbox a omitted g r i
unfolding inbox
inbox_same a omitted f g r i h =
    filter_map_same (heard a omitted f r i) (heard a omitted g r i) 0 a.nodes
    (λ j lo hi. ap (λ vs. cond (omitted j) None (received j (a.send r vs j i)))
    (h j (omega arith)))

silent_step : (x y : Bool) (j : ℕ) (o : Option (List Value)) → (IsSome o → x ≡ y)
    → cond x None (received j o) ≡ cond y None (received j o)
silent_step true true j o h = refl
silent_step false false j o h = refl
silent_step true false j None h = refl
silent_step false true j None h = refl
silent_step true false j (Some m) h = ap (λ b. cond b None (received j (Some m))) (h refl)
silent_step false true j (Some m) h = ap (λ b. cond b None (received j (Some m))) (h refl)

-- an inbox depends on which of the senders are omitted alone
pub inbox_heard : (a : Algorithm) (o p : ℕ → Bool) (states : ℕ → List Value) (r i : ℕ)
    → ((j : ℕ) → j < a.nodes → IsSome (a.send r (states j) j i) → o j ≡ p j)
    → inbox a o states r i ≡ inbox a p states r i
unfolding inbox
inbox_heard a o p states r i h =
    filter_map_same (heard a o states r i) (heard a p states r i) 0 a.nodes
    (λ j lo hi. silent_step (o j) (p j) j (a.send r (states j) j i) (h j (omega arith)))

pub next_state_same : (a : Algorithm) (omits : ℕ → ℕ → ℕ → Bool) (f g : ℕ → List Value) (r i : ℕ)
    → i < a.nodes → ((j : ℕ) → j < a.nodes → f j ≡ g j)
    → next_state a omits r f i ≡ next_state a omits r g i
next_state_same a omits f g r i within h =
    ap (λ ms. a.end r i ms (f i)) (inbox_same a (omits i r) f g r i h)
    ∙ ap (a.end r i (inbox a (omits i r) g r i)) (h i within)

-- before the first round
pub states_after_none : (a : Algorithm) (omits : ℕ → ℕ → ℕ → Bool)
    → initial_states a ≡ states_after a omits 0
unfolding rounds
states_after_none a omits = refl

pub rows_none : (a : Algorithm) (omits : ℕ → ℕ → ℕ
    → Bool) (xs rows : List (List (List Value))) (row : List (List Value)) → xs ≡ []
    → row ≡ initial_states a → rows ≡ xs ++ row ∷ [] → rows ≡ states_after a omits 0 ∷ []
rows_none a omits xs rows row none first more =
    more
    ∙ ap (λ rs. rs ++ row ∷ []) none
    ∙ ap (λ r. r ∷ []) (first ∙ states_after_none a omits)

-- one round more
pub rounds_more : (a : Algorithm) (omits : ℕ → ℕ → ℕ → Bool) (r i : ℕ)
    → rounds a omits (r + 1) i ≡ next_state a omits (r + 1) (rounds a omits r) i
unfolding rounds
rounds_more a omits r i =
    let e : suc r ≡ r + 1 = omega arith in
    ap (λ n. rounds a omits n i) (sym e) ∙ ap (λ n. next_state a omits n (rounds a omits r) i) e

pub state_in-states_after : (a : Algorithm) (omits : ℕ → ℕ → ℕ → Bool) (r i : ℕ) → i < a.nodes
    → state_in (states_after a omits r) i ≡ rounds a omits r i
state_in-states_after a omits r i h =
    get_or-map-range_with_len (rounds a omits r) 0 a.nodes i i [] h (omega arith)

-- all nodes' states after one round more
pub states_after_more : (a : Algorithm) (omits : ℕ → ℕ → ℕ
    → Bool) (r : ℕ) (states : List (List Value)) → states ≡ states_after a omits r
    → map (next_state a omits (r + 1) (state_in states)) (range_with_len 0 a.nodes)
    ≡ states_after a omits (r + 1)
states_after_more a omits r states e =
    map_same (next_state a omits (r + 1) (state_in states)) (rounds a omits (r + 1)) 0 a.nodes
    (λ i lo hi. next_state_same a omits (state_in states) (rounds a omits r) (r + 1) i
    (omega arith) (λ j l. ap (λ s. state_in s j) e ∙ state_in-states_after a omits r j l)
    ∙ sym (rounds_more a omits r i))

pub length-states_after : (a : Algorithm) (omits : ℕ → ℕ → ℕ → Bool) (r : ℕ)
    → length (states_after a omits r) ≡ a.nodes
length-states_after a omits r = length-map-range_with_len (rounds a omits r) 0 a.nodes

-- the rows of a run
pub row-states_after : (a : Algorithm) (omits : ℕ → ℕ → ℕ
    → Bool) (n r : ℕ) (rows : List (List (List Value)))
    → rows ≡ map (states_after a omits) (range_with_len 0 (n + 1)) → r ≤ n
    → get_or rows r [] ≡ states_after a omits r
row-states_after a omits n r rows e h =
    ap (λ rs. get_or rs r []) e
    ∙ get_or-map-range_with_len (states_after a omits) 0 (n + 1) r r [] (omega arith)
    (omega arith)

pub IsComplete-from_rows : (a : Algorithm) (omits : ℕ → ℕ → ℕ
    → Bool) (n : ℕ) (rows : List (List (List Value)))
    → rows ≡ map (states_after a omits) (range_with_len 0 (n + 1)) → IsComplete a.nodes n rows
IsComplete-from_rows a omits n rows e = record {
  each_round = ap length e ∙ length-map-range_with_len (states_after a omits) 0 (n + 1);
  each_node = λ r h. ap length (row-states_after a omits n r rows e h)
      ∙ length-states_after a omits r;
}

pub HasRun-from_rows : (t : States) (a : Algorithm) (omits : ℕ → ℕ → ℕ → Bool) → t.nodes ≡ a.nodes
    → t.by_round ≡ map (states_after a omits) (range_with_len 0 (t.rounds + 1)) → HasRun t a omits
HasRun-from_rows t a omits nodes e = λ r i h l.
    ap (λ s. state_in s i) (row-states_after a omits t.rounds r t.by_round e h)
    ∙ state_in-states_after a omits r i (omega arith)

-- tests that agree on the nodes that do send give the same states
pub rounds_same : (a : Algorithm) (o p : ℕ → ℕ → ℕ → Bool) (n i : ℕ) → AgreeOnSenders a o p n
    → i < a.nodes → rounds a o n i ≡ rounds a p n i
unfolding rounds
rounds_same a o p zero i agree within = refl
rounds_same a o p (suc n) i agree within =
    ap (λ ms. a.end (suc n) i ms (rounds a o n i))
    (inbox_heard a (o i (suc n)) (p i (suc n)) (rounds a o n) (suc n) i
    (λ j l sends. agree n i j (omega arith) within l sends))
    ∙ next_state_same a p (rounds a o n) (rounds a p n) (suc n) i within
    (λ j l. rounds_same a o p n j
    (λ r k m below kl ml sends. agree r k m (omega arith) kl ml sends) l)
