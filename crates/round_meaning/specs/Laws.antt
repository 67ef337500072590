-- Laws of values and of runs.
use Rattle.std.specs.Prelude.{◌≡◌, ℕ, suc, ◌+◌, ◌<◌, ◌≤◌, Bool, List, IsSome}
use Rattle.round_lang.specs.Limits.{max_number}
use Rattle.round_lang.specs.declared.expr.BinaryOperator.TheVariants.{Add, Sub}
use Rattle.round_lang.specs.declared.value.Value.{Value}
use Rattle.round_lang.specs.declared.value.Value.TheVariants.{Num}
use Rattle.round_lang.specs.Tree.{TBinary, TNumber}
use Rattle.round_meaning.specs.Meaning.{Env, value}
use Rattle.round_meaning.specs.Rounds.{Algorithm, inbox, rounds}
use Rattle.round_meaning.specs.Turn.{IsInbox}

-- a sum is the numbers' sum, if that isn't past the greatest number
abbrev pub SumsAreExact : Type 0
SumsAreExact =
    (a b : ℕ) (env : Env) → a + b ≤ max_number
    → value (TBinary Add (TNumber a) (TNumber b)) env ≡ Num (a + b)

-- a sum past the greatest number is that number
abbrev pub SumsStop : Type 0
SumsStop =
    (a b : ℕ) (env : Env) → max_number ≤ a + b
    → value (TBinary Add (TNumber a) (TNumber b)) env ≡ Num max_number

-- a sum less one of its numbers is the other
abbrev pub DifferencesAreExact : Type 0
DifferencesAreExact =
    (a b : ℕ) (env : Env) → value (TBinary Sub (TNumber (a + b)) (TNumber b)) env ≡ Num a

-- a difference below 0 is 0
abbrev pub DifferencesStop : Type 0
DifferencesStop =
    (a b : ℕ) (env : Env) → a ≤ b → value (TBinary Sub (TNumber a) (TNumber b)) env ≡ Num 0

-- omission tests of a round that agree on the nodes that do send give the same inbox
abbrev pub OnlySendersCount : Type 0
OnlySendersCount =
    (a : Algorithm) (o p : ℕ → Bool) (states : ℕ → List Value) (r i : ℕ)
    → ((j : ℕ) → j < a.nodes → IsSome (a.send r (states j) j i) → o j ≡ p j)
    → inbox a o states r i ≡ inbox a p states r i

-- the tests agree, in rounds 1 to n of the first one's run, on the nodes that do send
abbrev pub AgreeOnSenders : Algorithm → (ℕ → ℕ → ℕ → Bool) → (ℕ → ℕ → ℕ → Bool) → ℕ → Type 0
AgreeOnSenders a o p n =
    (r i j : ℕ) → r < n → i < a.nodes → j < a.nodes → IsSome (a.send (suc r) (rounds a o r j) j i)
    → o i (suc r) j ≡ p i (suc r) j

-- tests of omission that agree on the nodes that do send, in the first n rounds, give the same
-- states after n rounds
abbrev pub OnlySendersCountInRuns : Type 0
OnlySendersCountInRuns =
    (a : Algorithm) (o p : ℕ → ℕ → ℕ → Bool) (n i : ℕ) → AgreeOnSenders a o p n → i < a.nodes
    → rounds a o n i ≡ rounds a p n i

-- tests that agree on rounds 1 to n give the same states after n rounds
abbrev pub OnlyPastCounts : Type 0
OnlyPastCounts =
    (a : Algorithm) (o p : ℕ → ℕ → ℕ → Bool) (n i : ℕ)
    → ((r k j : ℕ) → 0 < r → r ≤ n → k < a.nodes → j < a.nodes → o k r j ≡ p k r j) → i < a.nodes
    → rounds a o n i ≡ rounds a p n i

-- what a node gets in a round is an inbox, whoever is omitted and whatever the senders' states are
abbrev pub InboxesRise : Type 0
InboxesRise =
    (a : Algorithm) (omitted : ℕ → Bool) (states : ℕ → List Value) (r i : ℕ)
    → IsInbox (inbox a omitted states r i)
