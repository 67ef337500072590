-- Algorithm 1's invariants, round by round.
use Rattle.std.proofs.Common.{◌≡◌, ℕ, ◌+◌, ◌-◌, ◌<◌, ◌≤◌, ◌≢◌, Bool, true, false, sym, subst, inl}
use Rattle.std.proofs.Common.{inr, ◌⊎◌, arith}
use Rattle.std.specs.Prelude.{slice_index}
use Rattle.std.proofs.lemmas.Bool.{cases_lt, cases_eq}
use Rattle.round_lang.specs.declared.value.Value.{Value}
use Rattle.round_lang.specs.Sets.{is_in, union}
use Rattle.round_lang.specs.Values.{num, flag, set, row}
use Rattle.round_meaning.proofs.PhaseSteps.{Setting, Node, World, Suits}
use Rattle.round_meaning.proofs.SetReading.{in_union}
use Rattle.round_meaning.proofs.Hearing.{count, some_counted}

abbrev pub IsInput : Setting → (ℕ → ℕ) → ℕ → Type 0
IsInput s inputs v = (i : ℕ) × (i < s.nodes) × (inputs i ≡ v)

abbrev pub lock : Node → ℕ → ℕ
lock n v = slice_index (row n.locks) v

abbrev pub Has : Value → ℕ → Type 0
Has a v = is_in (set a) v ≡ true

-- more than t nodes hold a lock on v of phase k or later, and no lock on another value has phase k
-- or later
pub record Locked (s : Setting) (w : World) (v k : ℕ) : Type 0 where
  pub holders : ℕ → Bool
  pub many : s.faults < count holders 0 s.nodes
  pub hold : (j : ℕ) → j < s.nodes → holders j ≡ true → k ≤ lock (w j) v
  pub others : (j u : ℕ) → j < s.nodes → u < s.values → u ≢ v → lock (w j) u < k

-- before each round
pub record Always (s : Setting) (inputs : ℕ → ℕ) (w : World) : Type 0 where
  pub proper : (i v : ℕ) → i < s.nodes → Has (w i).proper v → IsInput s inputs v
  pub done : (i v : ℕ) → i < s.nodes → Has (w i).done v → IsInput s inputs v
  pub decided : (i v : ℕ) → i < s.nodes → Has (w i).done v → (k : ℕ) × (0 < k) × Locked s w v k
  pub lists : (i v : ℕ) → i < s.nodes → v < s.values → slice_index (row (w i).lists) v ≡ 0
  pub acks : (i : ℕ) → i < s.nodes → num (w i).acks ≡ 0

abbrev pub IsProposed : Setting → World → ℕ → Type 0
IsProposed s w v = (i : ℕ) × (i < s.nodes) × Has (w i).prop v

pub record Proposals (s : Setting) (inputs : ℕ → ℕ) (w : World) : Type 0 where
  pub same : (v u : ℕ) → IsProposed s w v → IsProposed s w u → v ≡ u
  pub valid : (v : ℕ) → IsProposed s w v → IsInput s inputs v

-- no lock has a phase after q
abbrev pub Bound : Setting → ℕ → World → Type 0
Bound s q w = (i v : ℕ) → i < s.nodes → v < s.values → lock (w i) v ≤ q

abbrev pub NoneGot : Setting → World → Type 0
NoneGot s w = (i : ℕ) → i < s.nodes → flag (w i).got ≡ false

-- before the first round of phase q+1, and before the fourth of phase q
pub record Before (s : Setting) (inputs : ℕ → ℕ) (q : ℕ) (w : World) : Type 0 where
  pub always : Always s inputs w
  pub none : (v : ℕ) → IsProposed s w v → ⊥
  pub got : NoneGot s w
  pub bound : Bound s q w

-- before the second round of phase q+1
pub record Proposed (s : Setting) (inputs : ℕ → ℕ) (q : ℕ) (w : World) : Type 0 where
  pub always : Always s inputs w
  pub proposals : Proposals s inputs w
  pub got : NoneGot s w
  pub bound : Bound s q w
  pub support : (v : ℕ) → IsProposed s w v
      → (c : ℕ → Bool) × (s.nodes - s.faults ≤ count c 0 s.nodes)
      × ((j u : ℕ) → j < s.nodes → c j ≡ true → u < s.values → u ≢ v → lock (w j) u ≡ 0)

-- before the third round of phase q+1
pub record Locking (s : Setting) (inputs : ℕ → ℕ) (q : ℕ) (w : World) : Type 0 where
  pub always : Always s inputs w
  pub proposals : Proposals s inputs w
  pub bound : Bound s (q + 1) w
  pub got_locks : (j v : ℕ) → j < s.nodes → flag (w j).got ≡ true → IsProposed s w v
      → q + 1 ≤ lock (w j) v
  pub new_locks : (j u : ℕ) → j < s.nodes → u < s.values → q + 1 ≤ lock (w j) u → IsProposed s w u

pub below_values : (s : Setting) (inputs : ℕ → ℕ) → Suits s inputs → (v : ℕ) → IsInput s inputs v
    → v < s.values
below_values s inputs ok v h = subst (λ n. n < s.values) h.2 (ok.inputs_in h.0 h.1)

pub locked_along : (s : Setting) (w w' : World) (v k : ℕ)
    → ((j : ℕ) → j < s.nodes → k ≤ lock (w j) v → k ≤ lock (w' j) v)
    → ((j u : ℕ) → j < s.nodes → u < s.values → u ≢ v → lock (w j) u < k → lock (w' j) u < k)
    → Locked s w v k → Locked s w' v k
locked_along s w w' v k up down l = record {
  holders = l.holders;
  many = l.many;
  hold = λ j h t. up j h (l.hold j h t);
  others = λ j u h hu ne. down j u h hu ne (l.others j u h hu ne);
}

-- the same locks
pub locked_same : (s : Setting) (w w' : World) (v k : ℕ)
    → ((j : ℕ) → j < s.nodes → (w' j).locks ≡ (w j).locks) → Locked s w v k → Locked s w' v k
locked_same s w w' v k e =
    locked_along s w w' v k
    (λ j h. subst (λ a. k ≤ slice_index (row a) v) (sym (e j h)))
    (λ j u h hu ne. subst (λ a. slice_index (row a) u < k) (sym (e j h)))

pub proper_more : (s : Setting) (inputs : ℕ → ℕ) (w : World)
    → ((i v : ℕ) → i < s.nodes → Has (w i).proper v → IsInput s inputs v)
    → (j : ℕ) → j < s.nodes → (a : ℕ) → ((v : ℕ) → is_in a v ≡ true → IsInput s inputs v)
    → (v : ℕ) → is_in (union a (set (w j).proper)) v ≡ true → IsInput s inputs v
proper_more s inputs w all j hj a h v t = go (in_union a (set (w j).proper) v t)
  where
    go : (is_in a v ≡ true) ⊎ (is_in (set (w j).proper) v ≡ true) → IsInput s inputs v
    go (inl x) = h v x
    go (inr x) = all j v hj x

-- two decided values are one
pub one_decided : (s : Setting) (w : World) (v u k l : ℕ) → v < s.values → u < s.values
    → Locked s w v k → Locked s w u l → v ≡ u
one_decided s w v u k l hv hu a b = go (cases_eq v u) (cases_lt k l)
  where
    clash : (x y m n : ℕ) → y < s.values → Locked s w x m → Locked s w y n → m ≤ n → (y ≢ x) → ⊥
    clash x y m n hy a b le ne =
        let q = some_counted b.holders 0 s.nodes (omega (arith, b.many)) in
        let lo = b.hold q.0 (omega arith) q.3 in
        let hi = a.others q.0 y (omega arith) hy ne in
        omega arith

    go : (v ≡ u) ⊎ (v ≡ u → ⊥) → (k < l) ⊎ (l ≤ k) → v ≡ u
    go (inl e) c = e
    go (inr ne) (inl lt) = absurd (clash v u k l hu a b (omega arith) (λ e. ne (sym e)))
    go (inr ne) (inr le) = absurd (clash u v l k hv b a le ne)
