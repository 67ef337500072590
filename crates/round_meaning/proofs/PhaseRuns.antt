-- Whole runs: all decisions are one, and it is an input.
use Rattle.std.proofs.Common.{◌≡◌, ℕ, zero, suc, ◌+◌, ◌/◌, ◌%◌, ◌<◌, ◌≤◌, ◌≢◌, Bool, refl, sym}
use Rattle.std.proofs.Common.{subst, inl, inr, ◌⊎◌, Some, None, arith}
use Rattle.std.specs.Prelude.{nat_le}
use Rattle.std.specs.List.{range_with_len, count_by}
use Rattle.std.proofs.lemmas.List.{get_or-replicate}
use Rattle.std.proofs.lemmas.Bool.{le-leb}
use Rattle.round_lang.specs.Values.{set}
use Rattle.round_meaning.proofs.PhaseSteps.{Setting, World, Suits, start, next, run, node_decision}
use Rattle.round_meaning.proofs.SetReading.{in_only, none_in, decided_in, none_decided}
use Rattle.round_meaning.proofs.Hearing.{count, count-is, count_more}
use Rattle.round_meaning.proofs.LockInvariant.{IsInput, lock, Has, Locked, Always, Before, Proposed}
use Rattle.round_meaning.proofs.LockInvariant.{Locking, below_values, one_decided}
use Rattle.round_meaning.proofs.ProposalRound.{step1, stays1, locked1, was1}
use Rattle.round_meaning.proofs.LockRound.{step2, stays2, locked2, was2}
use Rattle.round_meaning.proofs.DecisionRound.{step3, stays3, locked3}
use Rattle.round_meaning.proofs.ReleaseRound.{step4, stays4, locked4, was4}

-- what holds before the round at position p of phase q+1
abbrev pub Inv : Setting → (ℕ → ℕ) → ℕ → ℕ → World → Type 0
Inv s inputs zero q w = Before s inputs q w
Inv s inputs (suc zero) q w = Proposed s inputs q w
Inv s inputs (suc (suc zero)) q w = Locking s inputs q w
Inv s inputs (suc (suc (suc p))) q w = Before s inputs (q + 1) w

pub always_of : (s : Setting) (inputs : ℕ → ℕ) (p q : ℕ) (w : World) → Inv s inputs p q w
    → Always s inputs w
always_of s inputs zero q w h = h.always
always_of s inputs (suc zero) q w h = h.always
always_of s inputs (suc (suc zero)) q w h = h.always
always_of s inputs (suc (suc (suc p))) q w h = h.always

one_on : (s : Setting) (inputs : ℕ → ℕ) → Suits s inputs
    → (r p q : ℕ) (w : World) (o : ℕ → ℕ → Bool) → r % 4 ≡ p → r / 4 ≡ q → p < 4
    → Inv s inputs p q w → Inv s inputs (suc r % 4) (suc r / 4) (next s p (q + 1) o w)
one_on s inputs ok r zero q w o a b l h =
    let e : suc r % 4 ≡ 1 = omega arith in
    let f : suc r / 4 ≡ q = omega arith in
    rw (e, f) (step1 s inputs q w ok h o (q + 1))
one_on s inputs ok r (suc zero) q w o a b l h =
    let e : suc r % 4 ≡ 2 = omega arith in
    let f : suc r / 4 ≡ q = omega arith in
    rw (e, f) (step2 s inputs q w ok h o)
one_on s inputs ok r (suc (suc zero)) q w o a b l h =
    let e : suc r % 4 ≡ 3 = omega arith in
    let f : suc r / 4 ≡ q = omega arith in
    rw (e, f) (step3 s inputs q w ok h o (q + 1)).0
one_on s inputs ok r (suc (suc (suc p))) q w o a b l h =
    let e : suc r % 4 ≡ 0 = omega arith in
    let f : suc r / 4 ≡ q + 1 = omega arith in
    rw (e, f) (step4 s inputs (q + 1) w ok h o)

at_start : (s : Setting) (inputs : ℕ → ℕ) → Before s inputs 0 (λ i. start s (inputs i))
at_start s inputs = record {
  always = record {
    proper = λ i v hi h. (i, hi, sym (in_only s.values (inputs i) v h).1);
    done = λ i v hi h. absurd (none_in v h);
    decided = λ i v hi h. absurd (none_in v h);
    lists = λ i v hi hv. get_or-replicate s.values v 0 0 hv;
    acks = λ i hi. refl;
  };
  none = λ v a. none_in v a.2;
  got = λ i hi. refl;
  bound = λ i v hi hv. let e : lock (start s (inputs i)) v ≡ 0 =
      get_or-replicate s.values v 0 0 hv in omega arith;
}

pub holds : (s : Setting) (inputs : ℕ → ℕ) (omits : ℕ → ℕ → ℕ → Bool) → Suits s inputs → (r : ℕ)
    → Inv s inputs (r % 4) (r / 4) (run s inputs omits r)
holds s inputs omits ok zero = at_start s inputs
holds s inputs omits ok (suc r) =
    one_on s inputs ok r (r % 4) (r / 4) (run s inputs omits r) (λ i. omits i (suc r)) refl refl
    (omega arith) (holds s inputs omits ok r)

stays : (s : Setting) (p k : ℕ) (w : World) (o : ℕ → ℕ → Bool) (i v : ℕ) → v < 64 → Has (w i).done v
    → Has (next s p k o w i).done v
stays s zero k w o i v l h = stays1 s w (o i) k i v h
stays s (suc zero) k w o i v l h = stays2 s w (o i) k i v h
stays s (suc (suc zero)) k w o i v l h = stays3 s w (o i) k i v l h
stays s (suc (suc (suc p))) k w o i v l h = stays4 s w (o i) i v h

pub stays_long : (s : Setting) (inputs : ℕ → ℕ) (omits : ℕ → ℕ → ℕ → Bool) (i v r d : ℕ) → v < 64
    → Has (run s inputs omits r i).done v → Has (run s inputs omits (r + d) i).done v
stays_long s inputs omits i v r zero l h = let e : r + 0 ≡ r = omega arith in rw e h
stays_long s inputs omits i v r (suc d) l h =
    let e : r + suc d ≡ suc (r + d) = omega arith in
    rw e (stays s ((r + d) % 4) ((r + d) / 4 + 1) (run s inputs omits (r + d))
    (λ i. omits i (suc (r + d))) i v l (stays_long s inputs omits i v r d l h))

decided_input : (s : Setting) (inputs : ℕ → ℕ) (omits : ℕ → ℕ → ℕ → Bool) → Suits s inputs
    → (i r v : ℕ) → i < s.nodes
    → node_decision (run s inputs omits r i) ≡ Some v → IsInput s inputs v
decided_input s inputs omits ok i r v hi d =
    (always_of s inputs (r % 4) (r / 4) (run s inputs omits r) (holds s inputs omits ok r)).done i v
    hi (decided_in (set (run s inputs omits r i).done) v d)

-- all decisions are equal, of any nodes and rounds
pub agreement : (s : Setting) (inputs : ℕ → ℕ) (omits : ℕ → ℕ → ℕ → Bool) → Suits s inputs
    → (i j r q v u : ℕ) → i < s.nodes → j < s.nodes
    → node_decision (run s inputs omits r i) ≡ Some v
    → node_decision (run s inputs omits q j) ≡ Some u → v ≡ u
agreement s inputs omits ok i j r q v u hi hj a b =
    let hv = below_values s inputs ok v (decided_input s inputs omits ok i r v hi a) in
    let hu = below_values s inputs ok u (decided_input s inputs omits ok j q u hj b) in
    let top : ℕ = r + q in
    let small = ok.values in
    let e : q + r ≡ r + q = omega arith in
    let inv = always_of s inputs ((r + q) % 4) ((r + q) / 4) (run s inputs omits (r + q))
    (holds s inputs omits ok (r + q)) in
    let x = inv.decided i v hi
    (stays_long s inputs omits i v r q (omega arith)
    (decided_in (set (run s inputs omits r i).done) v a)) in
    let late = stays_long s inputs omits j u q r (omega arith)
    (decided_in (set (run s inputs omits q j).done) u b) in
    let y = inv.decided j u hj (subst (λ m. Has (run s inputs omits m j).done u) e late) in
    one_decided s (run s inputs omits (r + q)) v u x.0 y.0 hv hu x.2 y.2

-- a node_decision is some node's input
pub validity : (s : Setting) (inputs : ℕ → ℕ) (omits : ℕ → ℕ → ℕ → Bool) → Suits s inputs
    → (i r v : ℕ) → i < s.nodes
    → node_decision (run s inputs omits r i) ≡ Some v → (l : ℕ) × (l < s.nodes) × (inputs l ≡ v)
validity s inputs omits ok i r v hi d = decided_input s inputs omits ok i r v hi d

locked_on : (s : Setting) (inputs : ℕ → ℕ) → Suits s inputs
    → (p q : ℕ) (w : World) (o : ℕ → ℕ → Bool) → Inv s inputs p q w
    → (v k : ℕ) → 0 < k → v < s.values → Locked s w v k → Locked s (next s p (q + 1) o w) v k
locked_on s inputs ok zero q w o h v k pos hv l = locked1 s w o (q + 1) v k l
locked_on s inputs ok (suc zero) q w o h v k pos hv l = locked2 s inputs q w ok h o v k pos hv l
locked_on s inputs ok (suc (suc zero)) q w o h v k pos hv l = locked3 s w o (q + 1) v k l
locked_on s inputs ok (suc (suc (suc p))) q w o h v k pos hv l = locked4 s w o v k hv l

fresh_on : (s : Setting) (inputs : ℕ → ℕ) → Suits s inputs
    → (p q : ℕ) (w : World) (o : ℕ → ℕ → Bool) → Inv s inputs p q w
    → (i v : ℕ) → i < s.nodes → Has (next s p (q + 1) o w i).done v
    → Has (w i).done v ⊎ Locked s (next s p (q + 1) o w) v (q + 1)
fresh_on s inputs ok zero q w o h i v hi t = inl (was1 s w (o i) (q + 1) i v t)
fresh_on s inputs ok (suc zero) q w o h i v hi t = inl (was2 s w (o i) (q + 1) i v t)
fresh_on s inputs ok (suc (suc zero)) q w o h i v hi t =
    (step3 s inputs q w ok h o (q + 1)).1 i v hi t
fresh_on s inputs ok (suc (suc (suc p))) q w o h i v hi t = inl (was4 s w (o i) i v t)

locked_long : (s : Setting) (inputs : ℕ → ℕ) (omits : ℕ → ℕ → ℕ → Bool) → Suits s inputs
    → (v k r d : ℕ) → 0 < k → v < s.values
    → Locked s (run s inputs omits r) v k → Locked s (run s inputs omits (r + d)) v k
locked_long s inputs omits ok v k r zero pos hv l = let e : r + 0 ≡ r = omega arith in rw e l
locked_long s inputs omits ok v k r (suc d) pos hv l =
    let e : r + suc d ≡ suc (r + d) = omega arith in
    rw e (locked_on s inputs ok ((r + d) % 4) ((r + d) / 4) (run s inputs omits (r + d))
    (λ i. omits i (suc (r + d)))
    (holds s inputs omits ok (r + d)) v k pos hv (locked_long s inputs omits ok v k r d pos hv l))

-- v is decided in round r+1 by a node: from then on it is locked at that round's phase
pub locked_since : (s : Setting) (inputs : ℕ → ℕ) (omits : ℕ → ℕ → ℕ → Bool) → Suits s inputs
    → (i r d v : ℕ) → i < s.nodes
    → node_decision (run s inputs omits r i) ≡ None
    → node_decision (run s inputs omits (suc r) i) ≡ Some v
    → Locked s (run s inputs omits (suc r + d)) v (r / 4 + 1)
locked_since s inputs omits ok i r d v hi before now =
    locked_long s inputs omits ok v (r / 4 + 1) (suc r) d (omega arith) hv
    (new (fresh_on s inputs ok (r % 4) (r / 4) (run s inputs omits r) (λ i. omits i (suc r))
    (holds s inputs omits ok r) i v hi
    (decided_in (set (run s inputs omits (suc r) i).done) v now)))
  where
    hv : v < s.values
    hv = below_values s inputs ok v (decided_input s inputs omits ok i (suc r) v hi now)

    new : Has (run s inputs omits r i).done v ⊎ Locked s (run s inputs omits (suc r)) v (r / 4 + 1)
        → Locked s (run s inputs omits (suc r)) v (r / 4 + 1)
    new (inl x) =
        absurd (none_decided (set (run s inputs omits r i).done) v
        (omega (arith, ok.values, hv)) before x)
    new (inr l) = l

-- in counts
pub locked_counts : (s : Setting) (w : World) (v k : ℕ) → Locked s w v k
    → (s.faults + 1 ≤ count_by (λ j. nat_le k (lock (w j) v)) (range_with_len 0 s.nodes))
    × ((j u : ℕ) → j < s.nodes → u < s.values → u ≢ v → lock (w j) u < k)
locked_counts s w v k l =
    (omega (arith, l.many, count-is (λ j. nat_le k (lock (w j) v)) 0 s.nodes, more), l.others)
  where
    more : count l.holders 0 s.nodes ≤ count (λ j. nat_le k (lock (w j) v)) 0 s.nodes
    more = count_more l.holders (λ j. nat_le k (lock (w j) v)) 0 s.nodes
        (λ j lo hi t. le-leb k (lock (w j) v) (l.hold j (omega arith) t))
