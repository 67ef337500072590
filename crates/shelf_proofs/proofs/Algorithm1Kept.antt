-- What each round of Algorithm 1 keeps: what a node knows to be proper, and that it knows what it
-- has locked and proposes.
use Rattle.std.proofs.Common.{◌≡◌, ℕ, zero, suc, ◌+◌, ◌-◌, ◌<◌, ◌≤◌, min, Bool, true}
use Rattle.std.proofs.Common.{false}
use Rattle.std.proofs.Common.{cond, List, [], ◌∷◌, refl, sym, ap, ◌∙◌, subst, arith}
use Rattle.std.specs.Prelude.{◌&&◌, not, nat_lt, nat_le, slice_index, ◌==◌}
use Rattle.std.specs.List.{range_with_len}
use Rattle.std.proofs.lemmas.Bool.{and_parts, and_from, leb-true}
use Rattle.round_lang.specs.declared.value.Value.TheVariants.{Num}
use Rattle.round_lang.specs.Sets.{is_in, set_of, only, size, least}
use Rattle.round_lang.specs.Values.{num, set, row, of_set}
use Rattle.round_meaning.proofs.PhaseSteps.{Setting, Node, Message, World, Suits, hear, owner}
use Rattle.round_meaning.proofs.PhaseSteps.{acceptable, message1, take1, hears1, round1}
use Rattle.round_meaning.proofs.PhaseSteps.{message2, take2, hears2, round2, message3, take3}
use Rattle.round_meaning.proofs.PhaseSteps.{hears3}
use Rattle.round_meaning.proofs.PhaseSteps.{round3, message4, take4, hears4, next}
use Rattle.round_meaning.proofs.SetReading.{in_set_of, in_only, none_in, at_row, least_in}
use Rattle.round_meaning.proofs.Hearing.{count, kept}
use Rattle.round_meaning.proofs.LockInvariant.{lock, Has}
use Rattle.round_proofs.specs.Machines as machines
use Rattle.round_proofs.proofs.Counting as counting
use Rattle.round_proofs.proofs.SetSizes.{in_left, in_right}

abbrev pub top : ℕ
top = 4294967295

-- the fourth round of a phase, if node i hears the senders in c
abbrev pub release : Setting → (c : ℕ → Bool) → World → (i : ℕ) → Node
release s c w i = hear (take4 s) c (λ j. message4 (w j)) (range_with_len 0 s.nodes) (w i)

pub same_hear : (take : Node → Message → Node) (c : ℕ → Bool) (m : ℕ → Message) (js : List ℕ)
    (n : Node)
    → machines.hear (λ j l a. take a l) c m js n ≡ hear take c m js n
same_hear take c m [] n = refl
same_hear take c m (j ∷ js) n = same_hear take c m js (cond (c j) (take n (m j)) n)

-- what one message that is heard brings, and others keep
pub heard_one : (Q : Node → Type 0) (take : Node → Message → Node) (c : ℕ → Bool) (m : ℕ → Message)
    (n j : ℕ) → j < n → c j ≡ true → ((a : Node) → Q (take a (m j)))
    → ((i : ℕ) (a : Node) → Q a → Q (take a (m i))) → (a : Node)
    → Q (hear take c m (range_with_len 0 n) a)
heard_one Q take c m n j hj e brings keeps a =
    subst Q (same_hear take c m (range_with_len 0 n) a)
    (counting.gained Q (λ j l a. take a l) c m 0 n j (omega arith) (omega arith) e brings keeps a)

-- what grows by one for each message of a sender in d
pub counted_all : (measure : Node → ℕ) (d : ℕ → Bool) (take : Node → Message → Node) (c : ℕ → Bool)
    (m : ℕ → Message) (n : ℕ)
    → ((j : ℕ) (a : Node) → measure a < top → measure (take a (m j)) ≡ measure a + cond (d j) 1 0)
    → (a : Node) → measure a ≡ 0 → n ≤ top
    → measure (hear take c m (range_with_len 0 n) a) ≡ count (λ j. c j && d j) 0 n
counted_all measure d take c m n step a none few =
    let e = counting.counted measure d top (λ j l a. take a l) c m 0 n step a (omega arith) in
    let f = ap measure (same_hear take c m (range_with_len 0 n) a) in
    omega arith

-- ---- what is proper stays so

pub more1 : (s : Setting) (w : World) (o : ℕ → Bool) (k i v : ℕ) → v < 64 → Has (w i).proper v
    → Has (round1 s o k w i).proper v
more1 s w o k i v l h =
    kept (λ n. Has n.proper v) (take1 s) (hears1 s o k i) (λ j. message1 s (w j)) 0 s.nodes
    (λ j lo hi t n g. in_left (set n.proper) (set (w j).proper) v l g) (w i) h

pub more2 : (s : Setting) (w : World) (o : ℕ → Bool) (k i v : ℕ) → v < 64 → Has (w i).proper v
    → Has (round2 s o k w i).proper v
more2 s w o k i v l h =
    kept (λ n. Has n.proper v) (take2 s k) (hears2 o w) (λ j. message2 (w j)) 0 s.nodes
    (λ j lo hi t n g. in_left (set n.proper) (set (w j).proper) v l g) (w i) h

pub more3 : (s : Setting) (w : World) (o : ℕ → Bool) (k i v : ℕ) → v < 64 → Has (w i).proper v
    → Has (round3 s o k w i).proper v
more3 s w o k i v l h =
    kept (λ n. Has n.proper v) take3 (hears3 s o w k i) (λ j. message3 (w j)) 0 s.nodes
    (λ j lo hi t n g. in_left (set n.proper) (set (w j).proper) v l g) (w i) h

pub more4 : (s : Setting) (w : World) (c : ℕ → Bool) (i v : ℕ) → v < 64 → Has (w i).proper v
    → Has (release s c w i).proper v
more4 s w c i v l h =
    kept (λ n. Has n.proper v) (take4 s) c (λ j. message4 (w j)) 0 s.nodes
    (λ j lo hi t n g. in_left (set n.proper) (set (w j).proper) v l g) (w i) h

pub more : (s : Setting) (p k : ℕ) (w : World) (o : ℕ → ℕ → Bool) (i v : ℕ) → v < 64
    → Has (w i).proper v → Has (next s p k o w i).proper v
more s zero k w o i v l h = more1 s w (o i) k i v l h
more s (suc zero) k w o i v l h = more2 s w (o i) k i v l h
more s (suc (suc zero)) k w o i v l h = more3 s w (o i) k i v l h
more s (suc (suc (suc p))) k w o i v l h = more4 s w (hears4 s (o i) w) i v l h

-- the owner hears what is proper to others
pub told1 : (s : Setting) (w : World) (o : ℕ → Bool) (k i j v : ℕ) → v < 64 → j < s.nodes
    → o j ≡ false → (i == owner s k) ≡ true → Has (w j).proper v → Has (round1 s o k w i).proper v
told1 s w o k i j v l hj e mine h =
    heard_one (λ n. Has n.proper v) (take1 s) (hears1 s o k i) (λ j. message1 s (w j)) s.nodes j hj
    (and_from _ _ (ap not e) mine) (λ a. in_right (set a.proper) (set (w j).proper) v l h)
    (λ p a g. in_left (set a.proper) (set (w p).proper) v l g) (w i)

-- ---- a node knows what it has locked or proposes

pub record Knows (s : Setting) (w : World) : Type 0 where
  pub locks : (i u : ℕ) → i < s.nodes → u < s.values → 0 < lock (w i) u → Has (w i).proper u
  pub props : (i u : ℕ) → i < s.nodes → u < s.values → Has (w i).prop u → Has (w i).proper u

-- a node that accepts a value knows it to be proper
pub accepts : (s : Setting) (n : Node) (v : ℕ) → acceptable s n v ≡ true → Has n.proper v
accepts s n v h = (and_parts _ _ (and_parts _ _ h).0).1

-- what is on a list is proper
abbrev Listed : Setting → Node → Type 0
Listed s n = (u : ℕ) → u < s.values → 0 < slice_index (row n.lists) u → Has n.proper u

listed : (s : Setting) (w : World) (o : ℕ → Bool) (k i : ℕ) → s.values ≤ 64
    → ((u : ℕ) → u < s.values → slice_index (row (w i).lists) u ≡ 0)
    → Listed s (hear (take1 s) (hears1 s o k i) (λ j. message1 s (w j)) (range_with_len 0 s.nodes)
    (w i))
listed s w o k i small none =
    kept (Listed s) (take1 s) (hears1 s o k i) (λ j. message1 s (w j)) 0 s.nodes
    (λ j lo hi t n g u hu some. go j n g u hu
    (nat_lt u s.values && is_in (set_of s.values (acceptable s (w j))) u) refl
    (subst (λ x. 0 < x) (at_row (λ v. num
    (cond (nat_lt v s.values && is_in (set_of s.values (acceptable s (w j))) v)
    (Num (min (slice_index (row n.lists) v + 1) top)) (Num (slice_index (row n.lists) v))))
    s.values u hu) some))
    (w i) (λ u hu some. absurd (let z = none u hu in omega arith))
  where
    go : (j : ℕ) (n : Node) → Listed s n → (u : ℕ) → u < s.values → (b : Bool)
        → (nat_lt u s.values && is_in (set_of s.values (acceptable s (w j))) u) ≡ b
        → 0 < num (cond b (Num (min (slice_index (row n.lists) u + 1) top))
        (Num (slice_index (row n.lists) u)))
        → is_in (set (take1 s n (message1 s (w j))).proper) u ≡ true
    go j n g u hu true e some =
        in_right (set n.proper) (set (w j).proper) u (omega arith)
        (accepts s (w j) u (in_set_of s.values (acceptable s (w j)) u (and_parts _ _ e).1).1)
    go j n g u hu false e some = in_left (set n.proper) (set (w j).proper) u (omega arith)
        (g u hu some)

pub knows1 : (s : Setting) (inputs : ℕ → ℕ) (w : World) → Suits s inputs
    → ((i u : ℕ) → i < s.nodes → u < s.values → slice_index (row (w i).lists) u ≡ 0) → Knows s w
    → (o : ℕ → ℕ → Bool) (k : ℕ) → Knows s (λ i. round1 s (o i) k w i)
knows1 s inputs w ok none h o k = record {
  locks = λ i u hi hu some.
      kept (λ n. 0 < lock n u → Has n.proper u) (take1 s) (hears1 s (o i) k i)
      (λ j. message1 s (w j)) 0 s.nodes
      (λ j lo hj t n g some. in_left (set n.proper) (set (w j).proper) u (small u hu) (g some))
      (w i) (h.locks i u hi hu) some;
  props = λ i u hi hu p. go i u hi hu (i == owner s k) p;
}
  where
    small : (u : ℕ) → u < s.values → u < 64
    small u hu = let l = ok.values in omega arith

    n : ℕ → Node
    n i = hear (take1 s) (hears1 s (o i) k i) (λ j. message1 s (w j)) (range_with_len 0 s.nodes)
        (w i)

    go : (i u : ℕ) → i < s.nodes → u < s.values → (b : Bool)
        → Has (cond b (of_set (only s.values (least s.values (set_of s.values
        (λ v. nat_le (s.nodes - s.faults) (slice_index (row (n i).lists) v)))))) (of_set 0)) u
        → Has (n i).proper u
    go i u hi hu false p = absurd (none_in u p)
    go i u hi hu true p =
        let it = in_only s.values (least s.values (set_of s.values
        (λ v. nat_le (s.nodes - s.faults) (slice_index (row (n i).lists) v)))) u p in
        let here = least_in s.values (set_of s.values
        (λ v. nat_le (s.nodes - s.faults) (slice_index (row (n i).lists) v)))
        (subst (λ x. x < s.values) it.1 hu) in
        let test = (in_set_of s.values
        (λ v. nat_le (s.nodes - s.faults) (slice_index (row (n i).lists) v)) _ here).1 in
        let passed = leb-true (s.nodes - s.faults) (slice_index (row (n i).lists) u)
        (ap (λ v. nat_le (s.nodes - s.faults) (slice_index (row (n i).lists) v)) it.1 ∙ test) in
        listed s w (o i) k i ok.values (λ u hu. none i u hi hu) u hu (omega (arith, ok.faults))

pub knows2 : (s : Setting) (w : World) → s.values ≤ 64 → Knows s w → (o : ℕ → ℕ → Bool) (k : ℕ)
    → Knows s (λ i. round2 s (o i) k w i)
knows2 s w few h o k = record {
  locks = λ i u hi hu some.
      kept (λ n. 0 < lock n u → Has n.proper u) (take2 s k) (hears2 (o i) w)
      (λ j. message2 (w j)) 0 s.nodes
      (λ j lo hj t n g some. go j u (omega arith) hu n g
      (nat_lt u s.values && is_in (set (w j).prop) u) refl
      (subst (λ x. 0 < x) (at_row (λ u. num
      (cond (nat_lt u s.values && is_in (set (w j).prop) u) (Num k) (Num (lock n u)))) s.values u
      hu) some)) (w i) (h.locks i u hi hu) some;
  props = λ i u hi hu p.
      kept (λ n. Has n.prop u → Has n.proper u) (take2 s k) (hears2 (o i) w)
      (λ j. message2 (w j)) 0 s.nodes
      (λ j lo hj t n g p. in_left (set n.proper) (set (w j).proper) u (small u hu) (g p))
      (w i) (h.props i u hi hu) p;
}
  where
    small : (u : ℕ) → u < s.values → u < 64
    small u hu = omega arith

    go : (j u : ℕ) → j < s.nodes → u < s.values → (n : Node) → (0 < lock n u → Has n.proper u)
        → (b : Bool) → (nat_lt u s.values && is_in (set (w j).prop) u) ≡ b
        → 0 < num (cond b (Num k) (Num (lock n u)))
        → is_in (set (take2 s k n (message2 (w j))).proper) u ≡ true
    go j u hj hu n g true e some =
        in_right (set n.proper) (set (w j).proper) u (small u hu)
        (h.props j u hj hu (and_parts _ _ e).1)
    go j u hj hu n g false e some =
        in_left (set n.proper) (set (w j).proper) u (small u hu) (g some)

pub knows3 : (s : Setting) (w : World) → s.values ≤ 64 → Knows s w → (o : ℕ → ℕ → Bool) (k : ℕ)
    → Knows s (λ i. round3 s (o i) k w i)
knows3 s w few h o k = record {
  locks = λ i u hi hu some.
      kept (λ n. 0 < lock n u → Has n.proper u) take3 (hears3 s (o i) w k i)
      (λ j. message3 (w j)) 0 s.nodes
      (λ j lo hj t n g some. in_left (set n.proper) (set (w j).proper) u (small u hu) (g some))
      (w i) (h.locks i u hi hu) some;
  props = λ i u hi hu p. absurd (none_in u p);
}
  where
    small : (u : ℕ) → u < s.values → u < 64
    small u hu = omega arith

-- ---- the fourth round

abbrev pub passes : Setting → Node → Message → ℕ → ℕ → Bool
passes s n m v w = (not (w == v) && nat_lt 0 (slice_index (row m.body) w))
    && nat_le (slice_index (row n.locks) v) (slice_index (row m.body) w)

-- a lock on v is released, or stays
unfoldable pub test4 : Setting → Node → Message → ℕ → Bool
test4 s n m v = nat_lt 0 (size (set_of s.values (passes s n m v)))

pub read4 : (s : Setting) (n : Node) (m : Message) (v : ℕ) → v < s.values
    → lock (take4 s n m) v ≡ num (cond (test4 s n m v) (Num 0) (Num (lock n v)))
unfolding test4
read4 s n m v hv =
    at_row (λ v. num (cond (nat_lt 0 (size (set_of s.values (passes s n m v)))) (Num 0)
    (Num (slice_index (row n.locks) v)))) s.values v hv

pub falls4 : (s : Setting) (n : Node) (m : Message) (v : ℕ) → v < s.values
    → lock (take4 s n m) v ≤ lock n v
falls4 s n m v hv =
    subst (λ x. x ≤ lock n v) (sym (read4 s n m v hv)) (go (test4 s n m v))
  where
    go : (b : Bool) → num (cond b (Num 0) (Num (lock n v))) ≤ lock n v
    go true = omega arith
    go false = omega arith

pub knows4 : (s : Setting) (w : World) → s.values ≤ 64 → Knows s w → (c : ℕ → ℕ → Bool)
    → Knows s (λ i. release s (c i) w i)
knows4 s w few h c = record {
  locks = λ i u hi hu some.
      kept (λ n. 0 < lock n u → Has n.proper u) (take4 s) (c i)
      (λ j. message4 (w j)) 0 s.nodes
      (λ j lo hj t n g some. in_left (set n.proper) (set (w j).proper) u (small u hu)
      (g (let f = falls4 s n (message4 (w j)) u hu in omega arith)))
      (w i) (h.locks i u hi hu) some;
  props = λ i u hi hu p.
      kept (λ n. Has n.prop u → Has n.proper u) (take4 s) (c i)
      (λ j. message4 (w j)) 0 s.nodes
      (λ j lo hj t n g p. in_left (set n.proper) (set (w j).proper) u (small u hu) (g p))
      (w i) (h.props i u hi hu) p;
}
  where
    small : (u : ℕ) → u < s.values → u < 64
    small u hu = omega arith

pub knows : (s : Setting) (inputs : ℕ → ℕ) (p k : ℕ) (w : World) → Suits s inputs
    → ((i u : ℕ) → i < s.nodes → u < s.values → slice_index (row (w i).lists) u ≡ 0) → Knows s w
    → (o : ℕ → ℕ → Bool) → Knows s (next s p k o w)
knows s inputs zero k w ok none h o = knows1 s inputs w ok none h o k
knows s inputs (suc zero) k w ok none h o = knows2 s w ok.values h o k
knows s inputs (suc (suc zero)) k w ok none h o = knows3 s w ok.values h o k
knows s inputs (suc (suc (suc p))) k w ok none h o =
    knows4 s w ok.values h (λ i. hears4 s (o i) w)
