-- A phase of Algorithm 1 whose owner lives and in whose rounds all hear those that live.
use Rattle.std.proofs.Common.{◌≡◌, ◌≢◌, ℕ, ◌+◌, ◌-◌, ◌<◌, ◌≤◌, min, Bool, true}
use Rattle.std.proofs.Common.{false}
use Rattle.std.proofs.Common.{cond, refl, sym, ap, ◌∙◌, subst, inl, inr, ◌⊎◌, arith}
use Rattle.std.specs.Prelude.{◌&&◌, not, nat_lt, nat_le, slice_index, ◌==◌}
use Rattle.std.specs.List.{range_with_len}
use Rattle.std.proofs.lemmas.Bool.{cases_lt, and_parts, and_from, eq-eqb, false≢true}
use Rattle.std.proofs.lemmas.Bool.{le-leb, lt-ltb, ltb-true, ne_eqb}
use Rattle.round_lang.specs.declared.value.Value.TheVariants.{Num}
use Rattle.round_lang.specs.Sets.{is_in, set_of, only, size, least}
use Rattle.round_lang.specs.Values.{num, flag, set, row, of_set}
use Rattle.round_meaning.proofs.PhaseSteps.{Setting, Node, Message, World, Suits, hear, owner}
use Rattle.round_meaning.proofs.PhaseSteps.{acceptable, message1, take1, hears1, round1}
use Rattle.round_meaning.proofs.PhaseSteps.{message2, take2, hears2, round2, message3, take3}
use Rattle.round_meaning.proofs.PhaseSteps.{hears3}
use Rattle.round_meaning.proofs.PhaseSteps.{round3, message4, take4}
use Rattle.round_meaning.proofs.SetReading.{in_set_of, is_in-set_of, at_row, member-size}
use Rattle.round_meaning.proofs.SetReading.{some_member}
use Rattle.round_meaning.proofs.SetMembership.{sets_are_members}
use Rattle.round_meaning.proofs.Hearing.{count, count_more, kept, some_counted}
use Rattle.round_meaning.proofs.LockInvariant.{Always, Has, lock}
use Rattle.round_proofs.proofs.Counting.{counted_in}
use Rattle.round_proofs.proofs.SetSizes.{in_left, in_right, only_itself}
use Rattle.shelf_proofs.proofs.Algorithm1Kept.{Knows, counted_all, falls4, heard_one, read4}
use Rattle.shelf_proofs.proofs.Algorithm1Kept.{release, test4, top}

-- a node that knows a value, and has no lock on another, accepts it
pub accepted : (s : Setting) (n : Node) (v : ℕ) → v < s.values → Has n.proper v
    → ((u : ℕ) → u < s.values → u ≢ v → lock n u ≡ 0) → acceptable s n v ≡ true
accepted s n v hv h free =
    and_from _ _ (and_from _ _ (lt-ltb v s.values hv) h)
    (eq-eqb (size P) 0 (go (cases_lt 0 (size P))))
  where
    p : ℕ → Bool
    p = λ w. not (w == v) && nat_lt 0 (slice_index (row n.locks) w)

    P : ℕ
    P = set_of s.values p

    go : (0 < size P) ⊎ (size P ≤ 0) → size P ≡ 0
    go (inr le) = omega arith
    go (inl some) =
        let u = some_member P some in
        let at_u = in_set_of s.values p u.0 u.1 in
        let both = and_parts (not (u.0 == v)) (nat_lt 0 (slice_index (row n.locks) u.0)) at_u.1 in
        let ne : u.0 ≢ v = λ e. false≢true (sym (ap not (eq-eqb u.0 v e)) ∙ both.0) in
        let z = free u.0 at_u.0 ne in
        let l = ltb-true 0 (slice_index (row n.locks) u.0) both.1 in
        absurd (omega arith)

bump : (x : ℕ) (a b : Bool) → a ≡ true → x < top
    → num (cond (a && b) (Num (min (x + 1) top)) (Num x)) ≡ x + cond b 1 0
bump x true true e h = omega arith
bump x true false e h = omega arith
bump x false b e h = absurd (false≢true e)

-- if all nodes that live accept some value, the owner proposes one
pub proposes : (s : Setting) (inputs : ℕ → ℕ) (w : World) (o : ℕ → Bool) (k c : ℕ)
    (living : ℕ → Bool) → Suits s inputs
    → ((u : ℕ) → u < s.values → slice_index (row (w c).lists) u ≡ 0)
    → (c == owner s k) ≡ true → s.nodes ≤ count living 0 s.nodes + s.faults
    → ((j : ℕ) → j < s.nodes → living j ≡ true → o j ≡ false)
    → (v : ℕ) → v < s.values
    → ((j : ℕ) → j < s.nodes → living j ≡ true → acceptable s (w j) v ≡ true)
    → (u : ℕ) × (u < s.values) × Has (round1 s o k w c).prop u
proposes s inputs w o k c living ok none mine many heard v hv all = (
  best,
  at_best.0,
  subst (λ b. Has (cond b (of_set (only s.values best)) (of_set 0)) best) (sym mine)
      (only_itself s.values best at_best.0),
)
  where
    n : Node
    n = hear (take1 s) (hears1 s o k c) (λ j. message1 s (w j)) (range_with_len 0 s.nodes) (w c)

    names : ℕ → Bool
    names = λ j. is_in (set_of s.values (acceptable s (w j))) v

    passing : ℕ → Bool
    passing = λ v. nat_le (s.nodes - s.faults) (slice_index (row n.lists) v)

    best : ℕ
    best = least s.values (set_of s.values passing)

    lists : slice_index (row n.lists) v ≡ count (λ j. hears1 s o k c j && names j) 0 s.nodes
    lists =
        counted_all (λ b. slice_index (row b.lists) v) names (take1 s) (hears1 s o k c)
        (λ j. message1 s (w j)) s.nodes (λ j b h. at_row (λ v. num
        (cond (nat_lt v s.values && is_in (set_of s.values (acceptable s (w j))) v)
        (Num (min (slice_index (row b.lists) v + 1) top)) (Num (slice_index (row b.lists) v))))
        s.values v hv ∙ bump (slice_index (row b.lists) v) (nat_lt v s.values) (names j)
        (lt-ltb v s.values hv) h) (w c) (none v hv) ok.nodes

    passed : passing v ≡ true
    passed =
        let more = count_more living (λ j. hears1 s o k c j && names j) 0 s.nodes
        (λ j lo hj t. and_from _ _ (and_from _ _ (ap not (heard j (omega arith) t)) mine)
        (is_in-set_of s.values (acceptable s (w j)) v hv ∙ all j (omega arith) t)) in
        le-leb (s.nodes - s.faults) (slice_index (row n.lists) v) (omega (arith, lists))

    at_best : (best < s.values) × (passing best ≡ true)
    at_best =
        let small = ok.values in
        in_set_of s.values passing best (sets_are_members.least_member s.values
        (set_of s.values passing) v (omega arith) (is_in-set_of s.values passing v hv ∙ passed)).0

-- all nodes get what the owner proposes
pub gets : (s : Setting) (w : World) (o : ℕ → Bool) (k i c u : ℕ) → c < s.nodes → o c ≡ false
    → u < 64 → Has (w c).prop u → flag (round2 s o k w i).got ≡ true
gets s w o k i c u hc heard small h =
    heard_one (λ n. flag n.got ≡ true) (take2 s k) (hears2 o w) (λ j. message2 (w j)) s.nodes c hc
    (and_from _ _ (ap not heard)
    (lt-ltb 0 (size (set (w c).prop)) (member-size (set (w c).prop) u small h)))
    (λ a. refl) (λ j a h. refl) (w i)

pub still_proposes : (s : Setting) (w : World) (o : ℕ → Bool) (k c u : ℕ) → Has (w c).prop u
    → Has (round2 s o k w c).prop u
still_proposes s w o k c u h =
    kept (λ n. Has n.prop u) (take2 s k) (hears2 o w) (λ j. message2 (w j)) 0 s.nodes
    (λ j lo hi t n g. g) (w c) h

one_more : (x : ℕ) → x < top → min (x + 1) top ≡ x + cond true 1 0
one_more x h = omega arith

-- an owner whom all nodes that live acknowledge decides
pub decides : (s : Setting) (inputs : ℕ → ℕ) (w : World) (o : ℕ → Bool) (k c : ℕ) (living : ℕ
    → Bool)
    → Suits s inputs → num (w c).acks ≡ 0 → (c == owner s k) ≡ true
    → s.nodes ≤ count living 0 s.nodes + s.faults
    → ((j : ℕ) → j < s.nodes → living j ≡ true → o j ≡ false)
    → ((j : ℕ) → j < s.nodes → living j ≡ true → flag (w j).got ≡ true) → (u : ℕ) → Has (w c).prop u
    → (v : ℕ) × Has (round3 s o k w c).done v
decides s inputs w o k c living ok none mine many heard got u h = go
    (cases_lt 0 (size (set n.done)))
  where
    n : Node
    n = hear take3 (hears3 s o w k c) (λ j. message3 (w j)) (range_with_len 0 s.nodes) (w c)

    prop : n.prop ≡ (w c).prop
    prop = kept (λ n. n.prop ≡ (w c).prop) take3 (hears3 s o w k c) (λ j. message3 (w j)) 0 s.nodes
        (λ j lo hi t n g. g) (w c) refl

    acks : num n.acks ≡ count (λ j. hears3 s o w k c j && true) 0 s.nodes
    acks =
        counted_all (λ b. num b.acks) (λ j. true) take3 (hears3 s o w k c) (λ j. message3 (w j))
        s.nodes (λ j b h. one_more (num b.acks) h) (w c) none ok.nodes

    enough : nat_le (min (s.faults + 1) top) (num n.acks) ≡ true
    enough =
        let more = count_more living (λ j. hears3 s o w k c j && true) 0 s.nodes
        (λ j lo hj t. and_from _ _ (and_from _ _ (ap not (heard j (omega arith) t))
        (and_from _ _ (got j (omega arith) t) mine)) refl) in
        le-leb (min (s.faults + 1) top) (num n.acks) (omega (arith, acks, ok.faults))

    go : (0 < size (set n.done)) ⊎ (size (set n.done) ≤ 0)
        → (v : ℕ) × Has (cond ((size (set n.done) == 0)
        && nat_le (min (s.faults + 1) top) (num n.acks)) n.prop n.done) v
    go (inl some) =
        let v = some_member (set n.done) some in
        let off = ne_eqb (size (set n.done)) 0 (λ e. omega arith) in (
          v.0,
          subst (λ b. Has (cond (b && nat_le (min (s.faults + 1) top) (num n.acks)) n.prop n.done)
              v.0) (sym off) v.1,
        )
    go (inr le) =
        let on = and_from _ _ (eq-eqb (size (set n.done)) 0 (omega arith)) enough in (
          u,
          subst (λ b. Has (cond b n.prop n.done) u) (sym on)
              (subst (λ p. Has p u) (sym prop) h),
        )

-- ---- the fourth round

-- who holds a lock tells it
pub holds_lock : (s : Setting) (n : Node) (u : ℕ) → s.values ≤ 64 → u < s.values → 0 < lock n u
    → nat_lt 0 (size (set_of s.values (λ v. nat_lt 0 (slice_index (row n.locks) v)))) ≡ true
holds_lock s n u small hu some =
    lt-ltb 0 _ (member-size _ u (omega arith)
    (is_in-set_of s.values (λ v. nat_lt 0 (slice_index (row n.locks) v)) u hu
    ∙ lt-ltb 0 (lock n u) some))

pub less4 : (s : Setting) (w : World) (c : ℕ → Bool) (i v : ℕ) → v < s.values
    → lock (release s c w i) v ≤ lock (w i) v
less4 s w c i v hv =
    kept (λ n. lock n v ≤ lock (w i) v) (take4 s) c (λ j. message4 (w j)) 0 s.nodes
    (λ j lo hi t n h. let f = falls4 s n (message4 (w j)) v hv in omega arith) (w i) (omega arith)

-- a node that hears of a lock on another value that is as late releases its own
pub released : (s : Setting) (w : World) (c : ℕ → Bool) (i j v u : ℕ) → s.values ≤ 64
    → j < s.nodes → v < s.values → u < s.values → c j ≡ true → u ≢ v → 0 < lock (w j) u
    → lock (w i) v ≤ lock (w j) u → lock (release s c w i) v ≡ 0
unfolding test4
released s w c i j v u small hj hv hu heard ne some le = last
    (heard_one Q (take4 s) c (λ j. message4 (w j)) s.nodes j hj heard brings keeps (w i))
  where
    Q : Node → Type 0
    Q n = (lock n v ≡ 0) ⊎ (lock (w j) u < lock n v)

    m : ℕ → Message
    m p = message4 (w p)

    read : (p : ℕ) (a : Node)
        → lock (take4 s a (m p)) v ≡ num (cond (test4 s a (m p) v) (Num 0) (Num (lock a v)))
    read p a = read4 s a (m p) v hv

    brings : (a : Node) → Q (take4 s a (m j))
    brings a = go (test4 s a (m j) v) refl
      where
        go : (b : Bool) → test4 s a (m j) v ≡ b → Q (take4 s a (m j))
        go true e = inl (read j a ∙ ap (λ b. num (cond b (Num 0) (Num (lock a v)))) e)
        go false e = by (cases_lt (lock (w j) u) (lock a v))
          where
            same : lock (take4 s a (m j)) v ≡ lock a v
            same = read j a ∙ ap (λ b. num (cond b (Num 0) (Num (lock a v)))) e

            by : (lock (w j) u < lock a v) ⊎ (lock a v ≤ lock (w j) u) → Q (take4 s a (m j))
            by (inl l) = inr (omega (arith, same))
            by (inr l) = absurd (false≢true (sym e ∙ lt-ltb 0 _ (member-size _ u (omega arith)
                (is_in-set_of s.values (λ w'. (not (w' == v)
                && nat_lt 0 (slice_index (row (m j).body) w'))
                && nat_le (slice_index (row a.locks) v) (slice_index (row (m j).body) w')) u hu
                ∙ and_from _ _ (and_from _ _ (ap not (ne_eqb u v ne))
                (lt-ltb 0 (lock (w j) u) some))
                (le-leb (lock a v) (lock (w j) u) l)))))

    keeps : (p : ℕ) (a : Node) → Q a → Q (take4 s a (m p))
    keeps p a h = go (test4 s a (m p) v) refl h
      where
        go : (b : Bool) → test4 s a (m p) v ≡ b → Q a → Q (take4 s a (m p))
        go true e h = inl (read p a ∙ ap (λ b. num (cond b (Num 0) (Num (lock a v)))) e)
        go false e (inl z) = inl (read p a ∙ ap (λ b. num (cond b (Num 0) (Num (lock a v)))) e ∙ z)
        go false e (inr l) =
            let same : lock (take4 s a (m p)) v ≡ lock a v = read p a
            ∙ ap (λ b. num (cond b (Num 0) (Num (lock a v)))) e in
            inr (omega arith)

    last : Q (release s c w i) → lock (release s c w i) v ≡ 0
    last (inl z) = z
    last (inr l) = let f = less4 s w c i v hv in absurd (omega arith)

-- a node hears what others know
pub told4 : (s : Setting) (w : World) (c : ℕ → Bool) (i j u : ℕ) → s.values ≤ 64 → j < s.nodes
    → u < s.values → c j ≡ true → Has (w j).proper u → Has (release s c w i).proper u
told4 s w c i j u small hj hu heard h =
    heard_one (λ n. Has n.proper u) (take4 s) c (λ j. message4 (w j)) s.nodes j hj heard
    (λ a. in_right (set a.proper) (set (w j).proper) u (omega arith) h)
    (λ p a g. in_left (set a.proper) (set (w p).proper) u (omega arith) g) (w i)

-- the nodes that live hear each other's locks
abbrev pub HearLocks : Setting → (living : ℕ → Bool) → (c : ℕ → ℕ → Bool) → World → Type 0
HearLocks s living c w =
    (i j u : ℕ) → i < s.nodes → j < s.nodes → living i ≡ true → living j ≡ true → u < s.values
    → 0 < lock (w j) u → c i j ≡ true

-- after it, all locks of nodes that live are on one value
pub one_lock : (s : Setting) (w : World) (c : ℕ → ℕ → Bool) (living : ℕ → Bool) → s.values ≤ 64
    → HearLocks s living c w
    → (i j v u : ℕ) → i < s.nodes → j < s.nodes → living i ≡ true → living j ≡ true
    → v < s.values → u < s.values → u ≢ v → 0 < lock (release s (c j) w j) u
    → lock (release s (c i) w i) v ≡ 0
one_lock s w c living small heard i j v u hi hj li lj hv hu ne some =
    go (cases_lt (lock (w j) u) (lock (w i) v))
  where
    before : 0 < lock (w j) u
    before = let f = less4 s w (c j) j u hu in omega arith

    go : (lock (w j) u < lock (w i) v) ⊎ (lock (w i) v ≤ lock (w j) u)
        → lock (release s (c i) w i) v ≡ 0
    go (inr le) = released s w (c i) i j v u small hj hv hu (heard i j u hi hj li lj hu before) ne
        before le
    go (inl lt) =
        let gone = released s w (c j) j i u v small hi hu hv
        (heard j i v hj hi lj li hv (omega arith)) (λ e. ne (sym e)) (omega arith) (omega arith) in
        absurd (omega arith)

-- after it, all nodes that live accept some value, if there is one that all of them know
pub common : (s : Setting) (w : World) (c : ℕ → ℕ → Bool) (living : ℕ → Bool) → s.values ≤ 64
    → Knows s w → HearLocks s living c w → (x : ℕ) → x < s.values
    → ((i : ℕ) → i < s.nodes → living i ≡ true → Has (release s (c i) w i).proper x)
    → (v : ℕ) × (v < s.values) × ((j : ℕ) → j < s.nodes → living j ≡ true
    → acceptable s (release s (c j) w j) v ≡ true)
common s w c living small knows heard x hx all_know = go (cases_lt 0 (count locked 0 s.nodes))
  where
    z : World
    z i = release s (c i) w i

    locks : ℕ → ℕ
    locks j = set_of s.values (λ v. nat_lt 0 (lock (z j) v))

    locked : ℕ → Bool
    locked j = living j && nat_lt 0 (size (locks j))

    go : (0 < count locked 0 s.nodes) ⊎ (count locked 0 s.nodes ≤ 0)
        → (v : ℕ) × (v < s.values) × ((j : ℕ) → j < s.nodes → living j ≡ true
        → acceptable s (z j) v ≡ true)
    go (inl some) =
        let j = some_counted locked 0 s.nodes some in
        let hj : j.0 < s.nodes = omega (arith, j.2) in
        let parts = and_parts (living j.0) (nat_lt 0 (size (locks j.0))) j.3 in
        let u = some_member (locks j.0) (ltb-true 0 (size (locks j.0)) parts.1) in
        let at_u = in_set_of s.values (λ v. nat_lt 0 (lock (z j.0) v)) u.0 u.1 in
        let held : 0 < lock (z j.0) u.0 = ltb-true 0 (lock (z j.0) u.0) at_u.1 in
        let before : 0 < lock (w j.0) u.0 =
        let l = less4 s w (c j.0) j.0 u.0 at_u.0 in omega arith in
        let has = knows.locks j.0 u.0 hj at_u.0 before in (
          u.0,
          at_u.0,
          λ i hi li. accepted s (z i) u.0 at_u.0
              (told4 s w (c i) i j.0 u.0 small hj at_u.0
              (heard i j.0 u.0 hi hj li parts.0 at_u.0 before) has)
              (λ v hv ne. one_lock s w c living small heard i j.0 v u.0 hi hj li parts.0 hv at_u.0
              (λ e. ne (sym e)) held),
        )
    go (inr none) = (
      x,
      hx,
      λ i hi li. accepted s (z i) x hx (all_know i hi li)
          (λ v hv ne. free i v hi li hv (cases_lt 0 (lock (z i) v))),
    )
      where
        free : (i v : ℕ) → i < s.nodes → living i ≡ true → v < s.values
            → (0 < lock (z i) v) ⊎ (lock (z i) v ≤ 0) → lock (z i) v ≡ 0
        free i v hi li hv (inr le) = omega arith
        free i v hi li hv (inl some) =
            let one = counted_in locked 0 s.nodes i (omega arith) (omega arith)
            (and_from _ _ li (lt-ltb 0 (size (locks i)) (member-size (locks i) v (omega arith)
            (is_in-set_of s.values (λ v. nat_lt 0 (lock (z i) v)) v hv
            ∙ lt-ltb 0 (lock (z i) v) some)))) in
            absurd (omega arith)

-- the first three rounds of a phase, with what is omitted in each
pub record Rounds (s : Setting) (o : ℕ → ℕ → ℕ → Bool) (k : ℕ) (w : ℕ → World) : Type 0 where
  pub first : w 1 ≡ (λ i. round1 s (o 0 i) k (w 0) i)
  pub second : w 2 ≡ (λ i. round2 s (o 1 i) k (w 1) i)
  pub third : w 3 ≡ (λ i. round3 s (o 2 i) k (w 2) i)

-- an owner that lives decides in them, if all nodes that live accept some value before
pub owner_decides : (s : Setting) (inputs : ℕ → ℕ) (w : ℕ → World) (o : ℕ → ℕ → ℕ → Bool) (k c : ℕ)
    (living : ℕ → Bool) → Suits s inputs → Rounds s o k w
    → ((q i j : ℕ) → q < 3 → i < s.nodes → j < s.nodes → living i ≡ true → living j ≡ true
    → o q i j ≡ false)
    → Always s inputs (w 0) → Always s inputs (w 2) → c < s.nodes → living c ≡ true
    → (c == owner s k) ≡ true → s.nodes ≤ count living 0 s.nodes + s.faults
    → (v : ℕ) × (v < s.values) × ((j : ℕ) → j < s.nodes → living j ≡ true
    → acceptable s (w 0 j) v ≡ true) → (v : ℕ) × Has (w 3 c).done v
owner_decides s inputs w o k c living ok is heard before between known lives mine many accept =
    subst (λ (f : World). (v : ℕ) × Has (f c).done v) (sym is.third)
    (decides s inputs (w 2) (o 2 c) k c living ok (between.acks c known) mine many
    (λ j hj l. heard 2 c j (omega arith) known hj lives l) got third.0 third.1)
  where
    second : (u : ℕ) × (u < s.values) × Has (w 1 c).prop u
    second =
        let it = proposes s inputs (w 0) (o 0 c) k c living ok
        (λ u hu. before.lists c u known hu) mine many
        (λ j hj l. heard 0 c j (omega arith) known hj lives l) accept.0 accept.1 accept.2 in
        (it.0, it.1, subst (λ (f : World). Has (f c).prop it.0) (sym is.first) it.2)

    third : (u : ℕ) × Has (w 2 c).prop u
    third = (
      second.0,
      subst (λ (f : World). Has (f c).prop second.0) (sym is.second)
          (still_proposes s (w 1) (o 1 c) k c second.0 second.2),
    )

    got : (j : ℕ) → j < s.nodes → living j ≡ true → flag (w 2 j).got ≡ true
    got j hj lj =
        let l = second.1 in
        let m = ok.values in
        subst (λ (f : World). flag (f j).got ≡ true) (sym is.second)
        (gets s (w 1) (o 1 j) k j c second.0 known (heard 1 j c (omega arith) hj known lj lives)
        (omega arith) second.2)
