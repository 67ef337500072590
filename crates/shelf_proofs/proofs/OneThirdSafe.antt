-- OneThirdRule is safe: once more than two thirds of the nodes have a value, they keep it.
use Rattle.std.proofs.Common.{◌≡◌, ◌≢◌, ℕ, zero, suc, ◌+◌, ◌*◌, ◌/◌, ◌<◌, ◌≤◌, Bool, true}
use Rattle.std.proofs.Common.{false}
use Rattle.std.proofs.Common.{cond, min, refl, sym, ap, ◌∙◌, subst, inl, inr, ◌⊎◌, Some}
use Rattle.std.proofs.Common.{arith}
use Rattle.std.specs.Prelude.{◌&&◌, not, nat_lt, slice_index, ◌==◌}
use Rattle.std.specs.List.{range_with_len}
use Rattle.std.proofs.lemmas.List.{get_or-replicate}
use Rattle.std.proofs.lemmas.List.Elements.{All-get_or}
use Rattle.std.proofs.lemmas.Bool.{cases_eq, and_parts, and_from, eqb-true}
use Rattle.std.proofs.lemmas.Bool.{eq-eqb, leb-true, leb-false, le-leb, lt-ltb, ltb-true}
use Rattle.round_lang.specs.declared.value.Value.TheVariants.{Num}
use Rattle.round_lang.specs.Sets.{is_in, least, members, set_of, size}
use Rattle.round_lang.specs.Values.{num}
use Rattle.round_meaning.specs.declared.setup.Setup.{Setup}
use Rattle.round_meaning.specs.Agreement.{IsInput}
use Rattle.round_meaning.proofs.Hearing.{count, count_more, meet, some_counted}
use Rattle.round_meaning.proofs.SetReading.{at_row, decided_in, in_set_of, is_in-set_of}
use Rattle.round_meaning.proofs.SetReading.{member-size, none_in, some_member}
use Rattle.round_meaning.proofs.SetMembership.{sets_are_members}
use Rattle.round_proofs.specs.Machines.{hear}
use Rattle.round_proofs.specs.Safety.{IsFit, IsKept, IsSafe}
use Rattle.round_proofs.proofs.SetSizes.{some_first}
use Rattle.round_meaning.specs.Turn.{first_member}
use Rattle.round_proofs.proofs.Counting.{count_rest, count_split, counted, counted_in}
use Rattle.round_proofs.proofs.Counting.{kept, one_if}
use Rattle.shelf_proofs.proofs.OneThirdSteps.{Node, decided, finish, is_deaf, leads, machine}
use Rattle.shelf_proofs.proofs.OneThirdSteps.{next_x, present, take, thrice, top}
use Rattle.shelf_proofs.proofs.OneThirdSteps.{votes_of, wins, with_vote}

abbrev pub World : Type 0
World = ℕ → Node

-- node j has value v
abbrev pub has : World → ℕ → ℕ → Bool
has w v j = v == (w j).x

-- how many nodes have value v
abbrev pub support : ℕ → World → ℕ → ℕ
support n w v = count (has w v) 0 n

-- more than two thirds of the nodes have it
abbrev pub Locked : ℕ → ℕ → World → ℕ → Type 0
Locked n r w v = 2 * n < 3 * support n w v

pub record Inv (k : ℕ) (s : Setup) (r : ℕ) (w : World) : Type 0 where
  pub inputs : (i : ℕ) → i < s.nodes → IsInput s (w i).x
  pub heard : (i : ℕ) → i < s.nodes → (w i).heard ≡ 0
  pub votes : (i v : ℕ) → i < s.nodes → v < k → votes_of (w i) v ≡ 0
  pub decided : (i v : ℕ) → i < s.nodes → is_in (w i).done v ≡ true → Locked s.nodes r w v

-- a node after it has heard the nodes of c
abbrev pub heard_all : ℕ → ℕ → (ℕ → Bool) → World → Node → Node
heard_all k n c w a = hear (λ j. take k) c (λ j. (w j).x) (range_with_len 0 n) a

pub record Heard (k n : ℕ) (c : ℕ → Bool) (w : World) (a b : Node) : Type 0 where
  pub x : b.x ≡ a.x
  pub done : b.done ≡ a.done
  pub heard : b.heard ≡ count c 0 n
  pub votes : (v : ℕ) → v < k → votes_of b v ≡ count (λ j. c j && has w v j) 0 n

all_true : (c : ℕ → Bool) (lo n : ℕ) → count (λ j. c j && true) lo n ≡ count c lo n
all_true c lo zero = refl
all_true c lo (suc n) = let rest = all_true c (lo + 1) n in let here = go (c lo) in omega arith
  where
    go : (b : Bool) → one_if (b && true) ≡ one_if b
    go true = refl
    go false = refl

one_more : (x : ℕ) (b : Bool) → x < top
    → num (cond b (Num (min (x + 1) top)) (Num x)) ≡ x + cond b 1 0
one_more x true h = omega arith
one_more x false h = omega arith

hearing : (k n : ℕ) (c : ℕ → Bool) (w : World) (a : Node) → n ≤ 16 → a.heard ≡ 0
    → ((v : ℕ) → v < k → votes_of a v ≡ 0) → Heard k n c w a (heard_all k n c w a)
hearing k n c w a few none no_votes = record {
  x = kept (λ b. b.x ≡ a.x) (λ j. take k) c (λ j. (w j).x) 0 n (λ j lo hi t b h. h) a refl;
  done = kept (λ b. b.done ≡ a.done) (λ j. take k) c (λ j. (w j).x) 0 n (λ j lo hi t b h. h) a refl;
  heard =
      let e = counted (λ (b : Node). b.heard) (λ j. true) top (λ j. take k) c (λ j. (w j).x) 0 n
      (λ j b h. one_more b.heard true h) a (omega arith) in
      let f = all_true c 0 n in
      omega arith;
  votes = λ v hv.
      let z = no_votes v hv in
      let e = counted (λ (b : Node). votes_of b v) (has w v) top (λ j. take k) c (λ j. (w j).x) 0 n
      (λ j b h. at_row (with_vote k (w j).x b) k v hv ∙ one_more (votes_of b v) (has w v j) h)
      a (omega arith) in
      omega arith;
}

-- the nodes with another value than v
abbrev others : World → ℕ → ℕ → Bool
others w v j = not (has w v j)

-- votes for u are nodes without v, where u isn't v
votes_apart : (c : ℕ → Bool) (w : World) (n v u : ℕ) → u ≢ v
    → count (λ j. c j && has w u j) 0 n ≤ count (others w v) 0 n
votes_apart c w n v u ne =
    count_more (λ j. c j && has w u j) (others w v) 0 n
    (λ j lo hi h. other j (eqb-true u (w j).x (and_parts _ _ h).1) (v == (w j).x) refl)
  where
    other : (j : ℕ) → u ≡ (w j).x → (b : Bool) → (v == (w j).x) ≡ b → not b ≡ true
    other j is true e = absurd (ne (is ∙ sym (eqb-true v (w j).x e)))
    other j is false e = refl

-- a node that hears more than two thirds takes the value that more than two thirds have
adopts : (k n : ℕ) (c : ℕ → Bool) (w : World) (a b : Node) (v : ℕ) → n ≤ 16 → k ≤ 64 → v < k
    → 2 * n < 3 * support n w v → Heard k n c w a b → is_deaf n b ≡ false → next_x k n b ≡ v
adopts k n c w a b v few small hv most h hears =
    ap (λ t. cond t b.x (cond (nat_lt 0 (size S)) (least k S) (least k (set_of k (present b)))))
    hears ∙ ap (λ t. cond t (least k S) (least k (set_of k (present b)))) some
    ∙ single (least k S) (in_set_of k (leads n b) (least k S) (in_least v in_v))
  where
    S : ℕ
    S = set_of k (leads n b)

    many : 2 * n < 3 * b.heard
    many = let t = leb-false (thrice b.heard) (min (n + n) top) hears in
        omega (arith, h.heard)

    rest : support n w v + count (others w v) 0 n ≡ n
    rest = count_rest (has w v) 0 n

    leading : leads n b v ≡ true
    leading =
        let split = count_split c (has w v) 0 n in
        let apart = count_more (λ j. c j && not (has w v j)) (others w v) 0 n
        (λ j lo hi e. (and_parts (c j) (not (has w v j)) e).1) in
        let e = h.votes v hv in
        let all = count_rest c 0 n in
        le-leb b.heard (min (votes_of b v + n / 3) top) (omega (arith, h.heard, rest))

    in_v : is_in S v ≡ true
    in_v = is_in-set_of k (leads n b) v hv ∙ leading

    some : nat_lt 0 (size S) ≡ true
    some = lt-ltb 0 (size S) (member-size S v (omega arith) in_v)

    in_least : (u : ℕ) → is_in S u ≡ true → is_in S (least k S) ≡ true
    in_least u e = (sets_are_members.least_member k S v (omega arith) in_v).0

    single : (u : ℕ) → (u < k) × (leads n b u ≡ true) → u ≡ v
    single u l = go (cases_eq u v)
      where
        go : (u ≡ v) ⊎ (u ≡ v → ⊥) → u ≡ v
        go (inl e) = e
        go (inr ne) =
            let apart = votes_apart c w n v u ne in
            let e = h.votes u l.0 in
            let t = leb-true b.heard (min (votes_of b u + n / 3) top) l.1 in
            absurd (omega (arith, rest, many))

-- the value that a node ends the round with is an input
valid_x : (k : ℕ) (s : Setup) (c : ℕ → Bool) (w : World) (a b : Node) → s.nodes ≤ 16 → k ≤ 64
    → ((i : ℕ) → i < s.nodes → IsInput s (w i).x) → ((v : ℕ) → IsInput s v → v < k)
    → IsInput s a.x → Heard k s.nodes c w a b → IsInput s (next_x k s.nodes b)
valid_x k s c w a b few small inputs below mine h = by (is_deaf s.nodes b) refl
  where
    n : ℕ
    n = s.nodes

    S : ℕ
    S = set_of k (leads n b)

    voted : (v : ℕ) → v < k → 0 < votes_of b v → IsInput s v
    voted v hv some =
        let j = some_counted (λ j. c j && has w v j) 0 n (omega (arith, h.votes v hv)) in
        let same = eqb-true v (w j.0).x (and_parts (c j.0) (has w v j.0) j.3).1 in
        subst (IsInput s) (sym same) (inputs j.0 (omega (arith, j.2)))

    led : 2 * n < 3 * b.heard → (u : ℕ) → (u < k) × (leads n b u ≡ true) → IsInput s u
    led many u l =
        let t = leb-true b.heard (min (votes_of b u + n / 3) top) l.1 in
        voted u l.0 (omega arith)

    seen : (u : ℕ) → (u < k) × (present b u ≡ true) → IsInput s u
    seen u l = voted u l.0 (ltb-true 0 (votes_of b u) l.1)

    someone : 2 * n < 3 * b.heard → (u : ℕ) × (is_in (set_of k (present b)) u ≡ true) × (u < k)
    someone many =
        let j = some_counted c 0 n (omega (arith, h.heard)) in
        let hv = below (w j.0).x (inputs j.0 (omega (arith, j.2))) in
        let more = counted_in (λ i. c i && has w (w j.0).x i) 0 n j.0 (omega arith)
        (omega (arith, j.2))
        (and_from _ _ j.3 (eq-eqb (w j.0).x (w j.0).x refl)) in
        let on = lt-ltb 0 (votes_of b (w j.0).x) (omega (arith, h.votes (w j.0).x hv)) in
        ((w j.0).x, is_in-set_of k (present b) (w j.0).x hv ∙ on, hv)

    by_leaders : 2 * n < 3 * b.heard → (t : Bool) → nat_lt 0 (size S) ≡ t
        → IsInput s (cond t (least k S) (least k (set_of k (present b))))
    by_leaders many true e =
        let u = some_member S (ltb-true 0 (size S) e) in
        let at_u = in_set_of k (leads n b) u.0 u.1 in
        led many (least k S) (in_set_of k (leads n b) (least k S)
        (sets_are_members.least_member k S u.0 (omega (arith, at_u.0)) u.1).0)
    by_leaders many false e =
        let u = someone many in
        seen (least k (set_of k (present b))) (in_set_of k (present b) _
        (sets_are_members.least_member k (set_of k (present b)) u.0 (omega (arith, u.2)) u.1).0)

    by : (t : Bool) → is_deaf n b ≡ t
        → IsInput s (cond t b.x (cond (nat_lt 0 (size S)) (least k S)
        (least k (set_of k (present b)))))
    by true e = subst (IsInput s) (sym h.x) mine
    by false e =
        let t = leb-false (thrice b.heard) (min (n + n) top) e in
        by_leaders (omega (arith, few)) (nat_lt 0 (size S)) refl

pub below_values : (k : ℕ) (s : Setup) → IsFit k s → (v : ℕ) → IsInput s v → v < k
below_values k s ok v h =
    subst (λ x. x < k) h.2
    (All-get_or (λ x. x < k) s.inputs h.0 0 (omega (arith, h.1, ok.inputs)) ok.below)

-- the nodes that node i hears
abbrev pub heard_by : (ℕ → ℕ → Bool) → ℕ → ℕ → Bool
heard_by o i j = not (o i j) && true

-- node i before the round's end
abbrev pub ear : ℕ → ℕ → (ℕ → ℕ → Bool) → World → ℕ → Node
ear k n o w i = heard_all k n (heard_by o i) w (w i)

abbrev pub after : ℕ → ℕ → (ℕ → ℕ → Bool) → World → World
after k n o w i = finish k n (ear k n o w i)

pub hears_all : (k : ℕ) (s : Setup) (r : ℕ) (w : World) (o : ℕ → ℕ → Bool) → IsFit k s
    → Inv k s r w → (i : ℕ) → i < s.nodes
    → Heard k s.nodes (heard_by o i) w (w i) (ear k s.nodes o w i)
hears_all k s r w o ok inv i hi =
    hearing k s.nodes (heard_by o i) w (w i) (omega (arith, ok.few_nodes)) (inv.heard i hi)
    (λ v hv. inv.votes i v hi hv)

-- what is locked has an input
locked_input : (k : ℕ) (s : Setup) (r : ℕ) (w : World) (v : ℕ) → Inv k s r w
    → Locked s.nodes r w v → IsInput s v
locked_input k s r w v inv h =
    let j = some_counted (has w v) 0 s.nodes (omega (arith, h)) in
    subst (IsInput s) (sym (eqb-true v (w j.0).x j.3)) (inv.inputs j.0 (omega (arith, j.2)))

-- a node that has it keeps it
stays : (k : ℕ) (s : Setup) (r q : ℕ) (w : World) (o : ℕ → ℕ → Bool) (v : ℕ) → IsFit k s
    → k ≤ 64 → Inv k s r w → Locked s.nodes r w v → Locked s.nodes q (after k s.nodes o w) v
stays k s r q w o v ok small inv h =
    let more = count_more (has w v) (has (after k s.nodes o w) v) 0 s.nodes
    (λ j lo hi t. eq-eqb v (next_x k s.nodes (ear k s.nodes o w j))
    (kept_by j (omega (arith, hi)) (eqb-true v (w j).x t) (is_deaf s.nodes (ear k s.nodes o w j))
    refl)) in
    omega (arith, h)
  where
    kept_by : (j : ℕ) → j < s.nodes → v ≡ (w j).x → (t : Bool)
        → is_deaf s.nodes (ear k s.nodes o w j) ≡ t
        → v ≡ next_x k s.nodes (ear k s.nodes o w j)
    kept_by j hj is true e =
        is ∙ sym ((hears_all k s r w o ok inv j hj).x)
        ∙ sym (ap (λ t. cond t (ear k s.nodes o w j).x
        (cond (nat_lt 0 (size (set_of k (leads s.nodes (ear k s.nodes o w j)))))
        (least k (set_of k (leads s.nodes (ear k s.nodes o w j))))
        (least k (set_of k (present (ear k s.nodes o w j)))))) e)
    kept_by j hj is false e =
        sym (adopts k s.nodes (heard_by o j) w (w j) (ear k s.nodes o w j) v
        (omega (arith, ok.few_nodes)) small
        (below_values k s ok v (locked_input k s r w v inv h)) h
        (hears_all k s r w o ok inv j hj) e)

-- what a node decides was locked
was_locked : (k : ℕ) (s : Setup) (r : ℕ) (w : World) (o : ℕ → ℕ → Bool) (i v : ℕ) → IsFit k s
    → Inv k s r w → i < s.nodes → is_in (after k s.nodes o w i).done v ≡ true
    → Locked s.nodes r w v
was_locked k s r w o i v ok inv hi h = by (nat_lt 0 (size (set_of k (wins s.nodes b)))) h
  where
    b : Node
    b = ear k s.nodes o w i

    hear : Heard k s.nodes (heard_by o i) w (w i) b
    hear = hears_all k s r w o ok inv i hi

    won : (v < k) × (wins s.nodes b v ≡ true) → Locked s.nodes r w v
    won l =
        let t = ltb-true (min (s.nodes + s.nodes) top) (thrice (votes_of b v)) l.1 in
        let e = hear.votes v l.0 in
        let few = ok.few_nodes in
        let more = count_more (λ j. heard_by o i j && has w v j) (has w v) 0 s.nodes
        (λ j lo hi q. (and_parts (heard_by o i j) (has w v j) q).1) in
        omega arith

    by : (t : Bool) → is_in (cond t (set_of k (wins s.nodes b)) b.done) v ≡ true
        → Locked s.nodes r w v
    by true g = won (in_set_of k (wins s.nodes b) v g)
    by false g = inv.decided i v hi (subst (λ d. is_in d v ≡ true) hear.done g)

-- each round keeps the invariant
next : (k : ℕ) (s : Setup) (r : ℕ) (w : World) (o : ℕ → ℕ → Bool) → IsFit k s → k ≤ 64
    → Inv k s r w → Inv k s (suc r) (after k s.nodes o w)
next k s r w o ok small inv = record {
  inputs = λ i hi. valid_x k s (heard_by o i) w (w i) (ear k s.nodes o w i)
      (omega (arith, ok.few_nodes)) small inv.inputs (below_values k s ok) (inv.inputs i hi)
      (hears_all k s r w o ok inv i hi);
  heard = λ i hi. refl;
  votes = λ i v hi hv. get_or-replicate k v 0 0 hv;
  decided = λ i v hi h. stays k s r (suc r) w o v ok small inv
      (was_locked k s r w o i v ok inv hi h);
}

first : (k : ℕ) (s : Setup)
    → Inv k s 0 (λ i. (machine k s.nodes).start (slice_index s.inputs i) i)
first k s = record {
  inputs = λ i hi. (i, hi, refl);
  heard = λ i hi. refl;
  votes = λ i v hi hv. get_or-replicate k v 0 0 hv;
  decided = λ i v hi h. absurd (none_in v h);
}

-- two values that more than two thirds have are equal
one_locked : (n r : ℕ) (w : World) (v u : ℕ) → Locked n r w v → Locked n r w u → v ≡ u
one_locked n r w v u a b =
    let j = meet (has w v) (has w u) 0 n (omega (arith, a, b)) in
    eqb-true v (w j.0).x j.3 ∙ sym (eqb-true u (w j.0).x j.4)

pub one_third_safe : (k : ℕ) (s : Setup) (omits : ℕ → ℕ → ℕ → Bool) (last : ℕ)
    (Counts : ℕ → ℕ → Type 0) → ((i r : ℕ) → Counts i r → i < s.nodes) → k ≤ 64 → IsFit k s
    → IsSafe (machine k s.nodes) s 1 omits last Counts decided (Inv k s) (Locked s.nodes)
one_third_safe k s omits last Counts known small ok = record {
  agreed = record {
    starts = first k s;
    goes_on = λ r w lt inv. next k s r w (λ i. omits i (suc r)) ok small inv;
    locks = λ r w i v le inv c d. inv.decided i v (known i r c) (decided_in (w i).done v d);
    stays = λ r w v lt inv h. stays k s r (suc r) w (λ i. omits i (suc r)) v ok small inv h;
    one = λ r w v u le inv a b. one_locked s.nodes r w v u a b;
  };
  valid = λ r w v le inv h. locked_input k s r w v inv h;
}

-- a node that has decided has some decision after each later round
keeps : (k : ℕ) (s : Setup) (r : ℕ) (w : World) (o : ℕ → ℕ → Bool) (i v : ℕ) → IsFit k s → k ≤ 64
    → Inv k s r w → i < s.nodes → decided (w i) ≡ Some v
    → (u : ℕ) × (decided (after k s.nodes o w i) ≡ Some u)
keeps k s r w o i v ok small inv hi d =
    by (nat_lt 0 (size (set_of k (wins s.nodes (ear k s.nodes o w i))))) refl
  where
    b : Node
    b = ear k s.nodes o w i

    W : ℕ
    W = set_of k (wins s.nodes b)

    by : (t : Bool) → nat_lt 0 (size W) ≡ t
        → (u : ℕ) × (first_member (members (cond t W b.done)) ≡ Some u)
    by true e =
        let m = some_member W (ltb-true 0 (size W) e) in
        some_first W m.0 (let l = (in_set_of k (wins s.nodes b) m.0 m.1).0 in omega arith) m.1
    by false e = (v, ap (λ z. first_member (members z)) (hears_all k s r w o ok inv i hi).done ∙ d)

pub one_third_kept : (k : ℕ) (s : Setup) (omits : ℕ → ℕ → ℕ → Bool) (last : ℕ)
    (Counts : ℕ → ℕ → Type 0) → ((i r : ℕ) → Counts i r → i < s.nodes) → k ≤ 64 → IsFit k s
    → IsKept (machine k s.nodes) s 1 omits last Counts decided (Inv k s)
one_third_kept k s omits last Counts known small ok = record {
  keeps = λ r w i v lt inv c d.
      keeps k s r w (λ i. omits i (suc r)) i v ok small inv (known i (suc r) c) d;
}
