-- OneThirdRule's nodes decide after two rounds, in both of which more than two thirds of the nodes
-- hear each other, if in the first all of them hear the same.
use Rattle.std.proofs.Common.{◌≡◌, ℕ, zero, suc, ◌+◌, ◌*◌, ◌/◌, ◌<◌, ◌≤◌, Bool, true, false}
use Rattle.std.proofs.Common.{cond, min, refl, sym, ap, ◌∙◌, subst, Some}
use Rattle.std.proofs.Common.{arith}
use Rattle.std.specs.Prelude.{◌&&◌, not, nat_lt, nat_le, ⊤}
use Rattle.std.proofs.lemmas.Bool.{and_from, eq-eqb}
use Rattle.std.proofs.lemmas.Bool.{leb-true, lt-ltb}
use Rattle.round_lang.specs.Sets.{is_in, least, members, set_of, size}
use Rattle.round_lang.proofs.SetLaws.{bit-set_of, is-set_of, set_of-lt}
use Rattle.round_meaning.specs.declared.setup.Setup.{Setup}
use Rattle.round_meaning.specs.Turn.{first_member}
use Rattle.round_meaning.proofs.Hearing.{count, count-is, count_more}
use Rattle.round_meaning.proofs.SetReading.{is_in-set_of, member-size}
use Rattle.round_proofs.specs.Progress.{HearsLiving, IsProgress}
use Rattle.round_proofs.specs.Safety.{IsFit}
use Rattle.round_proofs.proofs.SetSizes.{some_first}
use Rattle.shelf_proofs.proofs.OneThirdSafe.{Heard, Inv, World, after, below_values, ear, has}
use Rattle.shelf_proofs.proofs.OneThirdSafe.{heard_by, hears_all}
use Rattle.shelf_proofs.proofs.OneThirdSteps.{Node, decided, is_deaf, leads, machine, next_x}
use Rattle.shelf_proofs.proofs.OneThirdSteps.{present, thrice, top, votes_of, wins}

-- the nodes that live hear each other
abbrev pub HearLiving : ℕ → (ℕ → Bool) → (ℕ → ℕ → Bool) → Type 0
HearLiving n living o =
    (i j : ℕ) → i < n → j < n → living i ≡ true → living j ≡ true → o i j ≡ false

-- and all of them hear the same nodes
abbrev pub HearAlike : ℕ → (ℕ → Bool) → (ℕ → ℕ → Bool) → Type 0
HearAlike n living o =
    (i p j : ℕ) → i < n → p < n → j < n → living i ≡ true → living p ≡ true → o i j ≡ o p j

-- after the first of two rounds all nodes that live have one value, and after the second they have
-- decided it
abbrev pub Reached : ℕ → (ℕ → Bool) → ℕ → World → Type 0
Reached n living zero w = ⊤
Reached n living (suc zero) w =
    (i p : ℕ) → i < n → p < n → living i ≡ true → living p ≡ true → (w i).x ≡ (w p).x
Reached n living (suc (suc q)) w =
    (i : ℕ) → i < n → living i ≡ true → (v : ℕ) × (decided (w i) ≡ Some v)

same_set : (k : ℕ) (p q : ℕ → Bool) → ((v : ℕ) → v < k → p v ≡ q v) → set_of k p ≡ set_of k q
same_set k p q same = is-set_of k (set_of k p) q (set_of-lt k p)
    (λ i h. bit-set_of k p i h ∙ ap (λ b. cond b 1 0) (same i h))

same_count : (c d : ℕ → Bool) (n : ℕ) → ((j : ℕ) → j < n → c j ≡ d j) → count c 0 n ≡ count d 0 n
same_count c d n same =
    let a = count_more c d 0 n (λ j lo hi h. sym (same j (omega arith)) ∙ h) in
    let b = count_more d c 0 n (λ j lo hi h. same j (omega arith) ∙ h) in
    omega arith

-- a node that hears more than two thirds of the nodes isn't deaf
hearing : (k n : ℕ) (c : ℕ → Bool) (w : World) (a b : Node) → n ≤ 16 → Heard k n c w a b
    → 2 * n < 3 * count c 0 n → is_deaf n b ≡ false
hearing k n c w a b few h most = go (is_deaf n b) refl
  where
    go : (t : Bool) → is_deaf n b ≡ t → t ≡ false
    go false e = refl
    go true e =
        let le = leb-true (thrice b.heard) (min (n + n) top) e in
        let all = count_more c (λ j. true) 0 n (λ j lo hi t. refl) in
        absurd (omega (arith, h.heard, few))

heard_most : (n : ℕ) (living : ℕ → Bool) (o : ℕ → ℕ → Bool) → 2 * n < 3 * count living 0 n
    → HearLiving n living o → (i : ℕ) → i < n → living i ≡ true
    → 2 * n < 3 * count (heard_by o i) 0 n
heard_most n living o most each i hi li =
    let more = count_more living (heard_by o i) 0 n
    (λ j lo hj t. ap (λ b. not b && true) (each i j hi (omega arith) li t)) in
    omega (arith, most)

-- two nodes that hear the same nodes end the round with the same value
alike : (k : ℕ) (s : Setup) (r : ℕ) (w : World) (o : ℕ → ℕ → Bool) (living : ℕ → Bool) → IsFit k s
    → Inv k s r w → 2 * s.nodes < 3 * count living 0 s.nodes → HearLiving s.nodes living o
    → HearAlike s.nodes living o → Reached s.nodes living 1 (after k s.nodes o w)
alike k s r w o living ok inv most each same i p hi hp li lp =
    takes i hi li ∙ sym (takes p hp lp ∙ ap (λ S. cond (nat_lt 0 (size S)) (least k S)
    (least k (set_of k (present c)))) leaders
    ∙ ap (λ P. cond (nat_lt 0 (size (set_of k (leads n b)))) (least k (set_of k (leads n b)))
    (least k P)) seen)
  where
    n : ℕ
    n = s.nodes

    few : n ≤ 16
    few = omega (arith, ok.few_nodes)

    b : Node
    b = ear k n o w i

    c : Node
    c = ear k n o w p

    hears : (q : ℕ) → q < n → Heard k n (heard_by o q) w (w q) (ear k n o w q)
    hears q hq = hears_all k s r w o ok inv q hq

    takes : (q : ℕ) → q < n → living q ≡ true
        → next_x k n (ear k n o w q)
        ≡ cond (nat_lt 0 (size (set_of k (leads n (ear k n o w q)))))
        (least k (set_of k (leads n (ear k n o w q))))
        (least k (set_of k (present (ear k n o w q))))
    takes q hq lq =
        ap (λ t. cond t (ear k n o w q).x
        (cond (nat_lt 0 (size (set_of k (leads n (ear k n o w q)))))
        (least k (set_of k (leads n (ear k n o w q))))
        (least k (set_of k (present (ear k n o w q))))))
        (hearing k n (heard_by o q) w (w q) (ear k n o w q) few (hears q hq)
        (heard_most n living o most each q hq lq))

    heard : b.heard ≡ c.heard
    heard =
        (hears i hi).heard
        ∙ same_count (heard_by o i) (heard_by o p) n
        (λ j hj. ap (λ t. not t && true) (same i p j hi hp hj li lp))
        ∙ sym (hears p hp).heard

    votes : (v : ℕ) → v < k → votes_of b v ≡ votes_of c v
    votes v hv =
        (hears i hi).votes v hv
        ∙ same_count (λ j. heard_by o i j && has w v j) (λ j. heard_by o p j && has w v j) n
        (λ j hj. ap (λ t. (not t && true) && has w v j) (same i p j hi hp hj li lp))
        ∙ sym ((hears p hp).votes v hv)

    leaders : set_of k (leads n c) ≡ set_of k (leads n b)
    leaders = same_set k (leads n c) (leads n b) (λ v hv.
        ap (λ h. nat_le h (min (votes_of c v + n / 3) top)) (sym heard)
        ∙ ap (λ x. nat_le b.heard (min (x + n / 3) top)) (sym (votes v hv)))

    seen : set_of k (present c) ≡ set_of k (present b)
    seen = same_set k (present c) (present b) (λ v hv. ap (nat_lt 0) (sym (votes v hv)))

-- where all nodes that live have one value, a node that hears more than two thirds decides
decides : (k : ℕ) (s : Setup) (r : ℕ) (w : World) (o : ℕ → ℕ → Bool) (living : ℕ → Bool)
    → IsFit k s → k ≤ 64 → Inv k s r w → 2 * s.nodes < 3 * count living 0 s.nodes
    → HearLiving s.nodes living o → Reached s.nodes living 1 w
    → Reached s.nodes living 2 (after k s.nodes o w)
decides k s r w o living ok small inv most each same i hi li =
    let small_v = hv in
    let it = some_first W v (omega arith) in_W in
    (it.0, ap (λ t. first_member (members (cond t W b.done))) some ∙ it.1)
  where
    n : ℕ
    n = s.nodes

    few : n ≤ 16
    few = omega (arith, ok.few_nodes)

    v : ℕ
    v = (w i).x

    hv : v < k
    hv = below_values k s ok v (inv.inputs i hi)

    b : Node
    b = ear k n o w i

    W : ℕ
    W = set_of k (wins n b)

    h : Heard k n (heard_by o i) w (w i) b
    h = hears_all k s r w o ok inv i hi

    won : wins n b v ≡ true
    won =
        let more = count_more living (λ j. heard_by o i j && has w v j) 0 n
        (λ j lo hj t. and_from _ _ (ap (λ b. not b && true) (each i j hi (omega arith) li t))
        (eq-eqb v (w j).x (same i j hi (omega arith) li t))) in
        let all = count_more (λ j. heard_by o i j && has w v j) (λ j. true) 0 n
        (λ j lo hj t. refl) in
        let e = h.votes v hv in
        lt-ltb (min (n + n) top) (thrice (votes_of b v)) (omega (arith, few, most))

    in_W : is_in W v ≡ true
    in_W = is_in-set_of k (wins n b) v hv ∙ won

    some : nat_lt 0 (size W) ≡ true
    some = lt-ltb 0 (size W) (let l = hv in member-size W v (omega arith) in_W)

-- two rounds after `from` others: in both the nodes that live, more than two thirds, hear each
-- other, and in the first all of them hear the same nodes
pub record Works (n : ℕ) (living : ℕ → Bool) (omits : ℕ → ℕ → ℕ → Bool) (from : ℕ) : Type 0 where
  pub most : 2 * n < 3 * count living 0 n
  pub alike : HearAlike n living (λ i. omits i (suc from))
  pub heard : HearLiving n living (λ i. omits i (suc from))
  pub again : HearLiving n living (λ i. omits i (suc (suc from)))

pub one_third_decides : (k : ℕ) (s : Setup) (omits : ℕ → ℕ → ℕ → Bool) (from : ℕ)
    (living : ℕ → Bool) → k ≤ 64 → IsFit k s → Works s.nodes living omits from
    → IsProgress (machine k s.nodes) s 1 omits from 2 living decided (Inv k s)
    (Reached s.nodes living)
one_third_decides k s omits from living small ok works = record {
  begins = λ w inv. tt;
  gets_on = gets_on;
  ends = λ w i inv h hi live. h i hi live;
}
  where
    gets_on : (q : ℕ) (w : World) → q < 2 → Inv k s (from + q) w → Reached s.nodes living q w
        → Reached s.nodes living (suc q) (after k s.nodes (λ i. omits i (suc (from + q))) w)
    gets_on zero w lt inv h =
        let e : from ≡ from + 0 = omega arith in
        alike k s (from + 0) w (λ i. omits i (suc (from + 0))) living ok inv works.most
        (subst (λ r. HearLiving s.nodes living (λ i. omits i (suc r))) e works.heard)
        (subst (λ r. HearAlike s.nodes living (λ i. omits i (suc r))) e works.alike)
    gets_on (suc zero) w lt inv h =
        let e : suc from ≡ from + 1 = omega arith in
        decides k s (from + 1) w (λ i. omits i (suc (from + 1))) living ok small inv works.most
        (subst (λ r. HearLiving s.nodes living (λ i. omits i (suc r))) e works.again) h
    gets_on (suc (suc q)) w lt inv h = absurd (omega arith)

-- all but t of the nodes are more than two thirds, if t is less than a third
pub most_live : (s : Setup) (living : ℕ → Bool) (omits : ℕ → ℕ → ℕ → Bool) (clear last : ℕ)
    → HearsLiving s living omits clear last → 3 * s.faults < s.nodes
    → 2 * s.nodes < 3 * count living 0 s.nodes
most_live s living omits clear last hears third =
    let e = count-is living 0 s.nodes in
    omega (arith, hears.many)
