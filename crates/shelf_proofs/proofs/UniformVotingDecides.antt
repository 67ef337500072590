-- UniformVoting's nodes decide in the first whole phase after a round in which all nodes hear the
-- same, if from then on all of them hear some node.
use Rattle.std.proofs.Common.{◌≡◌, ℕ, zero, suc, ◌+◌, ◌%◌, ◌/◌, ◌<◌, ◌≤◌, Bool, true, false, cond}
use Rattle.std.proofs.Common.{refl, sym, ap, ◌∙◌, subst, inl, inr, ◌⊎◌, Some, arith}
use Rattle.std.specs.Prelude.{◌&&◌, not, nat_lt, ◌==◌}
use Rattle.std.proofs.lemmas.Bool.{and_from, cases_lt, eq-eqb, eqb-false, eqb-true, lt-ltb}
use Rattle.std.proofs.lemmas.Bool.{ne_eqb}
use Rattle.round_lang.specs.Sets.{is_in, least, members, only, size, union}
use Rattle.round_meaning.specs.declared.setup.Setup.{Setup}
use Rattle.round_meaning.specs.Turn.{first_member}
use Rattle.round_meaning.proofs.SetReading.{member-size, none_in, some_member}
use Rattle.round_proofs.specs.Machines.{Round, next_world}
use Rattle.round_proofs.specs.Progress.{IsInvariant, IsProgress}
use Rattle.round_proofs.specs.Safety.{IsKept}
use Rattle.round_proofs.proofs.Counting.{kept}
use Rattle.round_proofs.proofs.Gaining.{alike}
use Rattle.round_proofs.proofs.SetSizes.{least_is_in, one_member, one_size, some_first}
use Rattle.shelf_proofs.proofs.UniformVotingRounds.{Ear1, Ear2, Locked, Suits, Valid, World, after1}
use Rattle.shelf_proofs.proofs.UniformVotingRounds.{after2, below, chosen, ear1, ear2, hear1, hear2}
use Rattle.shelf_proofs.proofs.UniformVotingRounds.{hears, hears_it, keeps, locked1, locked2}
use Rattle.shelf_proofs.proofs.UniformVotingRounds.{valid1, valid2}
use Rattle.shelf_proofs.proofs.UniformVotingSafe.{first_valid}
use Rattle.shelf_proofs.proofs.UniformVotingSteps.{Node, decided, machine, message1, message2}
use Rattle.shelf_proofs.proofs.UniformVotingSteps.{take1, take2}

-- all nodes hear node c
abbrev pub HearIt : Setup → (ℕ → ℕ → Bool) → ℕ → Type 0
HearIt s o c = (i : ℕ) → i < s.nodes → o i c ≡ false

-- all nodes hear the same nodes
abbrev pub HearAlike : Setup → (ℕ → ℕ → Bool) → Type 0
HearAlike s o = (i p j : ℕ) → i < s.nodes → p < s.nodes → j < s.nodes → o i j ≡ o p j

fits : (k : ℕ) (s : Setup) (w : World) → Suits k s → Valid s w → (j : ℕ) → j < s.nodes
    → (w j).x < 64
fits k s w ok inv j hj =
    let lt = below k s ok (w j).x (inv.inputs j hj) in omega (arith, ok.small)

-- what a node that hears c has heard isn't nothing
some_open : (k : ℕ) (s : Setup) (r : Round) (o : ℕ → ℕ → Bool) (w : World) (c : ℕ) → Suits k s
    → Valid s w → c < s.nodes → HearIt s o c → (i : ℕ) → i < s.nodes
    → is_in (ear1 k s r o w i).open_ (w c).x ≡ true
some_open k s r o w c ok inv hc heard i hi =
    (hear1 k s r o w ok inv.inputs i (inv.no_open i hi)).brings c hc (hears_it (o i) c (heard i hi))

-- after a first round in which all hear the same, all have one value, and vote for no other
alike1 : (k : ℕ) (s : Setup) (r : Round) (o : ℕ → ℕ → Bool) (w : World) (c : ℕ) → Suits k s
    → Valid s w → c < s.nodes → HearIt s o c → HearAlike s o
    → Locked s 0 (after1 k s r o w) (after1 k s r o w c).x
alike1 k s r o w c ok inv hc heard same = record {
  all = λ i hi. takes i hi ∙ ap (least k) (opens i hi) ∙ sym (takes c hc);
  votes = λ i u hi.
      chosen (λ v. is_in v u ≡ true → u ≡ (after1 k s r o w c).x) (size (b i).open_ == 1)
      (b i).open_ 0
      (λ t g. one_member (b i).open_ u (least k (b i).open_) (eqb-true (size (b i).open_) 1 t)
      (member_fits i u hi g) (member_fits i (least k (b i).open_) hi (least_in i hi)) g
      (least_in i hi)
      ∙ ap (least k) (opens i hi) ∙ sym (takes c hc))
      (λ t g. absurd (none_in u g));
}
  where
    b : ℕ → Node
    b i = ear1 k s r o w i

    member_fits : (i u : ℕ) → i < s.nodes → is_in (b i).open_ u ≡ true → u < 64
    member_fits i u hi g =
        let it = (hear1 k s r o w ok inv.inputs i (inv.no_open i hi)).heard u g in
        let lt = fits k s w ok inv it.0 it.1 in
        omega (arith, it.3)

    some : (i : ℕ) → i < s.nodes → 0 < size (b i).open_
    some i hi =
        member-size (b i).open_ (w c).x (fits k s w ok inv c hc)
        (some_open k s r o w c ok inv hc heard i hi)

    least_in : (i : ℕ) → i < s.nodes → is_in (b i).open_ (least k (b i).open_) ≡ true
    least_in i hi = least_is_in k (b i).open_ (some i hi) (λ v g. member_fits i v hi g)

    takes : (i : ℕ) → i < s.nodes → (after1 k s r o w i).x ≡ least k (b i).open_
    takes i hi =
        ap (λ t. cond t (least k (b i).open_) (b i).x) (lt-ltb 0 (size (b i).open_) (some i hi))

    opens : (i : ℕ) → i < s.nodes → (b i).open_ ≡ (b c).open_
    opens i hi =
        alike (λ (a : Node). a.open_) (λ j z. union z (only k (w j).x))
        (take1 k s.nodes s.faults r i) (take1 k s.nodes s.faults r c) (hears (o i)) (hears (o c))
        (λ j. message1 k s.nodes s.faults r (w j) j i)
        (λ j. message1 k s.nodes s.faults r (w j) j c) 0 s.nodes
        (λ j lo hj. ap (λ t. not t && true) (same i c j hi hc (omega arith))) (λ j a. refl)
        (λ j a. refl) (w i) (w c) (inv.no_open i hi ∙ sym (inv.no_open c hc))

-- the value that a node takes of votes and open values isn't its own if there are any
not_own : (k votes open_ x y : ℕ) → (0 < size votes) ⊎ (0 < size open_)
    → cond (nat_lt 0 (size votes)) (least k votes)
    (cond (nat_lt 0 (size open_)) (least k open_) x)
    ≡ cond (nat_lt 0 (size votes)) (least k votes)
    (cond (nat_lt 0 (size open_)) (least k open_) y)
not_own k votes open_ x y (inl some) =
    ap (λ t. cond t (least k votes) (cond (nat_lt 0 (size open_)) (least k open_) x))
    (lt-ltb 0 (size votes) some)
    ∙ sym (ap (λ t. cond t (least k votes) (cond (nat_lt 0 (size open_)) (least k open_) y))
    (lt-ltb 0 (size votes) some))
not_own k votes open_ x y (inr some) =
    ap (λ t. cond (nat_lt 0 (size votes)) (least k votes) (cond t (least k open_) x))
    (lt-ltb 0 (size open_) some)
    ∙ sym (ap (λ t. cond (nat_lt 0 (size votes)) (least k votes) (cond t (least k open_) y))
    (lt-ltb 0 (size open_) some))

-- after a second round in which all hear the same, all have one value
alike2 : (k : ℕ) (s : Setup) (r : Round) (o : ℕ → ℕ → Bool) (w : World) (c : ℕ) → Suits k s
    → Valid s w → c < s.nodes → HearIt s o c → HearAlike s o
    → Locked s 0 (after2 k s r o w) (after2 k s r o w c).x
alike2 k s r o w c ok inv hc heard same = record {
  all = λ i hi.
      not_own k (b i).votes (b i).open_ (b i).x (b c).x (some i hi)
      ∙ ap (λ (z : ℕ × ℕ). cond (nat_lt 0 (size z.0)) (least k z.0)
      (cond (nat_lt 0 (size z.1)) (least k z.1) (b c).x)) (parts i hi);
  votes = λ i u hi g. absurd (none_in u g);
}
  where
    b : ℕ → Node
    b i = ear2 k s r o w i

    some : (i : ℕ) → i < s.nodes → (0 < size (b i).votes) ⊎ (0 < size (b i).open_)
    some i hi = go (size (w c).vote == 0) refl
      where
        h : Ear2 s (o i) w (w i) (b i)
        h = hear2 k s r o w ok inv i hi

        go : (t : Bool) → (size (w c).vote == 0) ≡ t
            → (0 < size (b i).votes) ⊎ (0 < size (b i).open_)
        go true e =
            inr (member-size (b i).open_ (w c).x (fits k s w ok inv c hc)
            (h.brings_open c hc (hears_it (o i) c (heard i hi)) e))
        go false e =
            let v = some_member (w c).vote
            (let ne = eqb-false (size (w c).vote) 0 e in omega arith) in
            let lt = below k s ok v.0 (inv.votes c v.0 hc v.1) in
            inl (member-size (b i).votes v.0 (omega (arith, ok.small))
            (h.brings c v.0 hc (hears_it (o i) c (heard i hi)) v.1))

    parts : (i : ℕ) → i < s.nodes
        → ◌≡◌ {A = ℕ × ℕ} ((b i).votes, (b i).open_) ((b c).votes, (b c).open_)
    parts i hi =
        alike (λ (a : Node). (a.votes, a.open_))
        (λ j z. (
          union z.0 (w j).vote,
          cond (size (w j).vote == 0) (union z.1 (only k (w j).x)) z.1,
        ))
        (take2 k s.nodes s.faults r i) (take2 k s.nodes s.faults r c) (hears (o i)) (hears (o c))
        (λ j. message2 k s.nodes s.faults r (w j) j i)
        (λ j. message2 k s.nodes s.faults r (w j) j c) 0 s.nodes
        (λ j lo hj. ap (λ t. not t && true) (same i c j hi hc (omega arith))) (λ j a. refl)
        (λ j a. refl) (w i) (w c)
        (ap (λ (v : ℕ). (v, (w i).open_)) (inv.no_votes i hi ∙ sym (inv.no_votes c hc))
        ∙ ap (λ (v : ℕ). ((w c).votes, v)) (inv.no_open i hi ∙ sym (inv.no_open c hc)))

-- where all have one value, all vote for it
all_vote : (k : ℕ) (s : Setup) (r : Round) (o : ℕ → ℕ → Bool) (w : World) (c v : ℕ) → Suits k s
    → Valid s w → c < s.nodes → HearIt s o c → Locked s 0 w v → (i : ℕ) → i < s.nodes
    → is_in (after1 k s r o w i).vote v ≡ true
all_vote k s r o w c v ok inv hc heard l i hi =
    subst (λ t. is_in (cond t b.open_ 0) v ≡ true) (sym (eq-eqb (size b.open_) 1 one)) member
  where
    b : Node
    b = ear1 k s r o w i

    h : Ear1 k s (o i) w (w i) b
    h = hear1 k s r o w ok inv.inputs i (inv.no_open i hi)

    member : is_in b.open_ v ≡ true
    member = subst (λ x. is_in b.open_ x ≡ true) (l.all c hc)
        (some_open k s r o w c ok inv hc heard i hi)

    one : size b.open_ ≡ 1
    one =
        one_size b.open_ v (subst (λ x. x < 64) (l.all c hc) (fits k s w ok inv c hc)) member
        (λ u lt g. let it = h.heard u g in it.3 ∙ l.all it.0 it.1)

-- where all vote for one value, all decide it
all_decide : (k : ℕ) (s : Setup) (r : Round) (o : ℕ → ℕ → Bool) (w : World) (c v : ℕ) → Suits k s
    → Valid s w → c < s.nodes → HearIt s o c → Locked s 0 w v
    → ((j : ℕ) → j < s.nodes → is_in (w j).vote v ≡ true) → (i : ℕ) → i < s.nodes
    → (u : ℕ) × (decided (after2 k s r o w i) ≡ Some u)
all_decide k s r o w c v ok inv hc heard l vote i hi = (
  it.0,
  ap (λ t. first_member (members (cond t b.votes b.done)))
      (and_from _ _ (eq-eqb (size b.votes) 1 one) (eq-eqb (size b.open_) 0 none)) ∙ it.1,
)
  where
    b : Node
    b = ear2 k s r o w i

    h : Ear2 s (o i) w (w i) b
    h = hear2 k s r o w ok inv i hi

    small : v < 64
    small = subst (λ x. x < 64) (l.all c hc) (fits k s w ok inv c hc)

    member : is_in b.votes v ≡ true
    member = h.brings c v hc (hears_it (o i) c (heard i hi)) (vote c hc)

    one : size b.votes ≡ 1
    one = one_size b.votes v small member
        (λ u lt g. let it = h.heard u g in l.votes it.0 u it.1 it.2)

    empty : b.open_ ≡ 0
    empty =
        kept (λ (a : Node). a.open_ ≡ 0) (take2 k s.nodes s.faults r i) (hears (o i))
        (λ j. message2 k s.nodes s.faults r (w j) j i) 0 s.nodes
        (λ j lo hj t a e. ap (λ t. cond t (union a.open_ (only k (w j).x)) a.open_)
        (ne_eqb (size (w j).vote) 0
        (λ z. let some = member-size (w j).vote v small (vote j (omega arith)) in omega arith)) ∙ e)
        (w i) (inv.no_open i hi)

    none : size b.open_ ≡ 0
    none = go (cases_lt 0 (size b.open_))
      where
        go : (0 < size b.open_) ⊎ (size b.open_ ≤ 0) → size b.open_ ≡ 0
        go (inr le) = omega arith
        go (inl some) =
            let u = some_member b.open_ some in
            absurd (none_in u.0 (subst (λ z. is_in z u.0 ≡ true) empty u.1))

    it : (u : ℕ) × (first_member (members b.votes) ≡ Some u)
    it = some_first b.votes v small member

-- what the nodes have come to after q rounds, the first of which comes after `from` others, if some
-- node lives: one value for all; then one vote, after a first round; then decisions
pub record Reached (s : Setup) (living : ℕ → Bool) (from q : ℕ) (w : World) : Type 0 where
  pub locked : 1 ≤ q → (c : ℕ) → c < s.nodes → living c ≡ true → (v : ℕ) × Locked s 0 w v
  pub voted : 2 ≤ q → (from + q) % 2 ≡ 1 → (c : ℕ) → c < s.nodes → living c ≡ true
      → (v : ℕ) × Locked s 0 w v × ((j : ℕ) → j < s.nodes → is_in (w j).vote v ≡ true)
  pub decided : 3 ≤ q → (from + q) % 2 ≡ 0 → (c : ℕ) → c < s.nodes → living c ≡ true
      → (u : ℕ) × (decided (w c) ≡ Some u)

-- the rounds after `from` others: in the first all nodes hear the same, and in all of them they
-- hear the nodes that live
pub record Works (s : Setup) (living : ℕ → Bool) (omits : ℕ → ℕ → ℕ → Bool) (from many : ℕ) : Type 0
  where
    pub alike : HearAlike s (λ i. omits i (suc from))
    pub heard : (q c : ℕ) → q < many → c < s.nodes → living c ≡ true
        → HearIt s (λ i. omits i (suc (from + q))) c

gets_on : (k : ℕ) (s : Setup) (living : ℕ → Bool) (omits : ℕ → ℕ → ℕ → Bool) (from many q p : ℕ)
    (w : World) → Suits k s → Works s living omits from many → q < many → Valid s w
    → (from + q) % 2 ≡ p → p < 2 → Reached s living from q w
    → Reached s living from (suc q) (next_world (machine k s.nodes s.faults) s.nodes
    (record { position = p; number = suc (from + q); phase = (from + q) / 2 + 1 })
    (λ i. omits i (suc (from + q))) w)
gets_on k s living omits from many q zero w ok works lt inv e small h = record {
  locked = λ some c hc lc. by c hc lc (cases_lt 0 q);
  voted = λ two odd c hc lc.
      let it = h.locked (omega arith) c hc lc in (
        it.0,
        locked1 k s 0 0 r o w it.0 ok inv it.1,
        all_vote k s r o w c it.0 ok inv hc (works.heard q c lt hc lc) it.1,
      );
  decided = λ three even c hc lc. absurd (omega arith);
}
  where
    r : Round
    r = record { position = 0; number = suc (from + q); phase = (from + q) / 2 + 1 }

    o : ℕ → ℕ → Bool
    o = λ i. omits i (suc (from + q))

    by : (c : ℕ) → c < s.nodes → living c ≡ true → (0 < q) ⊎ (q ≤ 0)
        → (v : ℕ) × Locked s 0 (after1 k s r o w) v
    by c hc lc (inl later) =
        let it = h.locked (omega arith) c hc lc in (it.0, locked1 k s 0 0 r o w it.0 ok inv it.1)
    by c hc lc (inr now) =
        let f : from ≡ from + q = omega arith in (
          (after1 k s r o w c).x,
          alike1 k s r o w c ok inv hc (works.heard q c lt hc lc)
              (subst (λ n. HearAlike s (λ i. omits i (suc n))) f works.alike),
        )
gets_on k s living omits from many q (suc zero) w ok works lt inv e small h = record {
  locked = λ some c hc lc. by c hc lc (cases_lt 0 q);
  voted = λ two odd c hc lc. absurd (omega arith);
  decided = λ three even c hc lc.
      let it = h.voted (omega arith) e c hc lc in
      all_decide k s r o w c it.0 ok inv hc (works.heard q c lt hc lc) it.1 it.2 c hc;
}
  where
    r : Round
    r = record { position = 1; number = suc (from + q); phase = (from + q) / 2 + 1 }

    o : ℕ → ℕ → Bool
    o = λ i. omits i (suc (from + q))

    by : (c : ℕ) → c < s.nodes → living c ≡ true → (0 < q) ⊎ (q ≤ 0)
        → (v : ℕ) × Locked s 0 (after2 k s r o w) v
    by c hc lc (inl later) =
        let it = h.locked (omega arith) c hc lc in (it.0, locked2 k s 0 0 r o w it.0 ok inv it.1)
    by c hc lc (inr now) =
        let f : from ≡ from + q = omega arith in (
          (after2 k s r o w c).x,
          alike2 k s r o w c ok inv hc (works.heard q c lt hc lc)
              (subst (λ n. HearAlike s (λ i. omits i (suc n))) f works.alike),
        )
gets_on k s living omits from many q (suc (suc p)) w ok works lt inv e small h =
    absurd (omega arith)

pub uniform_voting_decides : (k : ℕ) (s : Setup) (omits : ℕ → ℕ → ℕ → Bool) (from many : ℕ)
    (living : ℕ → Bool) → Suits k s → Works s living omits from many → 3 ≤ many
    → (from + many) % 2 ≡ 0
    → IsProgress (machine k s.nodes s.faults) s 2 omits from many living decided (λ r. Valid s)
    (Reached s living from)
uniform_voting_decides k s omits from many living ok works three even = record {
  begins = λ w inv. record {
    locked = λ some c hc lc. absurd (omega arith);
    voted = λ two odd c hc lc. absurd (omega arith);
    decided = λ three even c hc lc. absurd (omega arith);
  };
  gets_on = λ q w lt inv h.
      gets_on k s living omits from many q ((from + q) % 2) w ok works lt inv refl (omega arith) h;
  ends = λ w i inv h hi live. h.decided three even i hi live;
}

valid_on : (k : ℕ) (s : Setup) (p number phase : ℕ) (o : ℕ → ℕ → Bool) (w : World) → Suits k s
    → Valid s w
    → Valid s (next_world (machine k s.nodes s.faults) s.nodes
    (record { position = p; number = number; phase = phase }) o w)
valid_on k s zero number phase o w ok inv =
    valid1 k s (record { position = 0; number = number; phase = phase }) o w ok inv
valid_on k s (suc p) number phase o w ok inv =
    valid2 k s (record { position = suc p; number = number; phase = phase }) o w ok inv

pub valid_holds : (k : ℕ) (s : Setup) (omits : ℕ → ℕ → ℕ → Bool) (last : ℕ) → Suits k s
    → IsInvariant (machine k s.nodes s.faults) s 2 omits last (λ r. Valid s)
valid_holds k s omits last ok = record {
  starts = first_valid k s;
  goes_on = λ r w lt inv.
      valid_on k s (r % 2) (suc r) (r / 2 + 1) (λ i. omits i (suc r)) w ok inv;
}

pub valid_kept : (k : ℕ) (s : Setup) (omits : ℕ → ℕ → ℕ → Bool) (last : ℕ)
    (Counts : ℕ → ℕ → Type 0) → ((i r : ℕ) → Counts i r → i < s.nodes) → Suits k s
    → IsKept (machine k s.nodes s.faults) s 2 omits last Counts decided (λ r. Valid s)
valid_kept k s omits last Counts known ok = record {
  keeps = λ r w i v lt inv c d.
      keeps k s (r % 2) (suc r) (r / 2 + 1) (λ i. omits i (suc r)) w i v ok inv
      (known i (suc r) c) d;
}
