-- FloodMin decides at most two values where at most t nodes crash and no other message is lost: in
-- one of t div 2 + 1 rounds at most one node crashes, and from then on the nodes that haven't
-- crashed have at most two values.
use Rattle.std.proofs.Common.{◌≡◌, ◌≢◌, ℕ, zero, suc, ◌+◌, ◌*◌, ◌/◌, ◌<◌, ◌≤◌, Bool, true}
use Rattle.std.proofs.Common.{false}
use Rattle.std.proofs.Common.{cond, min, refl, sym, ap, ◌∙◌, subst, inl, inr, ◌⊎◌}
use Rattle.std.proofs.Common.{arith}
use Rattle.std.specs.Prelude.{◌&&◌, not, nat_lt, slice_index}
use Rattle.std.specs.List.{range_with_len}
use Rattle.std.proofs.lemmas.Bool.{and_from, and_parts, cases_eq, cases_lt, eq-eqb}
use Rattle.std.proofs.lemmas.Bool.{false≢true, ltb-false, ltb-true, ne_eqb}
use Rattle.std.proofs.lemmas.List.Elements.{All-get_or}
use Rattle.round_lang.specs.Sets.{least, only}
use Rattle.round_lang.specs.Values.{div_or_0}
use Rattle.round_meaning.specs.declared.setup.Setup.{Setup}
use Rattle.round_meaning.specs.Agreement.{IsInput}
use Rattle.round_meaning.proofs.Hearing.{count, some_counted}
use Rattle.round_meaning.proofs.SetMembership.{sets_are_members}
use Rattle.round_meaning.proofs.SetReading.{in_only}
use Rattle.round_proofs.specs.Machines.{Round, hear}
use Rattle.round_proofs.specs.Safety.{IsFit}
use Rattle.round_proofs.proofs.Counting.{counted_in, gained, kept}
use Rattle.round_proofs.proofs.CrashRounds.{count_two}
use Rattle.round_proofs.proofs.CrashRuns.{IsCrash}
use Rattle.round_proofs.proofs.SetSizes.{only_itself, two_counted}
use Rattle.shelf_proofs.proofs.FloodMinSteps.{Node, finish1, machine, message1, take1, top}

abbrev pub World : Type 0
World = ℕ → Node

pub record Suits (k : ℕ) (s : Setup) : Type 0 where
  pub small : k ≤ 64
  pub fit : IsFit k s
  pub faults : s.faults ≤ 15

-- the set has one member, which is an input
abbrev pub Holds : ℕ → Setup → ℕ → Type 0
Holds k s x = (v : ℕ) × IsInput s v × (x ≡ only k v)

pub record Inv (k : ℕ) (s : Setup) (r : ℕ) (w : World) : Type 0 where
  pub lowest : (i : ℕ) → i < s.nodes → Holds k s (w i).lowest
  pub none_yet : (i : ℕ) → i < s.nodes → r ≤ s.faults / 2 → (w i).chosen ≡ 0
  pub chosen : (i : ℕ) → i < s.nodes → ((w i).chosen ≡ 0) ⊎ Holds k s (w i).chosen
  pub now : (i : ℕ) → i < s.nodes → r ≡ s.faults / 2 + 1 → (w i).chosen ≡ (w i).lowest

-- a node's value
abbrev pub low : ℕ → World → ℕ → ℕ
low k w i = least k (w i).lowest

-- the nodes that pass have at most two values
abbrev pub AtMostTwo : ℕ → ℕ → (ℕ → Bool) → World → Type 0
AtMostTwo k n living w =
    (a b : ℕ) × ((i : ℕ) → i < n → living i ≡ true → (low k w i ≡ a) ⊎ (low k w i ≡ b))

pub below : (k : ℕ) (s : Setup) → IsFit k s → (v : ℕ) → IsInput s v → v < k
below k s fit v h =
    subst (λ x. x < k) h.2
    (All-get_or (λ x. x < k) s.inputs h.0 0 (omega (arith, h.1, fit.inputs)) fit.below)

-- the least member of a set of one
pub least_only : (k v : ℕ) → k ≤ 64 → v < k → least k (only k v) ≡ v
least_only k v small hv =
    let it = sets_are_members.least_member k (only k v) v (omega arith) (only_itself k v hv) in
    (in_only k v (least k (only k v)) it.0).1

pub low_is : (k : ℕ) (s : Setup) (w : World) (i v : ℕ) → Suits k s → IsInput s v
    → (w i).lowest ≡ only k v → low k w i ≡ v
low_is k s w i v ok is e =
    ap (least k) e ∙ least_only k v ok.small (below k s ok.fit v is)

-- of two sets the one with the less least member is taken
abbrev lesser : ℕ → ℕ → ℕ → ℕ
lesser k x y = cond (nat_lt (least k x) (least k y)) x y

lesser_old : (k x y c : ℕ) → least k y ≤ c → least k (lesser k x y) ≤ c
lesser_old k x y c h = go (nat_lt (least k x) (least k y)) refl
  where
    go : (b : Bool) → nat_lt (least k x) (least k y) ≡ b → least k (cond b x y) ≤ c
    go true e = let l = ltb-true (least k x) (least k y) e in omega arith
    go false e = h

lesser_new : (k x y : ℕ) → least k (lesser k x y) ≤ least k x
lesser_new k x y = go (nat_lt (least k x) (least k y)) refl
  where
    go : (b : Bool) → nat_lt (least k x) (least k y) ≡ b → least k (cond b x y) ≤ least k x
    go true e = omega arith
    go false e = let l = ltb-false (least k x) (least k y) e in omega arith

-- the nodes that i hears
abbrev pub heard : (ℕ → ℕ → Bool) → ℕ → ℕ → Bool
heard o i j = not (o i j) && true

abbrev pub ear : (k : ℕ) → Setup → Round → (ℕ → ℕ → Bool) → World → ℕ → Node
ear k s r o w i =
    hear (take1 k s.nodes s.faults r i) (heard o i) (λ j. message1 k s.nodes s.faults r (w j) j i)
    (range_with_len 0 s.nodes) (w i)

abbrev pub after : (k : ℕ) → Setup → Round → (ℕ → ℕ → Bool) → World → World
after k s r o w i = finish1 k s.nodes s.faults r i (ear k s r o w i)

-- a node's set was its own, or that of a node that it hears
abbrev From : Setup → (ℕ → ℕ → Bool) → World → ℕ → ℕ → Type 0
From s o w i x =
    (x ≡ (w i).lowest) ⊎ ((j : ℕ) × (j < s.nodes) × (heard o i j ≡ true) × (x ≡ (w j).lowest))

from : (k : ℕ) (s : Setup) (r : Round) (o : ℕ → ℕ → Bool) (w : World) (i : ℕ)
    → From s o w i (ear k s r o w i).lowest
from k s r o w i =
    kept (λ b. From s o w i b.lowest) (take1 k s.nodes s.faults r i) (heard o i)
    (λ j. message1 k s.nodes s.faults r (w j) j i) 0 s.nodes
    (λ j lo hi t b h. go j (omega arith) t b.lowest h
    (nat_lt (least k (w j).lowest) (least k b.lowest))) (w i) (inl refl)
  where
    go : (j : ℕ) → j < s.nodes → heard o i j ≡ true → (y : ℕ) → From s o w i y → (b : Bool)
        → From s o w i (cond b (w j).lowest y)
    go j hj t y h true = inr (j, hj, t, refl)
    go j hj t y h false = h

-- its value is no more than its own was
less_than_own : (k : ℕ) (s : Setup) (r : Round) (o : ℕ → ℕ → Bool) (w : World) (i : ℕ)
    → least k (ear k s r o w i).lowest ≤ low k w i
less_than_own k s r o w i =
    kept (λ b. least k b.lowest ≤ low k w i) (take1 k s.nodes s.faults r i) (heard o i)
    (λ j. message1 k s.nodes s.faults r (w j) j i) 0 s.nodes
    (λ j lo hi t b h. lesser_old k (w j).lowest b.lowest (low k w i) h) (w i) (omega arith)

-- and no more than that of a node that it hears
less_than_heard : (k : ℕ) (s : Setup) (r : Round) (o : ℕ → ℕ → Bool) (w : World) (i j : ℕ)
    → j < s.nodes → heard o i j ≡ true → least k (ear k s r o w i).lowest ≤ low k w j
less_than_heard k s r o w i j hj t =
    gained (λ b. least k b.lowest ≤ low k w j) (take1 k s.nodes s.faults r i) (heard o i)
    (λ j. message1 k s.nodes s.faults r (w j) j i) 0 s.nodes j (omega arith) (omega arith) t
    (λ b. lesser_new k (w j).lowest b.lowest)
    (λ p b h. lesser_old k (w p).lowest b.lowest (low k w j) h) (w i)

-- what it has chosen stays while it hears
same_chosen : (k : ℕ) (s : Setup) (r : Round) (o : ℕ → ℕ → Bool) (w : World) (i : ℕ)
    → (ear k s r o w i).chosen ≡ (w i).chosen
same_chosen k s r o w i =
    kept (λ b. b.chosen ≡ (w i).chosen) (take1 k s.nodes s.faults r i) (heard o i)
    (λ j. message1 k s.nodes s.faults r (w j) j i) 0 s.nodes (λ j lo hi t b h. h) (w i) refl

due : (t : ℕ) → t ≤ 15 → min (div_or_0 t 2 + 1) top ≡ t / 2 + 1
due t h = omega arith

-- a node chooses in round t div 2 + 1 alone
pub chooses : (k : ℕ) (s : Setup) (r : Round) (o : ℕ → ℕ → Bool) (w : World) (i : ℕ) → Suits k s
    → r.number ≡ s.faults / 2 + 1 → (after k s r o w i).chosen ≡ (after k s r o w i).lowest
chooses k s r o w i ok e =
    ap (λ b. cond b (ear k s r o w i).lowest (ear k s r o w i).chosen)
    (eq-eqb r.number (min (div_or_0 s.faults 2 + 1) top) (e ∙ sym (due s.faults ok.faults)))

pub waits : (k : ℕ) (s : Setup) (r : Round) (o : ℕ → ℕ → Bool) (w : World) (i : ℕ) → Suits k s
    → r.number ≢ s.faults / 2 + 1 → (after k s r o w i).chosen ≡ (w i).chosen
waits k s r o w i ok ne =
    ap (λ b. cond b (ear k s r o w i).lowest (ear k s r o w i).chosen)
    (ne_eqb r.number (min (div_or_0 s.faults 2 + 1) top) (λ e. ne (e ∙ due s.faults ok.faults)))
    ∙ same_chosen k s r o w i

pub first : (k : ℕ) (s : Setup)
    → Inv k s 0 (λ i. (machine k s.nodes s.faults).start (slice_index s.inputs i) i)
first k s = record {
  lowest = λ i hi. (slice_index s.inputs i, (i, hi, refl), refl);
  none_yet = λ i hi le. refl;
  chosen = λ i hi. inl refl;
  now = λ i hi e. absurd (omega arith);
}

pub goes_on : (k : ℕ) (s : Setup) (p f q : ℕ) (o : ℕ → ℕ → Bool) (w : World) → Suits k s
    → Inv k s q w
    → Inv k s (suc q) (after k s (record { position = p; number = suc q; phase = f }) o w)
goes_on k s p f q o w ok inv = record {
  lowest = lowest;
  none_yet = λ i hi le. waits k s r o w i ok (λ e. omega arith) ∙ inv.none_yet i hi (omega arith);
  chosen = λ i hi. chosen i hi (cases_eq (suc q) (s.faults / 2 + 1));
  now = λ i hi e. chooses k s r o w i ok e;
}
  where
    r : Round
    r = record { position = p; number = suc q; phase = f }

    lowest : (i : ℕ) → i < s.nodes → Holds k s (ear k s r o w i).lowest
    lowest i hi = go (from k s r o w i)
      where
        go : From s o w i (ear k s r o w i).lowest → Holds k s (ear k s r o w i).lowest
        go (inl e) = subst (Holds k s) (sym e) (inv.lowest i hi)
        go (inr h) = subst (Holds k s) (sym h.3) (inv.lowest h.0 h.1)

    chosen : (i : ℕ) → i < s.nodes → (suc q ≡ s.faults / 2 + 1) ⊎ (suc q ≢ s.faults / 2 + 1)
        → ((after k s r o w i).chosen ≡ 0) ⊎ Holds k s (after k s r o w i).chosen
    chosen i hi (inl e) =
        inr (subst (Holds k s) (sym (chooses k s r o w i ok e)) (lowest i hi))
    chosen i hi (inr ne) =
        subst (λ x. (x ≡ 0) ⊎ Holds k s x) (sym (waits k s r o w i ok ne)) (inv.chosen i hi)

-- of the nodes that pass, one has the least value, or none passes
least_one : (c : ℕ → Bool) (f : ℕ → ℕ) (n : ℕ)
    → ((j : ℕ) → j < n → c j ≡ false)
    ⊎ ((m : ℕ) × (m < n) × (c m ≡ true) × ((j : ℕ) → j < n → c j ≡ true → f m ≤ f j))
least_one c f zero = inl (λ j h. absurd (omega arith))
least_one c f (suc n) = go (c n) refl (least_one c f n)
  where
    go : (b : Bool) → c n ≡ b
        → ((j : ℕ) → j < n → c j ≡ false)
        ⊎ ((m : ℕ) × (m < n) × (c m ≡ true) × ((j : ℕ) → j < n → c j ≡ true → f m ≤ f j))
        → ((j : ℕ) → j < suc n → c j ≡ false)
        ⊎ ((m : ℕ) × (m < suc n) × (c m ≡ true) × ((j : ℕ) → j < suc n → c j ≡ true → f m ≤ f j))
    go false e (inl none) = inl (λ j h. by j h (cases_lt j n))
      where
        by : (j : ℕ) → j < suc n → (j < n) ⊎ (n ≤ j) → c j ≡ false
        by j h (inl l) = none j l
        by j h (inr l) = let same : j ≡ n = omega arith in ap c same ∙ e
    go false e (inr it) = inr (it.0, omega (arith, it.1), it.2, λ j h t. by j h t (cases_lt j n))
      where
        by : (j : ℕ) → j < suc n → c j ≡ true → (j < n) ⊎ (n ≤ j) → f it.0 ≤ f j
        by j h t (inl l) = it.3 j l t
        by j h t (inr l) =
            let same : j ≡ n = omega arith in
            absurd (false≢true (sym e ∙ ap c (sym same) ∙ t))
    go true e (inl none) = inr (n, omega arith, e, λ j h t. by j h t (cases_lt j n))
      where
        by : (j : ℕ) → j < suc n → c j ≡ true → (j < n) ⊎ (n ≤ j) → f n ≤ f j
        by j h t (inl l) = absurd (false≢true (sym (none j l) ∙ t))
        by j h t (inr l) =
            let same : n ≡ j = omega arith in
            let e : f n ≡ f j = ap f same in
            omega arith
    go true e (inr it) = pick (cases_lt (f n) (f it.0))
      where
        pick : (f n < f it.0) ⊎ (f it.0 ≤ f n)
            → ((j : ℕ) → j < suc n → c j ≡ false)
            ⊎ ((m : ℕ) × (m < suc n) × (c m ≡ true)
            × ((j : ℕ) → j < suc n → c j ≡ true → f m ≤ f j))
        pick (inl less) = inr (n, omega arith, e, λ j h t. by j h t (cases_lt j n))
          where
            by : (j : ℕ) → j < suc n → c j ≡ true → (j < n) ⊎ (n ≤ j) → f n ≤ f j
            by j h t (inl l) = let le = it.3 j l t in omega arith
            by j h t (inr l) =
                let same : n ≡ j = omega arith in
                let e : f n ≡ f j = ap f same in
                omega arith
        pick (inr more) = inr (it.0, omega (arith, it.1), it.2, λ j h t. by j h t (cases_lt j n))
          where
            by : (j : ℕ) → j < suc n → c j ≡ true → (j < n) ⊎ (n ≤ j) → f it.0 ≤ f j
            by j h t (inl l) = it.3 j l t
            by j h t (inr l) =
                let same : n ≡ j = omega arith in
                let e : f n ≡ f j = ap f same in
                omega arith

-- the nodes that crashed in the first r rounds
abbrev pub dead : (ℕ → ℕ → Bool) → ℕ → ℕ → Bool
dead alive r j = not (alive r j)

alive_of : (b : Bool) → not b ≡ false → b ≡ true
alive_of true e = refl
alive_of false e = absurd (false≢true (sym e))

heard_by : (b : Bool) → not b ≡ true → b ≡ false
heard_by true e = absurd (false≢true e)
heard_by false e = refl

not_both : (b : Bool) → b ≡ true → not b ≡ true → ⊥
not_both true e f = false≢true f
not_both false e f = false≢true e

-- up to round t div 2 + 1, the living have at most two values, or two nodes crashed in each round
abbrev pub Few : (k : ℕ) → Setup → (ℕ → ℕ → Bool) → ℕ → World → Type 0
Few k s alive r w =
    AtMostTwo k s.nodes (alive r) w ⊎ (2 * r ≤ count (dead alive r) 0 s.nodes)

-- a round keeps that
pub still_few : (k : ℕ) (s : Setup) (alive : ℕ → ℕ → Bool) (last : ℕ) (omits : ℕ → ℕ → ℕ → Bool)
    (p f q : ℕ) (w : World) → IsCrash s last alive omits → q < last → Few k s alive q w
    → Few k s alive (suc q)
    (after k s (record { position = p; number = suc q; phase = f }) (λ i. omits i (suc q)) w)
still_few k s alive last omits p f q w crash lt few = by few
  where
    r : Round
    r = record { position = p; number = suc q; phase = f }

    o : ℕ → ℕ → Bool
    o = λ i. omits i (suc q)

    z : World
    z = after k s r o w

    hears : (i j : ℕ) → i < s.nodes → j < s.nodes → alive (suc q) j ≡ true → heard o i j ≡ true
    hears i j hi hj a = and_from _ _ (ap not (crash.kept i q j lt hi hj a)) refl

    was_alive : (i j : ℕ) → i < s.nodes → j < s.nodes → heard o i j ≡ true → alive q j ≡ true
    was_alive i j hi hj t =
        crash.lost i q j lt hi hj (heard_by (omits i (suc q) j) (and_parts (not (o i j)) true t).0)

    -- those that had at most two values still have
    two : AtMostTwo k s.nodes (alive q) w → AtMostTwo k s.nodes (alive (suc q)) z
    two had = (had.0, had.1, λ i hi li. go i hi li (from k s r o w i))
      where
        go : (i : ℕ) → i < s.nodes → alive (suc q) i ≡ true → From s o w i (ear k s r o w i).lowest
            → (low k z i ≡ had.0) ⊎ (low k z i ≡ had.1)
        go i hi li (inl e) =
            subst (λ x. (least k x ≡ had.0) ⊎ (least k x ≡ had.1)) (sym e)
            (had.2 i hi (crash.down q (suc q) i (omega arith) li))
        go i hi li (inr h) =
            subst (λ x. (least k x ≡ had.0) ⊎ (least k x ≡ had.1)) (sym h.3)
            (had.2 h.0 h.1 (was_alive i h.0 hi h.1 h.2))

    -- the nodes that crash in this round
    falls : ℕ → Bool
    falls = λ j. alive q j && dead alive (suc q) j

    fallen : count (dead alive q) 0 s.nodes + count falls 0 s.nodes
        ≤ count (dead alive (suc q)) 0 s.nodes
    fallen = count_two (dead alive q) falls (dead alive (suc q)) 0 s.nodes
        (λ j d. on j d (alive (suc q) j) refl)
        (λ j h. (and_parts (alive q j) (dead alive (suc q) j) h).1)
        (λ j d h. not_both (alive q j) (and_parts (alive q j) (dead alive (suc q) j) h).0 d)
      where
        on : (j : ℕ) → dead alive q j ≡ true → (b : Bool) → alive (suc q) j ≡ b → not b ≡ true
        on j d true e = absurd (not_both (alive q j) (crash.down q (suc q) j (omega arith) e) d)
        on j d false e = refl

    -- if one falls at most: the least value of those that live on, and its own
    one_falls : (c : ℕ) → ((j : ℕ) → j < s.nodes → falls j ≡ true → j ≡ c)
        → AtMostTwo k s.nodes (alive (suc q)) z
    one_falls c only_c = pick (least_one (alive (suc q)) (low k w) s.nodes)
      where
        pick : ((j : ℕ) → j < s.nodes → alive (suc q) j ≡ false)
            ⊎ ((m : ℕ) × (m < s.nodes) × (alive (suc q) m ≡ true)
            × ((j : ℕ) → j < s.nodes → alive (suc q) j ≡ true → low k w m ≤ low k w j))
            → AtMostTwo k s.nodes (alive (suc q)) z
        pick (inl none) = (0, 0, λ i hi li. absurd (false≢true (sym (none i hi) ∙ li)))
        pick (inr m) = (low k w m.0, low k w c, λ i hi li. go i hi li (from k s r o w i))
          where
            least_is : (i j : ℕ) → i < s.nodes → j < s.nodes → alive (suc q) j ≡ true
                → low k z i ≡ low k w j → low k z i ≡ low k w m.0
            least_is i j hi hj lj e =
                let a = less_than_heard k s r o w i m.0 m.1 (hears i m.0 hi m.1 m.2) in
                let b = m.3 j hj lj in
                omega arith

            go : (i : ℕ) → i < s.nodes → alive (suc q) i ≡ true
                → From s o w i (ear k s r o w i).lowest
                → (low k z i ≡ low k w m.0) ⊎ (low k z i ≡ low k w c)
            go i hi li (inl e) = inl (least_is i i hi hi li (ap (least k) e))
            go i hi li (inr h) = lives (alive (suc q) h.0) refl
              where
                lives : (b : Bool) → alive (suc q) h.0 ≡ b
                    → (low k z i ≡ low k w m.0) ⊎ (low k z i ≡ low k w c)
                lives true l = inl (least_is i h.0 hi h.1 l (ap (least k) h.3))
                lives false l =
                    inr (ap (least k) h.3 ∙ ap (low k w) (only_c h.0 h.1
                    (and_from _ _ (was_alive i h.0 hi h.1 h.2) (ap not l))))

    by : Few k s alive q w → Few k s alive (suc q) z
    by (inl had) = inl (two had)
    by (inr many) =
        split (cases_lt 1 (count falls 0 s.nodes)) (cases_lt 0 (count falls 0 s.nodes))
      where
        split : (1 < count falls 0 s.nodes) ⊎ (count falls 0 s.nodes ≤ 1)
            → (0 < count falls 0 s.nodes) ⊎ (count falls 0 s.nodes ≤ 0)
            → Few k s alive (suc q) z
        split (inl two_fall) any = let all = fallen in inr (omega arith)
        split (inr one) (inr none) = inl (one_falls 0 (λ j hj t.
            let some = counted_in falls 0 s.nodes j (omega arith) (omega arith) t in
            absurd (omega arith)))
        split (inr one) (inl some) = inl (one_falls c.0 (λ j hj t. same j hj t (cases_lt j c.0)
            (cases_lt c.0 j)))
          where
            c : (j : ℕ) × (0 ≤ j) × (j < 0 + s.nodes) × (falls j ≡ true)
            c = some_counted falls 0 s.nodes some

            same : (j : ℕ) → j < s.nodes → falls j ≡ true → (j < c.0) ⊎ (c.0 ≤ j)
                → (c.0 < j) ⊎ (j ≤ c.0) → j ≡ c.0
            same j hj t (inl l) m =
                let two_fall = two_counted falls 0 s.nodes j c.0 (omega arith) l c.2 t c.3 in
                absurd (omega arith)
            same j hj t (inr l) (inl m) =
                let two_fall = two_counted falls 0 s.nodes c.0 j (omega arith) m (omega arith) c.3 t
                in
                absurd (omega arith)
            same j hj t (inr l) (inr m) = omega arith

pub first_few : (k : ℕ) (s : Setup) (alive : ℕ → ℕ → Bool) (w : World) → Few k s alive 0 w
first_few k s alive w = inr (omega arith)

-- after round t div 2 + 1 the living have at most two values
pub few_at_last : (k : ℕ) (s : Setup) (alive : ℕ → ℕ → Bool) (last : ℕ)
    (omits : ℕ → ℕ → ℕ → Bool) (w : World) → IsCrash s last alive omits
    → Few k s alive (s.faults / 2 + 1) w → AtMostTwo k s.nodes (alive (s.faults / 2 + 1)) w
few_at_last k s alive last omits w crash (inl two) = two
few_at_last k s alive last omits w crash (inr many) =
    let few = crash.few (s.faults / 2 + 1) in
    absurd (omega arith)
