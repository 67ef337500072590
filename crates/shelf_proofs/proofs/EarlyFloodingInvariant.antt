-- The invariant of early-deciding flooding, where at most t nodes crash and no other message is
-- lost.
-- A node that has heard as many in two rounds in a row has heard all that hadn't crashed before the
-- second. So no node that hasn't crashed after it has seen more, and in the next round all hear it.
use Rattle.std.proofs.Common.{◌≡◌, ℕ, suc, ◌+◌, ◌<◌, ◌≤◌, Bool, true, false, cond}
use Rattle.std.proofs.Common.{min, refl, sym, ap, ◌∙◌, inl, inr, ◌⊎◌, Some, arith}
use Rattle.std.specs.Prelude.{◌&&◌, ◌||◌, not, nat_le, ◌==◌}
use Rattle.std.specs.List.{range_with_len}
use Rattle.std.proofs.lemmas.Bool.{and_from, and_parts, cases_lt, eq-eqb, eqb-true, false≢true}
use Rattle.std.proofs.lemmas.Bool.{leb-true}
use Rattle.std.proofs.lemmas.Bool.{le-leb, or_cases, or_left, or_right}
use Rattle.round_lang.specs.Sets.{is_in, members}
use Rattle.round_meaning.specs.declared.setup.Setup.{Setup}
use Rattle.round_meaning.specs.Agreement.{IsInput}
use Rattle.round_meaning.specs.Turn.{first_member}
use Rattle.round_meaning.proofs.Hearing.{count, count_more}
use Rattle.round_meaning.proofs.SetReading.{in_union}
use Rattle.round_proofs.specs.Machines.{Round, hear}
use Rattle.round_proofs.proofs.CrashRuns.{IsCrash}
use Rattle.round_proofs.proofs.Counting.{counted, gained, kept, no_more}
use Rattle.round_proofs.proofs.SetSizes.{in_left, in_right}
use Rattle.shelf_proofs.proofs.EarlyFloodingSteps.{Node, finish1, message1}
use Rattle.shelf_proofs.proofs.EarlyFloodingSteps.{sends1, take1, top}
use Rattle.shelf_proofs.proofs.FloodingSafe.{Suits, below, dead, dead_not, heard_by}
use Rattle.shelf_proofs.proofs.LastVotingInvariant.{one_more}
use Rattle.shelf_proofs.proofs.LastVotingVotes.{all_true}

abbrev pub World : Type 0
World = ℕ → Node

-- all nodes that had not crashed after q rounds have seen the same
abbrev pub Same : Setup → (ℕ → ℕ → Bool) → (q : ℕ) → World → Type 0
Same s alive q w =
    (i j u : ℕ) → i < s.nodes → j < s.nodes → alive q i ≡ true → alive q j ≡ true
    → is_in (w i).seen u ≡ true → is_in (w j).seen u ≡ true

-- after r rounds
pub record Inv (s : Setup) (alive : ℕ → ℕ → Bool) (r : ℕ) (w : World) : Type 0 where
  pub inputs : (i u : ℕ) → i < s.nodes → is_in (w i).seen u ≡ true → IsInput s u
  pub some : (i : ℕ) → i < s.nodes → (v : ℕ) × (v < 64) × (is_in (w i).seen v ≡ true)
  pub none_heard : (i : ℕ) → i < s.nodes → (w i).heard ≡ 0
  -- in the last round each node heard all that haven't crashed
  pub before : (i : ℕ) → i < s.nodes → count (alive r) 0 s.nodes ≤ (w i).before
  -- a node that isn't calm heard fewer nodes in each round than in the one before
  pub fewer : (i : ℕ) → i < s.nodes → ((w i).calm ≡ true) ⊎ ((w i).before + r ≤ s.nodes)
  -- no node that hasn't crashed has seen more than a calm one
  pub most : (i j u : ℕ) → i < s.nodes → j < s.nodes → (w i).calm ≡ true → alive r j ≡ true
      → is_in (w j).seen u ≡ true → is_in (w i).seen u ≡ true
  pub agreed : Same s alive r w ⊎ (r ≤ count (dead alive r) 0 s.nodes)
  -- a node that has decided has decided what all have seen
  pub done : (i : ℕ) → i < s.nodes → alive r i ≡ true
      → ((w i).done ≡ 0)
      ⊎ (((w i).done ≡ (w i).seen) × Same s alive r w
      × (((w i).calm ≡ true) ⊎ (s.faults + 1 ≤ r)))
  pub late : (i : ℕ) → i < s.nodes → s.faults + 1 ≤ r → (w i).done ≡ (w i).seen

-- all nodes that had not crashed after some round have seen the same, of which v is the least
pub record Locked (s : Setup) (alive : ℕ → ℕ → Bool) (r : ℕ) (w : World) (v : ℕ) : Type 0 where
  pub since : ℕ
  pub past : since ≤ r
  pub one : ℕ
  pub known : one < s.nodes
  pub living : alive since one ≡ true
  pub same : Same s alive since w
  pub least : first_member (members (w one).seen) ≡ Some v

-- the nodes that i hears in a round
abbrev pub c1 : (k : ℕ) → Setup → Round → (ℕ → ℕ → Bool) → World → ℕ → ℕ → Bool
c1 k s r o w i j = not (o i j) && sends1 k s.nodes s.faults r (w j) j i

abbrev pub ear1 : (k : ℕ) → Setup → Round → (ℕ → ℕ → Bool) → World → ℕ → Node
ear1 k s r o w i =
    hear (take1 k s.nodes s.faults r i) (c1 k s r o w i)
    (λ j. message1 k s.nodes s.faults r (w j) j i) (range_with_len 0 s.nodes) (w i)

abbrev pub after1 : (k : ℕ) → Setup → Round → (ℕ → ℕ → Bool) → World → World
after1 k s r o w i = finish1 k s.nodes s.faults r i (ear1 k s r o w i)

-- what each message keeps
pub frame : (k : ℕ) (s : Setup) (r : Round) (o : ℕ → ℕ → Bool) (w : World) (i : ℕ)
    (J : Node → Type 0)
    → ((j : ℕ) (b : Node) → J b
    → J (take1 k s.nodes s.faults r i j (message1 k s.nodes s.faults r (w j) j i) b))
    → J (w i) → J (ear1 k s r o w i)
frame k s r o w i J step h =
    kept J (take1 k s.nodes s.faults r i) (c1 k s r o w i)
    (λ j. message1 k s.nodes s.faults r (w j) j i) 0 s.nodes (λ j lo hi t b g. step j b g) (w i) h

-- what a node has seen it saw before, or a node that it hears did
abbrev pub Origin : (k : ℕ) → Setup → Round → (ℕ → ℕ → Bool) → World → (i u : ℕ) → Type 0
Origin k s r o w i u =
    (is_in (w i).seen u ≡ true)
    ⊎ ((j : ℕ) × (j < s.nodes) × (c1 k s r o w i j ≡ true) × (is_in (w j).seen u ≡ true))

pub from1 : (k : ℕ) (s : Setup) (r : Round) (o : ℕ → ℕ → Bool) (w : World) (i u : ℕ)
    → is_in (ear1 k s r o w i).seen u ≡ true → Origin k s r o w i u
from1 k s r o w i u =
    kept (λ b. is_in b.seen u ≡ true → Origin k s r o w i u)
    (take1 k s.nodes s.faults r i) (c1 k s r o w i)
    (λ j. message1 k s.nodes s.faults r (w j) j i) 0 s.nodes
    (λ j lo hi t b h g. more j (omega arith) t b h (in_union b.seen (w j).seen u g))
    (w i) (λ g. inl g)
  where
    more : (j : ℕ) → j < s.nodes → c1 k s r o w i j ≡ true → (b : Node)
        → (is_in b.seen u ≡ true → Origin k s r o w i u)
        → (is_in b.seen u ≡ true) ⊎ (is_in (w j).seen u ≡ true) → Origin k s r o w i u
    more j hj t b h (inl g) = h g
    more j hj t b h (inr g) = inr (j, hj, t, g)

-- what a node has seen stays seen
pub old1 : (k : ℕ) (s : Setup) (r : Round) (o : ℕ → ℕ → Bool) (w : World) (i u : ℕ) → u < 64
    → is_in (w i).seen u ≡ true → is_in (ear1 k s r o w i).seen u ≡ true
old1 k s r o w i u small h =
    frame k s r o w i (λ b. is_in b.seen u ≡ true) (λ j b g. in_left b.seen (w j).seen u small g) h

-- a node sees what a node that it hears has seen
pub new1 : (k : ℕ) (s : Setup) (r : Round) (o : ℕ → ℕ → Bool) (w : World) (i j u : ℕ) → u < 64
    → j < s.nodes → c1 k s r o w i j ≡ true → is_in (w j).seen u ≡ true
    → is_in (ear1 k s r o w i).seen u ≡ true
new1 k s r o w i j u small hj t h =
    gained (λ b. is_in b.seen u ≡ true) (take1 k s.nodes s.faults r i) (c1 k s r o w i)
    (λ j. message1 k s.nodes s.faults r (w j) j i) 0 s.nodes j (omega arith) (omega arith) t
    (λ b. in_right b.seen (w j).seen u small h) (λ p b g. in_left b.seen (w p).seen u small g) (w i)

pub step1 : (k : ℕ) (s : Setup) (alive : ℕ → ℕ → Bool) (last : ℕ) (omits : ℕ → ℕ → ℕ → Bool)
    (p f q : ℕ) (w : World) → Suits k s → IsCrash s last alive omits → q < last → Inv s alive q w
    → Inv s alive (suc q) (after1 k s (record { position = p; number = suc q; phase = f })
    (λ i. omits i (suc q)) w)
step1 k s alive last omits p f q w ok crash lt inv = record {
  inputs = input;
  some = λ i hi.
      let it = inv.some i hi in
      (it.0, it.1, old1 k s r o w i it.0 it.1 it.2);
  none_heard = λ i hi. refl;
  before = least_heard;
  fewer = fewer;
  most = most;
  agreed = agreed inv.agreed;
  done = done;
  late = λ i hi past.
      ap (λ b. cond b (ear1 k s r o w i).seen (ear1 k s r o w i).done)
      (or_right (ear1 k s r o w i).calm (nat_le (min (s.faults + 1) top) (suc q))
      (le-leb (min (s.faults + 1) top) (suc q) (omega arith)));
}
  where
    r : Round
    r = record { position = p; number = suc q; phase = f }

    o : ℕ → ℕ → Bool
    o = λ i. omits i (suc q)

    z : World
    z = after1 k s r o w

    small : (i u : ℕ) → i < s.nodes → is_in (w i).seen u ≡ true → u < 64
    small i u hi g = below k s ok u (inv.inputs i u hi g)

    -- a node that hasn't crashed by the end of the round is heard in it
    heard : (i j : ℕ) → i < s.nodes → j < s.nodes → alive (suc q) j ≡ true
        → c1 k s r o w i j ≡ true
    heard i j hi hj a = and_from _ _ (ap not (crash.kept i q j lt hi hj a)) refl

    -- a node that is heard hadn't crashed before it
    was_alive : (i j : ℕ) → i < s.nodes → j < s.nodes → c1 k s r o w i j ≡ true → alive q j ≡ true
    was_alive i j hi hj t =
        crash.lost i q j lt hi hj (heard_by (omits i (suc q) j) (and_parts (not (o i j)) true t).0)

    down : (j : ℕ) → alive (suc q) j ≡ true → alive q j ≡ true
    down j a = crash.down q (suc q) j (omega arith) a

    input : (i u : ℕ) → i < s.nodes → is_in (z i).seen u ≡ true → IsInput s u
    input i u hi g = go (from1 k s r o w i u g)
      where
        go : Origin k s r o w i u → IsInput s u
        go (inl h) = inv.inputs i u hi h
        go (inr h) = inv.inputs h.0 u h.1 h.3

    -- a node that hasn't crashed after the round has seen what some node had seen that hadn't
    -- before
    seen_before : (j u : ℕ) → j < s.nodes → alive (suc q) j ≡ true → is_in (z j).seen u ≡ true
        → (a : ℕ) × (a < s.nodes) × (alive q a ≡ true) × (is_in (w a).seen u ≡ true)
    seen_before j u hj l g = go (from1 k s r o w j u g)
      where
        go : Origin k s r o w j u
            → (a : ℕ) × (a < s.nodes) × (alive q a ≡ true) × (is_in (w a).seen u ≡ true)
        go (inl h) = (j, hj, down j l, h)
        go (inr h) = (h.0, h.1, was_alive j h.0 hj h.1 h.2, h.3)

    counts : (i : ℕ) → i < s.nodes
        → (ear1 k s r o w i).heard ≡ count (c1 k s r o w i) 0 s.nodes
    counts i hi =
        let few = ok.fit.few_nodes in
        let none = inv.none_heard i hi in
        let e = counted (λ (b : Node). b.heard) (λ j. true) top (take1 k s.nodes s.faults r i)
        (c1 k s r o w i) (λ j. message1 k s.nodes s.faults r (w j) j i) 0 s.nodes
        (λ j b h. one_more b.heard h) (w i) (omega arith) in
        let g = all_true (c1 k s r o w i) 0 s.nodes in
        omega arith

    least_heard : (i : ℕ) → i < s.nodes
        → count (alive (suc q)) 0 s.nodes ≤ (ear1 k s r o w i).heard
    least_heard i hi =
        let e = counts i hi in
        let more = count_more (alive (suc q)) (c1 k s r o w i) 0 s.nodes
        (λ j lo hj a. heard i j hi (omega arith) a) in
        omega arith

    most_heard : (i : ℕ) → i < s.nodes → (ear1 k s r o w i).heard ≤ count (alive q) 0 s.nodes
    most_heard i hi =
        let e = counts i hi in
        let more = count_more (c1 k s r o w i) (alive q) 0 s.nodes
        (λ j lo hj t. was_alive i j hi (omega arith) t) in
        omega arith

    same_calm : (i : ℕ) → (ear1 k s r o w i).calm ≡ (w i).calm
    same_calm i = frame k s r o w i (λ b. b.calm ≡ (w i).calm) (λ j b h. h) refl

    same_before : (i : ℕ) → (ear1 k s r o w i).before ≡ (w i).before
    same_before i = frame k s r o w i (λ b. b.before ≡ (w i).before) (λ j b h. h) refl

    same_done : (i : ℕ) → (ear1 k s r o w i).done ≡ (w i).done
    same_done i = frame k s r o w i (λ b. b.done ≡ (w i).done) (λ j b h. h) refl

    fewer : (i : ℕ) → i < s.nodes
        → ((z i).calm ≡ true) ⊎ ((ear1 k s r o w i).heard + suc q ≤ s.nodes)
    fewer i hi = go (inv.fewer i hi) ((ear1 k s r o w i).heard == (ear1 k s r o w i).before) refl
      where
        b : Node
        b = ear1 k s r o w i

        go : ((w i).calm ≡ true) ⊎ ((w i).before + q ≤ s.nodes) → (t : Bool)
            → (b.heard == b.before) ≡ t → ((z i).calm ≡ true) ⊎ (b.heard + suc q ≤ s.nodes)
        go (inl calm) t e =
            inl (or_left b.calm (b.heard == b.before) (same_calm i ∙ calm))
        go (inr few) true e = inl (or_right b.calm (b.heard == b.before) e)
        go (inr few) false e =
            let m = most_heard i hi in
            let n = inv.before i hi in
            let same = same_before i in
            inr (by (cases_lt b.heard b.before))
          where
            by : (b.heard < b.before) ⊎ (b.before ≤ b.heard) → b.heard + suc q ≤ s.nodes
            by (inl l) = let same = same_before i in omega arith
            by (inr le) =
                let m = most_heard i hi in
                let n = inv.before i hi in
                let same = same_before i in
                absurd (false≢true (sym e ∙ eq-eqb b.heard b.before (omega arith)))

    -- a node that has become calm heard all that hadn't crashed before
    hears_all : (i : ℕ) → i < s.nodes → (ear1 k s r o w i).heard ≡ (ear1 k s r o w i).before
        → (j : ℕ) → j < s.nodes → alive q j ≡ true → c1 k s r o w i j ≡ true
    hears_all i hi e j hj a =
        let g = counts i hi in
        let n = inv.before i hi in
        let same = same_before i in
        no_more (c1 k s r o w i) (alive q) 0 s.nodes
        (λ x lo hx t. was_alive i x hi (omega arith) t) (omega arith) j (omega arith) (omega arith)
        a

    most : (i j u : ℕ) → i < s.nodes → j < s.nodes → (z i).calm ≡ true → alive (suc q) j ≡ true
        → is_in (z j).seen u ≡ true → is_in (z i).seen u ≡ true
    most i j u hi hj calm l g =
        let a = seen_before j u hj l g in
        go a (or_cases (ear1 k s r o w i).calm
        ((ear1 k s r o w i).heard == (ear1 k s r o w i).before) calm)
      where
        go : (a : ℕ) × (a < s.nodes) × (alive q a ≡ true) × (is_in (w a).seen u ≡ true)
            → ((ear1 k s r o w i).calm ≡ true)
            ⊎ (((ear1 k s r o w i).heard == (ear1 k s r o w i).before) ≡ true)
            → is_in (ear1 k s r o w i).seen u ≡ true
        go a (inl was) =
            old1 k s r o w i u (small a.0 u a.1 a.3)
            (inv.most i a.0 u hi a.1 (sym (same_calm i) ∙ was) a.2 a.3)
        go a (inr e) =
            new1 k s r o w i a.0 u (small a.0 u a.1 a.3) a.1
            (hears_all i hi (eqb-true (ear1 k s r o w i).heard (ear1 k s r o w i).before e) a.0 a.1
            a.2) a.3

    -- what a calm node has seen, and no more, all have seen one round later
    calm_same : (i : ℕ) → i < s.nodes → (w i).calm ≡ true → alive (suc q) i ≡ true
        → Same s alive (suc q) z
    calm_same i hi calm l a b u ha hb la lb g =
        let x = seen_before a u ha la g in
        let h = inv.most i x.0 u hi x.1 calm x.2 x.3 in
        new1 k s r o w b i u (small i u hi h) hi (heard b i hb hi l) h

    still_same : Same s alive q w → Same s alive (suc q) z
    still_same same i j u hi hj li lj g =
        let x = seen_before i u hi li g in
        old1 k s r o w j u (small x.0 u x.1 x.3) (same x.0 j u x.1 hj x.2 (down j lj) x.3)

    -- if no node crashes in this round
    all_hear : count (dead alive (suc q)) 0 s.nodes ≤ count (dead alive q) 0 s.nodes
        → Same s alive (suc q) z
    all_hear none i j u hi hj li lj g =
        let x = seen_before i u hi li g in
        new1 k s r o w j x.0 u (small x.0 u x.1 x.3) x.1
        (heard j x.0 hj x.1 (lives_on x.0 x.1 x.2)) x.3
      where
        grew : (x : ℕ) → dead alive q x ≡ true → dead alive (suc q) x ≡ true
        grew x d = on (alive (suc q) x) refl
          where
            on : (b : Bool) → alive (suc q) x ≡ b → not b ≡ true
            on true e = absurd (dead_not (alive q x) (down x e) d)
            on false e = refl

        lives_on : (a : ℕ) → a < s.nodes → alive q a ≡ true → alive (suc q) a ≡ true
        lives_on a ha l = cases (alive (suc q) a) refl
          where
            cases : (b : Bool) → alive (suc q) a ≡ b → b ≡ true
            cases true e = refl
            cases false e =
                let was_dead = no_more (dead alive q) (dead alive (suc q)) 0 s.nodes
                (λ x lo hx d. grew x d) none a (omega arith) (omega arith) (ap not e) in
                absurd (dead_not (alive q a) l was_dead)

    agreed : Same s alive q w ⊎ (q ≤ count (dead alive q) 0 s.nodes)
        → Same s alive (suc q) z ⊎ (suc q ≤ count (dead alive (suc q)) 0 s.nodes)
    agreed (inl same) = inl (still_same same)
    agreed (inr many) = split (cases_lt q (count (dead alive (suc q)) 0 s.nodes))
      where
        split : (q < count (dead alive (suc q)) 0 s.nodes)
            ⊎ (count (dead alive (suc q)) 0 s.nodes ≤ q)
            → Same s alive (suc q) z ⊎ (suc q ≤ count (dead alive (suc q)) 0 s.nodes)
        split (inl more) = inr (omega arith)
        split (inr none) = inl (all_hear (omega (arith, many)))

    over : s.faults + 1 ≤ suc q → Same s alive (suc q) z
    over past = by (agreed inv.agreed)
      where
        by : Same s alive (suc q) z ⊎ (suc q ≤ count (dead alive (suc q)) 0 s.nodes)
            → Same s alive (suc q) z
        by (inl same) = same
        by (inr many) = let few = crash.few (suc q) in absurd (omega (arith, many))

    done : (i : ℕ) → i < s.nodes → alive (suc q) i ≡ true
        → ((z i).done ≡ 0)
        ⊎ (((z i).done ≡ (z i).seen) × Same s alive (suc q) z
        × (((z i).calm ≡ true) ⊎ (s.faults + 1 ≤ suc q)))
    done i hi l = by (b.calm || nat_le (min (s.faults + 1) top) (suc q)) refl
      where
        b : Node
        b = ear1 k s r o w i

        now : (b.calm ≡ true) ⊎ (nat_le (min (s.faults + 1) top) (suc q) ≡ true)
            → Same s alive (suc q) z × (((z i).calm ≡ true) ⊎ (s.faults + 1 ≤ suc q))
        now (inl calm) = (
          calm_same i hi (sym (same_calm i) ∙ calm) l,
          inl (or_left b.calm (b.heard == b.before) calm),
        )
        now (inr t) =
            let few = ok.faults in
            let le = leb-true (min (s.faults + 1) top) (suc q) t in
            (over (omega arith), inr (omega arith))

        was : ((w i).done ≡ 0)
            ⊎ (((w i).done ≡ (w i).seen) × Same s alive q w
            × (((w i).calm ≡ true) ⊎ (s.faults + 1 ≤ q)))
            → (b.calm || nat_le (min (s.faults + 1) top) (suc q)) ≡ false → b.done ≡ 0
        was (inl none) e = same_done i ∙ none
        was (inr it) e = absurd (false≢true (sym e ∙ on it.2))
          where
            on : ((w i).calm ≡ true) ⊎ (s.faults + 1 ≤ q)
                → (b.calm || nat_le (min (s.faults + 1) top) (suc q)) ≡ true
            on (inl calm) = or_left b.calm (nat_le (min (s.faults + 1) top) (suc q))
                (same_calm i ∙ calm)
            on (inr past) = or_right b.calm (nat_le (min (s.faults + 1) top) (suc q))
                (le-leb (min (s.faults + 1) top) (suc q) (omega arith))

        by : (t : Bool) → (b.calm || nat_le (min (s.faults + 1) top) (suc q)) ≡ t
            → ((z i).done ≡ 0)
            ⊎ (((z i).done ≡ (z i).seen) × Same s alive (suc q) z
            × (((z i).calm ≡ true) ⊎ (s.faults + 1 ≤ suc q)))
        by true e =
            let it = now (or_cases b.calm (nat_le (min (s.faults + 1) top) (suc q)) e) in
            inr (ap (λ t. cond t b.seen b.done) e, it.0, it.1)
        by false e =
            inl (ap (λ t. cond t b.seen b.done) e ∙ was (inv.done i hi (down i l)) e)
