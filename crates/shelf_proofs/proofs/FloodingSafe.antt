-- Flooding for t + 1 rounds is safe where at most t nodes crash and no other message is lost: in
-- one of these rounds no node crashes, and from then on all nodes that haven't crashed have seen
-- the same.
use Rattle.std.proofs.Common.{◌≡◌, ℕ, suc, ◌+◌, ◌<◌, ◌≤◌, ◌%◌, ◌/◌, Bool, true, false, cond}
use Rattle.std.proofs.Common.{min, refl, sym, ap, ◌∙◌, subst, inl, inr, ◌⊎◌, Option, Some, arith}
use Rattle.std.specs.Prelude.{⊤, ◌&&◌, not, nat_le, slice_index}
use Rattle.std.specs.List.{range_with_len}
use Rattle.std.proofs.lemmas.List.Elements.{All-get_or}
use Rattle.std.proofs.lemmas.Bool.{cases_lt, false≢true, and_parts, and_from, leb-true}
use Rattle.std.proofs.lemmas.Bool.{le-leb}
use Rattle.round_lang.specs.Sets.{is_in, members}
use Rattle.round_meaning.specs.declared.setup.Setup.{Setup}
use Rattle.round_meaning.specs.Agreement.{IsInput}
use Rattle.round_meaning.specs.Turn.{first_member}
use Rattle.round_meaning.proofs.Hearing.{count}
use Rattle.round_meaning.proofs.SetReading.{decided_in, in_only, in_union, none_in}
use Rattle.round_proofs.specs.Machines.{Round, hear}
use Rattle.round_proofs.specs.Progress.{IsProgress}
use Rattle.round_proofs.specs.Safety.{IsFit, IsKept, IsSafe}
use Rattle.round_proofs.proofs.CrashRuns.{IsCrash}
use Rattle.round_proofs.proofs.Counting.{gained, kept, no_more}
use Rattle.round_proofs.proofs.SetSizes.{in_left, in_right, only_itself, same_members, some_first}
use Rattle.shelf_proofs.proofs.FloodingSteps.{Node, decided, finish1, machine, message1}
use Rattle.shelf_proofs.proofs.FloodingSteps.{sends1, take1, top}

abbrev pub World : Type 0
World = ℕ → Node

pub record Suits (k : ℕ) (s : Setup) : Type 0 where
  pub small : k ≤ 64
  pub fit : IsFit k s
  pub faults : s.faults ≤ 15

-- the nodes that crashed in the first r rounds
abbrev pub dead : (ℕ → ℕ → Bool) → ℕ → ℕ → Bool
dead alive r j = not (alive r j)

-- a node that hasn't crashed in the first r rounds, of which at most t + 1 count
abbrev lives : Setup → (ℕ → ℕ → Bool) → ℕ → ℕ → Bool
lives s alive r j = alive (min r (s.faults + 1)) j

-- all nodes that live have seen the same
abbrev pub Same : Setup → (ℕ → ℕ → Bool) → ℕ → World → Type 0
Same s alive r w =
    (i j u : ℕ) → i < s.nodes → j < s.nodes → lives s alive r i ≡ true → lives s alive r j ≡ true
    → is_in (w i).seen u ≡ true → is_in (w j).seen u ≡ true

pub record Inv (s : Setup) (alive : ℕ → ℕ → Bool) (r : ℕ) (w : World) : Type 0 where
  pub inputs : (i u : ℕ) → i < s.nodes → is_in (w i).seen u ≡ true → IsInput s u
  pub some : (i : ℕ) → i < s.nodes → (v : ℕ) × (v < 64) × (is_in (w i).seen v ≡ true)
  pub none_yet : (i : ℕ) → i < s.nodes → r ≤ s.faults → (w i).chosen ≡ 0
  pub chosen : (i : ℕ) → i < s.nodes → s.faults + 1 ≤ r → (w i).chosen ≡ (w i).seen
  pub agreed : Same s alive r w
      ⊎ ((r ≤ s.faults + 1) × (r ≤ count (dead alive r) 0 s.nodes))

-- t + 1 rounds are over, some node lives, and v is the least that each living node has seen
pub record Locked (s : Setup) (alive : ℕ → ℕ → Bool) (r : ℕ) (w : World) (v : ℕ) : Type 0 where
  pub over : s.faults + 1 ≤ r
  pub one : ℕ
  pub known : one < s.nodes
  pub living : alive (s.faults + 1) one ≡ true
  pub all : (i : ℕ) → i < s.nodes → alive (s.faults + 1) i ≡ true
      → first_member (members (w i).seen) ≡ Some v

pub below : (k : ℕ) (s : Setup) → Suits k s → (v : ℕ) → IsInput s v → v < 64
below k s ok v h =
    let lt = subst (λ x. x < k) h.2
    (All-get_or (λ x. x < k) s.inputs h.0 0 (omega (arith, h.1, ok.fit.inputs)) ok.fit.below) in
    omega (arith, ok.small)

-- the nodes that i hears in round r
abbrev c1 : (k : ℕ) → Setup → Round → (ℕ → ℕ → Bool) → World → ℕ → ℕ → Bool
c1 k s r o w i j = not (o i j) && sends1 k s.nodes s.faults r (w j) j i

abbrev ear1 : (k : ℕ) → Setup → Round → (ℕ → ℕ → Bool) → World → ℕ → Node
ear1 k s r o w i =
    hear (take1 k s.nodes s.faults r i) (c1 k s r o w i)
    (λ j. message1 k s.nodes s.faults r (w j) j i) (range_with_len 0 s.nodes) (w i)

abbrev after1 : (k : ℕ) → Setup → Round → (ℕ → ℕ → Bool) → World → World
after1 k s r o w i = finish1 k s.nodes s.faults r i (ear1 k s r o w i)

-- what a node has seen it saw before, or a node that it hears did
from1 : (k : ℕ) (s : Setup) (r : Round) (o : ℕ → ℕ → Bool) (w : World) (i u : ℕ)
    → is_in (ear1 k s r o w i).seen u ≡ true
    → (is_in (w i).seen u ≡ true)
    ⊎ ((j : ℕ) × (j < s.nodes) × (c1 k s r o w i j ≡ true) × (is_in (w j).seen u ≡ true))
from1 k s r o w i u =
    kept (λ b. is_in b.seen u ≡ true → (is_in (w i).seen u ≡ true)
    ⊎ ((j : ℕ) × (j < s.nodes) × (c1 k s r o w i j ≡ true) × (is_in (w j).seen u ≡ true)))
    (take1 k s.nodes s.faults r i) (c1 k s r o w i)
    (λ j. message1 k s.nodes s.faults r (w j) j i) 0 s.nodes
    (λ j lo hi t b h g. more j (omega arith) t b h (in_union b.seen (w j).seen u g))
    (w i) (λ g. inl g)
  where
    Known : Type 0
    Known = (is_in (w i).seen u ≡ true)
        ⊎ ((j : ℕ) × (j < s.nodes) × (c1 k s r o w i j ≡ true) × (is_in (w j).seen u ≡ true))

    more : (j : ℕ) → j < s.nodes → c1 k s r o w i j ≡ true → (b : Node)
        → (is_in b.seen u ≡ true → (is_in (w i).seen u ≡ true)
        ⊎ ((j : ℕ) × (j < s.nodes) × (c1 k s r o w i j ≡ true) × (is_in (w j).seen u ≡ true)))
        → (is_in b.seen u ≡ true) ⊎ (is_in (w j).seen u ≡ true)
        → (is_in (w i).seen u ≡ true)
        ⊎ ((j : ℕ) × (j < s.nodes) × (c1 k s r o w i j ≡ true) × (is_in (w j).seen u ≡ true))
    more j hj t b h (inl g) = h g
    more j hj t b h (inr g) = inr (j, hj, t, g)

-- what a node has seen stays seen
old1 : (k : ℕ) (s : Setup) (r : Round) (o : ℕ → ℕ → Bool) (w : World) (i u : ℕ) → u < 64
    → is_in (w i).seen u ≡ true → is_in (ear1 k s r o w i).seen u ≡ true
old1 k s r o w i u small h =
    kept (λ b. is_in b.seen u ≡ true) (take1 k s.nodes s.faults r i) (c1 k s r o w i)
    (λ j. message1 k s.nodes s.faults r (w j) j i) 0 s.nodes
    (λ j lo hi t b g. in_left b.seen (w j).seen u small g) (w i) h

-- a node sees what a node that it hears has seen
new1 : (k : ℕ) (s : Setup) (r : Round) (o : ℕ → ℕ → Bool) (w : World) (i j u : ℕ) → u < 64
    → j < s.nodes → c1 k s r o w i j ≡ true → is_in (w j).seen u ≡ true
    → is_in (ear1 k s r o w i).seen u ≡ true
new1 k s r o w i j u small hj t h =
    gained (λ b. is_in b.seen u ≡ true) (take1 k s.nodes s.faults r i) (c1 k s r o w i)
    (λ j. message1 k s.nodes s.faults r (w j) j i) 0 s.nodes j (omega arith) (omega arith) t
    (λ b. in_right b.seen (w j).seen u small h) (λ p b g. in_left b.seen (w p).seen u small g) (w i)

-- where no node sends, nothing changes
still1 : (k : ℕ) (s : Setup) (r : Round) (o : ℕ → ℕ → Bool) (w : World) (i : ℕ)
    → nat_le r.number (min (s.faults + 1) top) ≡ false → (ear1 k s r o w i).seen ≡ (w i).seen
still1 k s r o w i none =
    kept (λ b. b.seen ≡ (w i).seen) (take1 k s.nodes s.faults r i) (c1 k s r o w i)
    (λ j. message1 k s.nodes s.faults r (w j) j i) 0 s.nodes
    (λ j lo hi t b g. absurd (false≢true (sym none
    ∙ (and_parts (not (o i j)) (nat_le r.number (min (s.faults + 1) top)) t).1))) (w i) refl

pub heard_by : (b : Bool) → not b ≡ true → b ≡ false
heard_by true e = absurd (false≢true e)
heard_by false e = refl

pub alive_of : (b : Bool) → not b ≡ false → b ≡ true
alive_of true e = refl
alive_of false e = absurd (false≢true (sym e))

pub dead_not : (b : Bool) → b ≡ true → not b ≡ true → ⊥
dead_not true e f = false≢true f
dead_not false e f = false≢true e

step1 : (k : ℕ) (s : Setup) (alive : ℕ → ℕ → Bool) (last : ℕ) (omits : ℕ → ℕ → ℕ → Bool)
    (p f q : ℕ) (w : World) → Suits k s → IsCrash s last alive omits → q < last → Inv s alive q w
    → Inv s alive (suc q) (after1 k s (record { position = p; number = suc q; phase = f })
    (λ i. omits i (suc q)) w)
step1 k s alive last omits p f q w ok crash lt inv = record {
  inputs = λ i u hi g. input i u hi (from1 k s r o w i u g);
  some = λ i hi.
      let it = inv.some i hi in
      (it.0, it.1, old1 k s r o w i it.0 it.1 it.2);
  none_yet = λ i hi le. ap (λ b. cond b (ear1 k s r o w i).seen 0)
      (early le (nat_le (min (s.faults + 1) top) (suc q)) refl);
  chosen = λ i hi le. ap (λ b. cond b (ear1 k s r o w i).seen 0)
      (le-leb (min (s.faults + 1) top) (suc q) (omega arith));
  agreed = agreed (cases_lt q (s.faults + 1)) inv.agreed;
}
  where
    r : Round
    r = record { position = p; number = suc q; phase = f }

    o : ℕ → ℕ → Bool
    o = λ i. omits i (suc q)

    z : World
    z = after1 k s r o w

    input : (i u : ℕ) → i < s.nodes → (is_in (w i).seen u ≡ true)
        ⊎ ((j : ℕ) × (j < s.nodes) × (c1 k s r o w i j ≡ true) × (is_in (w j).seen u ≡ true))
        → IsInput s u
    input i u hi (inl g) = inv.inputs i u hi g
    input i u hi (inr g) = inv.inputs g.0 u g.1 g.3

    early : suc q ≤ s.faults → (b : Bool) → nat_le (min (s.faults + 1) top) (suc q) ≡ b → b ≡ false
    early le true e =
        let t = leb-true (min (s.faults + 1) top) (suc q) e in
        let few = ok.faults in
        absurd (omega arith)
    early le false e = refl

    agreed : (q < s.faults + 1) ⊎ (s.faults + 1 ≤ q)
        → Same s alive q w ⊎ ((q ≤ s.faults + 1) × (q ≤ count (dead alive q) 0 s.nodes))
        → Same s alive (suc q) z
        ⊎ ((suc q ≤ s.faults + 1) × (suc q ≤ count (dead alive (suc q)) 0 s.nodes))
    agreed (inr past) (inr many) = let few = crash.few q in absurd (omega (arith, many))
    agreed (inr past) (inl same) = inl (λ i j u hi hj li lj g.
        let quiet = silent (nat_le (suc q) (min (s.faults + 1) top)) refl in
        subst (λ d. is_in d u ≡ true) (sym (still1 k s r o w j quiet))
        (same i j u hi hj (subst (λ n. alive n i ≡ true) cut li)
        (subst (λ n. alive n j ≡ true) cut lj)
        (subst (λ d. is_in d u ≡ true) (still1 k s r o w i quiet) g)))
      where
        cut : min (suc q) (s.faults + 1) ≡ min q (s.faults + 1)
        cut = omega arith

        silent : (b : Bool) → nat_le (suc q) (min (s.faults + 1) top) ≡ b → b ≡ false
        silent true e =
            let t = leb-true (suc q) (min (s.faults + 1) top) e in
            absurd (omega arith)
        silent false e = refl
    agreed (inl sending) was = by was
      where
        now : min (suc q) (s.faults + 1) ≡ suc q
        now = omega arith

        then_ : min q (s.faults + 1) ≡ q
        then_ = omega arith

        sent : nat_le (suc q) (min (s.faults + 1) top) ≡ true
        sent = let few = ok.faults in le-leb (suc q) (min (s.faults + 1) top) (omega arith)

        -- a node that hasn't crashed is heard
        heard : (i j : ℕ) → i < s.nodes → j < s.nodes → alive (suc q) j ≡ true
            → c1 k s r o w i j ≡ true
        heard i j hi hj a =
            and_from _ _ (ap not (crash.kept i q j lt hi hj a)) sent

        -- a node that is heard hadn't crashed before
        was_alive : (i j : ℕ) → i < s.nodes → j < s.nodes → c1 k s r o w i j ≡ true
            → alive q j ≡ true
        was_alive i j hi hj t =
            crash.lost i q j lt hi hj (heard_by (omits i (suc q) j)
            (and_parts (not (o i j)) (nat_le (suc q) (min (s.faults + 1) top)) t).0)

        live : (i : ℕ) → lives s alive (suc q) i ≡ true → alive (suc q) i ≡ true
        live i l = subst (λ n. alive n i ≡ true) now l

        lived : (i : ℕ) → alive q i ≡ true → lives s alive q i ≡ true
        lived i l = subst (λ n. alive n i ≡ true) (sym then_) l

        still_same : Same s alive q w → Same s alive (suc q) z
        still_same same i j u hi hj li lj g = go (from1 k s r o w i u g)
          where
            mine : alive q j ≡ true
            mine = crash.down q (suc q) j (omega arith) (live j lj)

            go : (is_in (w i).seen u ≡ true)
                ⊎ ((a : ℕ) × (a < s.nodes) × (c1 k s r o w i a ≡ true)
                × (is_in (w a).seen u ≡ true)) → is_in (z j).seen u ≡ true
            go (inl h) =
                old1 k s r o w j u (below k s ok u (inv.inputs i u hi h))
                (same i j u hi hj (lived i (crash.down q (suc q) i (omega arith) (live i li)))
                (lived j mine) h)
            go (inr h) =
                old1 k s r o w j u (below k s ok u (inv.inputs h.0 u h.1 h.3))
                (same h.0 j u h.1 hj (lived h.0 (was_alive i h.0 hi h.1 h.2)) (lived j mine) h.3)

        -- if no node crashes in this round
        all_hear : count (dead alive (suc q)) 0 s.nodes ≤ count (dead alive q) 0 s.nodes
            → Same s alive (suc q) z
        all_hear none i j u hi hj li lj g = go (from1 k s r o w i u g)
          where
            grew : (x : ℕ) → dead alive q x ≡ true → dead alive (suc q) x ≡ true
            grew x d = on (alive (suc q) x) refl
              where
                on : (b : Bool) → alive (suc q) x ≡ b → not b ≡ true
                on true e = absurd (dead_not (alive q x)
                    (crash.down q (suc q) x (omega arith) e) d)
                on false e = refl

            lives_on : (a : ℕ) → a < s.nodes → alive q a ≡ true → alive (suc q) a ≡ true
            lives_on a ha l = cases (alive (suc q) a) refl
              where
                cases : (b : Bool) → alive (suc q) a ≡ b → b ≡ true
                cases true e = refl
                cases false e =
                    let was_dead = no_more (dead alive q) (dead alive (suc q)) 0 s.nodes
                    (λ x lo hx d. grew x d) none a (omega arith) (omega arith) (ap not e) in
                    absurd (dead_not (alive q a) l was_dead)

            go : (is_in (w i).seen u ≡ true)
                ⊎ ((a : ℕ) × (a < s.nodes) × (c1 k s r o w i a ≡ true)
                × (is_in (w a).seen u ≡ true)) → is_in (z j).seen u ≡ true
            go (inl h) =
                new1 k s r o w j i u (below k s ok u (inv.inputs i u hi h)) hi
                (heard j i hj hi (live i li)) h
            go (inr h) =
                new1 k s r o w j h.0 u (below k s ok u (inv.inputs h.0 u h.1 h.3)) h.1
                (heard j h.0 hj h.1 (lives_on h.0 h.1 (was_alive i h.0 hi h.1 h.2))) h.3

        by : Same s alive q w ⊎ ((q ≤ s.faults + 1) × (q ≤ count (dead alive q) 0 s.nodes))
            → Same s alive (suc q) z
            ⊎ ((suc q ≤ s.faults + 1) × (suc q ≤ count (dead alive (suc q)) 0 s.nodes))
        by (inl same) = inl (still_same same)
        by (inr many) = split (cases_lt q (count (dead alive (suc q)) 0 s.nodes))
          where
            split : (q < count (dead alive (suc q)) 0 s.nodes)
                ⊎ (count (dead alive (suc q)) 0 s.nodes ≤ q)
                → Same s alive (suc q) z
                ⊎ ((suc q ≤ s.faults + 1) × (suc q ≤ count (dead alive (suc q)) 0 s.nodes))
            split (inl more) = inr (omega arith, omega arith)
            split (inr none) = inl (all_hear (omega (arith, many)))

first : (k : ℕ) (s : Setup) (alive : ℕ → ℕ → Bool) → Suits k s
    → Inv s alive 0 (λ i. (machine k s.nodes s.faults).start (slice_index s.inputs i) i)
first k s alive ok = record {
  inputs = λ i u hi h. (i, hi, sym (in_only k (slice_index s.inputs i) u h).1);
  some = λ i hi.
      let x = All-get_or (λ x. x < k) s.inputs i 0 (omega (arith, hi, ok.fit.inputs)) ok.fit.below
      in
      (slice_index s.inputs i, omega (arith, ok.small), only_itself k (slice_index s.inputs i) x);
  none_yet = λ i hi le. refl;
  chosen = λ i hi le. absurd (omega arith);
  agreed = inr (omega arith, omega arith);
}

-- after t + 1 rounds all nodes that live have seen the same
all_same : (s : Setup) (alive : ℕ → ℕ → Bool) (last : ℕ) (omits : ℕ → ℕ → ℕ → Bool) (r : ℕ)
    (w : World) → IsCrash s last alive omits → Inv s alive r w → s.faults + 1 ≤ r
    → (i j u : ℕ) → i < s.nodes → j < s.nodes → alive (s.faults + 1) i ≡ true
    → alive (s.faults + 1) j ≡ true → is_in (w i).seen u ≡ true → is_in (w j).seen u ≡ true
all_same s alive last omits r w crash inv past = by inv.agreed
  where
    cut : min r (s.faults + 1) ≡ s.faults + 1
    cut = omega arith

    by : Same s alive r w ⊎ ((r ≤ s.faults + 1) × (r ≤ count (dead alive r) 0 s.nodes))
        → (i j u : ℕ) → i < s.nodes → j < s.nodes → alive (s.faults + 1) i ≡ true
        → alive (s.faults + 1) j ≡ true → is_in (w i).seen u ≡ true → is_in (w j).seen u ≡ true
    by (inl same) i j u hi hj li lj = same i j u hi hj (subst (λ n. alive n i ≡ true) (sym cut) li)
        (subst (λ n. alive n j ≡ true) (sym cut) lj)
    by (inr many) i j u hi hj li lj = let few = crash.few r in absurd (omega (arith, many))

locks : (s : Setup) (alive : ℕ → ℕ → Bool) (last : ℕ) (omits : ℕ → ℕ → ℕ → Bool) (r : ℕ)
    (w : World) (i v : ℕ) → IsCrash s last alive omits → Inv s alive r w → i < s.nodes
    → alive r i ≡ true → decided (w i) ≡ Some v → Locked s alive r w v
locks s alive last omits r w i v crash inv hi li d = by (cases_lt s.faults r)
  where
    by : (s.faults < r) ⊎ (r ≤ s.faults) → Locked s alive r w v
    by (inr le) =
        absurd (none_in v (subst (λ c. is_in c v ≡ true) (inv.none_yet i hi le)
        (decided_in (w i).chosen v d)))
    by (inl past) =
        let living = crash.down (s.faults + 1) r i (omega arith) li in
        let same = all_same s alive last omits r w crash inv (omega arith) in
        record {
          over = omega arith;
          one = i;
          known = hi;
          living = living;
          all = λ j hj lj.
              ap first_member (same_members (w j).seen (w i).seen
              (λ u l. same j i u hj hi lj living) (λ u l. same i j u hi hj living lj))
              ∙ ap (λ c. first_member (members c)) (sym (inv.chosen i hi (omega arith))) ∙ d;
        }

stays : (k : ℕ) (s : Setup) (alive : ℕ → ℕ → Bool) (p f q : ℕ) (o : ℕ → ℕ → Bool) (w : World)
    (v : ℕ) → Locked s alive q w v
    → Locked s alive (suc q) (after1 k s (record { position = p; number = suc q; phase = f }) o w) v
stays k s alive p f q o w v l = record {
  over = let past = l.over in omega arith;
  one = l.one;
  known = l.known;
  living = l.living;
  all = λ i hi li.
      ap (λ c. first_member (members c))
      (still1 k s (record { position = p; number = suc q; phase = f }) o w i
      (silent (nat_le (suc q) (min (s.faults + 1) top)) refl))
      ∙ l.all i hi li;
}
  where
    silent : (b : Bool) → nat_le (suc q) (min (s.faults + 1) top) ≡ b → b ≡ false
    silent true e =
        let t = leb-true (suc q) (min (s.faults + 1) top) e in
        let past = l.over in
        absurd (omega arith)
    silent false e = refl

pub same_some : (o : Option ℕ) (v u : ℕ) → o ≡ Some v → o ≡ Some u → v ≡ u
same_some o v u a b = cc

pub flooding_safe : (k : ℕ) (s : Setup) (alive : ℕ → ℕ → Bool) (last : ℕ)
    (omits : ℕ → ℕ → ℕ → Bool) (Counts : ℕ → ℕ → Type 0)
    → ((i r : ℕ) → Counts i r → (i < s.nodes) × (alive r i ≡ true)) → Suits k s
    → IsCrash s last alive omits
    → IsSafe (machine k s.nodes s.faults) s 1 omits last Counts decided (Inv s alive)
    (Locked s alive)
flooding_safe k s alive last omits Counts counts ok crash = record {
  agreed = record {
    starts = first k s alive ok;
    goes_on = λ r w lt inv.
        step1 k s alive last omits (r % 1) (r / 1 + 1) r w ok crash lt inv;
    locks = λ r w i v le inv c d.
        let known = counts i r c in
        locks s alive last omits r w i v crash inv known.0 known.1 d;
    stays = λ r w v lt inv l.
        stays k s alive (r % 1) (r / 1 + 1) r (λ i. omits i (suc r)) w v l;
    one = λ r w v u le inv a b.
        same_some (first_member (members (w a.one).seen)) v u (a.all a.one a.known a.living)
        (b.all a.one a.known a.living);
  };
  valid = λ r w v le inv l.
      inv.inputs l.one v l.known (decided_in (w l.one).seen v (l.all l.one l.known l.living));
}

-- a node that has decided has some decision after each later round
keeps : (k : ℕ) (s : Setup) (alive : ℕ → ℕ → Bool) (p f q : ℕ) (o : ℕ → ℕ → Bool) (w : World)
    (i v : ℕ) → Inv s alive q w → i < s.nodes → decided (w i) ≡ Some v
    → (u : ℕ) × (decided (after1 k s (record { position = p; number = suc q; phase = f }) o w i)
    ≡ Some u)
keeps k s alive p f q o w i v inv hi d = by (cases_lt s.faults q)
  where
    r : Round
    r = record { position = p; number = suc q; phase = f }

    by : (s.faults < q) ⊎ (q ≤ s.faults) → (u : ℕ) × (decided (after1 k s r o w i) ≡ Some u)
    by (inr le) =
        absurd (none_in v (subst (λ c. is_in c v ≡ true) (inv.none_yet i hi le)
        (decided_in (w i).chosen v d)))
    by (inl past) = (
      v,
      ap (λ b. first_member (members (cond b (ear1 k s r o w i).seen 0)))
          (le-leb (min (s.faults + 1) top) (suc q) (omega arith))
          ∙ ap (λ z. first_member (members z))
          (still1 k s r o w i (silent (nat_le (suc q) (min (s.faults + 1) top)) refl)
          ∙ sym (inv.chosen i hi (omega arith))) ∙ d,
    )
      where
        silent : (b : Bool) → nat_le (suc q) (min (s.faults + 1) top) ≡ b → b ≡ false
        silent true e =
            let t = leb-true (suc q) (min (s.faults + 1) top) e in
            absurd (omega arith)
        silent false e = refl

pub flooding_kept : (k : ℕ) (s : Setup) (alive : ℕ → ℕ → Bool) (last : ℕ)
    (omits : ℕ → ℕ → ℕ → Bool) (Counts : ℕ → ℕ → Type 0)
    → ((i r : ℕ) → Counts i r → (i < s.nodes) × (alive r i ≡ true))
    → IsKept (machine k s.nodes s.faults) s 1 omits last Counts decided (Inv s alive)
flooding_kept k s alive last omits Counts counts = record {
  keeps = λ r w i v lt inv c d.
      keeps k s alive (r % 1) (r / 1 + 1) r (λ i. omits i (suc r)) w i v inv (counts i (suc r) c).0
      d;
}

-- after t + 1 rounds each node decides the least that it has seen
pub flooding_decides : (k : ℕ) (s : Setup) (alive : ℕ → ℕ → Bool) (omits : ℕ → ℕ → ℕ → Bool)
    (living : ℕ → Bool)
    → IsProgress (machine k s.nodes s.faults) s 1 omits 0 (s.faults + 1) living decided
    (Inv s alive) (λ q w. ⊤)
flooding_decides k s alive omits living = record {
  begins = λ w inv. tt;
  gets_on = λ q w lt inv before. tt;
  ends = λ w i inv past hi live.
      let it = inv.some i hi in
      let one = some_first (w i).seen it.0 it.1 it.2 in (
        one.0,
        ap (λ c. first_member (members c)) (inv.chosen i hi (omega arith)) ∙ one.1,
      );
}
