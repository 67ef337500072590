-- The first two rounds of a phase of LastVoting: the coordinator's vote, and the nodes that take
-- it.
use Rattle.std.proofs.Common.{◌≡◌, ℕ, zero, suc, ◌+◌, ◌<◌, ◌≤◌, ◌/◌, Bool, true}
use Rattle.std.proofs.Common.{false, cond, refl, sym, ap, ◌∙◌, subst, inl, inr, ◌⊎◌}
use Rattle.std.proofs.Common.{arith}
use Rattle.std.specs.Prelude.{◌&&◌, ◌||◌, not, nat_lt, ◌==◌}
use Rattle.std.specs.List.{range_with_len}
use Rattle.std.proofs.lemmas.Bool.{and_parts, eqb-true}
use Rattle.std.proofs.lemmas.Bool.{eq-eqb, ltb-true, ltb-false, leb-true, le-leb}
use Rattle.round_lang.specs.Sets.{is_in, least, only, size}
use Rattle.round_meaning.specs.declared.setup.Setup.{Setup}
use Rattle.round_meaning.specs.Agreement.{IsInput}
use Rattle.round_meaning.proofs.Hearing.{count, count_more, some_counted}
use Rattle.round_meaning.proofs.SetReading.{in_only, none_in}
use Rattle.round_proofs.specs.Machines.{Round, hear}
use Rattle.round_proofs.proofs.Counting.{counted, gained, kept, majorities_meet}
use Rattle.round_proofs.proofs.SetSizes.{least_is_in}
use Rattle.shelf_proofs.proofs.LastVotingSteps.{Letter, Node, finish1, finish2}
use Rattle.shelf_proofs.proofs.LastVotingSteps.{message1, message2}
use Rattle.shelf_proofs.proofs.LastVotingSteps.{sends1, sends2, take1}
use Rattle.shelf_proofs.proofs.LastVotingSteps.{take2, top}
use Rattle.shelf_proofs.proofs.LastVotingInvariant.{World, since, Locked, Always, owner, Votes}
use Rattle.shelf_proofs.proofs.LastVotingInvariant.{Before, Voting, Taken, Suits, below}
use Rattle.shelf_proofs.proofs.LastVotingInvariant.{locked_same, holder, chosen, one_more}

abbrev pub c1 : (k : ℕ) → Setup → Round → (ℕ → ℕ → Bool) → World → ℕ → ℕ → Bool
c1 k s r o w i j = not (o i j) && sends1 k s.nodes s.faults r (w j) j i

abbrev pub ear1 : (k : ℕ) → Setup → Round → (ℕ → ℕ → Bool) → World → ℕ → Node
ear1 k s r o w i =
    hear (take1 k s.nodes s.faults r i) (c1 k s r o w i)
    (λ j. message1 k s.nodes s.faults r (w j) j i) (range_with_len 0 s.nodes) (w i)

abbrev pub after1 : (k : ℕ) → Setup → Round → (ℕ → ℕ → Bool) → World → World
after1 k s r o w i = finish1 k s.nodes s.faults r i (ear1 k s r o w i)

-- no node was heard so far, or the vote is that of a node with the newest stamp
abbrev pub Newest : (k : ℕ) → Setup → World → Node → Type 0
Newest k s w b =
    ((b.count ≡ 0) × (b.newest ≡ 0))
    ⊎ ((0 < b.count) × ((p : ℕ) × (p < s.nodes) × (b.vote ≡ only k (w p).x)
    × (b.newest ≡ (w p).stamp)))

pub record Ear1 (k : ℕ) (s : Setup) (c : ℕ → Bool) (w : World) (a b : Node) : Type 0 where
  pub x : b.x ≡ a.x
  pub stamp : b.stamp ≡ a.stamp
  pub ready : b.ready ≡ a.ready
  pub done : b.done ≡ a.done
  pub counts : b.count ≡ count c 0 s.nodes
  pub newest : Newest k s w b
  pub latest : (j : ℕ) → j < s.nodes → c j ≡ true → (w j).stamp ≤ b.newest

pub all_true : (c : ℕ → Bool) (lo n : ℕ) → count (λ j. c j && true) lo n ≡ count c lo n
all_true c lo zero = refl
all_true c lo (suc n) = let rest = all_true c (lo + 1) n in let here = go (c lo) in omega arith
  where
    go : (b : Bool) → ◌≡◌ {A = ℕ} (cond (b && true) 1 0) (cond b 1 0)
    go true = refl
    go false = refl

pub newer : (k : ℕ) (s : Setup) (w : World) (r : Round) (i j : ℕ) → j < s.nodes → (b : Node)
    → Newest k s w b
    → Newest k s w (take1 k s.nodes s.faults r i j (message1 k s.nodes s.faults r (w j) j i) b)
newer k s w r i j hj b (inl none) = inr (
  omega arith,
  (
    j,
    hj,
    ap (λ t. cond (t || nat_lt b.newest (w j).stamp) (only k (w j).x) b.vote)
        (eq-eqb b.count 0 none.0),
    chosen (λ n. n ≡ (w j).stamp) (nat_lt b.newest (w j).stamp) (w j).stamp b.newest (λ t. refl)
        (λ t. let no = ltb-false b.newest (w j).stamp t in omega (arith, none.1)),
  ),
)
newer k s w r i j hj b (inr old) = inr (omega arith, go (nat_lt b.newest (w j).stamp) refl)
  where
    p : ℕ
    p = old.1.0

    not_first : (b.count == 0) ≡ false
    not_first = off (b.count == 0) refl
      where
        off : (t : Bool) → (b.count == 0) ≡ t → t ≡ false
        off true e = let z = eqb-true b.count 0 e in absurd (omega (arith, old.0))
        off false e = refl

    go : (t : Bool) → nat_lt b.newest (w j).stamp ≡ t
        → (q : ℕ) × (q < s.nodes)
        × (cond ((b.count == 0) || t) (only k (w j).x) b.vote ≡ only k (w q).x)
        × (cond t (w j).stamp b.newest ≡ (w q).stamp)
    go true e = (j, hj, ap (λ t. cond (t || true) (only k (w j).x) b.vote) not_first, refl)
    go false e = (
      p,
      old.1.1,
      ap (λ t. cond (t || false) (only k (w j).x) b.vote) not_first ∙ old.1.2,
      old.1.3,
    )

pub hear1 : (k : ℕ) (s : Setup) (r : Round) (o : ℕ → ℕ → Bool) (w : World) → Suits k s → (i : ℕ)
    → (w i).count ≡ 0 → (w i).newest ≡ 0
    → Ear1 k s (c1 k s r o w i) w (w i) (ear1 k s r o w i)
hear1 k s r o w ok i none old = record {
  x = frame (λ b. b.x ≡ (w i).x) (λ j b h. h) refl;
  stamp = frame (λ b. b.stamp ≡ (w i).stamp) (λ j b h. h) refl;
  ready = frame (λ b. b.ready ≡ (w i).ready) (λ j b h. h) refl;
  done = frame (λ b. b.done ≡ (w i).done) (λ j b h. h) refl;
  counts =
      let few = ok.fit.few_nodes in
      let e = counted (λ (b : Node). b.count) (λ j. true) top take c m 0 s.nodes
      (λ j b h. one_more b.count h) (w i) (omega arith) in
      let f = all_true c 0 s.nodes in
      omega arith;
  newest = kept (Newest k s w) take c m 0 s.nodes
      (λ j lo hi t b h. newer k s w r i j (omega arith) b h) (w i) (inl (none, old));
  latest = λ j hj t.
      gained (λ b. (w j).stamp ≤ b.newest) take c m 0 s.nodes j (omega arith) (omega arith) t
      (λ b. chosen (λ n. (w j).stamp ≤ n) (nat_lt b.newest (w j).stamp) (w j).stamp b.newest
      (λ e. omega arith) (λ e. let no = ltb-false b.newest (w j).stamp e in omega arith))
      (λ p b h. chosen (λ n. (w j).stamp ≤ n) (nat_lt b.newest (w p).stamp) (w p).stamp b.newest
      (λ e. let yes = ltb-true b.newest (w p).stamp e in omega arith) (λ e. h)) (w i);
}
  where
    c : ℕ → Bool
    c = c1 k s r o w i

    take : ℕ → Letter → Node → Node
    take = take1 k s.nodes s.faults r i

    m : ℕ → Letter
    m = λ j. message1 k s.nodes s.faults r (w j) j i

    frame : (J : Node → Type 0) → ((j : ℕ) (b : Node) → J b → J (take j (m j) b)) → J (w i)
        → J (ear1 k s r o w i)
    frame J step h = kept J take c m 0 s.nodes (λ j lo hi t b g. step j b g) (w i) h

-- what is true of the coordinator's vote after the first round
pub vote1 : (k : ℕ) (s : Setup) (r : Round) (o : ℕ → ℕ → Bool) (w : World) → Suits k s → Always s w
    → (i u : ℕ) → i < s.nodes → is_in (after1 k s r o w i).vote u ≡ true
    → (i ≡ owner s r.phase) × IsInput s u × ((v : ℕ) → Locked s 0 w v → u ≡ v)
vote1 k s r o w ok a i u hi =
    chosen (λ vote. is_in vote u ≡ true → (i ≡ owner s r.phase) × IsInput s u
    × ((v : ℕ) → Locked s 0 w v → u ≡ v)) (nat_lt (s.nodes / 2) b.count) b.vote 0
    (λ t g. by (ltb-true (s.nodes / 2) b.count t) g h.newest) (λ t g. absurd (none_in u g))
  where
    b : Node
    b = ear1 k s r o w i

    c : ℕ → Bool
    c = c1 k s r o w i

    h : Ear1 k s c w (w i) b
    h = hear1 k s r o w ok i (a.counts i hi) (a.newest i hi)

    by : s.nodes / 2 < b.count → is_in b.vote u ≡ true → Newest k s w b
        → (i ≡ owner s r.phase) × IsInput s u × ((v : ℕ) → Locked s 0 w v → u ≡ v)
    by many g (inl none) = absurd (omega (arith, none.0))
    by many g (inr it) =
        let p = it.1 in
        let is : u ≡ (w p.0).x =
        (in_only k (w p.0).x u (subst (λ z. is_in z u ≡ true) p.2 g)).1 in
        let j = some_counted c 0 s.nodes (omega (arith, h.counts)) in
        let sent = and_parts (not (o i j.0)) (i == owner s r.phase) j.3 in (
          eqb-true i (owner s r.phase) sent.1,
          subst (IsInput s) (sym is) (a.inputs p.0 p.1),
          λ v l.
              let q = majorities_meet c (since w l.phase) s.nodes (omega (arith, h.counts))
              (omega (arith, l.many)) in
              let lo = leb-true l.phase (w q.0).stamp q.3 in
              let hi = h.latest q.0 q.1 q.2 in
              is ∙ l.same p.0 p.1 (omega (arith, p.3)),
        )

-- and it's one value
single1 : (k : ℕ) (s : Setup) (r : Round) (o : ℕ → ℕ → Bool) (w : World) → Suits k s → Always s w
    → (i u v : ℕ) → i < s.nodes → is_in (after1 k s r o w i).vote u ≡ true
    → is_in (after1 k s r o w i).vote v ≡ true → u ≡ v
single1 k s r o w ok a i u v hi =
    chosen (λ vote. is_in vote u ≡ true → is_in vote v ≡ true → u ≡ v)
    (nat_lt (s.nodes / 2) b.count) b.vote 0
    (λ t. by (ltb-true (s.nodes / 2) b.count t) h.newest) (λ t g f. absurd (none_in u g))
  where
    b : Node
    b = ear1 k s r o w i

    h : Ear1 k s (c1 k s r o w i) w (w i) b
    h = hear1 k s r o w ok i (a.counts i hi) (a.newest i hi)

    by : s.nodes / 2 < b.count → Newest k s w b → is_in b.vote u ≡ true → is_in b.vote v ≡ true
        → u ≡ v
    by many (inl none) g f = absurd (omega (arith, none.0))
    by many (inr it) g f =
        let p = it.1 in
        (in_only k (w p.0).x u (subst (λ z. is_in z u ≡ true) p.2 g)).1
        ∙ sym (in_only k (w p.0).x v (subst (λ z. is_in z v ≡ true) p.2 f)).1

pub step1 : (k : ℕ) (s : Setup) (r : Round) (o : ℕ → ℕ → Bool) (w : World) → Suits k s
    → Before s r.phase w → Voting s r.phase (after1 k s r o w)
step1 k s r o w ok b = record {
  always = record {
    inputs = λ i hi. subst (IsInput s) (sym (h i hi).x) (b.always.inputs i hi);
    counts = λ i hi. refl;
    newest = λ i hi. refl;
    decided = λ i v hi g. locked_same s 0 0 w (after1 k s r o w) v same
        (b.always.decided i v hi (subst (λ d. is_in d v ≡ true) (h i hi).done g));
  };
  early = λ i hi. subst (λ n. n < r.phase) (sym (h i hi).stamp) (b.early i hi);
  votes = λ i u hi g. let it = vote1 k s r o w ok b.always i u hi g in (it.0, it.1);
  single = λ i u v hi g f. single1 k s r o w ok b.always i u v hi g f;
  safe = λ i u v hi g l. (vote1 k s r o w ok b.always i u hi g).2 v
      (locked_same s 0 0 (after1 k s r o w) w v (λ j hj. (sym (same j hj).0, sym (same j hj).1)) l);
  none_ready = λ i hi. (h i hi).ready ∙ b.none_ready i hi;
}
  where
    h : (i : ℕ) → i < s.nodes → Ear1 k s (c1 k s r o w i) w (w i) (ear1 k s r o w i)
    h i hi = hear1 k s r o w ok i (b.always.counts i hi) (b.always.newest i hi)

    same : (i : ℕ) → i < s.nodes
        → ((after1 k s r o w i).x ≡ (w i).x) × ((after1 k s r o w i).stamp ≡ (w i).stamp)
    same i hi = ((h i hi).x, (h i hi).stamp)

pub locked1 : (k : ℕ) (s : Setup) (r : Round) (o : ℕ → ℕ → Bool) (w : World) (v : ℕ) → Suits k s
    → Before s r.phase w → Locked s 0 w v → Locked s 0 (after1 k s r o w) v
locked1 k s r o w v ok b l =
    locked_same s 0 0 w (after1 k s r o w) v
    (λ i hi. let h = hear1 k s r o w ok i (b.always.counts i hi) (b.always.newest i hi) in
    (h.x, h.stamp)) l

abbrev pub c2 : (k : ℕ) → Setup → Round → (ℕ → ℕ → Bool) → World → ℕ → ℕ → Bool
c2 k s r o w i j = not (o i j) && sends2 k s.nodes s.faults r (w j) j i

abbrev pub after2 : (k : ℕ) → Setup → Round → (ℕ → ℕ → Bool) → World → World
after2 k s r o w i =
    finish2 k s.nodes s.faults r i
    (hear (take2 k s.nodes s.faults r i) (c2 k s r o w i)
    (λ j. message2 k s.nodes s.faults r (w j) j i) (range_with_len 0 s.nodes) (w i))

-- a node is as it was, or it took the vote
abbrev pub Took : (k : ℕ) → Setup → (f : ℕ) → World → Node → Node → Type 0
Took k s f w a b =
    ((b.x ≡ a.x) × (b.stamp ≡ a.stamp))
    ⊎ ((b.stamp ≡ f) × ((j : ℕ) × (j < s.nodes) × (0 < size (w j).vote)
    × (b.x ≡ least k (w j).vote)))

pub record Ear2 (k : ℕ) (s : Setup) (f : ℕ) (w : World) (a b : Node) : Type 0 where
  pub count : b.count ≡ a.count
  pub newest : b.newest ≡ a.newest
  pub vote : b.vote ≡ a.vote
  pub ready : b.ready ≡ a.ready
  pub done : b.done ≡ a.done
  pub took : Took k s f w a b

pub hear2 : (k : ℕ) (s : Setup) (r : Round) (o : ℕ → ℕ → Bool) (w : World) (i : ℕ)
    → Ear2 k s r.phase w (w i) (after2 k s r o w i)
hear2 k s r o w i = record {
  count = frame (λ b. b.count ≡ (w i).count) (λ j b h. h) refl;
  newest = frame (λ b. b.newest ≡ (w i).newest) (λ j b h. h) refl;
  vote = frame (λ b. b.vote ≡ (w i).vote) (λ j b h. h) refl;
  ready = frame (λ b. b.ready ≡ (w i).ready) (λ j b h. h) refl;
  done = frame (λ b. b.done ≡ (w i).done) (λ j b h. h) refl;
  took = kept (Took k s r.phase w (w i)) take (c2 k s r o w i) m 0 s.nodes
      (λ j lo hi t b h. inr (
        refl,
        (
          j,
          omega arith,
          ltb-true 0 (size (w j).vote)
              (and_parts (not (o i j)) (nat_lt 0 (size (w j).vote)) t).1,
          refl,
        ),
      ))
      (w i) (inl (refl, refl));
}
  where
    take : ℕ → Letter → Node → Node
    take = take2 k s.nodes s.faults r i

    m : ℕ → Letter
    m = λ j. message2 k s.nodes s.faults r (w j) j i

    frame : (J : Node → Type 0) → ((j : ℕ) (b : Node) → J b → J (take j (m j) b)) → J (w i)
        → J (after2 k s r o w i)
    frame J step h = kept J take (c2 k s r o w i) m 0 s.nodes (λ j lo hi t b g. step j b g) (w i) h

-- a vote's least member is a member
pub vote_in : (k : ℕ) (s : Setup) (f : ℕ) (w : World) → Suits k s → Votes s f w → (j : ℕ) → j
    < s.nodes
    → 0 < size (w j).vote → is_in (w j).vote (least k (w j).vote) ≡ true
vote_in k s f w ok votes j hj some =
    least_is_in k (w j).vote some
    (λ v g. let lt = below k s ok v (votes j v hj g).1 in omega (arith, ok.small))

-- a node that takes a vote takes the value that was locked
pub locked2 : (k : ℕ) (s : Setup) (r : Round) (o : ℕ → ℕ → Bool) (w : World) (v : ℕ) → Suits k s
    → Voting s r.phase w → Locked s 0 w v → Locked s 0 (after2 k s r o w) v
locked2 k s r o w v ok b l = record {
  phase = l.phase;
  many =
      let more = count_more (since w l.phase) (since (after2 k s r o w) l.phase) 0 s.nodes
      (λ j lo hi t. le-leb l.phase (after2 k s r o w j).stamp
      (later j (omega arith) (leb-true l.phase (w j).stamp t) (hear2 k s r o w j).took)) in
      omega (arith, l.many);
  same = λ j hj h. taken j hj h (hear2 k s r o w j).took;
}
  where
    past : l.phase < r.phase
    past = let it = holder s 0 w v l in let lt = b.early it.0 it.1 in omega (arith, it.2)

    later : (j : ℕ) → j < s.nodes → l.phase ≤ (w j).stamp
        → Took k s r.phase w (w j) (after2 k s r o w j) → l.phase ≤ (after2 k s r o w j).stamp
    later j hj h (inl e) = omega (arith, e.1)
    later j hj h (inr e) = omega (arith, e.0, past)

    taken : (j : ℕ) → j < s.nodes → l.phase ≤ (after2 k s r o w j).stamp
        → Took k s r.phase w (w j) (after2 k s r o w j) → (after2 k s r o w j).x ≡ v
    taken j hj h (inl e) = e.0 ∙ l.same j hj (omega (arith, e.1))
    taken j hj h (inr e) =
        let it = e.1 in
        it.3 ∙ b.safe it.0 (least k (w it.0).vote) v it.1
        (vote_in k s r.phase w ok b.votes it.0 it.1 it.2) l

pub step2 : (k : ℕ) (s : Setup) (r : Round) (o : ℕ → ℕ → Bool) (w : World) → Suits k s
    → Voting s r.phase w → Taken k s r.phase (after2 k s r o w)
step2 k s r o w ok b = record {
  always = record {
    inputs = λ i hi. input i hi (h i).took;
    counts = λ i hi. (h i).count ∙ b.always.counts i hi;
    newest = λ i hi. (h i).newest ∙ b.always.newest i hi;
    decided = λ i v hi g. locked2 k s r o w v ok b
        (b.always.decided i v hi (subst (λ d. is_in d v ≡ true) (h i).done g));
  };
  early = λ i hi. stamped i hi (h i).took;
  votes = λ i u hi g. b.votes i u hi (subst (λ d. is_in d u ≡ true) (h i).vote g);
  single = λ i u v hi g f. b.single i u v hi (subst (λ d. is_in d u ≡ true) (h i).vote g)
      (subst (λ d. is_in d v ≡ true) (h i).vote f);
  taken = λ i hi e. took i hi e (h i).took;
  none_ready = λ i hi. (h i).ready ∙ b.none_ready i hi;
}
  where
    z : World
    z = after2 k s r o w

    h : (i : ℕ) → Ear2 k s r.phase w (w i) (z i)
    h i = hear2 k s r o w i

    input : (i : ℕ) → i < s.nodes → Took k s r.phase w (w i) (z i) → IsInput s (z i).x
    input i hi (inl e) = subst (IsInput s) (sym e.0) (b.always.inputs i hi)
    input i hi (inr e) =
        let it = e.1 in
        subst (IsInput s) (sym it.3) (b.votes it.0 (least k (w it.0).vote) it.1
        (vote_in k s r.phase w ok b.votes it.0 it.1 it.2)).1

    stamped : (i : ℕ) → i < s.nodes → Took k s r.phase w (w i) (z i) → (z i).stamp ≤ r.phase
    stamped i hi (inl e) = let lt = b.early i hi in omega (arith, e.1)
    stamped i hi (inr e) = omega (arith, e.0)

    took : (i : ℕ) → i < s.nodes → (z i).stamp ≡ r.phase → Took k s r.phase w (w i) (z i)
        → (z i).x ≡ least k (z (owner s r.phase)).vote
    took i hi now (inl e) = let lt = b.early i hi in absurd (omega (arith, e.1, now))
    took i hi now (inr e) =
        let it = e.1 in
        let mine = (b.votes it.0 (least k (w it.0).vote) it.1
        (vote_in k s r.phase w ok b.votes it.0 it.1 it.2)).0 in
        it.3 ∙ ap (λ j. least k (w j).vote) mine
        ∙ ap (least k) (sym (h (owner s r.phase)).vote)
