-- The rotating coordinator is safe. Its first two rounds keep LastVoting's invariant; a decision is
-- a value that a majority has taken, and so is what others are told.
use Rattle.std.proofs.Common.{◌≡◌, ℕ, zero, suc, ◌+◌, ◌<◌, ◌≤◌, ◌%◌, ◌/◌, Bool, true, false, cond}
use Rattle.std.proofs.Common.{min, refl, sym, ap, ◌∙◌, subst, Some, arith}
use Rattle.std.specs.Prelude.{◌&&◌, not, nat_lt, ◌==◌}
use Rattle.std.proofs.lemmas.Bool.{and_parts, eqb-true, le-leb, ltb-true}
use Rattle.round_lang.specs.Sets.{is_in, least, members, size}
use Rattle.round_meaning.specs.declared.setup.Setup.{Setup}
use Rattle.round_meaning.specs.Agreement.{IsInput}
use Rattle.round_meaning.specs.Turn.{first_member}
use Rattle.round_meaning.proofs.Hearing.{count, count_more, some_counted}
use Rattle.round_meaning.proofs.SetReading.{decided_in, least_in, some_member}
use Rattle.round_proofs.specs.Machines.{Round}
use Rattle.round_proofs.specs.Safety.{IsKept, IsSafe}
use Rattle.round_proofs.proofs.Counting.{counted, kept}
use Rattle.round_proofs.proofs.SetSizes.{some_first}
use Rattle.shelf_proofs.proofs.LastVotingInvariant.{Always, Before, Locked, NoneReady, Suits, Taken}
use Rattle.shelf_proofs.proofs.LastVotingInvariant.{Voting, World, below, chosen, holder}
use Rattle.shelf_proofs.proofs.LastVotingInvariant.{locked_same, owner, since}
use Rattle.shelf_proofs.proofs.LastVotingSafe.{first, one_locked}
use Rattle.shelf_proofs.proofs.LastVotingSteps.{Node, decided, top}
use Rattle.shelf_proofs.proofs.LastVotingVotes.{hear1, hear2, locked1, locked2, step1, step2}
use Rattle.shelf_proofs.proofs.RotatingCoordinatorSteps.{after3, after4, c3, c4, ear3, machine}
use Rattle.shelf_proofs.proofs.RotatingCoordinatorSteps.{message3, message4, next, next_is, take3}
use Rattle.shelf_proofs.proofs.RotatingCoordinatorSteps.{take4}

-- before the fourth round of phase f
pub record Told (s : Setup) (f : ℕ) (w : World) : Type 0 where
  pub always : Always s w
  pub early : (i : ℕ) → i < s.nodes → (w i).stamp ≤ f
  pub no_vote : (i : ℕ) → i < s.nodes → (w i).vote ≡ 0
  pub none_ready : NoneReady s w

-- j took the coordinator's pick in phase f
abbrev pub acks : World → (f : ℕ) → ℕ → Bool
acks w f j = (w j).stamp == f

pub record Ear3 (s : Setup) (c : ℕ → Bool) (w : World) (f : ℕ) (a b : Node) : Type 0 where
  pub x : b.x ≡ a.x
  pub stamp : b.stamp ≡ a.stamp
  pub newest : b.newest ≡ a.newest
  pub vote : b.vote ≡ a.vote
  pub ready : b.ready ≡ a.ready
  pub done : b.done ≡ a.done
  pub counts : b.count ≡ count (λ j. c j && acks w f j) 0 s.nodes

one_ack : (t : Bool) (x : ℕ) → x < top → cond t (min (x + 1) top) x ≡ x + cond t 1 0
one_ack true x h = omega arith
one_ack false x h = omega arith

pub hear3 : (k : ℕ) (s : Setup) (r : Round) (o : ℕ → ℕ → Bool) (w : World) → Suits k s → (i : ℕ)
    → (w i).count ≡ 0 → Ear3 s (c3 s r o i) w r.phase (w i) (ear3 s r o w i)
hear3 k s r o w ok i none = record {
  x = frame (λ b. b.x ≡ (w i).x) (λ j b h. h) refl;
  stamp = frame (λ b. b.stamp ≡ (w i).stamp) (λ j b h. h) refl;
  newest = frame (λ b. b.newest ≡ (w i).newest) (λ j b h. h) refl;
  vote = frame (λ b. b.vote ≡ (w i).vote) (λ j b h. h) refl;
  ready = frame (λ b. b.ready ≡ (w i).ready) (λ j b h. h) refl;
  done = frame (λ b. b.done ≡ (w i).done) (λ j b h. h) refl;
  counts =
      let few = ok.fit.few_nodes in
      let e = counted (λ (b : Node). b.count) (acks w r.phase) top (λ j. take3) (c3 s r o i)
      (λ j. message3 r (w j)) 0 s.nodes (λ j b h. one_ack (acks w r.phase j) b.count h) (w i)
      (omega arith) in
      omega arith;
}
  where
    frame : (J : Node → Type 0) → ((j : ℕ) (b : Node) → J b → J (take3 (message3 r (w j)) b))
        → J (w i) → J (ear3 s r o w i)
    frame J step h =
        kept J (λ j. take3) (c3 s r o i) (λ j. message3 r (w j)) 0 s.nodes
        (λ j lo hi t b g. step j b g) (w i) h

pub locked3 : (k : ℕ) (s : Setup) (r : Round) (o : ℕ → ℕ → Bool) (w : World) (v : ℕ) → Suits k s
    → Taken k s r.phase w → Locked s 0 w v → Locked s 0 (after3 s r o w) v
locked3 k s r o w v ok b l =
    locked_same s 0 0 w (after3 s r o w) v
    (λ i hi. let h = hear3 k s r o w ok i (b.always.counts i hi) in (h.x, h.stamp)) l

-- what a majority has acknowledged is locked, and is the one member of the pick
pub acknowledged : (k : ℕ) (s : Setup) (r : Round) (o : ℕ → ℕ → Bool) (w : World) → Suits k s
    → Taken k s r.phase w → (i : ℕ) → i < s.nodes → s.nodes / 2 < (ear3 s r o w i).count
    → Locked s 0 w (least k (w i).vote) × (is_in (w i).vote (least k (w i).vote) ≡ true)
acknowledged k s r o w ok b i hi many =
    let it = holder s 0 w (least k (w i).vote) lock in
    let lt = below k s ok (least k (w i).vote) (subst (IsInput s) it.3 (b.always.inputs it.0 it.1))
    in
    (lock, least_in k (w i).vote lt)
  where
    h : Ear3 s (c3 s r o i) w r.phase (w i) (ear3 s r o w i)
    h = hear3 k s r o w ok i (b.always.counts i hi)

    parts : (j : ℕ) → (c3 s r o i j && acks w r.phase j) ≡ true
        → ((w j).stamp ≡ r.phase) × (i ≡ owner s r.phase)
    parts j t =
        let both = and_parts (c3 s r o i j) (acks w r.phase j) t in
        let sent = and_parts (not (o i j)) (i == owner s r.phase) both.0 in
        (eqb-true (w j).stamp r.phase both.1, eqb-true i (owner s r.phase) sent.1)

    lock : Locked s 0 w (least k (w i).vote)
    lock =
        let e = h.counts in
        let j = some_counted (λ j. c3 s r o i j && acks w r.phase j) 0 s.nodes (omega arith) in
        let mine = (parts j.0 j.3).1 in
        let more = count_more (λ j. c3 s r o i j && acks w r.phase j) (since w r.phase) 0 s.nodes
        (λ q lo hi t. le-leb r.phase (w q).stamp (let now = (parts q t).0 in omega arith)) in
        record {
          phase = r.phase;
          many = omega arith;
          same = λ q hq le. b.taken q hq (let most = b.early q hq in omega arith)
              ∙ ap (λ p. least k (w p).vote) (sym mine);
        }

pub step3 : (k : ℕ) (s : Setup) (r : Round) (o : ℕ → ℕ → Bool) (w : World) → Suits k s
    → Taken k s r.phase w → Told s r.phase (after3 s r o w)
step3 k s r o w ok b = record {
  always = record {
    inputs = λ i hi. subst (IsInput s) (sym (h i hi).x) (b.always.inputs i hi);
    counts = λ i hi. refl;
    newest = λ i hi. (h i hi).newest ∙ b.always.newest i hi;
    decided = λ i v hi.
        chosen (λ d. is_in d v ≡ true → Locked s 0 (after3 s r o w) v)
        (nat_lt (s.nodes / 2) (ear3 s r o w i).count) (ear3 s r o w i).vote (ear3 s r o w i).done
        (λ t g. new i v hi (ltb-true (s.nodes / 2) (ear3 s r o w i).count t)
        (subst (λ d. is_in d v ≡ true) (h i hi).vote g))
        (λ t g. locked3 k s r o w v ok b
        (b.always.decided i v hi (subst (λ d. is_in d v ≡ true) (h i hi).done g)));
  };
  early = λ i hi. subst (λ n. n ≤ r.phase) (sym (h i hi).stamp) (b.early i hi);
  no_vote = λ i hi. refl;
  none_ready = λ i hi. (h i hi).ready ∙ b.none_ready i hi;
}
  where
    h : (i : ℕ) → i < s.nodes → Ear3 s (c3 s r o i) w r.phase (w i) (ear3 s r o w i)
    h i hi = hear3 k s r o w ok i (b.always.counts i hi)

    new : (i v : ℕ) → i < s.nodes → s.nodes / 2 < (ear3 s r o w i).count
        → is_in (w i).vote v ≡ true → Locked s 0 (after3 s r o w) v
    new i v hi many g =
        let it = acknowledged k s r o w ok b i hi many in
        subst (Locked s 0 (after3 s r o w))
        (b.single i (least k (w i).vote) v hi it.1 g)
        (locked3 k s r o w (least k (w i).vote) ok b it.0)

pub record Ear4 (s : Setup) (w : World) (a b : Node) : Type 0 where
  pub x : b.x ≡ a.x
  pub stamp : b.stamp ≡ a.stamp
  pub count : b.count ≡ a.count
  pub newest : b.newest ≡ a.newest
  pub vote : b.vote ≡ a.vote
  pub ready : b.ready ≡ a.ready
  pub done : (v : ℕ) → is_in b.done v ≡ true → Locked s 0 w v

pub hear4 : (s : Setup) (f : ℕ) (o : ℕ → ℕ → Bool) (w : World) → Told s f w → (i : ℕ) → i < s.nodes
    → Ear4 s w (w i) (after4 s o w i)
hear4 s f o w b i hi = record {
  x = frame (λ b. b.x ≡ (w i).x) (λ j b h. h) refl;
  stamp = frame (λ b. b.stamp ≡ (w i).stamp) (λ j b h. h) refl;
  count = frame (λ b. b.count ≡ (w i).count) (λ j b h. h) refl;
  newest = frame (λ b. b.newest ≡ (w i).newest) (λ j b h. h) refl;
  vote = frame (λ b. b.vote ≡ (w i).vote) (λ j b h. h) refl;
  ready = frame (λ b. b.ready ≡ (w i).ready) (λ j b h. h) refl;
  done = kept (λ b. (v : ℕ) → is_in b.done v ≡ true → Locked s 0 w v) (λ j. take4) (c4 o w i)
      (λ j. message4 (w j)) 0 s.nodes (λ j lo hj t a h v g. b.always.decided j v (omega arith) g)
      (w i) (λ v g. b.always.decided i v hi g);
}
  where
    frame : (J : Node → Type 0) → ((j : ℕ) (b : Node) → J b → J (take4 (message4 (w j)) b))
        → J (w i) → J (after4 s o w i)
    frame J step h =
        kept J (λ j. take4) (c4 o w i) (λ j. message4 (w j)) 0 s.nodes
        (λ j lo hi t b g. step j b g) (w i) h

pub locked4 : (s : Setup) (f : ℕ) (o : ℕ → ℕ → Bool) (w : World) (v : ℕ) → Told s f w
    → Locked s 0 w v → Locked s 0 (after4 s o w) v
locked4 s f o w v b l =
    locked_same s 0 0 w (after4 s o w) v
    (λ i hi. let h = hear4 s f o w b i hi in (h.x, h.stamp)) l

pub step4 : (s : Setup) (f : ℕ) (o : ℕ → ℕ → Bool) (w : World) → Told s f w
    → Before s (f + 1) (after4 s o w)
step4 s f o w b = record {
  always = record {
    inputs = λ i hi. subst (IsInput s) (sym (h i hi).x) (b.always.inputs i hi);
    counts = λ i hi. (h i hi).count ∙ b.always.counts i hi;
    newest = λ i hi. (h i hi).newest ∙ b.always.newest i hi;
    decided = λ i v hi g. locked4 s f o w v b ((h i hi).done v g);
  };
  early = λ i hi. let le = b.early i hi in let e = (h i hi).stamp in omega arith;
  no_vote = λ i hi. (h i hi).vote ∙ b.no_vote i hi;
  none_ready = λ i hi. (h i hi).ready ∙ b.none_ready i hi;
}
  where
    h : (i : ℕ) → i < s.nodes → Ear4 s w (w i) (after4 s o w i)
    h i hi = hear4 s f o w b i hi

-- what holds before the round at a position of phase f
abbrev pub At : (k : ℕ) → Setup → (p f : ℕ) → World → Type 0
At k s zero f w = Before s f w
At k s (suc zero) f w = Voting s f w
At k s (suc (suc zero)) f w = Taken k s f w
At k s (suc (suc (suc p))) f w = Told s f w

abbrev pub Inv : (k : ℕ) → Setup → ℕ → World → Type 0
Inv k s r w = At k s (r % 4) (r / 4 + 1) w

pub always_of : (k : ℕ) (s : Setup) (p f : ℕ) (w : World) → At k s p f w → Always s w
always_of k s zero f w h = h.always
always_of k s (suc zero) f w h = h.always
always_of k s (suc (suc zero)) f w h = h.always
always_of k s (suc (suc (suc p))) f w h = h.always

one_on : (k : ℕ) (s : Setup) → Suits k s → (r p f : ℕ) (o : ℕ → ℕ → Bool) (w : World)
    → r % 4 ≡ p → r / 4 + 1 ≡ f → p < 4 → At k s p f w
    → At k s (suc r % 4) (suc r / 4 + 1)
    (next k s p (record { position = p; number = suc r; phase = f }) o w)
one_on k s ok r zero f o w a b l h =
    let e : suc r % 4 ≡ 1 = omega arith in
    let g : suc r / 4 + 1 ≡ f = omega arith in
    rw (e, g) (step1 k s (record { position = 0; number = suc r; phase = f }) o w ok h)
one_on k s ok r (suc zero) f o w a b l h =
    let e : suc r % 4 ≡ 2 = omega arith in
    let g : suc r / 4 + 1 ≡ f = omega arith in
    rw (e, g) (step2 k s (record { position = 1; number = suc r; phase = f }) o w ok h)
one_on k s ok r (suc (suc zero)) f o w a b l h =
    let e : suc r % 4 ≡ 3 = omega arith in
    let g : suc r / 4 + 1 ≡ f = omega arith in
    rw (e, g) (step3 k s (record { position = 2; number = suc r; phase = f }) o w ok h)
one_on k s ok r (suc (suc (suc p))) f o w a b l h =
    let e : suc r % 4 ≡ 0 = omega arith in
    let g : suc r / 4 + 1 ≡ f + 1 = omega arith in
    rw (e, g) (step4 s f o w h)

stays : (k : ℕ) (s : Setup) → Suits k s → (p number f : ℕ) (o : ℕ → ℕ → Bool) (w : World) (v : ℕ)
    → At k s p f w → Locked s 0 w v
    → Locked s 0 (next k s p (record { position = p; number = number; phase = f }) o w) v
stays k s ok zero number f o w v h l =
    locked1 k s (record { position = 0; number = number; phase = f }) o w v ok h l
stays k s ok (suc zero) number f o w v h l =
    locked2 k s (record { position = 1; number = number; phase = f }) o w v ok h l
stays k s ok (suc (suc zero)) number f o w v h l =
    locked3 k s (record { position = 2; number = number; phase = f }) o w v ok h l
stays k s ok (suc (suc (suc p))) number f o w v h l = locked4 s f o w v h l

pub rotating_coordinator_safe : (k : ℕ) (s : Setup) (omits : ℕ → ℕ → ℕ → Bool) (last : ℕ)
    (Counts : ℕ → ℕ → Type 0) → ((i r : ℕ) → Counts i r → i < s.nodes) → Suits k s
    → IsSafe (machine k s.nodes s.faults) s 4 omits last Counts decided (Inv k s)
    (λ r. Locked s 0)
rotating_coordinator_safe k s omits last Counts known ok = record {
  agreed = record {
    starts = first k s;
    goes_on = λ r w lt inv.
        subst (Inv k s (suc r)) (sym (next_is k s (r % 4) (suc r) (r / 4 + 1) (o r) w))
        (one_on k s ok r (r % 4) (r / 4 + 1) (o r) w refl refl (omega arith) inv);
    locks = λ r w i v le inv c d.
        (always_of k s (r % 4) (r / 4 + 1) w inv).decided i v (known i r c)
        (decided_in (w i).done v d);
    stays = λ r w v lt inv l.
        subst (λ z. Locked s 0 z v) (sym (next_is k s (r % 4) (suc r) (r / 4 + 1) (o r) w))
        (stays k s ok (r % 4) (suc r) (r / 4 + 1) (o r) w v inv l);
    one = λ r w v u le inv a b. one_locked s w v u a b;
  };
  valid = λ r w v le inv l.
      let it = holder s 0 w v l in
      subst (IsInput s) it.3 ((always_of k s (r % 4) (r / 4 + 1) w inv).inputs it.0 it.1);
}
  where
    o : ℕ → ℕ → ℕ → Bool
    o r i = omits i (suc r)

-- a set of decisions that isn't empty has a first one
pub some_decision : (k : ℕ) (s : Setup) (w : World) → Suits k s → Always s w → (j : ℕ)
    → j < s.nodes → 0 < size (w j).done → (u : ℕ) × (decided (w j) ≡ Some u)
some_decision k s w ok a j hj some =
    let v = some_member (w j).done some in
    let it = holder s 0 w v.0 (a.decided j v.0 hj v.1) in
    let lt = below k s ok v.0 (subst (IsInput s) it.3 (a.inputs it.0 it.1)) in
    some_first (w j).done v.0 (omega (arith, ok.small)) v.1

-- a node that has decided has some decision after each later round
keeps : (k : ℕ) (s : Setup) → Suits k s → (p number f : ℕ) (o : ℕ → ℕ → Bool) (w : World) (i v : ℕ)
    → At k s p f w → i < s.nodes → decided (w i) ≡ Some v
    → (u : ℕ) × (decided (next k s p (record { position = p; number = number; phase = f }) o w i)
    ≡ Some u)
keeps k s ok zero number f o w i v h hi d = (
  v,
  ap (λ z. first_member (members z))
      (hear1 k s (record { position = 0; number = number; phase = f }) o w ok i
      (h.always.counts i hi) (h.always.newest i hi)).done ∙ d,
)
keeps k s ok (suc zero) number f o w i v h hi d = (
  v,
  ap (λ z. first_member (members z))
      (hear2 k s (record { position = 1; number = number; phase = f }) o w i).done ∙ d,
)
keeps k s ok (suc (suc zero)) number f o w i v h hi d = by
    (nat_lt (s.nodes / 2) (ear3 s r o w i).count) refl
  where
    r : Round
    r = record { position = 2; number = number; phase = f }

    e : Ear3 s (c3 s r o i) w f (w i) (ear3 s r o w i)
    e = hear3 k s r o w ok i (h.always.counts i hi)

    by : (b : Bool) → nat_lt (s.nodes / 2) (ear3 s r o w i).count ≡ b
        → (u : ℕ) × (first_member (members (cond b (ear3 s r o w i).vote (ear3 s r o w i).done))
        ≡ Some u)
    by true t =
        let it = acknowledged k s r o w ok h i hi
        (ltb-true (s.nodes / 2) (ear3 s r o w i).count t) in
        let lt = (let p = holder s 0 w (least k (w i).vote) it.0 in
        below k s ok (least k (w i).vote) (subst (IsInput s) p.3 (h.always.inputs p.0 p.1))) in
        some_first (ear3 s r o w i).vote (least k (w i).vote) (omega (arith, ok.small))
        (subst (λ z. is_in z (least k (w i).vote) ≡ true) (sym e.vote) it.1)
    by false t = (v, ap (λ z. first_member (members z)) e.done ∙ d)
keeps k s ok (suc (suc (suc p))) number f o w i v h hi d =
    kept (λ b. (u : ℕ) × (decided b ≡ Some u)) (λ j. take4) (c4 o w i) (λ j. message4 (w j)) 0
    s.nodes
    (λ j lo hj t b g. some_decision k s w ok h.always j (omega arith)
    (ltb-true 0 (size (w j).done) (and_parts (not (o i j)) (nat_lt 0 (size (w j).done)) t).1))
    (w i) (v, d)

pub rotating_coordinator_kept : (k : ℕ) (s : Setup) (omits : ℕ → ℕ → ℕ → Bool) (last : ℕ)
    (Counts : ℕ → ℕ → Type 0) → ((i r : ℕ) → Counts i r → i < s.nodes) → Suits k s
    → IsKept (machine k s.nodes s.faults) s 4 omits last Counts decided (Inv k s)
rotating_coordinator_kept k s omits last Counts known ok = record {
  keeps = λ r w i v lt inv c d.
      subst (λ (z : World). (u : ℕ) × (decided (z i) ≡ Some u))
      (sym (next_is k s (r % 4) (suc r) (r / 4 + 1) (λ i. omits i (suc r)) w))
      (keeps k s ok (r % 4) (suc r) (r / 4 + 1) (λ i. omits i (suc r)) w i v inv
      (known i (suc r) c) d);
}
