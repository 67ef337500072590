-- Algorithm 1 whose nodes send in every fourth round is safe. The first three rounds keep what
-- Algorithm 1's do, and so does the fourth, whoever is heard in it.
use Rattle.std.proofs.Common.{◌≡◌, ◌≢◌, ℕ, zero, suc, ◌+◌, ◌%◌, ◌/◌, ◌<◌, ◌≤◌, Bool, true, false}
use Rattle.std.proofs.Common.{cond, refl, sym, ap, ◌∙◌, subst, Some, arith}
use Rattle.std.specs.Prelude.{not, slice_index}
use Rattle.std.proofs.lemmas.Bool.{and_parts, eq-eqb, false≢true, leb-true, ltb-true}
use Rattle.std.proofs.lemmas.List.{get_or-replicate}
use Rattle.round_lang.specs.declared.value.Value.TheVariants.{Num}
use Rattle.round_lang.specs.Sets.{set_of}
use Rattle.round_lang.specs.Values.{flag, num, row, set}
use Rattle.round_meaning.specs.declared.setup.Setup.{Setup}
use Rattle.round_meaning.proofs.DecisionRound.{locked3, stays3, step3}
use Rattle.round_meaning.proofs.Hearing.{kept}
use Rattle.round_meaning.proofs.LockInvariant.{Before, Has, IsInput, Locked, below_values, lock}
use Rattle.round_meaning.proofs.LockInvariant.{locked_along, one_decided, proper_more}
use Rattle.round_meaning.proofs.LockRound.{locked2, stays2, step2}
use Rattle.round_meaning.proofs.PhaseRuns as phases
use Rattle.round_meaning.proofs.PhaseSteps.{Message, Node, Setting, Suits, World, message4}
use Rattle.round_meaning.proofs.PhaseSteps.{node_decision, start, take4}
use Rattle.round_meaning.proofs.ProposalRound.{locked1, stays1, step1}
use Rattle.round_meaning.proofs.SetReading.{decided_in, in_only, in_set_of, none_in, some_member}
use Rattle.round_proofs.specs.Safety.{IsKept, IsSafe}
use Rattle.round_proofs.proofs.SetSizes.{only_itself, some_first}
use Rattle.shelf_proofs.proofs.Algorithm1Kept.{Knows, knows1, knows2, knows3, knows4, more1, more2}
use Rattle.shelf_proofs.proofs.Algorithm1Kept.{more3, more4, passes, read4, release, test4}
use Rattle.shelf_proofs.proofs.Algorithm1Phase.{less4}
use Rattle.shelf_proofs.proofs.EagerAlgorithm1Steps.{machine, next, next_is, unless}

-- the variables that the fourth round doesn't change
record Same (a b : Node) : Type 0 where
  prop : b.prop ≡ a.prop
  lists : b.lists ≡ a.lists
  got : b.got ≡ a.got
  acks : b.acks ≡ a.acks
  done : b.done ≡ a.done

-- a lock that no other reaches stays
holds4 : (s : Setting) (n : Node) (m : Message) (v k : ℕ) → v < s.values
    → ((u : ℕ) → u < s.values → u ≢ v → slice_index (row m.body) u < k) → k ≤ lock n v
    → k ≤ lock (take4 s n m) v
unfolding test4
holds4 s n m v k hv others le = subst (λ x. k ≤ x) (sym (read4 s n m v hv))
    (go (test4 s n m v) refl)
  where
    go : (b : Bool) → test4 s n m v ≡ b → k ≤ num (cond b (Num 0) (Num (lock n v)))
    go true e =
        let r = some_member (set_of s.values (passes s n m v)) (ltb-true 0 _ e) in
        let p = in_set_of s.values (passes s n m v) r.0 r.1 in
        let both = and_parts _ _ p.1 in
        let far = (and_parts _ _ both.0).0 in
        let ne : r.0 ≢ v = λ same. false≢true (sym (ap not (eq-eqb r.0 v same)) ∙ far) in
        let lt = others r.0 p.0 ne in
        let ge = leb-true (lock n v) (slice_index (row m.body) r.0) both.1 in
        absurd (omega arith)
    go false e = le

locked4 : (s : Setting) (w : World) (c : ℕ → ℕ → Bool) (v k : ℕ) → v < s.values → Locked s w v k
    → Locked s (λ i. release s (c i) w i) v k
locked4 s w c v k hv l =
    locked_along s w (λ i. release s (c i) w i) v k
    (λ i hi le. kept (λ n. k ≤ lock n v) (take4 s) (c i) (λ j. message4 (w j)) 0 s.nodes
    (λ j lo hj t n h. holds4 s n (message4 (w j)) v k hv
    (λ u hu ne. l.others j u (omega arith) hu ne) h) (w i) le)
    (λ i u hi hu ne lt. let f = less4 s w (c i) i u hu in omega arith) l

stays4 : (s : Setting) (w : World) (c : ℕ → Bool) (i v : ℕ) → Has (w i).done v
    → Has (release s c w i).done v
stays4 s w c i v h =
    kept (λ n. Has n.done v) (take4 s) c (λ j. message4 (w j)) 0 s.nodes (λ j lo hj t n g. g) (w i)
    h

step4 : (s : Setting) (inputs : ℕ → ℕ) (q : ℕ) (w : World) → Suits s inputs → Before s inputs q w
    → (c : ℕ → ℕ → Bool) → Before s inputs q (λ i. release s (c i) w i)
step4 s inputs q w ok b c = record {
  always = record {
    proper = λ i v hi. kept (λ n. (u : ℕ) → Has n.proper u → IsInput s inputs u) (take4 s) (c i)
        (λ j. message4 (w j)) 0 s.nodes
        (λ j lo hj t n h. proper_more s inputs w b.always.proper j (omega arith) (set n.proper) h)
        (w i) (λ u h. b.always.proper i u hi h) v;
    done = λ i v hi h. b.always.done i v hi (was_done i v h);
    decided = λ i v hi h.
        let d = b.always.decided i v hi (was_done i v h) in (
          d.0,
          d.1,
          locked4 s w c v d.0
              (below_values s inputs ok v (b.always.done i v hi (was_done i v h))) d.2,
        );
    lists = λ i v hi hv. ap (λ a. slice_index (row a) v) (same i).lists ∙ b.always.lists i v hi hv;
    acks = λ i hi. ap num (same i).acks ∙ b.always.acks i hi;
  };
  none = λ v a. b.none v (a.0, a.1, subst (λ p. Has p v) (same a.0).prop a.2);
  got = λ i hi. ap flag (same i).got ∙ b.got i hi;
  bound = λ i v hi hv. let f = less4 s w (c i) i v hv in omega (arith, b.bound i v hi hv);
}
  where
    z : World
    z i = release s (c i) w i

    same : (i : ℕ) → Same (w i) (z i)
    same i =
        kept (Same (w i)) (take4 s) (c i) (λ j. message4 (w j)) 0 s.nodes
        (λ j lo hj t n h. record {
          prop = h.prop;
          lists = h.lists;
          got = h.got;
          acks = h.acks;
          done = h.done;
        })
        (w i) (record { prop = refl; lists = refl; got = refl; acks = refl; done = refl })

    was_done : (i v : ℕ) → Has (z i).done v → Has (w i).done v
    was_done i v h = subst (λ a. Has a v) (same i).done h

-- what holds after r rounds: Algorithm 1's invariant, and a node knows its own input and what it
-- has locked or proposes
pub record Inv (s : Setting) (inputs : ℕ → ℕ) (r : ℕ) (w : World) : Type 0 where
  pub phase : phases.Inv s inputs (r % 4) (r / 4) w
  pub knows : Knows s w
  pub own : (i : ℕ) → i < s.nodes → Has (w i).proper (inputs i)

-- v is some node's input, and is locked in some phase
pub record IsLocked (s : Setting) (inputs : ℕ → ℕ) (r : ℕ) (w : World) (v : ℕ) : Type 0 where
  pub input : IsInput s inputs v
  pub phase : ℕ
  pub some : 0 < phase
  pub locked : Locked s w v phase

phase_on : (s : Setting) (inputs : ℕ → ℕ) → Suits s inputs
    → (r p q : ℕ) (w : World) (o : ℕ → ℕ → Bool) → r % 4 ≡ p → r / 4 ≡ q → p < 4
    → phases.Inv s inputs p q w
    → phases.Inv s inputs (suc r % 4) (suc r / 4) (next s p (q + 1) o w)
phase_on s inputs ok r zero q w o a b l h =
    let e : suc r % 4 ≡ 1 = omega arith in
    let f : suc r / 4 ≡ q = omega arith in
    rw (e, f) (step1 s inputs q w ok h o (q + 1))
phase_on s inputs ok r (suc zero) q w o a b l h =
    let e : suc r % 4 ≡ 2 = omega arith in
    let f : suc r / 4 ≡ q = omega arith in
    rw (e, f) (step2 s inputs q w ok h o)
phase_on s inputs ok r (suc (suc zero)) q w o a b l h =
    let e : suc r % 4 ≡ 3 = omega arith in
    let f : suc r / 4 ≡ q = omega arith in
    rw (e, f) (step3 s inputs q w ok h o (q + 1)).0
phase_on s inputs ok r (suc (suc (suc p))) q w o a b l h =
    let e : suc r % 4 ≡ 0 = omega arith in
    let f : suc r / 4 ≡ q + 1 = omega arith in
    rw (e, f) (step4 s inputs (q + 1) w ok h (λ i. unless (o i)))

knows_on : (s : Setting) (inputs : ℕ → ℕ) (p k : ℕ) (w : World) → Suits s inputs
    → ((i u : ℕ) → i < s.nodes → u < s.values → slice_index (row (w i).lists) u ≡ 0) → Knows s w
    → (o : ℕ → ℕ → Bool) → Knows s (next s p k o w)
knows_on s inputs zero k w ok none h o = knows1 s inputs w ok none h o k
knows_on s inputs (suc zero) k w ok none h o = knows2 s w ok.values h o k
knows_on s inputs (suc (suc zero)) k w ok none h o = knows3 s w ok.values h o k
knows_on s inputs (suc (suc (suc p))) k w ok none h o = knows4 s w ok.values h (λ i. unless (o i))

more_on : (s : Setting) (p k : ℕ) (w : World) (o : ℕ → ℕ → Bool) (i v : ℕ) → v < 64
    → Has (w i).proper v → Has (next s p k o w i).proper v
more_on s zero k w o i v l h = more1 s w (o i) k i v l h
more_on s (suc zero) k w o i v l h = more2 s w (o i) k i v l h
more_on s (suc (suc zero)) k w o i v l h = more3 s w (o i) k i v l h
more_on s (suc (suc (suc p))) k w o i v l h = more4 s w (unless (o i)) i v l h

stays_on : (s : Setting) (p k : ℕ) (w : World) (o : ℕ → ℕ → Bool) (i v : ℕ) → v < 64
    → Has (w i).done v → Has (next s p k o w i).done v
stays_on s zero k w o i v l h = stays1 s w (o i) k i v h
stays_on s (suc zero) k w o i v l h = stays2 s w (o i) k i v h
stays_on s (suc (suc zero)) k w o i v l h = stays3 s w (o i) k i v l h
stays_on s (suc (suc (suc p))) k w o i v l h = stays4 s w (unless (o i)) i v h

locked_on : (s : Setting) (inputs : ℕ → ℕ) → Suits s inputs
    → (p q : ℕ) (w : World) (o : ℕ → ℕ → Bool) → phases.Inv s inputs p q w
    → (v k : ℕ) → 0 < k → v < s.values → Locked s w v k → Locked s (next s p (q + 1) o w) v k
locked_on s inputs ok zero q w o h v k pos hv l = locked1 s w o (q + 1) v k l
locked_on s inputs ok (suc zero) q w o h v k pos hv l = locked2 s inputs q w ok h o v k pos hv l
locked_on s inputs ok (suc (suc zero)) q w o h v k pos hv l = locked3 s w o (q + 1) v k l
locked_on s inputs ok (suc (suc (suc p))) q w o h v k pos hv l =
    locked4 s w (λ i. unless (o i)) v k hv l

goes_on : (s : Setting) (inputs : ℕ → ℕ) → Suits s inputs → (r : ℕ) (w : World)
    (o : ℕ → ℕ → Bool) → Inv s inputs r w
    → Inv s inputs (suc r) (next s (r % 4) (r / 4 + 1) o w)
goes_on s inputs ok r w o inv = record {
  phase = phase_on s inputs ok r (r % 4) (r / 4) w o refl refl (omega arith) inv.phase;
  knows = knows_on s inputs (r % 4) (r / 4 + 1) w ok
      (phases.always_of s inputs (r % 4) (r / 4) w inv.phase).lists inv.knows o;
  own = λ i hi.
      let l = ok.inputs_in i hi in
      let m = ok.values in
      more_on s (r % 4) (r / 4 + 1) w o i (inputs i) (omega arith) (inv.own i hi);
}

pub first : (s : Setting) (inputs : ℕ → ℕ) → Suits s inputs
    → Inv s inputs 0 (λ i. start s (inputs i))
first s inputs ok = record {
  phase = record {
    always = record {
      proper = λ i v hi h. (i, hi, sym (in_only s.values (inputs i) v h).1);
      done = λ i v hi h. absurd (none_in v h);
      decided = λ i v hi h. absurd (none_in v h);
      lists = λ i v hi hv. get_or-replicate s.values v 0 0 hv;
      acks = λ i hi. refl;
    };
    none = λ v a. none_in v a.2;
    got = λ i hi. refl;
    bound = λ i v hi hv. let e = no_lock i v hv in omega arith;
  };
  knows = record {
    locks = λ i u hi hu some. absurd (let e = no_lock i u hu in omega arith);
    props = λ i u hi hu p. absurd (none_in u p);
  };
  own = λ i hi. only_itself s.values (inputs i) (ok.inputs_in i hi);
}
  where
    no_lock : (i v : ℕ) → v < s.values → lock (start s (inputs i)) v ≡ 0
    no_lock i v hv = get_or-replicate s.values v 0 0 hv

-- the setting of a setup over k values
abbrev pub setting : ℕ → Setup → Setting
setting k s = record { values = k; nodes = s.nodes; faults = s.faults }

pub eager_safe : (k : ℕ) (s : Setup) (omits : ℕ → ℕ → ℕ → Bool) (last : ℕ)
    (Counts : ℕ → ℕ → Type 0) → ((i r : ℕ) → Counts i r → i < s.nodes)
    → Suits (setting k s) (slice_index s.inputs)
    → IsSafe (machine k s.nodes s.faults) s 4 omits last Counts node_decision
    (Inv (setting k s) (slice_index s.inputs)) (IsLocked (setting k s) (slice_index s.inputs))
eager_safe k s omits last Counts known ok = record {
  agreed = record {
    starts = first z inputs ok;
    goes_on = λ r w lt inv.
        subst (Inv z inputs (suc r)) (sym (next_is z (r % 4) (suc r) (r / 4 + 1) (o r) w))
        (goes_on z inputs ok r w (o r) inv);
    locks = λ r w i v le inv c d.
        let always = phases.always_of z inputs (r % 4) (r / 4) w inv.phase in
        let has = decided_in (set (w i).done) v d in
        let it = always.decided i v (known i r c) has in
        record {
          input = always.done i v (known i r c) has;
          phase = it.0;
          some = it.1;
          locked = it.2;
        };
    stays = λ r w v lt inv l.
        subst (λ f. IsLocked z inputs (suc r) f v)
        (sym (next_is z (r % 4) (suc r) (r / 4 + 1) (o r) w))
        (record {
          input = l.input;
          phase = l.phase;
          some = l.some;
          locked = locked_on z inputs ok (r % 4) (r / 4) w (o r) inv.phase v l.phase l.some
              (below_values z inputs ok v l.input) l.locked;
        });
    one = λ r w v u le inv a b.
        one_decided z w v u a.phase b.phase (below_values z inputs ok v a.input)
        (below_values z inputs ok u b.input) a.locked b.locked;
  };
  valid = λ r w v le inv l. l.input;
}
  where
    z : Setting
    z = setting k s

    inputs : ℕ → ℕ
    inputs = slice_index s.inputs

    o : ℕ → ℕ → ℕ → Bool
    o r i = omits i (suc r)

pub eager_kept : (k : ℕ) (s : Setup) (omits : ℕ → ℕ → ℕ → Bool) (last : ℕ)
    (Counts : ℕ → ℕ → Type 0) → ((i r : ℕ) → Counts i r → i < s.nodes)
    → Suits (setting k s) (slice_index s.inputs)
    → IsKept (machine k s.nodes s.faults) s 4 omits last Counts node_decision
    (Inv (setting k s) (slice_index s.inputs))
eager_kept k s omits last Counts known ok = record {
  keeps = λ r w i v lt inv c d.
      let always = phases.always_of z inputs (r % 4) (r / 4) w inv.phase in
      let has = decided_in (set (w i).done) v d in
      let l = below_values z inputs ok v (always.done i v (known i (suc r) c) has) in
      let m = ok.values in
      subst (λ (f : World). (u : ℕ) × (node_decision (f i) ≡ Some u))
      (sym (next_is z (r % 4) (suc r) (r / 4 + 1) (λ i. omits i (suc r)) w))
      (some_first (set (next z (r % 4) (r / 4 + 1) (λ i. omits i (suc r)) w i).done) v (omega arith)
      (stays_on z (r % 4) (r / 4 + 1) w (λ i. omits i (suc r)) i v (omega arith) has));
}
  where
    z : Setting
    z = setting k s

    inputs : ℕ → ℕ
    inputs = slice_index s.inputs
