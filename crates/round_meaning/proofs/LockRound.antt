-- The second round of a phase: nodes lock what is proposed.
use Rattle.std.proofs.Common.{◌≡◌, ℕ, ◌+◌, ◌<◌, ◌≤◌, ◌≢◌, Bool, true, false, cond, refl, sym, ap}
use Rattle.std.proofs.Common.{◌∙◌, subst, inl, inr, ◌⊎◌, arith}
use Rattle.std.specs.Prelude.{◌&&◌, not, nat_lt, slice_index}
use Rattle.std.proofs.lemmas.Bool.{false≢true, and_parts, and_from, ltb-true, lt-ltb}
use Rattle.round_lang.specs.declared.value.Value.TheVariants.{Num}
use Rattle.round_lang.specs.Sets.{is_in, size}
use Rattle.round_lang.specs.Values.{num, flag, set, row}
use Rattle.round_meaning.proofs.PhaseSteps.{Setting, Node, World, Suits, message2, take2, hears2}
use Rattle.round_meaning.proofs.PhaseSteps.{round2}
use Rattle.round_meaning.proofs.SetReading.{at_row, some_member}
use Rattle.round_meaning.proofs.Hearing.{kept, meet}
use Rattle.round_meaning.proofs.LockInvariant.{IsInput, lock, Has, Locked, IsProposed, Proposals}
use Rattle.round_meaning.proofs.LockInvariant.{Proposed, Locking, below_values, locked_along}
use Rattle.round_meaning.proofs.LockInvariant.{proper_more}

record Frame (n₀ n : Node) : Type 0 where
  prop : n.prop ≡ n₀.prop
  lists : n.lists ≡ n₀.lists
  acks : n.acks ≡ n₀.acks
  done : n.done ≡ n₀.done

-- what the messages so far did to the locks
record Locks (s : Setting) (w : World) (q : ℕ) (n₀ n : Node) : Type 0 where
  locks : (u : ℕ) → u < s.values → (lock n u ≡ lock n₀ u) ⊎ ((lock n u ≡ q + 1) × IsProposed s w u)
  got : flag n.got ≡ true → (v : ℕ) → IsProposed s w v → q + 1 ≤ lock n v

took : (b : Bool) (k x y : ℕ) → y ≡ num (cond b (Num k) (Num x)) → ((b ≡ true) × (y ≡ k)) ⊎ (y ≡ x)
took true k x y e = inl (refl, e)
took false k x y e = inr e

more_locks : (s : Setting) (inputs : ℕ → ℕ) (q : ℕ) (w : World) → Suits s inputs
    → Proposals s inputs w → (n₀ : Node) (j : ℕ) → j < s.nodes
    → nat_lt 0 (size (set (w j).prop)) ≡ true → (n : Node) → Locks s w q n₀ n
    → Locks s w q n₀ (take2 s (q + 1) n (message2 (w j)))
more_locks s inputs q w ok ps n₀ j hj some n h = record {
  locks = λ u hu. old u hu (took (test u) (q + 1) (lock n u) (lock n' u) (read u hu));
  got = λ t v pv.
      let e = ps.same v member.0 pv (j, hj, member.1) in
      let hv = below_values s inputs ok v (ps.valid v pv) in
      let on = and_from (nat_lt v s.values) (is_in (set (w j).prop) v) (lt-ltb v s.values hv)
      (subst (λ a. is_in (set (w j).prop) a ≡ true) (sym e) member.1) in
      new v hv on (took (test v) (q + 1) (lock n v) (lock n' v) (read v hv));
}
  where
    n' : Node
    n' = take2 s (q + 1) n (message2 (w j))

    test : ℕ → Bool
    test = λ u. nat_lt u s.values && is_in (set (w j).prop) u

    member : (v : ℕ) × (is_in (set (w j).prop) v ≡ true)
    member = some_member (set (w j).prop) (ltb-true 0 _ some)

    read : (u : ℕ) → u < s.values → lock n' u ≡ num (cond (test u) (Num (q + 1)) (Num (lock n u)))
    read u hu = at_row (λ u. num (cond (test u) (Num (q + 1)) (Num (lock n u)))) s.values u hu

    old : (u : ℕ) → u < s.values → ((test u ≡ true) × (lock n' u ≡ q + 1)) ⊎ (lock n' u ≡ lock n u)
        → (lock n' u ≡ lock n₀ u) ⊎ ((lock n' u ≡ q + 1) × IsProposed s w u)
    old u hu (inl t) = inr (t.1, (j, hj, (and_parts _ _ t.0).1))
    old u hu (inr e) = kept_old (h.locks u hu)
      where
        kept_old : (lock n u ≡ lock n₀ u) ⊎ ((lock n u ≡ q + 1) × IsProposed s w u)
            → (lock n' u ≡ lock n₀ u) ⊎ ((lock n' u ≡ q + 1) × IsProposed s w u)
        kept_old (inl x) = inl (e ∙ x)
        kept_old (inr x) = inr (e ∙ x.0, x.1)

    new : (v : ℕ) → v < s.values → test v ≡ true
        → ((test v ≡ true) × (lock n' v ≡ q + 1)) ⊎ (lock n' v ≡ lock n v) → q + 1 ≤ lock n' v
    new v hv on (inl t) = omega (arith, t.1)
    new v hv on (inr e) = let set_now : lock n' v ≡ q + 1 = read v hv
        ∙ ap (λ b. num (cond b (Num (q + 1)) (Num (lock n v)))) on in omega arith

after : (s : Setting) (inputs : ℕ → ℕ) (q : ℕ) (w : World) → Suits s inputs → Proposed s inputs q w
    → (o : ℕ → Bool) (i : ℕ) → i < s.nodes → Locks s w q (w i) (round2 s o (q + 1) w i)
after s inputs q w ok b o i hi =
    kept (Locks s w q (w i)) (take2 s (q + 1)) (hears2 o w) (λ j. message2 (w j)) 0 s.nodes
    (λ j lo hj t n h. more_locks s inputs q w ok b.proposals (w i) j (omega arith)
    (and_parts (not (o j)) (nat_lt 0 (size (set (w j).prop))) t).1 n h)
    (w i) (record {
      locks = λ u hu. inl refl;
      got = λ g v a. absurd (false≢true (sym (b.got i hi) ∙ g));
    })

-- a lock on another value would have been in the way of the proposal
pub locked2 : (s : Setting) (inputs : ℕ → ℕ) (q : ℕ) (w : World) → Suits s inputs
    → Proposed s inputs q w → (o : ℕ → ℕ → Bool)
    (v k : ℕ) → 0 < k → v < s.values → Locked s w v k
    → Locked s (λ i. round2 s (o i) (q + 1) w i) v k
locked2 s inputs q w ok b o v k pos hv l =
    locked_along s w w' v k
    (λ j hj le. up j hj le ((locks j hj).locks v hv))
    (λ j u hj hu ne lt. down j u hj hu ne lt ((locks j hj).locks u hu)) l
  where
    w' : World
    w' = λ i. round2 s (o i) (q + 1) w i

    locks : (i : ℕ) → i < s.nodes → Locks s w q (w i) (w' i)
    locks i hi = after s inputs q w ok b (o i) i hi

    up : (j : ℕ) → j < s.nodes → k ≤ lock (w j) v
        → (lock (w' j) v ≡ lock (w j) v) ⊎ ((lock (w' j) v ≡ q + 1) × IsProposed s w v)
        → k ≤ lock (w' j) v
    up j hj le (inl e) = omega arith
    up j hj le (inr e) = omega (arith, b.bound j v hj hv)

    down : (j u : ℕ) → j < s.nodes → u < s.values → u ≢ v → lock (w j) u < k
        → (lock (w' j) u ≡ lock (w j) u) ⊎ ((lock (w' j) u ≡ q + 1) × IsProposed s w u)
        → lock (w' j) u < k
    down j u hj hu ne lt (inl e) = omega arith
    down j u hj hu ne lt (inr e) =
        let sup = b.support u e.1 in
        let m = meet sup.0 l.holders 0 s.nodes (omega (arith, sup.1, l.many, ok.faults)) in
        let held = l.hold m.0 (omega arith) m.4 in
        let free = sup.2 m.0 v (omega arith) m.3 hv (λ e. ne (sym e)) in
        absurd (omega arith)

pub step2 : (s : Setting) (inputs : ℕ → ℕ) (q : ℕ) (w : World) → Suits s inputs
    → Proposed s inputs q w → (o : ℕ → ℕ → Bool)
    → Locking s inputs q (λ i. round2 s (o i) (q + 1) w i)
step2 s inputs q w ok b o = record {
  always = record {
    proper = λ i v hi. kept (λ n. (u : ℕ) → Has n.proper u
        → IsInput s inputs u) (take2 s (q + 1)) (hears2 (o i) w) (λ j. message2 (w j)) 0 s.nodes
        (λ j lo hi t n h. proper_more s inputs w b.always.proper j (omega arith) (set n.proper) h)
        (w i) (λ u h. b.always.proper i u hi h) v;
    done = λ i v hi h. b.always.done i v hi (was_done i v h);
    decided = λ i v hi h.
        let d = b.always.decided i v hi (was_done i v h) in (
          d.0,
          d.1,
          locked2 s inputs q w ok b o v d.0 d.1
              (below_values s inputs ok v (b.always.done i v hi (was_done i v h))) d.2,
        );
    lists = λ i v hi hv. ap (λ a. slice_index (row a) v) (same i).lists ∙ b.always.lists i v hi hv;
    acks = λ i hi. ap num (same i).acks ∙ b.always.acks i hi;
  };
  proposals = record {
    same = λ v u a c. b.proposals.same v u (was_proposed v a) (was_proposed u c);
    valid = λ v a. b.proposals.valid v (was_proposed v a);
  };
  bound = λ i v hi hv. bounded i v hi hv ((locks i hi).locks v hv);
  got_locks = λ j v hj g a. (locks j hj).got g v (was_proposed v a);
  new_locks = λ j u hj hu le. fresh j u hj hu le ((locks j hj).locks u hu);
}
  where
    w' : World
    w' = λ i. round2 s (o i) (q + 1) w i

    same : (i : ℕ) → Frame (w i) (w' i)
    same i =
        kept (Frame (w i)) (take2 s (q + 1)) (hears2 (o i) w) (λ j. message2 (w j)) 0 s.nodes
        (λ j lo hi t n h. record { prop = h.prop; lists = h.lists; acks = h.acks; done = h.done })
        (w i) (record { prop = refl; lists = refl; acks = refl; done = refl })

    locks : (i : ℕ) → i < s.nodes → Locks s w q (w i) (w' i)
    locks i hi = after s inputs q w ok b (o i) i hi

    was_done : (i v : ℕ) → Has (w' i).done v → Has (w i).done v
    was_done i v h = subst (λ a. Has a v) (same i).done h

    was_proposed : (v : ℕ) → IsProposed s w' v → IsProposed s w v
    was_proposed v a = (a.0, a.1, subst (λ p. Has p v) (same a.0).prop a.2)

    bounded : (i v : ℕ) → i < s.nodes → v < s.values
        → (lock (w' i) v ≡ lock (w i) v) ⊎ ((lock (w' i) v ≡ q + 1) × IsProposed s w v)
        → lock (w' i) v ≤ q + 1
    bounded i v hi hv (inl e) = omega (arith, b.bound i v hi hv)
    bounded i v hi hv (inr e) = omega arith

    fresh : (j u : ℕ) → j < s.nodes → u < s.values → q + 1 ≤ lock (w' j) u
        → (lock (w' j) u ≡ lock (w j) u) ⊎ ((lock (w' j) u ≡ q + 1) × IsProposed s w u)
        → IsProposed s w' u
    fresh j u hj hu le (inl e) = absurd (omega (arith, b.bound j u hj hu))
    fresh j u hj hu le (inr e) = (e.1.0, e.1.1, subst (λ p. Has p u) (sym (same e.1.0).prop) e.1.2)

pub stays2 : (s : Setting) (w : World) (o : ℕ → Bool) (k i v : ℕ) → Has (w i).done v
    → Has (round2 s o k w i).done v
stays2 s w o k i v h = kept (λ n. Has n.done v) (take2 s k) (hears2 o w)
    (λ j. message2 (w j)) 0 s.nodes (λ j lo hi t n h. h) (w i) h

pub was2 : (s : Setting) (w : World) (o : ℕ → Bool) (k i v : ℕ) → Has (round2 s o k w i).done v
    → Has (w i).done v
was2 s w o k i v h = kept (λ n. Has n.done v
    → Has (w i).done v) (take2 s k) (hears2 o w) (λ j. message2 (w j)) 0 s.nodes
    (λ j lo hi t n h. h) (w i) (λ h. h) h
