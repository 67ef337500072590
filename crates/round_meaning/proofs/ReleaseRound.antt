-- The fourth round of a phase: locks are released for later ones.
use Rattle.std.proofs.Common.{◌≡◌, ℕ, ◌<◌, ◌≤◌, ◌≢◌, Bool, true, false, cond, refl, sym, ap, ◌∙◌}
use Rattle.std.proofs.Common.{subst, arith}
use Rattle.std.specs.Prelude.{◌&&◌, not, nat_lt, nat_le, slice_index, ◌==◌}
use Rattle.std.proofs.lemmas.Bool.{false≢true, and_parts, leb-true, ltb-true, eq-eqb}
use Rattle.round_lang.specs.declared.value.Value.{Value}
use Rattle.round_lang.specs.declared.value.Value.TheVariants.{Num}
use Rattle.round_lang.specs.Sets.{set_of, size}
use Rattle.round_lang.specs.Values.{num, flag, set, row}
use Rattle.round_meaning.proofs.PhaseSteps.{Setting, Node, Message, World, Suits, message4, take4}
use Rattle.round_meaning.proofs.PhaseSteps.{hears4, round4}
use Rattle.round_meaning.proofs.SetReading.{in_set_of, at_row, some_member}
use Rattle.round_meaning.proofs.Hearing.{kept}
use Rattle.round_meaning.proofs.LockInvariant.{IsInput, lock, Has, Locked, Before, below_values}
use Rattle.round_meaning.proofs.LockInvariant.{locked_along, proper_more}

record Frame (n₀ n : Node) : Type 0 where
  prop : n.prop ≡ n₀.prop
  lists : n.lists ≡ n₀.lists
  got : n.got ≡ n₀.got
  acks : n.acks ≡ n₀.acks
  done : n.done ≡ n₀.done

lower : (b : Bool) (x : ℕ) → num (cond b (Num 0) (Num x)) ≤ x
lower true x = omega arith
lower false x = omega arith

-- the test of a release of the lock on v, for a message with these locks
passes : Setting → Node → Value → ℕ → ℕ → Bool
passes s n l v = λ w. (not (w == v) && nat_lt 0 (slice_index (row l) w))
    && nat_le (lock n v) (slice_index (row l) w)

read : (s : Setting) (n : Node) (m : Message) (v : ℕ) → v < s.values
    → lock (take4 s n m) v
    ≡ num (cond (nat_lt 0 (size (set_of s.values (passes s n m.body v)))) (Num 0) (Num (lock n v)))
unfolding passes
read s n m v hv =
    at_row (λ v. num (cond (nat_lt 0 (size (set_of s.values (passes s n m.body v)))) (Num 0)
    (Num (lock n v)))) s.values v hv

falls : (s : Setting) (n : Node) (m : Message) (v : ℕ) → v < s.values
    → lock (take4 s n m) v ≤ lock n v
falls s n m v hv = subst (λ x. x ≤ lock n v) (sym (read s n m v hv)) (lower _ (lock n v))

-- a lock that no other reaches stays
holds : (s : Setting) (n : Node) (m : Message) (v k : ℕ) → v < s.values
    → ((u : ℕ) → u < s.values → u ≢ v → slice_index (row m.body) u < k) → k ≤ lock n v
    → k ≤ lock (take4 s n m) v
unfolding passes
holds s n m v k hv others le = subst (λ x. k ≤ x) (sym (read s n m v hv)) (go _ refl)
  where
    test : Bool
    test = nat_lt 0 (size (set_of s.values (passes s n m.body v)))

    go : (b : Bool) → test ≡ b → k ≤ num (cond b (Num 0) (Num (lock n v)))
    go true e =
        let r = some_member (set_of s.values (passes s n m.body v)) (ltb-true 0 _ e) in
        let p = in_set_of s.values (passes s n m.body v) r.0 r.1 in
        let both = and_parts _ _ p.1 in
        let far = (and_parts _ _ both.0).0 in
        let ne : r.0 ≢ v = λ same. false≢true (sym (ap not (eq-eqb r.0 v same)) ∙ far) in
        let lt = others r.0 p.0 ne in
        let ge = leb-true (lock n v) (slice_index (row m.body) r.0) both.1 in
        absurd (omega arith)
    go false e = le

less : (s : Setting) (w : World) (o : ℕ → Bool) (i v : ℕ) → v < s.values
    → lock (round4 s o w i) v ≤ lock (w i) v
less s w o i v hv =
    kept (λ n. lock n v ≤ lock (w i) v) (take4 s) (hears4 s o w) (λ j. message4 (w j)) 0 s.nodes
    (λ j lo hi t n h. let f = falls s n (message4 (w j)) v hv in omega arith)
    (w i) (omega arith)

pub locked4 : (s : Setting) (w : World) (o : ℕ → ℕ → Bool) (v k : ℕ) → v < s.values → Locked s w v k
    → Locked s (λ i. round4 s (o i) w i) v k
locked4 s w o v k hv l =
    locked_along s w (λ i. round4 s (o i) w i) v k
    (λ i hi le. kept (λ n. k ≤ lock n v) (take4 s) (hears4 s (o i) w)
    (λ j. message4 (w j)) 0 s.nodes
    (λ j lo hj t n h. holds s n (message4 (w j)) v k hv
    (λ u hu ne. l.others j u (omega arith) hu ne) h)
    (w i) le)
    (λ i u hi hu ne lt. let f = less s w (o i) i u hu in omega arith) l

pub step4 : (s : Setting) (inputs : ℕ → ℕ) (q : ℕ) (w : World) → Suits s inputs
    → Before s inputs q w → (o : ℕ → ℕ → Bool)
    → Before s inputs q (λ i. round4 s (o i) w i)
step4 s inputs q w ok b o = record {
  always = record {
    proper = λ i v hi. kept (λ n. (u : ℕ) → Has n.proper u
        → IsInput s inputs u) (take4 s) (hears4 s (o i) w) (λ j. message4 (w j)) 0 s.nodes
        (λ j lo hi t n h. proper_more s inputs w b.always.proper j (omega arith) (set n.proper) h)
        (w i) (λ u h. b.always.proper i u hi h) v;
    done = λ i v hi h. b.always.done i v hi (was_done i v h);
    decided = λ i v hi h.
        let d = b.always.decided i v hi (was_done i v h) in (
          d.0,
          d.1,
          locked4 s w o v d.0
              (below_values s inputs ok v (b.always.done i v hi (was_done i v h))) d.2,
        );
    lists = λ i v hi hv. ap (λ a. slice_index (row a) v) (same i).lists ∙ b.always.lists i v hi hv;
    acks = λ i hi. ap num (same i).acks ∙ b.always.acks i hi;
  };
  none = λ v a. b.none v (a.0, a.1, subst (λ p. Has p v) (same a.0).prop a.2);
  got = λ i hi. ap flag (same i).got ∙ b.got i hi;
  bound = λ i v hi hv. let f = less s w (o i) i v hv in omega (arith, b.bound i v hi hv);
}
  where
    w' : World
    w' = λ i. round4 s (o i) w i

    same : (i : ℕ) → Frame (w i) (w' i)
    same i =
        kept (Frame (w i)) (take4 s) (hears4 s (o i) w) (λ j. message4 (w j)) 0 s.nodes
        (λ j lo hi t n h. record {
          prop = h.prop;
          lists = h.lists;
          got = h.got;
          acks = h.acks;
          done = h.done;
        })
        (w i) (record { prop = refl; lists = refl; got = refl; acks = refl; done = refl })

    was_done : (i v : ℕ) → Has (w' i).done v → Has (w i).done v
    was_done i v h = subst (λ a. Has a v) (same i).done h

pub stays4 : (s : Setting) (w : World) (o : ℕ → Bool) (i v : ℕ) → Has (w i).done v
    → Has (round4 s o w i).done v
stays4 s w o i v h = kept (λ n. Has n.done v) (take4 s) (hears4 s o w)
    (λ j. message4 (w j)) 0 s.nodes (λ j lo hi t n h. h) (w i) h

pub was4 : (s : Setting) (w : World) (o : ℕ → Bool) (i v : ℕ) → Has (round4 s o w i).done v
    → Has (w i).done v
was4 s w o i v h = kept (λ n. Has n.done v
    → Has (w i).done v) (take4 s) (hears4 s o w) (λ j. message4 (w j)) 0 s.nodes
    (λ j lo hi t n h. h) (w i) (λ h. h) h
