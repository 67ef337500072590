-- The third round of a phase: the owner decides.
use Rattle.std.proofs.Common.{◌≡◌, ℕ, ◌+◌, ◌<◌, ◌≤◌, ◌≢◌, min, Bool, true, false, cond, refl, sym}
use Rattle.std.proofs.Common.{ap, ◌∙◌, subst, inl, inr, ◌⊎◌, arith}
use Rattle.std.specs.Prelude.{◌&&◌, not, nat_le, slice_index, ◌==◌}
use Rattle.std.specs.List.{range_with_len}
use Rattle.std.proofs.lemmas.Bool.{cases_lt, false≢true, and_parts, eqb-true, leb-true}
use Rattle.round_lang.specs.declared.value.Value.{Value}
use Rattle.round_lang.specs.Sets.{size}
use Rattle.round_lang.specs.Values.{num, flag, set, row}
use Rattle.round_meaning.proofs.PhaseSteps.{Setting, Node, World, Suits, hear, owner, message3}
use Rattle.round_meaning.proofs.PhaseSteps.{take3, hears3, round3}
use Rattle.round_meaning.proofs.SetReading.{none_in, member-size}
use Rattle.round_meaning.proofs.Hearing.{count, kept, counted}
use Rattle.round_meaning.proofs.LockInvariant.{IsInput, lock, Has, Locked, Before, Locking}
use Rattle.round_meaning.proofs.LockInvariant.{locked_same, proper_more}

record Frame (n₀ n : Node) : Type 0 where
  locks : n.locks ≡ n₀.locks
  lists : n.lists ≡ n₀.lists
  prop : n.prop ≡ n₀.prop
  done : n.done ≡ n₀.done

one_more : (x : ℕ) (c : Bool) → c ≡ true → min (x + 1) 4294967295 ≤ x + cond c 1 0
one_more x true e = omega arith
one_more x false e = absurd (false≢true e)

in_choice : (b : Bool) (p d : Value) (v : ℕ) → Has (cond b p d) v → ((b ≡ true) × Has p v) ⊎ Has d v
in_choice true p d v h = inl (refl, h)
in_choice false p d v h = inr h

pub step3 : (s : Setting) (inputs : ℕ → ℕ) (q : ℕ) (w : World) → Suits s inputs
    → Locking s inputs q w → (o : ℕ → ℕ → Bool) (k : ℕ)
    → Before s inputs (q + 1) (λ i. round3 s (o i) k w i)
    × ((i v : ℕ) → i < s.nodes → Has (round3 s (o i) k w i).done v
    → Has (w i).done v ⊎ Locked s (λ i. round3 s (o i) k w i) v (q + 1))
step3 s inputs q w ok b o k = (
  record {
    always = record {
      proper = λ i v hi. kept (λ n. (u : ℕ) → Has n.proper u
          → IsInput s inputs u) take3 (hears3 s (o i) w k i) (λ j. message3 (w j)) 0 s.nodes
          (λ j lo hi t n h. proper_more s inputs w b.always.proper j (omega arith) (set n.proper) h)
          (w i) (λ u h. b.always.proper i u hi h) v;
      done = λ i v hi h. valid i v hi (cases i v h);
      decided = λ i v hi h. held i v hi (cases i v h);
      lists = λ i v hi hv. ap (λ a. slice_index (row a) v) (same i).lists
          ∙ b.always.lists i v hi hv;
      acks = λ i hi. refl;
    };
    none = λ v a. none_in v a.2;
    got = λ i hi. refl;
    bound = λ i v hi hv. subst (λ a. slice_index (row a) v ≤ q + 1) (sym (same i).locks)
        (b.bound i v hi hv);
  },
  λ i v hi h. fresh i v hi (cases i v h),
)
  where
    w' : World
    w' = λ i. round3 s (o i) k w i

    n : ℕ → Node
    n = λ i. hear take3 (hears3 s (o i) w k i) (λ j. message3 (w j)) (range_with_len 0 s.nodes)
        (w i)

    same : (i : ℕ) → Frame (w i) (n i)
    same i =
        kept (Frame (w i)) take3 (hears3 s (o i) w k i) (λ j. message3 (w j)) 0 s.nodes
        (λ j lo hi t n h. record { locks = h.locks; lists = h.lists; prop = h.prop; done = h.done })
        (w i) (record { locks = refl; lists = refl; prop = refl; done = refl })

    acks : (i : ℕ) → num (n i).acks ≤ num (w i).acks + count (λ j. flag (w j).got) 0 s.nodes
    acks i =
        counted (λ n. num n.acks) (λ j. flag (w j).got) take3 (hears3 s (o i) w k i)
        (λ j. message3 (w j)) 0 s.nodes
        (λ j t n. one_more (num n.acks) (flag (w j).got)
        (and_parts (flag (w j).got) (i == owner s k)
        (and_parts (not (o i j)) (flag (w j).got && (i == owner s k)) t).1).0)
        (w i)

    enough : ℕ → Bool
    enough = λ i. (size (set (n i).done) == 0)
        && nat_le (min (s.faults + 1) 4294967295) (num (n i).acks)

    cases : (i v : ℕ) → Has (w' i).done v → ((enough i ≡ true) × Has (w i).prop v)
        ⊎ Has (w i).done v
    cases i v h = back (in_choice (enough i) (n i).prop (n i).done v h)
      where
        back : ((enough i ≡ true) × Has (n i).prop v) ⊎ Has (n i).done v
            → ((enough i ≡ true) × Has (w i).prop v) ⊎ Has (w i).done v
        back (inl x) = inl (x.0, subst (λ a. Has a v) (same i).prop x.1)
        back (inr x) = inr (subst (λ a. Has a v) (same i).done x)

    valid : (i v : ℕ) → i < s.nodes → ((enough i ≡ true) × Has (w i).prop v) ⊎ Has (w i).done v
        → IsInput s inputs v
    valid i v hi (inl x) = b.proposals.valid v (i, hi, x.1)
    valid i v hi (inr x) = b.always.done i v hi x

    -- those who acknowledged hold the lock
    chosen : (i v : ℕ) → i < s.nodes → enough i ≡ true → Has (w i).prop v → Locked s w v (q + 1)
    chosen i v hi e p = record {
      holders = λ j. flag (w j).got;
      many =
          let test = leb-true (min (s.faults + 1) 4294967295) (num (n i).acks)
          (and_parts (size (set (n i).done) == 0)
          (nat_le (min (s.faults + 1) 4294967295) (num (n i).acks)) e).1 in
          omega (arith, acks i, b.always.acks i hi, ok.faults, ok.nodes);
      hold = λ j hj g. b.got_locks j v hj g (i, hi, p);
      others = λ j u hj hu ne. go j u hj hu ne (cases_lt (lock (w j) u) (q + 1));
    }
      where
        go : (j u : ℕ) → j < s.nodes → u < s.values → u ≢ v
            → (lock (w j) u < q + 1) ⊎ (q + 1 ≤ lock (w j) u) → lock (w j) u < q + 1
        go j u hj hu ne (inl l) = l
        go j u hj hu ne (inr l) =
            absurd (ne (b.proposals.same u v (b.new_locks j u hj hu l) (i, hi, p)))

    held : (i v : ℕ) → i < s.nodes → ((enough i ≡ true) × Has (w i).prop v) ⊎ Has (w i).done v
        → (k : ℕ) × (0 < k) × Locked s w' v k
    held i v hi (inl x) = (
      q + 1,
      omega arith,
      locked_same s w w' v (q + 1) (λ j hj. (same j).locks) (chosen i v hi x.0 x.1),
    )
    held i v hi (inr x) =
        let d = b.always.decided i v hi x in
        (d.0, d.1, locked_same s w w' v d.0 (λ j hj. (same j).locks) d.2)

    fresh : (i v : ℕ) → i < s.nodes → ((enough i ≡ true) × Has (w i).prop v) ⊎ Has (w i).done v
        → Has (w i).done v ⊎ Locked s w' v (q + 1)
    fresh i v hi (inl x) =
        inr (locked_same s w w' v (q + 1) (λ j hj. (same j).locks) (chosen i v hi x.0 x.1))
    fresh i v hi (inr x) = inl x

-- a decision stays
pub stays3 : (s : Setting) (w : World) (o : ℕ → Bool) (k i v : ℕ) → v < 64 → Has (w i).done v
    → Has (round3 s o k w i).done v
stays3 s w o k i v small h = go _ refl
  where
    n : Node
    n = hear take3 (hears3 s o w k i) (λ j. message3 (w j)) (range_with_len 0 s.nodes) (w i)

    same : n.done ≡ (w i).done
    same = kept (λ n. n.done ≡ (w i).done) take3 (hears3 s o w k i) (λ j. message3 (w j)) 0 s.nodes
        (λ j lo hi t n h. h) (w i) refl

    still : Has n.done v
    still = subst (λ a. Has a v) (sym same) h

    go : (b : Bool)
        → ((size (set n.done) == 0) && nat_le (min (s.faults + 1) 4294967295) (num n.acks)) ≡ b
        → Has (cond b n.prop n.done) v
    go true e =
        let none = eqb-true (size (set n.done)) 0 (and_parts _ _ e).0 in
        let some = member-size (set n.done) v small still in
        absurd (omega arith)
    go false e = still

pub locked3 : (s : Setting) (w : World) (o : ℕ → ℕ → Bool) (k v h : ℕ) → Locked s w v h
    → Locked s (λ i. round3 s (o i) k w i) v h
locked3 s w o k v h l =
    locked_same s w (λ i. round3 s (o i) k w i) v h
    (λ i hi. kept (λ n. n.locks ≡ (w i).locks) take3 (hears3 s (o i) w k i)
    (λ j. message3 (w j)) 0 s.nodes (λ j lo hj t n h. h) (w i) refl) l
