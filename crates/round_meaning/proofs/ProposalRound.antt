-- The first round of a phase: the owner proposes what at least N - t nodes accept.
use Rattle.std.proofs.Common.{◌≡◌, ℕ, ◌+◌, ◌-◌, ◌<◌, ◌≤◌, ◌≢◌, min, Bool, true, false, cond, refl}
use Rattle.std.proofs.Common.{sym, ap, ◌∙◌, subst, inl, inr, ◌⊎◌, arith}
use Rattle.std.specs.Prelude.{◌&&◌, not, nat_lt, nat_le, slice_index, ◌==◌}
use Rattle.std.specs.List.{range_with_len}
use Rattle.std.proofs.lemmas.List.{get_or-replicate}
use Rattle.std.proofs.lemmas.Bool.{cases_lt, and_parts, and_from, eqb-true, leb-true, lt-ltb}
use Rattle.std.proofs.lemmas.Bool.{ne_eqb}
use Rattle.round_lang.specs.declared.value.Value.TheVariants.{Num}
use Rattle.round_lang.specs.Sets.{is_in, set_of, only, size, least}
use Rattle.round_lang.specs.Values.{num, flag, set, row, of_set}
use Rattle.round_meaning.proofs.PhaseSteps.{Setting, Node, World, Suits, hear, owner, acceptable}
use Rattle.round_meaning.proofs.PhaseSteps.{message1, take1, hears1, round1}
use Rattle.round_meaning.proofs.SetReading.{in_set_of, is_in-set_of, in_only, none_in, at_row}
use Rattle.round_meaning.proofs.SetReading.{member-size, least_in}
use Rattle.round_meaning.proofs.Hearing.{count, kept, counted, some_counted}
use Rattle.round_meaning.proofs.LockInvariant.{IsInput, lock, Has, Locked, IsProposed, Before}
use Rattle.round_meaning.proofs.LockInvariant.{Proposed, locked_same, proper_more}

-- who accepts v has it in PROPER, and has no other lock
accepts : (s : Setting) (n : Node) (v : ℕ) → s.values ≤ 64 → acceptable s n v ≡ true
    → Has n.proper v × ((u : ℕ) → u < s.values → u ≢ v → lock n u ≡ 0)
accepts s n v small h = (at_v.1, others)
  where
    p : ℕ → Bool
    p = λ w. not (w == v) && nat_lt 0 (slice_index (row n.locks) w)

    both : ((nat_lt v s.values && is_in (set n.proper) v) ≡ true)
        × ((size (set_of s.values p) == 0) ≡ true)
    both = and_parts _ _ h

    at_v : (nat_lt v s.values ≡ true) × (is_in (set n.proper) v ≡ true)
    at_v = and_parts _ _ both.0

    others : (u : ℕ) → u < s.values → u ≢ v → lock n u ≡ 0
    others u l ne = go (cases_lt 0 (lock n u))
      where
        go : (0 < lock n u) ⊎ (lock n u ≤ 0) → lock n u ≡ 0
        go (inl some) =
            let off : not (u == v) ≡ true = ap not (ne_eqb u v ne) in
            let on : p u ≡ true = and_from _ _ off (lt-ltb 0 (lock n u) some) in
            let more = member-size (set_of s.values p) u (omega arith) (is_in-set_of s.values p u l
            ∙ on) in
            let none = eqb-true (size (set_of s.values p)) 0 both.1 in
            absurd (omega arith)
        go (inr le) = omega arith

-- one more list
bump : (x : ℕ) (a c : Bool)
    → num (cond (a && c) (Num (min (x + 1) 4294967295)) (Num x)) ≤ x + cond c 1 0
bump x true true = omega arith
bump x true false = omega arith
bump x false true = omega arith
bump x false false = omega arith

-- the lists that name v are at most the nodes that accept it
lists_counted : (s : Setting) (w : World) (c : ℕ → Bool) (v : ℕ) → v < s.values → (n : Node)
    → slice_index
    (row (hear (take1 s) c (λ j. message1 s (w j)) (range_with_len 0 s.nodes) n).lists) v
    ≤ slice_index (row n.lists) v + count (λ j. is_in (set_of s.values (acceptable s (w j))) v) 0
    s.nodes
lists_counted s w c v hv n =
    counted (λ n. slice_index (row n.lists) v) (λ j. is_in (set_of s.values (acceptable s (w j))) v)
    (take1 s) c (λ j. message1 s (w j)) 0 s.nodes
    (λ j t n. subst (λ x. x ≤ slice_index (row n.lists) v + cond
    (is_in (set_of s.values (acceptable s (w j))) v) 1 0)
    (sym (at_row
    (λ v. num (cond (nat_lt v s.values && is_in (set_of s.values (acceptable s (w j))) v)
    (Num (min (slice_index (row n.lists) v + 1) 4294967295))
    (Num (slice_index (row n.lists) v)))) s.values v hv))
    (bump (slice_index (row n.lists) v) (nat_lt v s.values)
    (is_in (set_of s.values (acceptable s (w j))) v)))
    n

-- what no message of the round changes
record Frame (n₀ n : Node) : Type 0 where
  locks : n.locks ≡ n₀.locks
  got : n.got ≡ n₀.got
  acks : n.acks ≡ n₀.acks
  done : n.done ≡ n₀.done

in_choice : (b : Bool) (a v : ℕ) → Has (cond b (of_set a) (of_set 0)) v
    → (b ≡ true) × (is_in a v ≡ true)
in_choice true a v h = (refl, h)
in_choice false a v h = absurd (none_in v h)

-- what a proposal of v by i says
proposal : (s : Setting) (inputs : ℕ → ℕ) (q : ℕ) (w : World) → Suits s inputs → Before s inputs q w
    → (o : ℕ → Bool) (k i v : ℕ) → i < s.nodes
    → Has (round1 s o k w i).prop v
    → (i ≡ owner s k) × (v < s.values)
    × (s.nodes - s.faults ≤ count (λ j. is_in (set_of s.values (acceptable s (w j))) v) 0
    s.nodes) × ((u : ℕ) → Has (round1 s o k w i).prop u → u ≡ v)
proposal s inputs q w ok b o k i v hi h =
    (eqb-true i (owner s k) chosen.0, only_v.0, enough, single)
  where
    n : Node
    n = hear (take1 s) (hears1 s o k i) (λ j. message1 s (w j)) (range_with_len 0 s.nodes) (w i)

    passing : ℕ → Bool
    passing = λ v. nat_le (s.nodes - s.faults) (slice_index (row n.lists) v)

    best : ℕ
    best = least s.values (set_of s.values passing)

    choice : (u : ℕ) → Has (round1 s o k w i).prop u
        → ((i == owner s k) ≡ true) × (is_in (only s.values best) u ≡ true)
    choice u t = in_choice _ _ u t

    chosen : ((i == owner s k) ≡ true) × (is_in (only s.values best) v ≡ true)
    chosen = choice v h

    only_v : (v < s.values) × (v ≡ best)
    only_v = in_only s.values best v chosen.1

    single : (u : ℕ) → Has (round1 s o k w i).prop u → u ≡ v
    single u t = (in_only s.values best u (choice u t).1).1 ∙ sym only_v.1

    passed : s.nodes - s.faults ≤ slice_index (row n.lists) v
    passed =
        let here = least_in s.values (set_of s.values passing)
        (subst (λ x. x < s.values) only_v.1 only_v.0) in
        let test = (in_set_of s.values passing best here).1 in
        leb-true _ _ (ap passing only_v.1 ∙ test)

    enough : s.nodes - s.faults ≤ count (λ j. is_in (set_of s.values (acceptable s (w j))) v) 0
        s.nodes
    enough =
        let many = lists_counted s w (hears1 s o k i) v only_v.0 (w i) in
        let zero_lists = b.always.lists i v hi only_v.0 in
        omega (arith, passed)

frame : (s : Setting) (w : World) (c : ℕ → Bool) (n₀ : Node)
    → Frame n₀ (hear (take1 s) c (λ j. message1 s (w j)) (range_with_len 0 s.nodes) n₀)
frame s w c n₀ =
    kept (Frame n₀) (take1 s) c (λ j. message1 s (w j)) 0 s.nodes
    (λ j lo hi t n h. record { locks = h.locks; got = h.got; acks = h.acks; done = h.done })
    n₀ (record { locks = refl; got = refl; acks = refl; done = refl })

pub step1 : (s : Setting) (inputs : ℕ → ℕ) (q : ℕ) (w : World) → Suits s inputs
    → Before s inputs q w → (o : ℕ → ℕ → Bool) (k : ℕ)
    → Proposed s inputs q (λ i. round1 s (o i) k w i)
step1 s inputs q w ok b o k = record {
  always = record {
    proper = λ i v hi. kept (λ n. (u : ℕ) → Has n.proper u
        → IsInput s inputs u) (take1 s) (hears1 s (o i) k i) (λ j. message1 s (w j)) 0 s.nodes
        (λ j lo hi t n h. proper_more s inputs w b.always.proper j (omega arith) (set n.proper) h)
        (w i) (λ u h. b.always.proper i u hi h) v;
    done = λ i v hi h. b.always.done i v hi (was_done i v h);
    decided = λ i v hi h.
        let d = b.always.decided i v hi (was_done i v h) in
        (d.0, d.1, locked_same s w w' v d.0 (λ j hj. (same j).locks) d.2);
    lists = λ i v hi hv. get_or-replicate s.values v 0 0 hv;
    acks = λ i hi. ap num (same i).acks ∙ b.always.acks i hi;
  };
  proposals = record {
    same = λ v u a c.
        let p = proposal s inputs q w ok b (o a.0) k a.0 v a.1 a.2 in
        let r = proposal s inputs q w ok b (o c.0) k c.0 u c.1 c.2 in
        let e : a.0 ≡ c.0 = p.0 ∙ sym r.0 in
        r.3 v (subst (λ i. Has (w' i).prop v) e a.2);
    valid = λ v a.
        let sup = supported v a in
        let j = some_counted sup.0 0 s.nodes (omega (arith, sup.1, ok.faults)) in
        b.always.proper j.0 v (omega (arith, j.2))
        (accepts s (w j.0) v ok.values (listed v j.0 j.3)).0;
  };
  got = λ i hi. ap flag (same i).got ∙ b.got i hi;
  bound = λ i v hi hv. subst (λ a. slice_index (row a) v ≤ q) (sym (same i).locks)
      (b.bound i v hi hv);
  support = supported;
}
  where
    w' : World
    w' = λ i. round1 s (o i) k w i

    same : (i : ℕ)
        → Frame (w i) (hear (take1 s) (hears1 s (o i) k i) (λ j. message1 s (w j))
        (range_with_len 0 s.nodes) (w i))
    same i = frame s w (hears1 s (o i) k i) (w i)

    was_done : (i v : ℕ) → Has (w' i).done v → Has (w i).done v
    was_done i v h = subst (λ a. Has a v) (same i).done h

    listed : (v j : ℕ) → is_in (set_of s.values (acceptable s (w j))) v ≡ true
        → acceptable s (w j) v ≡ true
    listed v j h = (in_set_of s.values (acceptable s (w j)) v h).1

    supported : (v : ℕ) → IsProposed s w' v → (c : ℕ → Bool)
        × (s.nodes - s.faults ≤ count c 0 s.nodes)
        × ((j u : ℕ) → j < s.nodes → c j ≡ true → u < s.values → u ≢ v → lock (w' j) u ≡ 0)
    supported v a =
        let p = proposal s inputs q w ok b (o a.0) k a.0 v a.1 a.2 in (
          (λ j. is_in (set_of s.values (acceptable s (w j))) v),
          p.2,
          (λ j u hj t hu ne. ap (λ a. slice_index (row a) u) (same j).locks
              ∙ (accepts s (w j) v ok.values (listed v j t)).1 u hu ne),
        )

pub stays1 : (s : Setting) (w : World) (o : ℕ → Bool) (k i v : ℕ) → Has (w i).done v
    → Has (round1 s o k w i).done v
stays1 s w o k i v h = subst (λ a. Has a v) (sym (frame s w (hears1 s o k i) (w i)).done) h

pub locked1 : (s : Setting) (w : World) (o : ℕ → ℕ → Bool) (k v h : ℕ) → Locked s w v h
    → Locked s (λ i. round1 s (o i) k w i) v h
locked1 s w o k v h l = locked_same s w (λ i. round1 s (o i) k w i) v h
    (λ j hj. (frame s w (hears1 s (o j) k j) (w j)).locks) l

pub was1 : (s : Setting) (w : World) (o : ℕ → Bool) (k i v : ℕ) → Has (round1 s o k w i).done v
    → Has (w i).done v
was1 s w o k i v h = subst (λ a. Has a v) (frame s w (hears1 s o k i) (w i)).done h
