-- Early-deciding flooding is safe, and its nodes decide.
use Rattle.std.proofs.Common.{◌≡◌, ℕ, suc, ◌+◌, ◌<◌, ◌≤◌, ◌%◌, ◌/◌, Bool, true, cond}
use Rattle.std.proofs.Common.{min, refl, sym, ap, ◌∙◌, subst, inl, inr, ◌⊎◌, Some, arith}
use Rattle.std.specs.Prelude.{⊤, ◌||◌, not, nat_le, slice_index}
use Rattle.std.proofs.lemmas.List.Elements.{All-get_or}
use Rattle.std.proofs.lemmas.Bool.{and_parts, cases_lt, false≢true}
use Rattle.std.proofs.lemmas.Bool.{le-leb, or_left, or_right}
use Rattle.round_lang.specs.Sets.{is_in, members}
use Rattle.round_meaning.specs.declared.setup.Setup.{Setup}
use Rattle.round_meaning.specs.Turn.{first_member}
use Rattle.round_meaning.proofs.Hearing.{count}
use Rattle.round_meaning.proofs.SetReading.{decided_in, in_only, none_in}
use Rattle.round_proofs.specs.Machines.{Round}
use Rattle.round_proofs.specs.Progress.{IsProgress}
use Rattle.round_proofs.specs.Safety.{IsKept, IsSafe}
use Rattle.round_proofs.proofs.CrashRuns.{IsCrash}
use Rattle.round_proofs.proofs.Counting.{count_rest}
use Rattle.round_proofs.proofs.SetSizes.{only_itself, same_members, some_first}
use Rattle.shelf_proofs.proofs.EarlyFloodingSteps.{Node, decided, machine}
use Rattle.shelf_proofs.proofs.EarlyFloodingSteps.{top}
use Rattle.shelf_proofs.proofs.FloodingSafe.{Suits, below, heard_by}
use Rattle.shelf_proofs.proofs.FloodingSafe.{same_some}
use Rattle.shelf_proofs.proofs.EarlyFloodingInvariant.{Inv, Locked, Origin, Same, World, ear1}
use Rattle.shelf_proofs.proofs.EarlyFloodingInvariant.{after1, frame, from1, old1, step1}

first : (k : ℕ) (s : Setup) (alive : ℕ → ℕ → Bool) → Suits k s
    → Inv s alive 0 (λ i. (machine k s.nodes s.faults).start (slice_index s.inputs i) i)
first k s alive ok = record {
  inputs = λ i u hi h. (i, hi, sym (in_only k (slice_index s.inputs i) u h).1);
  some = λ i hi.
      let x = All-get_or (λ x. x < k) s.inputs i 0 (omega (arith, hi, ok.fit.inputs)) ok.fit.below
      in
      (slice_index s.inputs i, omega (arith, ok.small), only_itself k (slice_index s.inputs i) x);
  none_heard = λ i hi. refl;
  before = λ i hi. let e = count_rest (alive 0) 0 s.nodes in omega arith;
  fewer = λ i hi. inr (omega arith);
  most = λ i j u hi hj calm l g. absurd (false≢true calm);
  agreed = inr (omega arith);
  done = λ i hi l. inl refl;
  late = λ i hi past. absurd (omega arith);
}

locks : (s : Setup) (alive : ℕ → ℕ → Bool) (r : ℕ) (w : World) (i v : ℕ) → Inv s alive r w
    → i < s.nodes → alive r i ≡ true → decided (w i) ≡ Some v → Locked s alive r w v
locks s alive r w i v inv hi li d = by (inv.done i hi li)
  where
    by : ((w i).done ≡ 0)
        ⊎ (((w i).done ≡ (w i).seen) × Same s alive r w
        × (((w i).calm ≡ true) ⊎ (s.faults + 1 ≤ r)))
        → Locked s alive r w v
    by (inl none) =
        absurd (none_in v (subst (λ c. is_in c v ≡ true) none (decided_in (w i).done v d)))
    by (inr it) = record {
      since = r;
      past = omega arith;
      one = i;
      known = hi;
      living = li;
      same = it.1;
      least = ap (λ c. first_member (members c)) (sym it.0) ∙ d;
    }

-- the sets of nodes with the same members have the same least one
same_least : (s : Setup) (alive : ℕ → ℕ → Bool) (q : ℕ) (w : World) → Same s alive q w → (i j : ℕ)
    → i < s.nodes → j < s.nodes → alive q i ≡ true → alive q j ≡ true
    → first_member (members (w i).seen) ≡ first_member (members (w j).seen)
same_least s alive q w same i j hi hj li lj =
    ap first_member (same_members (w i).seen (w j).seen (λ u l. same i j u hi hj li lj)
    (λ u l. same j i u hj hi lj li))

stays : (k : ℕ) (s : Setup) (alive : ℕ → ℕ → Bool) (last : ℕ) (omits : ℕ → ℕ → ℕ → Bool)
    (p f q : ℕ) (w : World) (v : ℕ) → Suits k s → IsCrash s last alive omits → q < last
    → Inv s alive q w → Locked s alive q w v
    → Locked s alive (suc q) (after1 k s (record { position = p; number = suc q; phase = f })
    (λ i. omits i (suc q)) w) v
stays k s alive last omits p f q w v ok crash lt inv l = record {
  since = l.since;
  past = let le = l.past in omega arith;
  one = l.one;
  known = l.known;
  living = l.living;
  same = λ i j u hi hj li lj g.
      let h = l.same i j u hi hj li lj (was i u hi li g) in
      old1 k s r o w j u (below k s ok u (inv.inputs j u hj h)) h;
  least =
      ap first_member (same_members (z l.one).seen (w l.one).seen
      (λ u small. was l.one u l.known l.living) (λ u small. old1 k s r o w l.one u small))
      ∙ l.least;
}
  where
    r : Round
    r = record { position = p; number = suc q; phase = f }

    o : ℕ → ℕ → Bool
    o = λ i. omits i (suc q)

    z : World
    z = after1 k s r o w

    was : (i u : ℕ) → i < s.nodes → alive l.since i ≡ true → is_in (z i).seen u ≡ true
        → is_in (w i).seen u ≡ true
    was i u hi li g = go (from1 k s r o w i u g)
      where
        go : Origin k s r o w i u → is_in (w i).seen u ≡ true
        go (inl h) = h
        go (inr h) =
            let then = crash.lost i q h.0 lt hi h.1
            (heard_by (omits i (suc q) h.0) (and_parts (not (o i h.0)) true h.2).0) in
            l.same h.0 i u h.1 hi (crash.down l.since q h.0 l.past then) li h.3

-- two locked values are equal
one : (s : Setup) (alive : ℕ → ℕ → Bool) (last : ℕ) (omits : ℕ → ℕ → ℕ → Bool) (r : ℕ) (w : World)
    (v u : ℕ) → IsCrash s last alive omits → Locked s alive r w v → Locked s alive r w u → v ≡ u
one s alive last omits r w v u crash a b = by (cases_lt a.since b.since)
  where
    by : (a.since < b.since) ⊎ (b.since ≤ a.since) → v ≡ u
    by (inl l) =
        same_some (first_member (members (w b.one).seen)) v u
        (same_least s alive a.since w a.same b.one a.one b.known a.known
        (crash.down a.since b.since b.one (omega arith) b.living) a.living ∙ a.least) b.least
    by (inr l) =
        same_some (first_member (members (w a.one).seen)) v u a.least
        (same_least s alive b.since w b.same a.one b.one a.known b.known
        (crash.down b.since a.since a.one l a.living) b.living ∙ b.least)

pub early_flooding_safe : (k : ℕ) (s : Setup) (alive : ℕ → ℕ → Bool) (last : ℕ)
    (omits : ℕ → ℕ → ℕ → Bool) (Counts : ℕ → ℕ → Type 0)
    → ((i r : ℕ) → Counts i r → (i < s.nodes) × (alive r i ≡ true)) → Suits k s
    → IsCrash s last alive omits
    → IsSafe (machine k s.nodes s.faults) s 1 omits last Counts decided (Inv s alive)
    (Locked s alive)
early_flooding_safe k s alive last omits Counts counts ok crash = record {
  agreed = record {
    starts = first k s alive ok;
    goes_on = λ r w lt inv. step1 k s alive last omits (r % 1) (r / 1 + 1) r w ok crash lt inv;
    locks = λ r w i v le inv c d.
        let known = counts i r c in
        locks s alive r w i v inv known.0 known.1 d;
    stays = λ r w v lt inv l.
        stays k s alive last omits (r % 1) (r / 1 + 1) r w v ok crash lt inv l;
    one = λ r w v u le inv a b. one s alive last omits r w v u crash a b;
  };
  valid = λ r w v le inv l. inv.inputs l.one v l.known (decided_in (w l.one).seen v l.least);
}

-- a node that has seen some value and decided what it has seen has a decision
some_decided : (s : Setup) (alive : ℕ → ℕ → Bool) (r : ℕ) (w : World) (i : ℕ) → Inv s alive r w
    → i < s.nodes → (w i).done ≡ (w i).seen → (v : ℕ) × (decided (w i) ≡ Some v)
some_decided s alive r w i inv hi e =
    let it = inv.some i hi in
    let one = some_first (w i).seen it.0 it.1 it.2 in
    (one.0, ap (λ c. first_member (members c)) e ∙ one.1)

pub early_flooding_kept : (k : ℕ) (s : Setup) (alive : ℕ → ℕ → Bool) (last : ℕ)
    (omits : ℕ → ℕ → ℕ → Bool) (Counts : ℕ → ℕ → Type 0)
    → ((i r : ℕ) → Counts i r → (i < s.nodes) × (alive r i ≡ true)) → Suits k s
    → IsCrash s last alive omits
    → IsKept (machine k s.nodes s.faults) s 1 omits last Counts decided (Inv s alive)
early_flooding_kept k s alive last omits Counts counts ok crash = record {
  keeps = λ r w i v lt inv c d.
      let known = counts i (suc r) c in
      by r w i v inv known.0 (crash.down r (suc r) i (omega arith) known.1) d
      (step1 k s alive last omits (r % 1) (r / 1 + 1) r w ok crash lt inv);
}
  where
    by : (r : ℕ) (w : World) (i v : ℕ) → Inv s alive r w → i < s.nodes → alive r i ≡ true
        → decided (w i) ≡ Some v
        → Inv s alive (suc r) (after1 k s
        (record { position = r % 1; number = suc r; phase = r / 1 + 1 }) (λ i. omits i (suc r)) w)
        → (u : ℕ) × (decided (after1 k s
        (record { position = r % 1; number = suc r; phase = r / 1 + 1 }) (λ i. omits i (suc r)) w i)
        ≡ Some u)
    by r w i v inv hi li d next = go (inv.done i hi li)
      where
        m : Round
        m = record { position = r % 1; number = suc r; phase = r / 1 + 1 }

        b : Node
        b = ear1 k s m (λ i. omits i (suc r)) w i

        on : ((w i).calm ≡ true) ⊎ (s.faults + 1 ≤ r)
            → (b.calm || nat_le (min (s.faults + 1) top) (suc r)) ≡ true
        on (inl calm) =
            or_left b.calm (nat_le (min (s.faults + 1) top) (suc r))
            (frame k s m (λ i. omits i (suc r)) w i (λ b. b.calm ≡ true) (λ j b h. h) calm)
        on (inr past) =
            or_right b.calm (nat_le (min (s.faults + 1) top) (suc r))
            (le-leb (min (s.faults + 1) top) (suc r) (omega arith))

        go : ((w i).done ≡ 0)
            ⊎ (((w i).done ≡ (w i).seen) × Same s alive r w
            × (((w i).calm ≡ true) ⊎ (s.faults + 1 ≤ r)))
            → (u : ℕ) × (decided (after1 k s m (λ i. omits i (suc r)) w i) ≡ Some u)
        go (inl none) =
            absurd (none_in v (subst (λ c. is_in c v ≡ true) none (decided_in (w i).done v d)))
        go (inr it) =
            some_decided s alive (suc r) (after1 k s m (λ i. omits i (suc r)) w) i next hi
            (ap (λ t. cond t b.seen b.done) (on it.2))

-- after t + 1 rounds each node has decided
pub early_flooding_decides : (k : ℕ) (s : Setup) (alive : ℕ → ℕ → Bool) (omits : ℕ → ℕ → ℕ → Bool)
    (living : ℕ → Bool)
    → IsProgress (machine k s.nodes s.faults) s 1 omits 0 (s.faults + 1) living decided
    (Inv s alive) (λ q w. ⊤)
early_flooding_decides k s alive omits living = record {
  begins = λ w inv. tt;
  gets_on = λ q w lt inv reached. tt;
  ends = λ w i inv past hi live.
      some_decided s alive (0 + (s.faults + 1)) w i inv hi (inv.late i hi (omega arith));
}

-- if f nodes crash, after f + 2 rounds each node has decided
abbrev pub Reached : Setup → (f q : ℕ) → World → Type 0
Reached s f q w = f + 2 ≤ q → (i : ℕ) → i < s.nodes → (w i).done ≡ (w i).seen

pub early_flooding_is_early : (k : ℕ) (s : Setup) (alive : ℕ → ℕ → Bool)
    (omits : ℕ → ℕ → ℕ → Bool) (living : ℕ → Bool) (f : ℕ)
    → ((r : ℕ) → s.nodes ≤ count (alive r) 0 s.nodes + f)
    → IsProgress (machine k s.nodes s.faults) s 1 omits 0 (f + 2) living decided (Inv s alive)
    (Reached s f)
early_flooding_is_early k s alive omits living f few = record {
  begins = λ w inv past. absurd (omega arith);
  gets_on = λ q w lt inv reached past i hi.
      let r : Round = record {
        position = (0 + q) % 1;
        number = suc
            (0 + q);
        phase = (0 + q) / 1 + 1;
      }
      in
      let b : Node = ear1 k s r (λ i. omits i (suc (0 + q))) w i in
      ap (λ t. cond t b.seen b.done)
      (or_left b.calm (nat_le (min (s.faults + 1) top) (suc (0 + q)))
      (frame k s r (λ i. omits i (suc (0 + q))) w i (λ b. b.calm ≡ true) (λ j b h. h)
      (calm q w i hi past inv (inv.fewer i hi))));
  ends = λ w i inv reached hi live.
      some_decided s alive (0 + (f + 2)) w i inv hi (reached (omega arith) i hi);
}
  where
    calm : (q : ℕ) (w : World) (i : ℕ) → i < s.nodes → f + 2 ≤ suc q → Inv s alive (0 + q) w
        → ((w i).calm ≡ true) ⊎ ((w i).before + (0 + q) ≤ s.nodes) → (w i).calm ≡ true
    calm q w i hi past inv (inl e) = e
    calm q w i hi past inv (inr le) =
        let heard = inv.before i hi in
        let living = few (0 + q) in
        absurd (omega arith)
