-- UniformVoting is safe where any two nodes hear some node in common: once a value is decided, all
-- nodes have it.
use Rattle.std.proofs.Common.{◌≡◌, ℕ, zero, suc, ◌+◌, ◌<◌, ◌%◌, ◌/◌, Bool, true, false}
use Rattle.std.proofs.Common.{refl, sym, ◌∙◌, subst}
use Rattle.std.proofs.Common.{arith}
use Rattle.std.specs.Prelude.{◌&&◌, slice_index, ◌==◌}
use Rattle.std.proofs.lemmas.Bool.{and_parts, eqb-true, eqb-false}
use Rattle.round_lang.specs.Sets.{is_in, size}
use Rattle.round_meaning.specs.declared.setup.Setup.{Setup}
use Rattle.round_meaning.specs.Agreement.{IsInput}
use Rattle.round_meaning.proofs.SetReading.{decided_in, member-size, none_in}
use Rattle.round_meaning.proofs.SetReading.{some_member}
use Rattle.round_proofs.specs.Machines.{Round, next_world}
use Rattle.round_proofs.specs.Safety.{IsKept, IsSafe}
use Rattle.round_proofs.proofs.SetSizes.{one_member}
use Rattle.shelf_proofs.proofs.UniformVotingSteps.{Node, decided}
use Rattle.shelf_proofs.proofs.UniformVotingSteps.{machine}
use Rattle.shelf_proofs.proofs.UniformVotingRounds.{Ear2, Locked, Suits, Valid, World, after1}
use Rattle.shelf_proofs.proofs.UniformVotingRounds.{after2, below, chosen, ear2, hear1, hear2}
use Rattle.shelf_proofs.proofs.UniformVotingRounds.{hears}
use Rattle.shelf_proofs.proofs.UniformVotingRounds.{hears_it, keeps, locked1, locked2, valid1}
use Rattle.shelf_proofs.proofs.UniformVotingRounds.{valid2, vote1, x2}

pub record Inv (s : Setup) (r : ℕ) (w : World) : Type 0 where
  pub valid : Valid s w
  pub one_vote : (i j u v : ℕ) → i < s.nodes → j < s.nodes → is_in (w i).vote u ≡ true
      → is_in (w j).vote v ≡ true → u ≡ v
  pub decided : (i v : ℕ) → i < s.nodes → is_in (w i).done v ≡ true → Locked s r w v

-- in this round, any two nodes hear some node in common
abbrev pub Meets : Setup → (ℕ → ℕ → Bool) → Type 0
Meets s o = (i k : ℕ) → i < s.nodes → k < s.nodes
    → (j : ℕ) × (j < s.nodes) × (o i j ≡ false) × (o k j ≡ false)

step1 : (k : ℕ) (s : Setup) (q : ℕ) (r : Round) (o : ℕ → ℕ → Bool) (w : World) → Suits k s
    → Meets s o → Inv s q w → Inv s (suc q) (after1 k s r o w)
step1 k s q r o w ok meets inv = record {
  valid = valid1 k s r o w ok inv.valid;
  one_vote = λ i j u v hi hj g h.
      let a = vote1 k s r o w ok inv.valid.inputs i (inv.valid.no_open i hi) u g in
      let b = vote1 k s r o w ok inv.valid.inputs j (inv.valid.no_open j hj) v h in
      let m = meets i j hi hj in
      sym (a.1 m.0 m.1 m.2) ∙ b.1 m.0 m.1 m.3;
  decided = λ i v hi g. locked1 k s q (suc q) r o w v ok inv.valid
      (inv.decided i v hi (subst (λ d. is_in d v ≡ true)
      (hear1 k s r o w ok inv.valid.inputs i (inv.valid.no_open i hi)).done g));
}

-- a value that is decided in this round is locked
fresh2 : (k : ℕ) (s : Setup) (q p : ℕ) (r : Round) (o : ℕ → ℕ → Bool) (w : World) (i v : ℕ)
    → Suits k s → Meets s o → Inv s q w → i < s.nodes
    → (size (ear2 k s r o w i).votes == 1) ≡ true → (size (ear2 k s r o w i).open_ == 0) ≡ true
    → is_in (ear2 k s r o w i).votes v ≡ true → Locked s p (after2 k s r o w) v
fresh2 k s q p r o w i v ok meets inv hi one none member = record {
  all = λ j hj.
      let it = voter j hj in
      let heard = (hear2 k s r o w ok inv.valid j hj).brings it.0 v it.1 it.3 it.2 in
      x2 k s r o w ok inv.valid j hj (λ x. x ≡ v)
      (λ a u ha g. inv.one_vote a it.0 u v ha it.1 g it.2)
      (λ empty a ha. absurd (empty (member-size (ear2 k s r o w j).votes v fits heard)));
  votes = λ j u hj g. absurd (none_in u g);
}
  where
    b : Node
    b = ear2 k s r o w i

    h : Ear2 s (o i) w (w i) b
    h = hear2 k s r o w ok inv.valid i hi

    vote_fits : (j u : ℕ) → j < s.nodes → is_in (w j).vote u ≡ true → u < 64
    vote_fits j u hj g = let lt = below k s ok u (inv.valid.votes j u hj g) in omega
        (arith, ok.small)

    fits : v < 64
    fits = let it = h.heard v member in vote_fits it.0 v it.1 it.2

    -- some node that j hears votes for v
    voter : (j : ℕ) → j < s.nodes
        → (a : ℕ) × (a < s.nodes) × (is_in (w a).vote v ≡ true) × (hears (o j) a ≡ true)
    voter j hj = go (size (w m.0).vote == 0) refl
      where
        m : (a : ℕ) × (a < s.nodes) × (o i a ≡ false) × (o j a ≡ false)
        m = meets i j hi hj

        go : (t : Bool) → (size (w m.0).vote == 0) ≡ t
            → (a : ℕ) × (a < s.nodes) × (is_in (w a).vote v ≡ true) × (hears (o j) a ≡ true)
        go true e =
            let open_x = h.brings_open m.0 m.1 (hears_it (o i) m.0 m.2) e in
            let lt = below k s ok (w m.0).x (inv.valid.inputs m.0 m.1) in
            let some = member-size b.open_ (w m.0).x (omega (arith, ok.small)) open_x in
            let zero_size = eqb-true (size b.open_) 0 none in
            absurd (omega arith)
        go false e =
            let not_zero = eqb-false (size (w m.0).vote) 0 e in
            let u = some_member (w m.0).vote (omega arith) in
            let in_b = h.brings m.0 u.0 m.1 (hears_it (o i) m.0 m.2) u.1 in
            let same = one_member b.votes u.0 v (eqb-true (size b.votes) 1 one)
            (vote_fits m.0 u.0 m.1 u.1) fits in_b member in
            (m.0, m.1, subst (λ z. is_in (w m.0).vote z ≡ true) same u.1, hears_it (o j) m.0 m.3)

step2 : (k : ℕ) (s : Setup) (q : ℕ) (r : Round) (o : ℕ → ℕ → Bool) (w : World) → Suits k s
    → Meets s o → Inv s q w → Inv s (suc q) (after2 k s r o w)
step2 k s q r o w ok meets inv = record {
  valid = valid2 k s r o w ok inv.valid;
  one_vote = λ i j u v hi hj g h. absurd (none_in u g);
  decided = λ i v hi. chosen (λ d. is_in d v ≡ true → Locked s (suc q) (after2 k s r o w) v)
      ((size (ear2 k s r o w i).votes == 1) && (size (ear2 k s r o w i).open_ == 0))
      (ear2 k s r o w i).votes (ear2 k s r o w i).done
      (λ t g. let both = and_parts (size (ear2 k s r o w i).votes == 1)
      (size (ear2 k s r o w i).open_ == 0) t in
      fresh2 k s q (suc q) r o w i v ok meets inv hi both.0 both.1 g)
      (λ t g. locked2 k s q (suc q) r o w v ok inv.valid (inv.decided i v hi
      (subst (λ d. is_in d v ≡ true) (hear2 k s r o w ok inv.valid i hi).done g)));
}

pub first_valid : (k : ℕ) (s : Setup)
    → Valid s (λ i. (machine k s.nodes s.faults).start (slice_index s.inputs i) i)
first_valid k s = record {
  inputs = λ i hi. (i, hi, refl);
  no_votes = λ i hi. refl;
  no_open = λ i hi. refl;
  votes = λ i u hi g. absurd (none_in u g);
}

first : (k : ℕ) (s : Setup)
    → Inv s 0 (λ i. (machine k s.nodes s.faults).start (slice_index s.inputs i) i)
first k s = record {
  valid = first_valid k s;
  one_vote = λ i j u v hi hj g h. absurd (none_in u g);
  decided = λ i v hi h. absurd (none_in v h);
}

step : (k : ℕ) (s : Setup) (q p number phase : ℕ) (o : ℕ → ℕ → Bool) (w : World) → Suits k s
    → Meets s o → Inv s q w
    → Inv s (suc q) (next_world (machine k s.nodes s.faults) s.nodes
    (record { position = p; number = number; phase = phase }) o w)
step k s q zero number phase o w ok meets inv =
    step1 k s q (record { position = 0; number = number; phase = phase }) o w ok meets inv
step k s q (suc p) number phase o w ok meets inv =
    step2 k s q (record { position = suc p; number = number; phase = phase }) o w ok meets inv

stays : (k : ℕ) (s : Setup) (q p number phase : ℕ) (o : ℕ → ℕ → Bool) (w : World) (v : ℕ)
    → Suits k s → Inv s q w → Locked s q w v
    → Locked s (suc q) (next_world (machine k s.nodes s.faults) s.nodes
    (record { position = p; number = number; phase = phase }) o w) v
stays k s q zero number phase o w v ok inv l =
    locked1 k s q (suc q) (record { position = 0; number = number; phase = phase }) o w v ok
    inv.valid l
stays k s q (suc p) number phase o w v ok inv l =
    locked2 k s q (suc q) (record { position = suc p; number = number; phase = phase }) o w v ok
    inv.valid l

pub uniform_voting_safe : (k : ℕ) (s : Setup) (omits : ℕ → ℕ → ℕ → Bool) (last : ℕ)
    (Counts : ℕ → ℕ → Type 0) → ((i r : ℕ) → Counts i r → i < s.nodes) → Suits k s
    → ((r : ℕ) → r < last → Meets s (λ i. omits i (suc r)))
    → IsSafe (machine k s.nodes s.faults) s 2 omits last Counts decided (Inv s) (Locked s)
uniform_voting_safe k s omits last Counts known ok meets = record {
  agreed = record {
    starts = first k s;
    goes_on = λ r w lt inv. step k s r (r % 2) (suc r) (r / 2 + 1) (λ i. omits i (suc r)) w ok
        (meets r lt) inv;
    locks = λ r w i v le inv c d. inv.decided i v (known i r c) (decided_in (w i).done v d);
    stays = λ r w v lt inv l. stays k s r (r % 2) (suc r) (r / 2 + 1) (λ i. omits i (suc r)) w v ok
        inv l;
    one = λ r w v u le inv a b.
        let some = ok.fit.some_node in
        sym (a.all 0 some) ∙ b.all 0 some;
  };
  valid = λ r w v le inv l.
      let some = ok.fit.some_node in
      subst (IsInput s) (l.all 0 some) (inv.valid.inputs 0 some);
}

pub uniform_voting_kept : (k : ℕ) (s : Setup) (omits : ℕ → ℕ → ℕ → Bool) (last : ℕ)
    (Counts : ℕ → ℕ → Type 0) → ((i r : ℕ) → Counts i r → i < s.nodes) → Suits k s
    → IsKept (machine k s.nodes s.faults) s 2 omits last Counts decided (Inv s)
uniform_voting_kept k s omits last Counts known ok = record {
  keeps = λ r w i v lt inv c d.
      keeps k s (r % 2) (suc r) (r / 2 + 1) (λ i. omits i (suc r)) w i v ok inv.valid
      (known i (suc r) c) d;
}
