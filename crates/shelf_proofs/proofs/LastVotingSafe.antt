-- LastVoting is safe: the four rounds of a phase, one after the other.
use Rattle.std.proofs.Common.{◌≡◌, ℕ, zero, suc, ◌+◌, ◌<◌, ◌≤◌, ◌%◌, ◌/◌, Bool}
use Rattle.std.proofs.Common.{refl, sym, ap, ◌∙◌, subst, inl, inr, ◌⊎◌}
use Rattle.std.proofs.Common.{Some}
use Rattle.std.proofs.Common.{arith}
use Rattle.std.specs.Prelude.{not, slice_index}
use Rattle.std.proofs.lemmas.Bool.{cases_lt, and_parts}
use Rattle.round_lang.specs.Sets.{least, members, only}
use Rattle.round_meaning.specs.declared.setup.Setup.{Setup}
use Rattle.round_meaning.specs.Agreement.{IsInput}
use Rattle.round_meaning.proofs.SetReading.{decided_in, none_in}
use Rattle.round_proofs.specs.Machines.{Round, next_world}
use Rattle.round_proofs.specs.Safety.{IsKept, IsSafe}
use Rattle.round_meaning.specs.Turn.{first_member}
use Rattle.round_proofs.proofs.Counting.{kept}
use Rattle.round_proofs.proofs.SetSizes.{only_itself, some_first}
use Rattle.shelf_proofs.proofs.LastVotingSteps.{decided}
use Rattle.shelf_proofs.proofs.LastVotingSteps.{machine}
use Rattle.shelf_proofs.proofs.LastVotingSteps.{message4}
use Rattle.shelf_proofs.proofs.LastVotingSteps.{take4}
use Rattle.shelf_proofs.proofs.LastVotingInvariant.{World, Locked, Always, Before, Voting, Taken}
use Rattle.shelf_proofs.proofs.LastVotingInvariant.{Ready, Suits, below, holder}
use Rattle.shelf_proofs.proofs.LastVotingVotes.{hear1, step1, locked1, hear2, locked2, step2}
use Rattle.shelf_proofs.proofs.LastVotingTells.{hear3, locked3, step3, c4, locked4, step4}

-- what holds before the round at a position of phase f
abbrev pub At : (k : ℕ) → Setup → (p f : ℕ) → World → Type 0
At k s zero f w = Before s f w
At k s (suc zero) f w = Voting s f w
At k s (suc (suc zero)) f w = Taken k s f w
At k s (suc (suc (suc p))) f w = Ready k s f w

abbrev pub Inv : (k : ℕ) → Setup → ℕ → World → Type 0
Inv k s r w = At k s (r % 4) (r / 4 + 1) w

pub always_of : (k : ℕ) (s : Setup) (p f : ℕ) (w : World) → At k s p f w → Always s w
always_of k s zero f w h = h.always
always_of k s (suc zero) f w h = h.always
always_of k s (suc (suc zero)) f w h = h.always
always_of k s (suc (suc (suc p))) f w h = h.always

pub one_on : (k : ℕ) (s : Setup) → Suits k s → (r p f : ℕ) (o : ℕ → ℕ → Bool) (w : World) → r % 4
    ≡ p
    → r / 4 + 1 ≡ f → p < 4 → At k s p f w
    → At k s (suc r % 4) (suc r / 4 + 1) (next_world (machine k s.nodes s.faults) s.nodes
    (record { position = p; number = suc r; phase = f }) o w)
one_on k s ok r zero f o w a b l h =
    let e : suc r % 4 ≡ 1 = omega arith in
    let g : suc r / 4 + 1 ≡ f = omega arith in
    rw (e, g) (step1 k s (record { position = 0; number = suc r; phase = f }) o w ok h)
one_on k s ok r (suc zero) f o w a b l h =
    let e : suc r % 4 ≡ 2 = omega arith in
    let g : suc r / 4 + 1 ≡ f = omega arith in
    rw (e, g) (step2 k s (record { position = 1; number = suc r; phase = f }) o w ok h)
one_on k s ok r (suc (suc zero)) f o w a b l h =
    let e : suc r % 4 ≡ 3 = omega arith in
    let g : suc r / 4 + 1 ≡ f = omega arith in
    rw (e, g) (step3 k s (record { position = 2; number = suc r; phase = f }) o w ok h)
one_on k s ok r (suc (suc (suc p))) f o w a b l h =
    let e : suc r % 4 ≡ 0 = omega arith in
    let g : suc r / 4 + 1 ≡ f + 1 = omega arith in
    rw (e, g) (step4 k s
    (record { position = suc (suc (suc p)); number = suc r; phase = f }) o w h)

pub stays : (k : ℕ) (s : Setup) → Suits k s → (p number f : ℕ) (o : ℕ → ℕ → Bool) (w : World)
    (v : ℕ)
    → At k s p f w → Locked s 0 w v
    → Locked s 0 (next_world (machine k s.nodes s.faults) s.nodes
    (record { position = p; number = number; phase = f }) o w) v
stays k s ok zero number f o w v h l =
    locked1 k s (record { position = 0; number = number; phase = f }) o w v ok h l
stays k s ok (suc zero) number f o w v h l =
    locked2 k s (record { position = 1; number = number; phase = f }) o w v ok h l
stays k s ok (suc (suc zero)) number f o w v h l =
    locked3 k s (record { position = 2; number = number; phase = f }) o w v ok h l
stays k s ok (suc (suc (suc p))) number f o w v h l =
    locked4 k s (record { position = suc (suc (suc p)); number = number; phase = f }) o w v h l

pub first : (k : ℕ) (s : Setup)
    → Before s 1 (λ i. (machine k s.nodes s.faults).start (slice_index s.inputs i) i)
first k s = record {
  always = record {
    inputs = λ i hi. (i, hi, refl);
    counts = λ i hi. refl;
    newest = λ i hi. refl;
    decided = λ i v hi h. absurd (none_in v h);
  };
  early = λ i hi. omega arith;
  no_vote = λ i hi. refl;
  none_ready = λ i hi. refl;
}

-- two locked values are equal
pub one_locked : (s : Setup) (w : World) (v u : ℕ) → Locked s 0 w v → Locked s 0 w u → v ≡ u
one_locked s w v u a b = go (cases_lt a.phase b.phase)
  where
    x : (j : ℕ) × (j < s.nodes) × (a.phase ≤ (w j).stamp) × ((w j).x ≡ v)
    x = holder s 0 w v a

    y : (j : ℕ) × (j < s.nodes) × (b.phase ≤ (w j).stamp) × ((w j).x ≡ u)
    y = holder s 0 w u b

    go : (a.phase < b.phase) ⊎ (b.phase ≤ a.phase) → v ≡ u
    go (inl l) = sym (a.same y.0 y.1 (omega (arith, y.2))) ∙ y.3
    go (inr l) = sym x.3 ∙ b.same x.0 x.1 (omega (arith, x.2))

pub last_voting_safe : (k : ℕ) (s : Setup) (omits : ℕ → ℕ → ℕ → Bool) (last : ℕ)
    (Counts : ℕ → ℕ → Type 0) → ((i r : ℕ) → Counts i r → i < s.nodes) → Suits k s
    → IsSafe (machine k s.nodes s.faults) s 4 omits last Counts decided (Inv k s)
    (λ r. Locked s 0)
last_voting_safe k s omits last Counts known ok = record {
  agreed = record {
    starts = first k s;
    goes_on = λ r w lt inv. one_on k s ok r (r % 4) (r / 4 + 1) (λ i. omits i (suc r)) w refl refl
        (omega arith) inv;
    locks = λ r w i v le inv c d.
        (always_of k s (r % 4) (r / 4 + 1) w inv).decided i v (known i r c)
        (decided_in (w i).done v d);
    stays = λ r w v lt inv l.
        stays k s ok (r % 4) (suc r) (r / 4 + 1) (λ i. omits i (suc r)) w v inv l;
    one = λ r w v u le inv a b. one_locked s w v u a b;
  };
  valid = λ r w v le inv l.
      let it = holder s 0 w v l in
      subst (IsInput s) it.3 ((always_of k s (r % 4) (r / 4 + 1) w inv).inputs it.0 it.1);
}

-- a node that has decided has some decision after each later round
pub keeps : (k : ℕ) (s : Setup) → Suits k s → (p number f : ℕ) (o : ℕ → ℕ → Bool) (w : World)
    (i v : ℕ)
    → At k s p f w → i < s.nodes → decided (w i) ≡ Some v
    → (u : ℕ) × (decided (next_world (machine k s.nodes s.faults) s.nodes
    (record { position = p; number = number; phase = f }) o w i) ≡ Some u)
keeps k s ok zero number f o w i v h hi d = (
  v,
  ap (λ z. first_member (members z))
      (hear1 k s (record { position = 0; number = number; phase = f }) o w ok i
      (h.always.counts i hi) (h.always.newest i hi)).done ∙ d,
)
keeps k s ok (suc zero) number f o w i v h hi d = (
  v,
  ap (λ z. first_member (members z))
      (hear2 k s (record { position = 1; number = number; phase = f }) o w i).done ∙ d,
)
keeps k s ok (suc (suc zero)) number f o w i v h hi d = (
  v,
  ap (λ z. first_member (members z))
      (hear3 k s (record { position = 2; number = number; phase = f }) o w ok i
      (h.always.counts i hi)).done ∙ d,
)
keeps k s ok (suc (suc (suc p))) number f o w i v h hi d =
    kept (λ b. (u : ℕ) × (decided b ≡ Some u)) (take4 k s.nodes s.faults r i) (c4 k s r o w i)
    (λ j. message4 k s.nodes s.faults r (w j) j i) 0 s.nodes
    (λ j lo hj t b g.
    let l = h.ready j (omega arith) (and_parts (not (o i j)) (w j).ready t).1 in
    let it = holder s 0 w (least k (w j).vote) l in
    let lt = below k s ok (least k (w j).vote) (subst (IsInput s) it.3
    (h.always.inputs it.0 it.1)) in
    some_first (only k (least k (w j).vote)) (least k (w j).vote) (omega (arith, ok.small))
    (only_itself k (least k (w j).vote) lt))
    (w i) (v, d)
  where
    r : Round
    r = record { position = suc (suc (suc p)); number = number; phase = f }

pub last_voting_kept : (k : ℕ) (s : Setup) (omits : ℕ → ℕ → ℕ → Bool) (last : ℕ)
    (Counts : ℕ → ℕ → Type 0) → ((i r : ℕ) → Counts i r → i < s.nodes) → Suits k s
    → IsKept (machine k s.nodes s.faults) s 4 omits last Counts decided (Inv k s)
last_voting_kept k s omits last Counts known ok = record {
  keeps = λ r w i v lt inv c d.
      keeps k s ok (r % 4) (suc r) (r / 4 + 1) (λ i. omits i (suc r)) w i v inv
      (known i (suc r) c) d;
}
