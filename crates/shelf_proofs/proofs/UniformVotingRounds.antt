-- What the nodes of UniformVoting make of what they hear, whatever that is.
use Rattle.std.proofs.Common.{◌≡◌, ℕ, zero, suc, ◌<◌, ◌≤◌, Bool, true, false}
use Rattle.std.proofs.Common.{cond, refl, sym, ap, ◌∙◌, subst, inl, inr, ◌⊎◌, Some}
use Rattle.std.proofs.Common.{arith}
use Rattle.std.specs.Prelude.{◌&&◌, not, nat_lt, ◌==◌}
use Rattle.std.specs.List.{range_with_len}
use Rattle.std.proofs.lemmas.List.Elements.{All-get_or}
use Rattle.std.proofs.lemmas.Bool.{and_parts, eqb-true}
use Rattle.std.proofs.lemmas.Bool.{ltb-true, ltb-false}
use Rattle.round_lang.specs.Sets.{is_in, least, members, only, size, union}
use Rattle.round_meaning.specs.declared.setup.Setup.{Setup}
use Rattle.round_meaning.specs.Agreement.{IsInput}
use Rattle.round_meaning.proofs.SetReading.{in_only, in_union, none_in}
use Rattle.round_meaning.proofs.SetReading.{some_member}
use Rattle.round_proofs.specs.Machines.{Round, hear, next_world}
use Rattle.round_proofs.specs.Safety.{IsFit}
use Rattle.round_meaning.specs.Turn.{first_member}
use Rattle.round_proofs.proofs.Counting.{gained, kept}
use Rattle.round_proofs.proofs.SetSizes.{in_left, in_right, least_is_in, one_member, only_itself}
use Rattle.round_proofs.proofs.SetSizes.{some_first}
use Rattle.shelf_proofs.proofs.UniformVotingSteps.{Letter, Node, decided, finish1, finish2}
use Rattle.shelf_proofs.proofs.UniformVotingSteps.{machine, message1, message2, take1, take2}

abbrev pub World : Type 0
World = ℕ → Node

-- all nodes have v, and all votes are for it
pub record Locked (s : Setup) (r : ℕ) (w : World) (v : ℕ) : Type 0 where
  pub all : (i : ℕ) → i < s.nodes → (w i).x ≡ v
  pub votes : (i u : ℕ) → i < s.nodes → is_in (w i).vote u ≡ true → u ≡ v

-- what holds whatever is omitted
pub record Valid (s : Setup) (w : World) : Type 0 where
  pub inputs : (i : ℕ) → i < s.nodes → IsInput s (w i).x
  pub no_votes : (i : ℕ) → i < s.nodes → (w i).votes ≡ 0
  pub no_open : (i : ℕ) → i < s.nodes → (w i).open_ ≡ 0
  pub votes : (i u : ℕ) → i < s.nodes → is_in (w i).vote u ≡ true → IsInput s u

-- a fit setup over k values, at most 64
pub record Suits (k : ℕ) (s : Setup) : Type 0 where
  pub small : k ≤ 64
  pub fit : IsFit k s

pub below : (k : ℕ) (s : Setup) → Suits k s → (v : ℕ) → IsInput s v → v < k
below k s ok v h =
    subst (λ x. x < k) h.2
    (All-get_or (λ x. x < k) s.inputs h.0 0 (omega (arith, h.1, ok.fit.inputs)) ok.fit.below)

-- the nodes that a node hears
abbrev pub hears : (ℕ → Bool) → ℕ → Bool
hears o j = not (o j) && true

pub hears_it : (o : ℕ → Bool) (j : ℕ) → o j ≡ false → hears o j ≡ true
hears_it o j e = ap (λ b. not b && true) e

empty_of : (s : ℕ) → s ≡ 0 → (u : ℕ) → is_in s u ≡ true → ⊥
empty_of s e u h = none_in u (subst (λ z. is_in z u ≡ true) e h)

-- ---- the first round

abbrev pub ear1 : (k : ℕ) → Setup → Round → (ℕ → ℕ → Bool) → World → ℕ → Node
ear1 k s r o w i =
    hear (take1 k s.nodes s.faults r i) (hears (o i))
    (λ j. message1 k s.nodes s.faults r (w j) j i) (range_with_len 0 s.nodes) (w i)

abbrev pub after1 : (k : ℕ) → Setup → Round → (ℕ → ℕ → Bool) → World → World
after1 k s r o w i = finish1 k s.nodes s.faults r i (ear1 k s r o w i)

pub record Ear1 (k : ℕ) (s : Setup) (o : ℕ → Bool) (w : World) (a b : Node) : Type 0 where
  pub x : b.x ≡ a.x
  pub votes : b.votes ≡ a.votes
  pub done : b.done ≡ a.done
  pub heard : (u : ℕ) → is_in b.open_ u ≡ true
      → (j : ℕ) × (j < s.nodes) × (hears o j ≡ true) × (u ≡ (w j).x)
  pub brings : (j : ℕ) → j < s.nodes → hears o j ≡ true → is_in b.open_ (w j).x ≡ true

pub hear1 : (k : ℕ) (s : Setup) (r : Round) (o : ℕ → ℕ → Bool) (w : World) → Suits k s
    → ((i : ℕ) → i < s.nodes → IsInput s (w i).x) → (i : ℕ) → (w i).open_ ≡ 0
    → Ear1 k s (o i) w (w i) (ear1 k s r o w i)
hear1 k s r o w ok inputs i none = record {
  x = frame (λ b. b.x ≡ (w i).x) (λ j b h. h) refl;
  votes = frame (λ b. b.votes ≡ (w i).votes) (λ j b h. h) refl;
  done = frame (λ b. b.done ≡ (w i).done) (λ j b h. h) refl;
  heard = kept Heard take c m 0 s.nodes
      (λ j lo hi t b h u g. more j (omega arith) t b h u (in_union b.open_ (only k (w j).x) u g))
      (w i) (λ u g. absurd (empty_of (w i).open_ none u g));
  brings = λ j hj t.
      let hv = below k s ok (w j).x (inputs j hj) in
      let small = ok.small in
      gained (λ b. is_in b.open_ (w j).x ≡ true) take c m 0 s.nodes j (omega arith) (omega arith) t
      (λ b. in_right b.open_ (only k (w j).x) (w j).x (omega arith) (only_itself k (w j).x hv))
      (λ q b h. in_left b.open_ (only k (w q).x) (w j).x (omega arith) h) (w i);
}
  where
    c : ℕ → Bool
    c = hears (o i)

    take : ℕ → Letter → Node → Node
    take = take1 k s.nodes s.faults r i

    m : ℕ → Letter
    m = λ j. message1 k s.nodes s.faults r (w j) j i

    frame : (J : Node → Type 0) → ((j : ℕ) (b : Node) → J b → J (take j (m j) b)) → J (w i)
        → J (ear1 k s r o w i)
    frame J step h = kept J take c m 0 s.nodes (λ j lo hi t b g. step j b g) (w i) h

    Heard : Node → Type 0
    Heard b = (u : ℕ) → is_in b.open_ u ≡ true
        → (j : ℕ) × (j < s.nodes) × (hears (o i) j ≡ true) × (u ≡ (w j).x)

    more : (j : ℕ) → j < s.nodes → c j ≡ true → (b : Node) → Heard b → (u : ℕ)
        → (is_in b.open_ u ≡ true) ⊎ (is_in (only k (w j).x) u ≡ true)
        → (j : ℕ) × (j < s.nodes) × (hears (o i) j ≡ true) × (u ≡ (w j).x)
    more j hj t b h u (inl g) = h u g
    more j hj t b h u (inr g) = (j, hj, t, (in_only k (w j).x u g).1)

-- a choice between two values that are both as they should be
pub chosen : (P : ℕ → Type 0) (b : Bool) (x y : ℕ) → (b ≡ true → P x) → (b ≡ false → P y)
    → P (cond b x y)
chosen P true x y f g = f refl
chosen P false x y f g = g refl

-- the node's new value is of what it heard, or the old one
pub x1 : (k : ℕ) (s : Setup) (r : Round) (o : ℕ → ℕ → Bool) (w : World) → Suits k s
    → ((i : ℕ) → i < s.nodes → IsInput s (w i).x) → (i : ℕ) → i < s.nodes → (w i).open_ ≡ 0
    → (P : ℕ → Type 0) → ((j : ℕ) → j < s.nodes → P (w j).x) → P (after1 k s r o w i).x
x1 k s r o w ok inputs i hi none P each =
    chosen P (nat_lt 0 (size b.open_)) (least k b.open_) b.x
    (λ t. let it = h.heard (least k b.open_) (least_is_in k b.open_ (ltb-true 0 (size b.open_) t)
    small) in subst P (sym it.3) (each it.0 it.1))
    (λ t. subst P (sym h.x) (each i hi))
  where
    b : Node
    b = ear1 k s r o w i

    h : Ear1 k s (o i) w (w i) b
    h = hear1 k s r o w ok inputs i none

    small : (v : ℕ) → is_in b.open_ v ≡ true → v < 64
    small v g =
        let it = h.heard v g in
        let lt = below k s ok (w it.0).x (inputs it.0 it.1) in
        omega (arith, it.3, ok.small)

-- a vote is the value of all nodes that the node heard
pub vote1 : (k : ℕ) (s : Setup) (r : Round) (o : ℕ → ℕ → Bool) (w : World) → Suits k s
    → ((i : ℕ) → i < s.nodes → IsInput s (w i).x) → (i : ℕ) → (w i).open_ ≡ 0 → (u : ℕ)
    → is_in (after1 k s r o w i).vote u ≡ true
    → ((j : ℕ) × (j < s.nodes) × (u ≡ (w j).x))
    × ((j : ℕ) → j < s.nodes → o i j ≡ false → (w j).x ≡ u)
vote1 k s r o w ok inputs i none u =
    chosen (λ vote. is_in vote u ≡ true → ((j : ℕ) × (j < s.nodes) × (u ≡ (w j).x))
    × ((j : ℕ) → j < s.nodes → o i j ≡ false → (w j).x ≡ u)) (size b.open_ == 1) b.open_ 0
    (λ t g. let it = h.heard u g in (
      (it.0, it.1, it.3),
      λ j hj e. one_member b.open_ (w j).x u (eqb-true (size b.open_) 1 t) (fits j hj)
          (let lt = fits it.0 it.1 in omega (arith, it.3))
          (h.brings j hj (hears_it (o i) j e)) g,
    ))
    (λ t g. absurd (none_in u g))
  where
    b : Node
    b = ear1 k s r o w i

    h : Ear1 k s (o i) w (w i) b
    h = hear1 k s r o w ok inputs i none

    fits : (j : ℕ) → j < s.nodes → (w j).x < 64
    fits j hj = let lt = below k s ok (w j).x (inputs j hj) in omega (arith, ok.small)

pub locked1 : (k : ℕ) (s : Setup) (q p : ℕ) (r : Round) (o : ℕ → ℕ → Bool) (w : World) (v : ℕ)
    → Suits k s → Valid s w → Locked s q w v → Locked s p (after1 k s r o w) v
locked1 k s q p r o w v ok inv l = record {
  all = λ i hi. x1 k s r o w ok inv.inputs i hi (inv.no_open i hi) (λ x. x ≡ v) l.all;
  votes = λ i u hi g.
      let it = vote1 k s r o w ok inv.inputs i (inv.no_open i hi) u g in
      it.0.2 ∙ l.all it.0.0 it.0.1;
}

pub valid1 : (k : ℕ) (s : Setup) (r : Round) (o : ℕ → ℕ → Bool) (w : World) → Suits k s
    → Valid s w → Valid s (after1 k s r o w)
valid1 k s r o w ok inv = record {
  inputs = λ i hi. x1 k s r o w ok inv.inputs i hi (inv.no_open i hi) (IsInput s) inv.inputs;
  no_votes = λ i hi. (hear1 k s r o w ok inv.inputs i (inv.no_open i hi)).votes ∙ inv.no_votes i hi;
  no_open = λ i hi. refl;
  votes = λ i u hi g.
      let it = vote1 k s r o w ok inv.inputs i (inv.no_open i hi) u g in
      subst (IsInput s) (sym it.0.2) (inv.inputs it.0.0 it.0.1);
}

-- ---- the second round

abbrev pub ear2 : (k : ℕ) → Setup → Round → (ℕ → ℕ → Bool) → World → ℕ → Node
ear2 k s r o w i =
    hear (take2 k s.nodes s.faults r i) (hears (o i))
    (λ j. message2 k s.nodes s.faults r (w j) j i) (range_with_len 0 s.nodes) (w i)

abbrev pub after2 : (k : ℕ) → Setup → Round → (ℕ → ℕ → Bool) → World → World
after2 k s r o w i = finish2 k s.nodes s.faults r i (ear2 k s r o w i)

pub record Ear2 (s : Setup) (o : ℕ → Bool) (w : World) (a b : Node) : Type 0 where
  pub x : b.x ≡ a.x
  pub done : b.done ≡ a.done
  pub heard : (u : ℕ) → is_in b.votes u ≡ true
      → (j : ℕ) × (j < s.nodes) × (is_in (w j).vote u ≡ true)
  pub brings : (j u : ℕ) → j < s.nodes → hears o j ≡ true → is_in (w j).vote u ≡ true
      → is_in b.votes u ≡ true
  pub heard_open : (u : ℕ) → is_in b.open_ u ≡ true → (j : ℕ) × (j < s.nodes) × (u ≡ (w j).x)
  pub brings_open : (j : ℕ) → j < s.nodes → hears o j ≡ true → (size (w j).vote == 0) ≡ true
      → is_in b.open_ (w j).x ≡ true

pub hear2 : (k : ℕ) (s : Setup) (r : Round) (o : ℕ → ℕ → Bool) (w : World) → Suits k s
    → Valid s w → (i : ℕ) → i < s.nodes → Ear2 s (o i) w (w i) (ear2 k s r o w i)
hear2 k s r o w ok inv i hi = record {
  x = frame (λ b. b.x ≡ (w i).x) (λ j b h. h) refl;
  done = frame (λ b. b.done ≡ (w i).done) (λ j b h. h) refl;
  heard = kept Heard take c m 0 s.nodes
      (λ j lo hj t b h u g. more j (omega arith) b h u (in_union b.votes (w j).vote u g))
      (w i) (λ u g. absurd (empty_of (w i).votes (inv.no_votes i hi) u g));
  brings = λ j u hj t g.
      let lt = below k s ok u (inv.votes j u hj g) in
      let small = ok.small in
      gained (λ b. is_in b.votes u ≡ true) take c m 0 s.nodes j (omega arith) (omega arith) t
      (λ b. in_right b.votes (w j).vote u (omega arith) g)
      (λ p b h. in_left b.votes (w p).vote u (omega arith) h) (w i);
  heard_open = kept Open take c m 0 s.nodes
      (λ j lo hj t b h u. chosen (λ z. is_in z u ≡ true
      → (j : ℕ) × (j < s.nodes) × (u ≡ (w j).x)) (size (w j).vote == 0)
      (union b.open_ (only k (w j).x)) b.open_
      (λ e g. more_open j (omega arith) b h u (in_union b.open_ (only k (w j).x) u g)) (λ e. h u))
      (w i) (λ u g. absurd (empty_of (w i).open_ (inv.no_open i hi) u g));
  brings_open = λ j hj t e.
      let lt = below k s ok (w j).x (inv.inputs j hj) in
      let small = ok.small in
      gained (λ b. is_in b.open_ (w j).x ≡ true) take c m 0 s.nodes j (omega arith) (omega arith) t
      (λ b. subst (λ z. is_in (cond z (union b.open_ (only k (w j).x)) b.open_) (w j).x ≡ true)
      (sym e) (in_right b.open_ (only k (w j).x) (w j).x (omega arith) (only_itself k (w j).x lt)))
      (λ p b h. chosen (λ z. is_in z (w j).x ≡ true) (size (w p).vote == 0)
      (union b.open_ (only k (w p).x)) b.open_
      (λ f. in_left b.open_ (only k (w p).x) (w j).x (omega arith) h) (λ f. h)) (w i);
}
  where
    c : ℕ → Bool
    c = hears (o i)

    take : ℕ → Letter → Node → Node
    take = take2 k s.nodes s.faults r i

    m : ℕ → Letter
    m = λ j. message2 k s.nodes s.faults r (w j) j i

    frame : (J : Node → Type 0) → ((j : ℕ) (b : Node) → J b → J (take j (m j) b)) → J (w i)
        → J (ear2 k s r o w i)
    frame J step h = kept J take c m 0 s.nodes (λ j lo hi t b g. step j b g) (w i) h

    Heard : Node → Type 0
    Heard b = (u : ℕ) → is_in b.votes u ≡ true
        → (j : ℕ) × (j < s.nodes) × (is_in (w j).vote u ≡ true)

    Open : Node → Type 0
    Open b = (u : ℕ) → is_in b.open_ u ≡ true → (j : ℕ) × (j < s.nodes) × (u ≡ (w j).x)

    more : (j : ℕ) → j < s.nodes → (b : Node) → Heard b → (u : ℕ)
        → (is_in b.votes u ≡ true) ⊎ (is_in (w j).vote u ≡ true)
        → (j : ℕ) × (j < s.nodes) × (is_in (w j).vote u ≡ true)
    more j hj b h u (inl g) = h u g
    more j hj b h u (inr g) = (j, hj, g)

    more_open : (j : ℕ) → j < s.nodes → (b : Node) → Open b → (u : ℕ)
        → (is_in b.open_ u ≡ true) ⊎ (is_in (only k (w j).x) u ≡ true)
        → (j : ℕ) × (j < s.nodes) × (u ≡ (w j).x)
    more_open j hj b h u (inl g) = h u g
    more_open j hj b h u (inr g) = (j, hj, (in_only k (w j).x u g).1)

-- the new value: a vote, if one was heard, or a node's value
pub x2 : (k : ℕ) (s : Setup) (r : Round) (o : ℕ → ℕ → Bool) (w : World) → Suits k s
    → Valid s w → (i : ℕ) → i < s.nodes
    → (P : ℕ → Type 0) → ((j u : ℕ) → j < s.nodes → is_in (w j).vote u ≡ true → P u)
    → ((0 < size (ear2 k s r o w i).votes → ⊥) → (j : ℕ) → j < s.nodes → P (w j).x)
    → P (after2 k s r o w i).x
x2 k s r o w ok inv i hi P vote each =
    chosen P (nat_lt 0 (size b.votes)) (least k b.votes)
    (cond (nat_lt 0 (size b.open_)) (least k b.open_) b.x)
    (λ t. let it = h.heard (least k b.votes) (least_is_in k b.votes (ltb-true 0 (size b.votes) t)
    (λ v g. let p = h.heard v g in fits v (inv.votes p.0 v p.1 p.2))) in
    vote it.0 (least k b.votes) it.1 it.2)
    (λ t. let none = ltb-false 0 (size b.votes) t in
    let all = each (λ some. omega arith) in
    chosen P (nat_lt 0 (size b.open_)) (least k b.open_) b.x
    (λ e. let it = h.heard_open (least k b.open_) (least_is_in k b.open_
    (ltb-true 0 (size b.open_) e) (λ v g. let p = h.heard_open v g in
    fits v (subst (IsInput s) (sym p.2) (inv.inputs p.0 p.1)))) in
    subst P (sym it.2) (all it.0 it.1))
    (λ e. subst P (sym h.x) (all i hi)))
  where
    b : Node
    b = ear2 k s r o w i

    h : Ear2 s (o i) w (w i) b
    h = hear2 k s r o w ok inv i hi

    fits : (v : ℕ) → IsInput s v → v < 64
    fits v g = let lt = below k s ok v g in omega (arith, ok.small)

-- a lock stays
pub locked2 : (k : ℕ) (s : Setup) (q p : ℕ) (r : Round) (o : ℕ → ℕ → Bool) (w : World) (v : ℕ)
    → Suits k s → Valid s w → Locked s q w v → Locked s p (after2 k s r o w) v
locked2 k s q p r o w v ok inv l = record {
  all = λ i hi. x2 k s r o w ok inv i hi (λ x. x ≡ v) (λ j u hj g. l.votes j u hj g)
      (λ none j hj. l.all j hj);
  votes = λ i u hi g. absurd (none_in u g);
}

pub valid2 : (k : ℕ) (s : Setup) (r : Round) (o : ℕ → ℕ → Bool) (w : World) → Suits k s
    → Valid s w → Valid s (after2 k s r o w)
valid2 k s r o w ok inv = record {
  inputs = λ i hi. x2 k s r o w ok inv i hi (IsInput s) (λ j u hj g. inv.votes j u hj g)
      (λ none j hj. inv.inputs j hj);
  no_votes = λ i hi. refl;
  no_open = λ i hi. refl;
  votes = λ i u hi g. absurd (none_in u g);
}

-- a node that has decided has some decision after each later round
pub keeps : (k : ℕ) (s : Setup) (p number phase : ℕ) (o : ℕ → ℕ → Bool) (w : World) (i v : ℕ)
    → Suits k s → Valid s w → i < s.nodes → decided (w i) ≡ Some v
    → (u : ℕ) × (decided (next_world (machine k s.nodes s.faults) s.nodes
    (record { position = p; number = number; phase = phase }) o w i) ≡ Some u)
keeps k s zero number phase o w i v ok inv hi d = (
  v,
  ap (λ z. first_member (members z))
      (hear1 k s (record { position = 0; number = number; phase = phase }) o w ok inv.inputs i
      (inv.no_open i hi)).done ∙ d,
)
keeps k s (suc p) number phase o w i v ok inv hi d =
    chosen (λ z. (u : ℕ) × (first_member (members z) ≡ Some u))
    ((size b.votes == 1) && (size b.open_ == 0)) b.votes b.done
    (λ t. let one = eqb-true (size b.votes) 1
    (and_parts (size b.votes == 1) (size b.open_ == 0) t).0 in
    let m = some_member b.votes (omega arith) in
    let it = h.heard m.0 m.1 in
    some_first b.votes m.0 (let lt = below k s ok m.0 (inv.votes it.0 m.0 it.1 it.2) in
    omega (arith, ok.small)) m.1)
    (λ t. (v, ap (λ z. first_member (members z)) h.done ∙ d))
  where
    b : Node
    b = ear2 k s (record { position = suc p; number = number; phase = phase }) o w i

    h : Ear2 s (o i) w (w i) b
    h = hear2 k s (record { position = suc p; number = number; phase = phase }) o w ok inv i hi
