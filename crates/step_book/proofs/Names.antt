-- Names are equal by their parts.
use Rattle.std.proofs.Common.{◌≡◌, ℕ, ◌≤◌, ◌==◌, ◌&&◌, true, false, refl, ap, sym, ◌∙◌, arith}
use Rattle.std.proofs.Common.{◌⊎◌, inl, inr}
use Rattle.std.proofs.lemmas.Bool.{and_from, and_parts, cases_eq, eq-eqb, eqb-true}
use Rattle.std.proofs.lemmas.Bool.{false_from_ne_true}
use Rattle.round_meaning.specs.Setups.{IsSetup}
use Rattle.round_meaning.specs.declared.setup.Setup.{Setup}
use Rattle.run_events.specs.declared.name.Name.{Name}
use Rattle.run_events.specs.Names.{original}
use Rattle.step_book.specs.Names.{IsName, IsNameOf}
use Rattle.step_book.specs.Trace.{is_name}
use Rattle.run_events.specs.Stored.{IsStorableName}

-- the numbers of a name of a run are small enough to be stored
pub storable_name : (s : Setup) → IsSetup s → (n : Name) → IsName s n → IsStorableName n
storable_name s h n a = record {
  from = let few = h.few_nodes in let from = a.from in omega arith;
  to = let few = h.few_nodes in let to = a.to in omega arith;
  round = let few = h.few_rounds in let last = a.last in omega arith;
  copy = let copy = a.copy in omega arith;
}

pub name_same : (n m : Name) → n.from ≡ m.from → n.to ≡ m.to → n.round ≡ m.round → n.copy ≡ m.copy
    → n ≡ m
name_same n m a b c d =
    ap (λ x. record { from = x; to = n.to; round = n.round; copy = n.copy }) a
    ∙ ap (λ x. record { from = m.from; to = x; round = n.round; copy = n.copy }) b
    ∙ ap (λ x. record { from = m.from; to = m.to; round = x; copy = n.copy }) c
    ∙ ap (λ x. record { from = m.from; to = m.to; round = m.round; copy = x }) d

pub own_name : (n : Name) → is_name n n ≡ true
own_name n =
    and_from _ _ (and_from _ _ (and_from _ _ (eq-eqb n.from n.from refl) (eq-eqb n.to n.to refl))
    (eq-eqb n.round n.round refl)) (eq-eqb n.copy n.copy refl)

pub one_name : (n m : Name) → is_name n m ≡ true → m ≡ n
one_name n m h =
    let outer : ((m.from == n.from && m.to == n.to && m.round == n.round) ≡ true)
    × ((m.copy == n.copy) ≡ true) = and_parts _ _ h in
    let middle : ((m.from == n.from && m.to == n.to) ≡ true)
    × ((m.round == n.round) ≡ true) = and_parts _ _ outer.0 in
    let inner : ((m.from == n.from) ≡ true) × ((m.to == n.to) ≡ true) = and_parts _ _ middle.0 in
    name_same m n (eqb-true _ _ inner.0) (eqb-true _ _ inner.1) (eqb-true _ _ middle.1)
    (eqb-true _ _ outer.1)

pub other_name : (n m : Name) → (m ≡ n → ⊥) → is_name n m ≡ false
other_name n m apart = false_from_ne_true _ (λ h. apart (one_name n m h))

name_cases_by : (n m : Name) → (n.from ≡ m.from) ⊎ (n.from ≡ m.from → ⊥)
    → (n.to ≡ m.to) ⊎ (n.to ≡ m.to → ⊥) → (n.round ≡ m.round) ⊎ (n.round ≡ m.round → ⊥)
    → (n.copy ≡ m.copy) ⊎ (n.copy ≡ m.copy → ⊥) → (n ≡ m) ⊎ (n ≡ m → ⊥)
name_cases_by n m (inl a) (inl b) (inl c) (inl d) = inl (name_same n m a b c d)
name_cases_by n m (inr a) b c d = inr (λ e. a (ap (λ (x : Name). x.from) e))
name_cases_by n m (inl a) (inr b) c d = inr (λ e. b (ap (λ (x : Name). x.to) e))
name_cases_by n m (inl a) (inl b) (inr c) d = inr (λ e. c (ap (λ (x : Name). x.round) e))
name_cases_by n m (inl a) (inl b) (inl c) (inr d) = inr (λ e. d (ap (λ (x : Name). x.copy) e))

-- names are one or two
pub name_cases : (n m : Name) → (n ≡ m) ⊎ (n ≡ m → ⊥)
name_cases n m = name_cases_by n m (cases_eq _ _) (cases_eq _ _) (cases_eq _ _) (cases_eq _ _)

-- a name of copy 0 is its own original
pub is_original : (n : Name) → n.copy ≡ 0 → original n ≡ n
is_original n h = name_same (original n) n refl refl refl (sym h)

-- the original of a name of a run is one too
pub original_named : (nodes rounds : ℕ) (n : Name) → IsNameOf nodes rounds n
    → IsNameOf nodes rounds (original n)
original_named nodes rounds n h = record {
  from = h.from;
  to = h.to;
  first = h.first;
  last = h.last;
  copy = omega arith;
}

-- and so is each of its copies
pub copy_named : (nodes rounds k : ℕ) (n : Name) → k ≤ 3 → IsNameOf nodes rounds n
    → IsNameOf nodes rounds (record n { copy = k })
copy_named nodes rounds k n l h = record {
  from = h.from;
  to = h.to;
  first = h.first;
  last = h.last;
  copy = l;
}
