-- A set of nodes from their list.
use Rattle.std.proofs.Common.{◌≡◌, ℕ, ◌+◌, ◌<◌, Bool, true, false, List, [], ◌∷◌, ◌++◌, get_or}
use Rattle.std.proofs.Common.{length, refl, sym, subst, ap, ap₂, ◌∙◌, arith, inl, inr}
use Rattle.std.specs.Prelude.{◌&&◌, ◌||◌, nat_eq, nat_lt}
use Rattle.std.specs.List.{list_any}
use Rattle.std.proofs.lemmas.Bool.{cases_lt}
use Rattle.std.proofs.lemmas.Bool.Decides.{nat_tests}
use Rattle.std.proofs.lemmas.List.{get_or_default}
use Rattle.std.proofs.lemmas.List.Folds.{list_any-append}
use Rattle.round_lang.specs.Sets.{is_in, only, union}
use Rattle.round_lang.proofs.SetLaws.{is_in-set_of}
use Rattle.omission_explainer.proofs.Parts.{nodes_none, nodes_with}
use Rattle.command_runs.specs.Explained.{AreListed}

below : (i : ℕ) → i < 64 → nat_lt i 64 ≡ true
below i h = grind (arith, nat_tests)

no_member : (members i : ℕ) → members ≡ 0 → is_in members i ≡ false
no_member members i e = go (is_in members i) refl
  where
    go : (b : Bool) → is_in members i ≡ b → b ≡ false
    go false h = refl
    go true h = let none : i < 0 = nodes_none 0 members e i h in absurd (omega (arith, none))

-- no node is listed
pub listed_none : (nodes members : ℕ) → members ≡ 0 → AreListed nodes [] members
listed_none nodes members e = record {
  nodes_alone = nodes_none nodes members e;
  listed = λ i h. no_member members i e;
}

or_last : (a b : Bool) → (a || b) ≡ (a || (b || false))
or_last true b = refl
or_last false true = refl
or_last false false = refl

-- one node more
pub listed_more : (nodes members more n : ℕ) (list : List ℕ) → n < nodes
    → more ≡ union members (only 64 n) → AreListed nodes list members
    → AreListed nodes (list ++ n ∷ []) more
listed_more nodes members more n list within e are = record {
  nodes_alone = nodes_with nodes members more n within e are.nodes_alone;
  listed = λ i h.
      let one : is_in (only 64 n) i ≡ nat_eq i n =
      is_in-set_of 64 (λ v. nat_eq v n) i ∙ ap (λ b. b && nat_eq i n) (below i h) in
      ap (λ s. is_in s i) e
      ∙ is_in-set_of 64 (λ v. is_in members v || is_in (only 64 n) v) i
      ∙ ap (λ b. b && (is_in members i || is_in (only 64 n) i)) (below i h)
      ∙ ap₂ (λ a b. a || b) (are.listed i h) one
      ∙ or_last (list_any (nat_eq i) list) (nat_eq i n)
      ∙ sym (list_any-append (nat_eq i) list (n ∷ []));
}

-- one number more below a bound
pub below_more : (nodes : ℕ) (list : List ℕ) (i e : ℕ) → i < length list → get_or list i e < nodes
    → ((k d : ℕ) → k < i → get_or list k d < nodes) → (k d : ℕ) → k < i + 1
    → get_or list k d < nodes
below_more nodes list i e inside one h k d within =
    elim (cases_lt k i) [
      | inl before ↦ h k d before
      | inr past ↦
          let here : k ≡ i = omega (arith, within, past) in
          subst (λ j. get_or list j d < nodes) (sym here)
          (subst (λ n. n < nodes) (get_or_default list i e d inside) one)
    ]
