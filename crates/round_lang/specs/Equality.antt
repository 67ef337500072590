-- Equality as a test, at any type whose values have codes that tell them apart.
use Rattle.std.specs.Prelude.{◌≡◌, ◌↔◌, Bool, true, false, ◌&&◌, nat_eq, IsTrue}
use Rattle.std.specs.Bool.{Decides, one_answer}
use Rattle.std.specs.Cmp.{IsEquivalence, IsPartialEquivalence, decided, partial_equiv_from_equiv}
use Rattle.std.specs.Cmp.{first_so, second_so}
use Rattle.std.specs.Coded.{Coded}
use Rattle.std.proofs.Common.{ap, rules}
use base.Stored.{Gv, gnil, gnum, gcons}

-- whether two codes are one
abbrev pub is_same_code : Gv → Gv → Bool
is_same_code gnil gnil = true
is_same_code (gnum m) (gnum n) = nat_eq m n
is_same_code (gcons a b) (gcons c d) = is_same_code a c && is_same_code b d
is_same_code g h = false

-- whether two values are one, which their codes tell
unfoldable pub is_same : {A : Type 0} → Coded A → A → A → Bool
is_same c x y = is_same_code (c.code x) (c.code y)

both : {s t : Bool} → s ≡ true → t ≡ true → (s && t) ≡ true
both p q = λ i. p i && q i

pub code_decides : (g h : Gv) → Decides (is_same_code g h) (g ≡ h)
code_decides gnil gnil = search rules
code_decides gnil (gnum n) = search rules
code_decides gnil (gcons c d) = search rules
code_decides (gnum m) gnil = search rules
code_decides (gnum m) (gnum n) = search rules
code_decides (gnum m) (gcons c d) = search rules
code_decides (gcons a b) gnil = search rules
code_decides (gcons a b) (gnum n) = search rules
code_decides (gcons a b) (gcons c d) =
    let first = code_decides a c in
    let second = code_decides b d in (
      λ e i. gcons (first.0 (first_so _ _ e) i) (second.0 (second_so _ _ e) i),
      λ p. both (first.1 (cc)) (second.1 (cc)),
    )

module _ {A : Type 0} (c : Coded A) where
  -- what a caller of `==` needs: the test answers true exactly if the values are one
  pub is_same_decides : (x y : A) → Decides (is_same c x y) (x ≡ y)
  unfolding is_same
  is_same_decides x y =
      let d = code_decides (c.code x) (c.code y) in
      (λ e. c.inj x y (d.0 e), λ p. d.1 (ap c.code p))

  pub is_same_equiv : IsEquivalence (is_same c)
  is_same_equiv = decided (is_same c) is_same_decides

  pub is_same_per : IsPartialEquivalence (is_same c)
  is_same_per = partial_equiv_from_equiv is_same_equiv

  -- an answer that tells the same values apart is that of the test
  pub is_same_answer : (x y : A) (r : Bool) → (IsTrue r ↔ (x ≡ y)) → r ≡ is_same c x y
  is_same_answer x y r h = one_answer r (is_same c x y) h (is_same_decides x y)
