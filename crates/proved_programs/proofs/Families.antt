-- The programs of an algorithm are those of its text, but for their number of values.
use Rattle.std.proofs.Common.{◌≡◌, ◌≢◌, ◌≤◌, ℕ, List, [], ◌∷◌, Result, refl, sym, ◌∙◌, subst}
use Rattle.std.proofs.Common.{IfOk, take, get_or, arith, Bool, true, false, ◌+◌, ◌<◌}
use Rattle.std.proofs.lemmas.List.Elements.{All-more}
use Rattle.std.specs.Prelude.{All, ◌↔◌}
use Rattle.round_lang.specs.Source.{IsSource}
use Rattle.round_lang.specs.Syntax.{ProgramTree}
use Rattle.round_lang.proofs.Whole.{one_source}
use Rattle.program_slices.proofs.Lists.{if_ok_weaker}
use Rattle.round_proofs.specs.Texts.{IsFamilyText}
use Rattle.proved_programs.specs.Proved.{IsOf, IsProved, family_of, own_of, with_values}
use Rattle.proved_programs.specs.declared.algorithm.Algorithm.{Algorithm}
use Rattle.proved_programs.specs.declared.algorithm.Algorithm.TheVariants as a

-- the program of a family's own text
own_is : {text : List ℕ} {own : ℕ} {family : ℕ → ProgramTree} → IsFamilyText text own family
    → 1 ≤ own → own ≤ 64 → (p : ProgramTree) → IsSource text p → p ≡ family own
own_is {text} {own} {family} t some few p s =
    one_source text p (family own) s
    (subst (λ x. IsSource x (family own)) (sym t.is) (t.source own some few))

pub own_program_is : {E : Type 0} {text : List ℕ} {own : ℕ} {family : ℕ → ProgramTree}
    → IsFamilyText text own family → 1 ≤ own → own ≤ 64 → (x : Algorithm)
    → family own ≡ own_of x → (r : Result ProgramTree E) → IfOk r (IsSource text)
    → IfOk r (λ p. p ≡ own_of x)
own_program_is {text = text} t some few x e r h =
    if_ok_weaker (IsSource text) (λ p. p ≡ own_of x) r (λ p s. own_is t some few p s ∙ e) h

pub of_named : {E : Type 0} {x y : Algorithm} → x ≡ y → (r : Result ProgramTree E)
    → IfOk r (λ p. p ≡ own_of y) → IfOk r (λ p. p ≡ own_of x)
of_named e r h = subst (λ z. IfOk r (λ p. p ≡ own_of z)) (sym e) h

-- what is proved of an algorithm that is known by its name
pub named : {x y : Algorithm} (p : ProgramTree) → x ≡ y → (IsOf y p → IsProved y p) → IsOf x p
    → IsProved x p
named p e f h = subst (λ x. IsProved x p) (sym e) (f (subst (λ x. IsOf x p) e h))

pub of_family : (P : ProgramTree → Type 0) (family : ℕ → ProgramTree) (p : ProgramTree)
    → p.values ≤ 64 → ((k : ℕ) → k ≤ 64 → P (family k)) → p ≡ family p.values → P p
of_family P family p few all is = subst P (sym is) (all p.values few)

family_is : (x : Algorithm) (k : ℕ) → with_values (own_of x) k ≡ family_of x k
family_is a.Algorithm1 k = refl
family_is a.EagerAlgorithm1 k = refl
family_is a.OneThirdRule k = refl
family_is a.UniformVoting k = refl
family_is a.LastVoting k = refl
family_is a.RotatingCoordinator k = refl
family_is a.Flooding k = refl
family_is a.EarlyFlooding k = refl
family_is a.FloodMin k = refl
family_is a.TwoPhaseCommit k = refl

-- of the others than two-phase commit, the number of values may be any
pub is_of : (x : Algorithm) (p : ProgramTree) → x ≢ a.TwoPhaseCommit
    → (p ≡ with_values (own_of x) p.values → IsOf x p)
    × (IsOf x p → p ≡ with_values (own_of x) p.values)
is_of x p other = go x other
  where
    go : (x : Algorithm) → x ≢ a.TwoPhaseCommit
        → (p ≡ with_values (own_of x) p.values → IsOf x p)
        × (IsOf x p → p ≡ with_values (own_of x) p.values)
    go a.Algorithm1 n = (λ h. h ∙ family_is a.Algorithm1 p.values, λ h. h)
    go a.EagerAlgorithm1 n = (λ h. h ∙ family_is a.EagerAlgorithm1 p.values, λ h. h)
    go a.OneThirdRule n = (λ h. h ∙ family_is a.OneThirdRule p.values, λ h. h)
    go a.UniformVoting n = (λ h. h ∙ family_is a.UniformVoting p.values, λ h. h)
    go a.LastVoting n = (λ h. h ∙ family_is a.LastVoting p.values, λ h. h)
    go a.RotatingCoordinator n = (λ h. h ∙ family_is a.RotatingCoordinator p.values, λ h. h)
    go a.Flooding n = (λ h. h ∙ family_is a.Flooding p.values, λ h. h)
    go a.EarlyFlooding n = (λ h. h ∙ family_is a.EarlyFlooding p.values, λ h. h)
    go a.FloodMin n = (λ h. h ∙ family_is a.FloodMin p.values, λ h. h)
    go a.TwoPhaseCommit n = absurd (n refl)

-- all algorithms
abbrev algorithms : List Algorithm
algorithms =
    a.Algorithm1 ∷ a.EagerAlgorithm1 ∷ a.OneThirdRule ∷ a.UniformVoting ∷ a.LastVoting
    ∷ a.RotatingCoordinator ∷ a.Flooding ∷ a.EarlyFlooding ∷ a.FloodMin ∷ a.TwoPhaseCommit ∷ []

pub tried : (p : ProgramTree) (n : ℕ) (x : Algorithm) (answer : Bool) → n < 10
    → All (λ x. IsOf x p → ⊥) (take n algorithms)
    → (answer ≡ true ↔ IsOf (get_or algorithms n x) p) → answer ≡ false
    → All (λ x. IsOf x p → ⊥) (take (n + 1) algorithms)
tried p n x answer lt h is e =
    All-more (λ x. IsOf x p → ⊥) algorithms n x lt h
    (λ y. let clash : false ≡ true = sym e ∙ is.1 y in absurd cc)

pub none_of : (p : ProgramTree) (n : ℕ) → n ≡ 10
    → All (λ x. IsOf x p → ⊥) (take n algorithms) → (x : Algorithm) → IsOf x p → ⊥
none_of p n e h x is = go x (subst (λ m. All (λ x. IsOf x p → ⊥) (take m algorithms)) e h) is
  where
    go : (x : Algorithm) → All (λ x. IsOf x p → ⊥) algorithms → IsOf x p → ⊥
    go a.Algorithm1 all = all 0 x (omega arith)
    go a.EagerAlgorithm1 all = all 1 x (omega arith)
    go a.OneThirdRule all = all 2 x (omega arith)
    go a.UniformVoting all = all 3 x (omega arith)
    go a.LastVoting all = all 4 x (omega arith)
    go a.RotatingCoordinator all = all 5 x (omega arith)
    go a.Flooding all = all 6 x (omega arith)
    go a.EarlyFlooding all = all 7 x (omega arith)
    go a.FloodMin all = all 8 x (omega arith)
    go a.TwoPhaseCommit all = all 9 x (omega arith)
