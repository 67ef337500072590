-- A text is cut at its first mark in one way.
use Rattle.std.proofs.Common.{◌≡◌, ◌≢◌, ◌++◌, ◌∷◌, [], ℕ, List, arith, sym}
use Rattle.std.proofs.Common.{zero, suc, ◌∙◌, refl}
use Rattle.std.proofs.Common.{true, eqb, false}
use Rattle.std.specs.List.{list_all}
use Rattle.std.specs.Prelude.{not}
use Rattle.std.proofs.lemmas.Bool.{and_parts}
use Rattle.std.proofs.lemmas.Bool.Decides.{nat_tests}
use Rattle.part_answers.specs.Cuts.{IsCut, Lacks}

pub lacks_tail : (mark b : ℕ) (text : List ℕ) → Lacks mark (b ∷ text) → Lacks mark text
lacks_tail mark b text lacks i below = lacks (suc i) (omega (arith, below))

lacks_head : (mark b : ℕ) (text : List ℕ) → Lacks mark (b ∷ text) → b ≢ mark
lacks_head mark b text lacks = lacks 0 (omega arith)

pub lacks_nothing : (mark : ℕ) → Lacks mark []
lacks_nothing mark i below = absurd (omega (arith, below))

pub lacks_more : (mark b : ℕ) (text : List ℕ) → b ≢ mark → Lacks mark text → Lacks mark (b ∷ text)
lacks_more mark b text other lacks zero below = other
lacks_more mark b text other lacks (suc i) below = lacks i (omega (arith, below))

is_other : (mark b : ℕ) → not (eqb b mark) ≡ true → b ≢ mark
is_other mark b tested same = let bad : not (eqb b mark) ≡ false = grind (arith, nat_tests) in
    absurd (cc (sym tested ∙ bad))

-- the same by a test of each byte, which is computed where the text is written out
pub lacks_tested : (mark : ℕ) (text : List ℕ) → list_all (λ b. not (eqb b mark)) text ≡ true
    → Lacks mark text
lacks_tested mark [] all = lacks_nothing mark
lacks_tested mark (b ∷ text) all =
    let parts = and_parts (not (eqb b mark)) (list_all (λ b. not (eqb b mark)) text) all in
    lacks_more mark b text (is_other mark b parts.0) (lacks_tested mark text parts.1)

-- a text of two that lack a mark lacks it
pub lacks_both : (mark : ℕ) (a b : List ℕ) → Lacks mark a → Lacks mark b → Lacks mark (a ++ b)
lacks_both mark [] b first second = second
lacks_both mark (x ∷ a) b first second =
    lacks_more mark x (a ++ b) (lacks_head mark x a first)
    (lacks_both mark a b (lacks_tail mark x a first) second)

-- the parts round the first mark are those of any such cut
pub same_cut : (mark : ℕ) (a b x y : List ℕ) → Lacks mark a → Lacks mark x
    → a ++ mark ∷ b ≡ x ++ mark ∷ y → (a ≡ x) × (b ≡ y)
same_cut mark [] b [] y first second same = (refl, cc)
same_cut mark [] b (m ∷ x) y first second same =
    let is : m ≡ mark = cc in absurd (lacks_head mark m x second is)
same_cut mark (l ∷ a) b [] y first second same =
    let is : l ≡ mark = cc in absurd (lacks_head mark l a first is)
same_cut mark (l ∷ a) b (m ∷ x) y first second same =
    let is : l ≡ m = cc in
    let rest : a ++ mark ∷ b ≡ x ++ mark ∷ y = cc in
    let parts = same_cut mark a b x y (lacks_tail mark l a first) (lacks_tail mark m x second) rest
    in
    let front : a ≡ x = parts.0 in (cc, parts.1)

-- a text with a mark doesn't lack it
pub cut_somewhere : (mark : ℕ) (text a b : List ℕ) → Lacks mark text → text ≢ a ++ mark ∷ b
cut_somewhere mark [] [] b lacks same = absurd (cc same)
cut_somewhere mark [] (m ∷ a) b lacks same = absurd (cc same)
cut_somewhere mark (l ∷ text) [] b lacks same =
    let is : l ≡ mark = cc in lacks_head mark l text lacks is
cut_somewhere mark (l ∷ text) (m ∷ a) b lacks same =
    let rest : text ≡ a ++ mark ∷ b = cc in
    cut_somewhere mark text a b (lacks_tail mark l text lacks) rest

-- a text's cut is the one that is found
pub cut_is : (mark : ℕ) (text a b x y : List ℕ) → IsCut mark text a b → Lacks mark x
    → text ≡ x ++ mark ∷ y → (a ≡ x) × (b ≡ y)
cut_is mark text a b x y cut lacks same = same_cut mark a b x y cut.1 lacks (sym cut.0 ∙ same)
