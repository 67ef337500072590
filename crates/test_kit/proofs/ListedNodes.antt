-- A set of the numbers of a list.
use Rattle.std.proofs.Common.{◌≡◌, ℕ, Bool, true, false, List, [], ◌∷◌, ◌++◌, refl, sym, ap}
use Rattle.std.proofs.Common.{ap₂, ◌∙◌}
use Rattle.std.specs.Prelude.{◌||◌, nat_eq}
use Rattle.std.specs.List.{list_any}
use Rattle.std.proofs.lemmas.List.Folds.{list_any-append}
use Rattle.round_lang.specs.Sets.{is_in, only, union}
use Rattle.round_lang.proofs.SetLaws.{is_in-wide}
use Rattle.round_meaning.proofs.SetReading.{none_in}
use Rattle.test_kit.specs.Setups.{HasJust}

-- no number is listed
pub just_none : (set : ℕ) → set ≡ 0 → HasJust [] set
just_none set e k h = by (is_in set k) refl
  where
    by : (b : Bool) → is_in set k ≡ b → b ≡ false
    by false is = refl
    by true is = absurd (none_in k (ap (λ s. is_in s k) (sym e) ∙ is))

or_last : (a b : Bool) → (a || b) ≡ (a || (b || false))
or_last true b = refl
or_last false true = refl
or_last false false = refl

-- one number more
pub just_more : (set more n : ℕ) (list : List ℕ) → more ≡ union set (only 64 n) → HasJust list set
    → HasJust (list ++ n ∷ []) more
just_more set more n list e are k h =
    ap (λ s. is_in s k) e ∙ is_in-wide (λ v. is_in set v || is_in (only 64 n) v) k h
    ∙ ap₂ (λ a b. a || b) (are k h) (is_in-wide (λ v. nat_eq v n) k h)
    ∙ or_last (list_any (nat_eq k) list) (nat_eq k n)
    ∙ sym (list_any-append (nat_eq k) list (n ∷ []))
