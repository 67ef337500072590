-- What is left of a row's lines.
use Rattle.std.proofs.Common.{◌≡◌, ℕ, ◌+◌, ◌<◌, List, [], ◌∷◌, ◌++◌, Bool, true, false, ap, sym}
use Rattle.std.proofs.Common.{◌∙◌, append_assoc, append-nil}
use Rattle.std.specs.List.{flat_map}
use Rattle.round_lang.specs.Sets.{is_in, members}
use Rattle.run_data.proofs.Left.{members_all, members_first, members_from, members_later}
use Rattle.run_data.proofs.Left.{members_none}

-- the text, with what is left from i on, is the whole
abbrev pub IsLeft : (ℕ → List ℕ) → (s i : ℕ) → (text whole : List ℕ) → Type 0
IsLeft f s i text whole = text ++ flat_map f (members_from s i) ≡ whole

module _ (f : ℕ → List ℕ) (s : ℕ) where
  pub left_all : (text : List ℕ) → IsLeft f s 0 text (text ++ flat_map f (members s))
  left_all text = ap (λ ms. text ++ flat_map f ms) (members_all s)

  pub left_first : (i : ℕ) (text next whole : List ℕ) → i < 64 → is_in s i ≡ true
      → next ≡ text ++ f i → IsLeft f s i text whole → IsLeft f s (i + 1) next whole
  left_first i text next whole below is grown before =
      ap (λ t. t ++ flat_map f (members_from s (i + 1))) grown
      ∙ append_assoc text (f i) (flat_map f (members_from s (i + 1)))
      ∙ ap (λ ms. text ++ flat_map f ms) (sym (members_first s i below is)) ∙ before

  pub left_later : (i : ℕ) (text whole : List ℕ) → i < 64 → is_in s i ≡ false
      → IsLeft f s i text whole → IsLeft f s (i + 1) text whole
  left_later i text whole below is before =
      ap (λ ms. text ++ flat_map f ms) (sym (members_later s i below is)) ∙ before

  pub left_none : (text whole : List ℕ) → IsLeft f s 64 text whole → text ≡ whole
  left_none text whole before =
      sym (append-nil text) ∙ ap (λ ms. text ++ flat_map f ms) (sym (members_none s)) ∙ before
