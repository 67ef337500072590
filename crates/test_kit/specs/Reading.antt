-- The words, parts and numbers of texts.
use Rattle.std.specs.Prelude.{◌≡◌, ◌==◌, ◌<◌, ◌^◌, ◌++◌, ◌⊎◌, ℕ, Bool, List, [], ◌∷◌, Option}
use Rattle.std.specs.Prelude.{codes, map, ⊤}
use Rattle.std.specs.Borrow.{Bor}
use Rattle.std.specs.Iterator.{Drains, Yields}
use Rattle.std.specs.List.{slice_split}
use Rattle.std.specs.Str.Parse.{IsNumeral, digits_value, without_leading_plus}

-- ` `
abbrev pub is_blank : ℕ → Bool
is_blank byte = byte == 32

-- `|`
abbrev pub is_bar : ℕ → Bool
is_bar byte = byte == 124

-- decimal digits, with or without a plus before them, that write this number of 32 bits
pub record Writes (text : List ℕ) (n : ℕ) : Type 0 where
  pub digits : IsNumeral 10 (without_leading_plus text)
  pub value : n ≡ digits_value 10 (without_leading_plus text)
  pub small : n < 2 ^ 32

-- each text writes the number at its place
abbrev pub WriteAll : List (List ℕ) → List ℕ → Type 0
WriteAll [] [] = ⊤
WriteAll (text ∷ texts) (n ∷ ns) = Writes text n × WriteAll texts ns
WriteAll _ _ = ⊥

-- `,`
abbrev pub is_comma : ℕ → Bool
is_comma byte = byte == 44

-- `-` is a list of no numbers, and any other text is one if its parts between the commas write them
abbrev pub IsListText : List ℕ → List ℕ → Type 0
IsListText text ns = (text ≡ codes "-") × (ns ≡ []) ⊎ WriteAll (slice_split is_comma text) ns

-- by these steps an iterator gives texts that write the numbers, and ends
abbrev pub GivesNumbers : {S : Type 0} → (S → Option (Bor (List ℕ)) → S → Type 0) → S → List ℕ
    → Type 0
GivesNumbers steps s ns = (texts : List (Bor (List ℕ))) × Drains steps s texts
    × WriteAll (map (λ text. text.now) texts) ns

-- by these steps an iterator gives a text that writes no number
abbrev pub GivesOther : {S : Type 0} → (S → Option (Bor (List ℕ)) → S → Type 0) → S → Type 0
GivesOther {S} steps s = (texts : List (Bor (List ℕ))) × (text : Bor (List ℕ)) × (t : S)
    × Yields steps s (texts ++ text ∷ []) t × ((n : ℕ) → ¬ (Writes text.now n))
