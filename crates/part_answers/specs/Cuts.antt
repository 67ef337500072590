-- Cutting texts.
use Rattle.std.specs.Prelude.{◌≡◌, ◌≢◌, ◌<◌, ◌++◌, ◌∷◌, ℕ, List, length, get_or}

-- no byte of the text is this mark
abbrev pub Lacks : (mark : ℕ) → List ℕ → Type 0
Lacks mark text = (i : ℕ) → i < length text → get_or text i 0 ≢ mark

-- the text is cut at its first mark
abbrev pub IsCut : (mark : ℕ) → (text before after : List ℕ) → Type 0
IsCut mark text before after = (text ≡ before ++ mark ∷ after) × Lacks mark before
