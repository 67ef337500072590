-- What was read of a file.
use Rattle.std.specs.Prelude.{◌≡◌, ◌<◌, ◌≤◌, ◌+◌, ⊤, ℕ, IfSome, List, Option, length, take}
use Rattle.std.specs.Str.{IsUtf8}
use Rattle.schedule_text.specs.Bytes.{BeginsUtf8, IsLongText, IsNoText, IsText}
use Rattle.command_runs.specs.declared.texts.Text.{Text}
use Rattle.command_runs.specs.declared.texts.Text.TheVariants as text
use Rattle.command_runs.specs.declared.texts.Unfit.{Unfit}
use Rattle.command_runs.specs.declared.texts.Unfit.TheVariants as unfit

-- what a desk holds under each name, where it says so
abbrev pub Files : Type 0
Files = List ℕ → Option (List ℕ)

-- what was read of a file: all that it has, or its first bytes where it is longer than its limit
abbrev pub IsTextOf : ℕ → Text → List ℕ → Type 0
IsTextOf limit (text.Whole bytes) held = (length held ≤ limit) × (bytes.items ≡ held)
IsTextOf limit (text.Longer bytes) held =
    (limit < length held) × (bytes.items ≡ take (limit + 1) held)

-- the file has this text, which is UTF-8 and no longer than the limit
abbrev pub HoldsWhole : ℕ → Option (List ℕ) → List ℕ → Type 0
HoldsWhole limit file text = IfSome file (λ held. IsText limit held × (text ≡ held))

-- why a file has no such text
abbrev pub HoldsNoWhole : ℕ → Option (List ℕ) → Unfit → Type 0
HoldsNoWhole limit file unfit.NoText = IfSome file (IsNoText limit)
HoldsNoWhole limit file unfit.TooLong = IfSome file (IsLongText limit)
HoldsNoWhole limit file unfit.NoMemory = ⊤

-- the text of what was read, and why that has none
abbrev pub IsTextIn : Text → List ℕ → Type 0
IsTextIn (text.Whole bytes) t = IsUtf8 t × (t ≡ bytes.items)
IsTextIn (text.Longer bytes) t = ⊥

abbrev pub HasNoTextIn : Text → Unfit → Type 0
HasNoTextIn (text.Whole bytes) unfit.NoText = ¬ (IsUtf8 bytes.items)
HasNoTextIn (text.Longer bytes) unfit.NoText = ¬ (BeginsUtf8 bytes.items)
HasNoTextIn (text.Longer bytes) unfit.TooLong = BeginsUtf8 bytes.items
HasNoTextIn _ _ = ⊥
