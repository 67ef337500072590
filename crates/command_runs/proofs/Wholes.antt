-- The text that was read of a file is the file's, and why there is none.
use Rattle.std.proofs.Common.{◌≡◌, ◌∙◌, ◌+◌, ◌<◌, ◌≤◌, ℕ, List, Option, None, Some, arith}
use Rattle.std.proofs.Common.{length, subst, sym, take}
use Rattle.std.specs.Prelude.{IfSome}
use Rattle.std.specs.Str.{IsUtf8}
use Rattle.command_runs.specs.Refused.{IsRefusedCommand}
use Rattle.command_runs.specs.Texts.{Files, HasNoTextIn, HoldsNoWhole, HoldsWhole, IsTextIn}
use Rattle.command_runs.specs.Texts.{IsTextOf}
use Rattle.command_runs.specs.Unshown.{IsUnshown}
use Rattle.command_runs.specs.declared.refusal.Refusal.{Refusal}
use Rattle.command_runs.specs.declared.refusal.Refusal.TheVariants as refusal
use Rattle.command_runs.specs.declared.texts.Text.{Text}
use Rattle.command_runs.specs.declared.texts.Text.TheVariants as text
use Rattle.command_runs.specs.declared.texts.Unfit.{Unfit}
use Rattle.command_runs.specs.declared.texts.Unfit.TheVariants as unfit
use Rattle.schedule_text.specs.Bytes.{BeginsUtf8, IsLongText, IsNoText, IsText}
use Rattle.command_words.specs.declared.values.Source.{Source}
use Rattle.command_words.specs.declared.values.Source.TheVariants as source
use Rattle.command_words.specs.declared.words.Words.TheVariants as words

-- a file that fits and isn't UTF-8 is no text, and neither is a longer one that doesn't begin as
-- one
no_whole_text : (limit : ℕ) (held bytes : List ℕ) → length held ≤ limit → bytes ≡ held
    → ¬ (IsUtf8 bytes) → IsNoText limit held
no_whole_text limit held bytes short same none = (
  λ t. none (subst IsUtf8 (sym same) t.utf8),
  λ t. let long : limit < length held = t.long in
      absurd (omega arith),
)

no_long_text : (limit : ℕ) (held bytes : List ℕ) → limit < length held
    → bytes ≡ take (limit + 1) held → ¬ (BeginsUtf8 bytes) → IsNoText limit held
no_long_text limit held bytes long same none = (
  λ t. let short : length held ≤ limit = t.short in
      absurd (omega arith),
  λ t. none (subst BeginsUtf8 (sym same) t.utf8),
)

whole_text : (limit : ℕ) (held bytes : List ℕ) → length held ≤ limit → bytes ≡ held
    → IsUtf8 bytes → IsText limit held
whole_text limit held bytes short same utf8 =
    record { short = short; utf8 = subst IsUtf8 same utf8 }

long_text : (limit : ℕ) (held bytes : List ℕ) → limit < length held
    → bytes ≡ take (limit + 1) held → BeginsUtf8 bytes → IsLongText limit held
long_text limit held bytes long same utf8 =
    record { long = long; utf8 = subst BeginsUtf8 same utf8 }

-- so what was read of a file is its text
pub whole_held : (limit : ℕ) (file : Option (List ℕ)) (t : Text) (s : List ℕ)
    → IfSome file (IsTextOf limit t) → IsTextIn t s → HoldsWhole limit file s
whole_held limit None t s is has = tt
whole_held limit (Some held) (text.Whole bytes) s is has = (
  whole_text limit held s is.0
      (has.1 ∙ is.1) has.0,
  has.1 ∙ is.1,
)
whole_held limit (Some held) (text.Longer bytes) s is has = absurd has

-- why it has none, from why there is none in what was read of it
pub no_whole_held : (limit : ℕ) (file : Option (List ℕ)) (t : Text) (e : Unfit)
    → IfSome file (IsTextOf limit t) → HasNoTextIn t e → HoldsNoWhole limit file e
no_whole_held limit None t unfit.NoText is has = tt
no_whole_held limit None t unfit.TooLong is has = tt
no_whole_held limit file t unfit.NoMemory is has = tt
no_whole_held limit (Some held) (text.Whole bytes) unfit.NoText is has =
    no_whole_text limit held bytes.items is.0 is.1 has
no_whole_held limit (Some held) (text.Whole bytes) unfit.TooLong is has = absurd has
no_whole_held limit (Some held) (text.Longer bytes) unfit.NoText is has =
    no_long_text limit held bytes.items is.0 is.1 has
no_whole_held limit (Some held) (text.Longer bytes) unfit.TooLong is has =
    long_text limit held bytes.items is.0 is.1 has

-- the text is all that the file has
pub whole_is : (limit : ℕ) (file : Option (List ℕ)) (text : List ℕ) → HoldsWhole limit file text
    → IfSome file (λ held. text ≡ held)
whole_is limit None text h = tt
whole_is limit (Some held) text h = h.1

-- why a source isn't shown is why the command is refused
pub show_refused : (s : Source) (files : Files) (r : Refusal) → IsUnshown s files r
    → IsRefusedCommand (words.Show s) files r
show_refused (source.File name) files refusal.Write h = absurd h
show_refused (source.Library name values) files refusal.Write h = absurd h
show_refused (source.File name) files refusal.NodeNoMemory h = absurd h
show_refused (source.Library name values) files refusal.NodeNoMemory h = absurd h
show_refused s files (refusal.Words f) h = h
show_refused s files refusal.File h = h
show_refused s files (refusal.Source f) h = h
show_refused s files (refusal.Check f) h = h
show_refused s files (refusal.Condition f) h = h
show_refused s files (refusal.Schedule f) h = h
show_refused s files (refusal.Library f) h = h
show_refused s files refusal.NoSuchProgram h = h
show_refused s files (refusal.Run f) h = h
show_refused s files (refusal.Part cause) h = h
show_refused s files (refusal.Trace f) h = h
show_refused s files refusal.NoVariable h = h
show_refused s files refusal.NoMemory h = h
