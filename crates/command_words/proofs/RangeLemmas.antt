-- The parts of a range, round its dash.
use Rattle.std.proofs.Common.{◌≡◌, ◌≢◌, ◌∙◌, ◌≤◌, ℕ, [], ◌∷◌, true, false, length, arith}
use Rattle.std.proofs.Common.{zero, suc, ap, refl, sym, subst}
use Rattle.std.specs.Char.{is_ascii_digit}
use Rattle.std.specs.List.{after_first, before_first, list_all}
use Rattle.std.proofs.lemmas.Bool.{and_parts}
use Rattle.clap.proofs.CutLemmas.{Lacks, after_first-at, before_first-at}
use Rattle.clap.specs.Words.{Text}
use Rattle.command_words.proofs.ChangeLemmas.{same_number}
use Rattle.command_words.proofs.ValueLemmas.{digits_tested}
use Rattle.command_words.specs.Values.{NumberText, RangeText, dash, is_dash}
use Rattle.command_words.specs.declared.drawing.RoundRange.{RoundRange}

-- the parts round the first dash are the numbers of the range
pub record AreRangeParts (text : Text) (r : RoundRange) : Type 0 where
  pub first : NumberText (before_first is_dash text) r.first
  pub last : NumberText (after_first is_dash text) r.last
  pub some : 1 ≤ r.first
  pub rising : r.first ≤ r.last

-- digits have no byte that is none
pub digits_lack : (c : ℕ) → is_ascii_digit c ≡ false → (text : Text)
    → list_all is_ascii_digit text ≡ true → Lacks c text
digits_lack c other [] all i below is = absurd (omega arith)
digits_lack c other (b ∷ rest) all zero below is =
    let passes = (and_parts (is_ascii_digit b) (list_all is_ascii_digit rest) all).0 in
    let bad : true ≡ false = sym passes ∙ ap is_ascii_digit is ∙ other in absurd (cc bad)
digits_lack c other (b ∷ rest) all (suc i) below is =
    digits_lack c other rest
    (and_parts (is_ascii_digit b) (list_all is_ascii_digit rest) all).1 i (omega arith) is

pub range_parts : (text : Text) (r : RoundRange) → RangeText text r → AreRangeParts text r
range_parts text r h =
    let lacks = digits_lack dash refl h.0 ((digits_tested h.0).1 h.3.digits.1) in
    record {
      first = subst (λ (t : Text). NumberText t r.first)
          (sym (ap (before_first is_dash) h.2 ∙ before_first-at dash h.0 h.1 lacks)) h.3;
      last = subst (λ (t : Text). NumberText t r.last)
          (sym (ap (after_first is_dash) h.2 ∙ after_first-at dash h.0 h.1 lacks)) h.4;
      some = h.5;
      rising = h.6;
    }

-- no range stands where nothing follows a first dash
pub nothing_after_dash : (text : Text) → after_first is_dash text ≡ [] → (r : RoundRange)
    → ¬ (RangeText text r)
nothing_after_dash text nothing r h =
    let numeral = (range_parts text r h).last.digits in
    absurd (omega (arith, ap length nothing, numeral.0))

-- the numbers of a range are those of its parts
pub range_is : (text : Text) (m n : ℕ) (r : RoundRange) → NumberText (before_first is_dash text) m
    → NumberText (after_first is_dash text) n → RangeText text r → (1 ≤ m) × (m ≤ n)
range_is text m n r first last h =
    let parts = range_parts text r h in
    let a : m ≡ r.first = same_number _ _ _ first parts.first in
    let b : n ≡ r.last = same_number _ _ _ last parts.last in
    let some : 1 ≤ r.first = parts.some in
    let rising : r.first ≤ r.last = parts.rising in (omega arith, omega arith)
