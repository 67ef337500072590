-- The parts of a library source, and the tests that read them.
use Rattle.std.proofs.Common.{◌≡◌, ◌≢◌, ◌++◌, ℕ, List, [], ◌∷◌, Bool, true, false, length, arith}
use Rattle.std.proofs.Common.{zero, suc, ap, sym, refl, ◌∙◌, subst}
use borrow.Author.Tests.{le-leb, leb-true}
use Rattle.std.specs.Prelude.{nat_le, ◌↔◌, ◌≤◌}
use Rattle.std.specs.Char.{is_ascii_digit}
use Rattle.std.specs.List.{after_first, before_first, list_all}
use Rattle.std.specs.Str.Parse.{AllDigits, IsNumeral}
use Rattle.std.proofs.lemmas.Bool.{and_from, and_parts}
use Rattle.std.proofs.lemmas.Str.{digit_value_digit}
use Rattle.std.proofs.lemmas.Str.Parse.{digit_from_value}
use Rattle.clap.proofs.CutLemmas.{Lacks, after_first-at, before_first-at}
use Rattle.clap.specs.Words.{Text}
use Rattle.command_words.specs.Values.{SourceText, begins_name, colon, continues_name, is_colon}
use Rattle.command_words.specs.Values.{is_name}
use Rattle.command_words.specs.declared.values.Source.{Source}
use Rattle.command_words.specs.declared.values.Source.TheVariants.{File, Library}

-- a test that a colon fails tells that a byte is none
not_colon : (p : ℕ → Bool) (b : ℕ) → p colon ≡ false → p b ≡ true → b ≢ colon
not_colon p b fails passes is = let bad : true ≡ false =
    sym passes ∙ ap p is ∙ fails in absurd (cc bad)

rest_lacks_colon : (rest : List ℕ) → list_all continues_name rest ≡ true → Lacks colon rest
rest_lacks_colon [] all i below is = absurd (omega arith)
rest_lacks_colon (b ∷ rest) all zero below is =
    not_colon continues_name b refl (and_parts _ _ all).0 is
rest_lacks_colon (b ∷ rest) all (suc i) below is =
    rest_lacks_colon rest (and_parts _ _ all).1 i (omega arith) is

-- no byte of a name is a colon
name_lacks_colon : (name : List ℕ) → is_name name ≡ true → Lacks colon name
name_lacks_colon [] named i below is = absurd (omega arith)
name_lacks_colon (b ∷ rest) named zero below is =
    not_colon begins_name b refl (and_parts _ _ named).0 is
name_lacks_colon (b ∷ rest) named (suc i) below is =
    rest_lacks_colon rest (and_parts _ _ named).1 i (omega arith) is

-- the parts round the first colon of a library source are its name and its digits
pub library_parts : (text : Text) (source : Source) → SourceText (64 ∷ text) source
    → (is_name (before_first is_colon text) ≡ true) × IsNumeral 10 (after_first is_colon text)
library_parts text (File name) h = absurd (h.1 text refl)
library_parts text (Library name values) h =
    let parts : text ≡ name.now ++ colon ∷ h.0 = cc (h.1) in
    let lacks = name_lacks_colon name.now h.2 in (
      ap is_name (ap (before_first is_colon) parts ∙ before_first-at colon name.now h.0 lacks)
          ∙ h.2,
      subst (IsNumeral 10)
          (sym (ap (after_first is_colon) parts ∙ after_first-at colon name.now h.0 lacks)) h.3,
    )

-- no source follows where nothing stands after a first colon
pub nothing_after_colon : (text : Text) → after_first is_colon text ≡ [] → (source : Source)
    → ¬ (SourceText (64 ∷ text) source)
nothing_after_colon text nothing source h =
    let numeral = (library_parts text source h).1 in
    absurd (omega (arith, ap length nothing, numeral.0))

-- a byte is a digit by its range exactly where its value is below ten
digits_from_test : (text : Text) → list_all is_ascii_digit text ≡ true → AllDigits 10 text
digits_from_test [] all = tt
digits_from_test (b ∷ rest) all =
    let parts = and_parts (is_ascii_digit b) (list_all is_ascii_digit rest) all in
    let range = and_parts (nat_le 48 b) (nat_le b 57) parts.0 in
    let above : 48 ≤ b = leb-true 48 b range.0 in
    let below : b ≤ 57 = leb-true b 57 range.1 in
    (omega (arith, digit_value_digit b (above, below)), digits_from_test rest parts.1)

test_from_digits : (text : Text) → AllDigits 10 text → list_all is_ascii_digit text ≡ true
test_from_digits [] all = refl
test_from_digits (b ∷ rest) all =
    let range = digit_from_value b all.0 in
    and_from _ _ (and_from _ _ (le-leb 48 b range.0) (le-leb b 57 range.1))
    (test_from_digits rest all.1)

-- the test of all bytes tells whether they are decimal digits
pub digits_tested : (text : Text) → (list_all is_ascii_digit text ≡ true) ↔ AllDigits 10 text
digits_tested text = (digits_from_test text, test_from_digits text)
