-- The numbers of a part, round its slash.
use Rattle.std.proofs.Common.{◌≡◌, ◌∙◌, ◌≤◌, ℕ, [], ap, arith, length, refl, subst, sym}
use Rattle.std.specs.List.{after_first, before_first}
use Rattle.clap.proofs.CutLemmas.{after_first-at, before_first-at}
use Rattle.clap.specs.Words.{Text}
use Rattle.command_words.proofs.ChangeLemmas.{same_number}
use Rattle.command_words.proofs.RangeLemmas.{digits_lack}
use Rattle.command_words.proofs.ValueLemmas.{digits_tested}
use Rattle.command_words.specs.Searching.{PartText, is_slash, max_parts, slash}
use Rattle.command_words.specs.Values.{NumberText}
use Rattle.command_words.specs.declared.searching.PartChoice.{PartChoice}

-- the texts round the first slash are the numbers of the part
pub record AreNumbersOf (text : Text) (p : PartChoice) : Type 0 where
  pub number : NumberText (before_first is_slash text) p.number
  pub count : NumberText (after_first is_slash text) p.count
  pub some : 1 ≤ p.number
  pub within : p.number ≤ p.count
  pub few : p.count ≤ max_parts

pub numbers_of : (text : Text) (p : PartChoice) → PartText text p → AreNumbersOf text p
numbers_of text p h =
    let lacks = digits_lack slash refl h.0 ((digits_tested h.0).1 h.3.digits.1) in
    record {
      number = subst (λ (t : Text). NumberText t p.number)
          (sym (ap (before_first is_slash) h.2 ∙ before_first-at slash h.0 h.1 lacks)) h.3;
      count = subst (λ (t : Text). NumberText t p.count)
          (sym (ap (after_first is_slash) h.2 ∙ after_first-at slash h.0 h.1 lacks)) h.4;
      some = h.5;
      within = h.6;
      few = h.7;
    }

-- no part stands where nothing follows a first slash
pub nothing_after_slash : (text : Text) → after_first is_slash text ≡ [] → (p : PartChoice)
    → ¬ (PartText text p)
nothing_after_slash text nothing p h =
    let numeral = (numbers_of text p h).count.digits in
    absurd (omega (arith, ap length nothing, numeral.0))

-- the numbers of a part are those of its texts
pub part_is : (text : Text) (m n : ℕ) (p : PartChoice) → NumberText (before_first is_slash text) m
    → NumberText (after_first is_slash text) n → PartText text p
    → (1 ≤ m) × (m ≤ n) × (n ≤ max_parts)
part_is text m n p number count h =
    let parts = numbers_of text p h in
    let a : m ≡ p.number = same_number _ _ _ number parts.number in
    let b : n ≡ p.count = same_number _ _ _ count parts.count in
    let some : 1 ≤ p.number = parts.some in
    let within : p.number ≤ p.count = parts.within in
    let few : p.count ≤ max_parts = parts.few in (omega arith, omega arith, omega arith)
