-- The numbers of a header, round its colons.
use Rattle.std.proofs.Common.{◌≡◌, ◌↔◌, ◌∙◌, ◌++◌, ◌∷◌, [], ℕ, List, Option, None, Some, ap, arith}
use Rattle.std.proofs.Common.{refl, subst, sym}
use Rattle.std.specs.List.{after_first, before_first}
use Rattle.std.specs.Prelude.{IfNone, IfSome, IsTrue, codes, is_some}
use Rattle.clap.proofs.CutLemmas.{after_first-at, before_first-at}
use Rattle.clap.specs.Words.{Row, Text, first_of}
use Rattle.command_words.proofs.RangeLemmas.{digits_lack}
use Rattle.command_words.proofs.ValueLemmas.{digits_tested}
use Rattle.command_words.specs.Headers.{HasHeaderNumbers, HeaderText}
use Rattle.command_words.specs.Values.{NumberText, at_sign, colon, is_colon}
use Rattle.command_words.specs.declared.headers.HeaderNumbers.{HeaderNumbers}

-- the text behind a first colon
abbrev behind : Text → Text
behind text = after_first is_colon text

-- the texts round the first two colons behind `@` are the numbers
pub record AreNumbersIn (text : Text) (h : HeaderNumbers) : Type 0 where
  pub nodes : NumberText (before_first is_colon text) h.nodes
  pub faults : NumberText (before_first is_colon (behind text)) h.faults
  pub rounds : NumberText (behind (behind text)) h.rounds

-- what stands before and behind the colon that follows a number
number_before : (number rest : Text) (n : ℕ) → NumberText number n
    → before_first is_colon (number ++ colon ∷ rest) ≡ number
number_before number rest n is =
    before_first-at colon number rest
    (digits_lack colon refl number ((digits_tested number).1 is.digits.1))

rest_behind : (number rest : Text) (n : ℕ) → NumberText number n
    → behind (number ++ colon ∷ rest) ≡ rest
rest_behind number rest n is =
    after_first-at colon number rest
    (digits_lack colon refl number ((digits_tested number).1 is.digits.1))

pub numbers_in : (text : Text) (h : HeaderNumbers) → HeaderText (at_sign ∷ text) h
    → AreNumbersIn text h
numbers_in text h (nodes, faults, rounds, is, of_nodes, of_faults, of_rounds) =
    let more = faults ++ colon ∷ rounds in
    let whole : text ≡ nodes ++ colon ∷ more = cc (is) in
    let rest : behind text ≡ more =
    ap (λ t. behind t) whole ∙ rest_behind nodes more h.nodes of_nodes in
    record {
      nodes = subst (λ (t : Text). NumberText t h.nodes)
          (sym (ap (before_first is_colon) whole ∙ number_before nodes more h.nodes of_nodes))
          of_nodes;
      faults = subst (λ (t : Text). NumberText t h.faults)
          (sym (ap (before_first is_colon) rest
          ∙ number_before faults rounds h.faults of_faults)) of_faults;
      rounds = subst (λ (t : Text). NumberText t h.rounds)
          (sym (ap (λ t. behind t) rest ∙ rest_behind faults rounds h.faults of_faults))
          of_rounds;
    }

-- no number is written by nothing
no_number : (n : ℕ) → ¬ (NumberText [] n)
no_number n is = (let numeral = is.digits in absurd (omega (arith, numeral.0)))

-- a header has a colon, and another behind it
pub nothing_behind : (text : Text) → after_first is_colon text ≡ [] → (h : HeaderNumbers)
    → ¬ (HeaderText (at_sign ∷ text) h)
nothing_behind text nothing h is =
    no_number h.faults (subst (λ (t : Text). NumberText (before_first is_colon t) h.faults) nothing
    (numbers_in text h is).faults)

pub nothing_behind_both : (text : Text) → after_first is_colon (behind text) ≡ []
    → (h : HeaderNumbers) → ¬ (HeaderText (at_sign ∷ text) h)
nothing_behind_both text nothing h is =
    no_number h.rounds (subst (λ (t : Text). NumberText t h.rounds) nothing
    (numbers_in text h is).rounds)

-- a header whose text is that of no numbers isn't given by them
no_numbers : (rows : List Row) (name : Text) → first_of (codes "header") rows ≡ Some name
    → ((h : HeaderNumbers) → ¬ (HeaderText name h)) → ¬ (HasHeaderNumbers rows)
no_numbers rows name at none (text, found, h, is) =
    let same : text ≡ name = cc (found, at) in
    none h (subst (λ (t : Text). HeaderText t h) same is)

-- a header is given by its numbers exactly if some were read of its text
pub header_numbers : (rows : List Row) (name : Text) (read : Option HeaderNumbers)
    → first_of (codes "header") rows ≡ Some name → IfSome read (HeaderText name)
    → IfNone read ((h : HeaderNumbers) → ¬ (HeaderText name h))
    → IsTrue (is_some read) ↔ HasHeaderNumbers rows
header_numbers rows name (Some h) at is none = (λ _. (name, at, h, is), λ _. refl)
header_numbers rows name None at is none =
    (λ no. absurd (cc (no)), λ has. absurd (no_numbers rows name at none has))
