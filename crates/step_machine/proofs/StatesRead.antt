-- States that are read value by value.
use Rattle.std.proofs.Common.{◌≡◌, ◌∙◌, ℕ, zero, suc, ◌-◌, List, [], ◌∷◌, drop, take, get_or, refl}
use Rattle.std.proofs.Common.{sym, ap, subst, arith}
use Rattle.std.specs.Prelude.{◌≢◌, slice_index}
use Rattle.std.proofs.lemmas.List.{drop_at}
use Rattle.round_lang.specs.declared.kind.Kind.{Kind}
use Rattle.round_lang.specs.Values.{at}
use Rattle.round_lang.specs.Words.{size, read, values_of, kind_of, words_of, all_words, IsSmall}
use Rattle.round_lang.specs.Words.{IsSpelled}
use Rattle.round_lang.proofs.Spelling.{size-kind_of}

-- what is read of a value, and what is left behind it
pub record IsNext (kinds : List Kind) (words : List ℕ) (kind : Kind) (rest_kinds : List Kind)
    (rest_words : List ℕ) : Type 0 where
  pub value : read kind words ≡ at (values_of kinds words) 0
  pub small : IsSmall (read kind words)
  pub rest : values_of rest_kinds rest_words ≡ drop 1 (values_of kinds words)
  pub spelled : IsSpelled rest_kinds rest_words

-- the values behind the first one are spelled
spelled_rest : (kind : Kind) (kinds : List Kind) (words : List ℕ) → IsSpelled (kind ∷ kinds) words
    → IsSpelled kinds (drop (size kind) words)
spelled_rest kind kinds words h =
    let value = read kind words in
    let values = values_of kinds (drop (size kind) words) in
    let first : kind ≡ kind_of value = ap (λ ks. get_or ks 0 kind) h.kinds_are in
    record {
      kinds_are = ap (drop 1) h.kinds_are;
      words_are = ap (drop (size kind)) h.words_are
          ∙ drop_at (words_of value) (all_words values) (size kind)
          (sym (ap size first ∙ size-kind_of value));
      small = h.small.1;
    }

next_of : (kind : Kind) (kinds : List Kind) (words : List ℕ) → IsSpelled (kind ∷ kinds) words
    → IsNext (kind ∷ kinds) words kind kinds (drop (size kind) words)
next_of kind kinds words h = record {
  value = refl;
  small = h.small.0;
  rest = refl;
  spelled = spelled_rest kind kinds words h;
}

pub IsNext-of : (kinds : List Kind) (words : List ℕ) (kind : Kind) (rest_kinds : List Kind)
    (rest_words : List ℕ) → IsSpelled kinds words → kinds ≡ kind ∷ rest_kinds
    → rest_words ≡ drop (size kind) words → IsNext kinds words kind rest_kinds rest_words
IsNext-of kinds words kind rest_kinds rest_words h k w =
    subst (λ ks. IsNext ks words kind rest_kinds rest_words) (sym k)
    (subst (IsNext (kind ∷ rest_kinds) words kind rest_kinds) (sym w)
    (next_of kind rest_kinds words (subst (λ ks. IsSpelled ks words) k h)))

-- the first entry of a row, and those behind it
pub record IsEntry (n : ℕ) (words : List ℕ) (entry : ℕ) (rest : List ℕ) : Type 0 where
  pub entry_is : entry ≡ slice_index (take n words) 0
  pub rest_is : take (n - 1) rest ≡ drop 1 (take n words)

entry_first : (n : ℕ) (rest : List ℕ) (entry : ℕ) → n ≢ 0 → IsEntry n (entry ∷ rest) entry rest
entry_first zero rest entry some = absurd (some refl)
entry_first (suc n) rest entry some =
    let less : suc n - 1 ≡ n = omega arith in
    record { entry_is = refl; rest_is = ap (λ k. take k rest) less }

pub IsEntry-of : (n : ℕ) (words rest : List ℕ) (entry : ℕ) → n ≢ 0 → words ≡ entry ∷ rest
    → IsEntry n words entry rest
IsEntry-of n words rest entry some is =
    subst (λ ws. IsEntry n ws entry rest) (sym is) (entry_first n rest entry some)

take_nothing : (n : ℕ) → take {A = ℕ} n [] ≡ []
take_nothing zero = refl
take_nothing (suc n) = refl

-- a row whose words are all read
pub IsEntry-none : (n : ℕ) (words : List ℕ) → words ≡ [] → IsEntry n words 0 words
IsEntry-none n words none =
    let all : take n words ≡ [] = ap (take n) none ∙ take_nothing n in
    record {
      entry_is = sym (ap (λ ws. slice_index ws 0) all);
      rest_is = ap (take (n - 1)) none ∙ take_nothing (n - 1) ∙ sym (ap (drop 1) all);
    }
