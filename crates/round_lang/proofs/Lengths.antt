-- How many words spell values of given kinds.
use Rattle.std.proofs.Common.{◌≡◌, ◌∙◌, ℕ, ◌+◌, List, [], ◌∷◌, length, refl, sym, ap, arith}
use Rattle.std.proofs.Common.{length-append}
use Rattle.std.specs.Prelude.{map}
use Rattle.round_lang.specs.declared.kind.Kind.{Kind}
use Rattle.round_lang.specs.declared.value.Value.{Value}
use Rattle.round_lang.specs.Words.{size, values_of, kind_of, words_of, all_words, IsSpelled}
use Rattle.round_lang.proofs.Spelling.{size-kind_of}

total : List Kind → ℕ
total [] = 0
total (k ∷ ks) = size k + total ks

length-all_words : (vs : List Value) → length (all_words vs) ≡ total (map kind_of vs)
unfolding total
length-all_words [] = refl
length-all_words (v ∷ vs) =
    omega (arith, length-append (words_of v) (all_words vs), size-kind_of v, length-all_words vs)

spelled_length : (kinds : List Kind) (words : List ℕ) → IsSpelled kinds words
    → length words ≡ total kinds
spelled_length kinds words s =
    ap length s.words_are ∙ length-all_words (values_of kinds words) ∙ ap total (sym s.kinds_are)

-- words of the same kinds are as many
pub same_length : (kinds : List Kind) (words others : List ℕ) → IsSpelled kinds words
    → IsSpelled kinds others → length words ≡ length others
same_length kinds words others s t =
    spelled_length kinds words s ∙ sym (spelled_length kinds others t)
