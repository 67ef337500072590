-- The value at a place, found where its words begin.
use Rattle.std.proofs.Common.{◌≡◌, ◌∙◌, ℕ, zero, suc, ◌+◌, ◌<◌, ◌≤◌, ◌^◌, List, [], ◌∷◌, length}
use Rattle.std.proofs.Common.{drop, sym, ap, subst, arith, lit<, length-append}
use Rattle.std.specs.Prelude.{map, slice_index_or}
use Rattle.std.specs.List.{AllByRecursion}
use Rattle.std.proofs.lemmas.List.{drop-drop, length-map}
use Rattle.round_lang.specs.declared.kind.Kind.{Kind}
use Rattle.round_lang.specs.declared.value.Value.{Value}
use Rattle.round_lang.specs.Values.{at}
use Rattle.round_lang.specs.Words.{size, read, values_of, kind_of, words_of, all_words}
use Rattle.round_lang.specs.Words.{words_before, IsSmall, IsSpelled, IsSpot}
use Rattle.round_lang.proofs.Spelling.{size-kind_of}

-- what is read where the words of a place begin is the value there
pub read-at : (kinds : List Kind) (words : List ℕ) (place : ℕ) (kind : Kind) → place < length kinds
    → kind ≡ slice_index_or kinds place kind → read kind (drop (words_before kinds place) words)
    ≡ at (values_of kinds words) place
read-at [] words place kind within is = absurd (omega (arith, within))
read-at (k ∷ ks) words zero kind within is = ap (λ kind. read kind words) is
read-at (k ∷ ks) words (suc place) kind within is =
    ap (read kind) (sym (drop-drop (words_before ks place) (size k) words))
    ∙ read-at ks (drop (size k) words) place kind (omega (arith, within)) is

-- the value at any place is small
pub small-at : (vs : List Value) (place : ℕ) → AllByRecursion IsSmall vs → IsSmall (at vs place)
small-at [] place small = lit< tt
small-at (v ∷ vs) zero small = small.0
small-at (v ∷ vs) (suc place) small = small-at vs place small.1

-- values have all their words
whole_for : (vs : List Value) (place : ℕ) (kind : Kind) → place < length vs
    → words_before (map kind_of vs) place + size (slice_index_or (map kind_of vs) place kind)
    ≤ length (all_words vs)
whole_for [] place kind within = absurd (omega (arith, within))
whole_for (u ∷ us) zero kind within =
    omega (arith, size-kind_of u, length-append (words_of u) (all_words us))
whole_for (u ∷ us) (suc place) kind within =
    let rest : words_before (map kind_of us) place + size
    (slice_index_or (map kind_of us) place kind) ≤ length (all_words us) =
    whole_for us place kind (omega (arith, within)) in
    omega (arith, rest, size-kind_of u, length-append (words_of u) (all_words us))

whole-at : (vs : List Value) (kinds : List Kind) (words : List ℕ) (place : ℕ) (kind : Kind)
    → kinds ≡ map kind_of vs → words ≡ all_words vs → place < length vs
    → words_before kinds place + size (slice_index_or kinds place kind) ≤ length words
whole-at vs kinds words place kind kinds_are words_are within =
    rw (kinds_are, words_are) (whole_for vs place kind within)

-- where the words of the value at a place begin, all of which are there
pub record IsFound (kinds : List Kind) (words : List ℕ) (place first : ℕ)
    (kind : Kind) : Type 0 where
  pub begins : first ≡ words_before kinds place
  pub whole : first + size kind ≤ length words

pub IsFound-of : (kinds : List Kind) (words : List ℕ) (place first : ℕ) (kind : Kind)
    → IsSpelled kinds words → length words < 2 ^ 64 → IsSpot kinds place kind first
    → IsFound kinds words place first kind
IsFound-of kinds words place first kind s fits spot =
    let vs = values_of kinds words in
    let below : place < length vs =
    subst (λ n. place < n) (ap length s.kinds_are ∙ length-map vs kind_of) spot.within in
    let all : words_before kinds place + size (slice_index_or kinds place kind) ≤ length words =
    whole-at vs kinds words place kind s.kinds_are s.words_are below in
    record {
      begins = omega (arith, spot.begins, all, fits);
      whole = omega (arith, spot.begins, all, fits, ap size spot.kind_is);
    }
