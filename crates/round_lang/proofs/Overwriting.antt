-- A value that is written over one of its kind.
use Rattle.std.proofs.Common.{◌≡◌, ◌∙◌, ℕ, zero, suc, ◌+◌, ◌<◌, ◌≤◌, List, [], ◌∷◌, ◌++◌, length}
use Rattle.std.proofs.Common.{take, drop, refl, sym, ap, subst, arith, append_assoc}
use Rattle.std.specs.Prelude.{map, slice_set, slice_index_or}
use Rattle.std.specs.List.{AllByRecursion, refill}
use Rattle.std.proofs.lemmas.List.{take_at, drop_at, length-map}
use Rattle.std.proofs.Math.Seq.{take-append-add, drop-append-add}
use Rattle.round_lang.specs.declared.kind.Kind.{Kind}
use Rattle.round_lang.specs.declared.value.Value.{Value}
use Rattle.round_lang.specs.Values.{at}
use Rattle.round_lang.specs.Words.{size, values_of, kind_of, words_of, all_words, words_before}
use Rattle.round_lang.specs.Words.{written, IsSmall, IsSpelled, IsSpot}
use Rattle.round_lang.proofs.Spelling.{size-kind_of, spelled_values}
use Rattle.round_lang.proofs.Finding.{IsFound}

-- what lies behind a front is written behind it
written-append : (xs ys ws : List ℕ) (m : ℕ) → written (xs ++ ys) (length xs + m) ws ≡ xs
    ++ written ys m ws
written-append xs ys ws m =
    let n : length xs + m + length ws ≡ length xs + (m + length ws) = omega arith in
    ap (λ front. front ++ (ws ++ drop (length xs + m + length ws) (xs ++ ys)))
    (take-append-add xs ys m)
    ∙ ap (λ n. (xs ++ take m ys) ++ (ws ++ drop n (xs ++ ys))) n
    ∙ ap (λ rest. (xs ++ take m ys) ++ (ws ++ rest)) (drop-append-add xs ys (m + length ws))
    ∙ append_assoc xs (take m ys) (ws ++ drop (m + length ws) ys)

-- a value in place of one of its kind
pub written-all_words : (vs : List Value) (i : ℕ) (v : Value) → i < length vs
    → kind_of v ≡ kind_of (at vs i) → written (all_words vs) (words_before (map kind_of vs) i)
    (words_of v) ≡ all_words (slice_set vs i v)
written-all_words [] i v within same = absurd (omega (arith, within))
written-all_words (u ∷ us) zero v within same =
    let same_length : length (words_of u) ≡ length (words_of v) =
    sym (size-kind_of u) ∙ ap size (sym same) ∙ size-kind_of v in
    ap (λ ws. words_of v ++ ws)
    (drop_at (words_of u) (all_words us) (0 + length (words_of v)) (omega (arith, same_length)))
written-all_words (u ∷ us) (suc i) v within same =
    ap (λ n. written (words_of u ++ all_words us) (n + words_before (map kind_of us) i)
    (words_of v)) (size-kind_of u)
    ∙ written-append (words_of u) (all_words us) (words_of v) (words_before (map kind_of us) i)
    ∙ ap (λ ws. words_of u ++ ws) (written-all_words us i v (omega (arith, within)) same)

kinds-set : (vs : List Value) (i : ℕ) (v : Value) → kind_of v ≡ kind_of (at vs i) → i < length vs
    → map kind_of (slice_set vs i v) ≡ map kind_of vs
kinds-set [] i v same within = refl
kinds-set (u ∷ us) zero v same within = ap (λ k. k ∷ map kind_of us) same
kinds-set (u ∷ us) (suc i) v same within =
    ap (λ ks. kind_of u ∷ ks) (kinds-set us i v same (omega (arith, within)))

small-set : (vs : List Value) (i : ℕ) (v : Value) → AllByRecursion IsSmall vs → IsSmall v
    → AllByRecursion IsSmall (slice_set vs i v)
small-set [] i v h small = h
small-set (u ∷ us) zero v h small = (small, h.1)
small-set (u ∷ us) (suc i) v h small = (h.0, small-set us i v h.1 small)

-- what is left once a value is written over one of its kind
pub record IsPut (kinds : List Kind) (words new_words : List ℕ) (place : ℕ)
    (v : Value) : Type 0 where
  pub values : values_of kinds new_words ≡ slice_set (values_of kinds words) place v
  pub spelled : IsSpelled kinds new_words

-- where the words of a value of the kind of v begin
pub record IsAt (kinds : List Kind) (place first : ℕ) (v : Value) : Type 0 where
  pub within : place < length kinds
  pub kind : slice_index_or kinds place (kind_of v) ≡ kind_of v
  pub begins : first ≡ words_before kinds place

pub IsAt-found : (kinds : List Kind) (words : List ℕ) (place first : ℕ) (k : Kind) (v : Value)
    → IsSpot kinds place k first → k ≡ kind_of v → IsFound kinds words place first k
    → IsAt kinds place first v
IsAt-found kinds words place first k v spot is_kind found =
    record {
      within = spot.within;
      kind = sym (subst (λ k. k ≡ slice_index_or kinds place k) is_kind spot.kind_is);
      begins = found.begins;
    }

-- there is room for it
pub room : (kinds : List Kind) (words : List ℕ) (place first : ℕ) (k : Kind) (v : Value)
    → k ≡ kind_of v → IsFound kinds words place first k → first + length (words_of v) ≤ length words
room kinds words place first k v is_kind found =
    omega (arith, found.whole, ap size is_kind, size-kind_of v)

-- the kind at a place is that of the value there
kind-at : (vs : List Value) (i : ℕ) (k : Kind) → i < length vs → slice_index_or (map kind_of vs) i k
    ≡ kind_of (at vs i)
kind-at [] i k within = absurd (omega (arith, within))
kind-at (u ∷ us) zero k within = refl
kind-at (u ∷ us) (suc i) k within = kind-at us i k (omega (arith, within))

-- the same, of the values that are spelled
record IsAtValue (kinds : List Kind) (words : List ℕ) (place : ℕ) (v : Value)
    (vs : List Value) : Type 0 where
  kinds_are : kinds ≡ map kind_of vs
  words_are : words ≡ all_words vs
  within : place < length vs
  kind : kind_of v ≡ kind_of (at vs place)

IsAtValue-of : (kinds : List Kind) (words : List ℕ) (place first : ℕ) (v : Value)
    → IsSpelled kinds words → IsAt kinds place first v
    → IsAtValue kinds words place v (values_of kinds words)
IsAtValue-of kinds words place first v s h =
    let vs = values_of kinds words in
    let within : place < length vs =
    subst (λ n. place < n) (ap length s.kinds_are ∙ length-map vs kind_of) h.within in
    record {
      kinds_are = s.kinds_are;
      words_are = s.words_are;
      within = within;
      kind = sym h.kind ∙ ap (λ ks. slice_index_or ks place (kind_of v)) s.kinds_are
          ∙ kind-at vs place (kind_of v) within;
    }

put-at : (vs : List Value) (kinds : List Kind) (words : List ℕ) (place : ℕ) (v : Value)
    → AllByRecursion IsSmall vs → IsSmall v → IsAtValue kinds words place v vs
    → (values_of kinds (written words (words_before kinds place) (words_of v))
    ≡ slice_set vs place v)
    × IsSpelled kinds (written words (words_before kinds place) (words_of v))
put-at vs kinds words place v all_small small h =
    rw (h.kinds_are, h.words_are)
    (spelled_values (slice_set vs place v) (small-set vs place v all_small small)
    (map kind_of vs) (written (all_words vs) (words_before (map kind_of vs) place) (words_of v))
    (sym (kinds-set vs place v h.kind h.within)) (written-all_words vs place v h.within h.kind))

pub IsPut-of : (kinds : List Kind) (words lent new_words : List ℕ) (place first : ℕ) (v : Value)
    → IsSpelled kinds words → IsAt kinds place first v → IsSmall v → lent ≡ words
    → new_words ≡ written lent first (words_of v) → length new_words ≡ length lent
    → IsPut kinds words (refill (length words) words new_words) place v
IsPut-of kinds words lent new_words place first v s h small lent_is new_is same_length =
    let is : refill (length words) words new_words ≡ written words (words_before kinds place)
    (words_of v) =
    take_at new_words (drop (length new_words) words) (length words)
    (same_length ∙ ap length lent_is)
    ∙ new_is ∙ ap (λ ws. written ws first (words_of v)) lent_is
    ∙ ap (λ n. written words n (words_of v)) h.begins in
    let p = put-at (values_of kinds words) kinds words place v s.small small
    (IsAtValue-of kinds words place first v s h) in
    record {
      values = ap (values_of kinds) is ∙ p.0;
      spelled =
          subst (IsSpelled kinds) (sym is) p.1;
    }
