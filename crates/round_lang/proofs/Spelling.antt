-- Values are what is read from the words that they are spelled with.
use Rattle.std.proofs.Common.{◌≡◌, ◌∙◌, ℕ, true, false, List, [], ◌∷◌, ◌++◌, length, drop, refl}
use Rattle.std.proofs.Common.{sym, ap, subst}
use Rattle.std.specs.Prelude.{map}
use Rattle.std.specs.List.{AllByRecursion}
use Rattle.std.proofs.lemmas.List.{drop_at, map-append, append-nil}
use Rattle.std.proofs.lemmas.Grind.{flat_map-append}
use Rattle.std.proofs.Math.Seq.{take-append_seam}
use Rattle.round_lang.specs.declared.kind.Kind.{Kind}
use Rattle.round_lang.specs.declared.value.Value.{Value}
use Rattle.round_lang.specs.declared.value.Value.TheVariants.{Num, Flag, Set, Row}
use Rattle.round_lang.specs.Words.{size, read, values_of, kind_of, words_of, all_words, IsSmall}
use Rattle.round_lang.specs.Words.{IsSpelled}

-- a value is as long as its kind says
pub size-kind_of : (v : Value) → size (kind_of v) ≡ length (words_of v)
size-kind_of (Num n) = refl
size-kind_of (Flag b) = refl
size-kind_of (Set s) = refl
size-kind_of (Row r) = refl

pub read-words_of : (v : Value) (rest : List ℕ) → read (kind_of v) (words_of v ++ rest) ≡ v
read-words_of (Num n) rest = refl
read-words_of (Flag true) rest = refl
read-words_of (Flag false) rest = refl
read-words_of (Set s) rest = refl
read-words_of (Row r) rest = ap Row (take-append_seam r rest)

-- values are what is read from their words by their kinds
pub values_of-all_words : (vs : List Value) → values_of (map kind_of vs) (all_words vs) ≡ vs
values_of-all_words [] = refl
values_of-all_words (v ∷ vs) =
    ap (λ u. u ∷ values_of (map kind_of vs) (drop (size (kind_of v)) (words_of v ++ all_words vs)))
    (read-words_of v (all_words vs))
    ∙ ap (λ ws. v ∷ values_of (map kind_of vs) ws)
    (drop_at (words_of v) (all_words vs) (size (kind_of v)) (sym (size-kind_of v)))
    ∙ ap (λ us. v ∷ us) (values_of-all_words vs)

-- the kinds and words of small values are spelled
pub IsSpelled-of : (vs : List Value) → AllByRecursion IsSmall vs
    → IsSpelled (map kind_of vs) (all_words vs)
IsSpelled-of vs small =
    let back = sym (values_of-all_words vs) in
    record {
      kinds_are = ap (map kind_of) back;
      words_are = ap all_words back;
      small = subst (AllByRecursion IsSmall) back small;
    }

-- kinds and words that are those of small values spell them
pub spelled_values : (vs : List Value) → AllByRecursion IsSmall vs
    → (kinds : List Kind) (words : List ℕ) → kinds ≡ map kind_of vs → words ≡ all_words vs
    → (values_of kinds words ≡ vs) × IsSpelled kinds words
spelled_values vs small kinds words k w = rw (k, w) (values_of-all_words vs, IsSpelled-of vs small)

AllByRecursion-push : (vs : List Value) (v : Value) → AllByRecursion IsSmall vs → IsSmall v
    → AllByRecursion IsSmall (vs ++ v ∷ [])
AllByRecursion-push [] v h small = (small, tt)
AllByRecursion-push (u ∷ us) v h small = (h.0, AllByRecursion-push us v h.1 small)

-- what a value more leaves spelled
pub record IsPushed (kinds new_kinds : List Kind) (words new_words : List ℕ)
    (v : Value) : Type 0 where
  pub values : values_of new_kinds new_words ≡ values_of kinds words ++ v ∷ []
  pub spelled : IsSpelled new_kinds new_words

pub IsPushed-of : (kinds new_kinds : List Kind) (words new_words : List ℕ) (v : Value)
    → IsSpelled kinds words → IsSmall v → new_kinds ≡ kinds ++ kind_of v ∷ []
    → new_words ≡ words ++ words_of v → IsPushed kinds new_kinds words new_words v
IsPushed-of kinds new_kinds words new_words v s small kinds_are words_are =
    let vs = values_of kinds words in
    let k : new_kinds ≡ map kind_of (vs ++ v ∷ []) =
    kinds_are ∙ ap (λ ks. ks ++ kind_of v ∷ []) s.kinds_are
    ∙ sym (map-append kind_of vs (v ∷ [])) in
    let w : new_words ≡ all_words (vs ++ v ∷ []) =
    words_are ∙ ap (λ ws. ws ++ words_of v) s.words_are
    ∙ ap (λ ws. all_words vs ++ ws) (sym (append-nil (words_of v)))
    ∙ sym (flat_map-append words_of vs (v ∷ [])) in
    let h = spelled_values (vs ++ v ∷ []) (AllByRecursion-push vs v s.small small) new_kinds
    new_words k w in
    record { values = h.0; spelled = h.1 }
