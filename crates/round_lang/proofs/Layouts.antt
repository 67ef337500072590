-- Where the words of each place begin.
use Rattle.std.proofs.Common.{◌≡◌, ◌∙◌, ℕ, zero, suc, ◌+◌, ◌-◌, ◌<◌, ◌^◌, List, [], ◌∷◌, ◌++◌}
use Rattle.std.proofs.Common.{length, refl, ap, arith, add-one, length-append, below_more}
use Rattle.std.proofs.lemmas.List.{get_or_append_left, get_or_push}
use Rattle.std.specs.Prelude.{min, slice_index, slice_index_or}
use Rattle.round_lang.specs.declared.kind.Kind.{Kind}
use Rattle.round_lang.specs.Words.{size, start_of, words_before, IsLaidOut}

-- no words lie before the first place
words_before-first : (kinds : List Kind) → words_before kinds 0 ≡ 0
words_before-first [] = refl
words_before-first (k ∷ ks) = refl

-- the words of a place's value lie before those of the next
words_before-more : (kinds : List Kind) (place : ℕ) (kind : Kind) → place < length kinds
    → words_before kinds (place + 1) ≡ words_before kinds place + size
    (slice_index_or kinds place kind)
words_before-more [] place kind within = absurd (omega (arith, within))
words_before-more (k ∷ ks) zero kind within = omega (arith, words_before-first ks)
words_before-more (k ∷ ks) (suc place) kind within =
    let below : place < length ks = omega (arith, within) in
    omega (
      arith,
      ap (words_before (k ∷ ks)) (add-one (suc place)),
      ap (words_before ks)
          (add-one place),
      words_before-more ks place kind below,
    )

-- the starts of the first places, and that of the next one
pub record IsLaidOutTo (kinds : List Kind) (starts : List ℕ) (count next : ℕ) : Type 0 where
  pub next_is : next ≡ start_of kinds count
  pub one_each : length starts ≡ count
  pub begins : (place : ℕ) → place < count → slice_index starts place ≡ start_of kinds place

pub IsLaidOutTo-none : (kinds : List Kind) (starts : List ℕ) → starts ≡ []
    → IsLaidOutTo kinds starts 0 0
IsLaidOutTo-none kinds starts none =
    record {
      next_is = omega (arith, words_before-first kinds);
      one_each = ap length none;
      begins = λ place below. absurd (omega (arith, below));
    }

pub IsLaidOutTo-more : (kinds : List Kind) (starts more : List ℕ) (count start next : ℕ)
    (kind : Kind) → IsLaidOutTo kinds starts count start → count < length kinds
    → more ≡ starts ++ start ∷ [] → next ≡ min (start + size (slice_index_or kinds count kind))
    (2 ^ 64 - 1) → IsLaidOutTo kinds more (count + 1) next
IsLaidOutTo-more kinds starts more count start next kind h within more_is next_is =
    let P : ℕ → Type 0 = λ place. slice_index (starts ++ start ∷ []) place ≡ start_of kinds place in
    let old : (place : ℕ) → place < count → P place =
    λ place below. get_or_append_left starts (start ∷ []) 0 place (omega (arith, below, h.one_each))
    ∙ h.begins place below in
    let here : P count = get_or_push starts start 0 count h.one_each ∙ h.next_is in
    record {
      next_is = omega (arith, next_is, h.next_is, words_before-more kinds count kind within);
      one_each = ap length more_is ∙ length-append starts (start ∷ []) ∙ ap (λ n. n + 1) h.one_each;
      begins = λ place below. rw more_is (below_more P count old here place below);
    }

pub IsLaidOut-of : (kinds : List Kind) (starts : List ℕ) (count next : ℕ)
    → IsLaidOutTo kinds starts count next → count ≡ length kinds → IsLaidOut kinds starts
IsLaidOut-of kinds starts count next h whole =
    record {
      one_each = h.one_each ∙ whole;
      begins = λ place below. h.begins place (omega (arith, below, whole));
    }
