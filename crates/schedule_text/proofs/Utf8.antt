-- Bytes behind a text in UTF-8.
use Rattle.std.proofs.Common.{◌≡◌, ℕ, zero, suc, ◌+◌, ◌≤◌, Bool, true, false, cond, List, [], ◌∷◌}
use Rattle.std.proofs.Common.{◌++◌, length, take, drop, IsUtf8, refl, sym, ap, subst, ◌∙◌, arith}
use Rattle.std.proofs.Common.{inl, inr, length-append}
use Rattle.std.proofs.lemmas.List.{drop_at, take_at}
use Rattle.std.proofs.lemmas.Str.{IsCharBoundary-from_take, IsUtf8-append, IsUtf8-drop}
use Rattle.std.proofs.lemmas.Str.{IsUtf8-from_is_utf8, is_utf8-from_IsUtf8}
use Rattle.std.specs.Str.{is_utf8}
use Rattle.std.specs.Str.Lossy.{utf8_error_len, utf8_valid_len, valid_len_up_to}
use Rattle.schedule_text.specs.Bytes.{BeginsUtf8}

-- what stands behind a text within another is one
pub utf8_behind : (a b : List ℕ) → IsUtf8 a → IsUtf8 (a ++ b) → IsUtf8 b
utf8_behind a b front whole =
    let same : take (length a) (a ++ b) ≡ a = take_at a b (length a) refl in
    let within : length a ≤ length (a ++ b) = omega (arith, length-append a b) in
    let at = IsCharBoundary-from_take (a ++ b) (length a) whole within
    (subst IsUtf8 (sym same) front) in
    subst IsUtf8 (drop_at a b (length a) refl) (IsUtf8-drop (a ++ b) (length a) whole at)

both_true : (x y : Bool) → (x ≡ true → y ≡ true) → (y ≡ true → x ≡ true) → x ≡ y
both_true true y there back = sym (there refl)
both_true false true there back = back refl
both_true false false there back = refl

test_behind : (a b : List ℕ) → IsUtf8 a → is_utf8 (a ++ b) ≡ is_utf8 b
test_behind a b front = both_true (is_utf8 (a ++ b)) (is_utf8 b)
    (λ e. is_utf8-from_IsUtf8 b (utf8_behind a b front (IsUtf8-from_is_utf8 (a ++ b) e)))
    (λ e. is_utf8-from_IsUtf8 (a ++ b) (IsUtf8-append a b front (IsUtf8-from_is_utf8 b e)))

take_behind : (n : ℕ) (a b : List ℕ) → take (n + length a) (a ++ b) ≡ a ++ take n b
take_behind n [] b = ap (λ k. take k b) (omega arith)
take_behind n (x ∷ a) b =
    ap (λ k. take k (x ∷ (a ++ b))) {x = n + suc (length a)} {y = suc (n + length a)} (omega arith)
    ∙ ap (λ l. x ∷ l) (take_behind n a b)

all_of_front : (a b : List ℕ) → IsUtf8 a → valid_len_up_to (a ++ b) (length a) ≡ length a
all_of_front [] b front = refl
all_of_front (x ∷ a) b front =
    let same : take (length (x ∷ a)) ((x ∷ a) ++ b) ≡ x ∷ a =
    take_at (x ∷ a) b (length (x ∷ a)) refl in
    ap (λ t. cond t (length (x ∷ a)) (valid_len_up_to ((x ∷ a) ++ b) (length a)))
    (ap is_utf8 same ∙ is_utf8-from_IsUtf8 (x ∷ a) front)

cond_more : (t : Bool) (n m l : ℕ) → cond t (n + l) (m + l) ≡ cond t n m + l
cond_more true n m l = refl
cond_more false n m l = refl

none_more : (n : ℕ) → n ≡ 0 + n
none_more n = omega arith

step_up : (bs : List ℕ) (k n : ℕ) → k ≡ suc n
    → valid_len_up_to bs k ≡ cond (is_utf8 (take k bs)) k (valid_len_up_to bs n)
step_up bs k n e = ap (valid_len_up_to bs) e
    ∙ sym (ap (λ j. cond (is_utf8 (take j bs)) j (valid_len_up_to bs n)) e)

up_to_behind : (n : ℕ) (a b : List ℕ) → IsUtf8 a
    → valid_len_up_to (a ++ b) (n + length a) ≡ valid_len_up_to b n + length a
up_to_behind zero a b front =
    ap (valid_len_up_to (a ++ b)) {x = 0 + length a} {y = length a} (omega arith)
    ∙ all_of_front a b front ∙ none_more (length a)
up_to_behind (suc n) a b front =
    let test = ap is_utf8 (take_behind (suc n) a b) ∙ test_behind a (take (suc n) b) front in
    step_up (a ++ b) (suc n + length a) (n + length a) (omega arith)
    ∙ ap (λ t. cond t (suc n + length a) (valid_len_up_to (a ++ b) (n + length a))) test
    ∙ ap (λ m. cond (is_utf8 (take (suc n) b)) (suc n + length a) m) (up_to_behind n a b front)
    ∙ cond_more (is_utf8 (take (suc n) b)) (suc n) (valid_len_up_to b n) (length a)

valid_behind : (a b : List ℕ) → IsUtf8 a → utf8_valid_len (a ++ b) ≡ utf8_valid_len b + length a
unfolding utf8_valid_len
valid_behind a b front =
    ap (valid_len_up_to (a ++ b)) {x = length (a ++ b)} {y = length b + length a}
    (omega (arith, length-append a b))
    ∙ up_to_behind (length b) a b front

drop_behind : (n : ℕ) (a b : List ℕ) → drop (n + length a) (a ++ b) ≡ drop n b
drop_behind n [] b = ap (λ k. drop k b) (omega arith)
drop_behind n (x ∷ a) b =
    ap (λ k. drop k (x ∷ (a ++ b))) {x = n + suc (length a)} {y = suc (n + length a)} (omega arith)
    ∙ drop_behind n a b

fault_behind : (a b : List ℕ) → IsUtf8 a
    → utf8_error_len (drop (utf8_valid_len (a ++ b)) (a ++ b))
    ≡ utf8_error_len (drop (utf8_valid_len b) b)
fault_behind a b front =
    ap utf8_error_len (ap (λ n. drop n (a ++ b)) (valid_behind a b front)
    ∙ drop_behind (utf8_valid_len b) a b)

-- bytes behind a text begin one exactly if all of them do
pub begins_all : (a b : List ℕ) → IsUtf8 a → BeginsUtf8 b → BeginsUtf8 (a ++ b)
begins_all a b front (inl u) = inl (IsUtf8-append a b front u)
begins_all a b front (inr e) = inr (fault_behind a b front ∙ e)

pub begins_behind : (a b : List ℕ) → IsUtf8 a → BeginsUtf8 (a ++ b) → BeginsUtf8 b
begins_behind a b front (inl u) = inl (utf8_behind a b front u)
begins_behind a b front (inr e) = inr (sym (fault_behind a b front) ∙ e)
