-- What is no token, and what is the longest one.
use Rattle.std.proofs.Common.{◌≡◌, ℕ, zero, suc, ◌+◌, ◌<◌, ◌≤◌, Bool, true, false, cond, ◌&&◌, List}
use Rattle.std.proofs.Common.{[], ◌∷◌, length, take, Some, None, refl, ◌∙◌, arith}
use Rattle.std.specs.Char.{is_ascii_digit}
use Rattle.std.specs.List.{list_all, prefix_len}
use Rattle.std.proofs.lemmas.Bool.Decides.{nat_tests}
use Rattle.std.proofs.Math.Numerals.{one-add}
use Rattle.std.proofs.lemmas.List.Sums.{prefix_len-le-length}
use Rattle.round_lang.specs.Lexemes.{Lexeme, number}
use Rattle.round_lang.specs.Keywords.{keyword, short_symbol, long_symbol, symbol}
use Rattle.round_lang.specs.Tokens.{is_blank, begins_name, is_in_name, word_of, lexeme, IsLongest}

-- ---- a run

all_in_step : (p : ℕ → Bool) (x : ℕ) (xs : List ℕ) (b : Bool) → p x ≡ b
    → list_all p (take (prefix_len p xs) xs) ≡ true
    → list_all p (take (cond b (1 + prefix_len p xs) 0) (x ∷ xs)) ≡ true
all_in_step p x xs false e ih = refl
all_in_step p x xs true e ih = rw (one-add, e) ih

pub all_in_run : (p : ℕ → Bool) (xs : List ℕ) → list_all p (take (prefix_len p xs) xs) ≡ true
all_in_run p [] = refl
all_in_run p (x ∷ xs) = all_in_step p x xs (p x) refl (all_in_run p xs)

not_all_step : (p : ℕ → Bool) (x : ℕ) (xs : List ℕ) (k : ℕ) (b : Bool) → p x ≡ b
    → cond b (1 + prefix_len p xs) 0 < suc k
    → (prefix_len p xs < k → list_all p (take k xs) ≡ false)
    → (p x && list_all p (take k xs)) ≡ false
not_all_step p x xs k false e lt ih = rw e refl
not_all_step p x xs k true e lt ih = rw e (ih (omega arith))

pub not_all_past_run : (p : ℕ → Bool) (xs : List ℕ) (k : ℕ) → prefix_len p xs < k → k ≤ length xs
    → list_all p (take k xs) ≡ false
not_all_past_run p [] k lt le = absurd (omega arith)
not_all_past_run p (x ∷ xs) zero lt le = absurd (omega arith)
not_all_past_run p (x ∷ xs) (suc k) lt le =
    not_all_step p x xs k (p x) refl lt (λ below. not_all_past_run p xs k below (omega arith))

-- ---- first bytes

letter_begins_no_symbol : (a b : ℕ) → begins_name a ≡ true → long_symbol a b ≡ None
unfolding long_symbol
letter_begins_no_symbol a b h = grind (arith, nat_tests)

digit_begins_no_symbol : (a b : ℕ) → is_ascii_digit a ≡ true → long_symbol a b ≡ None
unfolding long_symbol
digit_begins_no_symbol a b h = grind (arith, nat_tests)

letter_is_no_digit : (a : ℕ) → begins_name a ≡ true → is_ascii_digit a ≡ false
letter_is_no_digit a h = grind (arith, nat_tests)

pub blank_is : (a : ℕ) → is_blank a ≡ true → (begins_name a ≡ false) × (is_ascii_digit a ≡ false)
    × (short_symbol a ≡ None) × ((b : ℕ) → long_symbol a b ≡ None)
unfolding short_symbol long_symbol
blank_is a h = (
  grind (arith, nat_tests),
  grind (arith, nat_tests),
  grind (arith, nat_tests),
  λ b. grind
      (arith, nat_tests),
)

pub hash_is : (a : ℕ) → a ≡ 35 → (begins_name a ≡ false) × (is_ascii_digit a ≡ false)
    × (short_symbol a ≡ None) × ((b : ℕ) → long_symbol a b ≡ None) × (is_blank a ≡ false)
unfolding short_symbol long_symbol
hash_is a h = (
  grind (arith, nat_tests),
  grind (arith, nat_tests),
  grind (arith, nat_tests),
  λ b. grind
      (arith, nat_tests),
  grind (arith, nat_tests),
)

-- ---- which fronts are tokens

pub empty_is_none : lexeme [] ≡ None
unfolding lexeme
empty_is_none = refl

-- a front that begins with neither a letter nor a digit is at most a symbol
other_is : (a : ℕ) (xs : List ℕ) → begins_name a ≡ false → is_ascii_digit a ≡ false
    → lexeme (a ∷ xs) ≡ symbol (a ∷ xs)
unfolding lexeme
other_is a xs h k = rw (h, k) refl

symbol_is_none : (a : ℕ) (xs : List ℕ) → (xs ≡ [] → short_symbol a ≡ None)
    → ((b : ℕ) → long_symbol a b ≡ None) → symbol (a ∷ xs) ≡ None
symbol_is_none a [] h k = h refl
symbol_is_none a (b ∷ []) h k = k b
symbol_is_none a (b ∷ c ∷ xs) h k = refl

-- no token begins with this byte
pub nothing_begins : (a : ℕ) → begins_name a ≡ false → is_ascii_digit a ≡ false
    → short_symbol a ≡ None → ((b : ℕ) → long_symbol a b ≡ None) → (bs : List ℕ) (n : ℕ)
    → lexeme (take n (a ∷ bs)) ≡ None
nothing_begins a h k s l bs zero = empty_is_none
nothing_begins a h k s l bs (suc n) =
    other_is a (take n bs) h k ∙ symbol_is_none a (take n bs) (λ e. s) l

-- ---- the longest tokens

name_is : (a : ℕ) (xs : List ℕ) → begins_name a ≡ true → list_all is_in_name xs ≡ true
    → lexeme (a ∷ xs) ≡ Some (word_of (a ∷ xs) (keyword (a ∷ xs)))
unfolding lexeme
name_is a xs h k = rw (h, k) refl

name_is_not : (a b : ℕ) (xs : List ℕ) → begins_name a ≡ true → list_all is_in_name (b ∷ xs) ≡ false
    → lexeme (a ∷ b ∷ xs) ≡ None
unfolding lexeme
name_is_not a b xs h k =
    let d = letter_is_no_digit a h in
    let s : symbol (a ∷ b ∷ xs) ≡ None =
    symbol_is_none a (b ∷ xs) (λ e. absurd cc) (λ b. letter_begins_no_symbol a b h) in
    rw (h, k, d, s) refl

pub name_longest : (a : ℕ) (bs : List ℕ) → begins_name a ≡ true
    → IsLongest (a ∷ bs) (suc (prefix_len is_in_name bs))
    (word_of (take (suc (prefix_len is_in_name bs)) (a ∷ bs))
    (keyword (take (suc (prefix_len is_in_name bs)) (a ∷ bs))))
name_longest a bs h = record {
  within = omega (arith, prefix_len-le-length is_in_name bs);
  is = name_is a (take (prefix_len is_in_name bs) bs) h (all_in_run is_in_name bs);
  longest = λ k lt le. past k lt le;
}
  where
    past : (k : ℕ) → suc (prefix_len is_in_name bs) < k → k ≤ length (a ∷ bs)
        → lexeme (take k (a ∷ bs)) ≡ None
    past zero lt le = absurd (omega arith)
    past (suc k) lt le = go k bs (not_all_past_run is_in_name bs k (omega arith) (omega arith))
        (omega arith) (omega arith)
      where
        go : (k : ℕ) (xs : List ℕ) → list_all is_in_name (take k xs) ≡ false → 0 < k → k ≤ length xs
            → lexeme (a ∷ take k xs) ≡ None
        go zero xs n lt le = absurd (omega arith)
        go (suc k) [] n lt le = absurd (omega arith)
        go (suc k) (b ∷ xs) n lt le = name_is_not a b (take k xs) h n

number_is : (a : ℕ) (xs : List ℕ) → begins_name a ≡ false → is_ascii_digit a ≡ true
    → list_all is_ascii_digit xs ≡ true → lexeme (a ∷ xs) ≡ Some (number (a ∷ xs))
unfolding lexeme
number_is a xs g h k = rw (g, h, k) refl

number_is_not : (a b : ℕ) (xs : List ℕ) → begins_name a ≡ false → is_ascii_digit a ≡ true
    → list_all is_ascii_digit (b ∷ xs) ≡ false → lexeme (a ∷ b ∷ xs) ≡ None
unfolding lexeme
number_is_not a b xs g h k =
    let s : symbol (a ∷ b ∷ xs) ≡ None =
    symbol_is_none a (b ∷ xs) (λ e. absurd cc) (λ b. digit_begins_no_symbol a b h) in
    rw (g, h, k, s) refl

pub number_longest : (a : ℕ) (bs : List ℕ) → begins_name a ≡ false → is_ascii_digit a ≡ true
    → IsLongest (a ∷ bs) (suc (prefix_len is_ascii_digit bs))
    (number (take (suc (prefix_len is_ascii_digit bs)) (a ∷ bs)))
number_longest a bs g h = record {
  within = omega (arith, prefix_len-le-length is_ascii_digit bs);
  is = number_is a (take (prefix_len is_ascii_digit bs) bs) g h (all_in_run is_ascii_digit bs);
  longest = λ k lt le. past k lt le;
}
  where
    past : (k : ℕ) → suc (prefix_len is_ascii_digit bs) < k → k ≤ length (a ∷ bs)
        → lexeme (take k (a ∷ bs)) ≡ None
    past zero lt le = absurd (omega arith)
    past (suc k) lt le = go k bs (not_all_past_run is_ascii_digit bs k (omega arith) (omega arith))
        (omega arith) (omega arith)
      where
        go : (k : ℕ) (xs : List ℕ) → list_all is_ascii_digit (take k xs) ≡ false → 0 < k
            → k ≤ length xs → lexeme (a ∷ take k xs) ≡ None
        go zero xs n lt le = absurd (omega arith)
        go (suc k) [] n lt le = absurd (omega arith)
        go (suc k) (b ∷ xs) n lt le = number_is_not a b (take k xs) g h n

module _ (a : ℕ) (g : begins_name a ≡ false) (h : is_ascii_digit a ≡ false) where
  pub long_longest : (b : ℕ) (bs : List ℕ) (l : Lexeme) → long_symbol a b ≡ Some l
      → IsLongest (a ∷ b ∷ bs) 2 l
  long_longest b bs l e = record {
    within = omega arith;
    is = other_is a (b ∷ []) g h ∙ e;
    longest = past;
  }
    where
      past : (k : ℕ) → 2 < k → k ≤ length (a ∷ b ∷ bs) → lexeme (take k (a ∷ b ∷ bs)) ≡ None
      past zero lt le = absurd (omega arith)
      past (suc zero) lt le = absurd (omega arith)
      past (suc (suc zero)) lt le = absurd (omega arith)
      past (suc (suc (suc k))) lt le = go bs (omega arith)
        where
          go : (xs : List ℕ) → 0 < length xs → lexeme (a ∷ b ∷ take (suc k) xs) ≡ None
          go [] lt = absurd (omega arith)
          go (c ∷ xs) lt = other_is a (b ∷ c ∷ take k xs) g h

  pub short_longest : (bs : List ℕ) (l : Lexeme)
      → ((b : ℕ) (xs : List ℕ) → bs ≡ b ∷ xs → long_symbol a b ≡ None) → short_symbol a ≡ Some l
      → IsLongest (a ∷ bs) 1 l
  short_longest bs l none e = record {
    within = omega arith;
    is = other_is a [] g h ∙ e;
    longest = past bs none;
  }
    where
      past : (bs : List ℕ) → ((b : ℕ) (xs : List ℕ) → bs ≡ b ∷ xs → long_symbol a b ≡ None)
          → (k : ℕ) → 1 < k → k ≤ length (a ∷ bs) → lexeme (take k (a ∷ bs)) ≡ None
      past [] none k lt le = absurd (omega arith)
      past (b ∷ xs) none zero lt le = absurd (omega arith)
      past (b ∷ xs) none (suc zero) lt le = absurd (omega arith)
      past (b ∷ xs) none (suc (suc zero)) lt le = other_is a (b ∷ []) g h ∙ none b xs refl
      past (b ∷ []) none (suc (suc (suc k))) lt le = absurd (omega arith)
      past (b ∷ c ∷ xs) none (suc (suc (suc k))) lt le = other_is a (b ∷ c ∷ take k xs) g h

  -- no front is a token
  pub nothing_fits : (bs : List ℕ) → ((b : ℕ) (xs : List ℕ) → bs ≡ b ∷ xs → long_symbol a b ≡ None)
      → short_symbol a ≡ None → (n : ℕ) → lexeme (take n (a ∷ bs)) ≡ None
  nothing_fits bs none s zero = empty_is_none
  nothing_fits [] none s (suc zero) = other_is a [] g h ∙ s
  nothing_fits [] none s (suc (suc n)) = other_is a [] g h ∙ s
  nothing_fits (b ∷ xs) none s (suc zero) = other_is a [] g h ∙ s
  nothing_fits (b ∷ xs) none s (suc (suc zero)) = other_is a (b ∷ []) g h ∙ none b xs refl
  nothing_fits (b ∷ []) none s (suc (suc (suc n))) = other_is a (b ∷ []) g h ∙ none b [] refl
  nothing_fits (b ∷ c ∷ xs) none s (suc (suc (suc n))) = other_is a (b ∷ c ∷ take n xs) g h
