-- The number at the front of a text.
use Rattle.std.proofs.Common.{
  ◌≡◌,
  ◌≢◌,
  ℕ,
  ◌+◌,
  ◌^◌,
  ◌<◌,
  ◌≤◌,
  Bool,
  true,
  false,
  cond,
  eqb,
  ◌&&◌,
  List,
}
use Rattle.std.proofs.Common.{[], ◌∷◌, ◌++◌, length, take, drop, get_or, map, Option, Some, None}
use Rattle.std.proofs.Common.{option_map, Result, Ok, Err, leb, le-leb, append_assoc, refl, sym, ap}
use Rattle.std.proofs.Common.{subst, ◌∙◌, arith}
use Rattle.std.specs.Char.{is_ascii_digit}
use Rattle.std.specs.List.{list_all, onto_first, prefix_len, take_while}
use Rattle.std.proofs.lemmas.Bool.{and_parts, and_from, and_left, and_right, ne_eqb, cond_both}
use Rattle.std.proofs.Math.Nat.{pow-le-pow_right}
use Rattle.std.proofs.lemmas.List.{take_all, take-append-drop, drop_more}
use Rattle.std.proofs.lemmas.List.Sums.{take_while-cons, prefix_len_is, prefix_len_stops}
use Rattle.std.proofs.lemmas.List.Folds.{length-prefix_len}
use Rattle.std.proofs.lemmas.List.Splits.{length-slice_split}
use Rattle.schedule_text.specs.declared.fault.LineFault.{LineFault}
use Rattle.schedule_text.specs.declared.fault.LineFault.TheVariants as line
use Rattle.schedule_text.specs.Fronts.{three_or_four, two_numbers, capped, front_value}
use Rattle.schedule_text.specs.Stages.{one_of, all_of, mapped, numbers_in}
use Rattle.schedule_text.specs.Numbers.{is_number, value_of, words_of}

digit_no_space : (d : ℕ) → is_ascii_digit d ≡ true → eqb d 32 ≡ false
digit_no_space d h = ne_eqb d 32 (λ e. let h' = rw e at h in cc)

-- the first word of digits with a space behind them is the digits
words-digits : (ds ys : List ℕ) → list_all is_ascii_digit ds ≡ true
    → words_of (ds ++ 32 ∷ ys) ≡ ds ∷ words_of ys
words-digits [] ys h = refl
words-digits (d ∷ ds) ys h =
    let p = and_parts (is_ascii_digit d) (list_all is_ascii_digit ds) h in
    let n = digit_no_space d p.0 in
    rw n (rw (words-digits ds ys p.1) refl)

words-digits_alone : (ds : List ℕ) → list_all is_ascii_digit ds ≡ true → words_of ds ≡ ds ∷ []
words-digits_alone [] h = refl
words-digits_alone (d ∷ ds) h =
    let p = and_parts (is_ascii_digit d) (list_all is_ascii_digit ds) h in
    let n = digit_no_space d p.0 in
    rw n (rw (words-digits_alone ds p.1) refl)

-- the digits at the front are digits
front_digits : (t : List ℕ) → list_all is_ascii_digit (take_while is_ascii_digit t) ≡ true
front_digits [] = refl
front_digits (x ∷ xs) =
    let P : List ℕ → Type 0 = λ l. list_all is_ascii_digit l ≡ true in
    subst P (sym (take_while-cons is_ascii_digit x xs))
    (cond_both (is_ascii_digit x) (x ∷ take_while is_ascii_digit xs) [] P
    (λ h. and_from (is_ascii_digit x) (list_all is_ascii_digit (take_while is_ascii_digit xs)) h
    (front_digits xs)) (λ _. refl))

pub some_digits : (ds : List ℕ) → 0 < length ds → list_all is_ascii_digit ds ≡ true
    → is_number ds ≡ true
some_digits [] lt h = absurd (omega (arith, lt))
some_digits (d ∷ ds) lt h = h

numbers-none : (t : List ℕ) → list_all is_number (words_of t) ≡ false → numbers_in t ≡ None
unfolding numbers_in
numbers-none t h = rw h refl

pub numbers-alone : (ds : List ℕ) → is_number ds ≡ true → list_all is_ascii_digit ds ≡ true
    → numbers_in ds ≡ Some (value_of ds ∷ [])
unfolding numbers_in
numbers-alone ds is h = rw (words-digits_alone ds h) (rw is refl)

cond_front : (b : Bool) (v : ℕ) (vs : List ℕ)
    → cond b (Some (v ∷ vs)) None ≡ option_map (λ vs. v ∷ vs) (cond b (Some vs) None)
cond_front true v vs = refl
cond_front false v vs = refl

pub numbers-more : (ds ys : List ℕ) → is_number ds ≡ true → list_all is_ascii_digit ds ≡ true
    → numbers_in (ds ++ 32 ∷ ys) ≡ option_map (λ vs. value_of ds ∷ vs) (numbers_in ys)
unfolding numbers_in
numbers-more ds ys is h = rw (words-digits ds ys h)
    (rw is (cond_front (list_all is_number (words_of ys)) (value_of ds)
    (map value_of (words_of ys))))

-- whether the first word is digits
abbrev front_passes : List (List ℕ) → Bool
front_passes [] = true
front_passes (w ∷ ws) = list_all is_ascii_digit w

front_passes-onto : (d : ℕ) (ws : List (List ℕ))
    → front_passes (onto_first d ws) ≡ (is_ascii_digit d && front_passes ws)
front_passes-onto d [] = refl
front_passes-onto d (w ∷ ws) = refl

none_from_front : (ws : List (List ℕ)) → front_passes ws ≡ false → list_all is_number ws ≡ false
none_from_front [] h = cc
none_from_front ([] ∷ ws) h = cc
none_from_front ((b ∷ bs) ∷ ws) h = and_left (is_number (b ∷ bs)) (list_all is_number ws) h

-- digits with a byte behind them that is no digit and no space
front_fails : (ds : List ℕ) (y : ℕ) (ys : List ℕ) → list_all is_ascii_digit ds ≡ true
    → is_ascii_digit y ≡ false → eqb y 32 ≡ false → front_passes (words_of (ds ++ y ∷ ys)) ≡ false
front_fails [] y ys h isnt ne = rw ne (front_passes-onto y (words_of ys)
    ∙ and_left (is_ascii_digit y) (front_passes (words_of ys)) isnt)
front_fails (d ∷ ds) y ys h isnt ne =
    let p = and_parts (is_ascii_digit d) (list_all is_ascii_digit ds) h in
    let n = digit_no_space d p.0 in
    rw n (front_passes-onto d (words_of (ds ++ y ∷ ys))
    ∙ and_right (is_ascii_digit d) (front_passes (words_of (ds ++ y ∷ ys)))
    (front_fails ds y ys p.1 isnt ne))

zero_front : (b : Bool) (n : ℕ) → cond b (1 + n) 0 ≡ 0 → b ≡ false
zero_front true n e = absurd (omega (arith, e))
zero_front false n e = refl

-- a text that begins with no digit
pub no_number : (t : List ℕ) → prefix_len is_ascii_digit t ≡ 0 → numbers_in t ≡ None
no_number [] e = numbers-none [] refl
no_number (y ∷ ys) e =
    let isnt = zero_front (is_ascii_digit y) (prefix_len is_ascii_digit ys) e in
    let P : List (List ℕ) → Type 0 = λ ws. list_all is_number ws ≡ false in
    numbers-none (y ∷ ys) (cond_both (eqb y 32) ([] ∷ words_of ys) (onto_first y (words_of ys)) P
    (λ _. refl) (λ ne. none_from_front (onto_first y (words_of ys))
    (front_passes-onto y (words_of ys)
    ∙ and_left (is_ascii_digit y) (front_passes (words_of ys)) isnt)))

module _ (t : List ℕ) (n : ℕ) (n-is : n ≡ prefix_len is_ascii_digit t) (some : n ≢ 0) where
  pub front_is : take n t ≡ take_while is_ascii_digit t
  front_is = ap (λ k. take k t) n-is

  digits : list_all is_ascii_digit (take n t) ≡ true
  digits = ap (list_all is_ascii_digit) front_is ∙ front_digits t

  pub is_one : is_number (take n t) ≡ true
  is_one = some_digits (take n t) (let l = ap length front_is
      ∙ length-prefix_len is_ascii_digit t in omega (arith, l)) digits

  pub number_alone : n ≡ length t → numbers_in t ≡ Some (front_value t ∷ [])
  number_alone e =
      let whole : take n t ≡ t = take_all n t (omega (arith, e)) in
      ap numbers_in (sym whole) ∙ numbers-alone (take n t) is_one digits
      ∙ ap (λ ds. Some (value_of ds ∷ [])) front_is

  module _ (y : ℕ) (lt : n < length t) (y-is : y ≡ get_or t n 0) where
    pub parts : t ≡ take n t ++ (y ∷ drop (n + 1) t)
    parts = sym (take-append-drop n t)
        ∙ ap (λ l. take n t ++ l) (drop_more t n 0 lt ∙ ap (λ x. x ∷ drop (n + 1) t) (sym y-is))

    pub number_more : y ≡ 32
        → numbers_in t ≡ option_map (λ vs. front_value t ∷ vs) (numbers_in (drop (n + 1) t))
    number_more e =
        ap numbers_in (parts ∙ ap (λ x. take n t ++ (x ∷ drop (n + 1) t)) e)
        ∙ numbers-more (take n t) (drop (n + 1) t) is_one digits
        ∙ ap (λ ds. option_map (λ vs. value_of ds ∷ vs) (numbers_in (drop (n + 1) t))) front_is

    pub number_broken : y ≢ 32 → numbers_in t ≡ None
    number_broken ne =
        let isnt : is_ascii_digit y ≡ false = ap is_ascii_digit (y-is ∙ ap (λ k. get_or t k 0) n-is)
        ∙ prefix_len_stops is_ascii_digit t 0 (omega (arith, lt, n-is)) in
        numbers-none t (none_from_front (words_of t) (ap (λ x. front_passes (words_of x)) parts
        ∙ front_fails (take n t) y (drop (n + 1) t) digits isnt (ne_eqb y 32 ne)))

-- a text's bytes below a place are digits, and v is their value, capped
pub record CountsDigits (t : List ℕ) (n v : ℕ) : Type 0 where
  pub digits : (k : ℕ) → k < n → is_ascii_digit (get_or t k 0) ≡ true
  pub value : v ≡ capped (value_of (take n t))

-- the first n bytes of a text are digits, and spell v
pub record Spell (t : List ℕ) (n v : ℕ) : Type 0 where
  pub digits : list_all is_ascii_digit (take n t) ≡ true
  pub value : v ≡ value_of (take n t)
  pub below : v < 10 ^ n

-- eight digits at most spell a number below 10 ^ 8
pub spell_few : (t : List ℕ) (n v : ℕ) → Spell t n v → n ≤ 8 → v < 100000000
spell_few t n v s few = let most : 10 ^ n ≤ 10 ^ 8 = pow-le-pow_right (omega arith) few in
    let l = s.below in omega (arith, most, l)

pub digits_end : (t : List ℕ) (n v : ℕ) → CountsDigits t n v → n ≤ length t
    → (n < length t → is_ascii_digit (get_or t n 0) ≡ false)
    → (n ≡ prefix_len is_ascii_digit t) × (v ≡ capped (front_value t))
digits_end t n v all within stops =
    let len = sym (prefix_len_is is_ascii_digit t n 0 within all.digits stops) in
    (len, all.value ∙ ap (λ k. capped (value_of (take k t))) len)

-- a number with more behind it isn't alone
several : (b : Bool) (v : ℕ) (ws : List (List ℕ)) → 0 < length ws
    → one_of (option_map (λ vs. v ∷ vs) (cond b (Some (map value_of ws)) None)) ≡ Err line.Bad
several b v [] lt = absurd (omega (arith, lt))
several true v (w ∷ ws) lt = refl
several false v (w ∷ ws) lt = refl

some_word : (t : List ℕ) → 0 < length (words_of t)
some_word t = omega (arith, length-slice_split (λ b. eqb b 32) t)

pub one_of-more : (v : ℕ) (t : List ℕ)
    → one_of (option_map (λ vs. v ∷ vs) (numbers_in t)) ≡ Err line.Bad
unfolding numbers_in
one_of-more v t = several (list_all is_number (words_of t)) v (words_of t) (some_word t)

above_two : (b : Bool) (v w : ℕ) (ws : List (List ℕ)) → 0 < length ws
    → two_numbers
    (option_map (λ vs. v ∷ vs) (option_map (λ vs. w ∷ vs) (cond b (Some (map value_of ws)) None)))
    ≡ None
above_two b v w [] lt = absurd (omega (arith, lt))
above_two true v w (u ∷ ws) lt = refl
above_two false v w (u ∷ ws) lt = refl

pub two_numbers-more : (v w : ℕ) (t : List ℕ)
    → two_numbers (option_map (λ vs. v ∷ vs) (option_map (λ vs. w ∷ vs) (numbers_in t))) ≡ None
unfolding numbers_in
two_numbers-more v w t = above_two (list_all is_number (words_of t)) v w (words_of t) (some_word t)

above_four : (b : Bool) (v w x y : ℕ) (ws : List (List ℕ)) → 0 < length ws
    → three_or_four
    (option_map (λ vs. v ∷ vs)
    (option_map (λ vs. w ∷ vs)
    (option_map (λ vs. x ∷ vs) (option_map (λ vs. y ∷ vs) (cond b (Some (map value_of ws)) None)))))
    ≡ None
above_four b v w x y [] lt = absurd (omega (arith, lt))
above_four true v w x y (u ∷ ws) lt = refl
above_four false v w x y (u ∷ ws) lt = refl

pub three_or_four-more : (v w x y : ℕ) (t : List ℕ)
    → three_or_four
    (option_map (λ vs. v ∷ vs)
    (option_map (λ vs. w ∷ vs)
    (option_map (λ vs. x ∷ vs) (option_map (λ vs. y ∷ vs) (numbers_in t))))) ≡ None
unfolding numbers_in
three_or_four-more v w x y t = above_four (list_all is_number (words_of t)) v w x y (words_of t)
    (some_word t)

-- numbers behind those read so far
abbrev pub onto : List ℕ → Result (List ℕ) LineFault → Result (List ℕ) LineFault
onto seen r = mapped (λ vs. seen ++ vs) r

pub onto-onto : (seen : List ℕ) (v : ℕ) (r : Result (List ℕ) LineFault)
    → onto seen (onto (v ∷ []) r) ≡ onto (seen ++ v ∷ []) r
onto-onto seen v (Ok vs) = ap (λ (l : List ℕ). Ok l) (simp append_assoc)
onto-onto seen v (Err e) = refl

cond_onto : (b : Bool) (v : ℕ) (vs : List ℕ)
    → cond b (Ok (v ∷ vs)) (Err line.Large) ≡ onto (v ∷ []) (cond b (Ok vs) (Err line.Large))
cond_onto true v vs = refl
cond_onto false v vs = refl

pub small_first : (v : ℕ) (ns : Option (List ℕ)) → v ≤ 4294967295
    → all_of (option_map (λ vs. v ∷ vs) ns) ≡ onto (v ∷ []) (all_of ns)
small_first v None le = refl
small_first v (Some vs) le =
    let h : leb v 4294967295 ≡ true = le-leb v 4294967295 le in
    rw h (cond_onto (list_all (λ v. leb v 4294967295) vs) v vs)
