-- What digits spell, and that no mark stands in them.
use Rattle.std.proofs.Common.{◌≡◌, ℕ, ◌+◌, ◌-◌, ◌*◌, ◌^◌, ◌<◌, Bool, true, false, cond, eqb, ◌&&◌}
use Rattle.std.proofs.Common.{leb}
use Rattle.std.proofs.Common.{le-leb, List, [], ◌∷◌, length, Ok, Err, Result, arith, rules, sym}
use Rattle.std.proofs.Common.{refl, ◌∙◌, ap, suc}
use Rattle.std.specs.Prelude.{not}
use Rattle.std.specs.Char.{is_ascii_digit}
use Rattle.std.specs.List.{list_all, fold, position_or_len, before_first, after_first}
use Rattle.std.specs.List.{join_with_byte}
use Rattle.std.proofs.lemmas.Bool.{and_parts, and_right, leb-true, ne_eqb}
use Rattle.std.proofs.lemmas.List.Splits.{length-slice_split, join_with_byte-slice_split}
use Rattle.std.proofs.lemmas.List.Splits.{slice_split_first}
use Rattle.std.proofs.lemmas.Str.Parse.{IsNumeralModel, numerals_by_fold}
use Rattle.schedule_text.specs.Numbers.{is_number, max_number, value_of}
use Rattle.omission_texts.specs.Forms.{are_ends, parts_of, rounds_at, sized}
use Rattle.omission_texts.specs.declared.fault.LineFault.{LineFault}
use Rattle.omission_texts.specs.declared.fault.LineFault.TheVariants as line

pub own : IsNumeralModel (λ ds. list_all is_ascii_digit ds ≡ true)
    (λ ds. fold (λ n b. 10 * n + (b - 48)) 0 ds)
own = numerals_by_fold (λ ds. list_all is_ascii_digit ds ≡ true) (search rules)
    (λ n ds. fold (λ n b. 10 * n + (b - 48)) n ds) (search rules)

pub all_digits : (ds : List ℕ) → is_number ds ≡ true → list_all is_ascii_digit ds ≡ true
all_digits [] h = refl
all_digits (d ∷ ds) h = h

-- a number that fits, and one that doesn't
pub small_one : (n v : ℕ) → v < 2 ^ 32 → n ≡ v
    → ◌≡◌ {A = Result ℕ LineFault} (Ok n) (sized (v ∷ []) v)
small_one n v lt e =
    let small = le-leb v max_number (omega (arith, lt)) in
    rw small (ap (λ (x : ℕ). Ok x) e)

pub large_one : (v : ℕ) → ¬ (v < 2 ^ 32) → ◌≡◌ {A = Result ℕ LineFault} (Err line.Large)
    (sized (v ∷ []) v)
large_one v h = go (leb v max_number) refl
  where
    go : (b : Bool) → leb v max_number ≡ b → ◌≡◌ {A = Result ℕ LineFault} (Err line.Large)
        (cond (b && true) (Ok v) (Err line.Large))
    go true e = let l = leb-true v max_number e in absurd (h (omega (arith, l)))
    go false e = refl

digit_no_mark : (m d : ℕ) → is_ascii_digit m ≡ false → is_ascii_digit d ≡ true → eqb d m ≡ false
digit_no_mark m d isnt h = ne_eqb d m (λ e. let h' = rw e at h in cc)

-- digits are one part
pub digits_whole : (m : ℕ) (ds : List ℕ) → is_ascii_digit m ≡ false
    → list_all is_ascii_digit ds ≡ true → parts_of m ds ≡ ds ∷ []
digits_whole m [] isnt h = refl
digits_whole m (d ∷ ds) isnt h =
    let p = and_parts (is_ascii_digit d) (list_all is_ascii_digit ds) h in
    let n = digit_no_mark m d isnt p.0 in
    rw n (rw (digits_whole m ds isnt p.1) refl)

whole_more : (m b : ℕ) (bs : List ℕ) → (position_or_len (λ b. eqb b m) bs ≡ length bs
    → parts_of m bs ≡ bs ∷ []) → (c : Bool) → eqb b m ≡ c
    → cond (not c) (1 + position_or_len (λ b. eqb b m) bs) 0 ≡ suc (length bs)
    → parts_of m (b ∷ bs) ≡ (b ∷ bs) ∷ []
whole_more m b bs more true is e = absurd (omega (arith, e))
whole_more m b bs more false is e = rw is (rw (more (omega (arith, e))) refl)

-- a text with no mark is one part
whole : (m : ℕ) (w : List ℕ) → position_or_len (λ b. eqb b m) w ≡ length w → parts_of m w ≡ w ∷ []
whole m [] e = refl
whole m (b ∷ bs) e = whole_more m b bs (whole m bs) (eqb b m) refl e

-- one part is the whole text
pub one_part : (m : ℕ) (w x : List ℕ) → parts_of m w ≡ x ∷ [] → x ≡ w
one_part m w x e = ap (join_with_byte m) (sym e) ∙ join_with_byte-slice_split m w

-- two ends, where the mark stands in the word, and one end, where it doesn't
ends_after : (a b : List ℕ) → are_ends (a ∷ parts_of 45 b) ≡ (is_number a && is_number b)
ends_after a b = go (parts_of 45 b) refl
  where
    several : (x y : List ℕ) (ws : List (List ℕ)) → parts_of 45 b ≡ x ∷ y ∷ ws → (c : Bool)
        → is_number b ≡ c → false ≡ (is_number a && c)
    several x y ws e true is =
        let one = digits_whole 45 b refl (all_digits b is) in
        absurd (omega (arith, ap length (sym e ∙ one)))
    several x y ws e false is = sym (and_right (is_number a) false refl)

    go : (ps : List (List ℕ)) → parts_of 45 b ≡ ps
        → are_ends (a ∷ ps) ≡ (is_number a && is_number b)
    go [] e = absurd (omega (arith, ap length e, length-slice_split (λ b. eqb b 45) b))
    go (x ∷ []) e = rw (one_part 45 b x e) refl
    go (x ∷ y ∷ ws) e = several x y ws e (is_number b) refl

module _ (w a b : List ℕ) (lt : position_or_len (λ b. eqb b 45) w < length w)
    (a-is : a ≡ before_first (λ b. eqb b 45) w) (b-is : b ≡ after_first (λ b. eqb b 45) w) where
  split : parts_of 45 w ≡ a ∷ parts_of 45 b
  split = slice_split_first (λ b. eqb b 45) w 0 lt
      ∙ ap (λ x. x ∷ parts_of 45 (after_first (λ b. eqb b 45) w)) (sym a-is)
      ∙ ap (λ x. a ∷ parts_of 45 x) (sym b-is)

  pub two_ends : (is_number a && is_number b) ≡ are_ends (parts_of 45 w)
  two_ends = sym (ap are_ends split ∙ ends_after a b)

  pub two_rounds : are_ends (parts_of 45 w) ≡ true
      → (is_number a ≡ true) × (is_number b ≡ true) ×
      (rounds_at (parts_of 45 w) ≡ record { first = value_of a; last = value_of b })
  two_rounds h =
      let p = and_parts (is_number a) (is_number b) (two_ends ∙ h) in
      let one = digits_whole 45 b refl (all_digits b p.1) in
      (p.0, p.1, ap rounds_at (split ∙ ap (λ ps. a ∷ ps) one))

pub one_end : (w : List ℕ) → position_or_len (λ b. eqb b 45) w ≡ length w
    → is_number w ≡ are_ends (parts_of 45 w)
one_end w e = sym (ap are_ends (whole 45 w e))

pub one_round : (w : List ℕ) → position_or_len (λ b. eqb b 45) w ≡ length w
    → rounds_at (parts_of 45 w) ≡ record { first = value_of w; last = value_of w }
one_round w e = ap rounds_at (whole 45 w e)

pub some_digit : (ds : List ℕ) → is_number ds ≡ true → 0 < length ds
some_digit [] h = absurd cc
some_digit (d ∷ ds) h = omega arith
