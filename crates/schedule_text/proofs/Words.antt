-- The words of a line, and the numbers behind the first of them.
use Rattle.std.proofs.Common.{◌≡◌, ℕ, ◌<◌, Bool, true, false, cond, eqb, List, [], ◌∷◌, ◌++◌}
use Rattle.std.proofs.Common.{length, map, Some, None, refl, sym, ap, subst, ◌∙◌, arith}
use Rattle.std.specs.List.{AllZip, list_all, join_with_byte}
use Rattle.std.proofs.lemmas.Bool.{and_parts, and_from}
use Rattle.std.proofs.lemmas.List.{append_cancel_left}
use Rattle.std.proofs.lemmas.List.Splits.{join_with_byte-slice_split, length-slice_split}
use Rattle.std.proofs.lemmas.Option.{same_Some, none-some}
use Rattle.schedule_text.specs.Numbers.{IsNumeral, is_number, value_of, words_of}
use Rattle.schedule_text.specs.Stages.{numbers_in}

numerals_pass : (ws : List (List ℕ)) (vs : List ℕ) → AllZip IsNumeral ws vs
    → (list_all is_number ws ≡ true) × (map value_of ws ≡ vs)
numerals_pass [] [] h = (refl, refl)
numerals_pass [] (v ∷ vs) h = absurd h
numerals_pass (w ∷ ws) [] h = absurd h
numerals_pass (w ∷ ws) (v ∷ vs) h =
    let rest = numerals_pass ws vs h.1 in (
      and_from (is_number w) (list_all is_number ws) h.0.digits rest.0,
      ap (λ x. x ∷ map value_of ws) h.0.value ∙ ap (λ xs. v ∷ xs) rest.1,
    )

passing_numerals : (ws : List (List ℕ)) → list_all is_number ws ≡ true
    → AllZip IsNumeral ws (map value_of ws)
passing_numerals [] h = tt
passing_numerals (w ∷ ws) h =
    let p = and_parts (is_number w) (list_all is_number ws) h in
    (record { digits = p.0; value = refl }, passing_numerals ws p.1)

-- a text of numerals is read as what they spell
pub numbers_read : (r : List ℕ) (vs : List ℕ) → AllZip IsNumeral (words_of r) vs
    → numbers_in r ≡ Some vs
unfolding numbers_in
numbers_read r vs h =
    let p = numerals_pass (words_of r) vs h in
    ap (λ b. cond b (Some (map value_of (words_of r))) None) p.0 ∙ ap (λ (xs : List ℕ). Some xs) p.1

chosen : (b : Bool) (m vs : List ℕ) → cond b (Some m) None ≡ Some vs → (b ≡ true) × (m ≡ vs)
chosen true m vs h = (refl, same_Some m vs h)
chosen false m vs h = absurd (none-some vs h)

-- what is read as numbers is numerals of them
pub numbers_said : (r : List ℕ) (vs : List ℕ) → numbers_in r ≡ Some vs
    → AllZip IsNumeral (words_of r) vs
unfolding numbers_in
numbers_said r vs h =
    let c = chosen (list_all is_number (words_of r)) (map value_of (words_of r)) vs h in
    subst (λ (xs : List ℕ). AllZip IsNumeral (words_of r) xs) c.1
    (passing_numerals (words_of r) c.0)

zip_some : (ws : List (List ℕ)) (vs : List ℕ) → AllZip IsNumeral ws vs → 0 < length ws
    → 0 < length vs
zip_some [] vs h lt = absurd (omega (arith, lt))
zip_some (w ∷ ws) [] h lt = absurd h
zip_some (w ∷ ws) (v ∷ vs) h lt = omega arith

-- there is a number at least
pub some_numbers : (r : List ℕ) (vs : List ℕ) → numbers_in r ≡ Some vs → 0 < length vs
some_numbers r vs h = zip_some (words_of r) vs (numbers_said r vs h)
    (omega (arith, length-slice_split (λ b. eqb b 32) r))

-- a line that begins with these bytes begins with these words, and the other way round
module _ (start : List ℕ) (first : List (List ℕ)) (splits : (r : List ℕ)
    → words_of (start ++ r) ≡ first ++ words_of r) (joins : (w : List ℕ) (ws : List (List ℕ))
    → join_with_byte 32 (first ++ w ∷ ws) ≡ start ++ join_with_byte 32 (w ∷ ws)) where
  -- what follows the words is read as the numbers
  pub rest_read : (l : List ℕ) (ns : List (List ℕ)) (vs : List ℕ) → words_of l ≡ first ++ ns
      → AllZip IsNumeral ns vs → 0 < length vs
      → (r : List ℕ) × (l ≡ start ++ r) × (numbers_in r ≡ Some vs)
  rest_read l [] [] e h lt = absurd (omega (arith, lt))
  rest_read l [] (v ∷ vs) e h lt = absurd h
  rest_read l (w ∷ ws) vs e h lt =
      let r = join_with_byte 32 (w ∷ ws) in
      let whole : l ≡ start ++ r = sym (join_with_byte-slice_split 32 l) ∙ ap (join_with_byte 32) e
      ∙ joins w ws in
      let words : words_of r ≡ w ∷ ws =
      append_cancel_left first (words_of r) (w ∷ ws) (sym (splits r) ∙ ap words_of (sym whole)
      ∙ e) in (
        r,
        whole,
        numbers_read r vs
            (subst (λ (ns : List (List ℕ)). AllZip IsNumeral ns vs) (sym words) h),
      )
