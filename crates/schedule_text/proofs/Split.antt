-- The lines of a text of lines.
use Rattle.std.proofs.Common.{◌≡◌, ℕ, ◌-◌, ◌<◌, Bool, true, eqb, leb, le-leb, List, [], ◌∷◌, ◌++◌}
use Rattle.std.proofs.Common.{length, get_or, refl, ap, ◌∙◌, arith}
use Rattle.std.specs.Char.{is_ascii_digit}
use Rattle.std.specs.List.{list_all, flat_map, slice_split, AllByRecursion}
use Rattle.std.specs.Str.Lines.{lines, lines_of_parts, strip_carriage_return}
use Rattle.std.proofs.lemmas.Bool.{and_parts, and_from, ne_eqb, leb-true}
use Rattle.std.proofs.lemmas.List.Sums.{AllPass-from_list_all}
use Rattle.std.proofs.lemmas.List.Splits.{length-slice_split}
use Rattle.std.proofs.lemmas.List.Folds.{list_all-append}
use Rattle.schedule_text.specs.Writing.{line_text}

-- a line with no control characters
abbrev pub is_plain : List ℕ → Bool
is_plain l = list_all (λ b. leb 32 b) l

pub plain-append : (a b : List ℕ) → is_plain a ≡ true → is_plain b ≡ true → is_plain (a ++ b) ≡ true
plain-append a b ha hb = list_all-append (λ b. leb 32 b) a b
    ∙ and_from (is_plain a) (is_plain b) ha hb

pub plain_digits : (ds : List ℕ) → list_all is_ascii_digit ds ≡ true → is_plain ds ≡ true
plain_digits [] h = refl
plain_digits (d ∷ ds) h =
    let p = and_parts (is_ascii_digit d) (list_all is_ascii_digit ds) h in
    let q = and_parts (leb 48 d) (leb d 57) p.0 in
    and_from (leb 32 d) (is_plain ds) (le-leb 32 d (let l = leb-true 48 d q.0 in omega (arith, l)))
    (plain_digits ds p.1)

first_line : (l rest : List ℕ) → is_plain l ≡ true
    → slice_split (λ b. eqb b 10) ((l ++ 10 ∷ []) ++ rest) ≡ l ∷ slice_split (λ b. eqb b 10) rest
first_line [] rest h = refl
first_line (b ∷ bs) rest h =
    let p = and_parts (leb 32 b) (is_plain bs) h in
    let l = leb-true 32 b p.0 in
    let n = ne_eqb b 10 (λ e. omega (arith, l, e)) in
    rw n (rw (first_line bs rest p.1) refl)

pub parts_more : (l : List ℕ) (ps : List (List ℕ)) → 0 < length ps
    → lines_of_parts (l ∷ ps) ≡ strip_carriage_return l ∷ lines_of_parts ps
parts_more l [] lt = absurd (omega (arith, lt))
parts_more l (p ∷ ps) lt = refl

keeps : (l : List ℕ) → is_plain l ≡ true → strip_carriage_return l ≡ l
keeps [] h = refl
keeps (b ∷ bs) h =
    let k = length (b ∷ bs) - 1 in
    let lt : k < length (b ∷ bs) = omega arith in
    let at = leb-true 32 (get_or (b ∷ bs) k 0)
    (AllPass-from_list_all (λ b. leb 32 b) (b ∷ bs) h k 0 lt) in
    let n = ne_eqb (get_or (b ∷ bs) k 0) 13 (λ e. omega (arith, at, e)) in
    rw n refl

-- a line with no control characters, and what follows its LF
pub lines-first : (l rest : List ℕ) → is_plain l ≡ true
    → lines ((l ++ 10 ∷ []) ++ rest) ≡ l ∷ lines rest
lines-first l rest h =
    let some : 0 < length (slice_split (λ b. eqb b 10) rest) =
    omega (arith, length-slice_split (λ b. eqb b 10) rest) in
    ap lines_of_parts (first_line l rest h) ∙ parts_more l (slice_split (λ b. eqb b 10) rest) some
    ∙ ap (λ x. x ∷ lines rest) (keeps l h)

pub lines-text : (ls : List (List ℕ)) → AllByRecursion (λ l. is_plain l ≡ true) ls
    → lines (flat_map line_text ls) ≡ ls
lines-text [] h = refl
lines-text (l ∷ ls) h = lines-first l (flat_map line_text ls) h.0
    ∙ ap (λ xs. l ∷ xs) (lines-text ls h.1)
