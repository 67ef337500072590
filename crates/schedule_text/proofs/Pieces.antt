-- The lines of a text whose front ends with one.
use Rattle.std.proofs.Common.{◌≡◌, ℕ, ◌<◌, Bool, true, false, cond, eqb, List, [], ◌∷◌, ◌++◌, map}
use Rattle.std.proofs.Common.{
  length,
  refl,
  sym,
  ap,
  ◌∙◌,
  arith,
  append_assoc,
  drop,
  inl,
  inr,
  length-append,
  length-take,
}
use Rattle.std.proofs.Common.{take, take-add, ◌+◌, ◌≤◌}
use Rattle.std.specs.List.{onto_first, slice_split}
use Rattle.std.specs.Str.Lines.{lines, lines_of_parts, strip_carriage_return}
use Rattle.std.proofs.lemmas.List.Splits.{length-slice_split}
use Rattle.schedule_text.specs.Intakes.{EndsLine}
use Rattle.schedule_text.proofs.Split.{parts_more}

-- the parts between the LFs of a text that one more LF ends
abbrev parts_of : List ℕ → List (List ℕ)
parts_of [] = [] ∷ []
parts_of (b ∷ bs) = cond (eqb b 10) ([] ∷ parts_of bs) (onto_first b (parts_of bs))

onto_longer : (b : ℕ) (ps : List (List ℕ)) → 0 < length (onto_first b ps)
onto_longer b [] = omega arith
onto_longer b (p ∷ ps) = omega arith

some_parts : (bs : List ℕ) → 0 < length (parts_of bs)
some_parts [] = omega arith
some_parts (b ∷ bs) = go (eqb b 10)
  where
    go : (t : Bool) → 0 < length (cond t ([] ∷ parts_of bs) (onto_first b (parts_of bs)))
    go true = omega arith
    go false = onto_longer b (parts_of bs)

onto_append : (b : ℕ) (ps qs : List (List ℕ)) → 0 < length ps
    → onto_first b (ps ++ qs) ≡ onto_first b ps ++ qs
onto_append b [] qs some = absurd (omega (arith, some))
onto_append b (p ∷ ps) qs some = refl

split_behind : (bs t : List ℕ) → slice_split (λ b. eqb b 10) (bs ++ 10 ∷ t) ≡ parts_of bs
    ++ slice_split (λ b. eqb b 10) t
split_behind [] t = refl
split_behind (b ∷ bs) t = go (split_behind bs t) (eqb b 10)
  where
    go : slice_split (λ b. eqb b 10) (bs ++ 10 ∷ t) ≡ parts_of bs ++ slice_split (λ b. eqb b 10) t
        → (s : Bool)
        → cond s ([] ∷ slice_split (λ b. eqb b 10) (bs ++ 10 ∷ t))
        (onto_first b (slice_split (λ b. eqb b 10) (bs ++ 10 ∷ t)))
        ≡ cond s ([] ∷ parts_of bs) (onto_first b (parts_of bs)) ++ slice_split (λ b. eqb b 10) t
    go same true = ap (λ ps. [] ∷ ps) same
    go same false =
        ap (onto_first b) same
        ∙ onto_append b (parts_of bs) (slice_split (λ b. eqb b 10) t) (some_parts bs)

lines_behind : (ps qs : List (List ℕ)) → 0 < length qs
    → lines_of_parts (ps ++ qs) ≡ map strip_carriage_return ps ++ lines_of_parts qs
lines_behind [] qs some = refl
lines_behind (p ∷ ps) qs some =
    let longer : 0 < length (ps ++ qs) = omega (arith, some, length-append ps qs) in
    parts_more p (ps ++ qs) longer
    ∙ ap (λ ls. strip_carriage_return p ∷ ls) (lines_behind ps qs some)

one_more : (bs t : List ℕ) → lines (bs ++ 10 ∷ t) ≡ map strip_carriage_return (parts_of bs)
    ++ lines t
one_more bs t =
    let some : 0 < length (slice_split (λ b. eqb b 10) t) =
    omega (arith, length-slice_split (λ b. eqb b 10) t) in
    ap lines_of_parts (split_behind bs t)
    ∙ lines_behind (parts_of bs) (slice_split (λ b. eqb b 10) t) some

no_lines : (ls : List (List ℕ)) → ls ++ lines [] ≡ ls
no_lines [] = refl
no_lines (l ∷ ls) = ap (λ ls. l ∷ ls) (no_lines ls)

-- the lines of both are those of the front and then those of the rest
pub lines_append : (a t : List ℕ) → EndsLine a → lines (a ++ t) ≡ lines a ++ lines t
lines_append a t (inl none) = ap (λ a. lines (a ++ t)) none
    ∙ sym (ap (λ a. lines a ++ lines t) none)
lines_append a t (inr line) =
    let bs = line.0 in
    ap (λ a. lines (a ++ t)) line.1 ∙ ap lines (append_assoc bs (10 ∷ []) t) ∙ one_more bs t
    ∙ sym (ap (λ a. lines a ++ lines t) line.1
    ∙ ap (λ ls. ls ++ lines t) (one_more bs []
    ∙ no_lines (map strip_carriage_return (parts_of bs))))

-- a line's end in what stands behind so many bytes
pub ends_behind : (bytes : List ℕ) (n m : ℕ) → 0 < m → n ≤ length bytes
    → EndsLine (take m (drop n bytes)) → m ≤ length (drop n bytes) → EndsLine (take (n + m) bytes)
ends_behind bytes n m some within (inl none) fits =
    absurd (omega (arith, some, fits, ap length none, length-take m (drop n bytes)))
ends_behind bytes n m some within (inr line) fits =
    inr (
      take n bytes ++ line.0,
      take-add n m bytes ∙ ap (λ b. take n bytes ++ b) line.1
          ∙ sym (append_assoc (take n bytes) line.0 (10 ∷ [])),
    )
