-- Lines after a mark, and lines by themselves, at the head of a text.
use Rattle.std.proofs.Common.{◌≡◌, ℕ, zero, suc, ◌+◌, ◌-◌, ◌<◌, Bool, true, false, cond, not, ◌||◌}
use Rattle.std.proofs.Common.{eqb, List, [], ◌∷◌, ◌++◌, length, get_or, take, filter, codes}
use Rattle.std.proofs.Common.{◌⊎◌, inl, inr, refl, sym, ap, subst, ◌∙◌}
use Rattle.std.proofs.Common.{append_assoc, length-append, arith}
use Rattle.std.specs.List.{list_all, flat_map, slice_split, onto_first, AllByRecursion}
use Rattle.std.specs.Str.Lines.{lines, lines_of_parts, strip_carriage_return}
use Rattle.std.proofs.Math.Seq.{take-append-add}
use Rattle.std.proofs.lemmas.Bool.{and_parts, and_from, not-true, or_parts, not_from_false}
use Rattle.std.proofs.lemmas.List.Sums.{AllPass-from_list_all}
use Rattle.std.proofs.lemmas.List.Splits.{length-slice_split}
use Rattle.std.proofs.lemmas.List.Folds.{list_all-append}
use Rattle.answer_details.specs.Texts.{marked_lines}
use Rattle.answer_laws.specs.AnswerLines.{answer_lines, is_aside}

-- no byte of the line is a newline or a carriage return
abbrev pub is_unbroken : List ℕ → Bool
is_unbroken line = list_all (λ b. not (eqb b 10 || eqb b 13)) line

-- no byte of the line is a newline
abbrev pub no_newline : List ℕ → Bool
no_newline l = list_all (λ b. not (eqb b 10)) l

-- the first of the parts that newlines make
first_part : (l rest : List ℕ) → no_newline l ≡ true
    → slice_split (λ b. eqb b 10) (l ++ 10 ∷ rest) ≡ l ∷ slice_split (λ b. eqb b 10) rest
first_part [] rest h = refl
first_part (b ∷ bs) rest h =
    let p = and_parts (not (eqb b 10)) (no_newline bs) h in
    rw (not-true (eqb b 10) p.0) (rw (first_part bs rest p.1) refl)

-- a part that others follow is a line
parts_more : (l : List ℕ) (ps : List (List ℕ)) → 0 < length ps
    → lines_of_parts (l ∷ ps) ≡ strip_carriage_return l ∷ lines_of_parts ps
parts_more l [] lt = absurd (omega (arith, lt))
parts_more l (p ∷ ps) lt = refl

-- the first line of a text, and the others
lines-first : (l rest : List ℕ) → no_newline l ≡ true
    → lines (l ++ 10 ∷ rest) ≡ strip_carriage_return l ∷ lines rest
lines-first l rest h =
    let some : 0 < length (slice_split (λ b. eqb b 10) rest) =
    omega (arith, length-slice_split (λ b. eqb b 10) rest) in
    ap lines_of_parts (first_part l rest h) ∙ parts_more l (slice_split (λ b. eqb b 10) rest) some

-- a byte before the first part
no_newline-onto : (b : ℕ) (ps : List (List ℕ)) → eqb b 10 ≡ false
    → AllByRecursion (λ l. no_newline l ≡ true) ps
    → AllByRecursion (λ l. no_newline l ≡ true) (onto_first b ps)
no_newline-onto b [] e h = (rw e refl, tt)
no_newline-onto b (p ∷ ps) e h = (rw e h.0, h.1)

-- one more byte in a text of parts
no_newline-cond : (b : ℕ) (ps : List (List ℕ)) (c : Bool) → eqb b 10 ≡ c
    → AllByRecursion (λ l. no_newline l ≡ true) ps
    → AllByRecursion (λ l. no_newline l ≡ true) (cond c ([] ∷ ps) (onto_first b ps))
no_newline-cond b ps true e h = (refl, h)
no_newline-cond b ps false e h = no_newline-onto b ps e h

-- the parts between newlines have none
no_newline-parts : (bs : List ℕ)
    → AllByRecursion (λ l. no_newline l ≡ true) (slice_split (λ b. eqb b 10) bs)
no_newline-parts [] = (refl, tt)
no_newline-parts (b ∷ bs) =
    no_newline-cond b (slice_split (λ x. eqb x 10) bs) (eqb b 10) refl (no_newline-parts bs)

-- the beginning of a line without a newline has none
no_newline-take : (n : ℕ) (l : List ℕ) → no_newline l ≡ true → no_newline (take n l) ≡ true
no_newline-take zero l h = refl
no_newline-take (suc n) [] h = refl
no_newline-take (suc n) (b ∷ bs) h =
    let p = and_parts (not (eqb b 10)) (no_newline bs) h in
    and_from (not (eqb b 10)) (no_newline (take n bs)) p.0 (no_newline-take n bs p.1)

-- such a line has none without its carriage return either
no_newline-strip : (l : List ℕ) (c : Bool) → no_newline l ≡ true
    → no_newline (cond c (take (length l - 1) l) l) ≡ true
no_newline-strip l true h = no_newline-take (length l - 1) l h
no_newline-strip l false h = h

-- a last part, or none where it is empty
no_newline-last : (l : List ℕ) (c : Bool) → no_newline l ≡ true
    → AllByRecursion (λ x. no_newline x ≡ true) (cond c [] (l ∷ []))
no_newline-last l true h = tt
no_newline-last l false h = (h, tt)

-- the lines in such parts have no newlines
no_newline-lines_of : (ps : List (List ℕ)) → AllByRecursion (λ l. no_newline l ≡ true) ps
    → AllByRecursion (λ l. no_newline l ≡ true) (lines_of_parts ps)
no_newline-lines_of [] h = tt
no_newline-lines_of (p ∷ []) h = no_newline-last p (eqb (length p) 0) h.0
no_newline-lines_of (p ∷ q ∷ ps) h =
    (no_newline-strip p (eqb (get_or p (length p - 1) 0) 13) h.0, no_newline-lines_of (q ∷ ps) h.1)

-- no line has a newline
no_newline-lines : (text : List ℕ) → AllByRecursion (λ l. no_newline l ≡ true) (lines text)
no_newline-lines text =
    no_newline-lines_of (slice_split (λ b. eqb b 10) text) (no_newline-parts text)

-- what is stripped off a line that goes on after a mark is not the mark's
strip-after : (m : List ℕ) (b : ℕ) (bs : List ℕ) (c : Bool)
    → (x : List ℕ)
    × (cond c (take (length (m ++ b ∷ bs) - 1) (m ++ b ∷ bs)) (m ++ b ∷ bs) ≡ m ++ x)
strip-after m b bs true =
    let e : length (m ++ b ∷ bs) - 1 ≡ length m + length bs =
    omega (arith, length-append m (b ∷ bs)) in
    (take (length bs) (b ∷ bs), rw e (take-append-add m (b ∷ bs) (length bs)))
strip-after m b bs false = (b ∷ bs, refl)

-- a line after a mark begins with it, less its carriage return too
strip-aside : (m : List ℕ) → ((x : List ℕ) → is_aside (m ++ x) ≡ true)
    → strip_carriage_return (m ++ []) ≡ m ++ []
    → (l : List ℕ) → is_aside (strip_carriage_return (m ++ l)) ≡ true
strip-aside m a e [] = ap is_aside e ∙ a []
strip-aside m a e (b ∷ bs) =
    let last = get_or (m ++ b ∷ bs) (length (m ++ b ∷ bs) - 1) 0 in
    let s = strip-after m b bs (eqb last 13) in
    ap is_aside s.1 ∙ a s.0

-- a first line that is aside is no answer
filter-aside : (x : List ℕ) (xs : List (List ℕ)) → is_aside x ≡ true
    → filter (λ l. not (is_aside l)) (x ∷ xs) ≡ filter (λ l. not (is_aside l)) xs
filter-aside x xs e = rw e refl

-- a first line that isn't is one
filter-answer : (x : List ℕ) (xs : List (List ℕ)) → is_aside x ≡ false
    → filter (λ l. not (is_aside l)) (x ∷ xs) ≡ x ∷ filter (λ l. not (is_aside l)) xs
filter-answer x xs e = rw e refl

-- one line after a mark adds no answer
aside-first : (m l rest : List ℕ) → no_newline m ≡ true → no_newline l ≡ true
    → is_aside (strip_carriage_return (m ++ l)) ≡ true
    → answer_lines ((m ++ l ++ 10 ∷ []) ++ rest) ≡ answer_lines rest
aside-first m l rest hm hl a =
    let regroup : (m ++ l ++ 10 ∷ []) ++ rest ≡ (m ++ l) ++ 10 ∷ rest = simp append_assoc in
    let h = list_all-append (λ b. not (eqb b 10)) m l
    ∙ and_from (no_newline m) (no_newline l) hm hl in
    ap answer_lines regroup
    ∙ ap (λ ls. filter (λ x. not (is_aside x)) ls) (lines-first (m ++ l) rest h)
    ∙ filter-aside (strip_carriage_return (m ++ l)) (lines rest) a

-- nor do more of them
all-aside : (m : List ℕ) → no_newline m ≡ true
    → ((l : List ℕ) → is_aside (strip_carriage_return (m ++ l)) ≡ true)
    → (ls : List (List ℕ)) (rest : List ℕ) → AllByRecursion (λ l. no_newline l ≡ true) ls
    → answer_lines (flat_map (λ l. m ++ l ++ 10 ∷ []) ls ++ rest) ≡ answer_lines rest
all-aside m hm a [] rest h = refl
all-aside m hm a (l ∷ ls) rest h =
    let more = flat_map (λ x. m ++ x ++ 10 ∷ []) ls in
    ap answer_lines (append_assoc (m ++ l ++ 10 ∷ []) more rest)
    ∙ aside-first m l (more ++ rest) hm h.0 (a l)
    ∙ all-aside m hm a ls rest h.1

-- lines of a run add no answers
marked-run : (mark text rest : List ℕ) → mark ≡ codes "    "
    → answer_lines (marked_lines mark text ++ rest) ≡ answer_lines rest
marked-run mark text rest e =
    let m = codes "    " in
    subst (λ x. answer_lines (marked_lines x text ++ rest) ≡ answer_lines rest) (sym e)
    (all-aside m refl (strip-aside m (λ x. refl) refl) (lines text) rest (no_newline-lines text))

-- nor do notes
marked-note : (mark text rest : List ℕ) → mark ≡ codes "note: "
    → answer_lines (marked_lines mark text ++ rest) ≡ answer_lines rest
marked-note mark text rest e =
    let m = codes "note: " in
    subst (λ x. answer_lines (marked_lines x text ++ rest) ≡ answer_lines rest) (sym e)
    (all-aside m refl (strip-aside m (λ x. refl) refl) (lines text) rest (no_newline-lines text))

-- marked lines before a text add no answers, whichever of the two marks it is
pub marked_aside : (mark text rest : List ℕ) → (mark ≡ codes "    ") ⊎ (mark ≡ codes "note: ")
    → answer_lines (marked_lines mark text ++ rest) ≡ answer_lines rest
marked_aside mark text rest (inl e) = marked-run mark text rest e
marked_aside mark text rest (inr e) = marked-note mark text rest e

-- a line with no newline or carriage return keeps its last byte
strip_keeps : (l : List ℕ) → is_unbroken l ≡ true → strip_carriage_return l ≡ l
strip_keeps [] h = refl
strip_keeps (b ∷ bs) h =
    let k = length (b ∷ bs) - 1 in
    let lt : k < length (b ∷ bs) = omega arith in
    let at = AllPass-from_list_all (λ x. not (eqb x 10 || eqb x 13)) (b ∷ bs) h k 0 lt in
    let last = get_or (b ∷ bs) k 0 in
    let ne = or_parts (eqb last 10) (eqb last 13) (not-true (eqb last 10 || eqb last 13) at) in
    rw ne.1 refl

-- such a line has no newline
unbroken_no_newline : (l : List ℕ) → is_unbroken l ≡ true → no_newline l ≡ true
unbroken_no_newline [] h = refl
unbroken_no_newline (b ∷ bs) h =
    let p = and_parts (not (eqb b 10 || eqb b 13)) (is_unbroken bs) h in
    let ne = or_parts (eqb b 10) (eqb b 13) (not-true (eqb b 10 || eqb b 13) p.0) in
    and_from (not (eqb b 10)) (no_newline bs) (not_from_false (eqb b 10) ne.0)
    (unbroken_no_newline bs p.1)

-- a line that is not aside is the first answer
pub first_answer : (line rest : List ℕ) → is_unbroken line ≡ true → is_aside line ≡ false
    → answer_lines ((line ++ codes "\n") ++ rest) ≡ line ∷ answer_lines rest
first_answer line rest h a =
    let first = lines-first line rest (unbroken_no_newline line h)
    ∙ ap (λ x. x ∷ lines rest) (strip_keeps line h) in
    ap answer_lines (append_assoc line (10 ∷ []) rest)
    ∙ ap (λ ls. filter (λ x. not (is_aside x)) ls) first
    ∙ filter-answer line (lines rest) a
