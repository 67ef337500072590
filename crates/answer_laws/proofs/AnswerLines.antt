-- The answers among the lines that are printed.
use Rattle.std.proofs.Common.{◌≡◌, ◌∙◌, ◌++◌, ◌∷◌, [], ℕ, All, List, ap, arith}
use Rattle.std.proofs.Common.{append_assoc, codes, eqb, false, inl, inr, leb, map, not, refl, sym}
use Rattle.std.proofs.Common.{true, ◌||◌}
use Rattle.std.specs.Fmt.{decimal}
use Rattle.std.specs.List.{flat_map, list_all}
use Rattle.std.specs.Prelude.{string_bytes}
use Rattle.std.proofs.lemmas.Bool.{and_from, and_parts, leb-true, ne_eqb}
use Rattle.std.proofs.lemmas.List.{append-nil}
use Rattle.std.proofs.lemmas.List.Elements.{All-head, All-tail}
use Rattle.answer_details.specs.Texts.{answers_with, marked_lines}
use Rattle.answer_laws.specs.AnswerLines.{AnswersAreTheLines, HasSmallNumber, answer_lines}
use Rattle.answer_laws.specs.AnswerLines.{is_aside}
use Rattle.answer_laws.proofs.Marks.{first_answer, is_unbroken, marked_aside}
use Rattle.exploration_texts.specs.Lines.{answer_words, told_line, told_text}
use Rattle.exploration_texts.specs.declared.told.Answered.{Answered}
use Rattle.exploration_texts.specs.declared.told.Answered.TheVariants.{Fails, Holds}
use Rattle.exploration_texts.specs.declared.told.Answered.TheVariants.{HoldsInAllRounds, NotFound}
use Rattle.exploration_texts.specs.declared.told.Told.{Told}
use Rattle.part_answers.specs.Properties.{name_text}
use Rattle.part_answers.specs.declared.property.Property.{Property}
use Rattle.part_answers.specs.declared.property.Property.TheVariants as names
use Rattle.schedule_text.specs.Small.{IsSmall}
use Rattle.schedule_text.proofs.Digits.{digits}
use Rattle.schedule_text.proofs.Split.{is_plain, plain_digits}

-- ---- the line of an answer

-- a line with no control characters has no newline
unbroken_plain : (l : List ℕ) → is_plain l ≡ true → is_unbroken l ≡ true
unbroken_plain [] h = refl
unbroken_plain (b ∷ bs) h =
    let p = and_parts (leb 32 b) (is_plain bs) h in
    let large = leb-true 32 b p.0 in
    let newline = ne_eqb b 10 (λ e. omega (arith, large, e)) in
    let return = ne_eqb b 13 (λ e. omega (arith, large, e)) in
    and_from (not (eqb b 10 || eqb b 13)) (is_unbroken bs) (rw newline (rw return refl))
    (unbroken_plain bs p.1)

unbroken_digits : (n : ℕ) → IsSmall n → is_unbroken (decimal n) ≡ true
unbroken_digits n small =
    unbroken_plain (decimal n) (plain_digits (decimal n) (digits n small))

unbroken_words : (a : Answered) → HasSmallNumber a → is_unbroken (answer_words a) ≡ true
unbroken_words Holds h = refl
unbroken_words HoldsInAllRounds h = refl
unbroken_words (Fails c) h = unbroken_digits c.round h
unbroken_words (NotFound n) h = unbroken_digits n h

unbroken_named : (p : Property) (words : List ℕ) → is_unbroken words ≡ true
    → is_unbroken (name_text p ++ 32 ∷ words) ≡ true
unbroken_named names.Agreement words h = h
unbroken_named names.Validity words h = h
unbroken_named names.Final words h = h
unbroken_named names.Termination words h = h
unbroken_named names.Always words h = h

unbroken_told : (t : Told) → HasSmallNumber t.answer → is_unbroken (told_text t) ≡ true
unbroken_told t h = unbroken_named t.name (answer_words t.answer) (unbroken_words t.answer h)

-- no name begins as a run or a note
named_first : (p : Property) (words : List ℕ) → is_aside (name_text p ++ 32 ∷ words) ≡ false
named_first names.Agreement words = refl
named_first names.Validity words = refl
named_first names.Final words = refl
named_first names.Termination words = refl
named_first names.Always words = refl

-- ---- all lines

-- an answer is the first line that isn't aside
told_first : (t : Told) (rest : List ℕ) → HasSmallNumber t.answer
    → answer_lines (told_line t ++ rest) ≡ told_text t ∷ answer_lines rest
told_first t rest h =
    first_answer (told_text t) rest (unbroken_told t h) (named_first t.name (answer_words t.answer))

abbrev Small : List Told → Type 0
Small told = All (λ t. HasSmallNumber t.answer) told

-- without runs the answers alone are there
alone : (told : List Told) (rest : List ℕ) → Small told
    → answer_lines (flat_map told_line told ++ rest) ≡ map told_text told ++ answer_lines rest
alone [] rest h = refl
alone (t ∷ ts) rest h =
    ap answer_lines (append_assoc (told_line t) (flat_map told_line ts) rest)
    ∙ told_first t (flat_map told_line ts ++ rest) (All-head (λ t. HasSmallNumber t.answer) t ts h)
    ∙ ap (λ ls. told_text t ∷ ls)
    (alone ts rest (All-tail (λ t. HasSmallNumber t.answer) t ts h))

-- and with runs
with_runs : (told : List Told) (runs : List (List ℕ)) (rest : List ℕ) → Small told
    → answer_lines (answers_with told runs ++ rest) ≡ map told_text told ++ answer_lines rest
with_runs told [] rest h = alone told rest h
with_runs [] (run ∷ runs) rest h = refl
with_runs (t ∷ ts) (run ∷ runs) rest h =
    let shown = marked_lines (codes "    ") run in
    let others = answers_with ts runs in
    ap answer_lines (append_assoc (told_line t ++ shown) others rest
    ∙ append_assoc (told_line t) shown (others ++ rest))
    ∙ told_first t (shown ++ (others ++ rest)) (All-head (λ t. HasSmallNumber t.answer) t ts h)
    ∙ ap (λ ls. told_text t ∷ ls) (marked_aside (codes "    ") run (others ++ rest) (inl refl)
    ∙ with_runs ts runs rest (All-tail (λ t. HasSmallNumber t.answer) t ts h))

pub answers_lines : AnswersAreTheLines
answers_lines told details small =
    let note = codes "note: " in
    let runs = map (λ run. string_bytes run) details.runs.items in
    let notes = string_bytes details.notes in
    with_runs told runs (marked_lines note notes) small
    ∙ ap (λ ls. map told_text told ++ ls)
    (ap answer_lines (sym (append-nil (marked_lines note notes)))
    ∙ marked_aside note notes [] (inr refl))
    ∙ append-nil (map told_text told)
