-- Lines that are written one after another.
use Rattle.std.proofs.Common.{◌≡◌, ◌∙◌, ◌+◌, ◌<◌, ◌≤◌, ◌++◌, ◌∷◌, [], ℕ, List, None, Option, Some}
use Rattle.std.proofs.Common.{ap, append_assoc, get_or, length, sym, take}
use Rattle.std.specs.Io.KnownBytes.{Appends}
use Rattle.std.proofs.lemmas.List.{append-nil, take_all, take_more}
use Rattle.part_answers.specs.Answers.{answered_line, answers_text}
use Rattle.part_answers.specs.declared.answered.Answered.{Answered}

pub none_written : (a : Option (List ℕ)) → Appends a a []
none_written None = tt
none_written (Some xs) = sym (append-nil xs)

both_written : (a b c : Option (List ℕ)) (x y : List ℕ) → Appends a b x → Appends b c y
    → Appends a c (x ++ y)
both_written None b c x y h k = tt
both_written (Some xs) None c x y h k = absurd h
both_written (Some xs) (Some ys) None x y h k = absurd k
both_written (Some xs) (Some ys) (Some zs) x y h k =
    k ∙ ap (λ l. l ++ y) h ∙ append_assoc xs x y

as_written : (a b : Option (List ℕ)) (x y : List ℕ) → x ≡ y → Appends a b x → Appends a b y
as_written a b x y same h = rw (← same) h

pub lines_more : (answers : List Answered) (one : Answered)
    → answers_text (answers ++ one ∷ []) ≡ answers_text answers ++ answered_line one
lines_more [] one = append-nil (answered_line one)
lines_more (a ∷ answers) one =
    ap (λ l. answered_line a ++ l) (lines_more answers one)
    ∙ sym (append_assoc (answered_line a) (answers_text answers) (answered_line one))

-- the first lines and the next
pub one_more : (answers : List Answered) (i : ℕ) (one : Answered) → i < length answers
    → one ≡ get_or answers i one
    → answers_text (take (i + 1) answers) ≡ answers_text (take i answers) ++ answered_line one
one_more answers i one lt is =
    ap answers_text (take_more answers i one lt
    ∙ ap (λ y. take i answers ++ y ∷ []) (sym is)) ∙ lines_more (take i answers) one

pub all_lines : (answers : List Answered) (i : ℕ) → length answers ≤ i
    → answers_text (take i answers) ≡ answers_text answers
all_lines answers i all = ap answers_text (take_all i answers all)

pub one_written : (a b c : Option (List ℕ)) (answers : List Answered) (i : ℕ) (one : Answered)
    → i < length answers → one ≡ get_or answers i one
    → Appends a b (answers_text (take i answers)) → Appends b c (answered_line one)
    → Appends a c (answers_text (take (i + 1) answers))
one_written a b c answers i one lt is h k =
    as_written a c (answers_text (take i answers) ++ answered_line one)
    (answers_text (take (i + 1) answers)) (sym (one_more answers i one lt is))
    (both_written a b c (answers_text (take i answers)) (answered_line one) h k)

pub all_written : (a b : Option (List ℕ)) (answers : List Answered) (i : ℕ) → length answers ≤ i
    → Appends a b (answers_text (take i answers)) → Appends a b (answers_text answers)
all_written a b answers i all h =
    as_written a b (answers_text (take i answers)) (answers_text answers)
    (all_lines answers i all) h
