-- Reading gives what a text says, and nothing else.
use Rattle.std.proofs.Common.{◌≡◌, ℕ, zero, suc, ◌+◌, ◌<◌, ◌≤◌, Bool, true, false, cond, leb, ltb}
use Rattle.std.proofs.Common.{List, [], ◌∷◌, length, get_or, Ok, Err, Result, inl, inr, refl, sym}
use Rattle.std.proofs.Common.{ap, ◌∙◌, subst, arith}
use Rattle.std.specs.Prelude.{All}
use Rattle.std.specs.List.{AllZip, filter}
use Rattle.std.specs.Str.Lines.{lines}
use Rattle.std.proofs.Common.{le-leb, ltb-true, ltb-false, lt-ltb, le-ltb}
use Rattle.std.proofs.lemmas.Bool.{leb-true}
use Rattle.std.proofs.lemmas.List.Sums.{AllPass-from_list_all, list_all-from_AllPass}
use Rattle.schedule_text.specs.Numbers.{max_number, words_of}
use Rattle.schedule_text.specs.Readings.{line_at}
use Rattle.schedule_text.specs.Texts.{counts, max_text}
use Rattle.schedule_text.specs.declared.fault.ScheduleFault.{ScheduleFault}
use Rattle.schedule_text.specs.declared.fault.ScheduleFault.TheVariants as fault
use Rattle.omission_texts.specs.declared.fault.LineFault.{LineFault}
use Rattle.omission_texts.specs.declared.fault.LineFault.TheVariants as line
use Rattle.omission_texts.specs.declared.line.OmissionLine.{OmissionLine}
use Rattle.omission_texts.specs.Forms.{answer_of, are_small, at_line, behind, from_line, line_in}
use Rattle.omission_texts.specs.Readings.{Answer, IsBad, IsFirst, IsGood, IsLarge, IsReading}
use Rattle.omission_texts.specs.Texts.{HasForm, HasSmallNumbers, Tells, numbers_of}
use Rattle.omission_texts.proofs.Words.{Finds, line_found, line_read}

-- numbers fit, or one doesn't
pub small_said : (vs : List ℕ) → are_small vs ≡ true → All (λ v. v ≤ max_number) vs
small_said vs h k d lt = leb-true (get_or vs k d) max_number
    (AllPass-from_list_all (λ v. leb v max_number) vs h k d lt)

pub small_read : (vs : List ℕ) → All (λ v. v ≤ max_number) vs → are_small vs ≡ true
small_read vs h = list_all-from_AllPass (λ v. leb v max_number) vs
    (λ k d lt. le-leb (get_or vs k d) max_number (h k d lt))

-- a single line, by what is found
abbrev IsLine : List ℕ → Result OmissionLine LineFault → Type 0
IsLine l (Ok x) = Tells l x
IsLine l (Err line.Bad) = (said : OmissionLine) → ¬ HasForm l said
IsLine l (Err line.Large) = (said : OmissionLine) × HasForm l said × ¬ HasSmallNumbers said
IsLine l (Err line.NoMemory) = ⊥

line_sized : (l : List ℕ) (said : OmissionLine) (b : Bool) → are_small (numbers_of said) ≡ b
    → HasForm l said → IsLine l (cond b (Ok said) (Err line.Large))
line_sized l said true e h = record { form = h; small = small_said (numbers_of said) e }
line_sized l said false e h = (
  said,
  h,
  λ small. absurd
      (let s = small_read (numbers_of said) small in cc (s, e)),
)

sized_no_bad : (b : Bool) (said : OmissionLine)
    → ◌≡◌ {A = Result OmissionLine LineFault} (cond b (Ok said) (Err line.Large)) (Err line.Bad) → ⊥
sized_no_bad true said e = absurd cc
sized_no_bad false said e = absurd cc

line_is : (l : List ℕ) → IsLine l (line_in l)
line_is l = go (line_found l)
  where
    go : Finds (words_of l) (line_in l) → IsLine l (line_in l)
    go (inl found) =
        let said = found.0 in
        let P : Result OmissionLine LineFault → Type 0 = IsLine l in
        subst P (sym found.2) (line_sized l said (are_small (numbers_of said)) refl found.1)
    go (inr bad) =
        let P : Result OmissionLine LineFault → Type 0 = IsLine l in
        subst P (sym bad) (λ said h. sized_no_bad (are_small (numbers_of said)) said
        (sym (line_read l said h) ∙ bad))

-- something is wrong with the line of this number, if the first has the number k, and with none
-- before it
record FirstAt (Wrong : List ℕ → Type 0) (k : ℕ) (ls : List (List ℕ)) (n : ℕ) : Type 0 where
  index : ℕ
  number : n ≡ k + index
  within : index < length ls
  before : (j : ℕ) → j < index → IsGood (line_at ls j)
  wrong : Wrong (line_at ls index)

before_more : (l : List ℕ) (ls : List (List ℕ)) (i : ℕ) → IsGood l
    → ((j : ℕ) → j < i → IsGood (line_at ls j)) → (j : ℕ) → j < suc i → IsGood (line_at (l ∷ ls) j)
before_more l ls i good before zero lt = good
before_more l ls i good before (suc j) lt = before j (omega (arith, lt))

first_more : (Wrong : List ℕ → Type 0) (k : ℕ) (l : List ℕ) (ls : List (List ℕ)) (n : ℕ) → IsGood l
    → FirstAt Wrong (k + 1) ls n → FirstAt Wrong k (l ∷ ls) n
first_more Wrong k l ls n good f = record {
  index = suc f.index;
  number = let e = f.number in omega (arith, e);
  within = let lt = f.within in omega (arith, lt);
  before = before_more l ls f.index good f.before;
  wrong = f.wrong;
}

first_here : (Wrong : List ℕ → Type 0) (k : ℕ) (l : List ℕ) (ls : List (List ℕ)) → Wrong l
    → FirstAt Wrong k (l ∷ ls) k
first_here Wrong k l ls wrong = record {
  index = 0;
  number = omega arith;
  within = omega arith;
  before = λ j lt. absurd (omega (arith, lt));
  wrong = wrong;
}

-- what lines say, of which the first has the number k
abbrev Reads : ℕ → List (List ℕ) → Answer → Type 0
Reads k ls (Ok said) = AllZip Tells (filter counts ls) said
Reads k ls (Err fault.TooLong) = ⊥
Reads k ls (Err (fault.BadLine n)) = FirstAt IsBad k ls n
Reads k ls (Err (fault.NumberTooLarge n)) = FirstAt IsLarge k ls n
Reads k ls (Err fault.NoMemory) = ⊥

skip_line : (k : ℕ) (l : List ℕ) (ls : List (List ℕ)) (a : Answer) → counts l ≡ false
    → Reads (k + 1) ls a → Reads k (l ∷ ls) a
skip_line k l ls (Ok said) c h = subst (λ b. AllZip Tells
    (cond b (l ∷ filter counts ls) (filter counts ls)) said) (sym c) h
skip_line k l ls (Err fault.TooLong) c h = h
skip_line k l ls (Err (fault.BadLine n)) c h = first_more IsBad k l ls n (inl c) h
skip_line k l ls (Err (fault.NumberTooLarge n)) c h = first_more IsLarge k l ls n (inl c) h
skip_line k l ls (Err fault.NoMemory) c h = h

take_line : (k : ℕ) (l : List ℕ) (ls : List (List ℕ)) (x : OmissionLine) (a : Answer)
    → counts l ≡ true → Tells l x → Reads (k + 1) ls a → Reads k (l ∷ ls) (behind k (Ok x) a)
take_line k l ls x (Ok said) c t h = subst (λ b. AllZip Tells
    (cond b (l ∷ filter counts ls) (filter counts ls)) (x ∷ said)) (sym c) (t, h)
take_line k l ls x (Err fault.TooLong) c t h = h
take_line k l ls x (Err (fault.BadLine n)) c t h = first_more IsBad k l ls n (inr (x, t)) h
take_line k l ls x (Err (fault.NumberTooLarge n)) c t h = first_more IsLarge k l ls n (inr (x, t)) h
take_line k l ls x (Err fault.NoMemory) c t h = h

any_line : (k : ℕ) (l : List ℕ) (ls : List (List ℕ)) (r : Result OmissionLine LineFault)
    (a : Answer) → counts l ≡ true → IsLine l r → Reads (k + 1) ls a
    → Reads k (l ∷ ls) (behind k r a)
any_line k l ls (Ok x) a c t h = take_line k l ls x a c t h
any_line k l ls (Err line.Bad) a c t h = first_here IsBad k l ls (c, t)
any_line k l ls (Err line.Large) a c t h = first_here IsLarge k l ls (c, t)
any_line k l ls (Err line.NoMemory) a c t h = absurd t

front_line : (k : ℕ) (l : List ℕ) (ls : List (List ℕ)) (a : Answer) (b : Bool) → counts l ≡ b
    → Reads (k + 1) ls a → Reads k (l ∷ ls) (cond b (behind k (line_in l) a) a)
front_line k l ls a true c h = any_line k l ls (line_in l) a c (line_is l) h
front_line k l ls a false c h = skip_line k l ls a c h

lines_sound : (k : ℕ) (ls : List (List ℕ)) → Reads k ls (from_line k ls)
unfolding from_line
lines_sound k [] = tt
lines_sound k (l ∷ ls) = front_line k l ls (from_line (k + 1) ls) (counts l) refl
    (lines_sound (k + 1) ls)

-- the same of a text
from_first : (Wrong : List ℕ → Type 0) (ls : List (List ℕ)) (n : ℕ) → FirstAt Wrong 1 ls n
    → IsFirst Wrong ls n
from_first Wrong ls n f = record {
  index = f.index;
  number = (let e = f.number in omega (arith, e));
  within = f.within;
  before = f.before;
  wrong = f.wrong;
}

to_first : (Wrong : List ℕ → Type 0) (ls : List (List ℕ)) (n : ℕ) → IsFirst Wrong ls n
    → FirstAt Wrong 1 ls n
to_first Wrong ls n f = record {
  index = f.index;
  number = (let e = f.number in omega (arith, e));
  within = f.within;
  before = f.before;
  wrong = f.wrong;
}

short_reading : (text : List ℕ) (a : Answer) → length text ≤ max_text → Reads 1 (lines text) a
    → IsReading text a
short_reading text (Ok said) le h = record { short = le; each = h }
short_reading text (Err fault.TooLong) le h = absurd h
short_reading text (Err (fault.BadLine n)) le h = (le, from_first IsBad (lines text) n h)
short_reading text (Err (fault.NumberTooLarge n)) le h = (le, from_first IsLarge (lines text) n h)
short_reading text (Err fault.NoMemory) le h = h

pub sound : (text : List ℕ) → IsReading text (answer_of text)
unfolding answer_of
sound text = go (ltb max_text (length text)) refl
  where
    go : (b : Bool) → ltb max_text (length text) ≡ b
        → IsReading text (cond b (Err fault.TooLong) (from_line 1 (lines text)))
    go true e = let l = ltb-true max_text (length text) e in omega (arith, l)
    go false e = short_reading text (from_line 1 (lines text))
        (let l = ltb-false max_text (length text) e in omega (arith, l))
        (lines_sound 1 (lines text))

-- a line that says something is read as it, and one at fault is refused for it
told_line : (l : List ℕ) (x : OmissionLine) → Tells l x → line_in l ≡ Ok x
told_line l x t = line_read l x t.form ∙ ap (λ b. cond b (Ok x) (Err line.Large))
    (small_read (numbers_of x) t.small)

bad_line : (l : List ℕ) (r : Result OmissionLine LineFault) → IsLine l r → IsBad l
    → r ≡ Err line.Bad
bad_line l (Ok x) t bad = absurd (bad.1 x t.form)
bad_line l (Err line.Bad) t bad = refl
bad_line l (Err line.Large) t bad = absurd (bad.1 t.0 t.1)
bad_line l (Err line.NoMemory) t bad = absurd t

large_line : (l : List ℕ) → IsLarge l → line_in l ≡ Err line.Large
large_line l large = line_read l large.1.0 large.1.1 ∙ go (are_small (numbers_of large.1.0)) refl
  where
    go : (b : Bool) → are_small (numbers_of large.1.0) ≡ b
        → cond b (Ok large.1.0) (Err line.Large) ≡ Err line.Large
    go true e = absurd (large.1.2 (small_said (numbers_of large.1.0) e))
    go false e = refl

-- what lines say is found
all_told : (k : ℕ) (ls : List (List ℕ)) (said : List OmissionLine)
    → AllZip Tells (filter counts ls) said → from_line k ls ≡ Ok said
unfolding from_line
all_told k [] [] h = refl
all_told k [] (x ∷ said) h = absurd h
all_told k (l ∷ ls) said h = go (counts l) said h (all_told (k + 1) ls)
  where
    go : (b : Bool) (said : List OmissionLine)
        → AllZip Tells (cond b (l ∷ filter counts ls) (filter counts ls)) said
        → ((said : List OmissionLine) → AllZip Tells (filter counts ls) said
        → from_line (k + 1) ls ≡ Ok said) → cond b (behind k (line_in l) (from_line (k + 1) ls))
        (from_line (k + 1) ls) ≡ Ok said
    go false said h more = more said h
    go true [] h more = absurd h
    go true (x ∷ said) h more = ap (λ r. behind k r (from_line (k + 1) ls)) (told_line l x h.0)
        ∙ ap (λ a. behind k (Ok x) a) (more said h.1)

good_front : (k : ℕ) (l : List ℕ) (ls : List (List ℕ)) (e : ScheduleFault) → IsGood l
    → from_line (k + 1) ls ≡ Err e → from_line k (l ∷ ls) ≡ Err e
unfolding from_line
good_front k l ls e good h = go (counts l) refl good
  where
    go : (b : Bool) → counts l ≡ b → IsGood l
        → cond b (behind k (line_in l) (from_line (k + 1) ls)) (from_line (k + 1) ls) ≡ Err e
    go false c good = h
    go true c (inl none) = absurd (cc (c, none))
    go true c (inr told) = ap (λ r. behind k r (from_line (k + 1) ls)) (told_line l told.0 told.1)
        ∙ ap (λ a. behind k (Ok told.0) a) h

wrong_front : (k : ℕ) (l : List ℕ) (ls : List (List ℕ)) (e : LineFault) → counts l ≡ true
    → line_in l ≡ Err e → from_line k (l ∷ ls) ≡ Err (at_line k e)
unfolding from_line
wrong_front k l ls e c h = ap (λ b. cond b (behind k (line_in l) (from_line (k + 1) ls))
    (from_line (k + 1) ls)) c ∙ ap (λ r. behind k r (from_line (k + 1) ls)) h

-- the first line at fault is found
first_told : (Wrong : List ℕ → Type 0) (e : LineFault)
    → ((l : List ℕ) → Wrong l → (counts l ≡ true) × (line_in l ≡ Err e))
    → (k : ℕ) (ls : List (List ℕ)) (i : ℕ) → i < length ls
    → ((j : ℕ) → j < i → IsGood (line_at ls j)) → Wrong (line_at ls i)
    → from_line k ls ≡ Err (at_line (k + i) e)
first_told Wrong e is k [] i lt before wrong = absurd (omega (arith, lt))
first_told Wrong e is k (l ∷ ls) zero lt before wrong = let p = is l wrong in wrong_front k l ls e
    p.0 p.1 ∙ ap (λ n. Err (at_line n e)) (omega arith)
first_told Wrong e is k (l ∷ ls) (suc i) lt before wrong =
    let same : k + 1 + i ≡ k + suc i = omega arith in
    let rest = first_told Wrong e is (k + 1) ls i (omega (arith, lt))
    (λ j h. before (suc j) (omega (arith, h))) wrong in
    good_front k l ls (at_line (k + suc i) e) (before 0 (omega arith))
    (rest ∙ ap (λ n. Err (at_line n e)) same)

bad_told : (ls : List (List ℕ)) (n : ℕ) → IsFirst IsBad ls n
    → from_line 1 ls ≡ Err (fault.BadLine n)
bad_told ls n f =
    first_told IsBad line.Bad (λ l bad. (bad.0, bad_line l (line_in l) (line_is l) bad)) 1 ls
    f.index f.within f.before f.wrong ∙ ap (λ n. Err (fault.BadLine n))
    (let e = f.number in omega (arith, e))

large_told : (ls : List (List ℕ)) (n : ℕ) → IsFirst IsLarge ls n
    → from_line 1 ls ≡ Err (fault.NumberTooLarge n)
large_told ls n f =
    first_told IsLarge line.Large (λ l large. (large.0, large_line l large)) 1 ls f.index f.within
    f.before f.wrong ∙ ap (λ n. Err (fault.NumberTooLarge n))
    (let e = f.number in omega (arith, e))

pub short_told : (text : List ℕ) → length text ≤ max_text
    → answer_of text ≡ from_line 1 (lines text)
unfolding answer_of
short_told text le = ap (λ b. cond b (Err fault.TooLong) (from_line 1 (lines text)))
    (le-ltb max_text (length text) le)

long_told : (text : List ℕ) → max_text < length text → answer_of text ≡ Err fault.TooLong
unfolding answer_of
long_told text lt = ap (λ b. cond b (Err fault.TooLong) (from_line 1 (lines text)))
    (lt-ltb max_text (length text) lt)

-- whatever is a text's reading is found
pub complete : (text : List ℕ) (a : Answer) → IsReading text a → answer_of text ≡ a
complete text (Ok said) h = short_told text h.short ∙ all_told 1 (lines text) said h.each
complete text (Err fault.TooLong) h = long_told text h
complete text (Err (fault.BadLine n)) h = short_told text h.0 ∙ bad_told (lines text) n h.1
complete text (Err (fault.NumberTooLarge n)) h = short_told text h.0 ∙ large_told (lines text) n h.1
complete text (Err fault.NoMemory) h = absurd h

pub one_reading : (text : List ℕ) (a b : Answer) → IsReading text a → IsReading text b → a ≡ b
one_reading text a b h g = sym (complete text a h) ∙ complete text b g
