-- Lines that are read one after another.
use Rattle.std.proofs.Common.{◌≡◌, ℕ, ◌+◌, ◌<◌, ◌≤◌, Bool, true, false, cond, eqb, List, [], ◌∷◌}
use Rattle.std.proofs.Common.{◌++◌, length, get_or, drop, Ok, Err, Result, refl, sym, ap, ◌∙◌}
use Rattle.std.proofs.Common.{arith}
use Rattle.std.specs.List.{slice_split}
use Rattle.std.specs.Str.Lines.{lines, lines_of_parts}
use Rattle.std.proofs.lemmas.List.{append_assoc, append-nil, drop_all, drop_more}
use Rattle.std.proofs.lemmas.List.Splits.{length-slice_split}
use Rattle.std.proofs.lemmas.List.Sums.{count_by-le-length}
use Rattle.schedule_text.specs.Texts.{counts}
use Rattle.omission_texts.specs.declared.fault.LineFault.{LineFault}
use Rattle.omission_texts.specs.declared.line.OmissionLine.{OmissionLine}
use Rattle.omission_texts.specs.Forms.{ahead, at_line, behind, from_line, line_in, said_by}
use Rattle.omission_texts.specs.Forms.{said_with}
use Rattle.omission_texts.specs.Readings.{Answer}

-- the first lines say this, and the answer is it with what the others say behind it
pub record IsReadTo (ls : List (List ℕ)) (i : ℕ) (said : List OmissionLine) (number : ℕ) : Type 0
  where
    pub answer : from_line 1 ls ≡ ahead said (from_line (i + 1) (drop i ls))
    pub count : number ≡ i

ahead-nil : (a : Answer) → ahead [] a ≡ a
ahead-nil (Ok xs) = refl
ahead-nil (Err e) = refl

pub read_nothing : (ls : List (List ℕ)) → IsReadTo ls 0 [] 0
read_nothing ls = record { answer = sym (ahead-nil (from_line 1 ls)); count = refl }

ahead-behind : (k : ℕ) (said : List OmissionLine) (x : OmissionLine) (a : Answer)
    → ahead said (behind k (Ok x) a) ≡ ahead (said ++ x ∷ []) a
ahead-behind k said x (Ok xs) = ap (λ (l : List OmissionLine). Ok l)
    (sym (append_assoc said (x ∷ []) xs))
ahead-behind k said x (Err e) = refl

-- one line more, with which the answer goes on, or stops
module _ (ls : List (List ℕ)) (i : ℕ) (said : List OmissionLine) (l : List ℕ) where
  step : (rest : Answer) (b : Bool) (r : Result OmissionLine LineFault) (new : List OmissionLine)
      → cond b (said_with said r) (Ok said) ≡ Ok new
      → ahead said (cond b (behind (i + 1) r rest) rest) ≡ ahead new rest
  step rest true (Ok x) new e =
      let same : said ++ x ∷ [] ≡ new = cc in
      ahead-behind (i + 1) said x rest ∙ ap (λ n. ahead n rest) same
  step rest true (Err f) new e = absurd cc
  step rest false r new e = let same : said ≡ new = cc in ap (λ n. ahead n rest) same

  stop : (rest : Answer) (b : Bool) (r : Result OmissionLine LineFault) (f : LineFault)
      → cond b (said_with said r) (Ok said) ≡ Err f
      → ahead said (cond b (behind (i + 1) r rest) rest) ≡ Err (at_line (i + 1) f)
  stop rest true (Ok x) f e = absurd cc
  stop rest true (Err g) f e = let same : g ≡ f = cc in ap
      (λ (h : LineFault). Err (at_line (i + 1) h)) same
  stop rest false r f e = absurd cc

  module _ (number : ℕ) (read : IsReadTo ls i said number) (lt : i < length ls)
      (is : l ≡ get_or ls i l) where
    front : drop i ls ≡ l ∷ drop (i + 1) ls
    front = drop_more ls i l lt ∙ ap (λ x. x ∷ drop (i + 1) ls) (sym is)

    answer_is : from_line 1 ls ≡ ahead said (cond (counts l)
        (behind (i + 1) (line_in l) (from_line (i + 1 + 1) (drop (i + 1) ls)))
        (from_line (i + 1 + 1) (drop (i + 1) ls)))
    unfolding from_line
    answer_is = read.answer ∙ ap (λ x. ahead said (from_line (i + 1) x)) front

    pub read_one : (new : List OmissionLine) → said_by l said ≡ Ok new
        → IsReadTo ls (i + 1) new (number + 1)
    read_one new e = record {
      answer = answer_is ∙ step (from_line (i + 1 + 1) (drop (i + 1) ls)) (counts l) (line_in l) new
          e;
      count = (let c = read.count in omega (arith, c));
    }

    pub read_fault : (f : LineFault) → said_by l said ≡ Err f
        → from_line 1 ls ≡ Err (at_line (number + 1) f)
    read_fault f e =
        answer_is ∙ stop (from_line (i + 1 + 1) (drop (i + 1) ls)) (counts l) (line_in l) f e
        ∙ ap (λ n. Err (at_line (n + 1) f)) (sym read.count)

pub read_all : (ls : List (List ℕ)) (i : ℕ) (said : List OmissionLine) (number : ℕ)
    → IsReadTo ls i said number → length ls ≤ i → from_line 1 ls ≡ Ok said
unfolding from_line
read_all ls i said number read le =
    read.answer ∙ ap (λ x. ahead said (from_line (i + 1) x)) (drop_all i ls le)
    ∙ ap (λ (l : List OmissionLine). Ok l) (append-nil said)

-- a text has not many more lines than bytes
parts-lines : (ps : List (List ℕ)) → length (lines_of_parts ps) ≤ length ps
parts-lines [] = omega arith
parts-lines (x ∷ []) = go (eqb (length x) 0)
  where
    go : (b : Bool) → length (cond b [] (x ∷ [])) ≤ 1
    go true = omega arith
    go false = omega arith
parts-lines (x ∷ y ∷ ps) = let h = parts-lines (y ∷ ps) in omega (arith, h)

pub length-lines : (text : List ℕ) → length (lines text) ≤ length text + 1
length-lines text =
    let parts = slice_split (λ b. eqb b 10) text in
    omega (
      arith,
      parts-lines parts,
      length-slice_split (λ b. eqb b 10) text,
      count_by-le-length
          (λ b. eqb b 10) text,
    )
