-- Lines that are read one after another.
use Rattle.std.proofs.Common.{◌≡◌, ◌≢◌, ◌∙◌, ◌++◌, ◌∷◌, [], ℕ, List, append_assoc, ap, refl, subst}
use Rattle.std.proofs.Common.{suc, sym}
use Rattle.std.proofs.lemmas.List.{append-nil}
use Rattle.part_answers.specs.Answers.{AreFrom, answered_line, answered_text, answers_text}
use Rattle.part_answers.specs.Heads.{head_text}
use Rattle.part_answers.specs.Parts.{IsNoPart, IsWellFormed, head_of, part_text}
use Rattle.part_answers.specs.Properties.{rank}
use Rattle.part_answers.specs.Readings.{AreLinesOf, AreNoLines, BeginsWithAnswer}
use Rattle.part_answers.specs.Readings.{BeginsWithHead}
use Rattle.part_answers.specs.declared.answered.Answered.{Answered}
use Rattle.part_answers.specs.declared.part.PartAnswers.{PartAnswers}
use Rattle.part_answers.specs.declared.part.PartHead.{PartHead}
use Rattle.part_answers.specs.declared.reading.PartFault.{PartFault}
use Rattle.part_answers.specs.declared.reading.PartFault.TheVariants.{BadLine, NoMemory}
use Rattle.part_answers.proofs.AnswerLemmas.{answered_lacks, same_answered}
use Rattle.part_answers.proofs.CutLemmas.{cut_is, cut_somewhere, lacks_nothing, same_cut}
use Rattle.part_answers.proofs.HeadLemmas.{head_lacks, same_head}
use Rattle.part_answers.proofs.LineLemmas.{lines_more}

-- The lines up to the rest are these answers': what the rest answers follows them, and the rest
-- answers something where the whole text does.
pub record IsReadTo (text : List ℕ) (answers : List Answered) (rest : List ℕ) (least : ℕ) : Type 0
  where
    pub lines : text ≡ answers_text answers ++ rest
    pub goes_on : (more : List Answered) → AreFrom least more → AreFrom 0 (answers ++ more)
    pub came : (all : List Answered) → AreLinesOf text all
        → (first : Answered) × (more : List Answered) × AreFrom least (first ∷ more)
        × (rest ≡ answers_text (first ∷ more))

some_came : (text : List ℕ) (all : List Answered) → AreLinesOf text all
    → (first : Answered) × (more : List Answered) × AreFrom 0 (first ∷ more)
    × (text ≡ answers_text (first ∷ more))
some_came text [] h = absurd (h.some refl)
some_came text (a ∷ rest) h = (a, rest, h.rising, h.lines)

pub read_nothing : (text : List ℕ) → IsReadTo text [] text 0
read_nothing text =
    record { lines = refl; goes_on = λ more h. h; came = some_came text }

-- the first line and the others
lines_cut : (a : Answered) (more : List Answered)
    → answers_text (a ∷ more) ≡ answered_text a ++ 10 ∷ answers_text more
lines_cut a more = append_assoc (answered_text a) (10 ∷ []) (answers_text more)

not_nothing : (answers : List Answered) (a : Answered) → answers ++ a ∷ [] ≢ []
not_nothing [] a same = absurd (cc same)
not_nothing (b ∷ answers) a same = absurd (cc same)

others_came : (least : ℕ) (after : List ℕ) (more : List Answered) → after ≢ []
    → AreFrom least more → after ≡ answers_text more
    → (first : Answered) × (others : List Answered) × AreFrom least (first ∷ others)
    × (after ≡ answers_text (first ∷ others))
others_came least after [] some from same = absurd (some same)
others_came least after (m ∷ more) some from same = (m, more, from, same)

module _ (text : List ℕ) (answers : List Answered) (rest : List ℕ) (least : ℕ)
    (read : IsReadTo text answers rest least) where
  pub read_none : ((a : Answered) (after : List ℕ) → ¬ (BeginsWithAnswer rest least a after))
      → (all : List Answered) → ¬ (AreLinesOf text all)
  read_none none all h =
      let left = read.came all h in
      none left.0 (answers_text left.1)
      (record {
        cut = (left.3 ∙ lines_cut left.0 left.1, answered_lacks left.0 left.2.1);
        answered = left.2.1;
        late = left.2.0;
      })

  module _ (a : Answered) (after : List ℕ) (begins : BeginsWithAnswer rest least a after) where
    lines_of_more : text ≡ answers_text (answers ++ a ∷ []) ++ after
    lines_of_more =
        read.lines ∙ ap (λ t. answers_text answers ++ t)
        (begins.cut.0 ∙ sym (append_assoc (answered_text a) (10 ∷ []) after))
        ∙ sym (append_assoc (answers_text answers) (answered_line a) after)
        ∙ ap (λ t. t ++ after) (sym (lines_more answers a))

    pub read_one : after ≢ []
        → IsReadTo text (answers ++ a ∷ []) after (suc (rank a.property))
    read_one some = record {
      lines = lines_of_more;
      goes_on = λ more h. subst (AreFrom 0) (sym (append_assoc answers (a ∷ []) more))
          (read.goes_on (a ∷ more) (begins.late, begins.answered, h));
      came = λ all h. let left = read.came all h in
          let parts = cut_is 10 rest (answered_text a) after (answered_text left.0)
          (answers_text left.1) begins.cut (answered_lacks left.0 left.2.1)
          (left.3 ∙ lines_cut left.0 left.1) in
          others_came (suc (rank a.property)) after left.1 some
          (subst (λ (b : Answered). AreFrom (suc (rank b.property)) left.1)
          (sym (same_answered a left.0 begins.answered left.2.1 parts.0)) left.2.2)
          parts.1;
    }

    pub read_all : after ≡ [] → AreLinesOf text (answers ++ a ∷ [])
    read_all none = record {
      lines = lines_of_more ∙ ap (λ t. answers_text (answers ++ a ∷ []) ++ t) none
          ∙ append-nil (answers_text (answers ++ a ∷ []));
      rising = read.goes_on (a ∷ []) (begins.late, begins.answered, tt);
      some = not_nothing answers a;
    }

-- what a text that is a part's begins with
pub part_begins : (text : List ℕ) (p : PartAnswers) → IsWellFormed p → text ≡ part_text p
    → BeginsWithHead text (head_of p) (answers_text p.answers.items)
part_begins text p is same = record {
  cut = (
    same ∙ append_assoc (head_text (head_of p)) (10 ∷ []) (answers_text p.answers.items),
    head_lacks (head_of p) is.head,
  );
  is_head = is.head;
}

-- and what follows its first line
pub part_goes_on : (text : List ℕ) (h : PartHead) (rest : List ℕ) (p : PartAnswers)
    → BeginsWithHead text h rest → IsWellFormed p → text ≡ part_text p
    → AreLinesOf rest p.answers.items
part_goes_on text h rest p begins is same =
    let cut = (part_begins text p is same).cut in
    let parts = cut_is 10 text (head_text h) rest (head_text (head_of p))
    (answers_text p.answers.items) begins.cut cut.1 cut.0 in
    record { lines = parts.1; rising = is.answers; some = is.some }

-- lines are those of one list of answers at most
same_lines : (m n : ℕ) (xs ys : List Answered) → AreFrom m xs → AreFrom n ys
    → answers_text xs ≡ answers_text ys → xs ≡ ys
same_lines m n [] [] first second same = refl
same_lines m n [] (b ∷ ys) first second same =
    absurd (cut_somewhere 10 [] (answered_text b) (answers_text ys) (lacks_nothing 10)
    (same ∙ lines_cut b ys))
same_lines m n (a ∷ xs) [] first second same =
    absurd (cut_somewhere 10 [] (answered_text a) (answers_text xs) (lacks_nothing 10)
    (sym same ∙ lines_cut a xs))
same_lines m n (a ∷ xs) (b ∷ ys) first second same =
    let parts = same_cut 10 (answered_text a) (answers_text xs) (answered_text b) (answers_text ys)
    (answered_lacks a first.1) (answered_lacks b second.1)
    (sym (lines_cut a xs) ∙ same ∙ lines_cut b ys) in
    ap (λ (c : Answered). c ∷ xs) (same_answered a b first.1 second.1 parts.0)
    ∙ ap (λ zs. b ∷ zs)
    (same_lines (suc (rank a.property)) (suc (rank b.property)) xs ys first.2 second.2 parts.1)

-- what is read is all that the text can say
pub only_part : (text : List ℕ) (h : PartHead) (rest : List ℕ) (answers : List Answered)
    → BeginsWithHead text h rest → AreLinesOf rest answers → (p : PartAnswers) → IsWellFormed p
    → text ≡ part_text p
    → (h.part ≡ p.part) × (h.question ≡ p.question) × (answers ≡ p.answers.items)
only_part text h rest answers begins lines p is same =
    let cut = (part_begins text p is same).cut in
    let parts = cut_is 10 text (head_text h) rest (head_text (head_of p))
    (answers_text p.answers.items) begins.cut cut.1 cut.0 in
    let heads = same_head h (head_of p) begins.is_head is.head parts.0 in (
      heads.0,
      heads.1,
      same_lines 0 0 answers p.answers.items lines.rising is.answers (sym lines.lines ∙ parts.1),
    )

-- where the lines behind the first are no answers, the text is no part's
pub no_part : (text : List ℕ) (h : PartHead) (rest : List ℕ) (fault : PartFault)
    → BeginsWithHead text h rest → AreNoLines rest fault → IsNoPart text fault
no_part text h rest (BadLine n) begins none = λ p is same.
    none p.answers.items (part_goes_on text h rest p begins is same)
no_part text h rest NoMemory begins none = tt
