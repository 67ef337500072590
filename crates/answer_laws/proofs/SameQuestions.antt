-- The text of a question says what is asked.
use Rattle.std.proofs.Common.{◌≡◌, ◌∙◌, ◌<◌, ◌++◌, ◌∷◌, [], ℕ, Bool, Bor, List, None, Option, Some}
use Rattle.std.proofs.Common.{ap, append_assoc, arith, codes, false, get_or, length, refl, sym}
use Rattle.std.proofs.Common.{true}
use Rattle.std.specs.Fmt.{decimal}
use Rattle.std.specs.Prelude.{◌^◌, IfSome, option_map, ⊤}
use Rattle.std.proofs.lemmas.Fmt.{decimal_injective}
use Rattle.command_words.specs.declared.exploring.Checks.{Checks}
use Rattle.command_words.specs.declared.exploring.Exploring.{Exploring}
use Rattle.command_words.specs.declared.exploring.FaultChoice.{FaultChoice}
use Rattle.command_words.specs.declared.exploring.FaultChoice.TheVariants as faults
use Rattle.exploration_texts.specs.Asking.{kind_of, question_of}
use Rattle.answer_laws.specs.OneQuestion.{IsOfWords, OneQuestion}
use Rattle.exploration_texts.specs.Questions.{always_text, clear_text}
use Rattle.exploration_texts.specs.Questions.{faults_word, header_words, others_words}
use Rattle.exploration_texts.specs.Questions.{question_text, runs_words, safety_words, word_of}
use Rattle.part_answers.specs.Cuts.{Lacks}
use Rattle.part_answers.proofs.CutLemmas.{lacks_tested, same_cut}
use Rattle.part_answers.proofs.TextLemmas.{decimal_lacks}
use Rattle.round_explorer.specs.declared.question.Question.{Question}
use Rattle.round_meaning.specs.declared.setup.Setup.{Setup}

-- words with a space after each, and what follows
abbrev joined : List (List ℕ) → List ℕ → List ℕ
joined [] rest = rest
joined (w ∷ ws) rest = w ++ 32 ∷ joined ws rest

-- no word has a space
abbrev AreWords : List (List ℕ) → Type 0
AreWords [] = ⊤
AreWords (w ∷ ws) = Lacks 32 w × AreWords ws

-- the same words one by one
abbrev AreSameWords : List (List ℕ) → List (List ℕ) → Type 0
AreSameWords [] vs = ⊤
AreSameWords (w ∷ ws) [] = ⊤
AreSameWords (w ∷ ws) (v ∷ vs) = (w ≡ v) × AreSameWords ws vs

same_words : (ws vs : List (List ℕ)) (a b : List ℕ) → length ws ≡ length vs → AreWords ws
    → AreWords vs → joined ws a ≡ joined vs b → AreSameWords ws vs × (a ≡ b)
same_words [] [] a b many h k e = (tt, e)
same_words [] (v ∷ vs) a b many h k e = absurd (omega (arith, many))
same_words (w ∷ ws) [] a b many h k e = absurd (omega (arith, many))
same_words (w ∷ ws) (v ∷ vs) a b many h k e =
    let cut = same_cut 32 w (joined ws a) v (joined vs b) h.0 k.0 e in
    let rest = same_words ws vs a b (omega (arith, many)) h.1 k.1 cut.1 in
    ((cut.0, rest.0), rest.1)

abbrev words_of : Setup → Exploring → List (List ℕ)
words_of s e =
    codes "nodes" ∷ decimal s.nodes ∷ codes "faults" ∷ decimal s.faults ∷ codes "rounds"
    ∷ decimal s.rounds ∷ codes "fail" ∷ faults_word e.faults ∷ codes "clear" ∷ clear_text e.clear
    ∷ codes "hears" ∷ decimal e.hears ∷ codes "agreement" ∷ word_of e.checks.agreement
    ∷ codes "validity" ∷ word_of e.checks.validity ∷ codes "final" ∷ word_of e.checks.finality
    ∷ codes "termination" ∷ word_of e.checks.termination ∷ codes "always" ∷ []

regroup_four : (a b c d : List ℕ) → ((a ++ b) ++ c) ++ d ≡ a ++ (b ++ (c ++ d))
regroup_four a b c d = simp append_assoc

regroup_five : (a b c d e : List ℕ) → (((a ++ b) ++ c) ++ d) ++ e ≡ a ++ (b ++ (c ++ (d ++ e)))
regroup_five a b c d e = simp append_assoc

regroup_six : (a b c d e f : List ℕ)
    → ((((a ++ b) ++ c) ++ d) ++ e) ++ f ≡ a ++ (b ++ (c ++ (d ++ (e ++ f))))
regroup_six a b c d e f = simp append_assoc

regroup_seven : (a b c d e f x : List ℕ) → (((((a ++ b) ++ c) ++ d) ++ e) ++ f) ++ x
    ≡ a ++ (b ++ (c ++ (d ++ (e ++ (f ++ x)))))
regroup_seven a b c d e f x = simp append_assoc

text_is : (a : List ℕ) (s : Setup) (e : Exploring)
    → question_text a s e ≡ joined (words_of s e) (always_text e.always ++ 10 ∷ a)
text_is a s e =
    let c = e.checks in
    regroup_five (header_words s) (runs_words e) (safety_words c) (others_words e) a
    ∙ regroup_seven (codes "nodes ") (decimal s.nodes) (codes " faults ") (decimal s.faults)
    (codes " rounds ") (decimal s.rounds)
    (runs_words e ++ (safety_words c ++ (others_words e ++ a)))
    ∙ ap (λ x. codes "nodes " ++ (decimal s.nodes ++ (codes " faults " ++ (decimal s.faults
    ++ (codes " rounds " ++ (decimal s.rounds ++ x))))))
    (regroup_seven (codes " fail ") (faults_word e.faults) (codes " clear ") (clear_text e.clear)
    (codes " hears ") (decimal e.hears) (safety_words c ++ (others_words e ++ a))
    ∙ ap (λ x. codes " fail " ++ (faults_word e.faults ++ (codes " clear " ++ (clear_text e.clear
    ++ (codes " hears " ++ (decimal e.hears ++ x))))))
    (regroup_seven (codes " agreement ") (word_of c.agreement) (codes " validity ")
    (word_of c.validity) (codes " final ") (word_of c.finality) (others_words e ++ a)
    ∙ ap (λ x. codes " agreement " ++ (word_of c.agreement ++ (codes " validity "
    ++ (word_of c.validity ++ (codes " final " ++ (word_of c.finality ++ x))))))
    (regroup_six (codes " termination ") (word_of c.termination) (codes " always ")
    (always_text e.always) (codes "\n") a)))

word_lacks : (b : Bool) → Lacks 32 (word_of b)
word_lacks true = lacks_tested 32 (word_of true) refl
word_lacks false = lacks_tested 32 (word_of false) refl

faults_lacks : (k : FaultChoice) → Lacks 32 (faults_word k)
faults_lacks faults.Nobody = lacks_tested 32 (faults_word faults.Nobody) refl
faults_lacks faults.Omission = lacks_tested 32 (faults_word faults.Omission) refl
faults_lacks faults.Crash = lacks_tested 32 (faults_word faults.Crash) refl

clear_lacks : (o : Option ℕ) → IfSome o (λ round. round < 2 ^ 64) → Lacks 32 (clear_text o)
clear_lacks None small = lacks_tested 32 (clear_text None) refl
clear_lacks (Some round) small = decimal_lacks 32 round (omega arith) small

are_words : (s : Setup) (e : Exploring) → IsOfWords s e → AreWords (words_of s e)
are_words s e h = (
  lacks_tested 32 (codes "nodes") refl,
  (
    decimal_lacks 32 s.nodes (omega arith) h.nodes,
    (
      lacks_tested 32 (codes "faults") refl,
      (
        decimal_lacks 32 s.faults (omega arith) h.faults,
        (
          lacks_tested 32 (codes "rounds") refl,
          (
            decimal_lacks 32 s.rounds (omega arith) h.rounds,
            (
              lacks_tested 32 (codes "fail") refl,
              (
                faults_lacks e.faults,
                (
                  lacks_tested 32 (codes "clear") refl,
                  (
                    clear_lacks e.clear h.clear,
                    (
                      lacks_tested 32 (codes "hears") refl,
                      (
                        decimal_lacks 32 e.hears (omega arith) h.hears,
                        (
                          lacks_tested 32 (codes "agreement") refl,
                          (
                            word_lacks e.checks.agreement,
                            (
                              lacks_tested 32 (codes "validity") refl,
                              (
                                word_lacks e.checks.validity,
                                (
                                  lacks_tested 32 (codes "final") refl,
                                  (
                                    word_lacks e.checks.finality,
                                    (
                                      lacks_tested 32 (codes "termination") refl,
                                      (
                                        word_lacks e.checks.termination,
                                        (
                                          lacks_tested 32 (codes "always") refl,
                                          tt,
                                        ),
                                      ),
                                    ),
                                  ),
                                ),
                              ),
                            ),
                          ),
                        ),
                      ),
                    ),
                  ),
                ),
              ),
            ),
          ),
        ),
      ),
    ),
  ),
)

same_word : (b c : Bool) → word_of b ≡ word_of c → b ≡ c
same_word true true e = refl
same_word true false e = absurd (cc e)
same_word false true e = absurd (cc e)
same_word false false e = refl

same_faults : (k l : FaultChoice) → faults_word k ≡ faults_word l → k ≡ l
same_faults faults.Nobody faults.Nobody e = refl
same_faults faults.Nobody faults.Omission e = absurd (cc e)
same_faults faults.Nobody faults.Crash e = absurd (cc e)
same_faults faults.Omission faults.Nobody e = absurd (cc e)
same_faults faults.Omission faults.Omission e = refl
same_faults faults.Omission faults.Crash e = absurd (cc e)
same_faults faults.Crash faults.Nobody e = absurd (cc e)
same_faults faults.Crash faults.Omission e = absurd (cc e)
same_faults faults.Crash faults.Crash e = refl

-- what begins with a dash is no number
no_dash : (ds rest more : List ℕ) → Lacks 45 ds → 45 ∷ rest ≡ ds ++ 32 ∷ more → ⊥
no_dash [] rest more h e =
    let bad : 45 ≡ 32 = ap (λ l. get_or l 0 0) e in absurd (omega (arith, bad))
no_dash (d ∷ ds) rest more h e = h 0 (omega arith) (sym (ap (λ l. get_or l 0 0) e))

no_clear : (n : ℕ) → n < 2 ^ 64 → codes "-" ≡ decimal n → ⊥
no_clear n small e =
    no_dash (decimal n) (32 ∷ []) [] (decimal_lacks 45 n (omega arith) small)
    (ap (λ l. l ++ 32 ∷ []) e)

same_clear : (o p : Option ℕ) → IfSome o (λ round. round < 2 ^ 64)
    → IfSome p (λ round. round < 2 ^ 64) → clear_text o ≡ clear_text p → o ≡ p
same_clear None None h k e = refl
same_clear None (Some n) h k e = absurd (no_clear n k e)
same_clear (Some n) None h k e = absurd (no_clear n h (sym e))
same_clear (Some n) (Some m) h k e = ap (λ x. Some x) (decimal_injective n m h k e)

-- texts of one length that are followed by something
same_both : (a b x y : List ℕ) → length a ≡ length b → a ++ x ≡ b ++ y → (a ≡ b) × (x ≡ y)
same_both [] [] x y many e = (refl, e)
same_both [] (c ∷ b) x y many e = absurd (omega (arith, many))
same_both (d ∷ a) [] x y many e = absurd (omega (arith, many))
same_both (d ∷ a) (c ∷ b) x y many e =
    let first : d ≡ c = cc in
    let later : a ++ x ≡ b ++ y = cc in
    let rest = same_both a b x y (omega (arith, many)) later in
    (ap (λ k. k ∷ a) first ∙ ap (λ l. c ∷ l) rest.0, rest.1)

same_always : (o p : Option (Bor (List ℕ))) (a b : List ℕ)
    → IfSome o (λ text. length text.now < 2 ^ 64) → IfSome p (λ text. length text.now < 2 ^ 64)
    → always_text o ++ 10 ∷ a ≡ always_text p ++ 10 ∷ b
    → (option_map (λ text. text.now) o ≡ option_map (λ text. text.now) p) × (a ≡ b)
same_always None None a b h k e = (refl, cc)
same_always None (Some text) a b h k e =
    absurd (no_dash (decimal (length text.now)) (10 ∷ a) (text.now ++ 10 ∷ b)
    (decimal_lacks 45 (length text.now) (omega arith) k)
    (e ∙ regroup_four (decimal (length text.now)) (codes " ") text.now (10 ∷ b)))
same_always (Some text) None a b h k e =
    absurd (no_dash (decimal (length text.now)) (10 ∷ b) (text.now ++ 10 ∷ a)
    (decimal_lacks 45 (length text.now) (omega arith) h)
    (sym e ∙ regroup_four (decimal (length text.now)) (codes " ") text.now (10 ∷ a)))
same_always (Some one) (Some two) a b h k e =
    let n = length one.now in
    let m = length two.now in
    let both : decimal n ++ 32 ∷ (one.now ++ 10 ∷ a) ≡ decimal m ++ 32 ∷ (two.now ++ 10 ∷ b) =
    sym (regroup_four (decimal n) (codes " ") one.now (10 ∷ a)) ∙ e
    ∙ regroup_four (decimal m) (codes " ") two.now (10 ∷ b) in
    let cut = same_cut 32 (decimal n) (one.now ++ 10 ∷ a) (decimal m) (two.now ++ 10 ∷ b)
    (decimal_lacks 32 n (omega arith) h) (decimal_lacks 32 m (omega arith) k) both in
    let rest = same_both one.now two.now (10 ∷ a) (10 ∷ b) (decimal_injective n m h k cut.0) cut.1
    in
    (ap (λ x. Some x) rest.0, let e : 10 ∷ a ≡ 10 ∷ b = rest.1 in cc)

same_checks : (c d : Checks) → c.agreement ≡ d.agreement → c.validity ≡ d.validity
    → c.finality ≡ d.finality → c.termination ≡ d.termination → c ≡ d
same_checks c d one two three four =
    ap (λ x. record {
      agreement = x;
      validity = c.validity;
      finality = c.finality;
      termination = c.termination;
    }) one
    ∙ ap (λ x. record {
      agreement = d.agreement;
      validity = x;
      finality = c.finality;
      termination = c.termination;
    }) two
    ∙ ap (λ x. record {
      agreement = d.agreement;
      validity = d.validity;
      finality = x;
      termination = c.termination;
    }) three
    ∙ ap (λ x. record {
      agreement = d.agreement;
      validity = d.validity;
      finality = d.finality;
      termination = x;
    }) four

same_runs : (e f : Exploring) → e.clear ≡ f.clear → e.faults ≡ f.faults → e.hears ≡ f.hears
    → question_of e ≡ question_of f
same_runs e f one two three =
    ap (λ x. record { clear = x; faults = kind_of e.faults; hears = e.hears }) one
    ∙ ap (λ x. record { clear = f.clear; faults = kind_of x; hears = e.hears }) two
    ∙ ap (λ x. record { clear = f.clear; faults = kind_of f.faults; hears = x }) three

pub one_question : OneQuestion
one_question a b s t e f h k same =
    let all = same_words (words_of s e) (words_of t f) (always_text e.always ++ 10 ∷ a)
    (always_text f.always ++ 10 ∷ b) refl (are_words s e h) (are_words t f k)
    (sym (text_is a s e) ∙ same ∙ text_is b t f) in
    let w1 = all.0.1 in
    let w3 = w1.1.1 in
    let w5 = w3.1.1 in
    let w7 = w5.1.1 in
    let w9 = w7.1.1 in
    let w11 = w9.1.1 in
    let w13 = w11.1.1 in
    let w15 = w13.1.1 in
    let w17 = w15.1.1 in
    let w19 = w17.1.1 in
    let last = same_always e.always f.always a b h.always k.always all.1 in
    record {
      source = last.1;
      nodes = decimal_injective s.nodes t.nodes h.nodes k.nodes w1.0;
      faults = decimal_injective s.faults t.faults h.faults k.faults w3.0;
      rounds = decimal_injective s.rounds t.rounds h.rounds k.rounds w5.0;
      runs = same_runs e f (same_clear e.clear f.clear h.clear k.clear w9.0)
          (same_faults e.faults f.faults w7.0)
          (decimal_injective e.hears f.hears h.hears k.hears w11.0);
      checks = same_checks e.checks f.checks (same_word _ _ w13.0) (same_word _ _ w15.0)
          (same_word _ _ w17.0) (same_word _ _ w19.0);
      always = last.0;
    }
