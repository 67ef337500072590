-- What a step says of the tokens.
use Rattle.std.proofs.Common.{◌≡◌, ℕ, ◌+◌, ◌<◌, ◌≤◌, Bool, true, false, cond, List, [], ◌∷◌, length}
use Rattle.std.proofs.Common.{take, drop, Option, Some, None, refl, sym, ap, ◌∙◌, subst, ⊎_elim}
use Rattle.std.proofs.Common.{arith}
use Rattle.std.specs.Prelude.{not, ◌==◌}
use Rattle.std.specs.Char.{is_ascii_digit}
use Rattle.std.specs.List.{prefix_len}
use Rattle.std.proofs.Math.Numerals.{one-add}
use Rattle.std.proofs.lemmas.Bool.{eqb-true, cases_lt}
use Rattle.std.proofs.lemmas.List.Sums.{prefix_len-le-length}
use Rattle.round_lang.specs.Lexemes.{Lexeme, number}
use Rattle.round_lang.specs.Keywords.{keyword, short_symbol, long_symbol}
use Rattle.round_lang.specs.Tokens.{is_blank, begins_name, is_in_name, word_of, lexeme, IsLongest}
use Rattle.round_lang.specs.Tokens.{line_len, Tokens}
use Rattle.round_lang.specs.Tokens as t
use Rattle.round_lang.specs.Scanning.{Step, skip, token, bad, one_or_bad, two_or_one, symbol_step}
use Rattle.round_lang.specs.Scanning.{step}
use Rattle.round_lang.proofs.Longest.{blank_is, hash_is, nothing_begins, name_longest}
use Rattle.round_lang.proofs.Longest.{number_longest, long_longest, short_longest, nothing_fits}

-- one length and one token are the longest
same_longest : (text : List ℕ) (n k : ℕ) (l u : Lexeme) → IsLongest text n l → IsLongest text k u
    → (n ≡ k) × (l ≡ u)
same_longest text n k l u p q =
    let clash : (i j : ℕ) (v w : Lexeme) → IsLongest text i v → IsLongest text j w → i < j → ⊥ =
    λ i j v w x y lt. let e = sym (x.longest j lt y.within) ∙ y.is in absurd cc in
    let same : n ≡ k = ⊎_elim (λ lt. absurd (clash n k l u p q lt))
    (λ le. ⊎_elim (λ lt. absurd (clash k n u l q p lt)) (λ le2. omega arith) (cases_lt k n))
    (cases_lt n k) in
    let is : Some l ≡ Some u = sym p.is ∙ ap (λ i. lexeme (take i text)) same ∙ q.is in
    (same, cc)

-- a text that begins with a token
pub record Splits (text : List ℕ) (n : ℕ) (l : Lexeme) (ls : List Lexeme) : Type 0 where
  pub others : List Lexeme
  pub is : ls ≡ l ∷ others
  pub rest : Tokens (drop n text) others

-- what each step says
pub record Skips (text : List ℕ) (n : ℕ) : Type 0 where
  pub moves : 0 < n
  pub within : n ≤ length text
  pub on : (ls : List Lexeme) → Tokens (drop n text) ls → Tokens text ls
  pub back : (ls : List Lexeme) → Tokens text ls → Tokens (drop n text) ls

pub record Begins (text : List ℕ) (n : ℕ) (l : Lexeme) : Type 0 where
  pub moves : 0 < n
  pub is : IsLongest text n l
  pub back : (ls : List Lexeme) → Tokens text ls → Splits text n l ls

abbrev pub Says : List ℕ → Step → Type 0
Says text (skip n) = Skips text n
Says text (token n l) = Begins text n l
Says text bad = (ls : List Lexeme) → Tokens text ls → ⊥

-- ---- texts by their first byte

pub no_token : (a : ℕ) → begins_name a ≡ false → is_ascii_digit a ≡ false → short_symbol a ≡ None
    → ((b : ℕ) → long_symbol a b ≡ None) → (text bs : List ℕ) → text ≡ a ∷ bs → (n : ℕ) (l : Lexeme)
    → lexeme (take n text) ≡ Some l → ⊥
no_token a g h s k text bs e n l is = let none =
    sym (ap (λ x. lexeme (take n x)) e ∙ nothing_begins a g h s k bs n) ∙ is in absurd cc

pub blank_back : {text : List ℕ} {ls : List Lexeme} → Tokens text ls → (a : ℕ) (bs : List ℕ)
    → text ≡ a ∷ bs → is_blank a ≡ true → Tokens bs ls
blank_back t.end a bs e h = absurd cc
blank_back (t.blank {text = text} {ls = ls} k r) a bs e h = let p : text ≡ bs =
    cc in subst (λ x. Tokens x ls) p r
blank_back (t.comment {b = b} k r) a bs e h = let p : b ≡ a = cc in let c =
    (hash_is b k).4 in let q : true ≡ false = sym h ∙ ap is_blank (sym p) ∙ c in absurd cc
blank_back (t.token {text = text} {l = l} n k r) a bs e h = let b =
    blank_is a h in absurd (no_token a b.0 b.1 b.2 b.3 text bs e n l k.is)

pub hash_back : {text : List ℕ} {ls : List Lexeme} → Tokens text ls → (a : ℕ) (bs : List ℕ)
    → text ≡ a ∷ bs → a ≡ 35 → Tokens (drop (line_len bs) bs) ls
hash_back t.end a bs e h = absurd cc
hash_back (t.blank {b = b} k r) a bs e h = let p : b ≡ a = cc in let c =
    (hash_is a h).4 in let q : true ≡ false = sym k ∙ ap is_blank p ∙ c in absurd cc
hash_back (t.comment {text = text} {ls = ls} k r) a bs e h = let p : text ≡ bs =
    cc in subst (λ x. Tokens (drop (line_len x) x) ls) p r
hash_back (t.token {text = text} {l = l} n k r) a bs e h = let b =
    hash_is a h in absurd (no_token a b.0 b.1 b.2 b.3 text bs e n l k.is)

-- a text whose first byte is neither blank nor #
pub word_back : {text : List ℕ} {ls : List Lexeme} → Tokens text ls → (a : ℕ) (bs : List ℕ)
    → text ≡ a ∷ bs → is_blank a ≡ false → (a == 35) ≡ false → (n : ℕ) (l : Lexeme)
    → IsLongest text n l → Splits text n l ls
word_back t.end a bs e h k n l best = absurd cc
word_back (t.blank {b = b} g r) a bs e h k n l best = let p : b ≡ a = cc in let q : true ≡ false =
    sym g ∙ ap is_blank p ∙ h in absurd cc
word_back (t.comment {b = b} g r) a bs e h k n l best = let p : b ≡ a = cc in let q : true ≡ false =
    sym (ap (λ x. x == 35) g) ∙ ap (λ x. x == 35) p ∙ k in absurd cc
word_back (t.token {text = text} {l = u} {ls = ls} j best' r) a bs e h k n l best =
    let same = same_longest text j n u l best' best in
    record {
      others = ls;
      is = ap (λ x. x ∷ ls) same.1;
      rest =
          subst (λ i. Tokens (drop i text) ls) same.0 r;
    }

none_back : {text : List ℕ} {ls : List Lexeme} → Tokens text ls → (a : ℕ) (bs : List ℕ)
    → text ≡ a ∷ bs → is_blank a ≡ false → (a == 35) ≡ false
    → ((n : ℕ) → lexeme (take n (a ∷ bs)) ≡ None) → ⊥
none_back t.end a bs e h k none = absurd cc
none_back (t.blank {b = b} g r) a bs e h k none = let p : b ≡ a = cc in let q : true ≡ false =
    sym g ∙ ap is_blank p ∙ h in absurd cc
none_back (t.comment {b = b} g r) a bs e h k none = let p : b ≡ a = cc in let q : true ≡ false =
    sym (ap (λ x. x == 35) g) ∙ ap (λ x. x == 35) p ∙ k in absurd cc
none_back (t.token {text = text} {l = l} n g r) a bs e h k none = let q =
    sym (ap (λ x. lexeme (take n x)) e ∙ none n) ∙ g.is in absurd cc

-- ---- steps

module _ (a : ℕ) (bs : List ℕ) where
  says_blank : is_blank a ≡ true → Says (a ∷ bs) (skip 1)
  says_blank h =
      record {
        moves = omega arith;
        within = omega arith;
        on = λ ls r. t.blank h r;
        back =
            λ ls r. blank_back r a bs refl h;
      }

  says_comment : a ≡ 35 → Says (a ∷ bs) (skip (1 + line_len bs))
  says_comment h =
      rw one-add
      (record {
        moves = omega arith;
        within =
            omega (arith, prefix_len-le-length (λ b. not (b == 10)) bs);
        on =
            λ ls r. t.comment h r;
        back = λ ls r. hash_back r a bs refl h;
      })

  module _ (blank : is_blank a ≡ false) (hash : (a == 35) ≡ false) where
    says_token : (n : ℕ) (l : Lexeme) → 0 < n → IsLongest (a ∷ bs) n l → Says (a ∷ bs) (token n l)
    says_token n l lt best =
        record { moves = lt; is = best; back = λ ls r. word_back r a bs refl blank hash n l best }

    says_bad : ((n : ℕ) → lexeme (take n (a ∷ bs)) ≡ None) → Says (a ∷ bs) bad
    says_bad none = λ ls r. none_back r a bs refl blank hash none

    module _ (letter : begins_name a ≡ false) (digit : is_ascii_digit a ≡ false) where
      says_short : ((b : ℕ) (xs : List ℕ) → bs ≡ b ∷ xs → long_symbol a b ≡ None)
          → (o : Option Lexeme) → short_symbol a ≡ o → Says (a ∷ bs) (one_or_bad o)
      says_short none None e = says_bad (nothing_fits a letter digit bs none e)
      says_short none (Some l) e =
          says_token 1 l (omega arith) (short_longest a letter digit bs l none e)

-- the symbols need the second byte
module _ (a : ℕ) (blank : is_blank a ≡ false) (hash : (a == 35) ≡ false)
    (letter : begins_name a ≡ false) (digit : is_ascii_digit a ≡ false) where
  says_two : (b : ℕ) (bs : List ℕ) (o : Option Lexeme) → long_symbol a b ≡ o
      → Says (a ∷ b ∷ bs) (two_or_one a o)
  says_two b bs None e = says_short a (b ∷ bs) blank hash letter digit
      (λ c xs same. let p : b ≡ c = cc in ap (long_symbol a) (sym p) ∙ e) (short_symbol a) refl
  says_two b bs (Some l) e =
      says_token a (b ∷ bs) blank hash 2 l (omega arith) (long_longest a letter digit b bs l e)

  says_symbol : (bs : List ℕ) → Says (a ∷ bs) (symbol_step a bs)
  unfolding symbol_step
  says_symbol [] =
      says_short a [] blank hash letter digit (λ b xs e. absurd cc) (short_symbol a) refl
  says_symbol (b ∷ bs) = says_two b bs (long_symbol a b) refl

module _ (a : ℕ) (bs : List ℕ) where
  abbrev name_token : ℕ → Step
  name_token n = token n (word_of (take n (a ∷ bs)) (keyword (take n (a ∷ bs))))

  abbrev number_token : ℕ → Step
  number_token n = token n (number (take n (a ∷ bs)))

  from_digit : is_blank a ≡ false → (a == 35) ≡ false → begins_name a ≡ false → (d : Bool)
      → is_ascii_digit a ≡ d
      → Says (a ∷ bs) (cond d (number_token (1 + prefix_len is_ascii_digit bs)) (symbol_step a bs))
  from_digit blank hash letter true e =
      rw one-add (says_token a bs blank hash _ _ (omega arith) (number_longest a bs letter e))
  from_digit blank hash letter false e = says_symbol a blank hash letter e bs

  from_letter : is_blank a ≡ false → (a == 35) ≡ false → (d : Bool) → begins_name a ≡ d
      → Says (a ∷ bs)
      (cond d (name_token (1 + prefix_len is_in_name bs))
      (cond (is_ascii_digit a) (number_token (1 + prefix_len is_ascii_digit bs))
      (symbol_step a bs)))
  from_letter blank hash true e =
      rw one-add (says_token a bs blank hash _ _ (omega arith) (name_longest a bs e))
  from_letter blank hash false e = from_digit blank hash e (is_ascii_digit a) refl

  abbrev from_first : Step
  from_first = cond (begins_name a) (name_token (1 + prefix_len is_in_name bs))
      (cond (is_ascii_digit a) (number_token (1 + prefix_len is_ascii_digit bs)) (symbol_step a bs))

  from_hash : is_blank a ≡ false → (d : Bool) → (a == 35) ≡ d
      → Says (a ∷ bs) (cond d (skip (1 + line_len bs)) from_first)
  from_hash blank true e = says_comment a bs (eqb-true a 35 e)
  from_hash blank false e = from_letter blank e (begins_name a) refl

  from_blank : (d : Bool) → is_blank a ≡ d
      → Says (a ∷ bs) (cond d (skip 1) (cond (a == 35) (skip (1 + line_len bs)) from_first))
  from_blank true e = says_blank a bs e
  from_blank false e = from_hash e (a == 35) refl

pub step_says : (text : List ℕ) → 0 < length text → Says text (step text)
unfolding step
step_says [] lt = absurd (omega arith)
step_says (a ∷ bs) lt = from_blank a bs (is_blank a) refl
