-- What the loop over a text keeps.
use Rattle.std.proofs.Common.{◌≡◌, ℕ, ◌+◌, ◌<◌, ◌≤◌, Some, None, List, [], ◌∷◌, ◌++◌, ◌-◌, length}
use Rattle.std.proofs.Common.{take, drop, refl, sym, ap, ◌∙◌, subst, arith, append_assoc}
use Rattle.std.proofs.lemmas.List.{append-nil, nil_from_length, length-take, take_rest, drop-drop}
use Rattle.std.proofs.lemmas.List.{drop_all, length-drop, map-append}
use Rattle.round_lang.specs.declared.token.Token.{Token}
use Rattle.round_lang.specs.CodeTokens.{lexeme_of, lexemes}
use Rattle.round_lang.specs.Lexemes.{Lexeme}
use Rattle.round_lang.specs.Tokens.{Tokens, lexeme}
use Rattle.round_lang.proofs.Longest.{empty_is_none}
use Rattle.round_lang.specs.Tokens as t
use Rattle.round_lang.specs.Scanning.{Step, step}
use Rattle.round_lang.proofs.Pieces.{Skips, Begins, Says, step_says}

-- the tokens begin with those found
pub record Leaves (found : List Lexeme) (rest : List ℕ) (ls : List Lexeme) : Type 0 where
  pub others : List Lexeme
  pub is : ls ≡ found ++ others
  pub tokens : Tokens rest others

-- These are the tokens of the front of the text.
pub record Scanned (text : List ℕ) (at : ℕ) (found : List Lexeme) : Type 0 where
  pub within : at ≤ length text
  pub on : (ls : List Lexeme) → Tokens (drop at text) ls → Tokens text (found ++ ls)
  pub back : (ls : List Lexeme) → Tokens text ls → Leaves found (drop at text) ls

pub scanned_none : (text : List ℕ) → Scanned text 0 []
scanned_none text =
    record {
      within = omega arith;
      on = λ ls r. r;
      back =
          λ ls r. record { others = ls; is = refl; tokens = r };
    }

module _ (text : List ℕ) (at : ℕ) (found : List Lexeme) (s : Scanned text at found) where
  pub scanned_skip : (n : ℕ) → Skips (drop at text) n → Scanned text (at + n) found
  scanned_skip n k = record {
    within = omega (arith, k.within, length-drop at text, s.within);
    on = λ ls r. s.on ls (k.on ls (subst (λ x. Tokens x ls) (sym (drop-drop n at text)) r));
    back = λ ls r. let b = s.back ls r in
        record {
          others = b.others;
          is = b.is;
          tokens =
              subst (λ x. Tokens x b.others) (drop-drop n at text) (k.back b.others b.tokens);
        };
  }

  pub scanned_token : (n : ℕ) (l : Lexeme) → Begins (drop at text) n l
      → Scanned text (at + n) (found ++ l ∷ [])
  scanned_token n l k = record {
    within = omega (arith, k.is.within, length-drop at text, s.within);
    on = λ ls r. rw append_assoc
        (s.on (l ∷ ls) (t.token n k.is (subst (λ x. Tokens x ls) (sym (drop-drop n at text)) r)));
    back = λ ls r. let b = s.back ls r in let c = k.back b.others b.tokens in
        record {
          others = c.others;
          is = b.is ∙ ap (λ x. found ++ x) c.is
              ∙ sym (append_assoc found (l ∷ []) c.others);
          tokens =
              subst (λ x. Tokens x c.others) (drop-drop n at text) c.rest;
        };
  }

  pub scanned_bad : ((ls : List Lexeme) → Tokens (drop at text) ls → ⊥) → (ls : List Lexeme)
      → Tokens text ls → ⊥
  scanned_bad none ls r = let b = s.back ls r in none b.others b.tokens

  pub scanned_all : length text ≤ at → Tokens text found
  scanned_all le =
      subst (Tokens text) (append-nil found)
      (s.on [] (subst (λ x. Tokens x []) (sym (drop_all at text le)) t.end))

-- the empty text has no tokens
pub empty_has : {text : List ℕ} {ls : List Lexeme} → Tokens text ls → length text ≡ 0 → ls ≡ []
empty_has t.end e = refl
empty_has (t.blank h r) e = absurd (omega arith)
empty_has (t.comment h r) e = absurd (omega arith)
empty_has (t.token {text = text} {l = l} n h r) e =
    let nothing : take n text ≡ [] =
    nil_from_length (take n text) (omega (arith, length-take n text)) in
    let clash : None ≡ Some l = sym empty_is_none ∙ ap lexeme (sym nothing) ∙ h.is in absurd cc

pub scanned_only : (text : List ℕ) (at : ℕ) (found : List Lexeme) → Scanned text at found
    → length text ≤ at → (ls : List Lexeme) → Tokens text ls → ls ≡ found
scanned_only text at found s le ls r =
    let b = s.back ls r in
    let nothing = empty_has b.tokens (omega (arith, length-drop at text)) in
    b.is ∙ ap (λ x. found ++ x) nothing ∙ append-nil found

-- the next step, as a slice of the text has it
pub next_says : (text : List ℕ) (at : ℕ) → at < length text → (x : Step)
    → x ≡ step (take (length text - at) (drop at text)) → Says (drop at text) x
next_says text at lt x e = let e' = rw take_rest at e in
    subst (Says (drop at text)) (sym e')
    (step_says (drop at text) (omega (arith, length-drop at text)))

pub lexemes-push : (ts : List Token) (x : Token) → lexemes (ts ++ x ∷ []) ≡ lexemes ts
    ++ lexeme_of x.word ∷ []
lexemes-push ts x = map-append (λ t. lexeme_of t.word) ts (x ∷ [])
