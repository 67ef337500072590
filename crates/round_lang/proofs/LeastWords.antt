-- What is read has as many words as its tree is spelt with at least.
use Rattle.std.proofs.Common.{◌≡◌, ℕ, zero, suc, ◌+◌, ◌<◌, ◌≤◌, List, [], ◌∷◌, length, take, drop}
use Rattle.std.proofs.Common.{Option, Some, None, sym, ◌∙◌, arith, length-drop}
use Rattle.std.proofs.lemmas.List.{length-map}
use Rattle.round_lang.specs.declared.parsing.level.Level.{Level}
use Rattle.round_lang.specs.declared.token.Token.{Token}
use Rattle.round_lang.specs.CodeTokens.{lexeme_of, lexemes}
use Rattle.round_lang.specs.Grammar.{Reads}
use Rattle.round_lang.specs.Grammar as g
use Rattle.round_lang.specs.Lexemes.{Lexeme}
use Rattle.round_lang.specs.Reading.{parse}
use Rattle.round_lang.specs.Tokens.{Tokens, IsLongest, lexeme, line_len}
use Rattle.round_lang.specs.Tokens as t
use Rattle.round_lang.specs.Tree.{Tree, least_words}
use Rattle.round_lang.proofs.Longest.{empty_is_none}
use Rattle.round_lang.proofs.Sound.{parse_good}

reads_words : {level : Level} {n : ℕ} {t : Tree} {ws rest : List Lexeme}
    → Reads level n t ws rest → least_words t + length rest ≤ length ws
reads_words (g.looser r) = reads_words r
reads_words (g.choice r s t) = omega (arith, reads_words r, reads_words s, reads_words t)
reads_words (g.operation e r s) = omega (arith, reads_words r, reads_words s)
reads_words (g.negated r) = omega (arith, reads_words r)
reads_words (g.indexed r s) = omega (arith, reads_words r, reads_words s)
reads_words (g.numeral e le) = omega arith
reads_words g.constant = omega arith
reads_words (g.variable le) = omega arith
reads_words (g.called r) = omega (arith, reads_words r)
reads_words (g.membership r s) = omega (arith, reads_words r, reads_words s)
reads_words (g.brackets r) = omega (arith, reads_words r)
reads_words (g.set_of le r) = omega (arith, reads_words r)
reads_words (g.row_of le r) = omega (arith, reads_words r)

lexemes_many : (ts : List Token) → length (lexemes ts) ≡ length ts
lexemes_many ts = length-map ts (λ (t : Token). lexeme_of t.word)

parse_words : (room : ℕ) (level : Level) (ws : List Lexeme) (t : Tree) (depth : ℕ)
    (rest : List Lexeme) → parse room level ws ≡ Some (t, depth, rest)
    → least_words t + length rest ≤ length ws
parse_words room level ws t depth rest e =
    reads_words (parse_good room level ws (t, depth, rest) e).reads

-- what is read of tokens has no more words than there are, and leaves no more
pub words_read : (room : ℕ) (level : Level) (ts : List Token) (t : Tree) (depth : ℕ)
    (rest : List Token) → parse room level (lexemes ts) ≡ Some (t, depth, lexemes rest)
    → least_words t + length rest ≤ length ts
words_read room level ts t depth rest e =
    omega (
      arith,
      parse_words room level (lexemes ts) t depth (lexemes rest) e,
      lexemes_many ts,
      lexemes_many rest,
    )

-- a token has a byte
some_byte : (text : List ℕ) (n : ℕ) (l : Lexeme) → lexeme (take n text) ≡ Some l → 0 < n
some_byte text zero l e = let clash : None ≡ Some l = sym empty_is_none ∙ e in absurd cc
some_byte text (suc n) l e = omega arith

-- so a text has no more tokens than bytes
tokens_few : {text : List ℕ} {ls : List Lexeme} → Tokens text ls → length ls ≤ length text
tokens_few t.end = omega arith
tokens_few (t.blank h r) = omega (arith, tokens_few r)
tokens_few (t.comment {text = text} e r) =
    omega (arith, tokens_few r, length-drop (line_len text) text)
tokens_few (t.token {text = text} {l = l} n h r) =
    omega (arith, tokens_few r, length-drop n text, some_byte text n l h.is, h.within)

pub bytes_many : (ts : List Token) (text : List ℕ) → Tokens text (lexemes ts)
    → length ts ≤ length text
bytes_many ts text r = omega (arith, tokens_few r, lexemes_many ts)
