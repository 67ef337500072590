-- The next piece of a text, by its first byte. No reader has to believe this file: laws tie it to
-- the tokens.
use Rattle.std.specs.Prelude.{ℕ, ◌+◌, ◌==◌, if◌then◌else◌, List, [], ◌∷◌, take, Option, Some, None}
use Rattle.std.specs.Char.{is_ascii_digit}
use Rattle.std.specs.List.{prefix_len}
use Rattle.round_lang.specs.declared.lexing.Piece.{Piece}
use Rattle.round_lang.specs.declared.lexing.Piece.TheVariants as p
use Rattle.round_lang.specs.CodeTokens.{lexeme_of}
use Rattle.round_lang.specs.Lexemes.{Lexeme, number}
use Rattle.round_lang.specs.Keywords.{keyword, short_symbol, long_symbol}
use Rattle.round_lang.specs.Tokens.{is_blank, begins_name, is_in_name, word_of, line_len}

pub data Step : Type 0 where
  skip : ℕ → Step
  token : ℕ → Lexeme → Step
  bad : Step

abbrev pub step_of : Piece → Step
step_of (p.Blank n) = skip n
step_of (p.Word w n) = token n (lexeme_of w)
step_of p.Bad = bad

abbrev pub one_or_bad : Option Lexeme → Step
one_or_bad None = bad
one_or_bad (Some l) = token 1 l

abbrev pub two_or_one : ℕ → Option Lexeme → Step
two_or_one a None = one_or_bad (short_symbol a)
two_or_one a (Some l) = token 2 l

unfoldable pub symbol_step : ℕ → List ℕ → Step
symbol_step a [] = one_or_bad (short_symbol a)
symbol_step a (b ∷ bs) = two_or_one a (long_symbol a b)

unfoldable pub step : List ℕ → Step
step [] = bad
step (a ∷ bs) =
    if is_blank a then skip 1
    else (if a == 35 then skip (1 + line_len bs)
    else (if begins_name a then (let n = 1 + prefix_len is_in_name bs in
    token n (word_of (take n (a ∷ bs)) (keyword (take n (a ∷ bs)))))
    else (if is_ascii_digit a
    then (let n = 1 + prefix_len is_ascii_digit bs in token n (number (take n (a ∷ bs))))
    else symbol_step a bs)))
