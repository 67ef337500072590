-- The tokens of the code, as what they are apart from where they stand.
use Rattle.std.specs.Prelude.{List, map}
use Rattle.round_lang.specs.declared.token.Word.{Word}
use Rattle.round_lang.specs.declared.token.Word.TheVariants as w
use Rattle.round_lang.specs.declared.token.Token.{Token}
use Rattle.round_lang.specs.Lexemes.{Lexeme, name, number, mark, kind, fixed, call, infix_word}

-- the lexeme that a word of the lexer's is
abbrev pub lexeme_of : Word → Lexeme
lexeme_of (w.Name n) = name n.text.now
lexeme_of (w.Number digits) = number digits.now
lexeme_of (w.Mark m) = mark m
lexeme_of (w.Kind ty) = kind ty
lexeme_of (w.Fixed c) = fixed c
lexeme_of (w.Call op) = call op
lexeme_of (w.Infix op) = infix_word op

-- the lexemes that the lexer's tokens are, without their places
abbrev pub lexemes : List Token → List Lexeme
lexemes ts = map (λ t. lexeme_of t.word) ts
