-- What a token is, apart from where it stands.
use Rattle.std.specs.Prelude.{ℕ, Bool, List}
use denote.Enum.Bare.{sameb}
use Rattle.round_lang.specs.contracts.token.Mark.{the_type}
use Rattle.round_lang.specs.declared.expr.Ty.{Ty}
use Rattle.round_lang.specs.declared.expr.Constant.{Constant}
use Rattle.round_lang.specs.declared.expr.UnaryOperator.{UnaryOperator}
use Rattle.round_lang.specs.declared.expr.BinaryOperator.{BinaryOperator}
use Rattle.round_lang.specs.declared.token.Mark.{Mark}

-- a name with its text, a number with its digits, a keyword or a symbol
pub data Lexeme : Type 0 where
  name : List ℕ → Lexeme
  number : List ℕ → Lexeme
  mark : Mark → Lexeme
  kind : Ty → Lexeme
  fixed : Constant → Lexeme
  call : UnaryOperator → Lexeme
  infix_word : BinaryOperator → Lexeme

-- `==` on marks
unfoldable pub same_mark : Mark → Mark → Bool
same_mark = sameb the_type
