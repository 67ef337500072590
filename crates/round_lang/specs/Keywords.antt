-- The keywords and the symbols.
use Rattle.std.specs.Prelude.{ℕ, ◌&&◌, ◌==◌, if◌then◌else◌, List, [], ◌∷◌, Option, Some, None}
use Rattle.std.specs.Prelude.{option_map, codes}
use Rattle.std.specs.Str.{bytes_eq}
use Rattle.round_lang.specs.declared.expr.Ty.{Ty}
use Rattle.round_lang.specs.declared.expr.Ty.TheVariants as ty
use Rattle.round_lang.specs.declared.expr.Constant.{Constant}
use Rattle.round_lang.specs.declared.expr.Constant.TheVariants as constant
use Rattle.round_lang.specs.declared.expr.UnaryOperator.{UnaryOperator}
use Rattle.round_lang.specs.declared.expr.UnaryOperator.TheVariants as unary
use Rattle.round_lang.specs.declared.expr.BinaryOperator.{BinaryOperator}
use Rattle.round_lang.specs.declared.expr.BinaryOperator.TheVariants as binary
use Rattle.round_lang.specs.declared.token.Mark.{Mark}
use Rattle.round_lang.specs.declared.token.Mark.TheVariants as m
use Rattle.round_lang.specs.Lexemes.{Lexeme, mark, kind, fixed, call, infix_word}

-- the keywords that begin a part of a program
unfoldable pub frame_word : List ℕ → Option Mark
frame_word bs =
    if bytes_eq bs (codes "values") then Some m.Values
    else (if bytes_eq bs (codes "period") then Some m.Period
    else (if bytes_eq bs (codes "state") then Some m.State
    else (if bytes_eq bs (codes "input") then Some m.Input
    else (if bytes_eq bs (codes "decide") then Some m.Decide
    else (if bytes_eq bs (codes "at") then Some m.At
    else (if bytes_eq bs (codes "message") then Some m.Message
    else (if bytes_eq bs (codes "send") then Some m.Send
    else (if bytes_eq bs (codes "when") then Some m.When
    else (if bytes_eq bs (codes "on") then Some m.On
    else (if bytes_eq bs (codes "end") then Some m.End
    else None))))))))))

-- the keywords of expressions that are no operators between two operands
unfoldable pub choice_word : List ℕ → Option Mark
choice_word bs =
    if bytes_eq bs (codes "if") then Some m.If
    else (if bytes_eq bs (codes "then") then Some m.Then
    else (if bytes_eq bs (codes "else") then Some m.Else
    else (if bytes_eq bs (codes "not") then Some m.Not
    else (if bytes_eq bs (codes "has") then Some m.Has
    else None))))

-- the types
unfoldable pub type_word : List ℕ → Option Ty
type_word bs =
    if bytes_eq bs (codes "num") then Some ty.Num
    else (if bytes_eq bs (codes "bool") then Some ty.Bool
    else (if bytes_eq bs (codes "set") then Some ty.Set
    else (if bytes_eq bs (codes "row") then Some ty.Row
    else None)))

-- the operators that are words
unfoldable pub operator_word : List ℕ → Option BinaryOperator
operator_word bs =
    if bytes_eq bs (codes "or") then Some binary.Or
    else (if bytes_eq bs (codes "and") then Some binary.And
    else (if bytes_eq bs (codes "union") then Some binary.Union
    else (if bytes_eq bs (codes "minus") then Some binary.Minus
    else (if bytes_eq bs (codes "inter") then Some binary.Inter
    else (if bytes_eq bs (codes "div") then Some binary.Div
    else (if bytes_eq bs (codes "mod") then Some binary.Mod
    else None))))))

-- the constants
unfoldable pub constant_word : List ℕ → Option Constant
constant_word bs =
    if bytes_eq bs (codes "true") then Some constant.True
    else (if bytes_eq bs (codes "false") then Some constant.False
    else (if bytes_eq bs (codes "empty") then Some constant.Empty
    else (if bytes_eq bs (codes "all") then Some constant.All
    else (if bytes_eq bs (codes "zero") then Some constant.Zero
    else (if bytes_eq bs (codes "me") then Some constant.Me
    else (if bytes_eq bs (codes "n") then Some constant.Nodes
    else (if bytes_eq bs (codes "t") then Some constant.Faults
    else (if bytes_eq bs (codes "round") then Some constant.Round
    else (if bytes_eq bs (codes "phase") then Some constant.Phase
    else (if bytes_eq bs (codes "dest") then Some constant.Dest
    else (if bytes_eq bs (codes "from") then Some constant.From
    else None)))))))))))

-- the calls of one argument
unfoldable pub call_word : List ℕ → Option UnaryOperator
call_word bs =
    if bytes_eq bs (codes "single") then Some unary.Single
    else (if bytes_eq bs (codes "size") then Some unary.Size
    else (if bytes_eq bs (codes "least") then Some unary.Least
    else None))

-- this, or where it's nothing that
abbrev pub or_that : Option Lexeme → Option Lexeme → Option Lexeme
or_that None that = that
or_that (Some l) that = Some l

unfoldable pub keyword : List ℕ → Option Lexeme
keyword bs =
    or_that (option_map mark (frame_word bs))
    (or_that (option_map mark (choice_word bs))
    (or_that (option_map kind (type_word bs))
    (or_that (option_map infix_word (operator_word bs))
    (or_that (option_map fixed (constant_word bs))
    (option_map call (call_word bs))))))

-- the symbols of one byte: ( ) [ ] { } : ; , = < > + -
unfoldable pub short_symbol : ℕ → Option Lexeme
short_symbol a =
    if a == 40 then Some (mark m.Open)
    else (if a == 41 then Some (mark m.Close)
    else (if a == 91 then Some (mark m.OpenSquare)
    else (if a == 93 then Some (mark m.CloseSquare)
    else (if a == 123 then Some (mark m.OpenCurly)
    else (if a == 125 then Some (mark m.CloseCurly)
    else (if a == 58 then Some (mark m.Colon)
    else (if a == 59 then Some (mark m.Semicolon)
    else (if a == 44 then Some (mark m.Comma)
    else (if a == 61 then Some (infix_word binary.Equal)
    else (if a == 60 then Some (infix_word binary.Less)
    else (if a == 62 then Some (infix_word binary.More)
    else (if a == 43 then Some (infix_word binary.Add)
    else (if a == 45 then Some (infix_word binary.Sub)
    else None)))))))))))))

-- the symbols of two bytes: := <> <= >=
unfoldable pub long_symbol : ℕ → ℕ → Option Lexeme
long_symbol a b =
    if a == 58 && b == 61 then Some (mark m.Assign)
    else (if a == 60 && b == 62 then Some (infix_word binary.Differs)
    else (if a == 60 && b == 61 then Some (infix_word binary.AtMost)
    else (if a == 62 && b == 61 then Some (infix_word binary.AtLeast)
    else None)))

abbrev pub symbol : List ℕ → Option Lexeme
symbol [] = None
symbol (a ∷ []) = short_symbol a
symbol (a ∷ b ∷ []) = long_symbol a b
symbol (a ∷ b ∷ c ∷ bs) = None
