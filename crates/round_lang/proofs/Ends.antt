-- Where reading at a level has to end.
use Rattle.std.proofs.Common.{◌≡◌, List, [], ◌∷◌, Option, Some, None, refl, subst}
use Rattle.round_lang.specs.declared.expr.BinaryOperator.{BinaryOperator}
use Rattle.round_lang.specs.declared.expr.BinaryOperator.TheVariants as binary
use Rattle.round_lang.specs.declared.token.Mark.TheVariants as m
use Rattle.round_lang.specs.declared.parsing.level.Level.{Level}
use Rattle.round_lang.specs.declared.parsing.level.Level.TheVariants.{Whole, Disjunction}
use Rattle.round_lang.specs.declared.parsing.level.Level.TheVariants.{Conjunction, Negation}
use Rattle.round_lang.specs.declared.parsing.level.Level.TheVariants.{Comparison, Sum, Product}
use Rattle.round_lang.specs.declared.parsing.level.Level.TheVariants.{Postfix, Atom}
use Rattle.round_lang.specs.Lexemes.{Lexeme, mark, infix_word, same_mark}
use Rattle.round_lang.specs.Grammar.{tighter, level_of}
use Rattle.round_lang.specs.Reading.{after, same_level, operator_at}

-- The rest doesn't go on with an operator of the level or of a tighter one, nor with an index.
abbrev EndsPostfix : List Lexeme → Type 0
EndsPostfix rest = after m.OpenSquare rest ≡ None

abbrev EndsProduct : List Lexeme → Type 0
EndsProduct rest = (operator_at Product rest ≡ None) × EndsPostfix rest

abbrev EndsSum : List Lexeme → Type 0
EndsSum rest = (operator_at Sum rest ≡ None) × EndsProduct rest

abbrev EndsComparison : List Lexeme → Type 0
EndsComparison rest = (operator_at Comparison rest ≡ None) × EndsSum rest

abbrev EndsConjunction : List Lexeme → Type 0
EndsConjunction rest = (operator_at Conjunction rest ≡ None) × EndsComparison rest

abbrev EndsDisjunction : List Lexeme → Type 0
EndsDisjunction rest = (operator_at Disjunction rest ≡ None) × EndsConjunction rest

abbrev pub Ends : Level → List Lexeme → Type 0
Ends Atom rest = Unit {0}
Ends Postfix rest = EndsPostfix rest
Ends Product rest = EndsProduct rest
Ends Sum rest = EndsSum rest
Ends Comparison rest = EndsComparison rest
Ends Negation rest = EndsComparison rest
Ends Conjunction rest = EndsConjunction rest
Ends Disjunction rest = EndsDisjunction rest
Ends Whole rest = EndsDisjunction rest

-- what has to end before a mark that closes, and what at the end of the text
pub ends_at_close : (rest : List Lexeme) → Ends Whole (mark m.Close ∷ rest)
unfolding after operator_at same_mark
ends_at_close rest = (refl, (refl, (refl, (refl, (refl, refl)))))

pub ends_at_then : (rest : List Lexeme) → Ends Whole (mark m.Then ∷ rest)
unfolding after operator_at same_mark
ends_at_then rest = (refl, (refl, (refl, (refl, (refl, refl)))))

pub ends_at_else : (rest : List Lexeme) → Ends Whole (mark m.Else ∷ rest)
unfolding after operator_at same_mark
ends_at_else rest = (refl, (refl, (refl, (refl, (refl, refl)))))

pub ends_at_comma : (rest : List Lexeme) → Ends Whole (mark m.Comma ∷ rest)
unfolding after operator_at same_mark
ends_at_comma rest = (refl, (refl, (refl, (refl, (refl, refl)))))

pub ends_at_square : (rest : List Lexeme) → Ends Whole (mark m.CloseSquare ∷ rest)
unfolding after operator_at same_mark
ends_at_square rest = (refl, (refl, (refl, (refl, (refl, refl)))))

pub ends_at_curly : (rest : List Lexeme) → Ends Whole (mark m.CloseCurly ∷ rest)
unfolding after operator_at same_mark
ends_at_curly rest = (refl, (refl, (refl, (refl, (refl, refl)))))

pub ends_at_semicolon : (rest : List Lexeme) → Ends Whole (mark m.Semicolon ∷ rest)
unfolding after operator_at same_mark
ends_at_semicolon rest = (refl, (refl, (refl, (refl, (refl, refl)))))

pub ends_at_colon : (rest : List Lexeme) → Ends Whole (mark m.Colon ∷ rest)
unfolding after operator_at same_mark
ends_at_colon rest = (refl, (refl, (refl, (refl, (refl, refl)))))

pub ends_at_state : (rest : List Lexeme) → Ends Whole (mark m.State ∷ rest)
unfolding after operator_at same_mark
ends_at_state rest = (refl, (refl, (refl, (refl, (refl, refl)))))

pub ends_at_input : (rest : List Lexeme) → Ends Whole (mark m.Input ∷ rest)
unfolding after operator_at same_mark
ends_at_input rest = (refl, (refl, (refl, (refl, (refl, refl)))))

pub ends_at_decide : (rest : List Lexeme) → Ends Whole (mark m.Decide ∷ rest)
unfolding after operator_at same_mark
ends_at_decide rest = (refl, (refl, (refl, (refl, (refl, refl)))))

pub ends_at_at : (rest : List Lexeme) → Ends Whole (mark m.At ∷ rest)
unfolding after operator_at same_mark
ends_at_at rest = (refl, (refl, (refl, (refl, (refl, refl)))))

pub ends_at_end : Ends Whole []
unfolding after operator_at
ends_at_end = (refl, (refl, (refl, (refl, (refl, refl)))))

abbrev EndsAt : BinaryOperator → List Lexeme → Option Level → Type 0
EndsAt op rest None = Unit {0}
EndsAt op rest (Some level) = Ends (tighter level) (infix_word op ∷ rest)

each_operator : (op : BinaryOperator) (rest : List Lexeme) → EndsAt op rest (level_of op)
unfolding after operator_at same_level
each_operator binary.Or rest = (refl, (refl, (refl, (refl, refl))))
each_operator binary.And rest = (refl, (refl, (refl, refl)))
each_operator binary.Equal rest = (refl, (refl, refl))
each_operator binary.Differs rest = (refl, (refl, refl))
each_operator binary.Less rest = (refl, (refl, refl))
each_operator binary.AtMost rest = (refl, (refl, refl))
each_operator binary.More rest = (refl, (refl, refl))
each_operator binary.AtLeast rest = (refl, (refl, refl))
each_operator binary.Add rest = (refl, refl)
each_operator binary.Sub rest = (refl, refl)
each_operator binary.Union rest = (refl, refl)
each_operator binary.Minus rest = (refl, refl)
each_operator binary.Div rest = refl
each_operator binary.Mod rest = refl
each_operator binary.Inter rest = refl
each_operator binary.Has rest = tt
each_operator binary.Entry rest = tt

pub ends_at_operator : (level : Level) (op : BinaryOperator) (rest : List Lexeme)
    → level_of op ≡ Some level → Ends (tighter level) (infix_word op ∷ rest)
ends_at_operator level op rest e = subst (EndsAt op rest) e (each_operator op rest)
