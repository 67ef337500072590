-- How what a function returned stands to what reading gives.
use Rattle.std.specs.Prelude.{◌≡◌, ℕ, List, Option, Result, Ok, Err, Some, None, Vec}
use Rattle.std.specs.Borrow.{Bor}
use Rattle.round_lang.specs.declared.block.Field.{Field}
use Rattle.round_lang.specs.declared.program.Variable.{Variable}
use Rattle.round_lang.specs.declared.expr.BinaryOperator.{BinaryOperator}
use Rattle.round_lang.specs.declared.expr.Expr.{Expr}
use Rattle.round_lang.specs.declared.name.Name.{Name}
use Rattle.round_lang.specs.declared.token.Token.{Token}
use Rattle.round_lang.specs.declared.parsing.fault.Fault.{Fault}
use Rattle.round_lang.specs.declared.parsing.fault.Fault.TheVariants as fault
use Rattle.round_lang.specs.declared.fault.LangFault.{LangFault}
use Rattle.round_lang.specs.declared.fault.LangFault.TheVariants as lang
use Rattle.round_lang.specs.declared.parsing.part.Declared.{Declared}
use Rattle.round_lang.specs.declared.parsing.level.Level.{Level}
use Rattle.round_lang.specs.declared.parsing.level.Level.TheVariants.{Disjunction, Conjunction, Sum}
use Rattle.round_lang.specs.declared.parsing.level.Level.TheVariants.{Product}
use Rattle.round_lang.specs.CodeTokens.{lexemes}
use Rattle.round_lang.specs.Lexemes.{Lexeme}
use Rattle.round_lang.specs.Tree.{Tree, tree_of}
use Rattle.round_lang.specs.Reading.{Found}

-- only memory excuses a function that refuses what can be read
abbrev pub Fails : {Y : Type 0} → Fault → Option Y → Type 0
Fails fault.NoMemory read = Unit {0}
Fails _ read = read ≡ None

-- an Ok is what the reading gives; an Err is a fault for which there is no reading, or NoMemory
abbrev pub Gives : {X Y : Type 0} → (X → Y) → Result X Fault → Option Y → Type 0
Gives view (Ok x) read = read ≡ Some (view x)
Gives view (Err e) read = Fails e read

-- what a fault of the tokens is as one of the text
abbrev pub fault_of_text : Fault → LangFault
fault_of_text fault.NoMemory = lang.NoMemory
fault_of_text (fault.Unexpected span) = lang.Unexpected span
fault_of_text fault.TooDeep = lang.TooDeep
fault_of_text (fault.LimitPassed span) = lang.LimitPassed span

-- an expression that was read, how deep its text nests, and the words behind it
abbrev pub expr_found : Expr × ℕ × Bor (List Token) → Found
expr_found x = (tree_of x.0, x.1, lexemes x.2.now)

-- the words that are left
abbrev pub rest_of : Bor (List Token) → List Lexeme
rest_of r = lexemes r.now

-- what was read, and the words behind it
abbrev pub left_of : {X : Type 0} → X × Bor (List Token) → X × List Lexeme
left_of x = (x.0, lexemes x.1.now)

-- a name that was read, and the words behind it
abbrev pub name_found : Name × Bor (List Token) → List ℕ × List Lexeme
name_found x = (x.0.text.now, lexemes x.1.now)

-- an operator that was read, and the words behind it
abbrev pub operator_found : BinaryOperator × Bor (List Token) → BinaryOperator × List Lexeme
operator_found x = (x.0, lexemes x.1.now)

-- a list that was read, and the words behind it
abbrev pub list_found : {X A : Type 0} → Vec X A × Bor (List Token) → List X × List Lexeme
list_found x = (x.0.items, lexemes x.1.now)

abbrev pub head_found : {A : Type 0} → ℕ × Vec Field A × Bor (List Token)
    → ℕ × List Field × List Lexeme
head_found x = (x.0, x.1.items, lexemes x.2.now)

abbrev pub sending_found : {A : Type 0} → Tree × Vec Tree A × Bor (List Token)
    → Tree × List Tree × List Lexeme
sending_found x = (x.0, x.1.items, lexemes x.2.now)

-- the variables and the decided names that were read, and the words behind them
abbrev pub declared_found : Declared × Bor (List Token)
    → List Variable × List (List ℕ) × List Lexeme
declared_found x = (x.0.variables.items, x.0.decides.items, lexemes x.1.now)

-- the levels whose operators group from the left
abbrev pub IsChainLevel : Level → Type 0
IsChainLevel Disjunction = Unit {0}
IsChainLevel Conjunction = Unit {0}
IsChainLevel Sum = Unit {0}
IsChainLevel Product = Unit {0}
IsChainLevel _ = ⊥
