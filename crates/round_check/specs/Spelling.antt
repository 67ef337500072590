-- How a program is spelled as numbers, by which programs are told apart; contracts that a reader
-- must believe don't speak of it.
use Rattle.std.specs.Prelude.{ℕ, suc, List, [], ◌∷◌, nat_lt, ◌/◌, ◌%◌, if◌then◌else◌}
use Rattle.std.specs.List.{flat_map}
use Rattle.round_lang.specs.declared.block.Assignment.{Assignment}
use Rattle.round_lang.specs.declared.block.Field.{Field}
use Rattle.round_lang.specs.declared.expr.BinaryOperator.{BinaryOperator}
use Rattle.round_lang.specs.declared.expr.BinaryOperator.TheVariants.{Add, Sub, Div, Mod, Equal}
use Rattle.round_lang.specs.declared.expr.BinaryOperator.TheVariants.{Differs, Less, AtMost, More}
use Rattle.round_lang.specs.declared.expr.BinaryOperator.TheVariants.{AtLeast, And, Or, Union}
use Rattle.round_lang.specs.declared.expr.BinaryOperator.TheVariants.{Inter, Minus, Has, Entry}
use Rattle.round_lang.specs.declared.expr.Constant.{Constant}
use Rattle.round_lang.specs.declared.expr.Constant.TheVariants.{True, False, Empty, All, Zero, Me}
use Rattle.round_lang.specs.declared.expr.Constant.TheVariants.{Nodes, Faults, Round, Phase, Dest}
use Rattle.round_lang.specs.declared.expr.Constant.TheVariants.{From}
use Rattle.round_lang.specs.declared.expr.Ty.{Ty}
use Rattle.round_lang.specs.declared.expr.Ty.TheVariants.{Num, Bool, Set, Row}
use Rattle.round_lang.specs.declared.expr.UnaryOperator.{UnaryOperator}
use Rattle.round_lang.specs.declared.expr.UnaryOperator.TheVariants.{Not, Single, Size, Least}
use Rattle.round_lang.specs.declared.program.Variable.{Variable}
use Rattle.round_lang.specs.declared.program.VariableKind.{VariableKind}
use Rattle.round_lang.specs.declared.program.VariableKind.TheVariants.{Input, State}
use Rattle.round_lang.specs.Syntax.{BlockTree, ProgramTree}
use Rattle.round_lang.specs.Tree.{Tree}
use Rattle.round_lang.specs.TreeCode.{Word, WNumber, WFixed, WNamed, WUnary, WBinary, WIf, WSetOf}
use Rattle.round_lang.specs.TreeCode.{WRowOf, words}

-- the place of a type, a constant or an operator among all of its kind
abbrev pub ty_number : Ty → ℕ
ty_number Num = 0
ty_number Bool = 1
ty_number Set = 2
ty_number Row = 3

abbrev pub constant_number : Constant → ℕ
constant_number True = 0
constant_number False = 1
constant_number Empty = 2
constant_number All = 3
constant_number Zero = 4
constant_number Me = 5
constant_number Nodes = 6
constant_number Faults = 7
constant_number Round = 8
constant_number Phase = 9
constant_number Dest = 10
constant_number From = 11

abbrev pub unary_number : UnaryOperator → ℕ
unary_number Not = 0
unary_number Single = 1
unary_number Size = 2
unary_number Least = 3

abbrev pub binary_number : BinaryOperator → ℕ
binary_number Add = 0
binary_number Sub = 1
binary_number Div = 2
binary_number Mod = 3
binary_number Equal = 4
binary_number Differs = 5
binary_number Less = 6
binary_number AtMost = 7
binary_number More = 8
binary_number AtLeast = 9
binary_number And = 10
binary_number Or = 11
binary_number Union = 12
binary_number Inter = 13
binary_number Minus = 14
binary_number Has = 15
binary_number Entry = 16

-- a name, before what follows it: each byte and one more, and 0 at its end
abbrev pub name_then : List ℕ → List ℕ → List ℕ
name_then [] rest = 0 ∷ rest
name_then (c ∷ x) rest = suc c ∷ name_then x rest

-- a list: 1 before each entry, and 0 at its end
abbrev pub list_then : {A : Type 0} → (A → List ℕ → List ℕ) → List A → List ℕ → List ℕ
list_then f [] rest = 0 ∷ rest
list_then f (a ∷ l) rest = 1 ∷ f a (list_then f l rest)

-- a word of a tree's code
abbrev pub word_then : Word → List ℕ → List ℕ
word_then (WNumber n) rest = 0 ∷ n ∷ rest
word_then (WFixed c) rest = 1 ∷ constant_number c ∷ rest
word_then (WNamed x) rest = 2 ∷ name_then x rest
word_then (WUnary op) rest = 3 ∷ unary_number op ∷ rest
word_then (WBinary op) rest = 4 ∷ binary_number op ∷ rest
word_then WIf rest = 5 ∷ rest
word_then (WSetOf x) rest = 6 ∷ name_then x rest
word_then (WRowOf x) rest = 7 ∷ name_then x rest

-- words of a tree's code
abbrev pub words_spelled : List Word → List ℕ → List ℕ
words_spelled ws rest = list_then word_then ws rest

-- a tree
abbrev pub tree_then : Tree → List ℕ → List ℕ
tree_then t rest = words_spelled (words t) rest

abbrev pub field_then : Field → List ℕ → List ℕ
field_then f rest = name_then f.name (ty_number f.ty ∷ rest)

abbrev pub assignment_then : Assignment → List ℕ → List ℕ
assignment_then a rest = name_then a.target (tree_then a.formula rest)

abbrev pub kind_then : VariableKind → List ℕ → List ℕ
kind_then Input rest = 0 ∷ rest
kind_then (State ty start) rest = 1 ∷ ty_number ty ∷ tree_then start rest

abbrev pub variable_then : Variable → List ℕ → List ℕ
variable_then v rest = name_then v.name (kind_then v.kind rest)

abbrev pub block_then : BlockTree → List ℕ → List ℕ
block_then b rest = b.number
    ∷ list_then field_then b.fields (tree_then b.condition (list_then tree_then b.sent
    (list_then assignment_then b.on_message (list_then assignment_then b.end rest))))

abbrev pub program_then : ProgramTree → List ℕ → List ℕ
program_then p rest = p.values ∷ p.period ∷ list_then variable_then p.variables
    (list_then name_then p.decides (list_then block_then p.blocks rest))

-- a program as numbers
abbrev pub spelled : ProgramTree → List ℕ
spelled p = program_then p []

-- a number as bytes: itself if it is below 255, else 255 and its own bytes, the lowest first
abbrev pub number_bytes : ℕ → List ℕ
number_bytes n =
    if nat_lt n 255 then n ∷ []
    else 255 ∷ n % 256 ∷ n / 256 % 256 ∷ n / 256 / 256 % 256 ∷ n / 256 / 256 / 256 ∷ []

-- numbers as bytes
abbrev pub packed : List ℕ → List ℕ
packed = flat_map number_bytes
