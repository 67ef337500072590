-- What the operators do.
use Rattle.std.specs.Prelude.{ℕ, ◌+◌, ◌-◌, ◌/◌, ◌%◌, Bool, false, ◌&&◌, ◌||◌, not, min, List, []}
use Rattle.std.specs.Prelude.{nat_lt, nat_le, if◌then◌else◌, ◌==◌, slice_index, slice_index_or}
use Rattle.std.specs.Str.{bytes_eq}
use Rattle.std.specs.Bool.{beq}
use Rattle.round_lang.specs.declared.expr.UnaryOperator.{UnaryOperator}
use Rattle.round_lang.specs.declared.expr.UnaryOperator.TheVariants.{Not, Single, Size, Least}
use Rattle.round_lang.specs.declared.expr.BinaryOperator.{BinaryOperator}
use Rattle.round_lang.specs.declared.expr.BinaryOperator.TheVariants.{Add, Sub, Div, Mod, Equal}
use Rattle.round_lang.specs.declared.expr.BinaryOperator.TheVariants.{Differs, Less, AtMost, More}
use Rattle.round_lang.specs.declared.expr.BinaryOperator.TheVariants.{AtLeast, And, Or, Union}
use Rattle.round_lang.specs.declared.expr.BinaryOperator.TheVariants.{Inter, Minus, Has, Entry}
use Rattle.round_lang.specs.declared.value.Value.{Value}
use Rattle.round_lang.specs.declared.value.Value.TheVariants.{Num, Flag, Set, Row}
use Rattle.round_lang.specs.Sets.{is_in, union, inter, minus, only, size, least}

-- the parts of a value; a checked program asks only for the part that is there
abbrev pub num : Value → ℕ
num (Num n) = n
num v = 0

-- the truth value that a value is, false if it's of another type
abbrev pub flag : Value → Bool
flag (Flag b) = b
flag v = false

-- the set that a value is, empty if it's of another type
abbrev pub set : Value → ℕ
set (Set s) = s.bits
set v = 0

-- the entries of the row that a value is, none if it's of another type
abbrev pub row : Value → List ℕ
row (Row r) = r
row v = []

abbrev pub of_set : ℕ → Value
of_set s = Set (record { bits = s })

-- equal values, rows by all entries
abbrev pub same : Value → Value → Bool
same (Num a) (Num b) = a == b
same (Flag a) (Flag b) = beq a b
same (Set a) (Set b) = a.bits == b.bits
same (Row a) (Row b) = bytes_eq a b
same a b = false

abbrev pub div_or_0 : ℕ → ℕ → ℕ
div_or_0 a b = if b == 0 then 0 else a / b

abbrev pub mod_or_0 : ℕ → ℕ → ℕ
mod_or_0 a b = if b == 0 then 0 else a % b

-- what an operator gives of one value, if there are k values
abbrev pub unary : ℕ → UnaryOperator → Value → Value
unary k Not a = Flag (not (flag a))
unary k Single a = of_set (only k (num a))
unary k Size a = Num (size (set a))
unary k Least a = Num (least k (set a))

-- what an operator gives of two values, if there are k values
abbrev pub binary : ℕ → BinaryOperator → Value → Value → Value
binary k Add a b = Num (min (num a + num b) 4294967295)
binary k Sub a b = Num (num a - num b)
binary k Div a b = Num (div_or_0 (num a) (num b))
binary k Mod a b = Num (mod_or_0 (num a) (num b))
binary k Equal a b = Flag (same a b)
binary k Differs a b = Flag (not (same a b))
binary k Less a b = Flag (nat_lt (num a) (num b))
binary k AtMost a b = Flag (nat_le (num a) (num b))
binary k More a b = Flag (nat_lt (num b) (num a))
binary k AtLeast a b = Flag (nat_le (num b) (num a))
binary k And a b = Flag (flag a && flag b)
binary k Or a b = Flag (flag a || flag b)
binary k Union a b = of_set (union (set a) (set b))
binary k Inter a b = of_set (inter (set a) (set b))
binary k Minus a b = of_set (minus (set a) (set b))
binary k Has a b = Flag (nat_lt (num b) k && is_in (set a) (num b))
binary k Entry a b = Num (slice_index (row a) (num b))

-- the value at a place, the number 0 if there is none
abbrev pub at : List Value → ℕ → Value
at vs i = slice_index_or vs i (Num 0)
