-- How values are spelled as words of 64 bits, and read from them.
use Rattle.std.specs.Prelude.{◌≡◌, ℕ, zero, suc, ◌+◌, ◌-◌, min, slice_index, slice_index_or, Option}
use Rattle.std.specs.Prelude.{Some, None, ◌<◌, ◌^◌, Bool, true, false, List, [], ◌∷◌, ◌++◌, map}
use Rattle.std.specs.Prelude.{take, drop, length, nat_eq, All}
use Rattle.std.specs.Borrow.{Bor}
use Rattle.std.specs.List.{AllByRecursion, flat_map}
use Rattle.round_lang.specs.declared.expr.Ty.{Ty}
use Rattle.round_lang.specs.declared.expr.Ty.TheVariants.{Num as TyNum, Bool as TyBool}
use Rattle.round_lang.specs.declared.expr.Ty.TheVariants.{Set as TySet, Row as TyRow}
use Rattle.round_lang.specs.declared.kind.Kind.{Kind}
use Rattle.round_lang.specs.declared.kind.Kind.TheVariants.{Num as NumKind, Flag as FlagKind}
use Rattle.round_lang.specs.declared.kind.Kind.TheVariants.{Set as SetKind, Row as RowKind}
use Rattle.round_lang.specs.declared.value.Value.{Value}
use Rattle.round_lang.specs.declared.value.Value.TheVariants.{Num, Flag, Set, Row}
use Rattle.round_lang.specs.Values.{of_set}

-- the kind of a type's values, if a row has k entries
abbrev pub kind_for : ℕ → Ty → Kind
kind_for k TyNum = NumKind
kind_for k TyBool = FlagKind
kind_for k TySet = SetKind
kind_for k TyRow = RowKind k

-- how many words a value of a kind takes
abbrev pub size : Kind → ℕ
size (RowKind n) = n
size kind = 1

-- the value of a kind that words begin with
abbrev pub read : Kind → List ℕ → Value
read NumKind words = Num (slice_index words 0)
read FlagKind words = Flag (nat_eq (slice_index words 0) 1)
read SetKind words = of_set (slice_index words 0)
read (RowKind n) words = Row (take n words)

-- the values of these kinds, one after the other
abbrev pub values_of : List Kind → List ℕ → List Value
values_of [] words = []
values_of (kind ∷ kinds) words = read kind words ∷ values_of kinds (drop (size kind) words)

-- what is read at the place that was found, the number 0 if none was
abbrev pub read_spot : Option (Kind × Bor (List ℕ)) → Value
read_spot None = Num 0
read_spot (Some spot) = read spot.0 spot.1.now

-- how many words lie before those of the value at a place
abbrev pub words_before : List Kind → ℕ → ℕ
words_before [] place = 0
words_before (kind ∷ kinds) zero = 0
words_before (kind ∷ kinds) (suc place) = size kind + words_before kinds place

-- where the words of the value at a place begin, or the greatest number of 64 bits where that's
-- further
abbrev pub start_of : List Kind → ℕ → ℕ
start_of kinds place = min (words_before kinds place) (2 ^ 64 - 1)

-- these are the starts of all places
pub record IsLaidOut (kinds : List Kind) (starts : List ℕ) : Type 0 where
  pub one_each : length starts ≡ length kinds
  pub begins : (place : ℕ) → place < length kinds → slice_index starts place ≡ start_of kinds place

-- the kind at a place, and where its value's words begin
pub record IsSpot (kinds : List Kind) (place : ℕ) (kind : Kind) (start : ℕ) : Type 0 where
  pub within : place < length kinds
  pub kind_is : kind ≡ slice_index_or kinds place kind
  pub begins : start ≡ start_of kinds place

-- the kind of a value
abbrev pub kind_of : Value → Kind
kind_of (Num n) = NumKind
kind_of (Flag b) = FlagKind
kind_of (Set s) = SetKind
kind_of (Row r) = RowKind (length r)

abbrev pub bit : Bool → ℕ
bit true = 1
bit false = 0

-- the words that a value is spelled with
abbrev pub words_of : Value → List ℕ
words_of (Num n) = n ∷ []
words_of (Flag b) = bit b ∷ []
words_of (Set s) = s.bits ∷ []
words_of (Row r) = r

-- the words of values, one after the other
abbrev pub all_words : List Value → List ℕ
all_words = flat_map words_of

-- words with others written over theirs from a place on
abbrev pub written : List ℕ → ℕ → List ℕ → List ℕ
written words first others = take first words ++ (others ++ drop (first + length others) words)

-- its numbers have 32 bits
abbrev pub IsSmall : Value → Type 0
IsSmall (Num n) = n < 2 ^ 32
IsSmall (Flag b) = Unit {0}
IsSmall (Set s) = Unit {0}
IsSmall (Row r) = All (λ e. e < 2 ^ 32) r

-- these are the kinds and the words of the values that are read from them
pub record IsSpelled (kinds : List Kind) (words : List ℕ) : Type 0 where
  pub kinds_are : kinds ≡ map kind_of (values_of kinds words)
  pub words_are : words ≡ all_words (values_of kinds words)
  pub small : AllByRecursion IsSmall (values_of kinds words)
