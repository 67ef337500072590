-- States in few bytes.
--
-- LEB128 writes a number 7 bits a byte, the low bits first. The last byte of a number is below 128,
-- and each one before it has 128 added. So a number below 128 is one byte.
use Rattle.std.specs.Prelude.{◌≡◌, ℕ, ◌+◌, ◌-◌, ◌*◌, ◌%◌, ◌^◌, List, [], ◌∷◌, ◌++◌, nat_lt}
use Rattle.std.specs.Prelude.{if◌then◌else◌, Option, Some, None}
use Rattle.std.specs.Borrow.{Bor}
use Rattle.round_lang.specs.Words.{read}
use Rattle.round_lang.specs.declared.kind.Kind.{Kind}
use Rattle.round_lang.specs.declared.value.Value.{Value}
use Rattle.round_lang.specs.declared.value.Value.TheVariants.{Num}

-- the numbers of 64 bits that bytes spell, behind bytes of a number that is begun: these count
-- `value`, and 1 in the next byte counts `weight`. A number that isn't whole is left out
abbrev pub words_from : ℕ → ℕ → List ℕ → List ℕ
words_from weight value [] = []
words_from weight value (byte ∷ bytes) =
    if nat_lt byte 128
    then ((value + weight * byte) % 2 ^ 64) ∷ words_from 1 0 bytes
    else words_from ((weight * 128) % 2 ^ 64) ((value + weight * (byte - 128)) % 2 ^ 64) bytes

-- the numbers of 64 bits that bytes spell by LEB128
abbrev pub words_in : List ℕ → List ℕ
words_in bytes = words_from 1 0 bytes

-- no number is begun at the end of these bytes: what comes behind them is read by itself
abbrev pub IsWhole : List ℕ → Type 0
IsWhole bytes = (more : List ℕ) → words_in (bytes ++ more) ≡ words_in bytes ++ words_in more

-- the value of a kind that bytes begin with, the number 0 if there is none
abbrev pub read_next : Option (Kind × Bor (List ℕ)) → Value
read_next None = Num 0
read_next (Some next) = read next.0 (words_in next.1.now)
