-- A choice between the values of two things is the value of the choice between them.
use Rattle.std.proofs.Common.{◌≡◌, ℕ, Bool, true, false, cond, List}
use Rattle.round_lang.specs.declared.value.Value.{Value}
use Rattle.round_lang.specs.declared.value.Value.TheVariants.{Num, Flag, Row}
use Rattle.round_lang.specs.Values.{of_set}

pub choose_num : (c : Bool) (x y : ℕ) (v w : Value) → v ≡ Num x → w ≡ Num y
    → cond c v w ≡ Num (cond c x y)
choose_num true x y v w e f = e
choose_num false x y v w e f = f

pub choose_flag : (c : Bool) (x y : Bool) (v w : Value) → v ≡ Flag x → w ≡ Flag y
    → cond c v w ≡ Flag (cond c x y)
choose_flag true x y v w e f = e
choose_flag false x y v w e f = f

pub choose_set : (c : Bool) (x y : ℕ) (v w : Value) → v ≡ of_set x → w ≡ of_set y
    → cond c v w ≡ of_set (cond c x y)
choose_set true x y v w e f = e
choose_set false x y v w e f = f

pub choose_row : (c : Bool) (x y : List ℕ) (v w : Value) → v ≡ Row x → w ≡ Row y
    → cond c v w ≡ Row (cond c x y)
choose_row true x y v w e f = e
choose_row false x y v w e f = f
