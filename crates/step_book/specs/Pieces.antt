-- The frames that wait for a node, which lie in pieces.
use Rattle.std.specs.Prelude.{◌≡◌, ◌⊎◌, ℕ, ◌++◌, All, List, Vec, length, vec_capacity}
use Rattle.std.specs.List.{flat_map}
use Rattle.step_machine.specs.Sealed.{Frame}

-- the frames in the order of their releases, and for how many more there is room
pub record WaitingView : Type 0 where
  pub items : List Frame
  pub spare : ℕ

-- what lies in pieces, one behind the other, and behind them all
abbrev pub joined : {A B : Type 0} → List (Vec A B) → List A → List A
joined pieces last = flat_map (λ v. v.items) pieces ++ last

-- each piece has so many
abbrev pub AreFull : {A B : Type 0} → ℕ → List (Vec A B) → Type 0
AreFull n pieces = All (λ v. length v.items ≡ n) pieces

-- all pieces but the last are full, which has room for as many or none
pub record ArePieces {A B : Type 0} (full : List (Vec A B)) (last : Vec A B) : Type 0 where
  pub pieces : AreFull 16 full
  pub room : (vec_capacity last ≡ 0) ⊎ (vec_capacity last ≡ 16)

-- what is left behind the rest of a piece
abbrev pub left : {A B : Type 0} → List A → List (Vec A B) → List A → List A
left piece full last = piece ++ joined full last
