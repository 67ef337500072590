-- The names released to a node, separated by its receives.
use Rattle.std.specs.Prelude.{◌≡◌, ℕ, ⊤, ◌-◌, ◌≤◌, List, [], ◌∷◌, drop, length, take}
use Rattle.run_events.specs.declared.name.Name.{Name}

-- the names that each receive handed out, and those that wait
pub record Mailed : Type 0 where
  pub handed : List (List Name)
  pub waiting : List Name

-- the names from a place on, separated at ends
abbrev pub parts : ℕ → List ℕ → List Name → List (List Name)
parts from [] names = []
parts from (end ∷ ends) names = take (end - from) (drop from names) ∷ parts end ends names

-- where the last part ends
abbrev pub last_end : ℕ → List ℕ → ℕ
last_end from [] = from
last_end from (end ∷ ends) = last_end end ends

-- the ends rise from a place on
abbrev pub Rise : ℕ → List ℕ → Type 0
Rise from [] = ⊤
Rise from (end ∷ ends) = (from ≤ end) × Rise end ends

-- the ends rise up to the place where the names begin that wait
pub record AreParted (names : List Name) (ends : List ℕ) (taken : ℕ) : Type 0 where
  pub rise : Rise 0 ends
  pub last : last_end 0 ends ≡ taken
  pub within : taken ≤ length names

-- what the names, the ends and the place where those begin that wait say
abbrev pub mailed : List Name → List ℕ → ℕ → Mailed
mailed names ends taken = record { handed = parts 0 ends names; waiting = drop taken names }
