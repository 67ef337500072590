-- States of a run in rounds depend on what those rounds omit that they come from.
use Rattle.std.proofs.Common.{◌≡◌, ◌∙◌, ℕ, zero, suc, ◌<◌, Bool, true, false, cond, List, None, ap}
use Rattle.std.proofs.Common.{arith, refl}
use Rattle.round_explorer.specs.Questions.{Messages}
use Rattle.round_lang.specs.declared.value.Value.{Value}
use Rattle.round_meaning.proofs.RoundLaws.{filter_map_same}
use Rattle.round_meaning.specs.Rounds.{Algorithm, heard, inbox, received, rounds}

-- what is omitted by both isn't looked at
entry_same : (a : Algorithm) (x y : Bool) (f g : List Value) (r i j : ℕ) → x ≡ y
    → (y ≡ false → f ≡ g)
    → cond x None (received j (a.send r f j i)) ≡ cond y None (received j (a.send r g j i))
entry_same a true true f g r i j e h = refl
entry_same a false false f g r i j e h = ap (λ s. received j (a.send r s j i)) (h refl)
entry_same a true false f g r i j e h = absurd cc
entry_same a false true f g r i j e h = absurd cc

-- tests that agree on the rounds that nodes end give the same states after these, if each message
-- of such a round that isn't omitted is of a node that ended the round before
module _ (a : Algorithm) (o p : Messages) (Ends : ℕ → ℕ → Type 0)
    (earlier : (q i : ℕ) → i < a.nodes → Ends (suc q) i → Ends q i)
    (same : (q i j : ℕ) → i < a.nodes → j < a.nodes → Ends (suc q) i
    → o i (suc q) j ≡ p i (suc q) j)
    (heard_from : (q i j : ℕ) → i < a.nodes → j < a.nodes → Ends (suc q) i
    → p i (suc q) j ≡ false → Ends q j) where
  pub rounds_along : (r i : ℕ) → i < a.nodes → Ends r i → rounds a o r i ≡ rounds a p r i
  unfolding rounds inbox
  rounds_along zero i known ends = refl
  rounds_along (suc q) i known ends =
      ap (λ ms. a.end (suc q) i ms (rounds a o q i))
      (filter_map_same (heard a (o i (suc q)) (rounds a o q) (suc q) i)
      (heard a (p i (suc q)) (rounds a p q) (suc q) i) 0 a.nodes
      (λ j low high. entry_same a (o i (suc q) j) (p i (suc q) j) (rounds a o q j)
      (rounds a p q j) (suc q) i j (same q i j known (omega arith) ends)
      (λ heard. rounds_along q j (omega arith)
      (heard_from q i j known (omega arith) ends heard))))
      ∙ ap (a.end (suc q) i (inbox a (p i (suc q)) (rounds a p q) (suc q) i))
      (rounds_along q i known (earlier q i known ends))
