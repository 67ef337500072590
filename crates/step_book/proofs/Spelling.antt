-- What is done to a buffer leaves each of its frames honest.
use Rattle.std.proofs.Common.{◌≡◌, ℕ, List, Option, None, ◌⊎◌, inl, inr, ap, sym, subst, ◌∙◌}
use Rattle.std.specs.Prelude.{All, IfSome}
use Rattle.std.proofs.lemmas.Bool.{cases_eq}
use Rattle.round_meaning.specs.Rounds.{Algorithm}
use Rattle.step_machine.specs.Sealed.{Frame, IsHonest}
use Rattle.step_book.specs.Buffers.{AreHonest}
use Rattle.step_book.specs.Tables.{Puts, SameTables, read_at}

-- tables that read the same
pub spelt_same : (a : Algorithm) (old new : List (List (Option Frame))) (waits : List Frame)
    → SameTables None old new → AreHonest a old waits → AreHonest a new waits
spelt_same a old new waits same h = record {
  flies = λ c k. subst (λ o. IfSome o (IsHonest a)) (sym (same c k)) (h.flies c k);
  waits = h.waits;
}

-- one place that is written
pub spelt_put : (a : Algorithm) (old new : List (List (Option Frame))) (waits : List Frame)
    (copy place : ℕ)
    (o : Option Frame) → Puts None old new copy place o → IfSome o (IsHonest a)
    → AreHonest a old waits
    → AreHonest a new waits
spelt_put a old new waits copy place o puts here h = record {
  flies = λ c k. flies c k (cases_eq c copy) (cases_eq k place);
  waits = h.waits;
}
  where
    flies : (c k : ℕ) → (c ≡ copy) ⊎ (c ≡ copy → ⊥) → (k ≡ place) ⊎ (k ≡ place → ⊥)
        → IfSome (read_at None new c k) (IsHonest a)
    flies c k (inl x) (inl y) =
        subst (λ z. IfSome z (IsHonest a))
        (sym (ap (λ i. read_at None new i k) x ∙ ap (read_at None new copy) y ∙ puts.there))
        here
    flies c k (inl x) (inr y) = subst (λ z. IfSome z (IsHonest a))
        (sym (puts.others c k (λ both. y both.1))) (h.flies c k)
    flies c k (inr x) either = subst (λ z. IfSome z (IsHonest a))
        (sym (puts.others c k (λ both. x both.0))) (h.flies c k)

-- other frames that wait
pub spelt_waits : (a : Algorithm) (flying : List (List (Option Frame))) (old new : List Frame)
    → All (IsHonest a) new → AreHonest a flying old → AreHonest a flying new
spelt_waits a flying old new all h = record { flies = h.flies; waits = all }
