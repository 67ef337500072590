-- What the loop over texts has read, and what texts with commas give.
use Rattle.std.proofs.Common.{◌++◌, ℕ, List, [], ◌∷◌, length, map, refl, subst, sym, take}
use Rattle.std.proofs.Common.{zero, suc}
use Rattle.std.proofs.lemmas.Iterator.{YieldsList}
use Rattle.std.proofs.lemmas.Iterator.Consumers.{YieldsList-end, YieldsList-so_far}
use Rattle.std.specs.Borrow.{Bor}
use Rattle.std.specs.Prelude.{None, Option}
use Rattle.test_kit.specs.Reading.{GivesNumbers, GivesOther, WriteAll, Writes}

-- one more text, and the number that it writes
pub WriteAll-more : (texts : List (Bor (List ℕ))) (ns : List ℕ) (text : Bor (List ℕ)) (n : ℕ)
    → WriteAll (map (λ t. t.now) texts) ns → Writes text.now n
    → WriteAll (map (λ t. t.now) (texts ++ text ∷ [])) (ns ++ n ∷ [])
WriteAll-more [] [] text n all one = (one, tt)
WriteAll-more [] (m ∷ ns) text n all one = absurd all
WriteAll-more (t ∷ texts) [] text n all one = absurd all
WriteAll-more (t ∷ texts) (m ∷ ns) text n all one =
    (all.0, WriteAll-more texts ns text n all.1 one)

-- the first of texts that write numbers write some too
WriteAll-take : (k : ℕ) (texts : List (List ℕ)) (ns : List ℕ) → WriteAll texts ns
    → (ms : List ℕ) × WriteAll (take k texts) ms
WriteAll-take zero texts ns all = ([], tt)
WriteAll-take (suc k) [] ns all = ([], tt)
WriteAll-take (suc k) (t ∷ texts) [] all = absurd all
WriteAll-take (suc k) (t ∷ texts) (n ∷ ns) all =
    let rest = WriteAll-take k texts ns all.1 in (n ∷ rest.0, (all.0, rest.1))

-- and so does the last
WriteAll-last : (texts : List (Bor (List ℕ))) (text : Bor (List ℕ)) (ns : List ℕ)
    → WriteAll (map (λ t. t.now) (texts ++ text ∷ [])) ns → (n : ℕ) × Writes text.now n
WriteAll-last [] text [] all = absurd all
WriteAll-last [] text (n ∷ ns) all = (n, all.0)
WriteAll-last (t ∷ texts) text [] all = absurd all
WriteAll-last (t ∷ texts) text (n ∷ ns) all = WriteAll-last texts text ns all.1

module _ {S : Type 0} {steps : S → Option (Bor (List ℕ)) → S → Type 0} {s : S}
    {all : List (List ℕ)} (gives : YieldsList steps (λ t. t.now) s all) where
  pub WriteAll-given : (ns : List ℕ) → GivesNumbers steps s ns → WriteAll all ns
  WriteAll-given ns h =
      let end = YieldsList-end gives h.0 h.1.1.0 h.1.1.1 None h.1.0 refl h.1.1.2 in
      subst (λ (texts : List (List ℕ)). WriteAll texts ns) end.0 h.2

  pub not_given : GivesOther steps s → (ns : List ℕ) → ¬ (WriteAll all ns)
  not_given h ns written =
      let so_far = YieldsList-so_far gives (h.0 ++ h.1 ∷ []) h.2 h.3 in
      let first = WriteAll-take (length (h.0 ++ h.1 ∷ [])) all ns written in
      let last = WriteAll-last h.0 h.1 first.0
      (subst (λ (texts : List (List ℕ)). WriteAll texts first.0) (sym so_far) first.1) in
      h.4 last.0 last.1
