-- The least round in which lines have a node crash.
use Rattle.std.proofs.Common.{◌≡◌, ℕ, ◌+◌, ◌<◌, ◌≤◌, Bool, true, false, cond, eqb, List, [], ◌∷◌}
use Rattle.std.proofs.Common.{◌++◌, length, take, get_or, map, min, Some, None, sym, ap, ◌∙◌, arith}
use Rattle.std.specs.List.{cons_option, filter_map, fold, range_with_len}
use Rattle.std.proofs.lemmas.List.FromFn.{map-range_with_len_more}
use Rattle.std.proofs.lemmas.List.{take_more}
use Rattle.std.proofs.lemmas.List.Elements.{filter_map-append}
use Rattle.std.proofs.lemmas.List.Sums.{fold-append}
use Rattle.round_meaning.specs.declared.setup.Setup.{Setup}
use Rattle.omission_texts.specs.declared.line.OmissionLine.{OmissionLine}
use Rattle.omission_texts.specs.declared.line.OmissionLine.TheVariants.{Omit, Cut, Crash}
use Rattle.omission_texts.specs.Meaning.{IsKnown}
use Rattle.omission_texts.specs.Stops.{crash_in, crash_round}

-- the first lines have the node crash in this round at the earliest
pub record Least (s : Setup) (ls : List OmissionLine) (node k first : ℕ) : Type 0 where
  pub least : first ≡ crash_round s (take k ls) node
  pub some : 1 ≤ first

-- a line that is known has no node crash before the first round
known_crash : (s : Setup) (l : OmissionLine) (node r : ℕ) → IsKnown s l → Some r ≡ crash_in node l
    → 1 ≤ r
known_crash s (Omit i rs j) node r known e = absurd cc
known_crash s (Cut list rs) node r known e = absurd cc
known_crash s (Crash j q reached) node r known e = go (eqb j node) e
  where
    go : (b : Bool) → Some r ≡ cond b (Some q) None → 1 ≤ r
    go true e = let same : r ≡ q = cc in omega (arith, same, known.1.0)
    go false e = absurd cc

module _ (s : Setup) (ls : List OmissionLine) (node k first : ℕ) (l : OmissionLine)
    (is : l ≡ get_or ls k l) (lt : k < length ls) (x : Least s ls node k first) where
  one_more : (found : List ℕ) → filter_map (crash_in node) (l ∷ []) ≡ found
      → crash_round s (take (k + 1) ls) node ≡ fold min (crash_round s (take k ls) node) found
  one_more found e =
      let seen = filter_map (crash_in node) (take k ls) in
      ap (λ ls. crash_round s ls node) (take_more ls k l lt
      ∙ ap (λ y. take k ls ++ y ∷ []) (sym is))
      ∙ ap (fold min (s.rounds + 1)) (filter_map-append (crash_in node) (take k ls) (l ∷ [])
      ∙ ap (λ ys. seen ++ ys) e)
      ∙ fold-append min (s.rounds + 1) seen found

  pub crash_here : (r : ℕ) → IsKnown s l → Some r ≡ crash_in node l
      → Least s ls node (k + 1) (min first r)
  crash_here r known e = record {
    least = ap (λ n. min n r) x.least ∙ sym (one_more (r ∷ [])
        (ap (λ o. cons_option o []) (sym e)));
    some = (let a = x.some in let b = known_crash s l node r known e in omega (arith, a, b));
  }

  pub no_crash : None ≡ crash_in node l → Least s ls node (k + 1) first
  no_crash e = record {
    least = x.least ∙ sym (one_more [] (ap (λ o. cons_option o []) (sym e)));
    some = x.some;
  }

-- the numbers of steps of one node more
pub one_stop_more : (f : ℕ → ℕ) (n x : ℕ) (old new : List ℕ) → old ≡ map f (range_with_len 0 n)
    → x ≡ f n → new ≡ old ++ x ∷ [] → new ≡ map f (range_with_len 0 (n + 1))
one_stop_more f n x old new e d a =
    a ∙ ap (λ xs. xs ++ x ∷ []) e ∙ ap (λ y. map f (range_with_len 0 n) ++ y ∷ []) d
    ∙ sym (map-range_with_len_more f 0 n n (omega arith))

pub all_stops : (f : ℕ → ℕ) (n m : ℕ) (stops : List ℕ) → n ≡ m
    → stops ≡ map f (range_with_len 0 n) → stops ≡ map f (range_with_len 0 m)
all_stops f n m stops e d = d ∙ ap (λ k. map f (range_with_len 0 k)) e
