-- The loop over the numbers of a line.
use Rattle.std.proofs.Common.{◌≡◌, ℕ, ◌<◌, ◌≤◌, Bool, true, false, cond, List, [], ◌∷◌, ◌++◌, map}
use Rattle.std.proofs.Common.{Option, Some, None, option_map, Result, Ok, Err, leb, refl, sym, ap}
use Rattle.std.proofs.Common.{◌∙◌, arith}
use Rattle.std.specs.Borrow.{Bor}
use Rattle.std.proofs.lemmas.Bool.{lt-leb}
use Rattle.std.specs.List.{list_all}
use Rattle.schedule_text.specs.declared.fault.LineFault.{LineFault}
use Rattle.schedule_text.specs.declared.fault.LineFault.TheVariants as line
use Rattle.schedule_text.specs.Numbers.{words_of, is_number, value_of}
use Rattle.schedule_text.specs.Fronts.{HasRest, fault_before, capped, front_value}
use Rattle.schedule_text.specs.Stages.{all_of, numbers_in}
use Rattle.schedule_text.specs.Outcome.{GivesItems}
use Rattle.schedule_text.proofs.Numbers.{onto, onto-onto, small_first}

pub gives_fault : (e : LineFault) (said : Result (List ℕ) LineFault) → said ≡ Err e
    → GivesItems (Err e) said
gives_fault line.Bad said h = h
gives_fault line.Large said h = h
gives_fault line.NoMemory said h = tt

large_one : (v : ℕ) (vs : List ℕ) → 4294967295 < v → all_of (Some (v ∷ vs)) ≡ Err line.Large
large_one v vs lt = let h : leb v 4294967295 ≡ false = lt-leb v 4294967295 lt in rw h refl

cond_large : (b : Bool) (v : ℕ) (vs : List ℕ) → 4294967295 < v
    → all_of (option_map (λ vs. v ∷ vs) (cond b (Some vs) None)) ≡ Err (cond b line.Large line.Bad)
cond_large true v vs lt = large_one v vs lt
cond_large false v vs lt = refl

large_first : (v : ℕ) (next : List ℕ) → 4294967295 < v
    → all_of (option_map (λ vs. v ∷ vs) (numbers_in next)) ≡ Err (fault_before (Some next))
unfolding numbers_in
large_first v next lt = cond_large (list_all is_number (words_of next)) v
    (map value_of (words_of next)) lt

module _ (seen rest text : List ℕ)
    (so_far : onto seen (all_of (numbers_in rest)) ≡ all_of (numbers_in text)) where
  pub broken : numbers_in rest ≡ None → all_of (numbers_in text) ≡ Err line.Bad
  broken e = sym so_far ∙ ap (λ ns. onto seen (all_of ns)) e

  module _ (f : ℕ) (f-is : f ≡ capped (front_value rest)) where
    pub last : numbers_in rest ≡ Some (front_value rest ∷ []) → f ≤ 4294967295
        → all_of (numbers_in text) ≡ Ok (seen ++ f ∷ [])
    last e le =
        let same : front_value rest ≡ f = omega (arith, f-is) in
        sym so_far ∙ ap (λ ns. onto seen (all_of ns)) e
        ∙ ap (onto seen) (small_first (front_value rest) (Some []) (omega (arith, f-is)))
        ∙ ap (λ (v : ℕ). onto seen (Ok (v ∷ []))) same

    pub next : (behind : List ℕ)
        → numbers_in rest ≡ option_map (λ vs. front_value rest ∷ vs) (numbers_in behind)
        → f ≤ 4294967295 → onto (seen ++ f ∷ []) (all_of (numbers_in behind))
        ≡ all_of (numbers_in text)
    next behind e le =
        let same : f ≡ front_value rest = omega (arith, f-is) in
        sym (onto-onto seen f (all_of (numbers_in behind)))
        ∙ ap (λ v. onto seen (onto (v ∷ []) (all_of (numbers_in behind)))) same
        ∙ sym (ap (onto seen) (small_first (front_value rest) (numbers_in behind)
        (omega (arith, f-is)))) ∙ sym (ap (λ ns. onto seen (all_of ns)) e) ∙ so_far

    pub large : (r : Option (Bor (List ℕ))) → HasRest r rest → 4294967295 < f
        → all_of (numbers_in text) ≡ Err (fault_before (option_map (λ t. t.now) r))
    large None h lt = sym so_far ∙ ap (λ ns. onto seen (all_of ns)) h
        ∙ ap (onto seen) (large_one (front_value rest) [] (omega (arith, f-is)))
    large (Some t) h lt = sym so_far ∙ ap (λ ns. onto seen (all_of ns)) h.0
        ∙ ap (onto seen) (large_first (front_value rest) t.now (omega (arith, f-is)))
