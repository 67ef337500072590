-- What a question with a clear round says of a run.
use Rattle.std.proofs.Common.{◌≡◌, ℕ, zero, suc, ◌+◌, ◌<◌, ◌≤◌, Bool, true, false, cond, List, []}
use Rattle.std.proofs.Common.{◌∷◌, length, refl, ap, ◌∙◌, subst, inl, inr, ◌⊎◌, Option, Some}
use Rattle.std.proofs.Common.{arith}
use Rattle.std.specs.Prelude.{not, slice_index_or}
use Rattle.std.specs.List.{count_by, filter}
use Rattle.std.proofs.lemmas.Bool.{false≢true}
use Rattle.std.proofs.lemmas.List.Sums.{length-filter}
use Rattle.round_meaning.specs.declared.setup.Setup.{Setup}
use Rattle.round_meaning.proofs.Hearing.{count, count-is}
use Rattle.round_explorer.specs.declared.question.Failure.{Failure}
use Rattle.round_explorer.specs.declared.question.Failure.TheVariants.{Never, Omits, Crashes}
use Rattle.round_explorer.specs.declared.question.Question.{Question}
use Rattle.round_explorer.specs.Questions.{IsPattern, IsTable, IsUnclear, MayBeMissed}
use Rattle.round_explorer.specs.Questions.{failure_of, is_faulty}
use Rattle.round_proofs.specs.Progress.{HearsLiving}
use Rattle.round_proofs.specs.Terminating.{lives}
use Rattle.round_proofs.proofs.Counting.{count_rest}

shifted : (c : ℕ → Bool) (lo n : ℕ) → count c (suc lo) n ≡ count (λ j. c (suc j)) lo n
shifted c lo zero = refl
shifted c lo (suc n) =
    let e : suc lo + 1 ≡ suc (lo + 1) = omega arith in
    ap (λ m. cond (c (suc lo)) 1 0 + count c m n) e
    ∙ ap (λ m. cond (c (suc lo)) 1 0 + m) (shifted c (lo + 1) n)

-- how many members of a list pass, counted by their places
pub by_places : (p : Failure → Bool) (xs : List Failure)
    → length (filter p xs) ≡ count (λ j. p (slice_index_or xs j Never)) 0 (length xs)
by_places p [] = refl
by_places p (x ∷ xs) =
    go (p x) (by_places p xs) (shifted (λ j. p (slice_index_or (x ∷ xs) j Never)) 0 (length xs))
  where
    go : (b : Bool)
        → length (filter p xs) ≡ count (λ j. p (slice_index_or xs j Never)) 0 (length xs)
        → count (λ j. p (slice_index_or (x ∷ xs) j Never)) 1 (length xs)
        ≡ count (λ j. p (slice_index_or xs j Never)) 0 (length xs)
        → length (cond b (x ∷ filter p xs) (filter p xs))
        ≡ cond b 1 0 + count (λ j. p (slice_index_or (x ∷ xs) j Never)) 1 (length xs)
    go true e f = omega arith
    go false e f = omega arith

-- how many nodes fail
pub faulty_count : (question : Question) (s : Setup) (pattern : List Failure)
    → IsPattern question s pattern
    → count (λ j. is_faulty (failure_of pattern j)) 0 s.nodes ≡ count_by is_faulty pattern
faulty_count question s pattern is =
    let e = length-filter is_faulty pattern in
    let f = by_places is_faulty pattern in
    let g : count (λ j. is_faulty (slice_index_or pattern j Never)) 0 (length pattern)
    ≡ count (λ j. is_faulty (failure_of pattern j)) 0 s.nodes =
    ap (count (λ j. is_faulty (failure_of pattern j)) 0) is.each_node in
    omega arith

-- at most t nodes fail
pub few_fail : (question : Question) (s : Setup) (pattern : List Failure)
    → IsPattern question s pattern
    → count (λ j. is_faulty (failure_of pattern j)) 0 s.nodes ≤ s.faults
few_fail question s pattern is = omega (arith, faulty_count question s pattern is, is.few)

-- a node that lives doesn't fail
pub is_never : (f : Failure) → not (is_faulty f) ≡ true → f ≡ Never
is_never Never h = refl
is_never Omits h = absurd (false≢true h)
is_never (Crashes c) h = absurd (false≢true h)

pub never_fails : (f : Failure) → f ≡ Never → not (is_faulty f) ≡ true
never_fails f e = ap (λ g. not (is_faulty g)) e

-- such a round isn't before the clear one
pub not_unclear : (o : Option ℕ) (clear r : ℕ) → o ≡ Some clear → clear ≤ r → IsUnclear o r → ⊥
not_unclear o clear r e le h =
    let lt : r < clear = subst (λ c. IsUnclear c r) e h in
    omega arith

-- from the clear round on, nodes that don't fail are heard by all
pub living_heard : (question : Question) (s : Setup) (pattern : List Failure)
    (omits : ℕ → ℕ → ℕ → Bool) (clear : ℕ) → question.clear ≡ Some clear → 1 ≤ clear
    → IsTable question s.nodes pattern s.rounds omits → (i r j : ℕ) → i < s.nodes → j < s.nodes
    → clear ≤ r → r ≤ s.rounds → lives pattern j ≡ true → omits i r j ≡ false
living_heard question s pattern omits clear asks some table i r j hi hj le last live =
    go (omits i r j) refl
  where
    go : (b : Bool) → omits i r j ≡ b → b ≡ false
    go false e = refl
    go true e = by ((table i r hi (omega arith) last).only j hj e)
      where
        by : IsUnclear question.clear r ⊎ MayBeMissed (failure_of pattern j) r → true ≡ false
        by (inl u) = absurd (not_unclear question.clear clear r asks le u)
        by (inr m) = absurd (subst (λ f. MayBeMissed f r) (is_never (failure_of pattern j) live) m)

-- so they hear each other
pub hears_living : (question : Question) (s : Setup) (pattern : List Failure)
    (omits : ℕ → ℕ → ℕ → Bool) (clear : ℕ) → question.clear ≡ Some clear → 1 ≤ clear
    → IsPattern question s pattern → IsTable question s.nodes pattern s.rounds omits
    → HearsLiving s (lives pattern) omits clear s.rounds
hears_living question s pattern omits clear asks some is table = record {
  heard = λ i r j hi hj le last there live.
      living_heard question s pattern omits clear asks some table i r j hi hj le last live;
  many =
      let few = few_fail question s pattern is in
      let rest = count_rest (λ j. is_faulty (failure_of pattern j)) 0 s.nodes in
      let e = count-is (lives pattern) 0 s.nodes in
      omega arith;
}
