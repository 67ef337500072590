-- Of more rounds than nodes may crash, one has no crash.
use Rattle.std.proofs.Common.{◌≡◌, ◌≢◌, ℕ, zero, suc, ◌+◌, ◌<◌, ◌≤◌, Bool, true, false, List}
use Rattle.std.proofs.Common.{refl, sym, ap, ◌∙◌, subst, inl, inr, ◌⊎◌, Some, arith}
use Rattle.std.specs.Prelude.{◌&&◌, not, nat_lt, nat_le, ◌==◌}
use Rattle.std.proofs.lemmas.Bool.{cases_lt, false≢true, and_parts, and_from, eqb-true}
use Rattle.std.proofs.lemmas.Bool.{eq-eqb}
use Rattle.std.proofs.lemmas.Bool.{le-leb, lt-ltb, ltb-true, false_from_ne_true}
use Rattle.std.proofs.lemmas.List.Elements.{All-get_or}
use Rattle.round_meaning.specs.declared.setup.Setup.{Setup}
use Rattle.round_meaning.proofs.Hearing.{count, count_more}
use Rattle.round_explorer.specs.declared.question.Failure.{Failure}
use Rattle.round_explorer.specs.declared.question.Failure.TheVariants.{Never, Omits, Crashes}
use Rattle.round_explorer.specs.declared.question.FaultKind.{FaultKind}
use Rattle.round_explorer.specs.declared.question.FaultKind.TheVariants.{Nobody, Omission, Crash}
use Rattle.round_explorer.specs.declared.question.Question.{Question}
use Rattle.round_explorer.specs.Questions.{HasStopped, IsOfKind, IsPattern, IsTable, IsUnclear}
use Rattle.round_explorer.specs.Questions.{MayBeMissed, failure_of, is_faulty}
use Rattle.round_explorer.specs.Searched.{is_counted}
use Rattle.round_proofs.proofs.ClearRounds.{few_fail, not_unclear}
use Rattle.round_proofs.proofs.Counting.{counted_in, one_if}

-- two sets without a common node, both within a third one, are no larger together
pub count_two : (c d e : ℕ → Bool) (lo n : ℕ) → ((j : ℕ) → c j ≡ true → e j ≡ true)
    → ((j : ℕ) → d j ≡ true → e j ≡ true) → ((j : ℕ) → c j ≡ true → d j ≡ true → ⊥)
    → count c lo n + count d lo n ≤ count e lo n
count_two c d e lo zero a b apart = omega arith
count_two c d e lo (suc n) a b apart =
    let rest = count_two c d e (lo + 1) n a b apart in
    let here = go (c lo) (d lo) (e lo) (a lo) (b lo) (apart lo) in
    omega arith
  where
    go : (x y z : Bool) → (x ≡ true → z ≡ true) → (y ≡ true → z ≡ true)
        → (x ≡ true → y ≡ true → ⊥) → one_if x + one_if y ≤ one_if z
    go true true z f g h = absurd (h refl refl)
    go true false true f g h = omega arith
    go true false false f g h = absurd (false≢true (f refl))
    go false true true f g h = omega arith
    go false true false f g h = absurd (false≢true (g refl))
    go false false z f g h = omega arith

-- the node crashes in round r
abbrev pub crashes_in : Failure → ℕ → Bool
crashes_in Never r = false
crashes_in Omits r = false
crashes_in (Crashes c) r = c == r

-- in one of m rounds from lo on
abbrev crashes_among : ℕ → ℕ → Failure → Bool
crashes_among lo m Never = false
crashes_among lo m Omits = false
crashes_among lo m (Crashes c) = nat_le lo c && nat_lt c (lo + m)

among_more : (lo m : ℕ) (f : Failure) → crashes_among lo m f ≡ true
    → crashes_among lo (suc m) f ≡ true
among_more lo m Never h = h
among_more lo m Omits h = h
among_more lo m (Crashes c) h =
    let p = and_parts (nat_le lo c) (nat_lt c (lo + m)) h in
    and_from _ _ p.0 (lt-ltb c (lo + suc m) (let l = ltb-true c (lo + m) p.1 in omega arith))

among_last : (lo m : ℕ) (f : Failure) → crashes_in f (lo + m) ≡ true
    → crashes_among lo (suc m) f ≡ true
among_last lo m Never h = h
among_last lo m Omits h = h
among_last lo m (Crashes c) h =
    let e = eqb-true c (lo + m) h in
    and_from _ _ (le-leb lo c (omega arith)) (lt-ltb c (lo + suc m) (omega arith))

among_apart : (lo m : ℕ) (f : Failure) → crashes_among lo m f ≡ true
    → crashes_in f (lo + m) ≡ true → ⊥
among_apart lo m Never h g = false≢true h
among_apart lo m Omits h g = false≢true h
among_apart lo m (Crashes c) h g =
    let e = eqb-true c (lo + m) g in
    let l = ltb-true c (lo + m) (and_parts (nat_le lo c) (nat_lt c (lo + m)) h).1 in
    omega arith

among_faulty : (lo m : ℕ) (f : Failure) → crashes_among lo m f ≡ true → is_faulty f ≡ true
among_faulty lo m Never h = h
among_faulty lo m Omits h = refl
among_faulty lo m (Crashes c) h = refl

-- a round in which none of n nodes crashes
abbrev pub IsCalm : List Failure → (n r : ℕ) → Type 0
IsCalm pattern n r = (j : ℕ) → j < n → crashes_in (failure_of pattern j) r ≡ false

-- in one of m rounds no node crashes, or at least m nodes crash in them
calm_or_many : (pattern : List Failure) (n lo m : ℕ)
    → ((r : ℕ) × (lo ≤ r) × (r < lo + m) × IsCalm pattern n r)
    ⊎ (m ≤ count (λ j. crashes_among lo m (failure_of pattern j)) 0 n)
calm_or_many pattern n lo zero = inr (omega arith)
calm_or_many pattern n lo (suc m) =
    go (calm_or_many pattern n lo m)
    (cases_lt 0 (count (λ j. crashes_in (failure_of pattern j) (lo + m)) 0 n))
  where
    go : ((r : ℕ) × (lo ≤ r) × (r < lo + m) × IsCalm pattern n r)
        ⊎ (m ≤ count (λ j. crashes_among lo m (failure_of pattern j)) 0 n)
        → (0 < count (λ j. crashes_in (failure_of pattern j) (lo + m)) 0 n)
        ⊎ (count (λ j. crashes_in (failure_of pattern j) (lo + m)) 0 n ≤ 0)
        → ((r : ℕ) × (lo ≤ r) × (r < lo + suc m) × IsCalm pattern n r)
        ⊎ (suc m ≤ count (λ j. crashes_among lo (suc m) (failure_of pattern j)) 0 n)
    go (inl it) some = inl (it.0, it.1, omega (arith, it.2), it.3)
    go (inr many) (inl some) =
        let sum = count_two (λ j. crashes_among lo m (failure_of pattern j))
        (λ j. crashes_in (failure_of pattern j) (lo + m))
        (λ j. crashes_among lo (suc m) (failure_of pattern j)) 0 n
        (λ j h. among_more lo m (failure_of pattern j) h)
        (λ j h. among_last lo m (failure_of pattern j) h)
        (λ j h g. among_apart lo m (failure_of pattern j) h g) in
        inr (omega arith)
    go (inr many) (inr none) = inl (
      lo + m,
      omega arith,
      omega arith,
      λ j hj. false_from_ne_true (crashes_in (failure_of pattern j) (lo + m)) (λ h.
          let some = counted_in (λ j. crashes_in (failure_of pattern j) (lo + m)) 0 n j
          (omega arith) (omega arith) h in
          omega arith),
    )

-- in one of t + 1 rounds in a row no node crashes
pub calm_round : (question : Question) (s : Setup) (pattern : List Failure) (lo : ℕ)
    → IsPattern question s pattern
    → (r : ℕ) × (lo ≤ r) × (r ≤ lo + s.faults) × IsCalm pattern s.nodes r
calm_round question s pattern lo is = go (calm_or_many pattern s.nodes lo (suc s.faults))
  where
    go : ((r : ℕ) × (lo ≤ r) × (r < lo + suc s.faults) × IsCalm pattern s.nodes r)
        ⊎ (suc s.faults ≤ count (λ j. crashes_among lo (suc s.faults) (failure_of pattern j)) 0
        s.nodes)
        → (r : ℕ) × (lo ≤ r) × (r ≤ lo + s.faults) × IsCalm pattern s.nodes r
    go (inl it) = (it.0, it.1, omega (arith, it.2), it.3)
    go (inr many) =
        let few = few_fail question s pattern is in
        let more = count_more (λ j. crashes_among lo (suc s.faults) (failure_of pattern j))
        (λ j. is_faulty (failure_of pattern j)) 0 s.nodes
        (λ j l h g. among_faulty lo (suc s.faults) (failure_of pattern j) g) in
        absurd (omega arith)

no_omits : (kind : FaultKind) (rounds : ℕ) → kind ≢ Omission → IsOfKind kind rounds Omits → ⊥
no_omits Nobody rounds ne h = h
no_omits Omission rounds ne h = ne refl
no_omits Crash rounds ne h = h

-- in a clear round in which no node crashes, each node misses just the nodes that crashed before
pub calm_misses : (question : Question) (s : Setup) (pattern : List Failure)
    (omits : ℕ → ℕ → ℕ → Bool) (clear r : ℕ) → question.clear ≡ Some clear
    → question.faults ≢ Omission → IsPattern question s pattern
    → IsTable question s.nodes pattern s.rounds omits → clear ≤ r → 1 ≤ r → r ≤ s.rounds
    → IsCalm pattern s.nodes r → (i j : ℕ) → i < s.nodes → j < s.nodes
    → omits i r j ≡ not (is_counted (failure_of pattern j) r)
calm_misses question s pattern omits clear r asks crash is table le some last calm i j hi hj =
    go (failure_of pattern j) refl (omits i r j) refl
  where
    kind : IsOfKind question.faults s.rounds (failure_of pattern j)
    kind = All-get_or (IsOfKind question.faults s.rounds) pattern j Never
        (omega (arith, is.each_node)) is.kinds

    only : omits i r j ≡ true → MayBeMissed (failure_of pattern j) r
    only e = by ((table i r hi some last).only j hj e)
      where
        by : IsUnclear question.clear r ⊎ MayBeMissed (failure_of pattern j) r
            → MayBeMissed (failure_of pattern j) r
        by (inl u) = absurd (not_unclear question.clear clear r asks le u)
        by (inr m) = m

    go : (f : Failure) → failure_of pattern j ≡ f → (b : Bool) → omits i r j ≡ b
        → b ≡ not (is_counted f r)
    go Never at false e = refl
    go Never at true e = absurd (subst (λ f. MayBeMissed f r) at (only e))
    go Omits at b e = absurd (no_omits question.faults s.rounds crash
        (subst (λ f. IsOfKind question.faults s.rounds f) at kind))
    go (Crashes c) at true e =
        let m : c ≤ r = subst (λ f. MayBeMissed f r) at (only e) in
        sym (ap not (false_from_ne_true (nat_lt r c) (λ h. let l = ltb-true r c h in omega arith)))
    go (Crashes c) at false e = sym (ap not (lt-ltb r c (before (cases_lt r c))))
      where
        ne : (c == r) ≡ false
        ne = sym (ap (λ f. crashes_in f r) at) ∙ calm j hj

        before : (r < c) ⊎ (c ≤ r) → r < c
        before (inl l) = l
        before (inr l) = go2 (cases_lt c r)
          where
            go2 : (c < r) ⊎ (r ≤ c) → r < c
            go2 (inl m) = absurd (false≢true (sym e
                ∙ (table i r hi some last).stopped j hj (subst (λ f. HasStopped f r) (sym at) m)))
            go2 (inr m) = absurd (false≢true (sym ne ∙ eq-eqb c r (omega arith)))
