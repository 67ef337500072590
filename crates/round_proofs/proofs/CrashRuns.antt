-- What a question about crashes says of a run: which messages come, and how many nodes crash.
use Rattle.std.proofs.Common.{◌≡◌, ℕ, suc, ◌<◌, ◌≤◌, Bool, true, false, List, refl, sym}
use Rattle.std.proofs.Common.{◌∙◌, subst, inl, inr, ◌⊎◌, arith}
use Rattle.std.specs.Prelude.{not}
use Rattle.std.proofs.lemmas.Bool.{false≢true, lt-ltb, ltb-true, ltb-false}
use Rattle.std.proofs.lemmas.List.Elements.{All-get_or}
use Rattle.round_meaning.specs.declared.setup.Setup.{Setup}
use Rattle.round_meaning.proofs.Hearing.{count, count_more}
use Rattle.round_explorer.specs.declared.question.Failure.{Failure}
use Rattle.round_explorer.specs.declared.question.Failure.TheVariants.{Never, Omits, Crashes}
use Rattle.round_explorer.specs.declared.question.FaultKind.TheVariants.{Crash}
use Rattle.round_explorer.specs.declared.question.Question.{Question}
use Rattle.round_explorer.specs.Properties.{Counts}
use Rattle.round_explorer.specs.Questions.{HasStopped, IsOfKind, IsPattern, IsTable, IsUnclear}
use Rattle.round_explorer.specs.Questions.{MayBeMissed, failure_of, is_faulty}
use Rattle.round_explorer.specs.Searched.{is_counted}
use Rattle.round_proofs.specs.Asking.{AsksCrashes}
use Rattle.round_proofs.specs.Explored.{Counted}
use Rattle.round_proofs.proofs.ClearRounds.{few_fail}

-- node j crashes in none of the first r rounds
abbrev pub alive : List Failure → ℕ → ℕ → Bool
alive pattern r j = is_counted (failure_of pattern j) r

-- a run in which nodes crash, and nothing else is lost; `alive r j`: node j crashes in none of the
-- first r rounds
pub record IsCrash (s : Setup) (last : ℕ) (alive : ℕ → ℕ → Bool) (omits : ℕ → ℕ → ℕ → Bool) : Type 0
  where
    -- a crash lasts
    pub down : (q r j : ℕ) → q ≤ r → alive r j ≡ true → alive q j ≡ true
    -- a node that hasn't crashed by the end of a round is heard in it
    pub kept : (i r j : ℕ) → r < last → i < s.nodes → j < s.nodes → alive (suc r) j ≡ true
        → omits i (suc r) j ≡ false
    -- a node that is heard in a round hasn't crashed before it
    pub lost : (i r j : ℕ) → r < last → i < s.nodes → j < s.nodes → omits i (suc r) j ≡ false
        → alive r j ≡ true
    -- at most t nodes crash
    pub few : (r : ℕ) → count (λ j. not (alive r j)) 0 s.nodes ≤ s.faults

-- a node that has crashed fails
pub faulty_if_dead : (f : Failure) (r : ℕ) → not (is_counted f r) ≡ true → is_faulty f ≡ true
faulty_if_dead Never r h = absurd (false≢true h)
faulty_if_dead Omits r h = refl
faulty_if_dead (Crashes c) r h = refl

-- a crash lasts
down : (f : Failure) (q r : ℕ) → q ≤ r → is_counted f r ≡ true → is_counted f q ≡ true
down Never q r le h = refl
down Omits q r le h = refl
down (Crashes c) q r le h = lt-ltb q c (let lt = ltb-true r c h in omega arith)

-- no message is missed of a node that hasn't crashed
not_missed : (f : Failure) (r rounds : ℕ) → IsOfKind Crash rounds f → is_counted f r ≡ true
    → MayBeMissed f r → ⊥
not_missed Never r rounds kind h m = m
not_missed Omits r rounds kind h m = kind
not_missed (Crashes c) r rounds kind h m = let lt = ltb-true r c h in omega (arith, m)

-- a node that has crashed sends nothing in the next round
has_stopped : (f : Failure) (r : ℕ) → is_counted f r ≡ false → HasStopped f (suc r)
has_stopped Never r h = absurd (false≢true (sym h))
has_stopped Omits r h = absurd (false≢true (sym h))
has_stopped (Crashes c) r h = let le = ltb-false r c h in omega arith

is_counted_of : (f : Failure) (r : ℕ) → Counts f r → is_counted f r ≡ true
is_counted_of Never r h = refl
is_counted_of Omits r h = refl
is_counted_of (Crashes c) r h = lt-ltb r c h

-- a run with --faults crash --clear 1 is such a run
pub crash_run : (question : Question) (s : Setup) (pattern : List Failure) (omits : ℕ → ℕ → ℕ
    → Bool)
    → AsksCrashes s.nodes s.faults question → IsPattern question s pattern
    → IsTable question s.nodes pattern s.rounds omits
    → IsCrash s s.rounds (alive pattern) omits
crash_run question s pattern omits asks is table = record {
  down = λ q r j le h. down (failure_of pattern j) q r le h;
  kept = λ i r j lt hi hj h. kept i r j lt hi hj h (omits i (suc r) j) refl;
  lost = λ i r j lt hi hj h. lost i r j lt hi hj h (is_counted (failure_of pattern j) r) refl;
  few = λ r.
      let faulty = few_fail question s pattern is in
      let more = count_more (λ j. not (is_counted (failure_of pattern j) r))
      (λ j. is_faulty (failure_of pattern j)) 0 s.nodes
      (λ j lo hi h. faulty_if_dead (failure_of pattern j) r h) in
      omega arith;
}
  where
    kind : (j : ℕ) → j < s.nodes → IsOfKind Crash s.rounds (failure_of pattern j)
    kind j hj =
        subst (λ k. IsOfKind k s.rounds (failure_of pattern j)) asks.0
        (All-get_or (IsOfKind question.faults s.rounds) pattern j Never
        (omega (arith, is.each_node)) is.kinds)

    unclear : (r : ℕ) → IsUnclear question.clear (suc r) → ⊥
    unclear r h =
        let lt : suc r < 1 = subst (λ c. IsUnclear c (suc r)) asks.1 h in
        omega arith

    kept : (i r j : ℕ) → r < s.rounds → i < s.nodes → j < s.nodes
        → is_counted (failure_of pattern j) (suc r) ≡ true → (b : Bool) → omits i (suc r) j ≡ b
        → b ≡ false
    kept i r j lt hi hj h false e = refl
    kept i r j lt hi hj h true e =
        by ((table i (suc r) hi (omega arith) (omega arith)).only j hj e)
      where
        by : IsUnclear question.clear (suc r) ⊎ MayBeMissed (failure_of pattern j) (suc r)
            → true ≡ false
        by (inl u) = absurd (unclear r u)
        by (inr m) = absurd (not_missed (failure_of pattern j) (suc r) s.rounds (kind j hj) h m)

    lost : (i r j : ℕ) → r < s.rounds → i < s.nodes → j < s.nodes → omits i (suc r) j ≡ false
        → (b : Bool) → is_counted (failure_of pattern j) r ≡ b → b ≡ true
    lost i r j lt hi hj h true e = refl
    lost i r j lt hi hj h false e =
        absurd (false≢true (sym h
        ∙ (table i (suc r) hi (omega arith) (omega arith)).stopped j hj
        (has_stopped (failure_of pattern j) r e)))

-- a state counts if its node hasn't crashed
pub counted_lives : (s : Setup) (pattern : List Failure) (i r : ℕ) → Counted s pattern i r
    → (i < s.nodes) × (alive pattern r i ≡ true)
counted_lives s pattern i r c = (c.0, is_counted_of (failure_of pattern i) r c.1)
