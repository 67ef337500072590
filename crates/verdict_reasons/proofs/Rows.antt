-- Breaks and decisions of small runs, worked out by hand, as the definitions have them.
use Rattle.std.proofs.Common.{◌≡◌, ℕ, zero, suc, ◌<◌, List, [], ◌∷◌, Option, Some, None, refl, sym}
use Rattle.std.proofs.Common.{subst, arith}
use Rattle.std.proofs.lemmas.Option.{same_Some}
use Rattle.round_lang.specs.Sets.{is_in}
use Rattle.run_events.specs.declared.event.Event.TheVariants.{Step}
use Rattle.omission_explainer.specs.Rows.{ClosedRound}
use Rattle.slot_plans.specs.Known.{known_start}
use Rattle.verdict_reasons.specs.Clearness.{HasClearRound, IsUnclear}
use Rattle.verdict_reasons.specs.declared.unclear.Unclear.TheVariants.{FewReceives, LateStart}
use Rattle.verdict_reasons.specs.Decisions.{IsFirstRow, IsOtherThan, IsTakenBack, RowAt}
use Rattle.verdict_reasons.specs.Pace.{IsPaceBreak}

-- node 0 takes its second step, number 1, before node 1 takes a step
one_ahead : IsPaceBreak (Step 0 ∷ Step 0 ∷ []) 3
    (record { place = 1; node = 0; step = 1; behind = 1; behind_steps = 0 })
unfolding is_in
one_ahead = record {
  node = refl;
  other = refl;
  there = record { there = refl; number = refl };
  number = refl;
  fewer = omega arith;
}

-- steps of node 2, which isn't correct, count for nothing
faulty_between : IsPaceBreak (Step 2 ∷ Step 1 ∷ Step 2 ∷ Step 1 ∷ []) 3
    (record { place = 3; node = 1; step = 1; behind = 0; behind_steps = 0 })
unfolding is_in
faulty_between = record {
  node = refl;
  other = refl;
  there = record { there = refl; number = refl };
  number = refl;
  fewer = omega arith;
}

-- a row of a report, by its round, its node and its decision
abbrev row : ℕ → ℕ → Option ℕ → ClosedRound
row r i d = record {
  round = r;
  node = i;
  heard = 0;
  silent = 0;
  omitted = 0;
  state = [];
  decision = d;
}

-- node 0 decides in round 1, and has no decision after round 2
abbrev undecided_again : List ClosedRound
undecided_again = row 1 0 (Some 1) ∷ row 1 1 None ∷ row 2 0 None ∷ row 2 1 (Some 1) ∷ []

taken_back : IsTakenBack undecided_again 0 (record { decided = 0; changed = 2 })
taken_back = record {
  decision = 1;
  decides = record { row = row 1 0 (Some 1); there = refl; is = (refl, refl) };
  later = omega arith;
  changes = record { row = row 2 0 None; there = refl; is = (refl, λ e. cc) };
}

-- the first decision is node 1's, and the first other one node 0's in round 2
abbrev two_decisions : List ClosedRound
two_decisions = row 1 0 None ∷ row 1 1 (Some 1) ∷ row 2 0 (Some 2) ∷ row 2 1 (Some 1) ∷ []

other_row : IsFirstRow two_decisions (λ r. IsOtherThan 1 r.decision) 2
other_row = record {
  there = record { row = row 2 0 (Some 2); there = refl; is = λ e. absurd (omega arith) };
  none = none;
}
  where
    none : (k : ℕ) → k < 2 → RowAt two_decisions (λ r. IsOtherThan 1 r.decision) k → ⊥
    none zero l at =
        let same : row 1 0 None ≡ at.row = same_Some (row 1 0 None) at.row at.there in
        subst (λ (r : ClosedRound). IsOtherThan 1 r.decision) (sym same) at.is
    none (suc zero) l at =
        let same : row 1 1 (Some 1) ≡ at.row = same_Some (row 1 1 (Some 1)) at.row at.there in
        subst (λ (r : ClosedRound). IsOtherThan 1 r.decision) (sym same) at.is refl
    none (suc (suc k)) l at = absurd (omega arith)

-- each round has 3 receives, and messages may be delayed by 5 steps
few_receives : IsUnclear (λ _. 3) (known_start 2 3) 5 0 FewReceives
few_receives r round = omega arith

-- the last round starts at step 20,475
late_start : IsUnclear (λ _. 3) (known_start 2 3) 3 20476 LateStart
late_start = (
  record { round = 1; of_plan = (omega arith, omega arith); lasts = omega arith },
  λ r round l. omega (arith, round.1),
)

-- and is clear from there on
late_enough : HasClearRound (λ _. 3) (known_start 2 3) 3 20475
late_enough = record {
  round = 4096;
  of_plan = (omega arith, omega arith);
  clear = record { stable = omega arith; lasts = omega arith };
}
