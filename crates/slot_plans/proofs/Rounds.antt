-- The rounds of a plan follow each other, and each step lies in one.
use Rattle.std.proofs.Common.{◌≡◌, ℕ, zero, suc, ◌+◌, ◌-◌, ◌^◌, ◌<◌, ◌≤◌, ⊎_elim, refl, arith}
use Rattle.std.proofs.lemmas.Bool.{cases_lt}
use Rattle.run_events.specs.Limits.{max_rounds}
use Rattle.slot_plans.specs.Plan.{ClearRoundsLast, PlanLaws}

-- the send slots of a round end before the next round starts
abbrev pub StartsApart : ℕ → (ℕ → ℕ) → Type 0
StartsApart nodes start = (r : ℕ) → 1 ≤ r → start r + nodes < start (r + 1)

-- the rounds of a plan start apart
pub starts_apart : {nodes : ℕ} {receives start : ℕ → ℕ} → PlanLaws nodes receives start
    → StartsApart nodes start
starts_apart laws r h = omega (arith, laws.next_start r h, laws.some_receive r h)

-- what never falls from one round to the next never falls
rises : (f : ℕ → ℕ) → ((r : ℕ) → 1 ≤ r → f r ≤ f (r + 1)) → (r k s : ℕ) → 1 ≤ r → s ≡ r + k
    → f r ≤ f s
rises f next r zero s h e = let same : s ≡ r = omega arith in rw same (omega arith)
rises f next r (suc k) s h e =
    let after : s ≡ r + k + 1 = omega arith in
    rw after (omega (arith, rises f next r k (r + k) h refl, next (r + k) (omega arith)))

-- a later round starts no earlier
pub start-le : (nodes : ℕ) (start : ℕ → ℕ) → StartsApart nodes start → (r s : ℕ) → 1 ≤ r → r ≤ s
    → start r ≤ start s
start-le nodes start apart r s h l =
    rises start (λ t b. omega (arith, apart t b)) r (s - r) s h (omega arith)

-- a later round has no fewer receive steps
receives-le : {nodes : ℕ} {receives start : ℕ → ℕ} → PlanLaws nodes receives start → (r s : ℕ)
    → 1 ≤ r → r ≤ s → receives r ≤ receives s
receives-le {receives} laws r s h l = rises receives laws.receives_rise r (s - r) s h (omega arith)

-- the rounds after a clear one are clear
pub clear_rounds_last : ClearRoundsLast
clear_rounds_last nodes receives start laws delta gst r s h l clear = record {
  stable = let first = clear.stable in
      omega (arith, start-le nodes start (starts_apart laws) r s h l);
  lasts = let long = clear.lasts in omega (arith, receives-le laws r s h l);
}

-- the step lies in the round
pub record IsInRound (start : ℕ → ℕ) (step round : ℕ) : Type 0 where
  pub first : 1 ≤ round
  pub starts : start round ≤ step
  pub ends : step < start (round + 1)

-- a round that starts by a step of another is no later
before-later : (nodes : ℕ) (start : ℕ → ℕ) → StartsApart nodes start → (step r s : ℕ) → 1 ≤ r
    → step < start (r + 1) → start s ≤ step → s ≤ r
before-later nodes start apart step r s h ends starts =
    ⊎_elim (λ l. absurd
    (omega (arith, start-le nodes start apart (r + 1) s (omega arith) (omega arith))))
    (λ l. omega arith) (cases_lt r s)

-- a step lies in one round only
pub round-unique : (nodes : ℕ) (start : ℕ → ℕ) → StartsApart nodes start → (step r s : ℕ)
    → IsInRound start step r → IsInRound start step s → r ≡ s
round-unique nodes start apart step r s f g =
    omega (
      arith,
      before-later nodes start apart step r s f.first f.ends g.starts,
      before-later nodes start apart step s r g.first g.ends f.starts,
    )

-- the start of a round, and four more, fit a number of 32 bits
pub start-fits : {nodes : ℕ} {receives start : ℕ → ℕ} → PlanLaws nodes receives start → (r : ℕ)
    → 1 ≤ r → r ≤ max_rounds + 1 → 4 + start r < 2 ^ 32
start-fits {nodes} {start} laws r h l =
    omega (arith, laws.few_steps, start-le nodes start (starts_apart laws) r (max_rounds + 1) h l)

-- so does a round's length
pub len-fits : {nodes : ℕ} {receives start : ℕ → ℕ} → PlanLaws nodes receives start → (r : ℕ)
    → 1 ≤ r → r ≤ max_rounds → nodes + receives r < 2 ^ 32
len-fits laws r h l = omega (
  arith,
  laws.next_start r h,
  start-fits laws (r + 1) (omega arith) (omega arith),
)
