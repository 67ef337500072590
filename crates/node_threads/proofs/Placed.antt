-- Where a seat stands in its rounds.
use Rattle.std.specs.Option.{ForSome, unwrap_or}
use Rattle.std.proofs.Common.{subst, Option, Some, ◌≡◌, ℕ, zero, suc, ◌+◌, ◌-◌, ◌<◌, ◌≤◌, inl, inr, length, ap, ◌∙◌, arith, sym}
use Rattle.slot_plans.specs.Plan.{PlanLaws}
use Rattle.locked_buffers.specs.Seats.{Account, IsDueBy, round_by}
use Rattle.node_threads.specs.declared.body.Halt.{Halt}
use Rattle.node_threads.specs.declared.body.Halt.TheVariants as halt
use Rattle.node_threads.specs.declared.ended.Ended.TheVariants.{NoMemory, Stopped}
use Rattle.node_threads.specs.Bodies.{IsCutShort, IsEnded, IsHeldUp, IsInPlace, end_of}

-- what holds of the value
pub for_some : {X : Type 0} (P : X → Type 0) (y : X) → P y → ForSome (Some y) P
for_some P y p = λ x e. subst P (ap (λ o. unwrap_or o y) e) p

module _ (start receives : ℕ → ℕ) (nodes : ℕ) (laws : PlanLaws nodes receives start) where
  -- a round has a send for each node and a receive at least
  pub longer : (r : ℕ) → 0 < r → start r + nodes < start (r + 1)
  longer r some = omega (arith, laws.next_start r some, laws.some_receive r some)

  rises : (a d : ℕ) → 0 < a → start a ≤ start (a + d)
  rises a zero some = let e : a + 0 ≡ a = omega arith in omega (arith, ap start e)
  rises a (suc d) some =
      let e : a + suc d ≡ (a + d) + 1 = omega arith in
      omega (arith, ap start e, longer (a + d) (omega arith), rises a d some)

  pub starts_le : (a b : ℕ) → 0 < a → a ≤ b → start a ≤ start b
  starts_le a b some le = let e : a + (b - a) ≡ b = omega arith in
      omega (arith, ap start e, rises a (b - a) some)

  -- before the first step
  pub placed_first : (rounds : ℕ) (a : Account) → a.steps ≡ 0 → round_by a ≡ 1
      → IsInPlace start rounds a
  placed_first rounds a none one = record {
    first = omega (arith, one);
    last = omega (arith, one);
    begun = omega (arith, none, ap start one, laws.first_start);
    early = λ l. omega (
      arith,
      none,
      ap (λ r. start (r + 1)) one,
      longer 1 (omega arith),
      laws.first_start,
    );
    whole = λ e.
        let z : rounds + 1 ≡ 1 = omega (arith, e, one) in
        none ∙ omega (arith, ap start z, laws.first_start);
  }

  -- after a step that isn't the last of its round
  pub placed_within : (rounds : ℕ) (a b : Account) → IsInPlace start rounds a → round_by a ≤ rounds
      → b.states ≡ a.states → b.steps ≡ a.steps + 1 → (b.steps ≡ start (round_by a + 1) → ⊥)
      → IsInPlace start rounds b
  placed_within rounds a b h l same more not =
      let r : round_by b ≡ round_by a = ap length same in
      let before : b.steps < start (round_by a + 1) = omega (arith, h.early l, more, not) in
      record {
        first = omega (arith, h.first, r);
        last = omega (arith, h.last, r);
        begun = omega (arith, h.begun, more, ap start r);
        early = λ m. omega (arith, before, ap (λ x. start (x + 1)) r);
        whole = λ e. absurd (omega (arith, e, r, l));
      }

  -- after the last, with the round closed
  pub placed_closed : (rounds : ℕ) (a b c : Account) → IsInPlace start rounds a
      → round_by a ≤ rounds → b.states ≡ a.states → b.steps ≡ start (round_by a + 1)
      → c.steps ≡ b.steps → round_by c ≡ round_by b + 1 → IsInPlace start rounds c
  placed_closed rounds a b c h l same last kept next =
      let r : round_by c ≡ round_by a + 1 = next ∙ ap (λ x. length x + 1) same in
      record {
        first = omega (arith, r);
        last = omega (arith, r, l);
        begun = omega (arith, kept, last, ap start r);
        early = λ m. omega (
          arith,
          kept,
          last,
          ap (λ x. start (x + 1)) r,
          longer (round_by a + 1) (omega arith),
        );
        whole = λ e.
            let z : rounds + 1 ≡ round_by a + 1 = omega (arith, e, r) in
            kept ∙ last ∙ ap start (omega (arith, z));
      }

  -- a seat in its place has taken fewer steps than all, and has no due round open
  pub before_all : (rounds : ℕ) (a : Account) → IsInPlace start rounds a → round_by a ≤ rounds
      → a.steps < start (rounds + 1)
  before_all rounds a h l = omega (
    arith,
    h.early l,
    starts_le (round_by a + 1) (rounds + 1) (omega arith) (omega (arith, l)),
  )

  pub not_due : (rounds : ℕ) (a : Account) → IsInPlace start rounds a → IsDueBy start rounds a → ⊥
  not_due rounds a h due = omega (arith, h.early due.0, due.1)

  -- at its stop it has ended so
  pub stopped_there : (rounds : ℕ) (stop : Option ℕ) (a : Account) → IsInPlace start rounds a
      → round_by a ≤ rounds → stop ≡ Some a.steps → IsEnded start rounds stop a Stopped
  stopped_there rounds stop a h l e = record {
    done = λ is. cc;
    stopped = λ is. (e, before_all rounds a h l, not_due rounds a h);
    cut = λ is. cc;
  }

  -- the steps that are left
  pub fewer : (rounds : ℕ) (a b : Account) → IsInPlace start rounds a → round_by a ≤ rounds
      → b.steps ≡ a.steps + 1 → start (rounds + 1) - b.steps < start (rounds + 1) - a.steps
  fewer rounds a b h l more = omega (arith, before_all rounds a h l, more)

-- a thread that couldn't go on before its end has ended as it's told
pub ended_stuck : (start : ℕ → ℕ) (rounds : ℕ) (stop : Option ℕ) (a : Account) (h : Halt)
    → IsCutShort start rounds stop a → ForSome (end_of h) (IsEnded start rounds stop a)
ended_stuck start rounds stop a halt.NoMemory cut =
    for_some (IsEnded start rounds stop a) NoMemory
    (record { done = λ is. cc; stopped = λ is. cc; cut = λ is. cut })
ended_stuck start rounds stop a halt.Refused cut = λ x is. cc

-- a step that was held up before the stop leaves the seat before its end
pub cut_short : (start : ℕ → ℕ) (rounds : ℕ) (stop : Option ℕ) (a b : Account)
    → round_by a ≤ rounds → (stop ≡ Some a.steps → ⊥) → IsHeldUp start rounds a b
    → IsCutShort start rounds stop b
cut_short start rounds stop a b l other (inl same) = record {
  open_round = subst (λ c. round_by c ≤ rounds) (sym same) l;
  due = λ is. absurd (other (is ∙ ap (λ (c : Account). Some c.steps) same));
}
cut_short start rounds stop a b l other (inr due) = record { open_round = due.0; due = λ is. due }
