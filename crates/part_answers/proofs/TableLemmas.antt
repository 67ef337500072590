-- How often a part is there.
use Rattle.std.proofs.Common.{◌≡◌, ◌∙◌, ◌≤◌, ◌<◌, ◌+◌, ◌-◌, ℕ, Bool, List, ap, arith, eqb, false}
use Rattle.std.proofs.Common.{get_or, length, subst, suc, sym, take, true}
use Rattle.std.specs.Prelude.{cond}
use Rattle.std.proofs.lemmas.Bool.Decides.{nat_tests}
use Rattle.std.proofs.lemmas.List.{get_or_default}
use Rattle.std.proofs.lemmas.List.Sums.{count_by_more_yes, sum_by-take-le}
use Rattle.part_answers.specs.Tables.{IsInRange, IsTable}
use Rattle.part_answers.specs.Wholes.{times}
use Rattle.part_answers.specs.declared.part.PartAnswers.{PartAnswers}

same_test : (a b : ℕ) → a ≡ b → eqb a b ≡ true
same_test a b same = grind (arith, nat_tests)

-- the table tells how often a part is there
pub times_are : (count : ℕ) (parts : List PartAnswers) (table : List Bool)
    → IsTable count parts table → (n : ℕ) → 1 ≤ n → n ≤ count → (b : Bool)
    → get_or table (n - 1) false ≡ b → times n parts ≡ cond b 1 0
times_are count parts table known n low high b is =
    let same : suc (n - 1) ≡ n = omega (arith, low) in
    subst (λ m. times m parts ≡ cond b 1 0) same
    (known.marks (n - 1) (omega (arith, low, high)) ∙ ap (λ c. cond c 1 0) is)

-- a part that comes again is there twice
twice : (parts : List PartAnswers) (i : ℕ) (p : PartAnswers) → i < length parts
    → p ≡ get_or parts i p → times p.part.number (take i parts) ≡ 1
    → 2 ≤ times p.part.number parts
twice parts i p lt is once =
    let number = p.part.number in
    let here : (get_or parts i p).part.number ≡ number =
    ap (λ (q : PartAnswers). q.part.number) (sym is) in
    let more = count_by_more_yes (λ (q : PartAnswers). eqb q.part.number number) parts i p lt
    (same_test _ number here) in
    let le = sum_by-take-le (λ (q : PartAnswers). cond (eqb q.part.number number) 1 0) parts (i + 1)
    in omega (arith, more, le, once)

pub marked_twice : (count : ℕ) (parts : List PartAnswers) (i : ℕ) (p : PartAnswers)
    (table : List Bool) (mark : Bool) → i < length parts → p ≡ get_or parts i p
    → IsInRange count p → IsTable count (take i parts) table
    → mark ≡ get_or table (p.part.number - 1) mark → mark ≡ true → 2 ≤ times p.part.number parts
marked_twice count parts i p table mark lt is range known at marked =
    let long = known.long in
    let here = get_or_default table (p.part.number - 1) false mark
    (omega (arith, long, range.0, range.1)) ∙ sym at ∙ marked in
    twice parts i p lt is
    (times_are count (take i parts) table known p.part.number range.0 range.1 true here)
