-- That the plan which a text names keeps the laws of a plan. These are proofs, and nobody needs to
-- believe them.
use Rattle.std.proofs.Common.{◌≡◌, true, ap, rules, subst}
use Rattle.std.specs.Bool.{Decides}
use Rattle.std.specs.Cmp.{IsEquivalence, IsPartialEquivalence, decided, partial_equiv_from_equiv}
use Rattle.slot_plans.specs.Laws.{growing_laws, growing_same, known_laws, known_same}
use Rattle.slot_plans.specs.Named.{kind_of, nodes_of, receives_of, same_plan, start_of}
use Rattle.slot_plans.specs.Plan.{PlanLaws}
use Rattle.slot_plans.specs.declared.named.NamedPlan.{NamedPlan}
use Rattle.slot_plans.specs.declared.named.NamedPlan.TheVariants as named

pub named_laws : (p : NamedPlan)
    → PlanLaws (nodes_of p) (receives_of (kind_of p)) (start_of (kind_of p) (nodes_of p))
named_laws (named.Known p) = known_laws p.nodes p.delta p.node_count p.bound
named_laws (named.Growing p) = growing_laws p.nodes p.node_count

-- plans that are equal for the code are one plan
pub named_same : (p q : NamedPlan) → same_plan p q ≡ true → p ≡ q
named_same (named.Known p) (named.Known q) h = ap named.Known (known_same p q h)
named_same (named.Growing p) (named.Growing q) h = ap named.Growing (growing_same p q h)
named_same (named.Known p) (named.Growing q) h = search rules
named_same (named.Growing p) (named.Known q) h = search rules

-- a plan is equal to itself
same-self : (p : NamedPlan) → same_plan p p ≡ true
same-self (named.Known p) = search rules
same-self (named.Growing p) = search rules

-- so the test tells whether two plans are one
plan-decides : (p q : NamedPlan) → Decides (same_plan p q) (p ≡ q)
plan-decides p q =
    let P : NamedPlan → Type 0 = λ r. same_plan p r ≡ true in
    (named_same p q, λ e. subst P e (same-self p))

pub same_plan_equiv : IsEquivalence same_plan
same_plan_equiv = decided same_plan plan-decides

pub same_plan_per : IsPartialEquivalence same_plan
same_plan_per = partial_equiv_from_equiv same_plan_equiv
