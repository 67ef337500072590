-- The plan that a text names: its numbers, and where its rounds start.
use Rattle.std.specs.Prelude.{◌&&◌, ℕ, ⊤, Bool, eqb, false}
use Rattle.slot_plans.specs.Growing.{growing_nodes, growing_start}
use Rattle.slot_plans.specs.Known.{known_delta, known_nodes, known_start}
use Rattle.slot_plans.specs.Plan.{IsDelta}
use Rattle.run_events.specs.declared.plan_kind.PlanKind.{PlanKind}
use Rattle.run_events.specs.declared.plan_kind.PlanKind.TheVariants as kind
use Rattle.slot_plans.specs.declared.named.NamedPlan.{NamedPlan}
use Rattle.slot_plans.specs.declared.named.NamedPlan.TheVariants as named

-- a known bound is within its limits
abbrev pub IsPlan : PlanKind → Type 0
IsPlan (kind.Known delta) = IsDelta delta
IsPlan kind.Growing = ⊤

-- at which step each round starts, for a number of nodes
abbrev pub start_of : PlanKind → ℕ → ℕ → ℕ
start_of (kind.Known delta) nodes = known_start nodes delta
start_of kind.Growing nodes = growing_start nodes

-- how many receive steps each round has
abbrev pub receives_of : PlanKind → ℕ → ℕ
receives_of (kind.Known delta) r = delta
receives_of kind.Growing r = r

-- the plan's name
abbrev pub kind_of : NamedPlan → PlanKind
kind_of (named.Known p) = kind.Known (known_delta p)
kind_of (named.Growing p) = kind.Growing

-- how many nodes it has
abbrev pub nodes_of : NamedPlan → ℕ
nodes_of (named.Known p) = known_nodes p
nodes_of (named.Growing p) = growing_nodes p

-- whether two plans have one name and as many nodes
abbrev pub same_plan : NamedPlan → NamedPlan → Bool
same_plan (named.Known p) (named.Known q) = eqb p.nodes q.nodes && eqb p.delta q.delta
same_plan (named.Growing p) (named.Growing q) = eqb p.nodes q.nodes
same_plan _ _ = false
