-- That both plans keep the laws of a plan. These are proofs, and nobody needs to believe them.
use Rattle.std.proofs.Common.{◌≡◌, ℕ, ◌+◌, ◌-◌, ◌*◌, ◌/◌, true, ◌&&◌, eqb, ap, ◌∙◌, subst, arith}
use Rattle.std.proofs.Common.{rules}
use Rattle.std.specs.Coded.{×_prop, le_prop}
use Rattle.slot_plans.specs.declared.growing.Growing.{Growing}
use Rattle.slot_plans.specs.declared.known.Known.{Known}
use Rattle.slot_plans.specs.Plan.{IsNodeCount, IsDelta, PlanLaws}
use Rattle.slot_plans.specs.Known.{known_start}
use Rattle.slot_plans.specs.Growing.{growing_start}

-- q + 1 rounds of one length
row-next : (q u nodes delta : ℕ) → u ≡ q + 1
    → u * (nodes + delta) ≡ q * (nodes + delta) + nodes + delta
row-next q u nodes delta e = rw e (omega arith)

-- 1 + 2 + .. + (q + 1)
half-next : (q : ℕ) → (q + 2) * (q + 1) / 2 ≡ (q + 1) * q / 2 + (q + 1)
half-next q = grind arith

-- q + 1 rounds that grow
grown-next : (q u r nodes : ℕ) → r ≡ q + 1 → u ≡ q + 1
    → u * nodes + (r + 1) * u / 2 ≡ q * nodes + r * q / 2 + nodes + r
grown-next q u r nodes e d = rw (e, d) (grind (arith, half-next))

-- rounds of one length keep the laws of a plan
pub known_laws : (nodes delta : ℕ) → IsNodeCount nodes → IsDelta delta
    → PlanLaws nodes (λ _. delta) (known_start nodes delta)
known_laws nodes delta n d = record {
  some_node = n.0;
  few_nodes = n.1;
  some_receive = λ _ _. d.0;
  receives_rise = λ _ _. omega arith;
  first_start = omega arith;
  next_start = λ r h. row-next (r - 1) (r + 1 - 1) nodes delta (omega arith);
  few_steps = omega (arith, n, d);
}

-- rounds that grow keep the laws of a plan
pub growing_laws : (nodes : ℕ) → IsNodeCount nodes → PlanLaws nodes (λ r. r) (growing_start nodes)
growing_laws nodes n = record {
  some_node = n.0;
  few_nodes = n.1;
  some_receive = λ _ h. h;
  receives_rise = λ _ _. omega arith;
  first_start = omega arith;
  next_start = λ r h. grown-next (r - 1) (r + 1 - 1) r nodes (omega arith) (omega arith);
  few_steps = omega (arith, n);
}

-- the growing plan of so many nodes
abbrev growing_of : (nodes : ℕ) → IsNodeCount nodes → Growing
growing_of nodes n = record { nodes = nodes; node_count = n }

-- a growing plan is told by its number of nodes
growing-unique : (p : Growing) (nodes : ℕ) → p.nodes ≡ nodes
    → (n : IsNodeCount nodes) → p ≡ growing_of nodes n
growing-unique p nodes e =
    let P : ℕ → Type 0 = λ m. (n : IsNodeCount m) → p ≡ growing_of m n in
    subst P e (λ n. ap (growing_of p.nodes) (×_prop le_prop le_prop p.node_count n))

-- growing plans that are equal for the code are one plan
pub growing_same : (p q : Growing) → eqb p.nodes q.nodes ≡ true → p ≡ q
growing_same p q h = growing-unique p q.nodes (search rules) q.node_count

-- the known plan of these numbers
abbrev known_of : (nodes delta : ℕ) → IsNodeCount nodes → IsDelta delta → Known
known_of nodes delta n d = record { nodes = nodes; delta = delta; node_count = n; bound = d }

-- a known plan is told by its numbers
known-unique : (p : Known) (nodes delta : ℕ) → p.nodes ≡ nodes → p.delta ≡ delta
    → (n : IsNodeCount nodes) (d : IsDelta delta) → p ≡ known_of nodes delta n d
known-unique p nodes delta e f n d =
    let P : ℕ → Type 0 = λ m. (o : IsNodeCount m) → p ≡ known_of m p.delta o p.bound in
    let Q : ℕ → Type 0 =
    λ m. (o : IsDelta m) → known_of nodes p.delta n p.bound ≡ known_of nodes m n o in
    subst P e (λ o.
    ap (λ x. known_of p.nodes p.delta x p.bound) (×_prop le_prop le_prop p.node_count o)) n
    ∙ subst Q f (λ o. ap (known_of nodes p.delta n) (×_prop le_prop le_prop p.bound o)) d

-- known plans that are equal for the code are one plan
pub known_same : (p q : Known) → (eqb p.nodes q.nodes && eqb p.delta q.delta) ≡ true → p ≡ q
known_same p q h = known-unique p q.nodes q.delta (search rules) (search rules) q.node_count q.bound
