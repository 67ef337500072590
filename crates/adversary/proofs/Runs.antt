-- What holds after each event of a schedule.
use Rattle.std.proofs.Common.{◌≡◌, ◌≢◌, ℕ, ◌<◌, false, List, [], ◌∷◌, length, get_or, set, sym, ap}
use Rattle.std.proofs.Common.{subst, ◌∙◌, arith, ◌⊎◌, inl, inr, length-set}
use Rattle.std.proofs.lemmas.Bool.{and_left, cases_eq}
use Rattle.std.proofs.lemmas.List.{get_or-set_same, get_or-set_other}
use Rattle.round_lang.specs.Syntax.{ProgramTree}
use Rattle.round_meaning.specs.declared.setup.Setup.{Setup}
use Rattle.slot_plans.specs.Plan.{PlanLaws}
use Rattle.step_book.proofs.Starts.{plan_is}
use Rattle.step_book.specs.Log.{Log, Recorded, happened, opened, world_of}
use Rattle.step_book.specs.Trace.{is_step}
use Rattle.step_book.specs.World.{IsPlan}
use Rattle.run_events.specs.declared.event.Event.{Event}
use Rattle.run_events.specs.declared.event.Event.TheVariants.{Step}
use Rattle.step_machine.specs.Nodes.{NodeView}
use Rattle.adversary.specs.Driving.{AreNodesOf, AreSettled, GoesOn, IsDriven, IsKnown, IsNodeOf}
use Rattle.adversary.specs.Driving.{IsSettled}
use Rattle.adversary.proofs.Settled.{settled_rest, settled_step}
use Rattle.adversary.proofs.Nodes.{node_on, node_other, noted}

-- the plan of a run keeps the laws
pub plan_kept : {P : Type 0} (start receives : P → ℕ → ℕ) (nodes_of : P → ℕ) (j : Recorded P)
    → ((q : P) → PlanLaws (nodes_of q) (receives q) (start q)) → nodes_of j.plan ≡ j.log.setup.nodes
    → IsPlan (world_of (start j.plan) j.log)
plan_kept start receives nodes_of j laws sized =
    plan_is (start j.plan) (receives j.plan) (nodes_of j.plan) j.log (laws j.plan) sized

-- a node took a step
nodes_step : (start : ℕ → ℕ) (old new : Log) (i : ℕ) (nodes : List NodeView) (n : NodeView)
    → IsPlan (world_of start old) → i < length nodes → GoesOn old new i (Step i ∷ [])
    → IsNodeOf start new i n → AreNodesOf start old nodes → AreNodesOf start new (set nodes i n)
nodes_step start old new i nodes n p l g is h = record {
  sized = length-set nodes i n ∙ h.sized ∙ ap (λ (s : Setup). s.nodes) (sym g.setup);
  each = λ j d m. at j d (omega (arith, m, h.sized, ap (λ (s : Setup). s.nodes) g.setup))
      (cases_eq j i);
}
  where
    at : (j : ℕ) (d : NodeView) → j < length nodes → (j ≡ i) ⊎ (j ≡ i → ⊥)
        → IsNodeOf start new j (get_or (set nodes i n) j d)
    at j d m (inl same) = subst (λ k. IsNodeOf start new k (get_or (set nodes i n) k d)) (sym same)
        (subst (IsNodeOf start new i) (sym (get_or-set_same nodes i n d l)) is)
    at j d m (inr apart) =
        let ne : j ≢ i = apart in
        subst (IsNodeOf start new j) (sym (get_or-set_other nodes i j n d ne))
        (node_other start old new i j _ p g apart (h.each j d (omega (arith, m, h.sized))))

nodes_rest : (start : ℕ → ℕ) (v : Log) (e : Event) (nodes : List NodeView)
    → IsPlan (world_of start v) → ((i : ℕ) → is_step i e ≡ false) → AreNodesOf start v nodes
    → AreNodesOf start (happened v e) nodes
nodes_rest start v e nodes p quiet h = record {
  sized = h.sized;
  each = λ i d l.
      node_on start v (happened v e) i e (get_or nodes i d) p (noted v i e)
      (λ k. and_left _ _ (quiet i)) (h.each i d l);
}

-- a run that begins is driven
pub driven_first : {P : Type 0} (start : P → ℕ
    → ℕ) (p : ProgramTree) (s : Setup) (plan : P) (j : Recorded P) (nodes : List NodeView)
    → j ≡ record { plan = plan; log = opened p s } → AreNodesOf (start j.plan) (opened p s) nodes
    → AreSettled (start j.plan) j.log → IsDriven (start j.plan) j.log nodes
driven_first start p s plan j nodes e h settled = record {
  matching = subst (λ (v : Log). AreNodesOf (start j.plan) v nodes) (sym (ap (λ z. z.log) e)) h;
  settled = settled;
}

-- a node of the run took a step
pub driven_step : {P : Type 0} (start : P → ℕ
    → ℕ) (j k : Recorded P) (i : ℕ) (nodes next : List NodeView) (n : NodeView)
    → IsPlan (world_of (start j.plan) j.log) → IsDriven (start j.plan) j.log nodes
    → i < length nodes → k.plan ≡ j.plan → GoesOn j.log k.log i (Step i ∷ [])
    → IsNodeOf (start k.plan) k.log i n → IsSettled (start k.plan) k.log i → next ≡ set nodes i n
    → IsDriven (start k.plan) k.log next
driven_step {P} start j k i nodes next n planned h l same g is settled set_is = record {
  matching = subst (AreNodesOf (start k.plan) k.log) (sym set_is)
      (subst (λ (q : P). AreNodesOf (start q) k.log (set nodes i n)) (sym same)
      (nodes_step (start j.plan) j.log k.log i nodes n planned l g
      (subst (λ (q : P). IsNodeOf (start q) k.log i n) same is) h.matching));
  settled = settled_step (start k.plan) j.log k.log i g
      (subst (λ (q : P). AreSettled (start q) j.log) (sym same) h.settled) settled;
}

-- an event of the network
pub driven_rest : {P : Type 0} (start : P → ℕ
    → ℕ) (j k : Recorded P) (e : Event) (nodes : List NodeView)
    → IsPlan (world_of (start j.plan) j.log) → ((i : ℕ) → is_step i e ≡ false)
    → IsDriven (start j.plan) j.log nodes → k ≡ record { plan = j.plan; log = happened j.log e }
    → IsDriven (start k.plan) k.log nodes
driven_rest {P} start j k e nodes planned quiet h is = record {
  matching = subst (λ (z : Recorded P). AreNodesOf (start z.plan) z.log nodes) (sym is)
      (nodes_rest (start j.plan) j.log e nodes planned quiet h.matching);
  settled = settled_rest (start k.plan) j.log k.log e quiet (ap (λ z. z.log) is)
      (subst (λ (q : P). AreSettled (start q) j.log) (sym (ap (λ z. z.plan) is)) h.settled);
}

-- the journal is that of these events
pub record IsRun {P : Type 0} (p : ProgramTree) (s : Setup) (plan : P) (j : Recorded P)
    (events : List Event) : Type 0 where
  pub program : j.log.program ≡ p
  pub setup : j.log.setup ≡ s
  pub planned : j.plan ≡ plan
  pub trace : j.log.trace ≡ events

-- a step that a run may have is one of its nodes'
pub known_step : (s t : Setup) (e : Event) (i : ℕ) → s ≡ t → IsKnown s e → e ≡ Step i → i < t.nodes
known_step s t e i same known is =
    let here : i < s.nodes = subst (IsKnown s) is known in
    omega (arith, here, ap (λ (x : Setup). x.nodes) same)
