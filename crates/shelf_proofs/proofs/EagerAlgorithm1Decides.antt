-- The nodes of Algorithm 1 that send in every fourth round decide within N + 1 phases of clear
-- rounds: after the first of them all know all proper values, and then each decides in its own.
use Rattle.std.proofs.Common.{◌≡◌, ℕ, suc, ◌+◌, ◌-◌, ◌*◌, ◌/◌, ◌%◌, ◌<◌, ◌≤◌, Bool, true, false}
use Rattle.std.proofs.Common.{cond, refl, sym, ap, ◌∙◌, subst, Some, arith}
use Rattle.std.specs.Prelude.{not, slice_index, ◌==◌}
use Rattle.std.proofs.lemmas.Bool.{and_from, eq-eqb, eqb-true, ne_eqb}
use Rattle.round_lang.specs.Values.{mod_or_0, set}
use Rattle.round_meaning.specs.declared.setup.Setup.{Setup}
use Rattle.round_meaning.specs.Agreement.{Decides}
use Rattle.round_meaning.proofs.Hearing.{count-is}
use Rattle.round_meaning.proofs.LockInvariant.{Always, Has, below_values}
use Rattle.round_meaning.proofs.PhaseRuns as phases
use Rattle.round_meaning.proofs.PhaseSteps.{Setting, Suits, World, acceptable, node_decision, owner}
use Rattle.round_proofs.specs.Progress.{HearsLiving}
use Rattle.round_proofs.proofs.Counting.{counted_in}
use Rattle.round_proofs.proofs.Safe.{at, holds, spelt, stays_decided}
use Rattle.round_proofs.proofs.SetSizes.{some_first}
use Rattle.round_proofs.proofs.Turns.{living_turn}
use Rattle.shelf_proofs.specs.Bounds.{eager_bound}
use Rattle.shelf_proofs.specs.EagerAlgorithm1.{eager_algorithm_1_tree}
use Rattle.shelf_proofs.proofs.Algorithm1Kept.{release}
use Rattle.shelf_proofs.proofs.Algorithm1Phase.{Rounds, common, owner_decides, told4}
use Rattle.shelf_proofs.proofs.EagerAlgorithm1Safe.{Inv, IsLocked, eager_kept, eager_safe, setting}
use Rattle.shelf_proofs.proofs.EagerAlgorithm1Steps.{letter, machine, next, next_is, shows, spells}
use Rattle.shelf_proofs.proofs.EagerAlgorithm1Steps.{unless}
use Rattle.round_meaning.proofs.PhaseProgram.{values_of}

-- a run with rounds that are clear among those that live
pub record Clear (k : ℕ) (s : Setup) (omits : ℕ → ℕ → ℕ → Bool) (living : ℕ → Bool)
    (clear last : ℕ) : Type 0 where
  pub suits : Suits (setting k s) (slice_index s.inputs)
  pub some : 0 < s.nodes
  pub hears : HearsLiving s living omits clear last

abbrev run : ℕ → Setup → (ℕ → ℕ → ℕ → Bool) → ℕ → World
run k s omits r = at (machine k s.nodes s.faults) s 4 omits r

inv : (k : ℕ) (s : Setup) (omits : ℕ → ℕ → ℕ → Bool) → Suits (setting k s) (slice_index s.inputs)
    → (r : ℕ) → Inv (setting k s) (slice_index s.inputs) r (run k s omits r)
inv k s omits ok r =
    holds (machine k s.nodes s.faults) s 4 omits r (λ i r. i < s.nodes) node_decision
    (Inv (setting k s) (slice_index s.inputs)) (IsLocked (setting k s) (slice_index s.inputs))
    (eager_safe k s omits r (λ i r. i < s.nodes) (λ i r c. c) ok).agreed r (omega arith)

always : (k : ℕ) (s : Setup) (omits : ℕ → ℕ → ℕ → Bool)
    → Suits (setting k s) (slice_index s.inputs) → (r : ℕ)
    → Always (setting k s) (slice_index s.inputs) (run k s omits r)
always k s omits ok r =
    phases.always_of (setting k s) (slice_index s.inputs) (r % 4) (r / 4) (run k s omits r)
    (inv k s omits ok r).phase

-- the rounds of phase g + 1
run_at : (k : ℕ) (s : Setup) (omits : ℕ → ℕ → ℕ → Bool) (g q : ℕ) → q < 4
    → run k s omits (suc (4 * g + q))
    ≡ next (setting k s) q (g + 1) (λ i. omits i (suc (4 * g + q))) (run k s omits (4 * g + q))
run_at k s omits g q lt =
    let a : (4 * g + q) % 4 ≡ q = omega arith in
    let b : (4 * g + q) / 4 + 1 ≡ g + 1 = omega arith in
    next_is (setting k s) ((4 * g + q) % 4) (suc (4 * g + q)) ((4 * g + q) / 4 + 1)
    (λ i. omits i (suc (4 * g + q))) (run k s omits (4 * g + q))
    ∙ ap (λ p. next (setting k s) p ((4 * g + q) / 4 + 1) (λ i. omits i (suc (4 * g + q)))
    (run k s omits (4 * g + q))) a
    ∙ ap (λ f. next (setting k s) q f (λ i. omits i (suc (4 * g + q)))
    (run k s omits (4 * g + q))) b

owns : (s : Setting) (g c : ℕ) → 0 < s.nodes → g % s.nodes ≡ c → (c == owner s (g + 1)) ≡ true
owns s g c some is =
    let e : g + 1 - 1 ≡ g = omega arith in
    let f : owner s (g + 1) ≡ g % s.nodes =
    ap (λ a. mod_or_0 a s.nodes) e
    ∙ ap (λ t. cond t 0 (g % s.nodes)) (ne_eqb s.nodes 0 (λ e. omega arith)) in
    eq-eqb c (owner s (g + 1)) (sym is ∙ sym f)

-- phase h + 2, before which a whole phase was clear, and its owner
record Place (s : Setup) (living : ℕ → Bool) (clear last h c : ℕ) : Type 0 where
  begins : clear ≤ 4 * h + 4
  ends : 4 * h + 7 ≤ last
  mine : (h + 1) % s.nodes ≡ c
  known : c < s.nodes
  lives : living c ≡ true

-- its owner decides in it
decides_here : (k : ℕ) (s : Setup) (omits : ℕ → ℕ → ℕ → Bool) (living : ℕ → Bool)
    (clear last h c : ℕ) → Clear k s omits living clear last → Place s living clear last h c
    → (v : ℕ) × Has (run k s omits (4 * (h + 1) + 3) c).done v
decides_here k s omits living clear last h c run_is at =
    owner_decides z inputs w o (g + 1) c living run_is.suits rounds heard
    (always k s omits run_is.suits (4 * g + 0)) (always k s omits run_is.suits (4 * g + 2)) at.known
    at.lives (owns z g c run_is.some at.mine)
    (let e = count-is living 0 s.nodes in let l = run_is.hears.many in omega arith) accept
  where
    z : Setting
    z = setting k s

    inputs : ℕ → ℕ
    inputs = slice_index s.inputs

    g : ℕ
    g = h + 1

    w : ℕ → World
    w q = run k s omits (4 * g + q)

    o : ℕ → ℕ → ℕ → Bool
    o q i = omits i (suc (4 * g + q))

    next_round : (q r : ℕ) → q < 4 → suc (4 * g + q) ≡ 4 * g + r → w r ≡ next z q (g + 1) (o q)
        (w q)
    next_round q r lt e = ap (run k s omits) (sym e) ∙ run_at k s omits g q lt

    rounds : Rounds z o (g + 1) w
    rounds = record {
      first = next_round 0 1 (omega arith) (omega arith);
      second = next_round 1 2 (omega arith) (omega arith);
      third = next_round 2 3 (omega arith) (omega arith);
    }

    heard : (q i j : ℕ) → q < 3 → i < s.nodes → j < s.nodes → living i ≡ true → living j ≡ true
        → o q i j ≡ false
    heard q i j lt hi hj li l =
        let b = at.begins in let e = at.ends in
        run_is.hears.heard i (suc (4 * g + q)) j hi hj (omega arith) (omega arith) li l

    -- the fourth round of the phase before
    then_ : World
    then_ = run k s omits (4 * h + 3)

    c4 : ℕ → ℕ → Bool
    c4 i = unless (omits i (suc (4 * h + 3)))

    is : w 0 ≡ (λ i. release z (c4 i) then_ i)
    is =
        let e : 4 * g + 0 ≡ suc (4 * h + 3) = omega arith in
        ap (run k s omits) e ∙ run_at k s omits h 3 (omega arith)

    all_heard : (i j : ℕ) → i < s.nodes → j < s.nodes → living i ≡ true → living j ≡ true
        → c4 i j ≡ true
    all_heard i j hi hj li lj =
        let b = at.begins in let e = at.ends in
        and_from _ _ (ap not (run_is.hears.heard i (suc (4 * h + 3)) j hi hj (omega arith)
        (omega arith) li lj)) refl

    small : inputs c < k
    small = run_is.suits.inputs_in c at.known

    accept : (v : ℕ) × (v < k) × ((j : ℕ) → j < s.nodes → living j ≡ true
        → acceptable z (w 0 j) v ≡ true)
    accept =
        let now = inv k s omits run_is.suits (4 * h + 3) in
        let it = common z then_ c4 living run_is.suits.values now.knows
        (λ i j u hi hj li lj hu some. all_heard i j hi hj li lj) (inputs c) small
        (λ i hi li. told4 z then_ (c4 i) i c (inputs c) run_is.suits.values at.known small
        (all_heard i c hi at.known li at.lives) (now.own c at.known)) in (
          it.0,
          it.1,
          λ j hj l. subst (λ (f : World). acceptable z (f j) it.0 ≡ true) (sym is) (it.2 j hj l),
        )

-- each node that lives has decided within N + 1 phases
pub living_decide : (k : ℕ) (s : Setup) (omits : ℕ → ℕ → ℕ → Bool) (living : ℕ → Bool)
    (clear last : ℕ) → Clear k s omits living clear last → 1 ≤ clear
    → eager_bound s.nodes s.faults clear ≤ last → (c : ℕ) → c < s.nodes → living c ≡ true
    → (v : ℕ) × Decides (eager_algorithm_1_tree k) s omits last c v
living_decide k s omits living clear last run_is begun past c hc live = (
  one.0,
  spelt (eager_algorithm_1_tree k) s (machine k s.nodes s.faults) values_of letter node_decision
      (spells k s.nodes s.faults) (shows k) omits last c ∙ now,
)
  where
    z : Setting
    z = setting k s

    early : ℕ
    early = (clear + 2) / 4

    turn : (g : ℕ) × (early + 1 ≤ g) × (g ≤ early + 1 + (s.nodes - 1))
        × ((g % s.nodes == c) ≡ true)
    turn =
        let one = counted_in (λ j. j == c) 0 s.nodes c (omega arith) (omega arith)
        (eq-eqb c c refl) in
        let some = run_is.some in
        living_turn (λ j. j == c) s.nodes (s.nodes - 1) (early + 1) (omega arith) (omega arith)

    h : ℕ
    h = turn.0 - 1

    back : turn.0 ≡ h + 1
    back = let l = turn.1 in omega arith

    place : Place s living clear last h c
    place = record {
      begins = let l = turn.1 in omega arith;
      ends = let l = turn.2 in let some = run_is.some in omega arith;
      mine = ap (λ x. x % s.nodes) (sym back) ∙ eqb-true (turn.0 % s.nodes) c turn.3;
      known = hc;
      lives = live;
    }

    r : ℕ
    r = 4 * (h + 1) + 3

    done : (v : ℕ) × Has (run k s omits r c).done v
    done = decides_here k s omits living clear last h c run_is place

    small : done.0 < 64
    small =
        let l = below_values z (slice_index s.inputs) run_is.suits done.0
        ((always k s omits run_is.suits r).done c done.0 hc done.1) in
        let m = run_is.suits.values in
        omega arith

    one : (v : ℕ) × (node_decision (run k s omits r c) ≡ Some v)
    one = some_first (set (run k s omits r c).done) done.0 small done.1

    rest : r + (last - r) ≡ last
    rest = let l = turn.2 in let some = run_is.some in omega arith

    now : node_decision (run k s omits last c) ≡ Some one.0
    now =
        subst (λ q. node_decision (run k s omits q c) ≡ Some one.0) rest
        (stays_decided (machine k s.nodes s.faults) s 4 omits last (λ i r. i < s.nodes)
        node_decision (Inv z (slice_index s.inputs)) (IsLocked z (slice_index s.inputs))
        (eager_safe k s omits last (λ i r. i < s.nodes) (λ i r c. c) run_is.suits).agreed
        (eager_kept k s omits last (λ i r. i < s.nodes) (λ i r c. c) run_is.suits)
        (λ i r c. c) c one.0 r (last - r) (let e = rest in omega arith) hc one.1)
