-- Algorithm 1's nodes decide within 2N - 1 phases of clear rounds.
use Rattle.std.proofs.Common.{◌≡◌, ℕ, zero, suc, ◌+◌, ◌-◌, ◌*◌, ◌/◌, ◌%◌, ◌<◌, ◌≤◌, Bool, true}
use Rattle.std.proofs.Common.{false, cond, Some, refl, sym, ap, ◌∙◌, subst, inl, inr}
use Rattle.std.proofs.Common.{◌⊎◌}
use Rattle.std.proofs.Common.{arith}
use Rattle.std.specs.Prelude.{not, ◌==◌}
use Rattle.std.proofs.lemmas.Bool.{cases_lt, and_from, eq-eqb, eqb-true}
use Rattle.std.proofs.lemmas.Bool.{ne_eqb}
use Rattle.round_lang.specs.Sets.{members}
use Rattle.round_lang.specs.Values.{mod_or_0, set}
use Rattle.round_meaning.specs.Turn.{first_member}
use Rattle.round_meaning.proofs.PhaseSteps.{Setting, World, Suits, acceptable, next, node_decision}
use Rattle.round_meaning.proofs.PhaseSteps.{owner, run}
use Rattle.round_meaning.proofs.SetReading.{none_in}
use Rattle.round_meaning.proofs.Hearing.{count}
use Rattle.round_meaning.proofs.LockInvariant.{Always, Has, below_values, lock}
use Rattle.round_proofs.proofs.Counting.{counted_in}
use Rattle.round_proofs.proofs.SetSizes.{only_itself, some_first}
use Rattle.round_proofs.proofs.Turns.{living_turn}
use Rattle.round_meaning.proofs.PhaseRuns.{always_of, holds, stays_long}
use Rattle.round_meaning.proofs.PhaseSteps.{hears4}
use Rattle.shelf_proofs.proofs.Algorithm1Kept.{Knows, knows, more, release, told1}
use Rattle.shelf_proofs.proofs.Algorithm1Phase.{HearLocks, Rounds, common, holds_lock}
use Rattle.shelf_proofs.proofs.Algorithm1Phase.{owner_decides}

-- a run with rounds that are clear among those that live
pub record Clear (s : Setting) (inputs : ℕ → ℕ) (omits : ℕ → ℕ → ℕ → Bool) (living : ℕ → Bool)
    (clear last : ℕ) : Type 0 where
  pub suits : Suits s inputs
  pub heard : (i r j : ℕ) → i < s.nodes → j < s.nodes → clear ≤ r → r ≤ last → living i ≡ true
      → living j ≡ true → omits i r j ≡ false
  pub many : s.nodes ≤ count living 0 s.nodes + s.faults

always : (s : Setting) (inputs : ℕ → ℕ) (omits : ℕ → ℕ → ℕ → Bool) → Suits s inputs → (r : ℕ)
    → Always s inputs (run s inputs omits r)
always s inputs omits ok r =
    always_of s inputs (r % 4) (r / 4) (run s inputs omits r) (holds s inputs omits ok r)

known : (s : Setting) (inputs : ℕ → ℕ) (omits : ℕ → ℕ → ℕ → Bool) → Suits s inputs → (r : ℕ)
    → Knows s (run s inputs omits r)
known s inputs omits ok zero = record {
  locks = λ i u hi hu some.
      absurd (let z = bound i u hi hu in omega arith);
  props = λ i u hi hu p. absurd (none_in u p);
}
  where
    bound : (i u : ℕ) → i < s.nodes → u < s.values → lock (run s inputs omits 0 i) u ≤ 0
    bound i u hi hu = (holds s inputs omits ok 0).bound i u hi hu
known s inputs omits ok (suc r) =
    knows s inputs (r % 4) (r / 4 + 1) (run s inputs omits r) ok (always s inputs omits ok r).lists
    (known s inputs omits ok r) (λ i. omits i (suc r))

-- a node's own input is proper to it
own : (s : Setting) (inputs : ℕ → ℕ) (omits : ℕ → ℕ → ℕ → Bool) → Suits s inputs → (r i : ℕ)
    → i < s.nodes → Has (run s inputs omits r i).proper (inputs i)
own s inputs omits ok zero i hi = only_itself s.values (inputs i) (ok.inputs_in i hi)
own s inputs omits ok (suc r) i hi =
    let l = ok.inputs_in i hi in
    let m = ok.values in
    more s (r % 4) (r / 4 + 1) (run s inputs omits r) (λ i. omits i (suc r)) i (inputs i)
    (omega arith) (own s inputs omits ok r i hi)

more_long : (s : Setting) (inputs : ℕ → ℕ) (omits : ℕ → ℕ → ℕ → Bool) (i v r d : ℕ) → v < 64
    → Has (run s inputs omits r i).proper v → Has (run s inputs omits (r + d) i).proper v
more_long s inputs omits i v r zero l h =
    let e : r ≡ r + 0 = omega arith in
    subst (λ q. Has (run s inputs omits q i).proper v) e h
more_long s inputs omits i v r (suc d) l h =
    let e : suc (r + d) ≡ r + suc d = omega arith in
    subst (λ q. Has (run s inputs omits q i).proper v) e
    (more s ((r + d) % 4) ((r + d) / 4 + 1) (run s inputs omits (r + d))
    (λ i. omits i (suc (r + d)))
    i v l (more_long s inputs omits i v r d l h))

-- the rounds of phase g + 1
run_at : (s : Setting) (inputs : ℕ → ℕ) (omits : ℕ → ℕ → ℕ → Bool) (g q : ℕ) → q < 4
    → run s inputs omits (suc (4 * g + q))
    ≡ next s q (g + 1) (λ i. omits i (suc (4 * g + q))) (run s inputs omits (4 * g + q))
run_at s inputs omits g q lt =
    let a : (4 * g + q) % 4 ≡ q = omega arith in
    let b : (4 * g + q) / 4 + 1 ≡ g + 1 = omega arith in
    ap (λ p. next s p ((4 * g + q) / 4 + 1) (λ i. omits i (suc (4 * g + q)))
    (run s inputs omits (4 * g + q))) a
    ∙ ap (λ f. next s q f (λ i. omits i (suc (4 * g + q))) (run s inputs omits (4 * g + q))) b

owner_is : (s : Setting) (g : ℕ) → 0 < s.nodes → owner s (g + 1) ≡ g % s.nodes
owner_is s g some =
    let e : g + 1 - 1 ≡ g = omega arith in
    ap (λ a. mod_or_0 a s.nodes) e
    ∙ ap (λ t. cond t 0 (g % s.nodes)) (ne_eqb s.nodes 0 (λ e. omega arith))

owns : (s : Setting) (g c : ℕ) → 0 < s.nodes → g % s.nodes ≡ c → (c == owner s (g + 1)) ≡ true
owns s g c some e = eq-eqb c (owner s (g + 1)) (sym e ∙ sym (owner_is s g some))

-- phase h + 1, which comes after clear phases of all other nodes, and the next one's owner
record Place (s : Setting) (living : ℕ → Bool) (clear last h c : ℕ) : Type 0 where
  some : 1 < s.nodes
  few : s.nodes ≤ 16
  -- the first clear phase comes after 4 * early rounds
  early : ℕ
  begins : clear ≤ 4 * early + 1
  behind : early ≤ h
  others : early + s.nodes ≤ h + 2
  ends : 4 * h + 7 ≤ last
  mine : (h + 1) % s.nodes ≡ c
  known : c < s.nodes
  lives : living c ≡ true

-- all nodes that live know the owner's input
all_know : (s : Setting) (inputs : ℕ → ℕ) (omits : ℕ → ℕ → ℕ → Bool) (living : ℕ → Bool)
    (clear last h c : ℕ) → Clear s inputs omits living clear last → Place s living clear last h c
    → (i : ℕ) → i < s.nodes → living i ≡ true
    → Has (run s inputs omits (4 * (h + 1)) i).proper (inputs c)
all_know s inputs omits living clear last h c run_is at i hi li = go (cases_lt turn.0 (h + 1))
  where
    lo : ℕ
    lo = h + 2 - s.nodes

    turn : (g : ℕ) × (lo ≤ g) × (g ≤ lo + (s.nodes - 1)) × ((g % s.nodes == i) ≡ true)
    turn =
        let one = counted_in (λ j. j == i) 0 s.nodes i (omega arith) (omega arith)
        (eq-eqb i i refl) in
        let some = at.some in
        living_turn (λ j. j == i) s.nodes (s.nodes - 1) lo (omega arith) (omega arith)

    is : turn.0 % s.nodes ≡ i
    is = eqb-true (turn.0 % s.nodes) i turn.3

    small : inputs c < 64
    small = let l = run_is.suits.inputs_in c at.known in let m = run_is.suits.values in omega arith

    go : (turn.0 < h + 1) ⊎ (h + 1 ≤ turn.0) → Has (run s inputs omits (4 * (h + 1)) i).proper
        (inputs c)
    go (inl before) =
        let g = turn.0 in
        let e : suc (4 * g + 0) + (4 * (h + 1) - suc (4 * g + 0)) ≡ 4 * (h + 1) = omega arith in
        let clear_now : clear ≤ suc (4 * g + 0) =
        let l = turn.1 in let b = at.begins in let o = at.others in let p = at.behind
        in omega arith in
        let within : suc (4 * g + 0) ≤ last = let l = at.ends in omega arith in
        subst (λ r. Has (run s inputs omits r i).proper (inputs c)) e
        (more_long s inputs omits i (inputs c) (suc (4 * g + 0)) (4 * (h + 1) - suc (4 * g + 0))
        small
        (subst (λ (w : World). Has (w i).proper (inputs c))
        (sym (run_at s inputs omits g 0 (omega arith)))
        (told1 s (run s inputs omits (4 * g + 0)) (omits i (suc (4 * g + 0))) (g + 1) i c (inputs c)
        small at.known (run_is.heard i (suc (4 * g + 0)) c hi at.known clear_now within li at.lives)
        (owns s g i (omega (arith, at.some)) is)
        (own s inputs omits run_is.suits (4 * g + 0) c at.known))))
    go (inr after) =
        let some = at.some in
        let g : turn.0 ≡ h + 1 = let l = turn.2 in omega arith in
        let same : c ≡ i = sym at.mine ∙ ap (λ x. x % s.nodes) (sym g) ∙ is in
        subst (λ j. Has (run s inputs omits (4 * (h + 1)) i).proper (inputs j)) (sym same)
        (own s inputs omits run_is.suits (4 * (h + 1)) i hi)

-- its owner decides in it
owner_decides_here : (s : Setting) (inputs : ℕ → ℕ) (omits : ℕ → ℕ → ℕ → Bool) (living : ℕ → Bool)
    (clear last h c : ℕ) → Clear s inputs omits living clear last → Place s living clear last h c
    → (v : ℕ) × Has (run s inputs omits (suc (4 * (h + 1) + 2)) c).done v
owner_decides_here s inputs omits living clear last h c run_is at =
    subst (λ r. (v : ℕ) × Has (run s inputs omits r c).done v)
    (let e : 4 * g + 3 ≡ suc (4 * g + 2) = omega arith in e)
    (owner_decides s inputs w o (g + 1) c living run_is.suits rounds heard
    (always s inputs omits run_is.suits (4 * g + 0))
    (always s inputs omits run_is.suits (4 * g + 2)) at.known at.lives
    (owns s g c (omega (arith, at.some)) at.mine) run_is.many accept)
  where
    g : ℕ
    g = h + 1

    w : ℕ → World
    w q = run s inputs omits (4 * g + q)

    o : ℕ → ℕ → ℕ → Bool
    o q i = omits i (suc (4 * g + q))

    next_is : (q r : ℕ) → q < 4 → suc (4 * g + q) ≡ 4 * g + r → w r ≡ next s q (g + 1) (o q) (w q)
    next_is q r lt e = ap (run s inputs omits) (sym e) ∙ run_at s inputs omits g q lt

    rounds : Rounds s o (g + 1) w
    rounds = record {
      first = next_is 0 1 (omega arith) (omega arith);
      second = next_is 1 2 (omega arith) (omega arith);
      third = next_is 2 3 (omega arith) (omega arith);
    }

    heard : (q i j : ℕ) → q < 3 → i < s.nodes → j < s.nodes → living i ≡ true → living j ≡ true
        → o q i j ≡ false
    heard q i j lt hi hj li l =
        let b = at.begins in let p = at.behind in let e = at.ends in
        run_is.heard i (suc (4 * g + q)) j hi hj (omega arith) (omega arith) li l

    -- the fourth round of the phase before
    then_ : World
    then_ = run s inputs omits (4 * h + 3)

    c4 : ℕ → ℕ → Bool
    c4 i = hears4 s (omits i (suc (4 * h + 3))) then_

    is : w 0 ≡ (λ i. release s (c4 i) then_ i)
    is =
        let e : 4 * g + 0 ≡ suc (4 * h + 3) = omega arith in
        ap (run s inputs omits) e ∙ run_at s inputs omits h 3 (omega arith)

    locks_heard : HearLocks s living c4 then_
    locks_heard i j u hi hj li lj hu some =
        let b = at.begins in let p = at.behind in let q = at.ends in
        and_from _ _ (ap not (run_is.heard i (suc (4 * h + 3)) j hi hj (omega arith) (omega arith)
        li lj))
        (holds_lock s (then_ j) u run_is.suits.values hu some)

    accept : (v : ℕ) × (v < s.values) × ((j : ℕ) → j < s.nodes → living j ≡ true
        → acceptable s (w 0 j) v ≡ true)
    accept =
        let e : 4 * (h + 1) ≡ 4 * g + 0 = omega arith in
        let it = common s then_ c4 living run_is.suits.values
        (known s inputs omits run_is.suits (4 * h + 3)) locks_heard (inputs c)
        (run_is.suits.inputs_in c at.known)
        (λ i hi li. subst (λ (f : World). Has (f i).proper (inputs c)) is
        (subst (λ r. Has (run s inputs omits r i).proper (inputs c)) e
        (all_know s inputs omits living clear last h c run_is at i hi li))) in (
          it.0,
          it.1,
          λ j hj l. subst (λ (f : World). acceptable s (f j) it.0 ≡ true) (sym is) (it.2 j hj l),
        )

-- each node that lives has decided within 2N - 1 phases
pub living_decide : (s : Setting) (inputs : ℕ → ℕ) (omits : ℕ → ℕ → ℕ → Bool) (living : ℕ → Bool)
    (clear last : ℕ) → Clear s inputs omits living clear last → 1 < s.nodes → s.nodes ≤ 16
    → 1 ≤ clear → 4 * ((clear + 2) / 4) + 4 * (2 * s.nodes - 1) - 1 ≤ last
    → (c : ℕ) → c < s.nodes → living c ≡ true
    → (v : ℕ) × (node_decision (run s inputs omits last c) ≡ Some v)
living_decide s inputs omits living clear last run_is some few begun past c hc live = (it.0, it.1)
  where
    early : ℕ
    early = (clear + 2) / 4

    turn : (g : ℕ) × (early + s.nodes - 1 ≤ g) × (g ≤ early + s.nodes - 1 + (s.nodes - 1))
        × ((g % s.nodes == c) ≡ true)
    turn =
        let one = counted_in (λ j. j == c) 0 s.nodes c (omega arith) (omega arith)
        (eq-eqb c c refl) in
        living_turn (λ j. j == c) s.nodes (s.nodes - 1) (early + s.nodes - 1) (omega arith)
        (omega arith)

    h : ℕ
    h = turn.0 - 1

    back : turn.0 ≡ h + 1
    back = let l = turn.1 in omega arith

    place : Place s living clear last h c
    place = record {
      some = some;
      few = few;
      early = early;
      begins = omega arith;
      behind = let l = turn.1 in omega arith;
      others = let l = turn.1 in omega arith;
      ends = let l = turn.2 in omega arith;
      mine = ap (λ x. x % s.nodes) (sym back) ∙ eqb-true (turn.0 % s.nodes) c turn.3;
      known = hc;
      lives = live;
    }

    done : (v : ℕ) × Has (run s inputs omits (suc (4 * (h + 1) + 2)) c).done v
    done = owner_decides_here s inputs omits living clear last h c run_is place

    small : done.0 < 64
    small =
        let l = below_values s inputs run_is.suits done.0
        ((always s inputs omits run_is.suits (suc (4 * (h + 1) + 2))).done c done.0 hc done.1) in
        let m = run_is.suits.values in
        omega arith

    it : (v : ℕ) × (first_member (members
        (set (run s inputs omits last c).done)) ≡ Some v)
    it =
        let l = turn.2 in
        let e : suc (4 * (h + 1) + 2) + (last - suc (4 * (h + 1) + 2)) ≡ last = omega arith in
        some_first (set (run s inputs omits last c).done) done.0 small
        (subst (λ r. Has (run s inputs omits r c).done done.0) e
        (stays_long s inputs omits c done.0 (suc (4 * (h + 1) + 2))
        (last - suc (4 * (h + 1) + 2)) small done.1))
