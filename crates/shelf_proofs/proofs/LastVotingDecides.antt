-- LastVoting's nodes decide in a phase of clear rounds whose coordinator doesn't fail.
use Rattle.std.proofs.Common.{◌≡◌, ℕ, zero, suc, ◌+◌, ◌-◌, ◌*◌, ◌/◌, ◌%◌, ◌<◌, ◌≤◌, Bool, true}
use Rattle.std.proofs.Common.{false, ◌∙◌}
use Rattle.std.proofs.Common.{cond, refl, sym, ap, subst, inl, inr, Some}
use Rattle.std.proofs.Common.{arith}
use Rattle.std.specs.Prelude.{not, ⊤}
use Rattle.std.specs.List.{count_by, range_with_len}
use Rattle.std.proofs.lemmas.Bool.{and_parts, and_from, eq-eqb, lt-ltb, ne_eqb}
use Rattle.std.proofs.lemmas.Nat.{mod_below}
use Rattle.round_lang.specs.Sets.{least, only, size}
use Rattle.round_lang.specs.Values.{mod_or_0}
use Rattle.round_meaning.specs.declared.setup.Setup.{Setup}
use Rattle.round_meaning.specs.Agreement.{IsInput}
use Rattle.round_meaning.proofs.Hearing.{count, count-is, count_more}
use Rattle.round_meaning.proofs.SetReading.{member-size}
use Rattle.round_proofs.specs.Machines.{Round, next_world}
use Rattle.round_proofs.specs.Progress.{HearsLiving, IsProgress}
use Rattle.round_proofs.specs.Terminating.{IsMinority}
use Rattle.round_proofs.proofs.Counting.{gained}
use Rattle.round_proofs.proofs.Gaining.{gained_if}
use Rattle.round_proofs.proofs.SetSizes.{only_itself, some_first}
use Rattle.round_proofs.proofs.Turns.{living_turn}
use Rattle.shelf_proofs.specs.Bounds.{phases_bound}
use Rattle.shelf_proofs.proofs.LastVotingInvariant.{Before, Ready, Suits, Taken, World}
use Rattle.shelf_proofs.proofs.LastVotingInvariant.{below, holder, owner}
use Rattle.shelf_proofs.proofs.LastVotingVotes.{Ear1, Newest, after1, after2, c1, c2, ear1, hear1}
use Rattle.shelf_proofs.proofs.LastVotingTells.{after3, after4, c3, c4, ear3, hear3}
use Rattle.shelf_proofs.proofs.LastVotingSafe.{At, Inv}
use Rattle.shelf_proofs.proofs.LastVotingSteps.{Node, decided, machine, message2, message4}
use Rattle.shelf_proofs.proofs.LastVotingSteps.{take2, take4}

-- the phase's coordinator, which lives
pub record Coordinator (s : Setup) (living : ℕ → Bool) (f c : ℕ) : Type 0 where
  pub known : c < s.nodes
  pub lives : living c ≡ true
  pub owns : c ≡ owner s f

-- all nodes hear those that live, and these are a majority
pub record Clear (s : Setup) (living : ℕ → Bool) (o : ℕ → ℕ → Bool) : Type 0 where
  pub heard : (i j : ℕ) → i < s.nodes → j < s.nodes → living i ≡ true → living j ≡ true
      → o i j ≡ false
  pub most : s.nodes < 2 * count living 0 s.nodes

mod_is : (a n : ℕ) → 0 < n → mod_or_0 a n ≡ a % n
mod_is a n h = ap (λ t. cond t 0 (a % n)) (ne_eqb n 0 (λ e. omega arith))

-- a phase of clear rounds, which comes after 4 * before others, and whose coordinator lives
pub record ClearPhase (s : Setup) (omits : ℕ → ℕ → ℕ → Bool) (living : ℕ → Bool) (end : ℕ) : Type 0
  where
    pub before : ℕ
    pub past : 4 * before + 4 ≤ end
    pub leads : Coordinator s living (before + 1) (before % s.nodes)
    pub clear : (q : ℕ) → q < 4 → Clear s living (λ i. omits i (suc (4 * before + q)))

-- of t + 1 phases of clear rounds, one is such
pub clear_phase : (s : Setup) (omits : ℕ → ℕ → ℕ → Bool) (living : ℕ → Bool) (clear end : ℕ)
    → 0 < s.nodes → IsMinority s.nodes s.faults → HearsLiving s living omits clear end → 1 ≤ clear
    → phases_bound s.nodes s.faults clear ≤ end → ClearPhase s omits living end
clear_phase s omits living clear end some few hears begun enough = record {
  before = g;
  past = omega (arith, enough, turn.2);
  leads = record {
    known = mod_below g s.nodes some;
    lives = turn.3;
    owns = sym (mod_is g s.nodes some) ∙ ap (λ p. mod_or_0 p s.nodes) back;
  };
  clear = λ q hq. record {
    heard = λ i j hi hj l t. hears.heard i (suc (4 * g + q)) j hi hj (omega (arith, turn.1))
        (omega (arith, enough, turn.2)) l t;
    most = omega (arith, hears.many, few, e);
  };
}
  where
    e : count_by living (range_with_len 0 s.nodes) ≡ count living 0 s.nodes
    e = count-is living 0 s.nodes

    turn : (g : ℕ) × ((clear + 2) / 4 ≤ g) × (g ≤ (clear + 2) / 4 + s.faults)
        × (living (g % s.nodes) ≡ true)
    turn = living_turn living s.nodes s.faults ((clear + 2) / 4) (omega (arith, few))
        (omega (arith, e, hears.many))

    g : ℕ
    g = turn.0

    back : g ≡ g + 1 - 1
    back = omega arith

-- the coordinator has a vote; all have taken it in this phase; the coordinator knows that; all have
-- decided
abbrev pub Reached : Setup → (ℕ → Bool) → (f c : ℕ) → ℕ → World → Type 0
Reached s living f c zero w = ⊤
Reached s living f c (suc zero) w = 0 < size (w c).vote
Reached s living f c (suc (suc zero)) w =
    (i : ℕ) → i < s.nodes → living i ≡ true → (w i).stamp ≡ f
Reached s living f c (suc (suc (suc zero))) w = (w c).ready ≡ true
Reached s living f c (suc (suc (suc (suc q)))) w =
    (i : ℕ) → i < s.nodes → living i ≡ true → (v : ℕ) × (decided (w i) ≡ Some v)

pub votes : (k : ℕ) (s : Setup) (r : Round) (o : ℕ → ℕ → Bool) (w : World) (living : ℕ → Bool)
    (c : ℕ)
    → Suits k s → Coordinator s living r.phase c → Clear s living o → Before s r.phase w
    → 0 < size (after1 k s r o w c).vote
votes k s r o w living c ok lead clear b =
    subst (λ t. 0 < size (cond t e.vote 0)) (sym (lt-ltb (s.nodes / 2) e.count many))
    (by h.newest)
  where
    e : Node
    e = ear1 k s r o w c

    h : Ear1 k s (c1 k s r o w c) w (w c) e
    h = hear1 k s r o w ok c (b.always.counts c lead.known) (b.always.newest c lead.known)

    many : s.nodes / 2 < e.count
    many =
        let more = count_more living (c1 k s r o w c) 0 s.nodes
        (λ j lo hi t. and_from _ _ (ap not (clear.heard c j lead.known (omega arith) lead.lives t))
        (eq-eqb c (owner s r.phase) lead.owns)) in
        omega (arith, h.counts, clear.most)

    by : Newest k s w e → 0 < size e.vote
    by (inl none) = absurd (omega (arith, none.0, many))
    by (inr it) =
        let p = it.1 in
        let lt = below k s ok (w p.0).x (b.always.inputs p.0 p.1) in
        subst (λ z. 0 < size z) (sym p.2)
        (member-size (only k (w p.0).x) (w p.0).x (omega (arith, ok.small))
        (only_itself k (w p.0).x lt))

pub take : (k : ℕ) (s : Setup) (r : Round) (o : ℕ → ℕ → Bool) (w : World) (living : ℕ → Bool)
    (c : ℕ)
    → Coordinator s living r.phase c → Clear s living o → 0 < size (w c).vote
    → (i : ℕ) → i < s.nodes → living i ≡ true → (after2 k s r o w i).stamp ≡ r.phase
take k s r o w living c lead clear some i hi live =
    let known = lead.known in
    gained (λ (b : Node). b.stamp ≡ r.phase) (take2 k s.nodes s.faults r i) (c2 k s r o w i)
    (λ j. message2 k s.nodes s.faults r (w j) j i) 0 s.nodes c (omega arith) (omega arith)
    (and_from _ _ (ap not (clear.heard i c hi lead.known live lead.lives))
    (lt-ltb 0 (size (w c).vote) some))
    (λ a. refl) (λ j a h. refl) (w i)

knows : (k : ℕ) (s : Setup) (r : Round) (o : ℕ → ℕ → Bool) (w : World) (living : ℕ → Bool) (c : ℕ)
    → Suits k s → Coordinator s living r.phase c → Clear s living o → Taken k s r.phase w
    → ((i : ℕ) → i < s.nodes → living i ≡ true → (w i).stamp ≡ r.phase) → (after3 k s r o w c).ready
    ≡ true
knows k s r o w living c ok lead clear b took =
    let h = hear3 k s r o w ok c (b.always.counts c lead.known) in
    let more = count_more living (c3 k s r o w c) 0 s.nodes
    (λ j lo hi t. and_from _ _ (ap not (clear.heard c j lead.known (omega arith) lead.lives t))
    (and_from _ _ (eq-eqb (w j).stamp r.phase (took j (omega arith) t))
    (eq-eqb c (owner s r.phase) lead.owns))) in
    lt-ltb (s.nodes / 2) (ear3 k s r o w c).count (omega (arith, h.counts, clear.most))

tell : (k : ℕ) (s : Setup) (r : Round) (o : ℕ → ℕ → Bool) (w : World) (living : ℕ → Bool) (c : ℕ)
    → Suits k s → Coordinator s living r.phase c → Clear s living o → Ready k s r.phase w
    → (w c).ready ≡ true → (i : ℕ) → i < s.nodes → living i ≡ true
    → (v : ℕ) × (decided (after4 k s r o w i) ≡ Some v)
tell k s r o w living c ok lead clear b ready i hi live =
    let known = lead.known in
    gained_if (λ b. (v : ℕ) × (decided b ≡ Some v)) (take4 k s.nodes s.faults r i) (c4 k s r o w i)
    (λ j. message4 k s.nodes s.faults r (w j) j i) 0 s.nodes c (omega arith) (omega arith)
    (and_from _ _ (ap not (clear.heard i c hi lead.known live lead.lives)) ready)
    (λ j lo hj t a. told j (omega arith) (and_parts (not (o i j)) (w j).ready t).1) (w i)
  where
    told : (j : ℕ) → j < s.nodes → (w j).ready ≡ true
        → (v : ℕ) × (decided
        (take4 k s.nodes s.faults r i j (message4 k s.nodes s.faults r (w j) j i)
        (w i)) ≡ Some v)
    told j hj t =
        let l = b.ready j hj t in
        let it = holder s 0 w (least k (w j).vote) l in
        let lt = below k s ok (least k (w j).vote) (subst (IsInput s) it.3
        (b.always.inputs it.0 it.1)) in
        some_first (only k (least k (w j).vote)) (least k (w j).vote) (omega (arith, ok.small))
        (only_itself k (least k (w j).vote) lt)

-- each round brings the nodes one further
stage_on : (k : ℕ) (s : Setup) → Suits k s → (living : ℕ → Bool) (f c : ℕ)
    → Coordinator s living f c → (o : ℕ → ℕ → Bool) → Clear s living o
    → (q number : ℕ) (w : World) → q < 4 → At k s q f w → Reached s living f c q w
    → Reached s living f c (suc q) (next_world (machine k s.nodes s.faults) s.nodes
    (record { position = q; number = number; phase = f }) o w)
stage_on k s ok living f c lead o clear zero number w lt a h =
    votes k s (record { position = 0; number = number; phase = f }) o w living c ok lead clear a
stage_on k s ok living f c lead o clear (suc zero) number w lt a h =
    take k s (record { position = 1; number = number; phase = f }) o w living c lead clear h
stage_on k s ok living f c lead o clear (suc (suc zero)) number w lt a h =
    knows k s (record { position = 2; number = number; phase = f }) o w living c ok lead clear a h
stage_on k s ok living f c lead o clear (suc (suc (suc zero))) number w lt a h =
    tell k s (record { position = 3; number = number; phase = f }) o w living c ok lead clear a h
stage_on k s ok living f c lead o clear (suc (suc (suc (suc q)))) number w lt a h =
    absurd (omega arith)

-- phase g + 1, whose rounds come after 4 g others
pub last_voting_decides : (k : ℕ) (s : Setup) (omits : ℕ → ℕ → ℕ → Bool) (g c : ℕ)
    (living : ℕ → Bool) → Suits k s → Coordinator s living (g + 1) c
    → ((q : ℕ) → q < 4 → Clear s living (λ i. omits i (suc (4 * g + q))))
    → IsProgress (machine k s.nodes s.faults) s 4 omits (4 * g) 4 living decided (Inv k s)
    (Reached s living (g + 1) c)
last_voting_decides k s omits g c living ok lead clear = record {
  begins = λ w inv. tt;
  gets_on = gets_on;
  ends = λ w i inv h hi live. h i hi live;
}
  where
    gets_on : (q : ℕ) (w : World) → q < 4 → Inv k s (4 * g + q) w → Reached s living (g + 1) c q w
        → Reached s living (g + 1) c (suc q) (next_world (machine k s.nodes s.faults) s.nodes
        (record {
          position = (4 * g + q) % 4;
          number = suc (4 * g + q);
          phase = (4 * g + q) / 4 + 1;
        }) (λ i. omits i (suc (4 * g + q))) w)
    gets_on q w lt inv h =
        let a : (4 * g + q) % 4 ≡ q = omega arith in
        let b : (4 * g + q) / 4 + 1 ≡ g + 1 = omega arith in
        let now : At k s q (g + 1) w =
        subst (λ p. At k s p (g + 1) w) a
        (subst (λ f. At k s ((4 * g + q) % 4) f w) b inv) in
        let next = stage_on k s ok living (g + 1) c lead (λ i. omits i (suc (4 * g + q)))
        (clear q lt) q (suc (4 * g + q)) w lt now h in
        subst (λ p. Reached s living (g + 1) c (suc q) (next_world (machine k s.nodes s.faults)
        s.nodes
        (record { position = p; number = suc (4 * g + q); phase = (4 * g + q) / 4 + 1 })
        (λ i. omits i (suc (4 * g + q))) w)) (sym a)
        (subst (λ f. Reached s living (g + 1) c (suc q) (next_world (machine k s.nodes s.faults)
        s.nodes
        (record { position = q; number = suc (4 * g + q); phase = f })
        (λ i. omits i (suc (4 * g + q))) w)) (sym b) next)
