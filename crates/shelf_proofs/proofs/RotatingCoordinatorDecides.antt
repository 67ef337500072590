-- The rotating coordinator's nodes decide in a phase of clear rounds whose coordinator doesn't
-- fail.
use Rattle.std.proofs.Common.{◌≡◌, ℕ, zero, suc, ◌+◌, ◌*◌, ◌/◌, ◌%◌, ◌<◌, Bool, true}
use Rattle.std.proofs.Common.{cond, sym, ap, subst, Some, arith}
use Rattle.std.specs.Prelude.{◌&&◌, not, nat_lt, ⊤}
use Rattle.std.proofs.lemmas.Bool.{and_parts, and_from, eq-eqb, lt-ltb, ltb-true}
use Rattle.round_lang.specs.Sets.{is_in, least, size}
use Rattle.round_meaning.specs.declared.setup.Setup.{Setup}
use Rattle.round_meaning.specs.Agreement.{IsInput}
use Rattle.round_meaning.proofs.Hearing.{count_more}
use Rattle.round_meaning.proofs.SetReading.{member-size}
use Rattle.round_proofs.specs.Machines.{Round, next_world}
use Rattle.round_proofs.specs.Progress.{IsProgress}
use Rattle.round_proofs.proofs.Gaining.{gained_if}
use Rattle.shelf_proofs.proofs.LastVotingDecides.{Clear, Coordinator, take, votes}
use Rattle.shelf_proofs.proofs.LastVotingInvariant.{Locked, Suits, Taken, World, below, holder}
use Rattle.shelf_proofs.proofs.LastVotingInvariant.{owner}
use Rattle.shelf_proofs.proofs.LastVotingSteps.{decided}
use Rattle.shelf_proofs.proofs.RotatingCoordinatorSafe.{At, Ear3, Inv, Told, acknowledged, acks}
use Rattle.shelf_proofs.proofs.RotatingCoordinatorSafe.{hear3, some_decision}
use Rattle.shelf_proofs.proofs.RotatingCoordinatorSteps.{after3, after4, c3, c4, ear3, machine}
use Rattle.shelf_proofs.proofs.RotatingCoordinatorSteps.{message4, next, next_is, take4}

-- the coordinator has a pick; all have taken it in this phase; the coordinator has decided; all
-- have
abbrev pub Reached : Setup → (ℕ → Bool) → (f c : ℕ) → ℕ → World → Type 0
Reached s living f c zero w = ⊤
Reached s living f c (suc zero) w = 0 < size (w c).vote
Reached s living f c (suc (suc zero)) w =
    (i : ℕ) → i < s.nodes → living i ≡ true → (w i).stamp ≡ f
Reached s living f c (suc (suc (suc zero))) w = 0 < size (w c).done
Reached s living f c (suc (suc (suc (suc q)))) w =
    (i : ℕ) → i < s.nodes → living i ≡ true → (v : ℕ) × (decided (w i) ≡ Some v)

-- a coordinator to whom all nodes that live say ack decides
pick : (k : ℕ) (s : Setup) (r : Round) (o : ℕ → ℕ → Bool) (w : World) (living : ℕ → Bool) (c : ℕ)
    → Suits k s → Coordinator s living r.phase c → Clear s living o → Taken k s r.phase w
    → ((i : ℕ) → i < s.nodes → living i ≡ true → (w i).stamp ≡ r.phase)
    → 0 < size (after3 s r o w c).done
pick k s r o w living c ok lead clear b took =
    subst (λ t. 0 < size (cond t (ear3 s r o w c).vote (ear3 s r o w c).done))
    (sym (lt-ltb (s.nodes / 2) (ear3 s r o w c).count many))
    (member-size (ear3 s r o w c).vote (least k (w c).vote) (omega (arith, ok.small, lt))
    (subst (λ z. is_in z (least k (w c).vote) ≡ true) (sym h.vote) it.1))
  where
    h : Ear3 s (c3 s r o c) w r.phase (w c) (ear3 s r o w c)
    h = hear3 k s r o w ok c (b.always.counts c lead.known)

    many : s.nodes / 2 < (ear3 s r o w c).count
    many =
        let more = count_more living (λ j. c3 s r o c j && acks w r.phase j) 0 s.nodes
        (λ j lo hi t. and_from _ _
        (and_from _ _ (ap not (clear.heard c j lead.known (omega arith) lead.lives t))
        (eq-eqb c (owner s r.phase) lead.owns))
        (eq-eqb (w j).stamp r.phase (took j (omega arith) t))) in
        omega (arith, h.counts, clear.most)

    it : Locked s 0 w (least k (w c).vote)
        × (is_in (w c).vote (least k (w c).vote) ≡ true)
    it = acknowledged k s r o w ok b c lead.known many

    lt : least k (w c).vote < k
    lt =
        let p = holder s 0 w (least k (w c).vote) it.0 in
        below k s ok (least k (w c).vote) (subst (IsInput s) p.3 (b.always.inputs p.0 p.1))

-- it tells all
tell : (k : ℕ) (s : Setup) (f : ℕ) (o : ℕ → ℕ → Bool) (w : World) (living : ℕ → Bool) (c : ℕ)
    → Suits k s → Coordinator s living f c → Clear s living o → Told s f w
    → 0 < size (w c).done → (i : ℕ) → i < s.nodes → living i ≡ true
    → (v : ℕ) × (decided (after4 s o w i) ≡ Some v)
tell k s f o w living c ok lead clear b some i hi live =
    let known = lead.known in
    gained_if (λ b. (v : ℕ) × (decided b ≡ Some v)) (λ j. take4) (c4 o w i) (λ j. message4 (w j)) 0
    s.nodes c (omega arith) (omega arith)
    (and_from _ _ (ap not (clear.heard i c hi lead.known live lead.lives))
    (lt-ltb 0 (size (w c).done) some))
    (λ j lo hj t a. some_decision k s w ok b.always j (omega arith)
    (ltb-true 0 (size (w j).done) (and_parts (not (o i j)) (nat_lt 0 (size (w j).done)) t).1)) (w i)

-- each round brings the nodes one further
stage_on : (k : ℕ) (s : Setup) → Suits k s → (living : ℕ → Bool) (f c : ℕ)
    → Coordinator s living f c → (o : ℕ → ℕ → Bool) → Clear s living o
    → (q number : ℕ) (w : World) → q < 4 → At k s q f w → Reached s living f c q w
    → Reached s living f c (suc q)
    (next k s q (record { position = q; number = number; phase = f }) o w)
stage_on k s ok living f c lead o clear zero number w lt a h =
    votes k s (record { position = 0; number = number; phase = f }) o w living c ok lead clear a
stage_on k s ok living f c lead o clear (suc zero) number w lt a h =
    take k s (record { position = 1; number = number; phase = f }) o w living c lead clear h
stage_on k s ok living f c lead o clear (suc (suc zero)) number w lt a h =
    pick k s (record { position = 2; number = number; phase = f }) o w living c ok lead clear a h
stage_on k s ok living f c lead o clear (suc (suc (suc zero))) number w lt a h =
    tell k s f o w living c ok lead clear a h
stage_on k s ok living f c lead o clear (suc (suc (suc (suc q)))) number w lt a h =
    absurd (omega arith)

-- phase g + 1, whose rounds come after 4 g others
pub rotating_coordinator_decides : (k : ℕ) (s : Setup) (omits : ℕ → ℕ → ℕ → Bool) (g c : ℕ)
    (living : ℕ → Bool) → Suits k s → Coordinator s living (g + 1) c
    → ((q : ℕ) → q < 4 → Clear s living (λ i. omits i (suc (4 * g + q))))
    → IsProgress (machine k s.nodes s.faults) s 4 omits (4 * g) 4 living decided (Inv k s)
    (Reached s living (g + 1) c)
rotating_coordinator_decides k s omits g c living ok lead clear = record {
  begins = λ w inv. tt;
  gets_on = gets_on;
  ends = λ w i inv h hi live. h i hi live;
}
  where
    gets_on : (q : ℕ) (w : World) → q < 4 → Inv k s (4 * g + q) w → Reached s living (g + 1) c q w
        → Reached s living (g + 1) c (suc q) (next_world (machine k s.nodes s.faults) s.nodes
        (record {
          position = (4 * g + q) % 4;
          number = suc (4 * g + q);
          phase = (4 * g + q) / 4 + 1;
        }) (λ i. omits i (suc (4 * g + q))) w)
    gets_on q w lt inv h =
        let a : (4 * g + q) % 4 ≡ q = omega arith in
        let b : (4 * g + q) / 4 + 1 ≡ g + 1 = omega arith in
        let now : At k s q (g + 1) w =
        subst (λ p. At k s p (g + 1) w) a
        (subst (λ f. At k s ((4 * g + q) % 4) f w) b inv) in
        let step = stage_on k s ok living (g + 1) c lead (λ i. omits i (suc (4 * g + q)))
        (clear q lt) q (suc (4 * g + q)) w lt now h in
        let next = subst (Reached s living (g + 1) c (suc q))
        (sym (next_is k s q (suc (4 * g + q)) (g + 1) (λ i. omits i (suc (4 * g + q))) w)) step in
        subst (λ p. Reached s living (g + 1) c (suc q) (next_world (machine k s.nodes s.faults)
        s.nodes
        (record { position = p; number = suc (4 * g + q); phase = (4 * g + q) / 4 + 1 })
        (λ i. omits i (suc (4 * g + q))) w)) (sym a)
        (subst (λ f. Reached s living (g + 1) c (suc q) (next_world (machine k s.nodes s.faults)
        s.nodes
        (record { position = q; number = suc (4 * g + q); phase = f })
        (λ i. omits i (suc (4 * g + q))) w)) (sym b) next)
