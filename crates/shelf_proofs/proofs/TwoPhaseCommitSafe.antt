-- Two-phase commit is safe with the votes 0 and 1: once the coordinator has its verdict, nobody
-- decides anything else, and the verdict is to commit only if it heard a 1 from all nodes.
use Rattle.std.proofs.Common.{◌≡◌, ℕ, zero, suc, ◌+◌, ◌<◌, ◌≤◌, ◌%◌, ◌/◌, Bool, true, false}
use Rattle.std.proofs.Common.{cond, min, refl, sym, ap, ◌∙◌, subst, inl, inr, ◌⊎◌, Some}
use Rattle.std.proofs.Common.{arith}
use Rattle.std.specs.Prelude.{◌&&◌, not, ◌==◌, slice_index}
use Rattle.std.specs.List.{range_with_len}
use Rattle.std.proofs.lemmas.Bool.{and_parts, eqb-true}
use Rattle.std.proofs.lemmas.Bool.{ne_eqb}
use Rattle.std.proofs.lemmas.List.Elements.{All-get_or}
use Rattle.round_lang.specs.Sets.{is_in, members, only}
use Rattle.round_meaning.specs.declared.setup.Setup.{Setup}
use Rattle.round_meaning.specs.Turn.{first_member}
use Rattle.round_meaning.proofs.Hearing.{count}
use Rattle.round_meaning.proofs.SetReading.{decided_in, in_only, none_in}
use Rattle.round_proofs.specs.Machines.{Round, hear, next_world}
use Rattle.round_proofs.specs.Safety.{IsAgreed, IsFit, IsKept}
use Rattle.round_proofs.proofs.Counting.{all_counted, counted_within, kept}
use Rattle.round_proofs.proofs.SetSizes.{only_itself, some_first}
use Rattle.shelf_proofs.proofs.TwoPhaseCommitSteps.{Node, decided, finish1, finish2}
use Rattle.shelf_proofs.proofs.TwoPhaseCommitSteps.{machine}
use Rattle.shelf_proofs.proofs.TwoPhaseCommitSteps.{message1, message2, sends1, sends2, take1}
use Rattle.shelf_proofs.proofs.TwoPhaseCommitSteps.{take2}
use Rattle.shelf_proofs.proofs.TwoPhaseCommitSteps.{top}

abbrev pub World : Type 0
World = ℕ → Node

-- every node votes to commit
abbrev pub AllVote : Setup → Type 0
AllVote s = (i : ℕ) → i < s.nodes → slice_index s.inputs i ≡ 1

-- the coordinator has a verdict, and each node decides it or nothing
pub record Settled (s : Setup) (w : World) : Type 0 where
  pub value : ℕ
  pub is : (w 0).verdict ≡ only 2 value
  pub few : value < 2
  pub commit : value ≡ 1 → AllVote s
  pub done : (i : ℕ) → i < s.nodes → ((w i).done ≡ 0) ⊎ ((w i).done ≡ only 2 value)

-- no round is over: no node has decided; and some round is over: there is a verdict
abbrev pub IsOpen : Setup → ℕ → World → Type 0
IsOpen s r w = (r ≡ 0) × ((i : ℕ) → i < s.nodes → (w i).done ≡ 0)

abbrev pub IsSettled : Setup → ℕ → World → Type 0
IsSettled s r w = (0 < r) × Settled s w

pub record Inv (s : Setup) (r : ℕ) (w : World) : Type 0 where
  pub votes : (i : ℕ) → i < s.nodes → (w i).x ≡ slice_index s.inputs i
  pub counts : (i : ℕ) → i < s.nodes → (w i).count ≡ 0
  pub settled : IsOpen s r w ⊎ IsSettled s r w

-- the coordinator's verdict is v
pub record Locked (s : Setup) (r : ℕ) (w : World) (v : ℕ) : Type 0 where
  pub begun : 0 < r
  pub settled : Settled s w
  pub same : settled.value ≡ v

vote_is : (s : Setup) → IsFit 2 s → (i : ℕ) → i < s.nodes → slice_index s.inputs i < 2
vote_is s fit i hi = All-get_or (λ x. x < 2) s.inputs i 0 (omega (arith, hi, fit.inputs)) fit.below

-- ---- the first round of a phase

abbrev c1 : Setup → Round → (ℕ → ℕ → Bool) → World → ℕ → ℕ → Bool
c1 s r o w i j = not (o i j) && sends1 2 s.nodes s.faults r (w j) j i

abbrev ear1 : Setup → Round → (ℕ → ℕ → Bool) → World → ℕ → Node
ear1 s r o w i =
    hear (take1 2 s.nodes s.faults r i) (c1 s r o w i)
    (λ j. message1 2 s.nodes s.faults r (w j) j i) (range_with_len 0 s.nodes) (w i)

abbrev after1 : Setup → Round → (ℕ → ℕ → Bool) → World → World
after1 s r o w i = finish1 2 s.nodes s.faults r i (ear1 s r o w i)

-- hearing changes nothing but the count
pub record Same (a b : Node) : Type 0 where
  pub x : b.x ≡ a.x
  pub verdict : b.verdict ≡ a.verdict
  pub done : b.done ≡ a.done

same1 : (s : Setup) (r : Round) (o : ℕ → ℕ → Bool) (w : World) (i : ℕ)
    → Same (w i) (ear1 s r o w i)
same1 s r o w i =
    kept (λ b. Same (w i) b) (take1 2 s.nodes s.faults r i) (c1 s r o w i)
    (λ j. message1 2 s.nodes s.faults r (w j) j i) 0 s.nodes
    (λ j lo hi t b h. record { x = h.x; verdict = h.verdict; done = h.done }) (w i)
    (record { x = refl; verdict = refl; done = refl })

one_vote : (c x : ℕ) → x < 2 → c < top → min (c + x) top ≡ c + cond (x == 1) 1 0
one_vote c zero h l = omega arith
one_vote c (suc zero) h l = omega arith
one_vote c (suc (suc x)) h l = absurd (omega arith)

-- a node that counts as many votes to commit as there are nodes has heard one from each
counts_all : (s : Setup) (r : Round) (o : ℕ → ℕ → Bool) (w : World) (q i : ℕ) → IsFit 2 s
    → Inv s q w → i < s.nodes → (ear1 s r o w i).count ≡ s.nodes → AllVote s
counts_all s r o w q i fit inv hi all j hj =
    sym (inv.votes j hj)
    ∙ eqb-true (w j).x 1
    (and_parts (c1 s r o w i j) ((w j).x == 1)
    (all_counted (λ j. c1 s r o w i j && ((w j).x == 1)) s.nodes (sym counted ∙ all) j hj)).1
  where
    none : (w i).count ≡ 0
    none = inv.counts i hi

    small : s.nodes ≤ 16
    small = fit.few_nodes

    counted : (ear1 s r o w i).count ≡ count (λ j. c1 s r o w i j && ((w j).x == 1)) 0 s.nodes
    counted =
        let e = counted_within (λ (b : Node). b.count) (λ j. (w j).x == 1) top
        (take1 2 s.nodes s.faults r i) (c1 s r o w i)
        (λ j. message1 2 s.nodes s.faults r (w j) j i) 0 s.nodes
        (λ j lo h b l. one_vote b.count (w j).x
        (subst (λ x. x < 2) (sym (inv.votes j (omega arith))) (vote_is s fit j (omega arith))) l)
        (w i) (omega (arith, none, small)) in
        omega (arith, e, none)

not_first : (i : ℕ) → (suc i == 0) ≡ false
not_first i = ne_eqb (suc i) 0 (λ e. omega arith)

later : (f : ℕ) → (suc (suc f) == 1) ≡ false
later f = ne_eqb (suc (suc f)) 1 (λ e. omega arith)

-- a node but the coordinator decides to abort, or what it had
other_done : (s : Setup) (r : Round) (o : ℕ → ℕ → Bool) (w : World) (i : ℕ)
    → (after1 s r o w (suc i)).done
    ≡ cond ((ear1 s r o w (suc i)).x == 0) (only 2 0) (ear1 s r o w (suc i)).done
other_done s r o w i = rw (not_first i) refl

-- in a later phase the coordinator has the verdict that it had
same_verdict : (s : Setup) (p number f : ℕ) (o : ℕ → ℕ → Bool) (w : World)
    → (after1 s (record { position = p; number = number; phase = suc (suc f) }) o w 0).verdict
    ≡ (ear1 s (record { position = p; number = number; phase = suc (suc f) }) o w 0).verdict
same_verdict s p number f o w = rw (later f) refl

-- in the first round of the first phase the coordinator comes to its verdict
begins : (s : Setup) (p : ℕ) (o : ℕ → ℕ → Bool) (w : World) → IsFit 2 s → Inv s 0 w
    → ((i : ℕ) → i < s.nodes → (w i).done ≡ 0)
    → Settled s (after1 s (record { position = p; number = 1; phase = 1 }) o w)
begins s p o w fit inv none = go ((ear1 s r o w 0).count == s.nodes) refl
  where
    r : Round
    r = record { position = p; number = 1; phase = 1 }

    z : World
    z = after1 s r o w

    -- of a node but the coordinator
    other : (i v : ℕ) → i < s.nodes → (v ≡ 1 → AllVote s) → v < 2 → (b : Bool)
        → ((ear1 s r o w i).x == 0) ≡ b
        → (cond b (only 2 0) (ear1 s r o w i).done ≡ 0)
        ⊎ (cond b (only 2 0) (ear1 s r o w i).done ≡ only 2 v)
    other i zero hi commit few true e = inr refl
    other i (suc zero) hi commit few true e =
        let vote = commit refl i hi in
        let x = eqb-true (ear1 s r o w i).x 0 e in
        let a = (same1 s r o w i).x in
        let b = inv.votes i hi in
        absurd (omega arith)
    other i (suc (suc v)) hi commit few true e = absurd (omega arith)
    other i v hi commit few false e = inl ((same1 s r o w i).done ∙ none i hi)

    go : (b : Bool) → ((ear1 s r o w 0).count == s.nodes) ≡ b → Settled s z
    go true e = record {
      value = 1;
      is = verdict;
      few = omega arith;
      commit = λ one. all;
      done = done;
    }
      where
        all : AllVote s
        all = counts_all s r o w 0 0 fit inv fit.some_node (eqb-true _ _ e)

        verdict : (z 0).verdict ≡ only 2 1
        verdict = rw e refl

        done : (i : ℕ) → i < s.nodes → ((z i).done ≡ 0) ⊎ ((z i).done ≡ only 2 1)
        done zero hi = inr verdict
        done (suc i) hi =
            subst (λ y. (y ≡ 0) ⊎ (y ≡ only 2 1)) (sym (other_done s r o w i))
            (other (suc i) 1 hi (λ one. all) (omega arith) ((ear1 s r o w (suc i)).x == 0) refl)
    go false e = record {
      value = 0;
      is = verdict;
      few = omega arith;
      commit = λ one. absurd (omega arith);
      done = done;
    }
      where
        verdict : (z 0).verdict ≡ only 2 0
        verdict = rw e refl

        done : (i : ℕ) → i < s.nodes → ((z i).done ≡ 0) ⊎ ((z i).done ≡ only 2 0)
        done zero hi = inr verdict
        done (suc i) hi =
            subst (λ y. (y ≡ 0) ⊎ (y ≡ only 2 0)) (sym (other_done s r o w i))
            (other (suc i) 0 hi (λ one. absurd (omega arith)) (omega arith)
            ((ear1 s r o w (suc i)).x == 0) refl)

-- in the first round of a later phase the verdict stays
stays1 : (s : Setup) (p number f q : ℕ) (o : ℕ → ℕ → Bool) (w : World) → Inv s q w
    → (l : Settled s w)
    → Locked s (suc q) (after1 s (record { position = p; number = number; phase = suc (suc f) }) o
    w) l.value
stays1 s p number f q o w inv l = record {
  begun = omega arith;
  settled = record {
    value = l.value;
    is = verdict;
    few = l.few;
    commit = l.commit;
    done = done;
  };
  same = refl;
}
  where
    r : Round
    r = record { position = p; number = number; phase = suc (suc f) }

    z : World
    z = after1 s r o w

    other : (i v : ℕ) → i < s.nodes → (v ≡ 1 → AllVote s) → v < 2
        → ((w i).done ≡ 0) ⊎ ((w i).done ≡ only 2 v) → (b : Bool)
        → ((ear1 s r o w i).x == 0) ≡ b
        → (cond b (only 2 0) (ear1 s r o w i).done ≡ 0)
        ⊎ (cond b (only 2 0) (ear1 s r o w i).done ≡ only 2 v)
    other i zero hi commit few was true e = inr refl
    other i (suc zero) hi commit few was true e =
        let vote = commit refl i hi in
        let x = eqb-true (ear1 s r o w i).x 0 e in
        let a = (same1 s r o w i).x in
        let b = inv.votes i hi in
        absurd (omega arith)
    other i (suc (suc v)) hi commit few was true e = absurd (omega arith)
    other i v hi commit few was false e =
        subst (λ y. (y ≡ 0) ⊎ (y ≡ only 2 v)) (sym (same1 s r o w i).done) was

    verdict : (z 0).verdict ≡ only 2 l.value
    verdict = same_verdict s p number f o w ∙ (same1 s r o w 0).verdict ∙ l.is

    done : (i : ℕ) → i < s.nodes → ((z i).done ≡ 0) ⊎ ((z i).done ≡ only 2 l.value)
    done zero hi = inr verdict
    done (suc i) hi =
        subst (λ y. (y ≡ 0) ⊎ (y ≡ only 2 l.value)) (sym (other_done s r o w i))
        (other (suc i) l.value hi l.commit l.few (l.done (suc i) hi)
        ((ear1 s r o w (suc i)).x == 0) refl)

-- ---- the second

abbrev c2 : Setup → Round → (ℕ → ℕ → Bool) → World → ℕ → ℕ → Bool
c2 s r o w i j = not (o i j) && sends2 2 s.nodes s.faults r (w j) j i

abbrev ear2 : Setup → Round → (ℕ → ℕ → Bool) → World → ℕ → Node
ear2 s r o w i =
    hear (take2 2 s.nodes s.faults r i) (c2 s r o w i)
    (λ j. message2 2 s.nodes s.faults r (w j) j i) (range_with_len 0 s.nodes) (w i)

abbrev after2 : Setup → Round → (ℕ → ℕ → Bool) → World → World
after2 s r o w i = finish2 2 s.nodes s.faults r i (ear2 s r o w i)

-- hearing brings the coordinator's verdict, or nothing
pub record Told (w : World) (a b : Node) : Type 0 where
  pub x : b.x ≡ a.x
  pub count : b.count ≡ a.count
  pub verdict : b.verdict ≡ a.verdict
  pub done : (b.done ≡ a.done) ⊎ (b.done ≡ (w 0).verdict)

told2 : (s : Setup) (r : Round) (o : ℕ → ℕ → Bool) (w : World) (i : ℕ)
    → Told w (w i) (ear2 s r o w i)
told2 s r o w i =
    kept (λ b. Told w (w i) b) (take2 2 s.nodes s.faults r i) (c2 s r o w i)
    (λ j. message2 2 s.nodes s.faults r (w j) j i) 0 s.nodes
    (λ j lo hi t b h. record {
      x = h.x;
      count = h.count;
      verdict = h.verdict;
      done = inr (ap (λ n. (w n).verdict) (eqb-true j 0 (and_parts (not (o i j)) (j == 0) t).1));
    }) (w i) (record { x = refl; count = refl; verdict = refl; done = inl refl })

stays2 : (s : Setup) (p number f q : ℕ) (o : ℕ → ℕ → Bool) (w : World) (l : Settled s w)
    → Locked s (suc q) (after2 s (record { position = p; number = number; phase = f }) o w) l.value
stays2 s p number f q o w l = record {
  begun = omega arith;
  settled = record {
    value = l.value;
    is = (told2 s r o w 0).verdict ∙ l.is;
    few = l.few;
    commit = l.commit;
    done = λ i hi. done i (l.done i hi) (told2 s r o w i).done;
  };
  same = refl;
}
  where
    r : Round
    r = record { position = p; number = number; phase = f }

    done : (i : ℕ) → ((w i).done ≡ 0) ⊎ ((w i).done ≡ only 2 l.value)
        → ((ear2 s r o w i).done ≡ (w i).done) ⊎ ((ear2 s r o w i).done ≡ (w 0).verdict)
        → ((ear2 s r o w i).done ≡ 0) ⊎ ((ear2 s r o w i).done ≡ only 2 l.value)
    done i was (inl e) = subst (λ y. (y ≡ 0) ⊎ (y ≡ only 2 l.value)) (sym e) was
    done i was (inr e) = inr (e ∙ l.is)

-- ---- rounds

abbrev after : Setup → (p number f : ℕ) → (ℕ → ℕ → Bool) → World → World
after s p number f o w =
    next_world (machine 2 s.nodes s.faults) s.nodes
    (record { position = p; number = number; phase = f }) o w

stays : (s : Setup) (q p f : ℕ) (o : ℕ → ℕ → Bool) (w : World) (v : ℕ) → q % 2 ≡ p → q / 2 + 1 ≡ f
    → Inv s q w → Locked s q w v → Locked s (suc q) (after s p (suc q) f o w) v
stays s q zero zero o w v e g inv l = absurd (omega arith)
stays s q zero (suc zero) o w v e g inv l = absurd (omega (arith, l.begun))
stays s q zero (suc (suc f)) o w v e g inv l =
    subst (Locked s (suc q) (after s zero (suc q) (suc (suc f)) o w)) l.same
    (stays1 s zero (suc q) f q o w inv l.settled)
stays s q (suc p) f o w v e g inv l =
    subst (Locked s (suc q) (after s (suc p) (suc q) f o w)) l.same
    (stays2 s (suc p) (suc q) f q o w l.settled)

goes_on : (s : Setup) (q p f : ℕ) (o : ℕ → ℕ → Bool) (w : World) → IsFit 2 s → q % 2 ≡ p
    → q / 2 + 1 ≡ f → Inv s q w → Inv s (suc q) (after s p (suc q) f o w)
goes_on s q zero f o w fit e g inv = record {
  votes = λ i hi. (same1 s (record { position = 0; number = suc q; phase = f }) o w i).x
      ∙ inv.votes i hi;
  counts = λ i hi. refl;
  settled = inr (omega arith, by q f e g inv inv.settled);
}
  where
    by : (q f : ℕ) → q % 2 ≡ 0 → q / 2 + 1 ≡ f → Inv s q w → IsOpen s q w ⊎ IsSettled s q w
        → Settled s (after s zero (suc q) f o w)
    by zero zero e g inv was = absurd (omega arith)
    by zero (suc zero) e g inv (inl none) = begins s 0 o w fit inv none.1
    by zero (suc (suc f)) e g inv (inl none) = absurd (omega arith)
    by (suc q) f e g inv (inl none) = absurd (omega (arith, none.0))
    by q f e g inv (inr l) =
        (stays s q zero f o w l.1.value e g inv
        (record { begun = l.0; settled = l.1; same = refl })).settled
goes_on s q (suc p) f o w fit e g inv = record {
  votes = λ i hi. (told2 s r o w i).x ∙ inv.votes i hi;
  counts = λ i hi. (told2 s r o w i).count ∙ inv.counts i hi;
  settled = inr (omega arith, by inv.settled);
}
  where
    r : Round
    r = record { position = suc p; number = suc q; phase = f }

    by : IsOpen s q w ⊎ IsSettled s q w → Settled s (after s (suc p) (suc q) f o w)
    by (inl none) = let zero_is = none.0 in absurd (omega arith)
    by (inr l) = (stays2 s (suc p) (suc q) f q o w l.1).settled

first : (s : Setup) → Inv s 0 (λ i. (machine 2 s.nodes s.faults).start (slice_index s.inputs i) i)
first s = record {
  votes = λ i hi. refl;
  counts = λ i hi. refl;
  settled = inl (refl, λ i hi. refl);
}

-- a node that has decided has decided the verdict
pub locks : (s : Setup) (r : ℕ) (w : World) (i v : ℕ) → Inv s r w → i < s.nodes
    → decided (w i) ≡ Some v → Locked s r w v
locks s r w i v inv hi d = by inv.settled
  where
    none : (w i).done ≡ 0 → ⊥
    none e = none_in v (subst (λ y. is_in y v ≡ true) e (decided_in (w i).done v d))

    by : IsOpen s r w ⊎ IsSettled s r w → Locked s r w v
    by (inl begun) = absurd (none (begun.1 i hi))
    by (inr l) = go (l.1.done i hi)
      where
        go : ((w i).done ≡ 0) ⊎ ((w i).done ≡ only 2 l.1.value) → Locked s r w v
        go (inl e) = absurd (none e)
        go (inr e) = record {
          begun = l.0;
          settled = l.1;
          same = sym (in_only 2 l.1.value v
              (subst (λ y. is_in y v ≡ true) e (decided_in (w i).done v d))).1;
        }

one_locked : (s : Setup) (r : ℕ) (w : World) (v u : ℕ) → Locked s r w v → Locked s r w u → v ≡ u
one_locked s r w v u a b =
    sym a.same
    ∙ (in_only 2 b.settled.value a.settled.value
    (subst (λ y. is_in y a.settled.value ≡ true) (sym a.settled.is ∙ b.settled.is)
    (only_itself 2 a.settled.value a.settled.few))).1
    ∙ b.same

pub two_phase_commit_agrees : (s : Setup) (omits : ℕ → ℕ → ℕ → Bool) (last : ℕ)
    (Counts : ℕ → ℕ → Type 0) → ((i r : ℕ) → Counts i r → i < s.nodes) → IsFit 2 s
    → IsAgreed (machine 2 s.nodes s.faults) s 2 omits last Counts decided (Inv s) (Locked s)
two_phase_commit_agrees s omits last Counts known fit = record {
  starts = first s;
  goes_on = λ r w lt inv.
      goes_on s r (r % 2) (r / 2 + 1) (λ i. omits i (suc r)) w fit refl refl inv;
  locks = λ r w i v le inv c d. locks s r w i v inv (known i r c) d;
  stays = λ r w v lt inv l.
      stays s r (r % 2) (r / 2 + 1) (λ i. omits i (suc r)) w v refl refl inv l;
  one = λ r w v u le inv a b. one_locked s r w v u a b;
}

-- a set of one value has a first member
one_first : (x c : ℕ) → c < 2 → x ≡ only 2 c → (u : ℕ) × (first_member (members x) ≡ Some u)
one_first x c h e =
    some_first x c (omega arith) (subst (λ y. is_in y c ≡ true) (sym e) (only_itself 2 c h))

-- a node that has decided has some decision after each later round
keeps : (s : Setup) (q p f : ℕ) (o : ℕ → ℕ → Bool) (w : World) (i v : ℕ) → Inv s q w
    → i < s.nodes → decided (w i) ≡ Some v
    → (u : ℕ) × (decided (after s p (suc q) f o w i) ≡ Some u)
keeps s q zero f o w zero v inv hi d = go (f == 1) refl
  where
    r : Round
    r = record { position = 0; number = suc q; phase = f }

    l : Locked s q w v
    l = locks s q w 0 v inv hi d

    go : (b : Bool) → (f == 1) ≡ b
        → (u : ℕ) × (decided (after s zero (suc q) f o w 0) ≡ Some u)
    go false e =
        one_first (after s zero (suc q) f o w 0).done l.settled.value l.settled.few
        (rw e ((same1 s r o w 0).verdict ∙ l.settled.is))
    go true e = by ((ear1 s r o w 0).count == s.nodes) refl
      where
        by : (b : Bool) → ((ear1 s r o w 0).count == s.nodes) ≡ b
            → (u : ℕ) × (decided (after s zero (suc q) f o w 0) ≡ Some u)
        by true g =
            one_first (after s zero (suc q) f o w 0).done 1 (omega arith) (rw (e, g) refl)
        by false g =
            one_first (after s zero (suc q) f o w 0).done 0 (omega arith) (rw (e, g) refl)
keeps s q zero f o w (suc i) v inv hi d = go ((ear1 s r o w (suc i)).x == 0) refl
  where
    r : Round
    r = record { position = 0; number = suc q; phase = f }

    go : (b : Bool) → ((ear1 s r o w (suc i)).x == 0) ≡ b
        → (u : ℕ) × (decided (after s zero (suc q) f o w (suc i)) ≡ Some u)
    go true e =
        one_first (after s zero (suc q) f o w (suc i)).done 0 (omega arith)
        (other_done s r o w i
        ∙ ap (λ b. cond b (only 2 0) (ear1 s r o w (suc i)).done) e)
    go false e = (
      v,
      ap (λ y. first_member (members y)) (other_done s r o w i
          ∙ ap (λ b. cond b (only 2 0) (ear1 s r o w (suc i)).done) e
          ∙ (same1 s r o w (suc i)).done) ∙ d,
    )
keeps s q (suc p) f o w i v inv hi d = go (told2 s r o w i).done
  where
    r : Round
    r = record { position = suc p; number = suc q; phase = f }

    l : Locked s q w v
    l = locks s q w i v inv hi d

    go : ((ear2 s r o w i).done ≡ (w i).done) ⊎ ((ear2 s r o w i).done ≡ (w 0).verdict)
        → (u : ℕ) × (decided (after s (suc p) (suc q) f o w i) ≡ Some u)
    go (inl e) = (v, ap (λ y. first_member (members y)) e ∙ d)
    go (inr e) =
        one_first (ear2 s r o w i).done l.settled.value l.settled.few (e ∙ l.settled.is)

pub two_phase_commit_kept : (s : Setup) (omits : ℕ → ℕ → ℕ → Bool) (last : ℕ)
    (Counts : ℕ → ℕ → Type 0) → ((i r : ℕ) → Counts i r → i < s.nodes)
    → IsKept (machine 2 s.nodes s.faults) s 2 omits last Counts decided (Inv s)
two_phase_commit_kept s omits last Counts known = record {
  keeps = λ r w i v lt inv c d.
      keeps s r (r % 2) (r / 2 + 1) (λ i. omits i (suc r)) w i v inv (known i (suc r) c) d;
}
