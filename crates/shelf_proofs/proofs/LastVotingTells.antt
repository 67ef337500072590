-- The last two rounds of a phase of LastVoting: the coordinator hears who took its vote, and tells
-- all to decide it.
use Rattle.std.proofs.Common.{◌≡◌, ℕ, ◌+◌, ◌<◌, ◌≤◌, ◌/◌, Bool, true}
use Rattle.std.proofs.Common.{refl, sym, ap, ◌∙◌, subst}
use Rattle.std.proofs.Common.{arith}
use Rattle.std.specs.Prelude.{◌&&◌, not, ◌==◌}
use Rattle.std.specs.List.{range_with_len}
use Rattle.std.proofs.lemmas.Bool.{and_parts, eqb-true}
use Rattle.std.proofs.lemmas.Bool.{ltb-true, le-leb}
use Rattle.round_lang.specs.Sets.{is_in, least}
use Rattle.round_meaning.specs.declared.setup.Setup.{Setup}
use Rattle.round_meaning.specs.Agreement.{IsInput}
use Rattle.round_meaning.proofs.Hearing.{count, count_more, some_counted}
use Rattle.round_meaning.proofs.SetReading.{in_only}
use Rattle.round_proofs.specs.Machines.{Round, hear}
use Rattle.round_proofs.proofs.Counting.{counted, kept}
use Rattle.shelf_proofs.proofs.LastVotingSteps.{Letter, Node, finish3}
use Rattle.shelf_proofs.proofs.LastVotingSteps.{finish4, message3}
use Rattle.shelf_proofs.proofs.LastVotingSteps.{message4, sends3, sends4}
use Rattle.shelf_proofs.proofs.LastVotingSteps.{take3, take4, top}
use Rattle.shelf_proofs.proofs.LastVotingInvariant.{World, since, Locked, Always, owner, Before}
use Rattle.shelf_proofs.proofs.LastVotingInvariant.{Taken, Ready, Suits, locked_same, one_more}
use Rattle.shelf_proofs.proofs.LastVotingVotes.{all_true}

abbrev pub c3 : (k : ℕ) → Setup → Round → (ℕ → ℕ → Bool) → World → ℕ → ℕ → Bool
c3 k s r o w i j = not (o i j) && sends3 k s.nodes s.faults r (w j) j i

abbrev pub ear3 : (k : ℕ) → Setup → Round → (ℕ → ℕ → Bool) → World → ℕ → Node
ear3 k s r o w i =
    hear (take3 k s.nodes s.faults r i) (c3 k s r o w i)
    (λ j. message3 k s.nodes s.faults r (w j) j i) (range_with_len 0 s.nodes) (w i)

abbrev pub after3 : (k : ℕ) → Setup → Round → (ℕ → ℕ → Bool) → World → World
after3 k s r o w i = finish3 k s.nodes s.faults r i (ear3 k s r o w i)

pub record Ear3 (s : Setup) (c : ℕ → Bool) (a b : Node) : Type 0 where
  pub x : b.x ≡ a.x
  pub stamp : b.stamp ≡ a.stamp
  pub newest : b.newest ≡ a.newest
  pub vote : b.vote ≡ a.vote
  pub done : b.done ≡ a.done
  pub counts : b.count ≡ count c 0 s.nodes

pub hear3 : (k : ℕ) (s : Setup) (r : Round) (o : ℕ → ℕ → Bool) (w : World) → Suits k s → (i : ℕ)
    → (w i).count ≡ 0 → Ear3 s (c3 k s r o w i) (w i) (ear3 k s r o w i)
hear3 k s r o w ok i none = record {
  x = frame (λ b. b.x ≡ (w i).x) (λ j b h. h) refl;
  stamp = frame (λ b. b.stamp ≡ (w i).stamp) (λ j b h. h) refl;
  newest = frame (λ b. b.newest ≡ (w i).newest) (λ j b h. h) refl;
  vote = frame (λ b. b.vote ≡ (w i).vote) (λ j b h. h) refl;
  done = frame (λ b. b.done ≡ (w i).done) (λ j b h. h) refl;
  counts =
      let few = ok.fit.few_nodes in
      let e = counted (λ (b : Node). b.count) (λ j. true) top take (c3 k s r o w i) m 0 s.nodes
      (λ j b h. one_more b.count h) (w i) (omega arith) in
      let f = all_true (c3 k s r o w i) 0 s.nodes in
      omega arith;
}
  where
    take : ℕ → Letter → Node → Node
    take = take3 k s.nodes s.faults r i

    m : ℕ → Letter
    m = λ j. message3 k s.nodes s.faults r (w j) j i

    frame : (J : Node → Type 0) → ((j : ℕ) (b : Node) → J b → J (take j (m j) b)) → J (w i)
        → J (ear3 k s r o w i)
    frame J step h = kept J take (c3 k s r o w i) m 0 s.nodes (λ j lo hi t b g. step j b g) (w i) h

pub same3 : (k : ℕ) (s : Setup) (r : Round) (o : ℕ → ℕ → Bool) (w : World) → Suits k s → Always s w
    → (i : ℕ) → i < s.nodes
    → ((after3 k s r o w i).x ≡ (w i).x) × ((after3 k s r o w i).stamp ≡ (w i).stamp)
same3 k s r o w ok a i hi = let h = hear3 k s r o w ok i (a.counts i hi) in (h.x, h.stamp)

pub locked3 : (k : ℕ) (s : Setup) (r : Round) (o : ℕ → ℕ → Bool) (w : World) (v : ℕ) → Suits k s
    → Taken k s r.phase w → Locked s 0 w v → Locked s 0 (after3 k s r o w) v
locked3 k s r o w v ok b l = locked_same s 0 0 w (after3 k s r o w) v
    (same3 k s r o w ok b.always) l

pub step3 : (k : ℕ) (s : Setup) (r : Round) (o : ℕ → ℕ → Bool) (w : World) → Suits k s
    → Taken k s r.phase w → Ready k s r.phase (after3 k s r o w)
step3 k s r o w ok b = record {
  always = record {
    inputs = λ i hi. subst (IsInput s) (sym (h i hi).x) (b.always.inputs i hi);
    counts = λ i hi. refl;
    newest = λ i hi. (h i hi).newest ∙ b.always.newest i hi;
    decided = λ i v hi g. locked3 k s r o w v ok b
        (b.always.decided i v hi (subst (λ d. is_in d v ≡ true) (h i hi).done g));
  };
  early = λ i hi. subst (λ n. n ≤ r.phase) (sym (h i hi).stamp) (b.early i hi);
  ready = λ i hi t. subst (λ u. Locked s 0 (after3 k s r o w) (least k u)) (sym (h i hi).vote)
      (locked3 k s r o w (least k (w i).vote) ok b
      (majority i hi (ltb-true (s.nodes / 2) (ear3 k s r o w i).count t)));
}
  where
    h : (i : ℕ) → i < s.nodes → Ear3 s (c3 k s r o w i) (w i) (ear3 k s r o w i)
    h i hi = hear3 k s r o w ok i (b.always.counts i hi)

    parts : (i j : ℕ) → c3 k s r o w i j ≡ true
        → ((w j).stamp ≡ r.phase) × (i ≡ owner s r.phase)
    parts i j t =
        let sent = (and_parts (not (o i j)) (((w j).stamp == r.phase) && (i == owner s r.phase))
        t).1
        in
        let both = and_parts ((w j).stamp == r.phase) (i == owner s r.phase) sent in
        (eqb-true (w j).stamp r.phase both.0, eqb-true i (owner s r.phase) both.1)

    majority : (i : ℕ) → i < s.nodes → s.nodes / 2 < (ear3 k s r o w i).count
        → Locked s 0 w (least k (w i).vote)
    majority i hi many =
        let e = (h i hi).counts in
        let j = some_counted (c3 k s r o w i) 0 s.nodes (omega arith) in
        let mine = (parts i j.0 j.3).1 in
        let more = count_more (c3 k s r o w i) (since w r.phase) 0 s.nodes
        (λ q lo hi t. le-leb r.phase (w q).stamp (let now = (parts i q t).0 in omega arith)) in
        record {
          phase = r.phase;
          many = omega arith;
          same = λ q hq le. b.taken q hq (let most = b.early q hq in omega arith)
              ∙ ap (λ p. least k (w p).vote) (sym mine);
        }

abbrev pub c4 : (k : ℕ) → Setup → Round → (ℕ → ℕ → Bool) → World → ℕ → ℕ → Bool
c4 k s r o w i j = not (o i j) && sends4 k s.nodes s.faults r (w j) j i

abbrev pub after4 : (k : ℕ) → Setup → Round → (ℕ → ℕ → Bool) → World → World
after4 k s r o w i =
    finish4 k s.nodes s.faults r i
    (hear (take4 k s.nodes s.faults r i) (c4 k s r o w i)
    (λ j. message4 k s.nodes s.faults r (w j) j i) (range_with_len 0 s.nodes) (w i))

pub record Ear4 (s : Setup) (w : World) (a b : Node) : Type 0 where
  pub x : b.x ≡ a.x
  pub stamp : b.stamp ≡ a.stamp
  pub count : b.count ≡ a.count
  pub newest : b.newest ≡ a.newest
  pub done : (v : ℕ) → is_in b.done v ≡ true → Locked s 0 w v

pub hear4 : (k : ℕ) (s : Setup) (r : Round) (o : ℕ → ℕ → Bool) (w : World) → Ready k s r.phase w
    → (i : ℕ) → i < s.nodes → Ear4 s w (w i) (after4 k s r o w i)
hear4 k s r o w b i hi = record {
  x = frame (λ b. b.x ≡ (w i).x) (λ j b h. h) refl;
  stamp = frame (λ b. b.stamp ≡ (w i).stamp) (λ j b h. h) refl;
  count = frame (λ b. b.count ≡ (w i).count) (λ j b h. h) refl;
  newest = frame (λ b. b.newest ≡ (w i).newest) (λ j b h. h) refl;
  done = kept (λ b. (v : ℕ) → is_in b.done v ≡ true → Locked s 0 w v) take (c4 k s r o w i) m 0
      s.nodes (λ j lo hj t a h v g. subst (Locked s 0 w)
      (sym (in_only k (least k (w j).vote) v g).1)
      (b.ready j (omega arith) (and_parts (not (o i j)) (w j).ready t).1))
      (w i) (λ v g. b.always.decided i v hi g);
}
  where
    take : ℕ → Letter → Node → Node
    take = take4 k s.nodes s.faults r i

    m : ℕ → Letter
    m = λ j. message4 k s.nodes s.faults r (w j) j i

    frame : (J : Node → Type 0) → ((j : ℕ) (b : Node) → J b → J (take j (m j) b)) → J (w i)
        → J (hear take (c4 k s r o w i) m (range_with_len 0 s.nodes) (w i))
    frame J step h = kept J take (c4 k s r o w i) m 0 s.nodes (λ j lo hi t b g. step j b g) (w i) h

pub locked4 : (k : ℕ) (s : Setup) (r : Round) (o : ℕ → ℕ → Bool) (w : World) (v : ℕ)
    → Ready k s r.phase w → Locked s 0 w v → Locked s 0 (after4 k s r o w) v
locked4 k s r o w v b l = locked_same s 0 0 w (after4 k s r o w) v
    (λ i hi. let h = hear4 k s r o w b i hi in (h.x, h.stamp)) l

pub step4 : (k : ℕ) (s : Setup) (r : Round) (o : ℕ → ℕ → Bool) (w : World)
    → Ready k s r.phase w → Before s (r.phase + 1) (after4 k s r o w)
step4 k s r o w b = record {
  always = record {
    inputs = λ i hi. subst (IsInput s) (sym (h i hi).x) (b.always.inputs i hi);
    counts = λ i hi. (h i hi).count ∙ b.always.counts i hi;
    newest = λ i hi. (h i hi).newest ∙ b.always.newest i hi;
    decided = λ i v hi g. locked4 k s r o w v b ((h i hi).done v g);
  };
  early = λ i hi. let le = b.early i hi in let e = (h i hi).stamp in omega arith;
  no_vote = λ i hi. refl;
  none_ready = λ i hi. refl;
}
  where
    h : (i : ℕ) → i < s.nodes → Ear4 s w (w i) (after4 k s r o w i)
    h i hi = hear4 k s r o w b i hi
