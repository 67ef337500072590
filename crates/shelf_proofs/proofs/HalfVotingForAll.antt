-- LastVoting that takes (n + 1) div 2 nodes for a majority is LastVoting for an odd number of
-- nodes.
use Rattle.std.proofs.Common.{◌≡◌, ℕ, zero, suc, ◌+◌, ◌%◌, ◌/◌, ◌<◌, ◌≤◌, Bool, cond}
use Rattle.std.proofs.Common.{◌∷◌, [], min, refl, sym, ap, ◌∙◌, subst, inl, inr, ◌⊎◌}
use Rattle.std.proofs.Common.{Some, None, arith}
use Rattle.std.specs.Prelude.{nat_le, nat_lt, slice_get, if◌then◌else◌}
use Rattle.std.proofs.lemmas.Bool.{cases_lt, false_from_ne_true, le-leb, leb-true, lt-ltb, ltb-true}
use mathlib.Core.Path.{fun_ext}
use Rattle.round_lang.specs.declared.value.Value.{Value}
use Rattle.round_lang.specs.declared.value.Value.TheVariants.{Flag, Num}
use Rattle.round_lang.specs.Values.{div_or_0, of_set}
use Rattle.round_meaning.specs.Turn.{decision, message_taken, round_finished, sent}
use Rattle.round_meaning.specs.Turn.{with_dest, with_vars}
use Rattle.round_explorer.specs.declared.property.Property.TheVariants.{Safety}
use Rattle.round_proofs.specs.Explored.{Counted, HoldsForAll}
use Rattle.round_proofs.specs.Machines.{Machine, Round, Spells, env_in}
use Rattle.round_proofs.specs.Safety.{IsKept, IsSafe}
use Rattle.round_proofs.proofs.Choices.{choose_set}
use Rattle.round_proofs.proofs.Explored.{holds_for_all}
use Rattle.shelf_proofs.specs.HalfVoting.{AsksOddNodes, half_voting_tree}
use Rattle.shelf_proofs.proofs.LastVotingInvariant.{Locked}
use Rattle.shelf_proofs.proofs.LastVotingSafe.{Inv, last_voting_kept, last_voting_safe}
use Rattle.shelf_proofs.proofs.LastVotingSteps as voting
use Rattle.shelf_proofs.proofs.LastVotingSteps.{Letter, Node, decided, letter, letter_at}
use Rattle.shelf_proofs.proofs.LastVotingSteps.{message_at}
use Rattle.shelf_proofs.proofs.LastVotingSteps.{sends_at, state, take_at, top}

-- the count is half of n, or more
abbrev is_half : (n count : ℕ) → Bool
is_half n count = nat_le (div_or_0 (min (n + 1) top) 2) count

-- node i at the end of a round, by its position
abbrev finish_at : ℕ → (k n t : ℕ) → Round → (i : ℕ) → Node → Node
finish_at zero k n t r i a = record {
  x = a.x;
  stamp = a.stamp;
  count = 0;
  newest = 0;
  vote = (if is_half n a.count then a.vote else 0);
  ready = a.ready;
  done = a.done;
}
finish_at (suc zero) k n t r i a = a
finish_at (suc (suc zero)) k n t r i a = record {
  x = a.x;
  stamp = a.stamp;
  count = 0;
  newest = a.newest;
  vote = a.vote;
  ready = is_half n a.count;
  done = a.done;
}
finish_at (suc (suc (suc q))) k n t r i a = voting.finish4 k n t r i a

abbrev machine : (k n t : ℕ) → Machine Node Letter
machine k n t = record {
  start = λ x i. voting.start k n t x i;
  sends = λ r a j i. sends_at r.position k n t r a j i;
  message = λ r a j i. message_at r.position k n t r a j i;
  take = λ r i j l a. take_at r.position k n t r i j l a;
  finish = λ r i a. finish_at r.position k n t r i a;
}

sent_is : (k n t q number phase : ℕ) (a : Node) (j i : ℕ) → q < 4
    → sent (slice_get (half_voting_tree k).blocks q)
    (with_dest i (with_vars (state a) (env_in (half_voting_tree k) n t
    (record { position = q; number = number; phase = phase }) j)))
    ≡ (if sends_at q k n t (record { position = q; number = number; phase = phase }) a j i
    then Some (letter_at q
    (message_at q k n t (record { position = q; number = number; phase = phase }) a j i))
    else None)
sent_is k n t zero number phase a j i h = refl
sent_is k n t (suc zero) number phase a j i h = refl
sent_is k n t (suc (suc zero)) number phase a j i h = refl
sent_is k n t (suc (suc (suc zero))) number phase a j i h = refl
sent_is k n t (suc (suc (suc (suc q)))) number phase a j i h = absurd (omega arith)

took : (k n t q number phase i j : ℕ) (l : Letter) (a : Node) → q < 4
    → message_taken (slice_get (half_voting_tree k).blocks q)
    (env_in (half_voting_tree k) n t (record { position = q; number = number; phase = phase }) i)
    (record { from = j; message = letter_at q l }) (state a)
    ≡ state (take_at q k n t (record { position = q; number = number; phase = phase }) i j l a)
took k n t zero number phase i j l a h =
    (voting.spells k n t).take (record { position = 0; number = number; phase = phase }) i j l a h
took k n t (suc zero) number phase i j l a h = refl
took k n t (suc (suc zero)) number phase i j l a h = refl
took k n t (suc (suc (suc zero))) number phase i j l a h = refl
took k n t (suc (suc (suc (suc q)))) number phase i j l a h = absurd (omega arith)

finished : (k n t q number phase i : ℕ) (a : Node) → q < 4
    → round_finished (slice_get (half_voting_tree k).blocks q)
    (env_in (half_voting_tree k) n t (record { position = q; number = number; phase = phase }) i)
    (state a)
    ≡ state (finish_at q k n t (record { position = q; number = number; phase = phase }) i a)
finished k n t zero number phase i a h =
    ap (λ (z : Value). Num a.x ∷ Num a.stamp ∷ Num 0 ∷ Num 0 ∷ z ∷ Flag a.ready ∷ of_set a.done
    ∷ []) (choose_set (is_half n a.count) a.vote 0 (of_set a.vote) (of_set 0) refl refl)
finished k n t (suc zero) number phase i a h = refl
finished k n t (suc (suc zero)) number phase i a h = refl
finished k n t (suc (suc (suc zero))) number phase i a h = refl
finished k n t (suc (suc (suc (suc q)))) number phase i a h = absurd (omega arith)

-- the steps are those of the program
spells : (k n t : ℕ) → Spells (half_voting_tree k) n t (machine k n t) state letter
spells k n t = record {
  period = omega arith;
  start = λ x i. refl;
  send = λ r a j i h. sent_is k n t r.position r.number r.phase a j i h;
  take = λ r i j l a h. took k n t r.position r.number r.phase i j l a h;
  finish = λ r i a h. finished k n t r.position r.number r.phase i a h;
}

shows : (k : ℕ) (a : Node) → decision (half_voting_tree k) (state a) ≡ decided a
shows k a = refl

-- half of an odd number of nodes, rounded up, is a majority of them
half_is : (n count : ℕ) → n % 2 ≡ 1 → n ≤ 16 → is_half n count ≡ nat_lt (div_or_0 n 2) count
half_is n count odd few = go (cases_lt (n / 2) count)
  where
    go : (n / 2 < count) ⊎ (count ≤ n / 2)
        → nat_le (min (n + 1) top / 2) count ≡ nat_lt (n / 2) count
    go (inl l) = le-leb (min (n + 1) top / 2) count (omega arith) ∙ sym (lt-ltb (n / 2) count l)
    go (inr l) =
        false_from_ne_true (nat_le (min (n + 1) top / 2) count)
        (λ t. let le = leb-true (min (n + 1) top / 2) count t in omega arith)
        ∙ sym (false_from_ne_true (nat_lt (n / 2) count)
        (λ t. let lt = ltb-true (n / 2) count t in omega arith))

same_finish : (q k n t : ℕ) (r : Round) (i : ℕ) (a : Node) → n % 2 ≡ 1 → n ≤ 16
    → finish_at q k n t r i a ≡ voting.finish_at q k n t r i a
same_finish zero k n t r i a odd few =
    ap (λ b. record {
      x = a.x;
      stamp = a.stamp;
      count = 0;
      newest = 0;
      vote = cond b a.vote 0;
      ready = a.ready;
      done = a.done;
    }) (half_is n a.count odd few)
same_finish (suc zero) k n t r i a odd few = refl
same_finish (suc (suc zero)) k n t r i a odd few =
    ap (λ b. record {
      x = a.x;
      stamp = a.stamp;
      count = 0;
      newest = a.newest;
      vote = a.vote;
      ready = b;
      done = a.done;
    }) (half_is n a.count odd few)
same_finish (suc (suc (suc q))) k n t r i a odd few = refl

-- so its steps are LastVoting's
same_machine : (k n t : ℕ) → n % 2 ≡ 1 → n ≤ 16 → voting.machine k n t ≡ machine k n t
same_machine k n t odd few =
    ap (λ (f : Round → ℕ → Node → Node). record {
      start = λ x i. voting.start k n t x i;
      sends = λ r a j i. sends_at r.position k n t r a j i;
      message = λ r a j i. message_at r.position k n t r a j i;
      take = λ r i j l a. take_at r.position k n t r i j l a;
      finish = f;
    })
    (fun_ext (λ r. fun_ext (λ i. fun_ext (λ a.
    sym (same_finish r.position k n t r i a odd few)))))

pub is_safe : (k : ℕ) → k ≤ 64 → HoldsForAll (half_voting_tree k) AsksOddNodes Safety
is_safe k small =
    holds_for_all (half_voting_tree k) AsksOddNodes (machine k) state letter decided
    (λ s pattern. Inv k s) (λ s pattern r. Locked s 0) (spells k) (shows k)
    (λ s question pattern omits run.
    let few = run.fit.few_nodes in
    let same = same_machine k s.nodes s.faults run.asks few in (
      subst (λ m. IsSafe m s 4 omits s.rounds (Counted s pattern) decided (Inv k s)
          (λ r. Locked s 0)) same
          (last_voting_safe k s omits s.rounds (Counted s pattern) (λ i r c. c.0)
          (record { small = small; fit = run.fit })),
      subst (λ m. IsKept m s 4 omits s.rounds (Counted s pattern) decided (Inv k s)) same
          (last_voting_kept k s omits s.rounds (Counted s pattern) (λ i r c. c.0)
          (record { small = small; fit = run.fit })),
    ))
