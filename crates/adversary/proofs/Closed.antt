-- A node and its run after a closed round.
use Rattle.std.proofs.Common.{◌≡◌, ℕ, suc, ◌+◌, ◌-◌, ◌<◌, ◌≤◌, List, [], ◌∷◌, ◌++◌, length, get_or}
use Rattle.std.proofs.Common.{subst, sym, ap, refl, ◌∙◌, arith, ◌⊎◌, inl, inr, length-append}
use Rattle.std.proofs.lemmas.Bool.{cases_lt}
use Rattle.std.proofs.lemmas.List.{get_or_past, get_or_push, get_or-set_same}
use Rattle.std.proofs.lemmas.Option.{same_Some}
use Rattle.round_lang.specs.declared.value.Value.{Value}
use Rattle.round_lang.specs.Syntax.{ProgramTree}
use Rattle.round_meaning.specs.declared.setup.Setup.{Setup}
use Rattle.round_meaning.specs.Rounds.{algorithm_of}
use Rattle.step_book.proofs.Hearing.{held_begins}
use Rattle.step_book.specs.Agreement.{row}
use Rattle.step_book.specs.Causes.{EndsAsRecorded, IsDueIn}
use Rattle.step_book.specs.Work.{AreCarried}
use Rattle.step_book.specs.World.{earliest}
use Rattle.step_book.specs.Log.{Log, closed, count_of, end_state, history, round_of, state_before}
use Rattle.step_book.specs.Log.{world_of}
use Rattle.step_machine.specs.Sealed.{HeldRow, held_at}
use Rattle.step_machine.specs.Nodes.{HasPlaces, HasSettled, IsEnd, IsSameTurn, NodeView, ahead}
use Rattle.step_machine.specs.Nodes.{held_now, held_of, inbox_of}
use Rattle.adversary.specs.Driving.{IsNodeOf}

-- a node with a round has a row
row_in : (v : Log) (i : ℕ) → 0 < round_of v i → (i < length v.rows) ⊎ (length v.rows ≤ i)
    → i < length v.rows
row_in v i h (inl l) = l
row_in v i h (inr past) = let none : length (row v.rows i) ≡ 0 =
    ap length (get_or_past v.rows i [] past) in absurd (omega arith)

-- the row of the node that ended a round has one state more
row_closed : (v : Log) (f : NodeView) → 0 < round_of v f.me
    → row (closed v f).rows f.me ≡ row v.rows f.me ++ end_state f ∷ []
row_closed v f h = get_or-set_same v.rows f.me (row v.rows f.me ++ end_state f ∷ []) []
    (row_in v f.me h (cases_lt _ _))

round-closed : (v : Log) (f : NodeView) → 0 < round_of v f.me
    → round_of (closed v f) f.me ≡ round_of v f.me + 1
round-closed v f h = ap length (row_closed v f h)
    ∙ length-append (row v.rows f.me) (end_state f ∷ [])

-- which is the last
state-closed : (v : Log) (f : NodeView) → 0 < round_of v f.me
    → state_before (closed v f) f.me (round_of (closed v f) f.me) ≡ end_state f
state-closed v f h =
    let last : length (row v.rows f.me) ≡ round_of (closed v f) f.me - 1 =
    omega (arith, round-closed v f h) in
    ap (λ x. get_or x (round_of (closed v f) f.me - 1) []) (row_closed v f h)
    ∙ get_or_push (row v.rows f.me) (end_state f) [] (round_of (closed v f) f.me - 1) last

end_of_same : (p q : ProgramTree) (s t : Setup) (a b i j : ℕ) (h k : HeldRow) (x y : List Value)
    → p ≡ q → s ≡ t → a ≡ b → i ≡ j → h ≡ k → x ≡ y
    → (algorithm_of p s).end a i (inbox_of h) x ≡ (algorithm_of q t).end b j (inbox_of k) y
end_of_same p q s t a b i j h k x y ps ss rounds nodes helds states =
    rw (ps, ss, rounds, nodes, helds, states) refl

-- a turn ends alike wherever it's looked at
ended_same : (n f : NodeView) → IsSameTurn n f → end_state f ≡ end_state n
ended_same n f h =
    end_of_same f.program n.program f.setup n.setup f.round n.round f.me n.me (held_now f)
    (held_now n) f.state n.state h.program h.setup h.round h.me
    (ap (λ x. get_or x 0 []) h.held) h.state

-- a node n of a run that finished its due round, as f
module _ (start : ℕ → ℕ) (v : Log) (n f : NodeView) (turn : IsSameTurn n f)
    (is : IsNodeOf start v n.me n) (first : 0 < round_of v n.me)
    (due : count_of v n.me ≡ start (round_of v n.me + 1)) where
  at_own : IsNodeOf start v f.me n
  at_own = subst (λ (i : ℕ). IsNodeOf start v i n) (sym turn.me) is

  first_own : 0 < round_of v f.me
  first_own = subst (λ (i : ℕ). 0 < round_of v i) (sym turn.me) first

  due_own : count_of v f.me ≡ start (round_of v f.me + 1)
  due_own = subst (λ (i : ℕ). count_of v i ≡ start (round_of v i + 1)) (sym turn.me) due

  -- its end isn't refused
  pub close_due : n.round ≤ v.setup.rounds → IsDueIn start v f
  close_due last =
      let own = at_own in
      let round : n.round ≡ round_of v f.me = own.round in
      let same : f.round ≡ n.round = turn.round in
      let over = due_own in
      ((omega (arith, last, round), omega (arith, over)), sym round ∙ sym same)

  pub close_ended : n.round ≤ v.setup.rounds → EndsAsRecorded start v f
  close_ended last =
      let own = at_own in
      let some = first_own in
      let round : f.round ≡ round_of v f.me = turn.round ∙ own.round in
      let here : n.round ≡ round_of v f.me = own.round in
      let held = own.held 0 (f.round - 1) (omega arith) (omega (arith, some, round))
      (omega (arith, some, round, here, last)) in (
        ap (state_before v f.me) round ∙ sym own.state ∙ sym turn.state,
        subst (λ x. AreCarried (world_of start v) (history v) f.me (f.round - 1) x)
            (sym (ap (λ x. get_or x 0 []) turn.held)) held,
      )

  -- settled it is in the next round
  pub node_closed : (r m : NodeView) → IsSameTurn n r → IsEnd r → HasSettled r m
      → IsNodeOf start (closed v f) n.me m
  node_closed r m same end settled =
      let own = at_own in
      let some = first_own in
      subst (λ (i : ℕ). IsNodeOf start (closed v f) i m) turn.me (record {
        program = settled.program ∙ same.program ∙ own.program;
        setup = settled.setup ∙ same.setup ∙ own.setup;
        me = settled.me ∙ same.me ∙ own.me;
        round = settled.round ∙ ap (λ x. x + 1) (same.round ∙ own.round)
            ∙ sym (round-closed v f some);
        state = same_Some m.state (end_state r) (settled.state ∙ end) ∙ ended_same n r same
            ∙ sym (ended_same n f turn) ∙ sym (state-closed v f some);
        places = settled.places v.setup.nodes
            (subst (λ x. HasPlaces v.setup.nodes x) (sym same.held) own.places);
        held = λ k q b at l.
            let next : round_of v f.me + 1 + k ≡ suc q = omega (arith, at, round-closed v f some) in
            held_after k q b next l (cases_lt k ahead);
      })
    where
      -- what was held of the rounds after the one that ended, and nothing of the last that it keeps
      -- now
      held_after : (k q : ℕ) → k ≤ ahead → round_of v f.me + 1 + k ≡ suc q → q < v.setup.rounds
          → (k < ahead) ⊎ (ahead ≤ k)
          → AreCarried (world_of start v) (history v) f.me q (held_of m k)
      held_after k q b next l (inl before) =
          let own : AreCarried (world_of start v) (history v) f.me q (held_of n (k + 1)) =
          at_own.held (k + 1) q (omega arith) (omega arith) l in
          subst (λ x. AreCarried (world_of start v) (history v) f.me q x)
          (sym (settled.kept k before ∙ ap (λ x. get_or x (k + 1) []) same.held)) own
      held_after k q b next l (inr past) =
          let last : k ≡ ahead = omega arith in
          let begin : earliest (suc q) ≡ round_of v f.me + 1 = omega arith in
          held_begins (world_of start v) (history v) f.me q (held_of m k)
          (omega (arith, due_own, ap start begin))
          (λ j c. ap (λ x. held_at (held_of m x) j) last ∙ settled.free j)
