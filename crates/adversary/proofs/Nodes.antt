-- A node of a run as the run goes on.
use Rattle.std.proofs.Common.{◌≡◌, ℕ, suc, ◌+◌, ◌-◌, ◌<◌, ◌≤◌, false, ◌&&◌, List, [], ◌∷◌, Option}
use Rattle.std.proofs.Common.{length, get_or, refl, sym, ap, subst, ◌∙◌, arith}
use Rattle.std.specs.Prelude.{All}
use Rattle.std.proofs.lemmas.Bool.{and_left, and_right, le-leb, lt-leb}
use Rattle.round_lang.specs.declared.value.Value.{Value}
use Rattle.round_meaning.specs.declared.setup.Setup.{Setup}
use Rattle.round_meaning.specs.Rounds.{algorithm_of}
use Rattle.step_book.proofs.Hearing.{IsTold, held_on, held_received}
use Rattle.step_book.proofs.Leaves.{happened_first}
use Rattle.step_book.proofs.Plans.{is_receive_at}
use Rattle.step_book.proofs.Reading.{nodes_are}
use Rattle.step_book.specs.Agreed.{IsSaid}
use Rattle.step_book.specs.Agreement.{IsBuffer, Row, row}
use Rattle.step_book.specs.Causes.{IsReceiveFit, IsSendFit}
use Rattle.step_book.specs.Log.{IsDue, IsReceive, Log, count_of, happened, history, round_of}
use Rattle.step_book.specs.Log.{state_before, world_of}
use Rattle.step_book.specs.Buffers.{IsMail, names_in}
use Rattle.step_book.specs.Taking.{HasTaken}
use Rattle.step_book.specs.Trace.{is_step}
use Rattle.step_book.specs.Work.{AreCarried}
use Rattle.step_book.specs.World.{IsPlan, World, is_receive, nodes_of}
use Rattle.run_events.specs.declared.event.Event.{Event}
use Rattle.run_events.specs.declared.event.Event.TheVariants.{Step}
use Rattle.run_events.specs.declared.name.Name.{Name}
use Rattle.step_machine.specs.Sealed.{Frame, Ready}
use Rattle.step_machine.specs.Nodes.{HasPlaces, NodeView, held_of}
use Rattle.adversary.specs.Driving.{GoesOn, IsInRound, IsNodeOf}
use Rattle.adversary.proofs.Settled.{newest, not_its_step}

-- the run went on by one event, and node i closed no round
pub record IsOneOn (old new : Log) (i : ℕ) (e : Event) : Type 0 where
  pub program : new.program ≡ old.program
  pub setup : new.setup ≡ old.setup
  pub history : history new ≡ e ∷ history old
  pub row : row new.rows i ≡ row old.rows i

pub one_on : (old new : Log) (i j : ℕ) (e : Event) → GoesOn old new i (e ∷ [])
    → row new.rows j ≡ row old.rows j → IsOneOn old new j e
one_on old new i j e g same = record {
  program = g.program;
  setup = g.setup;
  history = newest old new i e g;
  row = same;
}

-- as every node did at an event that is only noted
pub noted : (v : Log) (i : ℕ) (e : Event) → IsOneOn v (happened v e) i e
noted v i e = record { program = refl; setup = refl; history = happened_first v e; row = refl }

world_same : (start : ℕ → ℕ) (old new : Log) → new.program ≡ old.program → new.setup ≡ old.setup
    → world_of start new ≡ world_of start old
world_same start old new p s = rw (p, s) refl

-- the last state of a row
abbrev last_of : Row → List Value
last_of x = get_or x (length x - 1) []

module _ (start : ℕ → ℕ) (old new : Log) (i : ℕ) where
  held_moved : (e : Event) (q : ℕ) (held : List (Option Frame)) → IsOneOn old new i e
      → AreCarried (world_of start old) (e ∷ history old) i q held
      → AreCarried (world_of start new) (history new) i q held
  held_moved e q held g h =
      subst (λ (w : World). AreCarried w (history new) i q held)
      (sym (world_same start old new g.program g.setup))
      (subst (λ (t : List Event). AreCarried (world_of start old) t i q held) (sym g.history) h)

  -- an event that is no receive of a round of the node
  pub node_on : (e : Event) (n : NodeView) → IsPlan (world_of start old) → IsOneOn old new i e
      → (round_of old i ≤ old.setup.rounds
      → (is_step i e && is_receive (world_of start old) (count_of old i)) ≡ false)
      → IsNodeOf start old i n → IsNodeOf start new i n
  node_on e n p g quiet h = record {
    program = h.program ∙ sym g.program;
    setup = h.setup ∙ sym g.setup;
    me = h.me;
    round = h.round ∙ ap length (sym g.row);
    state = h.state ∙ ap last_of (sym g.row);
    places = subst (λ (s : Setup). HasPlaces s.nodes n.held) (sym g.setup) h.places;
    held = λ k q m at l.
        let same : q + 1 ≡ round_of old i + k = at ∙ ap (λ x. length x + k) g.row in
        let within : q < old.setup.rounds = omega (
          arith,
          l,
          ap (λ (s : Setup). s.rounds) g.setup,
        ) in
        held_moved e q (held_of n k) g
        (held_on (world_of start old) p e (history old) i q (held_of n k) (omega arith)
        (quiet (omega arith)) (h.held k q m same within));
  }

  -- a send
  pub node_sent : (dest : ℕ) (n : NodeView) → IsPlan (world_of start old)
      → IsOneOn old new i (Step i) → dest < old.setup.nodes → IsInRound start old i
      → count_of old i ≡ start (round_of old i) + dest → IsNodeOf start old i n
      → IsNodeOf start new i n
  node_sent dest n p g l r slot h =
      let nodes = nodes_are start old in
      let begun = r.begun in
      let within = r.within in
      let no_receive = is_receive_at (world_of start old) p (round_of old i)
      (count_of old i) r.first r.last r.begun r.within
      ∙ lt-leb (start (round_of old i) + nodes_of (world_of start old)) (count_of old i)
      (omega arith) in
      node_on (Step i) n p g (λ k. and_right _ _ no_receive) h

  -- a receive, whose frames the node took
  pub node_received : (n m : NodeView) (frames : List Frame) → IsPlan (world_of start old)
      → IsOneOn old new i (Step i) → IsInRound start old i → IsReceiveFit start old i
      → IsBuffer (world_of start old) (history old) i (names_in frames)
      → All (IsMail (algorithm_of old.program old.setup) old.setup.nodes i) frames
      → All (IsSaid start old) frames → HasTaken n m frames → IsNodeOf start old i n
      → IsNodeOf start new i m
  node_received n m frames p g r fit once mail said took h = record {
    program = took.same.program ∙ h.program ∙ sym g.program;
    setup = took.same.setup ∙ h.setup ∙ sym g.setup;
    me = took.same.me ∙ h.me;
    round = took.same.round ∙ h.round ∙ ap length (sym g.row);
    state = took.same.state ∙ h.state ∙ ap last_of (sym g.row);
    places = took.places new.setup.nodes
        (subst (λ (s : Setup). HasPlaces s.nodes n.held) (sym g.setup) h.places);
    held = λ k q b at l.
        let same : q + 1 ≡ round_of old i + k = at ∙ ap (λ x. length x + k) g.row in
        let within : q < old.setup.rounds = omega (
          arith,
          l,
          ap (λ (s : Setup). s.rounds) g.setup,
        ) in
        let next : suc q ≡ round_of old i + k = omega arith in
        let w = world_of start old in
        let told : All (IsTold w (history old) i) frames =
        λ x d z. record {
          to = (mail x d z).to;
          copy = (mail x d z).copy;
          state = (said x d z).state;
        } in
        held_moved (Step i) q (held_of m k) g
        (held_received w p (history old) i q k (round_of old i) n m frames b r.first next
        (omega arith) fit.1 r.begun r.within once told h.round took (h.held k q b same within));
  }

-- another node's step
pub node_other : (start : ℕ → ℕ) (old new : Log) (i j : ℕ) (n : NodeView)
    → IsPlan (world_of start old) → GoesOn old new i (Step i ∷ []) → (j ≡ i → ⊥)
    → IsNodeOf start old j n → IsNodeOf start new j n
node_other start old new i j n p g apart h =
    node_on start old new j (Step i) n p (one_on old new i j (Step i) g (g.others j apart))
    (λ l. and_left _ _ (not_its_step i j apart)) h

-- a step after the sends is a receive
pub is_receive_step : (start : ℕ → ℕ) (v : Log) (i : ℕ) → IsPlan (world_of start v)
    → IsInRound start v i → start (round_of v i) + v.setup.nodes ≤ count_of v i
    → IsReceive start v i
is_receive_step start v i p r sent =
    let nodes = nodes_are start v in
    is_receive_at (world_of start v) p (round_of v i) (count_of v i) r.first r.last r.begun r.within
    ∙ le-leb (start (round_of v i) + nodes_of (world_of start v)) (count_of v i) (omega arith)

-- and no round of the node is due
pub not_due : (start : ℕ → ℕ) (v : Log) (i : ℕ) → IsInRound start v i → ¬ IsDue start v i
not_due start v i r due = omega (arith, r.within, due.1)

-- so the receive isn't refused
pub receive_fit : (start : ℕ → ℕ) (v : Log) (i : ℕ) → IsPlan (world_of start v)
    → IsInRound start v i → start (round_of v i) + v.setup.nodes ≤ count_of v i
    → IsReceiveFit start v i
receive_fit start v i p r sent = (not_due start v i r, is_receive_step start v i p r sent)

-- nor is what a node of the run has ready for its slot
pub send_fit : (start : ℕ → ℕ) (v : Log) (i dest : ℕ) (n : NodeView) (p : Ready)
    → IsInRound start v i → count_of v i ≡ start (round_of v i) + dest → IsNodeOf start v i n
    → p.name ≡ record { from = n.me; to = dest; round = n.round; copy = 0 } → p.state ≡ n.state
    → IsSendFit start v p
send_fit start v i dest n p r slot h name state =
    let from : p.name.from ≡ i = ap (λ (x : Name). x.from) name ∙ h.me in
    let round : p.name.round ≡ round_of v i = ap (λ (x : Name). x.round) name ∙ h.round in
    let to : p.name.to ≡ dest = ap (λ (x : Name). x.to) name in (
      subst (λ k. ¬ IsDue start v k) (sym from) (not_due start v i r),
      ap (count_of v) from ∙ slot ∙ ap (λ k. start k + dest) (sym round)
          ∙ ap (λ k. start p.name.round + k) (sym to),
      ap (λ k. state_before v k p.name.round) from ∙ ap (state_before v i) round ∙ sym h.state
          ∙ sym state,
    )
