use Rattle.std.proofs.Common.{◌≡◌, ◌-◌, ◌<◌, ◌∙◌, ap, sym, arith, length}
use Rattle.std.specs.Prelude.{slice_index}
use Rattle.round_meaning.specs.Rounds.{algorithm, algorithm_of, rounds}
use Rattle.round_meaning.specs.declared.nodes.NodeSet.{NodeSet}
use Rattle.round_meaning.proofs.RoundLaws.{length-states_after}
use Rattle.omission_schedules.specs.Schedules.{has_slot}
use Rattle.omission_schedules.specs.Stages.{omits_under, outcome_of}
use Rattle.omission_schedules.proofs.Turns.{all_gathered, gathered_heard, gathered_none}
use Rattle.omission_schedules.proofs.Turns.{gathered_omitted, gathered_silent, Sorted, state_before}
use Rattle.omission_schedules.proofs.Turns.{all_sorted, hears, quiet}
use Rattle.omission_schedules.proofs.rounds.turn_of.Goals as goal
use Rattle.omission_schedules.proofs.rounds.turn_of.Goals.{in-Heard+in_ok-push-in-Heard, in-Silent}
use Rattle.omission_schedules.proofs.rounds.turn_of.Goals.{in-Omitted}

pub loop-from-init : goal.loop-from-init
loop-from-init g c = gathered_none _ _ _ _ _ _ _ _ _ _ c.new-inbox.ensures.items
    c.empty-heard.ensures c.empty-silent.ensures c.empty-omitted.ensures

pub state_of-requires : goal.state_of-requires
unfolding algorithm
state_of-requires g c =
    let a = algorithm_of c.args.run.now.program.now c.args.run.now.setup.now in
    let omits = omits_under (g.P.Plan.start c.args.run.now.plan) c.args.run.now.stops.now
    c.args.run.now.omissions.now in
    let many : length c.args.before.now ≡ c.args.run.now.setup.now.nodes =
    ap length c.requires.before ∙ length-states_after a omits (c.args.round - 1) in
    omega (arith, c.loop-from-test.true)

pub loop-from-preserved : goal.loop-from-preserved
unfolding algorithm
loop-from-preserved g c =
    let start = g.P.Plan.start c.args.run.now.plan in
    let a = algorithm_of c.args.run.now.program.now c.args.run.now.setup.now in
    let omits = omits_under start c.args.run.now.stops.now c.args.run.now.omissions.now in
    let r = c.args.round in
    let i = c.args.node in
    let k = c.loop-from.from in
    let states = rounds a omits (r - 1) in
    let stood = has_slot start (slice_index c.args.run.now.stops.now) r i in
    let bits = λ (s : NodeSet). s.bits in
    let few : k < 64 = omega (arith, c.loop-from-test.true, c.requires.nodes) in
    let state : c.state_of.result.now ≡ states k =
    c.state_of.ensures ∙ state_before a omits (r - 1) k c.args.before.now c.requires.before
    c.loop-from-test.true in
    let came : c.in_ok-outcome.outcome ≡ outcome_of (omits i r k) (stood k)
    (a.send r (states k) k i) = c.in_ok-outcome.ensures
    ∙ ap (λ st. outcome_of (omits i r k) (stood k) (a.send r st k i)) state in
    elim c.match-outcome.branch [
      | in-Heard+in_ok-push-in-Heard w ↦
          gathered_heard a (omits i r) states stood r i k _ _ _ _ _ _ _ _ c.loop-from.invariant few
          _ (sym w.in-Heard.is ∙ came)
          (ap (λ v. v.items) w.inbox-is ∙ w.in_ok-push-in-Heard.ensures.items)
          (ap bits w.heard-is ∙ w.with-heard.ensures) (ap bits w.silent-is) (ap bits w.omitted-is)
      | in-Silent w ↦
          gathered_silent a (omits i r) states stood r i k _ _ _ _ _ _ _ _ c.loop-from.invariant few
          (sym w.in-Silent.is ∙ came)
          (ap (λ v. v.items) w.inbox-is) (ap bits w.heard-is)
          (ap bits w.silent-is ∙ w.with-silent.ensures) (ap bits w.omitted-is)
      | in-Omitted w ↦
          gathered_omitted a (omits i r) states stood r i k _ _ _ _ _ _ _ _ c.loop-from.invariant
          few (sym w.in-Omitted.is ∙ came)
          (ap (λ v. v.items) w.inbox-is) (ap bits w.heard-is) (ap bits w.silent-is)
          (ap bits w.omitted-is ∙ w.with-omitted.ensures)
    ]

pub returns-clause-inbox : goal.returns-clause-inbox
unfolding algorithm
returns-clause-inbox g c =
    let start = g.P.Plan.start c.args.run.now.plan in
    let a = algorithm_of c.args.run.now.program.now c.args.run.now.setup.now in
    let omits = omits_under start c.args.run.now.stops.now c.args.run.now.omissions.now in
    let r = c.args.round in
    let i = c.args.node in
    let n = c.args.run.now.setup.now.nodes in
    let states = rounds a omits (r - 1) in
    let stood = has_slot start (slice_index c.args.run.now.stops.now) r i in
    let all : c.loop-from.from ≡ n =
    omega (arith, c.loop-from-test.false, c.loop-from.auto.from-end) in
    all_gathered a (omits i r) states stood r i c.loop-from.from c.loop-from.inbox.items _ _ _ all
    c.loop-from.invariant

pub returns-clause-heard : goal.returns-clause-heard
unfolding algorithm
returns-clause-heard g c =
    let start = g.P.Plan.start c.args.run.now.plan in
    let a = algorithm_of c.args.run.now.program.now c.args.run.now.setup.now in
    let omits = omits_under start c.args.run.now.stops.now c.args.run.now.omissions.now in
    let r = c.args.round in
    let i = c.args.node in
    let n = c.args.run.now.setup.now.nodes in
    let states = rounds a omits (r - 1) in
    let stood = has_slot start (slice_index c.args.run.now.stops.now) r i in
    let all : c.loop-from.from ≡ n =
    omega (arith, c.loop-from-test.false, c.loop-from.auto.from-end) in
    let sorted : Sorted (hears a (omits i r) states r i) (quiet a states stood r i) n
    c.loop-from.heard.bits c.loop-from.silent.bits c.loop-from.omitted.bits =
    all_sorted a (omits i r) states stood r i n c.loop-from.from c.loop-from.inbox.items _ _ _ all
    (omega (arith, c.requires.nodes)) c.loop-from.invariant in
    sorted.heard

pub returns-clause-silent : goal.returns-clause-silent
unfolding algorithm
returns-clause-silent g c =
    let start = g.P.Plan.start c.args.run.now.plan in
    let a = algorithm_of c.args.run.now.program.now c.args.run.now.setup.now in
    let omits = omits_under start c.args.run.now.stops.now c.args.run.now.omissions.now in
    let r = c.args.round in
    let i = c.args.node in
    let n = c.args.run.now.setup.now.nodes in
    let states = rounds a omits (r - 1) in
    let stood = has_slot start (slice_index c.args.run.now.stops.now) r i in
    let all : c.loop-from.from ≡ n =
    omega (arith, c.loop-from-test.false, c.loop-from.auto.from-end) in
    let sorted : Sorted (hears a (omits i r) states r i) (quiet a states stood r i) n
    c.loop-from.heard.bits c.loop-from.silent.bits c.loop-from.omitted.bits =
    all_sorted a (omits i r) states stood r i n c.loop-from.from c.loop-from.inbox.items _ _ _ all
    (omega (arith, c.requires.nodes)) c.loop-from.invariant in
    sorted.silent

pub returns-clause-omitted : goal.returns-clause-omitted
unfolding algorithm
returns-clause-omitted g c =
    let start = g.P.Plan.start c.args.run.now.plan in
    let a = algorithm_of c.args.run.now.program.now c.args.run.now.setup.now in
    let omits = omits_under start c.args.run.now.stops.now c.args.run.now.omissions.now in
    let r = c.args.round in
    let i = c.args.node in
    let n = c.args.run.now.setup.now.nodes in
    let states = rounds a omits (r - 1) in
    let stood = has_slot start (slice_index c.args.run.now.stops.now) r i in
    let all : c.loop-from.from ≡ n =
    omega (arith, c.loop-from-test.false, c.loop-from.auto.from-end) in
    let sorted : Sorted (hears a (omits i r) states r i) (quiet a states stood r i) n
    c.loop-from.heard.bits c.loop-from.silent.bits c.loop-from.omitted.bits =
    all_sorted a (omits i r) states stood r i n c.loop-from.from c.loop-from.inbox.items _ _ _ all
    (omega (arith, c.requires.nodes)) c.loop-from.invariant in
    sorted.omitted
