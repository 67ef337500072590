use Rattle.std.proofs.Common.{◌≡◌, ◌-◌, ◌∙◌, ap, sym, subst, arith, length}
use Rattle.std.proofs.lemmas.Result.{IfOk-weaker}
use Rattle.round_meaning.specs.Rounds.{algorithm, algorithm_of, inbox, rounds}
use Rattle.round_meaning.specs.Turn.{IsInbox}
use Rattle.round_meaning.proofs.Inboxes.{inbox_is}
use Rattle.round_meaning.proofs.RoundLaws.{length-states_after}
use Rattle.omission_schedules.specs.Stages.{omits_under}
use Rattle.omission_schedules.proofs.Turns.{ended_round, state_before}
use Rattle.omission_schedules.proofs.rounds.end_state.Goals as goal

pub state_of-state-requires : goal.state_of-state-requires
unfolding algorithm
state_of-state-requires g c =
    let a = algorithm_of c.args.run.now.program.now c.args.run.now.setup.now in
    let omits = omits_under (g.P.Plan.start c.args.run.now.plan) c.args.run.now.stops.now
    c.args.run.now.omissions.now in
    let many : length c.args.before.now ≡ c.args.run.now.setup.now.nodes =
    ap length c.requires.before ∙ length-states_after a omits (c.args.round - 1) in
    omega (arith, c.requires.node)

pub end_of-requires : goal.end_of-requires
end_of-requires g c =
    let same = c.deref-2.ensures.value ∙ c.in_ok-inbox.ensures ∙ c.deref.ensures.value
    ∙ c.requires.inbox in
    subst IsInbox (sym same) (inbox_is _ _ _ _ _)

pub returns : goal.returns
unfolding algorithm
returns g c =
    let a = algorithm_of c.args.run.now.program.now c.args.run.now.setup.now in
    let omits = omits_under (g.P.Plan.start c.args.run.now.plan) c.args.run.now.stops.now
    c.args.run.now.omissions.now in
    let q = c.args.round - 1 in
    let state : c.state_of-state.result.now ≡ rounds a omits q c.args.node =
    c.state_of-state.ensures ∙ state_before a omits q c.args.node c.args.before.now
    c.requires.before c.requires.node in
    let messages : c.deref-2.result.now ≡ inbox a (omits c.args.node c.args.round)
    (rounds a omits q) c.args.round c.args.node =
    c.deref-2.ensures.value ∙ c.in_ok-inbox.ensures ∙ c.deref.ensures.value ∙ c.requires.inbox in
    IfOk-weaker c.end_of.result _ _
    (λ vs h. h ∙ ap (λ ms. a.end c.args.round c.args.node ms c.state_of-state.result.now) messages
    ∙ ap (a.end c.args.round c.args.node
    (inbox a (omits c.args.node c.args.round) (rounds a omits q) c.args.round c.args.node)) state
    ∙ ended_round a omits c.args.round c.args.node c.requires.first) c.end_of.ensures
