use Rattle.std.proofs.Common.{◌≡◌, ◌<◌, ap, arith, sym, ◌∙◌}
use Rattle.locked_buffers.specs.Runs.{Run}
use Rattle.locked_buffers.specs.Seats.{round_by}
use Rattle.node_threads.proofs.Placed.{placed_first}
use Rattle.node_threads.proofs.Together.{together_first}
use Rattle.post_tests.proofs.alone.run_alone.Goals as goal

pub run_steps-requires-clause-planned : goal.run_steps-requires-clause-planned
run_steps-requires-clause-planned g c =
    let run = c.requires.run in
    record {
      plan = ap (λ (r : Run _). r.plan) run;
      rounds = ap (λ (r : Run _). r.setup.rounds) run;
      sized = c.requires.nodes ∙ sym (ap (λ (r : Run _). r.setup.nodes) run);
      few = c.requires.lawful.sized.few_rounds;
    }

pub run_steps-requires-clause-together : goal.run_steps-requires-clause-together
run_steps-requires-clause-together g c =
    let p = c.args.plan in
    let a = c.args.seat in
    let s = c.args.setup.now in
    let run = c.requires.run in
    let one : round_by a ≡ 1 = omega (arith, c.round.ensures.value, c.if-round-ne1.false) in
    let within : c.node-2.result < s.nodes =
    omega (arith, c.node.ensures, c.node-2.ensures, c.if-node-setup.false) in
    together_first _ p c.args.program.now s c.node-2.result a c.in_ok-node.node run
    c.in_ok-node.ensures c.node-2.ensures within one

pub run_steps-requires-clause-place : goal.run_steps-requires-clause-place
run_steps-requires-clause-place g c =
    let p = c.args.plan in
    let a = c.args.seat in
    let none : a.steps ≡ 0 = omega (arith, c.steps.ensures, c.if-steps-ne0.false) in
    let one : round_by a ≡ 1 = omega (arith, c.round.ensures.value, c.if-round-ne1.false) in
    placed_first (g.P.Plan.start p) (g.P.Plan.receives p) (g.P.Plan.nodes p)
    (g.met.P.Plan.laws p) c.args.setup.now.rounds a none one
