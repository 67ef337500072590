use Rattle.std.proofs.Common.{◌≡◌, ◌<◌, ap, arith, sym, ◌∙◌}
use Rattle.locked_buffers.specs.Runs.{Run}
use Rattle.locked_buffers.specs.Seats.{round_by}
use Rattle.node_threads.proofs.Placed.{placed_first}
use Rattle.node_threads.proofs.Together.{together_first}
use Rattle.node_threads.proofs.job.Job.new.Goals as goal

pub invariant_of-result : goal.invariant_of-result
invariant_of-result g c =
    let p = c.args.plan in
    let a = c.args.seat in
    let s = c.args.setup.now in
    let run = c.requires.run in
    let none : a.steps ≡ 0 = omega (arith, c.steps.ensures, c.if-steps-ne0.false) in
    let one : round_by a ≡ 1 = omega (arith, c.round.ensures.value, c.if-round-ne1.false) in
    let within : c.node-2.result < s.nodes =
    omega (arith, c.node.ensures, c.node-2.ensures, c.if-node-setup.false) in
    record {
      planned = record {
        plan = ap (λ (r : Run _). r.plan) run;
        rounds = ap (λ (r : Run _). r.setup.rounds) run;
        sized = c.requires.nodes ∙ sym (ap (λ (r : Run _). r.setup.nodes) run);
        few = c.requires.lawful.sized.few_rounds;
      };
      paired = together_first _ p c.args.program.now s c.node-2.result a c.in_ok-node.node run
          c.in_ok-node.ensures c.node-2.ensures within one;
      place = placed_first (g.P.Plan.start p) (g.P.Plan.receives p) (g.P.Plan.nodes p)
          (g.met.P.Plan.laws p) s.rounds a none one;
      first = none;
    }
