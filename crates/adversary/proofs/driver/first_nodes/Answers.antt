use Rattle.std.proofs.Common.{◌≡◌, ◌∙◌, arith}
use Rattle.adversary.proofs.Starting.{first_node, one_more}
use Rattle.adversary.proofs.driver.first_nodes.Goals as goal

pub loop-me-preserved : goal.loop-me-preserved
loop-me-preserved c = λ start.
    one_more start _ _ _ _ _ (c.loop-me.invariant start)
    (first_node start c.args.program.now c.args.setup.now c.loop-me.me _ c.loop-me-test.true
    c.in_ok-new.ensures) c.in_ok-push.ensures.items

pub returns : goal.returns
returns c = λ start.
    let h = c.loop-me.invariant start in
    let all : c.loop-me.me ≡ c.args.setup.now.nodes = omega arith in
    record {
      sized = h.sized ∙ all;
      each = λ i d l. h.each i d (omega arith);
    }
