use Rattle.std.proofs.Common.{◌-◌, All, rules, subst, sym}
use Rattle.std.proofs.lemmas.List.Elements.{All-push}
use Rattle.round_explorer.specs.Questions.{IsOfKind}
use Rattle.run_samples.proofs.RowLaws.{enough_more, faulty_more}
use Rattle.run_samples.proofs.drawing.drawn_pattern.Goals as goal

pub loop-node-preserved : goal.loop-node-preserved
loop-node-preserved c =
    let s = c.args.setup.now in
    let old = c.loop-node.pattern.items in
    let next = c.next_failure-failure in
    let failure = next.result in
    let kind = IsOfKind c.args.question.faults s.rounds in
    let is = c.in_ok-push.ensures.items in
    record {
      each_node = search rules;
      kinds = subst (All kind) (sym is)
          (All-push kind old failure c.loop-node.invariant.kinds next.ensures.kind);
      few = faulty_more old c.push.new.self.items failure c.loop-node.left next.new.left s.faults
          is next.ensures.few c.loop-node.invariant.few;
      enough = enough_more old c.push.new.self.items failure s.rounds c.loop-node.node
          c.loop-node.spare next.new.spare (s.nodes - c.args.question.hears) is
          c.loop-node.invariant.each_node next.ensures.spare c.loop-node.invariant.enough;
    }
