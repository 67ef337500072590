use Rattle.std.proofs.Common.{◌≡◌, ◌+◌, ap, length, subst, ◌∙◌, arith}
use Rattle.round_meaning.specs.declared.setup.Setup.{Setup}
use Rattle.round_meaning.specs.Nodes.{has_node}
use Rattle.round_meaning.specs.Omissions.{is_omitted}
use Rattle.round_meaning.specs.Rounds.{algorithm}
use Rattle.round_meaning.proofs.RoundLaws.{length-states_after}
use Rattle.round_explorer.specs.Searched.{IsPart, search_of}
use Rattle.run_samples.specs.Samples.{EndsWithout}
use Rattle.run_samples.proofs.RunLaws.{part_follows, part_next}
use Rattle.run_samples.proofs.running.next_path.Goals as goal

pub end_node-requires-clause-nodes : goal.end_node-requires-clause-nodes
unfolding algorithm
end_node-requires-clause-nodes g c =
    let w = search_of c.args.program.now c.args.case.now in
    ap length (c.deref.ensures.value ∙ c.begin_round-before.ensures.before ∙ c.requires.path.states)
    ∙ length-states_after w.algorithm (is_omitted c.args.path.lost) c.args.done

pub loop-me-preserved : goal.loop-me-preserved
unfolding algorithm
loop-me-preserved g c =
    let w = search_of c.args.program.now c.args.case.now in
    let run = c.args.path in
    let n = c.loop-me.me in
    let missed = has_node c.in-Some.missed.bits in
    let before = c.deref.ensures.value ∙ c.begin_round-before.ensures.before in
    record {
      machine = c.end_node.ensures.machine ∙ c.loop-me.invariant.machine;
      part = part_next w run c.args.done n missed c.loop-me.part c.end_node.new.part
          c.requires.path c.in-Some.ensures.allowed
          (subst (λ x. EndsWithout w x (c.args.done + 1) n missed c.loop-me.part
          c.end_node.new.part) before c.in_ok-end_node.ensures.part) c.loop-me.invariant.part;
      kinds = c.in_ok-end_node.ensures.kinds;
    }

pub returns-clause-path : goal.returns-clause-path
unfolding algorithm
returns-clause-path g c =
    let w = search_of c.args.program.now c.args.case.now in
    let all : c.loop-me.me ≡ w.algorithm.nodes =
    omega (arith, ap (λ (x : Setup). x.nodes) c.setup.ensures) in
    part_follows w c.args.path c.args.done c.loop-me.part c.requires.path
    (subst (λ n. IsPart w c.args.path (c.args.done + 1) n c.loop-me.part) all
    c.loop-me.invariant.part)
