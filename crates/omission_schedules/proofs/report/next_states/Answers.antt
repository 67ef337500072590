use Rattle.std.proofs.Common.{◌≡◌, ◌+◌, ◌∙◌, ap, map, sym, subst, arith}
use Rattle.std.specs.Prelude.{All, slice_index}
use Rattle.std.specs.List.{range_with_len}
use Rattle.std.proofs.lemmas.List.Elements.{All-push}
use Rattle.round_meaning.specs.Rounds.{algorithm, algorithm_of, rounds}
use Rattle.round_meaning.proofs.Lists.{map_push}
use Rattle.omission_schedules.specs.Reports.{IsRowUnder}
use Rattle.omission_schedules.specs.Stages.{omits_under}
use Rattle.omission_schedules.proofs.Listing.{listed_none, listed_row}
use Rattle.omission_schedules.proofs.report.next_states.Goals as goal
use Rattle.omission_schedules.proofs.report.next_states.Goals.{then-is_ended+in_ok-push}
use Rattle.omission_schedules.proofs.report.next_states.Goals.{else-is_ended}

pub loop-node-preserved : goal.loop-node-preserved
loop-node-preserved g c =
    let start = g.P.Plan.start c.args.run.now.plan in
    let stops = slice_index c.args.run.now.stops.now in
    let a = algorithm_of c.args.run.now.program.now c.args.run.now.setup.now in
    let omits = omits_under start c.args.run.now.stops.now c.args.run.now.omissions.now in
    let shown = IsRowUnder c.args.run.now.program.now a start stops omits in
    let r = c.args.round in
    let i = c.loop-node.node in
    let before = c.loop-node.invariant in
    let row = c.in_ok-row.ensures in
    let next : c.push-in-loop-node.new.self.items ≡ map (rounds a omits r)
    (range_with_len 0 (i + 1)) =
    map_push (rounds a omits r) c.loop-node.next.items _ i c.in_ok-row.state before.next row.state
    c.in_ok-push-2.ensures.items in
    elim c.if-is_ended.branch [
      | then-is_ended+in_ok-push w ↦
          let grown = ap (λ rows. rows.items) w.rows-is ∙ w.in_ok-push.ensures.items in
          record {
            next = next;
            listed = listed_row start stops r i c.args.rows.now.items c.loop-node.rows.items
                c.if-is_ended.rows.items c.in_ok-row.row grown row.place
                (sym c.is_ended.ensures ∙ w.if-is_ended.true) before.listed;
            rowed = λ old. subst (All shown) (sym grown)
                (All-push shown c.loop-node.rows.items c.in_ok-row.row (before.rowed old) row.row);
          }
      | else-is_ended w ↦
          let same = ap (λ rows. rows.items) w.rows-is in
          record {
            next = next;
            listed = listed_none start stops r i c.args.rows.now.items c.loop-node.rows.items
                c.if-is_ended.rows.items same (sym c.is_ended.ensures ∙ w.if-is_ended.false)
                before.listed;
            rowed = λ old. subst (All shown) (sym same) (before.rowed old);
          }
    ]

pub returns-clause-next : goal.returns-clause-next
unfolding algorithm
returns-clause-next g c =
    let a = algorithm_of c.args.run.now.program.now c.args.run.now.setup.now in
    let omits = omits_under (g.P.Plan.start c.args.run.now.plan) c.args.run.now.stops.now
    c.args.run.now.omissions.now in
    let all : c.loop-node.node ≡ c.args.run.now.setup.now.nodes =
    omega (arith, c.loop-node-test.false, c.loop-node.auto.node-end) in
    c.loop-node.invariant.next ∙ ap (λ n. map (rounds a omits c.args.round) (range_with_len 0 n))
    all
