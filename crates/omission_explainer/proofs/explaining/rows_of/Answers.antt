use Rattle.std.proofs.Common.{◌∙◌, ◌+◌, ◌<◌, ◌≤◌, ap, map, sym, subst, arith}
use Rattle.std.specs.Prelude.{All}
use Rattle.step_book.specs.Log.{round_of}
use Rattle.step_book.proofs.Starts.{plan_is}
use Rattle.omission_explainer.proofs.PrintedRounds.{rows_in_rounds}
use Rattle.omission_explainer.specs.Reported.{IsReported, place}
use Rattle.omission_explainer.specs.StoredDecisions.{IsDecidedAt}
use Rattle.omission_explainer.proofs.Reports.{reported, reported_more, listed_row, listed_none}
use Rattle.omission_explainer.proofs.Reports.{listed_first, listed_round, listed_all}
use Rattle.omission_explainer.proofs.explaining.rows_of.Goals as goal
use Rattle.omission_explainer.proofs.explaining.rows_of.Goals.{then-round-round_of+in_ok-row_of+in_ok-push}
use Rattle.omission_explainer.proofs.explaining.rows_of.Goals.{else-round-round_of}

pub loop-node-preserved : goal.loop-node-preserved
loop-node-preserved g c =
    let v = c.args.book.now.log in
    let start = g.P.Plan.start c.args.book.now.plan in
    let r = c.loop-round.round in
    let i = c.loop-node.node in
    let before = c.loop-node.invariant in
    elim c.if-round-round_of.branch [
      | then-round-round_of+in_ok-row_of+in_ok-push w ↦
          let here : i < v.setup.nodes =
          subst (λ u. i < u.nodes) c.setup-in-loop-round.ensures.value c.loop-node-test.true in
          let closed : r < round_of v i =
          subst (λ k. r < k) c.round_of.ensures.value w.if-round-round_of.true in
          let row = w.in_ok-row_of.field-0 in
          let made = w.in_ok-row_of.ensures in
          let grown = ap (λ rows. rows.items) w.rows-is ∙ w.in_ok-push.ensures.items in
          record {
            reported =
                reported_more start v c.loop-node.rows.items _ row grown before.reported
                (reported start v r i row made.round made.node here
                (omega arith) closed made.printed made.state made.decision);
            listed = listed_row v r i c.loop-node.rows.items _ row grown made.round made.node closed
                before.listed;
          }
      | else-round-round_of w ↦
          let open_yet : round_of v i ≤ r =
          subst (λ k. k ≤ r) c.round_of.ensures.value w.if-round-round_of.false in
          record {
            reported = subst (λ rows. All (IsReported start v) rows.items)
                (sym w.rows-is) before.reported;
            listed = ap (λ rows. map place rows.items) w.rows-is
                ∙ listed_none v r i c.loop-node.rows.items open_yet before.listed;
          }
    ]

pub loop-node-init : goal.loop-node-init
loop-node-init g c = record {
  reported = c.loop-round.invariant.reported;
  listed = listed_first c.args.book.now.log c.loop-round.round c.loop-round.rows.items
      c.loop-round.invariant.listed;
}

pub loop-round-preserved : goal.loop-round-preserved
loop-round-preserved g c = record {
  reported = c.loop-node.invariant.reported;
  listed =
      let all = ap (λ u. u.nodes) c.setup-in-loop-round.ensures.value in
      listed_round c.args.book.now.log c.loop-round.round c.loop-node.node c.loop-node.rows.items
      (omega arith) (omega (arith, all)) c.loop-node.invariant.listed;
}

pub returns-clause-listed : goal.returns-clause-listed
returns-clause-listed g c =
    let rounds = ap (λ u. u.rounds) c.setup.ensures.value in
    let few = c.agrees.ensures.lawful.sized.few_rounds in
    listed_all c.args.book.now.log c.loop-round.round
    (c.setup.result.now.rounds + 1) c.loop-round.rows.items (omega arith)
    (omega arith) c.loop-round.invariant.listed

pub returns-clause-in_rounds : goal.returns-clause-in_rounds
returns-clause-in_rounds g c =
    let v = c.args.book.now.log in
    let p = c.args.book.now.plan in
    let start = g.P.Plan.start p in
    let plan = plan_is start (g.P.Plan.receives p) (g.P.Plan.nodes p) v
    (g.met.P.Plan.laws p) c.agrees.ensures.sized in
    let rounds = ap (λ u. u.rounds) c.setup.ensures.value in
    let few = c.agrees.ensures.lawful.sized.few_nodes in
    let listed = listed_all v c.loop-round.round (c.setup.result.now.rounds + 1)
    c.loop-round.rows.items (omega arith) (omega arith) c.loop-round.invariant.listed in
    rows_in_rounds start v c.loop-round.rows.items plan c.agrees.ensures.faithful
    (omega arith) c.loop-round.invariant.reported listed

pub row_of-requires-clause-decided : goal.row_of-requires-clause-decided
row_of-requires-clause-decided g c =
    subst (λ p. IsDecidedAt p c.decided_place-decided.result) (c.program-2.ensures
    ∙ c.program.ensures) c.decided_place-decided.ensures
