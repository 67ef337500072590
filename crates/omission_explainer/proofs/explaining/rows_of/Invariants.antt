use Rattle.std.proofs.Common.{◌≡◌, ◌-◌, map}
use Rattle.std.specs.Prelude.{All}
use Rattle.std.specs.List.{flat_map, range_with_len}
use Rattle.omission_explainer.specs.Reported.{IsReported, closed_below, place}
use Rattle.omission_explainer.proofs.Reports.{listed_to}
use Rattle.omission_explainer.proofs.explaining.rows_of.Given as goal

abbrev pub invariant-loop-round : goal.invariant-loop-round
invariant-loop-round g l = record {
  reported : All (IsReported (g.P.Plan.start l.book.plan) l.book.log) l.rows.items;
  listed : map place l.rows.items ≡ flat_map (closed_below l.book.log l.book.log.setup.nodes)
      (range_with_len 1 (l.round - 1));
}

abbrev pub invariant-loop-node : goal.invariant-loop-node
invariant-loop-node g l = record {
  reported : All (IsReported (g.P.Plan.start l.book.plan) l.book.log) l.rows.items;
  listed : map place l.rows.items ≡ listed_to l.book.log l.round l.node;
}
