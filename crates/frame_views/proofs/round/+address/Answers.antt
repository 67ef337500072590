use Rattle.std.proofs.Common.{List, ℕ, ap}
use Rattle.std.specs.Prelude.{slice_set}
use Rattle.frame_views.specs.Writing.{addressed}
use Rattle.frame_views.proofs.Rounds.{addressed_one_more}
use Rattle.frame_views.proofs.round.+address.Goals as goal

pub returns-then-to-nodes : goal.returns-then-to-nodes
returns-then-to-nodes t c =
    let frame = c.args.frame.now in
    let copied = c.copy_from_slice.new.self in
    addressed_one_more c.args.nodes frame c.args.to
    (slice_set copied 3 c.args.to) c.address.new.bytes c.if-to-nodes.true
    (ap (λ (b : List ℕ). addressed b c.args.to) c.copy_from_slice.ensures.after) c.address.ensures
