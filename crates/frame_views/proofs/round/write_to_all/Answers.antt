use Rattle.std.proofs.Common.{◌≡◌, arith, length, subst}
use Rattle.frame_views.specs.Writing.{AreAddressed, frame_size}
use Rattle.frame_views.proofs.Rounds.{addressed_to_all, to_one_more}
use Rattle.frame_views.proofs.round.write_to_all.Goals as goal

pub returns : goal.returns
returns c =
    let layout = c.args.layout.now in
    let frame = c.write_frame.new.bytes in
    let others = c.address.new.bytes in
    let long : length frame ≡ frame_size layout c.args.round =
    omega (
      arith,
      c.write_frame.auto.bytes,
      c.split_field-first.ensures.first,
      c.len.ensures.value,
    ) in
    let all = subst (λ n. AreAddressed n frame 1 others) c.nodes.ensures.value c.address.ensures in
    to_one_more layout c.args.from c.args.round c.args.message.now 0 frame others
    (let from = c.requires.from in omega arith) long c.write_frame.ensures
    (addressed_to_all layout c.args.from 0 1 c.args.round c.args.message.now frame others long
    c.write_frame.ensures all)
